use Prim.Native.Nat.{ℕ, ◌+◌, ◌*◌}
use Rattle.std.proofs.Common.{rules}
use Rattle.settings.specs.Table.{heads, keys, sets}
use Rattle.settings.specs.Settings.{gains_from}
use Rattle.values.proofs.Made.{made}
use Rattle.values.proofs.sets_of.Goals as goal

pub returns : goal.returns
returns c = made _ (λ (k : ℕ). gains_from (heads + keys * k) c.args.values.now) _ (λ i y q e. search rules) sets _ c.from_fn.ensures.items
