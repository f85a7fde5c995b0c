-- Commands given one after the other to the plain law, and what 01 and the demands say of such a run.
use Rattle.std.specs.Prelude.{ℕ, suc, ◌+◌, ◌-◌, ◌/◌, Bool, true, false, not, ◌&&◌, List, [], ◌∷◌, eqb, ℤ, pos, ◌+ℤ◌, ◌-ℤ◌}
use Rattle.whole.specs.Numbers.{plus, size, eq_z}
use Rattle.command.specs.declared.Command.{Command}
use Rattle.command.specs.declared.Command.TheVariants.{Sample, Hold, Put, Automatic, Target, Set}
use Rattle.record.specs.declared.Loop.{Loop}
use Rattle.record.specs.Refusals.{refusal_of}
use Rattle.pid.specs.Numbers.{Sensed}
use Rattle.pid.specs.Sample.{sensed_of, share_of, v_of, limited_v}
use Rattle.pid.specs.Law.{fixed_of, moving_of, read_at, step_of}
use Rattle.command.specs.Sequence.{after}

-- the law's state after some commands, each given once
abbrev pub obeyed : Loop → List Command → Loop
obeyed l cs = after step_of l cs

-- the law accepts each of them in the state that it meets
unfoldable pub accepted : Loop → List Command → Bool
accepted l [] = true
accepted l (c ∷ cs) = eqb (refusal_of l c) 0 && accepted (step_of l c) cs

-- ---- "Hold, leaving manual and a change of gain set move the output by nothing, nor does the first sample after each."

-- a hold, an automatic that leaves manual, a set that is not the one in force
unfoldable pub switches : Loop → Command → Bool
switches l (Sample pv) = false
switches l Hold = true
switches l (Put x) = false
switches l Automatic = not l.automatic
switches l (Target t r) = false
switches l (Set k) = not (eqb l.set (plus k))

-- neither put nor sample: what may stand before the first sample
unfoldable pub between : List Command → Bool
between [] = true
between (Sample pv ∷ cs) = false
between (Hold ∷ cs) = between cs
between (Put x ∷ cs) = false
between (Automatic ∷ cs) = between cs
between (Target t r ∷ cs) = between cs
between (Set k ∷ cs) = between cs

-- ---- "Over an unbroken run of kept ordinary automatic samples within limits, the integral moves by exactly the sum of gain
-- times error, one share for each sample."

-- what the law's steps 1 to 3 find at a sample, whose mean they read
abbrev pub sensed_at : Loop → ℤ → Sensed
sensed_at l pv = sensed_of (fixed_of l) (moving_of l) (read_at l pv)

-- gain times error: ki × e
abbrev pub share_at : Loop → ℤ → ℤ
share_at l pv = share_of (fixed_of l) (sensed_at l pv)

-- "An ordinary sample is within limits when v = U."
abbrev pub within_limits : Loop → ℤ → Bool
within_limits l pv = eq_z (v_of (fixed_of l) (moving_of l) (sensed_at l pv)) (limited_v (fixed_of l) (moving_of l) (sensed_at l pv))

-- an ordinary sample (automatic, not pending), within limits
abbrev pub ordinary_within : Loop → ℤ → Bool
ordinary_within l pv = l.automatic && not l.pending && within_limits l pv

-- only another kind of sample breaks a run: no other command moves the integral
unfoldable pub unbroken : Loop → List Command → Bool
unbroken l [] = true
unbroken l (Sample pv ∷ cs) = ordinary_within l pv && unbroken (step_of l (Sample pv)) cs
unbroken l (Hold ∷ cs) = unbroken (step_of l Hold) cs
unbroken l (Put x ∷ cs) = unbroken (step_of l (Put x)) cs
unbroken l (Automatic ∷ cs) = unbroken (step_of l Automatic) cs
unbroken l (Target t r ∷ cs) = unbroken (step_of l (Target t r)) cs
unbroken l (Set k ∷ cs) = unbroken (step_of l (Set k)) cs

-- one share for each sample
unfoldable pub shares : Loop → List Command → ℤ
shares l [] = pos 0
shares l (Sample pv ∷ cs) = share_at l pv +ℤ shares (step_of l (Sample pv)) cs
shares l (Hold ∷ cs) = shares (step_of l Hold) cs
shares l (Put x ∷ cs) = shares (step_of l (Put x)) cs
shares l (Automatic ∷ cs) = shares (step_of l Automatic) cs
shares l (Target t r ∷ cs) = shares (step_of l (Target t r)) cs
shares l (Set k ∷ cs) = shares (step_of l (Set k)) cs

-- ---- "Where no new target comes between, w is at the target after exactly ceiling(distance / rate) samples and not before."

unfoldable pub no_target : List Command → Bool
no_target [] = true
no_target (Sample pv ∷ cs) = no_target cs
no_target (Hold ∷ cs) = no_target cs
no_target (Put x ∷ cs) = no_target cs
no_target (Automatic ∷ cs) = no_target cs
no_target (Target t r ∷ cs) = false
no_target (Set k ∷ cs) = no_target cs

-- how many samples there are, of every kind
unfoldable pub samples : List Command → ℕ
samples [] = 0
samples (Sample pv ∷ cs) = suc (samples cs)
samples (Hold ∷ cs) = samples cs
samples (Put x ∷ cs) = samples cs
samples (Automatic ∷ cs) = samples cs
samples (Target t r ∷ cs) = samples cs
samples (Set k ∷ cs) = samples cs

abbrev pub distance : Loop → ℕ
distance l = size (l.target -ℤ l.w)

-- d / r, rounded upward
abbrev pub ceiling : ℕ → ℕ → ℕ
ceiling d r = (d + (r - 1)) / r

abbrev pub samples_to_target : Loop → ℕ
samples_to_target l = ceiling (distance l) (plus l.rate)
