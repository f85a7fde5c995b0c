-- The walk of DEMAND 3, over any law and any size of the memory. "Walk the list, keeping a delivery when its number is one more
-- than the count kept so far and the law accepts its content in the state reached." No loop is looked into here.
use Rattle.std.specs.Prelude.{ℕ, ◌+◌, Bool, cond, ◌&&◌, ◌||◌, List, [], ◌∷◌, eqb, ltb, leb, take}

-- ---- any law, deliveries, answers

-- same: "same command with same values". refusal: the code with which the law refuses a command in a state, 0 where it
-- accepts. step: what an accepted command makes of the state. output: what an answer carries of the state
pub record Law : Type 1 where
  pub State : Type 0
  pub Command : Type 0
  pub Output : Type 0
  pub same : Command → Command → Bool
  pub refusal : State → Command → ℕ
  pub step : State → Command → State
  pub output : State → Output

pub record Delivery (C : Type 0) : Type 0 where
  pub number : ℕ
  pub command : C

-- "An answer is a code, the output in force and the last number in force"
pub record Answer (O : Type 0) : Type 0 where
  pub code : ℕ
  pub output : O
  pub number : ℕ

-- ---- the walk

-- a kept delivery, with the answer that it got
pub record Kept (L : Law) : Type 0 where
  pub sent : Delivery L.Command
  pub answer : Answer L.Output

-- where a walk stands: "the state reached", "the count kept so far", and the last kept ones, newest first
pub record Walk (L : Law) : Type 0 where
  pub state : L.State
  pub count : ℕ
  pub recent : List (Kept L)

-- n is how many are remembered: 01 remembers the latest alone, 02's request 6 the last 32
module _ (L : Law) (n : ℕ) where
  abbrev pub start : L.State → Walk L
  start s = record { state = s; count = 0; recent = [] }

  -- "keeping a delivery when its number is one more than the count kept so far and the law accepts its content in the state reached"
  abbrev pub keeps : Walk L → Delivery L.Command → Bool
  keeps w d = eqb d.number (w.count + 1) && eqb (L.refusal w.state d.command) 0

  -- "A kept delivery gets the law's output"
  abbrev pub kept_answer : Walk L → Delivery L.Command → Answer L.Output
  kept_answer w d = record { code = 0; output = L.output (L.step w.state d.command); number = w.count + 1 }

  -- "an exact repeat of the latest kept one gets that same answer", amended: "A repeat of any of them, same number and values, gets
  -- its first answer again". Every other delivery gets `other`
  abbrev pub repeat_answer : List (Kept L) → Delivery L.Command → Answer L.Output → Answer L.Output
  repeat_answer [] d other = other
  repeat_answer (k ∷ ks) d other =
      cond (eqb d.number k.sent.number && L.same k.sent.command d.command) k.answer (repeat_answer ks d other)

  -- "its named refusal", the count being the last number:
  --   1: number 0, or "older" than the last n
  --   2: "A number in that window with other values"
  --   3: "number above last + 1"
  --   else the law's own
  abbrev pub named_refusal : Walk L → Delivery L.Command → ℕ
  named_refusal w d =
      cond (eqb d.number 0 || leb (d.number + n) w.count) 1
      (cond (leb d.number w.count) 2
      (cond (ltb (w.count + 1) d.number) 3
      (L.refusal w.state d.command)))

  abbrev pub refused_answer : Walk L → Delivery L.Command → Answer L.Output
  refused_answer w d = record { code = named_refusal w d; output = L.output w.state; number = w.count }

  -- what demand 3 gives a delivery
  abbrev pub answer_to : Walk L → Delivery L.Command → Answer L.Output
  answer_to w d = cond (keeps w d) (kept_answer w d) (repeat_answer w.recent d (refused_answer w d))

  -- the walk past a kept delivery, and past any delivery
  abbrev pub keeping : Walk L → Delivery L.Command → Walk L
  keeping w d = record {
    state = L.step w.state d.command;
    count = w.count + 1;
    recent = take n (record { sent = d; answer = kept_answer w d } ∷ w.recent);
  }

  abbrev pub onward : Walk L → Delivery L.Command → Walk L
  onward w d = cond (keeps w d) (keeping w d) w

  -- "the kept commands"
  unfoldable pub kept : Walk L → List (Delivery L.Command) → List L.Command
  kept w [] = []
  kept w (d ∷ ds) =
      let rest = kept (onward w d) ds in
      cond (keeps w d) (d.command ∷ rest) rest
