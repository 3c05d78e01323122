-- Calls that a layer passes down to a device below it, whose faults it passes up one higher.
use Rattle.std.specs.Prelude.{◌≡◌, ℕ, Bool, List, Result}
use Rattle.device.specs.declared.fault.Fault.{Fault}
use Rattle.device.specs.Faults.{passed_up}

-- a read of the device `below`, after which the layer is in the state t: what `with_below` gives for the device as the read left it
pub record PassedRead {X D : Type 0} (reads : D → ℕ → ℕ → Result (List ℕ) Fault → D → Type 0) (below : D) (way n : ℕ) (answer : Result (List ℕ) Fault)
    (with_below : D → X) (t : X) : Type 0 where
  pub answer_below : Result (List ℕ) Fault
  pub below' : D
  pub step : reads below way n answer_below below'
  pub answered : answer ≡ passed_up answer_below
  pub after : t ≡ with_below below'

-- a write, likewise
pub record PassedWrite {X D : Type 0} (writes : D → ℕ → List ℕ → Result Unit Fault → D → Type 0) (below : D) (n : ℕ) (block : List ℕ) (answer : Result Unit Fault)
    (with_below : D → X) (t : X) : Type 0 where
  pub answer_below : Result Unit Fault
  pub below' : D
  pub step : writes below n block answer_below below'
  pub answered : answer ≡ passed_up answer_below
  pub after : t ≡ with_below below'

-- a settle, with its answer
pub record PassedSettle {X D : Type 0} (settles : D → Bool → D → Type 0) (below : D) (answer : Bool) (with_below : D → X) (t : X) : Type 0 where
  pub below' : D
  pub step : settles below answer below'
  pub after : t ≡ with_below below'
