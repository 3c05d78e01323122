-- What every source looks at first, itself: the number, then the way.
use Rattle.std.specs.Prelude.{◌≡◌, ℕ, ◌<◌, ◌≤◌, cond, nat_lt, List, Result, Ok, Err}
use Rattle.device.specs.declared.fault.Fault.{Fault}
use Rattle.device.specs.Faults.{past_end, past_ways}
use Rattle.device.specs.Meaning.{Meaning}

-- the number
abbrev pub number_check : ℕ → ℕ → Result Unit Fault
number_check blocks n = cond (nat_lt n blocks) (Ok tt) (Err (past_end n))

-- the number, then the way
abbrev pub read_check : ℕ → ℕ → ℕ → ℕ → Result Unit Fault
read_check blocks ways way n = cond (nat_lt n blocks) (cond (nat_lt way ways) (Ok tt) (Err (past_ways way))) (Err (past_end n))

-- a read of a source with these counts: past the end or past the ways it is refused, and the state stands. `Goes` says what any other does
pub record GuardedRead {X : Type 0} (m : Meaning) (s : X) (way n : ℕ) (answer : Result (List ℕ) Fault) (t : X) (Goes : Type 0) : Type 0 where
  pub number_first : m.blocks ≤ n → (answer ≡ Err (past_end n)) × (t ≡ s)
  pub then_way : n < m.blocks → m.ways ≤ way → (answer ≡ Err (past_ways way)) × (t ≡ s)
  pub goes_on : n < m.blocks → way < m.ways → Goes

-- a write likewise
pub record GuardedWrite {X : Type 0} (m : Meaning) (s : X) (n : ℕ) (answer : Result Unit Fault) (t : X) (Goes : Type 0) : Type 0 where
  pub number_first : m.blocks ≤ n → (answer ≡ Err (past_end n)) × (t ≡ s)
  pub goes_on : n < m.blocks → Goes
