-- The ledger: what a volume ought to hold, by the calls that were made and what they answered.
use Rattle.std.specs.Prelude.{◌≡◌, ℕ, Bool, true, false, cond, nat_eq, Option, Some, None, List, [], ◌∷◌, set, Result, Ok, Err, is_some}
use Rattle.volume.specs.Refusals.{Reason}
use Rattle.volume.specs.Story.{Call, Made, begins, keeps, leaves, opens, reads, shuts, writes}

-- the blocks as last put in, and as last kept; whether the volume is open, and whether a slip is out
pub record Ledger : Type 0 where
  pub contents : List (List ℕ)
  pub kept : List (List ℕ)
  pub is_open : Bool
  pub slip_out : Bool

-- a ledger that begins with these contents, kept: closed, and no slip out
abbrev pub afresh : List (List ℕ) → Ledger
afresh contents = record { contents = contents; kept = contents; is_open = false; slip_out = false }

-- the call was accepted
abbrev pub accepted : Result Unit Reason → Bool
accepted (Ok done) = true
accepted (Err e) = false

-- a read or write got past its checks, and left the record of its walk: accepted, or refused where a device was to blame
abbrev pub walked : Result Unit Reason → Bool
walked (Ok done) = true
walked (Err e) = is_some e.stuck

-- what an accepted call changes
abbrev pub changed : Ledger → List ℕ → Call → Ledger
changed l block opens = record l { contents = l.kept; is_open = true }
changed l block begins = record l { slip_out = true }
changed l block (writes slip n) = record l { contents = set l.contents n block }
changed l block (keeps slip) = record l { kept = l.contents; slip_out = false }
changed l block (leaves slip) = record l { contents = l.kept; is_open = false; slip_out = false }
changed l block shuts = record l { is_open = false }
changed l block _ = l

-- the ledger is changed by an accepted call, and by a write that a device refused
abbrev pub counts : Result Unit Reason → Call → Bool
counts (Err e) (writes slip n) = nat_eq e.number 53
counts answer _ = accepted answer

-- the ledger is fed one call
abbrev pub feed : Ledger → Made → Ledger
feed l m = cond (counts m.answer m.call) (changed l m.block m.call) l

-- and all calls of a story
abbrev pub fed : Ledger → List Made → Ledger
fed l [] = l
fed l (m ∷ ms) = fed (feed l m) ms

-- the data block on whose path a call walks, if it is one that does
abbrev pub path_of : Call → Option ℕ
path_of (reads n) = Some n
path_of (writes slip n) = Some n
path_of _ = None

abbrev pub is_leave : Call → Bool
is_leave (leaves slip) = true
is_leave _ = false

-- no leave is accepted in the story
abbrev pub NoLeave : List Made → Type 0
NoLeave [] = Unit {0}
NoLeave (m ∷ ms) = (cond (is_leave m.call) (accepted m.answer) false ≡ false) × NoLeave ms
