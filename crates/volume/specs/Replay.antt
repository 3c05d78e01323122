-- A list of calls carried out with a pool of slips: which calls were made, and what the list and the pool are afterwards.
use Rattle.std.specs.Prelude.{◌≡◌, ℕ, ◌+◌, cond, nat_eq, nat_lt, Option, Some, None, List, [], ◌∷◌, length, slice_set, Result, Ok, MatchOption}
use Rattle.volume.specs.declared.entry.Call.{Call}
use Rattle.volume.specs.declared.entry.Call.TheVariants.{Open, Begin, Read, Write, Keep, Leave, Shut}
use Rattle.volume.specs.declared.entry.Entry.{Entry}
use Rattle.volume.specs.declared.refusal.Refusal.{Refusal}
use Rattle.volume.specs.declared.slip.Slip.{Slip}
use Rattle.volume.specs.Promise.{slip_is_out}
use Rattle.volume.specs.Refusals.{told}
use Rattle.volume.specs.Slips.{slip_at, slip_number, slip_with, slips_of}
use Rattle.volume.specs.Story as story
use Rattle.volume.specs.Story.{Made, Run, State, Step}
use Rattle.volume.specs.View.{Base, View}

-- begin needs a place that there is, and that is empty
abbrev pub begins_at : List (Option Slip) → ℕ → Option Slip → Option story.Call
begins_at places place None = cond (nat_lt place (length places)) (Some story.begins) None
begins_at places place (Some taken) = None

-- the slip that a call shows
abbrev pub shown_by : Option Slip → (ℕ → story.Call) → Option story.Call
shown_by None call = None
shown_by (Some s) call = Some (call (slip_number s))

-- the call that an entry asks for, with the number of the slip at its place; none where there is no slip, or for begin no room
abbrev pub call_of : List (Option Slip) → Call → Option story.Call
call_of places Open = Some story.opens
call_of places (Begin place) = begins_at places place (slip_at places place)
call_of places (Read n) = Some (story.reads n)
call_of places (Write place n) = shown_by (slip_at places place) (λ slip. story.writes slip n)
call_of places (Keep place) = shown_by (slip_at places place) story.keeps
call_of places (Leave place) = shown_by (slip_at places place) story.leaves
call_of places Shut = Some story.shuts

-- the pool after a call: the slip that begin gave lies at its place, and one that was taken is gone
abbrev pub moved : ℕ → List (Option Slip) → Result Unit Refusal → Call → List (Option Slip)
moved number places (Ok done) (Begin place) = slice_set places place (Some (slip_with number))
moved number places (Ok done) (Keep place) = slice_set places place None
moved number places (Ok done) (Leave place) = slice_set places place None
moved number places _ _ = places

-- the call as it was made, told by its entry before and afterwards
abbrev pub made_as : story.Call → Entry → Entry → Result Unit Refusal → Made
made_as call e e' answer =
    record { call = call; block = e.block.items; log = e.log.items; answer = told answer; block_left = e'.block.items; log_left = e'.log.items }

-- its call stands in the list, with this answer; of the areas this says nothing
pub record Entered (e e' : Entry) (answer : Option (Result Unit Refusal)) : Type 0 where
  pub same_call : e'.call ≡ e.call
  pub answered : e'.answer ≡ answer

-- the entry was left out: it has no answer, and its areas stand
pub record LeftOut (e e' : Entry) : Type 0 where
  pub entered : Entered e e' None
  pub block : e'.block.items ≡ e.block.items
  pub log : e'.log.items ≡ e.log.items

-- the volume's number is what the slips that begin gives out have
module _ (number : ℕ) where
  -- an entry whose call was made: this was the first of the calls, and these the others
  pub record Carried (places : List (Option Slip)) (call : story.Call) (e e' : Entry) (made : List Made) (Others : List (Option Slip) → List Made → Type 0) : Type 0 where
    pub answer : Result Unit Refusal
    pub entered : Entered e e' (Some answer)
    pub rest : List Made
    pub is : made ≡ made_as call e e' answer ∷ rest
    pub others : Others (moved number places answer e.call) rest

  -- the calls that were made stand in the list, in its order, the others are left out, and this becomes of the pool
  abbrev pub Entries : List (Option Slip) → List Entry → List Entry → List Made → List (Option Slip) → Type 0
  Entries places [] [] made places' = (made ≡ []) × (places' ≡ places)
  Entries places (e ∷ es) (e' ∷ es') made places' =
      MatchOption (call_of places e.call) (LeftOut e e' × Entries places es es' made places')
      (λ call. Carried places call e e' made (λ between rest. Entries between es es' rest places'))
  Entries places [] (e' ∷ es') made places' = ⊥
  Entries places (e ∷ es) [] made places' = ⊥

module _ {D T H : Type 0} (b : Base D T H) where
  -- one entry: left out, or its call made
  pub record Done (w : State D T H) (places : List (Option Slip)) (call : story.Call) (e e' : Entry) (places' : List (Option Slip)) (w' : State D T H) : Type 0 where
    pub answer : Result Unit Refusal
    pub entered : Entered e e' (Some answer)
    pub step : Step b w (made_as call e e' answer) w'
    pub pool : places' ≡ moved w.volume.number places answer e.call

  abbrev pub Turn : State D T H → List (Option Slip) → Entry → Entry → List (Option Slip) → State D T H → Type 0
  Turn w places e e' places' w' =
      MatchOption (call_of places e.call) (LeftOut e e' × (places' ≡ places) × (w' ≡ w)) (λ call. Done w places call e e' places' w')

  -- the list was carried out: the calls that were made are a run, and so a story
  pub record Replayed (w : State D T H) (places : List (Option Slip)) (es es' : List Entry) (places' : List (Option Slip)) (w' : State D T H) : Type 0 where
    pub made : List Made
    pub run : Run b w made w'
    pub entries : Entries w.volume.number places es es' made places'

-- 1 where this volume has the number and a slip of it is out, else 0
abbrev pub out_of : ℕ → View → ℕ
out_of number v = cond (nat_eq v.number number) (cond (slip_is_out v.present) 1 0) 0

-- Slips are neither lost nor made up: of each number the pool gains a slip for each more that the volume has out, and loses one for each
-- fewer.
abbrev pub Balance : View → List (Option Slip) → List (Option Slip) → View → Type 0
Balance v places places' v' = (number : ℕ) → slips_of number places' + out_of number v ≡ slips_of number places + out_of number v'
