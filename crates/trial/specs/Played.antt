-- Lists that were carried out, on cards of any kind; and a trial, which is two of them on one volume with every call accepted.
use Rattle.std.specs.Prelude.{◌≡◌, ℕ, Option, Some, None, List, [], ◌∷◌, map, Ok}
use Rattle.volume.specs.declared.entry.Call.{Call}
use Rattle.volume.specs.declared.entry.Entry.{Entry}
use Rattle.volume.specs.declared.register.Register.{Register}
use Rattle.volume.specs.declared.slip.Slip.{Slip}
use Rattle.volume.specs.declared.volume.Volume.{Volume}
use Rattle.volume.specs.Calls.{FormatStep, LeaveStep}
use Rattle.volume.specs.Replay.{Balance, Replayed}
use Rattle.volume.specs.Slips.{slip_at, slip_number}
use Rattle.volume.specs.Story.{State}
use Rattle.volume.specs.View.{Base, view}
use Rattle.trial.specs.Lists.{AllAccepted, asked, blocks_read, read_list, write_list}

module _ {D T H : Type 0} (b : Base D T H) where
  -- a list was carried out with one place, which was empty before; with a slip that is left over, the volume was left
  pub record CarriedOut (w : State D T H) (es es' : List Entry) (w' : State D T H) : Type 0 where
    pub places : List (Option Slip)
    pub between : State D T H
    pub replayed : Replayed b w (None ∷ []) es es' places between
    pub balance : Balance (view b w.volume) (None ∷ []) places (view b between.volume)
    pub none_left : slip_at places 0 ≡ None → w' ≡ between
    pub left_over : (slip : Slip) → slip_at places 0 ≡ Some slip → LeaveStep b between.volume (slip_number slip) (Ok tt) w'.volume × (w'.register ≡ between.register)

  -- a list that asks for these calls was carried out from an empty place on, and every call was accepted
  pub record CarriedWhole (w : State D T H) (calls : List (Call × List ℕ × ℕ)) (es' : List Entry) (w' : State D T H) : Type 0 where
    pub es : List Entry
    pub asks : map asked es ≡ calls
    pub left : List (Option Slip)
    pub replayed : Replayed b w (None ∷ []) es es' left w'
    pub accepted : AllAccepted es'

  -- A closed volume with this number, under this hash, is formatted; these blocks are put in from block 0 on, and kept; and all its blocks are read. Every call is
  -- accepted. This is what was read, and the register as it is afterwards.
  pub record Trial (number : ℕ) (h : H) (sims : List (List ℕ)) (blocks : ℕ) (read : List (List ℕ)) (register : Register) : Type 0 where
    pub volume : Volume D T H
    pub numbered : volume.number ≡ number
    pub under : volume.hash ≡ h
    pub closed : (view b volume).present ≡ None
    pub before : Register
    pub start : State D T H
    pub format : FormatStep b volume before (Ok tt) start.volume start.register
    pub written : List Entry
    pub between : State D T H
    pub writes : CarriedWhole start (write_list sims) written between
    pub answered : List Entry
    pub end : State D T H
    pub reads : CarriedWhole between (read_list blocks) answered end
    pub gave : read ≡ blocks_read answered
    pub entered : register ≡ end.register
