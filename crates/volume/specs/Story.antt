-- A story: calls made one after the other on a volume and its register.
use Rattle.std.specs.Prelude.{◌≡◌, ℕ, List, [], ◌∷◌, Result}
use Rattle.volume.specs.declared.register.Register.{Register}
use Rattle.volume.specs.declared.volume.Volume.{Volume}
use Rattle.volume.specs.Calls.{BeginStep, KeepStep, LeaveStep, OpenStep, ReadStep, ShutStep, WriteStep}
use Rattle.volume.specs.Refusals.{Reason}
use Rattle.volume.specs.View.{Base, view}

-- A call that is made. A write, a keep and a leave show a slip, known by its number, whichever volume it is from; a read and a write name a block.
pub data Call : Type 0 where
  opens : Call
  begins : Call
  reads : (n : ℕ) → Call
  writes : (slip n : ℕ) → Call
  keeps : (slip : ℕ) → Call
  leaves : (slip : ℕ) → Call
  shuts : Call

-- a call that was made: its areas as it found them, its answer, and its areas as it left them
pub record Made : Type 0 where
  pub call : Call
  pub block : List ℕ
  pub log : List ℕ
  pub answer : Result Unit Reason
  pub block_left : List ℕ
  pub log_left : List ℕ

-- a volume and its register
pub record State (D T H : Type 0) : Type 0 where
  pub volume : Volume D T H
  pub register : Register

abbrev pub state : {D T H : Type 0} → Volume D T H → Register → State D T H
state volume register = record { volume = volume; register = register }

-- the call leaves both areas as it found them
pub record SameAreas (m : Made) : Type 0 where
  pub block : m.block_left ≡ m.block
  pub log : m.log_left ≡ m.log

module _ {D T H : Type 0} (b : Base D T H) where
  module _ (w : State D T H) (m : Made) (w' : State D T H) where
    -- what a call does, by its own contract; whatever that does not speak of stands
    abbrev pub step_of : Call → Type 0
    step_of opens = OpenStep b w.volume w.register m.answer w'.volume × SameAreas m × (w'.register ≡ w.register)
    step_of begins = BeginStep b w.volume m.answer w'.volume × SameAreas m × (w'.register ≡ w.register)
    step_of (reads n) = ReadStep b w.volume n m.block m.log m.answer m.block_left m.log_left w'.volume × (w'.register ≡ w.register)
    step_of (writes slip n) = WriteStep b w.volume slip n m.block m.log m.answer m.log_left w'.volume × (m.block_left ≡ m.block) × (w'.register ≡ w.register)
    step_of (keeps slip) = KeepStep b w.volume slip w.register m.answer w'.volume w'.register × SameAreas m
    step_of (leaves slip) = LeaveStep b w.volume slip m.answer w'.volume × SameAreas m × (w'.register ≡ w.register)
    step_of shuts = ShutStep b w.volume m.answer w'.volume × SameAreas m × (w'.register ≡ w.register)

  abbrev pub Step : State D T H → Made → State D T H → Type 0
  Step w m w' = step_of w m w' m.call

  -- a call, and then the others, on from where it led
  pub record Then (w : State D T H) (m : Made) (Others : State D T H → Type 0) : Type 0 where
    pub between : State D T H
    pub step : Step w m between
    pub others : Others between

  -- a run: calls that were made on one volume, in this order
  abbrev pub Run : State D T H → List Made → State D T H → Type 0
  Run w [] w' = w' ≡ w
  Run w (m ∷ ms) w' = Then w m (λ between. Run between ms w')

  -- the same volume and register to whoever calls it
  pub record Alike (w v : State D T H) : Type 0 where
    pub same_view : view b v.volume ≡ view b w.volume
    pub same_register : v.register ≡ w.register

  -- A story is a run that may go on, after each call, on a volume that is the same to its caller: as on one that is made anew over
  -- devices that mean the same. So every run is a story.
  pub record ThenAlike (w : State D T H) (m : Made) (Others : State D T H → Type 0) : Type 0 where
    pub between : State D T H
    pub step : Step w m between
    pub on : State D T H
    pub alike : Alike between on
    pub others : Others on

  abbrev pub Story : State D T H → List Made → State D T H → Type 0
  Story w [] w' = w' ≡ w
  Story w (m ∷ ms) w' = ThenAlike w m (λ on. Story on ms w')
