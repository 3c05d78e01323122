-- What a pile answers to a command, and what it means afterwards.
use Rattle.std.specs.Prelude.{◌≡◌, ℕ, true, false, List, replicate, Result, Ok, Err}
use Rattle.device.specs.declared.fault.Fault.{Fault}
use Rattle.device.specs.Meaning.{CanRead, Meaning, Settled, Written}
use Rattle.piles.specs.declared.command.Command.{Command}
use Rattle.piles.specs.declared.command.Command.TheVariants.{Write, Read, Settle}
use Rattle.piles.specs.declared.play.Answer.{Answer}
use Rattle.piles.specs.declared.play.Answer.TheVariants.{Done, Block, Clear, Held}
use Rattle.piles.specs.declared.play.Contents.{Contents}
use Rattle.piles.specs.Contents.{IsSeen}

-- a command, its answer, and the meaning before and after it
pub data Obeys (m : Meaning) : Command → Result Answer Fault → Meaning → Type 0 where
  done : {n byte : ℕ} {m' : Meaning} → Written m n (replicate 512 byte) (Ok tt) m' → Obeys m (Write n byte) (Ok Done) m'
  not_done : {n byte : ℕ} {fault : Fault} {m' : Meaning} → Written m n (replicate 512 byte) (Err fault) m' →
      Obeys m (Write n byte) (Err fault) m'
  seen : {way n : ℕ} {contents : Contents} {m' : Meaning} (block : List ℕ) → CanRead m way n (Ok block) → IsSeen block contents → m' ≡ m →
      Obeys m (Read way n) (Ok (Block contents)) m'
  unseen : {way n : ℕ} {fault : Fault} {m' : Meaning} → CanRead m way n (Err fault) → m' ≡ m → Obeys m (Read way n) (Err fault) m'
  clear : {m' : Meaning} → Settled m true m' → Obeys m Settle (Ok Clear) m'
  held : {m' : Meaning} → Settled m false m' → Obeys m Settle (Ok Held) m'
