-- What is printed of calls, answers, areas and cards.
use Rattle.std.specs.Prelude.{ℕ, Option, None, Some, Result, Ok, Err, List, [], ◌++◌, codes, decimal, take}
use Rattle.digest.specs.Sha256.{sha256}
use Rattle.volume.specs.declared.entry.Call.{Call}
use Rattle.volume.specs.declared.entry.Call.TheVariants.{Open, Begin, Read, Write, Keep, Leave, Shut}
use Rattle.volume.specs.Refusals.{Reason, Stuck, fault_numbers}

-- the first eight bytes of its SHA-256
abbrev pub digest_of : List ℕ → List ℕ
digest_of bytes = take 8 (sha256 bytes)

-- a call in the words of the script
abbrev pub call_text : Call → List ℕ
call_text Open = codes "open"
call_text (Begin place) = codes "begin " ++ decimal place
call_text (Read number) = codes "read " ++ decimal number
call_text (Write place number) = codes "write " ++ (decimal place ++ (codes " " ++ decimal number))
call_text (Keep place) = codes "keep " ++ decimal place
call_text (Leave place) = codes "leave " ++ decimal place
call_text Shut = codes "shut"

-- where a refused call got stuck, and the numbers of the fault
abbrev pub numbers_text : ℕ → ℕ → ℕ → ℕ × ℕ × ℕ → List ℕ
numbers_text side level block fault =
    codes ", side " ++ (decimal side ++ (codes ", level " ++ (decimal level ++ (codes ", block " ++ (decimal block
    ++ (codes ", fault " ++ (decimal fault.0 ++ (codes ", " ++ (decimal fault.1 ++ (codes ", " ++ decimal fault.2))))))))))

abbrev pub stuck_text : Option Stuck → List ℕ
stuck_text None = []
stuck_text (Some s) = numbers_text s.side s.level s.block (fault_numbers s.fault)

abbrev pub answer_text : Result Unit Reason → List ℕ
answer_text (Ok done) = codes "accepted"
answer_text (Err r) = (codes "refused " ++ decimal r.number) ++ stuck_text r.stuck
