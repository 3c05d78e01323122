-- The laws of the bottoms.
use Rattle.std.specs.Prelude.{◌≡◌, ℕ, ◌+◌, ◌*◌, ◌/◌, ◌<◌, ◌≤◌, min, Bool, List, ◌++◌, take, drop, length, Result, Ok, refl}
use Rattle.std.proofs.Common.{arith, sym, ◌∙◌, ap, ⊎_elim, length-append, length-take, length-drop}
use Rattle.std.proofs.lemmas.Bool.{cases_eq, cases_lt, eq-eqb, ne_eqb}
use Rattle.std.proofs.lemmas.List.{drop-drop, drop-take, drop_at, length-take-le, take_at}
use Rattle.std.proofs.lemmas.Slice.{drop-put_mid, take-put_mid_below}
use borrow.Rule.Slice.PartMut.{post_of, put_mid}
use Rattle.device.specs.declared.fault.Fault.{Fault}
use Rattle.device.specs.declared.memory.Memory.{Memory}
use Rattle.device.specs.CheckLaws.{guarded_answers, guarded_stands, guarded_written, stays_itself}
use Rattle.device.specs.Meaning.{sure, IsMeaning, KeepsReads, KeepsWrites, Written, Settled, after_write}
use Rattle.device.specs.Memory.{HasBytes, bytes_meaning, memory_meaning, memory_reads, memory_settles, memory_writes, part, parts, with_part}

pub length-part : (bytes : List ℕ) (n : ℕ) → n < parts bytes → length (part bytes n) ≡ 512
unfolding part
length-part bytes n h = simp (length-take, length-drop) (omega arith)

pub bytes_mean : (bytes : List ℕ) → IsMeaning (bytes_meaning bytes)
bytes_mean bytes =
    record {
      few_blocks = omega arith;
      some_ways = omega arith;
      few_ways = omega arith;
      whole = λ way n block e is. let same : part bytes n ≡ block = cc in ap length (sym same) ∙ length-part bytes n e.below;
      law_of_sound = λ sound way n e. tt;
    }

pub memory_keeps : KeepsReads memory_meaning memory_reads
memory_keeps =
    record {
      means = λ s. bytes_mean s.bytes.now;
      answers = λ r. guarded_answers r (λ e goes. goes.0);
      stands = λ r. guarded_stands memory_meaning r (λ e goes. ap memory_meaning goes.1);
    }

-- what part of a list is after ys came in the place of the w from a on: a part before them, they themselves, a part after them
module _ (xs ys : List ℕ) (a w : ℕ) (within : a ≤ length xs) where
  part_before : (i : ℕ) → i + w ≤ a → take w (drop i (put_mid a w xs ys)) ≡ take w (drop i xs)
  part_before i before =
      sym (drop-take i w (put_mid a w xs ys)) ∙ ap (drop i) (take-put_mid_below a w xs ys (i + w) before within) ∙ drop-take i w xs

  part_itself : length ys ≡ w → take w (drop a (put_mid a w xs ys)) ≡ ys
  part_itself long =
      ap (take w) (drop_at (take a xs) (ys ++ post_of a w xs) a (length-take-le a xs within)) ∙ take_at ys (post_of a w xs) w long

  part_after : (i : ℕ) → a + w ≤ i → length ys ≡ w → take w (drop i (put_mid a w xs ys)) ≡ take w (drop i xs)
  part_after i after long = ap (take w) (drop-put_mid a w xs ys i after within long)

-- the bytes with block n replaced, as the library has a write to a part of a slice
pub put_with_part : (bytes : List ℕ) (n : ℕ) (block : List ℕ) → put_mid (512 * n) 512 bytes block ≡ with_part bytes n block
unfolding with_part
put_with_part bytes n block = ap (λ rest. take (512 * n) bytes ++ (block ++ rest)) (drop-drop 512 (512 * n) bytes)

pub length-with_part : (bytes : List ℕ) (n : ℕ) (block : List ℕ) → length block ≡ 512 → n < parts bytes → length (with_part bytes n block) ≡ length bytes
unfolding with_part
length-with_part bytes n block long h = simp (length-append, length-take, length-drop) (omega arith)

module _ (bytes : List ℕ) (n k : ℕ) (block : List ℕ) (below : n < parts bytes) (long : length block ≡ 512) where
  pub same_part : k ≡ n → part (with_part bytes n block) k ≡ block
  unfolding part
  same_part same = rw (same, ← put_with_part bytes n block) (part_itself bytes block (512 * n) 512 (omega arith) long)

  pub other_part : (k ≡ n → ⊥) → part (with_part bytes n block) k ≡ part bytes k
  unfolding part
  other_part other = rw (← put_with_part bytes n block) (⊎_elim
      (λ before. part_before bytes block (512 * n) 512 (omega arith) (512 * k) (omega arith))
      (λ after. part_after bytes block (512 * n) 512 (omega arith) (512 * k) (omega arith) long)
      (cases_lt k n))

  part-with_part : sure (part (with_part bytes n block) k) ≡ after_write (Ok tt) n block k (sure (part bytes k))
  part-with_part = ⊎_elim
      (λ same. rw (eq-eqb k n same) (ap sure (same_part same)))
      (λ other. rw (ne_eqb k n other) (ap sure (other_part other)))
      (cases_eq k n)

bytes_written : (bytes : List ℕ) (n : ℕ) (block : List ℕ) → length block ≡ 512 → n < parts bytes →
    Written (bytes_meaning bytes) n block (Ok tt) (bytes_meaning (with_part bytes n block))
bytes_written bytes n block long below =
    record {
      number_first = λ past. absurd (omega arith);
      taken = λ way e is. refl;
      stays = record { blocks = ap (λ l. min (l / 512) 65536) (length-with_part bytes n block long below); ways = refl; sound = λ h. h };
      cells = λ way k e. part-with_part bytes n k block below long;
    }

pub memory_written : {s t : Memory} {n : ℕ} {block : List ℕ} {answer : Result Unit Fault} → length block ≡ 512 →
    n < parts s.bytes.now → answer ≡ Ok tt → HasBytes s (with_part s.bytes.now n block) t → Written (memory_meaning s) n block answer (memory_meaning t)
memory_written {s} {t} {n} {block} long below is has =
    rw (is, has.bytes) (bytes_written s.bytes.now n block long below)

memory_settled : {s t : Memory} {answer : Bool} → memory_settles s answer t → Settled (memory_meaning s) answer (memory_meaning t)
memory_settled {s} {t} r =
    rw (r.0, r.1) (record { told = refl; sound_is_clear = λ h. h; stays = stays_itself (memory_meaning s); cells = λ way k e. refl })

pub memory_keeps_writes : KeepsWrites memory_meaning memory_writes memory_settles
memory_keeps_writes =
    record {
      written = λ long r. guarded_written memory_meaning r (λ below goes. memory_written long below goes.0 goes.1);
      settled = λ r. memory_settled r;
    }
