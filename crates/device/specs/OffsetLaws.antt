-- The laws of the offset, from those of the device below.
use Rattle.std.specs.Prelude.{◌≡◌, ℕ, ◌+◌, ◌-◌, ◌<◌, min, cond, nat_eq, Bool, List, Result, Ok, Err, refl}
use Rattle.std.proofs.Common.{arith, sym, ◌∙◌, ap, ⊎_elim}
use Rattle.std.proofs.lemmas.Bool.{cases_eq, eq-eqb, ne_eqb}
use Rattle.device.specs.declared.device.Device
use Rattle.device.specs.declared.fault.Fault.{Fault}
use Rattle.device.specs.declared.offset.Offset.{Offset}
use Rattle.device.specs.declared.source.Source
use Rattle.device.specs.CheckLaws.{guarded_answers, guarded_stands, guarded_written}
use Rattle.device.specs.Faults.{passed_up}
use Rattle.device.specs.Meaning.{Meaning, Cell, IsMeaning, Exists, CanRead, KeepsReads, KeepsWrites, Stays, Written, Settled, after_write, holding}
use Rattle.device.specs.PassedLaws.{passed_may, passed_settled, passed_written}
use Rattle.device.specs.Offset.{offset_meaning, offset_over, offset_reads, offset_settles, offset_writes}

module _ (start count : ℕ) where
  exists_below : (m : Meaning) (way n : ℕ) → Exists (offset_over start count m) way n → Exists m way (start + n)
  exists_below m way n e = record { way_below = e.way_below; below = omega (arith, e.below) }

  offset_means : (m : Meaning) → IsMeaning m → IsMeaning (offset_over start count m)
  offset_means m is =
      record {
        few_blocks = omega (arith, is.few_blocks);
        some_ways = is.some_ways;
        few_ways = is.few_ways;
        whole = λ way n block e. is.whole way (start + n) block (exists_below m way n e);
        law_of_sound = λ sound way n e. is.law_of_sound sound way (start + n) (exists_below m way n e);
      }

  offset_stays : (m m' : Meaning) → Stays m m' → Stays (offset_over start count m) (offset_over start count m')
  offset_stays m m' stays = record { blocks = ap (λ b. min count (b - start)) stays.blocks; ways = stays.ways; sound = stays.sound }

  same_test : (k n : ℕ) → nat_eq (start + k) (start + n) ≡ nat_eq k n
  same_test k n = ⊎_elim
      (λ same. eq-eqb (start + k) (start + n) (omega arith) ∙ sym (eq-eqb k n same))
      (λ other. ne_eqb (start + k) (start + n) (λ same. other (omega arith)) ∙ sym (ne_eqb k n other))
      (cases_eq k n)

  after_shifted : (answer : Result Unit Fault) (n k : ℕ) (block : List ℕ) (c : Cell) →
      after_write answer (start + n) block (start + k) c ≡ after_write (passed_up answer) n block k c
  after_shifted (Ok done) n k block c = ap (λ b. cond b (holding block c) c) (same_test k n)
  after_shifted (Err fault) n k block c = refl

  offset_written : (m m' : Meaning) (n : ℕ) (block : List ℕ) (answer : Result Unit Fault) → n < (offset_over start count m).blocks →
      Written m (start + n) block answer m' → Written (offset_over start count m) n block (passed_up answer) (offset_over start count m')
  offset_written m m' n block answer below w =
      record {
        number_first = λ past. absurd (omega (arith, past));
        taken = λ way e is. ap passed_up (w.taken way (exists_below m way n e) is);
        stays = offset_stays m m' w.stays;
        cells = λ way k e. w.cells way (start + k) (exists_below m way k e) ∙ after_shifted answer n k block (m.cell way (start + k));
      }

  offset_settled : (m m' : Meaning) (answer : Bool) → Settled m answer m' → Settled (offset_over start count m) answer (offset_over start count m')
  offset_settled m m' answer w =
      record {
        told = w.told;
        sound_is_clear = w.sound_is_clear;
        stays = offset_stays m m' w.stays;
        cells = λ way k e. w.cells way (start + k) (exists_below m way k e);
      }

module _ {D : Type 0} (g : Source.Ghosts D) (keeps : KeepsReads g.meaning g.reads) where
  offset_answers : {s t : Offset D} {way n : ℕ} {answer : Result (List ℕ) Fault} → offset_reads g s way n answer t → CanRead (offset_meaning g s) way n answer
  offset_answers {s} {t} {way} {n} {answer} r = guarded_answers r (λ e. passed_may keeps (exists_below s.start s.count (g.meaning s.below) way n e))

  offset_stands : {s t : Offset D} {way n : ℕ} {answer : Result (List ℕ) Fault} → offset_reads g s way n answer t → offset_meaning g t ≡ offset_meaning g s
  offset_stands {s} r = guarded_stands (offset_meaning g) r (λ e goes.
      ap (offset_meaning g) goes.after ∙ ap (offset_over s.start s.count) (keeps.stands goes.step))

  pub offset_keeps : KeepsReads (offset_meaning g) (offset_reads g)
  offset_keeps =
      record {
        means = λ s. offset_means s.start s.count (g.meaning s.below) (keeps.means s.below);
        answers = offset_answers;
        stands = offset_stands;
      }

pub offset_keeps_writes : {D : Type 0} (g : Source.Ghosts D) (d : Device.Ghosts D) → KeepsWrites g.meaning d.writes d.settles →
    KeepsWrites (offset_meaning g) (offset_writes g d) (offset_settles g d)
offset_keeps_writes g d keeps_writes =
    record {
      written = λ {s} {t} {n} {block} long r. guarded_written (offset_meaning g) r (λ below w. passed_written (offset_meaning g) w
          (offset_written s.start s.count (g.meaning s.below) (g.meaning w.below') n block w.answer_below below (keeps_writes.written long w.step)));
      settled = λ {s} {t} {answer} w. passed_settled (offset_meaning g) w
          (offset_settled s.start s.count (g.meaning s.below) (g.meaning w.below') answer (keeps_writes.settled w.step));
    }
