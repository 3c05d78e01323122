-- The laws of the mirror, from those of the two devices below.
use Rattle.std.specs.Prelude.{◌≡◌, ℕ, ◌+◌, ◌-◌, ◌<◌, ◌≤◌, min, cond, nat_lt, true, false, Bool, ◌&&◌, List, length, Result, Ok, Err, refl}
use Rattle.std.proofs.Common.{arith, sym, ◌∙◌, ap, subst, ⊎_elim}
use Rattle.std.proofs.lemmas.Bool.{cases_lt, cond_both, lt-ltb, le-ltb, ltb-false, and_parts, and_from}
use Rattle.device.specs.declared.device.Device
use Rattle.device.specs.declared.fault.Fault.{Fault}
use Rattle.device.specs.declared.mirror.Mirror.{Mirror}
use Rattle.device.specs.declared.source.Source
use Rattle.device.specs.CellLaws.{others_stand}
use Rattle.device.specs.CheckLaws.{guarded_answers, guarded_stands, guarded_written}
use Rattle.device.specs.Meaning.{Meaning, Cell, sure, IsMeaning, Exists, IsSure, MayAnswer, CanRead, KeepsReads, KeepsWrites, Stays, Written, Settled, after_write}
use Rattle.device.specs.PassedLaws.{passed_may}
use Rattle.device.specs.Mirror.{MirrorSettle, mirror_blocks, mirror_cell, mirror_meaning, mirror_over, mirror_reads, mirror_writes, taken_by_one}

-- the write of one of the two, for a cell of its own, as the write of both: where its device refused it the cell was not sure, and so stands either way
after_taken : (own answer : Result Unit Fault) (n k : ℕ) (block : List ℕ) (c : Cell) → (own ≡ Ok tt → answer ≡ Ok tt) → (k ≡ n → IsSure c → own ≡ Ok tt) →
    after_write own n block k c ≡ after_write answer n block k c
after_taken (Ok done) answer n k block c goes taken = ap (λ (r : Result Unit Fault). after_write r n block k c) (sym (goes refl))
after_taken (Err fault) answer n k block c goes taken = others_stand answer n k block c (λ same is. let h = taken same is in cc)

first_taken : (first second : Result Unit Fault) → first ≡ Ok tt → taken_by_one first second ≡ Ok tt
first_taken first second is = ap (λ (r : Result Unit Fault). taken_by_one r second) is

second_taken : (first second : Result Unit Fault) → second ≡ Ok tt → taken_by_one first second ≡ Ok tt
second_taken (Ok done) second is = refl
second_taken (Err fault) second is = ap (taken_by_one (Err fault)) is

-- a way and a number that the two together have: each has the number, and one of them the way
record Both (a b : Meaning) (way n : ℕ) : Type 0 where
  few : a.ways + b.ways ≤ 8
  way_below : way < a.ways + b.ways
  in_first : n < a.blocks
  in_second : n < b.blocks

few_ways_of : (a b : Meaning) (n : ℕ) → n < mirror_blocks a b → a.ways + b.ways ≤ 8
few_ways_of a b n =
    cond_both (nat_lt 8 (a.ways + b.ways)) 0 (min a.blocks b.blocks) (λ m. n < m → a.ways + b.ways ≤ 8) (λ e h. absurd (omega (arith, h))) (λ e h. omega (arith, ltb-false 8 (a.ways + b.ways) e))

blocks_of : (a b : Meaning) (n : ℕ) → n < mirror_blocks a b → n < min a.blocks b.blocks
blocks_of a b n =
    cond_both (nat_lt 8 (a.ways + b.ways)) 0 (min a.blocks b.blocks) (λ m. n < m → n < min a.blocks b.blocks) (λ e h. absurd (omega (arith, h))) (λ e h. h)

both : (a b : Meaning) (way n : ℕ) → Exists (mirror_over a b) way n → Both a b way n
both a b way n e =
    let few : a.ways + b.ways ≤ 8 = few_ways_of a b n e.below in
    let below : n < min a.blocks b.blocks = blocks_of a b n e.below in
    record { few = few; way_below = omega (arith, e.way_below); in_first = omega arith; in_second = omega arith }

-- each way of the two together is one of the first's or one of the second's
by_side : (a b : Meaning) (P : Bool → Type 0) (way n : ℕ) → Exists (mirror_over a b) way n →
    (Exists a way n → P true) → (a.ways ≤ way → Exists b (way - a.ways) n → P false) → P (nat_lt way a.ways)
by_side a b P way n e first second =
    let h = both a b way n e in
    ⊎_elim
    (λ below. subst P (sym (lt-ltb way a.ways below)) (first (record { way_below = below; below = h.in_first })))
    (λ above. subst P (sym (le-ltb way a.ways above)) (second above (record { way_below = omega arith; below = h.in_second })))
    (cases_lt way a.ways)

-- the cells of both after a call, where each of the two changes its own so
cells_after : (a b a' b' : Meaning) (f : Cell → Cell) (way n : ℕ) → a'.ways ≡ a.ways → Exists (mirror_over a b) way n →
    (Exists a way n → a'.cell way n ≡ f (a.cell way n)) → (Exists b (way - a.ways) n → b'.cell (way - a.ways) n ≡ f (b.cell (way - a.ways) n)) →
    mirror_cell a' b' way n ≡ f (mirror_cell a b way n)
cells_after a b a' b' f way n ways e first second =
    ap (λ w. cond (nat_lt way w) (a'.cell way n) (b'.cell (way - w) n)) ways ∙
    by_side a b (λ t. cond t (a'.cell way n) (b'.cell (way - a.ways) n) ≡ f (cond t (a.cell way n) (b.cell (way - a.ways) n))) way n e first (λ above. second)

few_blocks : (a b : Meaning) → a.blocks ≤ 65536 → mirror_blocks a b ≤ 65536
few_blocks a b h = cond_both (nat_lt 8 (a.ways + b.ways)) 0 (min a.blocks b.blocks) (λ m. m ≤ 65536) (λ e. omega arith) (λ e. omega arith)

mirror_means : (a b : Meaning) → IsMeaning a → IsMeaning b → IsMeaning (mirror_over a b)
mirror_means a b is_a is_b =
    record {
      few_blocks = few_blocks a b is_a.few_blocks;
      some_ways = omega (arith, is_a.some_ways);
      few_ways = omega arith;
      whole = λ way n block e. by_side a b (λ t. cond t (a.cell way n) (b.cell (way - a.ways) n) ≡ sure block → length block ≡ 512) way n e
          (is_a.whole way n block) (λ above. is_b.whole (way - a.ways) n block);
      law_of_sound = λ sound way n e.
          let sounds = and_parts a.sound b.sound sound in
          by_side a b (λ t. IsSure (cond t (a.cell way n) (b.cell (way - a.ways) n))) way n e
          (is_a.law_of_sound sounds.0 way n) (λ above. is_b.law_of_sound sounds.1 (way - a.ways) n);
    }

mirror_stays : (a b a' b' : Meaning) → Stays a a' → Stays b b' → Stays (mirror_over a b) (mirror_over a' b')
mirror_stays a b a' b' stays_a stays_b =
    record {
      blocks = cc (stays_a.blocks, stays_a.ways, stays_b.blocks, stays_b.ways);
      ways = cc (stays_a.ways, stays_b.ways);
      sound = λ sound. let sounds = and_parts a.sound b.sound sound in and_from a'.sound b'.sound (stays_a.sound sounds.0) (stays_b.sound sounds.1);
    }

mirror_written : (a b a' b' : Meaning) (n : ℕ) (block : List ℕ) (first second : Result Unit Fault) → n < mirror_blocks a b →
    Written a n block first a' → Written b n block second b' → Written (mirror_over a b) n block (taken_by_one first second) (mirror_over a' b')
mirror_written a b a' b' n block first second below w_a w_b =
    record {
      number_first = λ past. absurd (omega (arith, past));
      taken = λ way e. by_side a b (λ t. IsSure (cond t (a.cell way n) (b.cell (way - a.ways) n)) → taken_by_one first second ≡ Ok tt) way n e
          (λ e is. first_taken first second (w_a.taken way e is))
          (λ above e is. second_taken first second (w_b.taken (way - a.ways) e is));
      stays = mirror_stays a b a' b' w_a.stays w_b.stays;
      cells = λ way k e. cells_after a b a' b' (after_write (taken_by_one first second) n block k) way k w_a.stays.ways e
          (λ e. w_a.cells way k e ∙ after_taken first (taken_by_one first second) n k block (a.cell way k) (first_taken first second)
          (λ same is. w_a.taken way (subst (Exists a way) same e) (subst (λ j. IsSure (a.cell way j)) same is)))
          (λ e. w_b.cells (way - a.ways) k e ∙ after_taken second (taken_by_one first second) n k block (b.cell (way - a.ways) k) (second_taken first second)
          (λ same is. w_b.taken (way - a.ways) (subst (Exists b (way - a.ways)) same e) (subst (λ j. IsSure (b.cell (way - a.ways) j)) same is)));
    }

mirror_settled : (a b a' b' : Meaning) (first second : Bool) → Settled a first a' → Settled b second b' →
    Settled (mirror_over a b) (first && second) (mirror_over a' b')
mirror_settled a b a' b' first second w_a w_b =
    record {
      told = cc (w_a.told, w_b.told);
      sound_is_clear = λ sound. let sounds = and_parts a.sound b.sound sound in and_from a'.clear b'.clear (w_a.sound_is_clear sounds.0) (w_b.sound_is_clear sounds.1);
      stays = mirror_stays a b a' b' w_a.stays w_b.stays;
      cells = λ way k e. cells_after a b a' b' (λ c. c) way k w_a.stays.ways e (w_a.cells way k) (w_b.cells (way - a.ways) k);
    }

module _ {A B : Type 0} (a : Source.Ghosts A) (b : Source.Ghosts B) (keeps_a : KeepsReads a.meaning a.reads) (keeps_b : KeepsReads b.meaning b.reads) where
  mirror_answers : {s t : Mirror A B} {way n : ℕ} {answer : Result (List ℕ) Fault} → mirror_reads a b s way n answer t → CanRead (mirror_meaning a b s) way n answer
  mirror_answers {s} {t} {way} {n} {answer} r = guarded_answers r (λ e goes.
      let m = a.meaning s.first in
      let o = b.meaning s.second in
      by_side m o (λ (t : Bool). MayAnswer (cond t (m.cell way n) (o.cell (way - m.ways) n)) answer) way n e
      (λ e. passed_may keeps_a e (goes.of_first e.way_below))
      (λ above e. passed_may keeps_b e (goes.of_second above)))

  mirror_stands : {s t : Mirror A B} {way n : ℕ} {answer : Result (List ℕ) Fault} → mirror_reads a b s way n answer t → mirror_meaning a b t ≡ mirror_meaning a b s
  mirror_stands {s} {t} {way} r = guarded_stands (mirror_meaning a b) r (λ e goes.
      ⊎_elim
      (λ below. let w = goes.of_first below in ap (mirror_meaning a b) w.after ∙ ap (λ m. mirror_over m (b.meaning s.second)) (keeps_a.stands w.step))
      (λ above. let w = goes.of_second above in ap (mirror_meaning a b) w.after ∙ ap (mirror_over (a.meaning s.first)) (keeps_b.stands w.step))
      (cases_lt way (a.meaning s.first).ways))

  pub mirror_keeps : KeepsReads (mirror_meaning a b) (mirror_reads a b)
  mirror_keeps =
      record {
        means = λ s. mirror_means (a.meaning s.first) (b.meaning s.second) (keeps_a.means s.first) (keeps_b.means s.second);
        answers = mirror_answers;
        stands = mirror_stands;
      }

pub mirror_keeps_writes : {A B : Type 0} (a : Source.Ghosts A) (b : Source.Ghosts B) (c : Device.Ghosts A) (d : Device.Ghosts B) →
    KeepsWrites a.meaning c.writes c.settles → KeepsWrites b.meaning d.writes d.settles → KeepsWrites (mirror_meaning a b) (mirror_writes a b c d) (MirrorSettle a b c d)
mirror_keeps_writes {A} {B} a b c d keeps_a keeps_b =
    record {
      written = λ {s} {t} {n} {block} {answer} long r. guarded_written (mirror_meaning a b) r (λ below goes.
          subst (λ (x : Result Unit Fault). Written (mirror_meaning a b s) n block x (mirror_meaning a b t)) (sym goes.answered)
          (subst (λ (u : Mirror A B). Written (mirror_meaning a b s) n block (taken_by_one goes.answer_first goes.answer_second) (mirror_meaning a b u)) (sym goes.after)
          (mirror_written (a.meaning s.first) (b.meaning s.second) (a.meaning goes.first) (b.meaning goes.second) n block goes.answer_first goes.answer_second below
          (keeps_a.written long goes.step_first) (keeps_b.written long goes.step_second))));
      settled = λ {s} {t} {answer} r.
          subst (λ (x : Bool). Settled (mirror_meaning a b s) x (mirror_meaning a b t)) (sym r.answered)
          (subst (λ (u : Mirror A B). Settled (mirror_meaning a b s) (r.answer_first && r.answer_second) (mirror_meaning a b u)) (sym r.after)
          (mirror_settled (a.meaning s.first) (b.meaning s.second) (a.meaning r.first) (b.meaning r.second) r.answer_first r.answer_second
          (keeps_a.settled r.step_first) (keeps_b.settled r.step_second)));
    }
