-- The laws of the crooked layer, from those of the device below.
use Rattle.std.specs.Prelude.{◌≡◌, ℕ, ◌<◌, true, Bool, List, [], ◌∷◌, length, Option, Some, None, Result, refl}
use Rattle.std.proofs.Common.{◌⊎◌, arith, sym, ◌∙◌, ap, subst, inl, inr, ⊎_elim}
use Rattle.std.proofs.lemmas.Bool.{and_parts, and_from}
use Rattle.device.specs.declared.crooked.Crooked.{Crooked}
use Rattle.device.specs.declared.crooked.Listed.{Listed}
use Rattle.device.specs.declared.crooked.Manner.{Manner}
use Rattle.device.specs.declared.crooked.Manner.TheVariants.{Refuses, Flips, Keeps}
use Rattle.device.specs.declared.device.Device
use Rattle.device.specs.declared.fault.Fault.{Fault}
use Rattle.device.specs.declared.source.Source
use Rattle.device.specs.CellLaws.{after_passed, others_stand}
use Rattle.device.specs.CheckLaws.{guarded_answers, guarded_stands, guarded_written, stays_itself}
use Rattle.device.specs.Crooked.{CrookedWrite, crooked_cell, crooked_meaning, crooked_over, crooked_reads, crooked_settles, crooked_writes, manner_of, none_listed, turned}
use Rattle.device.specs.Passed.{PassedWrite}
use Rattle.device.specs.PassedLaws.{may_pass_up, passed_settled, passed_written}
use Rattle.device.specs.Faults.{passed_up}
use Rattle.device.specs.Meaning.{Meaning, Cell, sure, loose, IsMeaning, Exists, IsSure, MayAnswer, CanRead, KeepsReads, KeepsWrites, Stays, Written, Settled, after_write}

-- a refused block is told from any other
refuses_or_not : (o : Option Manner) → (o ≡ Some Refuses) ⊎ (o ≡ Some Refuses → ⊥)
refuses_or_not (Some Refuses) = inl refl
refuses_or_not (Some Flips) = inr (λ is. cc)
refuses_or_not (Some Keeps) = inr (λ is. cc)
refuses_or_not None = inr (λ is. cc)

-- a sure cell is that of an unlisted block, and sure below
sure_below : (o : Option Manner) (c : Cell) → IsSure (crooked_cell o c) → (o ≡ None) × IsSure c
sure_below (Some manner) c is = absurd is
sure_below None c is = (refl, is)

sure_bytes_below : (o : Option Manner) (c : Cell) (bytes : List ℕ) → crooked_cell o c ≡ sure bytes → c ≡ sure bytes
sure_bytes_below (Some manner) c bytes is = absurd cc
sure_bytes_below None c bytes is = is

none_to_find : (listed : List Listed) (n : ℕ) → none_listed listed ≡ true → manner_of listed n ≡ None
none_to_find [] n is = refl
none_to_find (entry ∷ rest) n is = absurd cc

-- what an unlisted block answers is as it may be, if that of its own cell is
crooked_may : (o : Option Manner) (c : Cell) (answer : Result (List ℕ) Fault) → (o ≡ None → MayAnswer c answer) → MayAnswer (crooked_cell o c) answer
crooked_may (Some manner) c answer h = tt
crooked_may None c answer h = h refl

-- a write below, for the cells above
crooked_after : (o : Option Manner) (answer : Result Unit Fault) (n k : ℕ) (block : List ℕ) (c after : Cell) → after ≡ after_write answer n block k c →
    crooked_cell o after ≡ after_write (passed_up answer) n block k (crooked_cell o c)
crooked_after (Some manner) answer n k block c after is = others_stand (passed_up answer) n k block loose (λ same held. held)
crooked_after None answer n k block c after is = is ∙ after_passed answer n k block c

module _ (listed : List Listed) where
  exists_below : {m : Meaning} {way n : ℕ} → Exists (crooked_over listed m) way n → Exists m way n
  exists_below e = record { way_below = e.way_below; below = e.below }

  crooked_means : (m : Meaning) → IsMeaning m → IsMeaning (crooked_over listed m)
  crooked_means m is =
      record {
        few_blocks = is.few_blocks;
        some_ways = is.some_ways;
        few_ways = is.few_ways;
        whole = λ way n block e held. is.whole way n block (exists_below e) (sure_bytes_below (manner_of listed n) (m.cell way n) block held);
        law_of_sound = λ sound way n e.
            let sounds = and_parts (none_listed listed) m.sound sound in
            subst (λ (o : Option Manner). IsSure (crooked_cell o (m.cell way n))) (sym (none_to_find listed n sounds.0))
            (is.law_of_sound sounds.1 way n (exists_below e));
      }

  crooked_stays : (m m' : Meaning) → Stays m m' → Stays (crooked_over listed m) (crooked_over listed m')
  crooked_stays m m' stays =
      record {
        blocks = stays.blocks;
        ways = stays.ways;
        sound = λ sound. let sounds = and_parts (none_listed listed) m.sound sound in and_from (none_listed listed) m'.sound sounds.0 (stays.sound sounds.1);
      }

  -- a write of a listed block that is not passed down, whatever it answered
  crooked_stood : (m : Meaning) (n : ℕ) (block : List ℕ) (answer : Result Unit Fault) (manner : Manner) → n < m.blocks → manner_of listed n ≡ Some manner →
      Written (crooked_over listed m) n block answer (crooked_over listed m)
  crooked_stood m n block answer manner below is =
      record {
        number_first = λ past. absurd (omega (arith, past));
        taken = λ way e held. let unlisted = (sure_below (manner_of listed n) (m.cell way n) held).0 in absurd cc;
        stays = stays_itself (crooked_over listed m);
        cells = λ way k e. others_stand answer n k block (crooked_cell (manner_of listed k) (m.cell way k))
            (λ same held.
            let unlisted = (sure_below (manner_of listed k) (m.cell way k) held).0 in
            let listed_so = ap (manner_of listed) same ∙ is in
            cc);
      }

  -- a write that is passed down
  crooked_written : (m m' : Meaning) (n : ℕ) (block : List ℕ) (answer : Result Unit Fault) → n < m.blocks →
      Written m n block answer m' → Written (crooked_over listed m) n block (passed_up answer) (crooked_over listed m')
  crooked_written m m' n block answer below w =
      record {
        number_first = λ past. absurd (omega (arith, past));
        taken = λ way e held. ap passed_up (w.taken way (exists_below e) (sure_below (manner_of listed n) (m.cell way n) held).1);
        stays = crooked_stays m m' w.stays;
        cells = λ way k e. crooked_after (manner_of listed k) answer n k block (m.cell way k) (m'.cell way k) (w.cells way k (exists_below e));
      }

  crooked_settled : (m m' : Meaning) (answer : Bool) → Settled m answer m' → Settled (crooked_over listed m) answer (crooked_over listed m')
  crooked_settled m m' answer w =
      record {
        told = w.told;
        sound_is_clear = λ sound. w.sound_is_clear (and_parts (none_listed listed) m.sound sound).1;
        stays = crooked_stays m m' w.stays;
        cells = λ way k e. ap (crooked_cell (manner_of listed k)) (w.cells way k (exists_below e));
      }

module _ {D : Type 0} (g : Source.Ghosts D) (keeps : KeepsReads g.meaning g.reads) where
  crooked_answers : {s t : Crooked D} {way n : ℕ} {answer : Result (List ℕ) Fault} → crooked_reads g s way n answer t → CanRead (crooked_meaning g s) way n answer
  crooked_answers {s} {t} {way} {n} {answer} r = guarded_answers r (λ e goes.
      let c : Cell = (g.meaning s.below).cell way n in
      crooked_may (manner_of s.listed.now n) c answer (λ unlisted.
      let w = goes.passes (λ refuses. absurd cc) in
      let same = ap (λ (o : Option Manner). turned o (passed_up w.answer_below)) unlisted in
      subst (MayAnswer c) (sym (w.answered ∙ same))
      (may_pass_up c w.answer_below ((keeps.answers w.step).then_cell (exists_below s.listed.now e)))))

  crooked_stands : {s t : Crooked D} {way n : ℕ} {answer : Result (List ℕ) Fault} → crooked_reads g s way n answer t → crooked_meaning g t ≡ crooked_meaning g s
  crooked_stands {s} {t} {way} {n} r = guarded_stands (crooked_meaning g) r (λ e goes.
      ⊎_elim
      (λ refuses. ap (crooked_meaning g) (goes.refuses refuses).1)
      (λ not. let w = goes.passes not in ap (crooked_meaning g) w.after ∙ ap (crooked_over s.listed.now) (keeps.stands w.step))
      (refuses_or_not (manner_of s.listed.now n)))

  pub crooked_keeps : KeepsReads (crooked_meaning g) (crooked_reads g)
  crooked_keeps =
      record {
        means = λ s. crooked_means s.listed.now (g.meaning s.below) (keeps.means s.below);
        answers = crooked_answers;
        stands = crooked_stands;
      }

module _ {D : Type 0} (g : Source.Ghosts D) (d : Device.Ghosts D) (keeps_writes : KeepsWrites g.meaning d.writes d.settles) where
  -- a write that is not passed down
  stood : (s t : Crooked D) (n : ℕ) (block : List ℕ) (answer : Result Unit Fault) (manner : Manner) → manner_of s.listed.now n ≡ Some manner →
      n < (g.meaning s.below).blocks → t ≡ s → Written (crooked_meaning g s) n block answer (crooked_meaning g t)
  stood s t n block answer manner is below same =
      subst (λ (u : Crooked D). Written (crooked_meaning g s) n block answer (crooked_meaning g u)) (sym same)
      (crooked_stood s.listed.now (g.meaning s.below) n block answer manner below is)

  -- a write that is passed down
  passed : (s t : Crooked D) (n : ℕ) (block : List ℕ) (answer : Result Unit Fault) → length block ≡ 512 → n < (g.meaning s.below).blocks →
      PassedWrite d.writes s.below n block answer (λ below. record s { below = below }) t → Written (crooked_meaning g s) n block answer (crooked_meaning g t)
  passed s t n block answer long below w = passed_written (crooked_meaning g) w
      (crooked_written s.listed.now (g.meaning s.below) (g.meaning w.below') n block w.answer_below below (keeps_writes.written long w.step))

  -- a write, by the manner of its block
  by_manner : (s t : Crooked D) (n : ℕ) (block : List ℕ) (answer : Result Unit Fault) (o : Option Manner) → manner_of s.listed.now n ≡ o →
      length block ≡ 512 → n < (g.meaning s.below).blocks → CrookedWrite g d s n block answer t → Written (crooked_meaning g s) n block answer (crooked_meaning g t)
  by_manner s t n block answer (Some Refuses) is long below goes = stood s t n block answer Refuses is below (goes.refuses is).1
  by_manner s t n block answer (Some Keeps) is long below goes = stood s t n block answer Keeps is below (goes.keeps is).1
  by_manner s t n block answer (Some Flips) is long below goes = passed s t n block answer long below (goes.passes (λ refuses. absurd cc) (λ keeps. absurd cc))
  by_manner s t n block answer None is long below goes = passed s t n block answer long below (goes.passes (λ refuses. absurd cc) (λ keeps. absurd cc))

  pub crooked_keeps_writes : KeepsWrites (crooked_meaning g) (crooked_writes g d) (crooked_settles g d)
  crooked_keeps_writes =
      record {
        written = λ {s} {t} {n} {block} {answer} long r. guarded_written (crooked_meaning g) r (λ below goes.
            by_manner s t n block answer (manner_of s.listed.now n) refl long below goes);
        settled = λ {s} {t} {answer} w. passed_settled (crooked_meaning g) w
            (crooked_settled s.listed.now (g.meaning s.below) (g.meaning w.below') answer (keeps_writes.settled w.step));
      }
