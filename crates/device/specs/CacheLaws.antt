-- The laws of the cache, from those of the device below.
use Rattle.std.specs.Prelude.{◌≡◌, ℕ, zero, suc, ◌<◌, ◌⊎◌, ◌&&◌, true, Bool, List, [], ◌∷◌, length, set, Option, Some, None, MatchOption, Result, Ok, Err, is_ok, refl}
use Rattle.std.proofs.Common.{cond, arith, sym, ◌∙◌, ap, subst, inl, inr, ⊎_elim, length-set}
use Rattle.std.proofs.lemmas.Bool.{and_from, and_parts, cases_eq, cond-false, cond-true, eq-eqb, ne_eqb}
use Rattle.std.proofs.lemmas.List.{get_or-set_same, get_or-set_other}
use Rattle.device.specs.declared.cache.Cache.{Cache}
use Rattle.device.specs.declared.device.Device
use Rattle.device.specs.declared.fault.Fault.{Fault}
use Rattle.device.specs.declared.lines.Line.{Line}
use Rattle.device.specs.declared.lines.Slot.{Slot}
use Rattle.device.specs.declared.lines.Slot.TheVariants.{Held, Empty, Least}
use Rattle.device.specs.declared.source.Source
use Rattle.device.specs.Cache.{CacheRead, CacheSettle, CacheWrite, PutBack, PutDown, Taken, cache_meaning, cache_over, cache_reads, cache_writes, cell_over, start, then}
use Rattle.device.specs.CellLaws.{others_stand}
use Rattle.device.specs.CheckLaws.{guarded_answers, guarded_stands, guarded_written, stays_itself}
use Rattle.device.specs.Lines.{AreDistinct, IsSlotFor, NoLineOf, AreWhole, filled, held, held_below, line, none_held, rewritten}
use Rattle.device.specs.LinesLaws.{below_or_last, distinct_emptied, held_at, held_below_at, held_below_so, held_not, held_other, inside, none_held_so, set_all, whole_emptied}
use Rattle.device.specs.Meaning.{Cell, Exists, IsMeaning, IsSure, KeepsReads, KeepsWrites, MayAnswer, Meaning, Settled, Stays, Written, after_write, holding, loose, sure}
use Rattle.device.specs.PassedLaws.{passed_may}

sure_over : (bytes : Option (List ℕ)) (c : Cell) → IsSure c → IsSure (cell_over bytes c)
sure_over None (sure below) is = tt
sure_over (Some bytes) (sure below) is = tt
sure_over None loose is = is
sure_over (Some bytes) loose is = is

whole_over : (bytes : Option (List ℕ)) (c : Cell) (block : List ℕ) → ((b : List ℕ) → bytes ≡ Some b → length b ≡ 512) → ((b : List ℕ) → c ≡ sure b → length b ≡ 512) →
    cell_over bytes c ≡ sure block → length block ≡ 512
whole_over None (sure below) block lines cells is = cells block is
whole_over (Some bytes) (sure below) block lines cells is = let same : bytes ≡ block = cc in lines block (ap Some same)
whole_over None loose block lines cells is = absurd cc
whole_over (Some bytes) loose block lines cells is = absurd cc

held_whole : (lines : List (Option Line)) (n : ℕ) (bytes : List ℕ) → AreWhole lines → held lines n ≡ Some bytes → length bytes ≡ 512
held_whole [] n bytes whole is = absurd cc
held_whole (None ∷ lines) n bytes whole is = held_whole lines n bytes (λ i. whole (suc i)) is
held_whole (Some a ∷ lines) n bytes whole is = ⊎_elim
    (λ same. let e : Some a.bytes ≡ Some bytes = sym (cond-true _ _ _ (eq-eqb a.number n same)) ∙ is in let one : a.bytes ≡ bytes = cc in subst (λ b. length b ≡ 512) one (whole zero a refl))
    (λ other. held_whole lines n bytes (λ i. whole (suc i)) (sym (cond-false _ _ _ (ne_eqb a.number n other)) ∙ is))
    (cases_eq a.number n)

exists_below : (lines : List (Option Line)) (m : Meaning) (way n : ℕ) → Exists (cache_over lines m) way n → Exists m way n
exists_below lines m way n e = record { way_below = e.way_below; below = e.below }

cache_means : (lines : List (Option Line)) (m : Meaning) → AreWhole lines → IsMeaning m → IsMeaning (cache_over lines m)
cache_means lines m whole is =
    record {
      few_blocks = is.few_blocks;
      some_ways = is.some_ways;
      few_ways = is.few_ways;
      whole = λ way n block e. whole_over (held lines n) (m.cell way n) block (λ b. held_whole lines n b whole) (λ b. is.whole way n b (exists_below lines m way n e));
      law_of_sound = λ sound way n e. sure_over (held lines n) (m.cell way n) (is.law_of_sound (and_parts m.sound _ sound).0 way n (exists_below lines m way n e));
    }

-- a read
may_from_line : (c : Cell) (bytes : List ℕ) (answer : Result (List ℕ) Fault) → answer ≡ Ok bytes → MayAnswer (cell_over (Some bytes) c) answer
may_from_line (sure below) bytes answer is = is
may_from_line loose bytes answer is = tt

may_from_below : (c : Cell) (answer : Result (List ℕ) Fault) → MayAnswer c answer → MayAnswer (cell_over None c) answer
may_from_below (sure below) answer is = is
may_from_below loose answer is = tt

module _ {D : Type 0} (g : Source.Ghosts D) (keeps : KeepsReads g.meaning g.reads) where
  module _ {s t : Cache D} {way n : ℕ} {answer : Result (List ℕ) Fault} (e : Exists (cache_meaning g s) way n) (r : CacheRead g s way n answer t) where
    read_may : (h : Option (List ℕ)) → held s.lines.lines n ≡ h → MayAnswer (cell_over h ((g.meaning s.below).cell way n)) answer
    read_may (Some bytes) is = may_from_line ((g.meaning s.below).cell way n) bytes answer (r.from_line bytes is).0
    read_may None is =
        may_from_below ((g.meaning s.below).cell way n) answer (passed_may keeps (exists_below s.lines.lines (g.meaning s.below) way n e) (r.from_below is))

    read_stands : (h : Option (List ℕ)) → held s.lines.lines n ≡ h → cache_meaning g t ≡ cache_meaning g s
    read_stands (Some bytes) is = ap (cache_meaning g) (r.from_line bytes is).1
    read_stands None is = let under = r.from_below is in ap (cache_meaning g) under.after ∙ ap (cache_over s.lines.lines) (keeps.stands under.step)

  pub cache_keeps : KeepsReads (cache_meaning g) (cache_reads g)
  cache_keeps =
      record {
        means = λ s. cache_means s.lines.lines (g.meaning s.below) s.lines.whole (keeps.means s.below);
        answers = λ {s} {t} {way} {n} r. guarded_answers r (λ e goes. read_may e goes (held s.lines.lines n) refl);
        stands = λ {s} {t} {way} {n} r. guarded_stands (cache_meaning g) r (λ e goes. read_stands e goes (held s.lines.lines n) refl);
      }

-- a write: what is held and what is below, before and after
module _ (lines lines' : List (Option Line)) (m m' : Meaning) (n : ℕ) (block : List ℕ) where
  -- each cell, by what is held for its number afterwards, and by the cell below it
  pub record Takes : Type 0 where
    pub here : held lines' n ≡ Some block
    pub others : (way k : ℕ) → Exists m way k → (k ≡ n → ⊥) → cell_over (held lines' k) (m'.cell way k) ≡ cell_over (held lines k) (m.cell way k)
    pub kinds : (way : ℕ) → Exists m way n → m'.cell way n ≡ m.cell way n
    pub numbers : (j : ℕ) (a : Line) → line lines' j ≡ Some a → (a.number ≡ n) ⊎ (line lines j ≡ Some a)
    pub below : Stays m m'

  taken_cell : (h : Option (List ℕ)) (c : Cell) → cell_over (Some block) c ≡ holding block (cell_over h c)
  taken_cell None (sure bytes) = refl
  taken_cell (Some held) (sure bytes) = refl
  taken_cell None loose = refl
  taken_cell (Some held) loose = refl

  takes_stays : Takes → n < m.blocks → Stays (cache_over lines m) (cache_over lines' m')
  takes_stays r inside_n =
      record {
        blocks = r.below.blocks;
        ways = r.below.ways;
        sound = λ sound.
            let both = and_parts m.sound (held_below m.blocks lines) sound in
            and_from m'.sound _ (r.below.sound both.0)
            (held_below_so m'.blocks lines' (λ j a there. ⊎_elim
            (λ is. omega (arith, r.below.blocks, is, inside_n))
            (λ old. omega (arith, r.below.blocks, held_below_at m.blocks lines j a both.1 old))
            (r.numbers j a there)));
      }

  abbrev CellSo : ℕ → ℕ → Type 0
  CellSo way k = cell_over (held lines' k) (m'.cell way k) ≡ after_write (Ok tt) n block k (cell_over (held lines k) (m.cell way k))

  cell_here : (way : ℕ) → Takes → Exists m way n → CellSo way n
  cell_here way r e =
      let new : cell_over (held lines' n) (m'.cell way n) ≡ cell_over (Some block) (m'.cell way n) = ap (λ h. cell_over h (m'.cell way n)) r.here in
      new ∙ ap (cell_over (Some block)) (r.kinds way e) ∙ taken_cell (held lines n) (m.cell way n) ∙ sym (cond-true _ _ _ (eq-eqb n n refl))

  takes_written : Takes → n < m.blocks → Written (cache_over lines m) n block (Ok tt) (cache_over lines' m')
  takes_written r inside_n =
      record {
        number_first = λ past. absurd (omega arith);
        taken = λ way e is. refl;
        stays = takes_stays r inside_n;
        cells = λ way k e. let there = exists_below lines m way k e in ⊎_elim
            (λ same. subst (CellSo way) (sym same) (cell_here way r (subst (Exists m way) same there)))
            (λ other. r.others way k there other ∙ sym (cond-false _ _ _ (ne_eqb k n other)))
            (cases_eq k n);
      }

-- a line is set to block n, and what it held stands below: nothing was held there, or it was n
set_takes : (lines lines' : List (Option Line)) (m : Meaning) (i : ℕ) (a : Line) → AreDistinct lines' → i < length lines → lines' ≡ set lines i (Some a) →
    ((b : Line) → line lines i ≡ Some b → b.number ≡ a.number) → Takes lines lines' m m a.number a.bytes
set_takes lines lines' m i a distinct below is was =
    record {
      here = held_at lines' i a distinct (ap (λ l. line l i) is ∙ get_or-set_same lines i (Some a) None below);
      others = λ way k e other. ap (λ h. cell_over h (m.cell way k))
          (ap (λ l. held l k) is ∙ held_other lines i k (Some a) (λ b there same. other (sym same ∙ was b there)) (λ b new same. let one : a ≡ b = cc in other (sym same ∙ ap (λ l. l.number) (sym one))));
      kinds = λ way e. refl;
      numbers = λ j b there. set_all (λ j b. (b.number ≡ a.number) ⊎ (line lines j ≡ Some b)) lines i (Some a)
          (λ b new. let one : a ≡ b = cc in inl (ap (λ l. l.number) (sym one))) (λ j b other old. inr old) j b (subst (λ l. line l j ≡ Some b) is there);
      below = stays_itself m;
    }

-- a block that is put down on the cell below, accepted or not, leaves the cell above as it was
put_down : (answer : Result Unit Fault) (c : Cell) (bytes : List ℕ) (k : ℕ) → (IsSure c → answer ≡ Ok tt) → cell_over None (after_write answer k bytes k c) ≡ cell_over (Some bytes) c
put_down (Ok done) (sure below) bytes k taken = rw (eq-eqb k k refl) refl
put_down (Ok done) loose bytes k taken = rw (eq-eqb k k refl) refl
put_down (Err fault) (sure below) bytes k taken = let bad : Err fault ≡ Ok tt = taken tt in absurd cc
put_down (Err fault) loose bytes k taken = refl

-- a write leaves the cells of other blocks
after_other : (answer : Result Unit Fault) (n k : ℕ) (block : List ℕ) (c : Cell) → (k ≡ n → ⊥) → after_write answer n block k c ≡ c
after_other answer n k block c other = sym (others_stand answer n k block c (λ same is. other same))

-- where one of distinct lines holds a number, no other does
none_else : (lines : List (Option Line)) (i : ℕ) (old : Line) (x : Option Line) → AreDistinct lines → line lines i ≡ Some old → ((b : Line) → x ≡ Some b → b.number ≡ old.number → ⊥) →
    held (set lines i x) old.number ≡ None
none_else lines i old x distinct there new =
    held_not (set lines i x) old.number (set_all (λ j b. b.number ≡ old.number → ⊥) lines i x new
    (λ j b other at_j same. other (distinct j i b old at_j there same)))

-- a line is put down below, and its number is held no longer
module _ (lines lines' : List (Option Line)) (m m' : Meaning) (i : ℕ) (old : Line) (x : Option Line) (answer : Result Unit Fault)
    (distinct : AreDistinct lines) (there : line lines i ≡ Some old) (is : lines' ≡ set lines i x) (new : (b : Line) → x ≡ Some b → b.number ≡ old.number → ⊥)
    (w : Written m old.number old.bytes answer m') where
  below_here : (way : ℕ) → Exists m way old.number → cell_over (held lines' old.number) (m'.cell way old.number) ≡ cell_over (held lines old.number) (m.cell way old.number)
  below_here way e =
      let c : Cell = m.cell way old.number in
      ap (λ l. cell_over (held l old.number) (m'.cell way old.number)) is
      ∙ ap (λ h. cell_over h (m'.cell way old.number)) (none_else lines i old x distinct there new)
      ∙ ap (cell_over None) (w.cells way old.number e)
      ∙ put_down answer c old.bytes old.number (w.taken way e)
      ∙ ap (λ h. cell_over h c) (sym (held_at lines i old distinct there))

  below_other : (way k : ℕ) → Exists m way k → (k ≡ old.number → ⊥) → ((b : Line) → x ≡ Some b → b.number ≡ k → ⊥) →
      cell_over (held lines' k) (m'.cell way k) ≡ cell_over (held lines k) (m.cell way k)
  below_other way k e other others =
      ap (λ l. cell_over (held l k) (m'.cell way k)) is
      ∙ ap (λ h. cell_over h (m'.cell way k)) (held_other lines i k x (λ b at_i same. let one : Some old ≡ Some b = cc in let one : old ≡ b = cc in other (sym same ∙ ap (λ l. l.number) (sym one))) others)
      ∙ ap (cell_over (held lines k)) (w.cells way k e ∙ after_other answer old.number k old.bytes (m.cell way k) other)

  -- at every number that the new line does not hold
  put_below : (way k : ℕ) → Exists m way k → ((b : Line) → x ≡ Some b → b.number ≡ k → ⊥) → cell_over (held lines' k) (m'.cell way k) ≡ cell_over (held lines k) (m.cell way k)
  put_below way k e others = ⊎_elim
      (λ same. subst (λ j. cell_over (held lines' j) (m'.cell way j) ≡ cell_over (held lines j) (m.cell way j)) (sym same) (below_here way (subst (Exists m way) same e)))
      (λ other. below_other way k e other others)
      (cases_eq k old.number)

-- the evicted line is put down below, and block n comes in its place
evict_takes : (lines lines' : List (Option Line)) (m m' : Meaning) (i : ℕ) (old a : Line) (answer : Result Unit Fault) → AreDistinct lines → AreDistinct lines' → line lines i ≡ Some old →
    lines' ≡ set lines i (Some a) → NoLineOf lines a.number → Written m old.number old.bytes answer m' → Takes lines lines' m m' a.number a.bytes
evict_takes lines lines' m m' i old a answer distinct distinct' there is not w =
    let below = inside lines i old there in
    record {
      here = held_at lines' i a distinct' (ap (λ l. line l i) is ∙ get_or-set_same lines i (Some a) None below);
      others = λ way k e other. put_below lines lines' m m' i old (Some a) answer distinct there is
          (λ b new same. let one : a ≡ b = cc in not i old there (sym same ∙ ap (λ l. l.number) (sym one))) w way k e
          (λ b new same. let one : a ≡ b = cc in other (sym same ∙ ap (λ l. l.number) (sym one)));
      kinds = λ way e. w.cells way a.number e ∙ after_other answer old.number a.number old.bytes (m.cell way a.number) (λ same. not i old there (sym same));
      numbers = λ j b at_j. set_all (λ j b. (b.number ≡ a.number) ⊎ (line lines j ≡ Some b)) lines i (Some a)
          (λ b new. let one : a ≡ b = cc in inl (ap (λ l. l.number) (sym one))) (λ j b other old. inr old) j b (subst (λ l. line l j ≡ Some b) is at_j);
      below = w.stays;
    }

module _ {D : Type 0} (g : Source.Ghosts D) (d : Device.Ghosts D) (keeps_writes : KeepsWrites g.meaning d.writes d.settles) where
  module _ (s t : Cache D) (n : ℕ) (block : List ℕ) where
    slot_takes : (slot : Slot) → IsSlotFor s.lines.lines n slot → Taken g d s n block t slot → Takes s.lines.lines t.lines.lines (g.meaning s.below) (g.meaning t.below) n block
    slot_takes (Held i) (a, is) (lines, same) =
        subst (λ (u : D). Takes s.lines.lines t.lines.lines (g.meaning s.below) (g.meaning u) n block) (sym same)
        (subst (λ k. Takes s.lines.lines t.lines.lines (g.meaning s.below) (g.meaning s.below) k block) is.number
        (set_takes s.lines.lines t.lines.lines (g.meaning s.below) i (rewritten a block) t.lines.distinct (inside s.lines.lines i a is.there) (lines a is.there)
        (λ b there. let one : Some a ≡ Some b = sym is.there ∙ there in let one : a ≡ b = cc in ap (λ l. l.number) (sym one))))
    slot_takes (Empty i) (not, empty) (lines, same) =
        subst (λ (u : D). Takes s.lines.lines t.lines.lines (g.meaning s.below) (g.meaning u) n block) (sym same)
        (set_takes s.lines.lines t.lines.lines (g.meaning s.below) i (filled n block) t.lines.distinct empty.inside lines (λ b there. let gone : None ≡ Some b = sym empty.empty ∙ there in absurd cc))
    slot_takes (Least i) (not, full, (a, least)) (lines, below) =
        let w = below a least.there in
        evict_takes s.lines.lines t.lines.lines (g.meaning s.below) (g.meaning t.below) i a (filled n block) w.0 s.lines.distinct t.lines.distinct least.there lines not
        (keeps_writes.written (s.lines.whole i a least.there) w.1)

    pub cache_written : n < (g.meaning s.below).blocks → CacheWrite g d s n block t → Written (cache_meaning g s) n block (Ok tt) (cache_meaning g t)
    cache_written below r = takes_written s.lines.lines t.lines.lines (g.meaning s.below) (g.meaning t.below) n block (slot_takes r.slot r.is_for r.taken) below

-- what is so after the first k lines are put back
pub record Back (lines : List (Option Line)) (m : Meaning) (k : ℕ) (lines' : List (Option Line)) (m' : Meaning) : Type 0 where
  pub below : Stays m m'
  pub cells : (way j : ℕ) → Exists m way j → cell_over (held lines' j) (m'.cell way j) ≡ cell_over (held lines j) (m.cell way j)
  pub old : (j : ℕ) (a : Line) → line lines' j ≡ Some a → line lines j ≡ Some a
  pub distinct : AreDistinct lines'
  pub whole : AreWhole lines'
  pub length_stays : length lines' ≡ length lines
  pub none_left : m.sound ≡ true → held_below m.blocks lines ≡ true → (j : ℕ) → j < k → line lines' j ≡ None

stays_both : {m m' m'' : Meaning} → Stays m m' → Stays m' m'' → Stays m m''
stays_both p q = record { blocks = q.blocks ∙ p.blocks; ways = q.ways ∙ p.ways; sound = λ is. q.sound (p.sound is) }

exists_stays : {m m' : Meaning} {way n : ℕ} → Stays m m' → Exists m way n → Exists m' way n
exists_stays stays e = record { way_below = omega (arith, stays.ways, e.way_below); below = omega (arith, stays.blocks, e.below) }

module _ (lines lines' : List (Option Line)) (m m' m'' : Meaning) (k : ℕ) (r : Back lines m k lines' m') (a : Line) (there : line lines' k ≡ Some a) where
  back_emptied : Written m' a.number a.bytes (Ok tt) m'' → Back lines m (suc k) (set lines' k None) m''
  back_emptied w =
      record {
        below = stays_both r.below w.stays;
        cells = λ way j e. put_below lines' (set lines' k None) m' m'' k a None (Ok tt) r.distinct there refl (λ b gone. absurd cc) w way j (exists_stays r.below e) (λ b gone. absurd cc) ∙ r.cells way j e;
        old = set_all (λ j b. line lines j ≡ Some b) lines' k None (λ b gone. absurd cc) (λ j b other. r.old j b);
        distinct = distinct_emptied lines' k r.distinct;
        whole = whole_emptied lines' k r.whole;
        length_stays = length-set lines' k None ∙ r.length_stays;
        none_left = λ sound all j h. ⊎_elim
            (λ below. get_or-set_other lines' k j None None (λ same. omega arith) ∙ r.none_left sound all j below)
            (λ same. subst (λ i. line (set lines' k None) i ≡ None) (sym same) (get_or-set_same lines' k None None (inside lines' k a there)))
            (below_or_last j k (omega (arith, h)));
      }

  -- a sound device below accepts it
  accepted : IsMeaning m' → m.sound ≡ true → held_below m.blocks lines ≡ true → (answer : Result Unit Fault) → Written m' a.number a.bytes answer m'' → answer ≡ Ok tt
  accepted is sound all answer w =
      let e : Exists m' 0 a.number = record { way_below = omega (arith, is.some_ways); below = omega (arith, r.below.blocks, held_below_at m.blocks lines k a all (r.old k a there)) } in
      w.taken 0 e (is.law_of_sound (r.below.sound sound) 0 a.number e)

  back_kept : (fault : Fault) → IsMeaning m' → Written m' a.number a.bytes (Err fault) m'' → Back lines m (suc k) lines' m''
  back_kept fault is w =
      record {
        below = stays_both r.below w.stays;
        cells = λ way j e. ap (cell_over (held lines' j)) (w.cells way j (exists_stays r.below e)) ∙ r.cells way j e;
        old = r.old;
        distinct = r.distinct;
        whole = r.whole;
        length_stays = r.length_stays;
        none_left = λ sound all j h. let bad = accepted is sound all (Err fault) w in absurd cc;
      }

back_empty : (lines lines' : List (Option Line)) (m m' : Meaning) (k : ℕ) → Back lines m k lines' m' → line lines' k ≡ None → Back lines m (suc k) lines' m'
back_empty lines lines' m m' k r is =
    record {
      below = r.below;
      cells = r.cells;
      old = r.old;
      distinct = r.distinct;
      whole = r.whole;
      length_stays = r.length_stays;
      none_left = λ sound all j h. ⊎_elim (r.none_left sound all j) (λ same. subst (λ i. line lines' i ≡ None) (sym same) is) (below_or_last j k (omega (arith, h)));
    }

module _ {D : Type 0} (g : Source.Ghosts D) (d : Device.Ghosts D) (keeps : KeepsReads g.meaning g.reads) (keeps_writes : KeepsWrites g.meaning d.writes d.settles) where
  module _ (lines lines' lines'' : List (Option Line)) (m : Meaning) (below' below'' : D) (k : ℕ) (so : Back lines m k lines' (g.meaning below')) where
    line_put_down : (a : Line) → line lines' k ≡ Some a → (answer : Result Unit Fault) → d.writes below' a.number a.bytes answer below'' →
        Back lines m (suc k) (cond (is_ok answer) (set lines' k None) lines') (g.meaning below'')
    line_put_down a there (Ok done) step = back_emptied lines lines' m (g.meaning below') (g.meaning below'') k so a there (keeps_writes.written (so.whole k a there) step)
    line_put_down a there (Err fault) step = back_kept lines lines' m (g.meaning below') (g.meaning below'') k so a there fault (keeps.means below') (keeps_writes.written (so.whole k a there) step)

    line_back : (l : Option Line) → line lines' k ≡ l → MatchOption l ((lines'' ≡ lines') × (below'' ≡ below')) (λ a. PutDown g d lines' below' k a lines'' below'') →
        Back lines m (suc k) lines'' (g.meaning below'')
    line_back None is (same, stood) =
        subst (λ (u : D). Back lines m (suc k) lines'' (g.meaning u)) (sym stood)
        (subst (λ l. Back lines m (suc k) l (g.meaning below')) (sym same) (back_empty lines lines' m (g.meaning below') k so is))
    line_back (Some a) is down = subst (λ l. Back lines m (suc k) l (g.meaning below'')) (sym down.left) (line_put_down a is down.answer_below down.step)

  put_back_so : (lines : List (Option Line)) (below : D) → AreDistinct lines → AreWhole lines → {k : ℕ} {lines' : List (Option Line)} {below' : D} → PutBack g d lines below k lines' below' →
      Back lines (g.meaning below) k lines' (g.meaning below')
  put_back_so lines below distinct whole start =
      record {
        below = stays_itself (g.meaning below);
        cells = λ way j e. refl;
        old = λ j a there. there;
        distinct = distinct;
        whole = whole;
        length_stays = refl;
        none_left = λ sound all j h. absurd (omega arith);
      }
  put_back_so lines below distinct whole (then {k} {lines'} {lines''} {below'} {below''} r back) =
      line_back lines lines' lines'' (g.meaning below) below' below'' k (put_back_so lines below distinct whole r) (line lines' k) refl back

-- all lines are put back, and it is settled below
back_settled : (lines lines' : List (Option Line)) (m m' m'' : Meaning) (clear answer : Bool) → Back lines m (length lines) lines' m' → Settled m' clear m'' →
    answer ≡ none_held lines' && clear → Settled (cache_over lines m) answer (cache_over lines' m'')
back_settled lines lines' m m' m'' clear answer r w answered =
    let stays = stays_both r.below w.stays in
    record {
      told = answered ∙ ap (λ b. none_held lines' && b) w.told;
      sound_is_clear = λ sound. let both = and_parts m.sound (held_below m.blocks lines) sound in
          and_from _ _ (none_held_so lines' (λ j h. r.none_left both.0 both.1 j (omega (arith, r.length_stays)))) (w.sound_is_clear (r.below.sound both.0));
      stays = record {
        blocks = stays.blocks;
        ways = stays.ways;
        sound = λ sound. let both = and_parts m.sound (held_below m.blocks lines) sound in
            and_from _ _ (stays.sound both.0) (held_below_so m''.blocks lines' (λ j a there. omega (arith, stays.blocks, held_below_at m.blocks lines j a both.1 (r.old j a there))));
      };
      cells = λ way k e. let there = exists_below lines m way k e in
          ap (cell_over (held lines' k)) (w.cells way k (exists_stays r.below there)) ∙ r.cells way k there;
    }

module _ {D : Type 0} (g : Source.Ghosts D) (d : Device.Ghosts D) (keeps : KeepsReads g.meaning g.reads) (keeps_writes : KeepsWrites g.meaning d.writes d.settles) where
  pub cache_keeps_writes : KeepsWrites (cache_meaning g) (cache_writes g d) (CacheSettle g d)
  cache_keeps_writes =
      record {
        written = λ {s} {t} {n} {block} {answer} long r. guarded_written (cache_meaning g) r (λ below goes.
            subst (λ (a : Result Unit Fault). Written (cache_meaning g s) n block a (cache_meaning g t)) (sym goes.0) (cache_written g d keeps_writes s t n block below goes.1));
        settled = λ {s} {t} {answer} r.
            back_settled s.lines.lines t.lines.lines (g.meaning s.below) (g.meaning r.before) (g.meaning t.below) r.clear_below answer
            (put_back_so g d keeps keeps_writes s.lines.lines s.below s.lines.distinct s.lines.whole r.put_back) (keeps_writes.settled r.step) r.answered;
      }
