-- What a walk down the tree and a read come to where the devices hold the tree and the contents: what passes is true, or two different
-- blocks with one image stand in the record.
use Rattle.std.proofs.Common.{◌≡◌, ◌≢◌, ℕ, zero, suc, ◌<◌, ◌≤◌, ◌⊎◌, inl, inr, Bool, true, false, Option, List, [], length, Result, Ok, Err, MatchResult, refl, sym, ap, ◌∙◌, subst, true≢false, ⊎_elim, arith}
use lib.Dec.{eqb}
use lib.Pointwise.{bytes_decides, pointwise}
use Rattle.std.proofs.lemmas.Bool.{cases_lt}
use Rattle.std.specs.Prelude.{slice_index_or}
use Rattle.device.specs.declared.fault.Fault.{Fault}
use Rattle.device.specs.Meaning.{sure, IsSure, Meaning, Exists, IsMeaning}
use Rattle.device.specs.Memory.{part, with_part}
use Rattle.device.specs.MemoryLaws.{same_part}
use Rattle.device.specs.Zeros.{zeros}
use Rattle.geometry.specs.Geometry.{levels, total, place}
use Rattle.geometry.proofs.Numbers.{levels_most, start_split, place_inside}
use Rattle.tree.specs.Layout.{tree_of, root_of}
use Rattle.tree.specs.Paths.{cell_at, true_part}
use Rattle.tree.proofs.Updates.{true_in_tree, true_cell, true_root}
use Rattle.tree.proofs.Whole.{length-tree}
use Rattle.volume.specs.Effects.{Lie}
use Rattle.volume.specs.Record.{blank}
use Rattle.volume.specs.Refusals.{Reason, data_block, tree_block}
use Rattle.volume.proofs.Meant.{Passes, NoneOf, Walked, FetchedBlock, Fetched}
use Rattle.volume.proofs.Results.{ok_in, ok_not_err}
use Rattle.volume.proofs.Logs.{Leaves, blank_long, fetch_leaves, leaves_others, tried_elim, walk_leaves}
use Rattle.volume.proofs.Sures.{passes_truly, sure_passes}

same_or_not : (xs ys : List ℕ) → (xs ≡ ys) ⊎ (xs ≢ ys)
same_or_not xs ys = on (pointwise eqb xs ys) refl
  where
    on : (b : Bool) → pointwise eqb xs ys ≡ b → (xs ≡ ys) ⊎ (xs ≢ ys)
    on true is = inl ((bytes_decides xs ys).0 is)
    on false is = inr (λ same. true≢false (sym ((bytes_decides xs ys).1 same) ∙ is))

-- the place of a data block at a level is on the tree device
pub place_on_tree : (n l k : ℕ) → 1 ≤ n → k < n → l < levels n → (place n l k).0 < total n
unfolding place
place_on_tree n l k least inside h = omega (arith, start_split n l h, place_inside n l k least inside)

abbrev Refused : {A : Type 0} → Result A Reason → Type 0
Refused answer = (reason : Reason) × (answer ≡ Err reason)

-- the tree lies on the device, with a sure cell for the tree block of each level on the way of data block k
pub record Reaches (image : List ℕ → List ℕ) (bs : List (List ℕ)) (k : ℕ) (m : Meaning) : Type 0 where
  pub blocks : total (length bs) ≤ m.blocks
  pub lies : Lie m (tree_of image bs)
  pub sure_cell : (l : ℕ) → l < levels (length bs) → (way : ℕ) × (way < m.ways) × IsSure (m.cell way (place (length bs) l k).0)

-- the contents lie on the device, with a sure cell for data block k
pub record ReachesData (bs : List (List ℕ)) (k : ℕ) (store : Meaning) : Type 0 where
  pub blocks : length bs ≤ store.blocks
  pub lies : Lie store bs
  pub sure_cell : (way : ℕ) × (way < store.ways) × IsSure (store.cell way k)

module _ (image : List ℕ → List ℕ) (wide : (block : List ℕ) → length (image block) ≡ 32) (bs : List (List ℕ)) (least : 1 ≤ length bs) (most : length bs ≤ 4096) (k : ℕ) (inside : k < length bs) where
  -- the parts of a record above part j are the true ones
  abbrev TrueAbove : ℕ → List ℕ → Type 0
  TrueAbove j log = (i : ℕ) → j < i → i ≤ levels (length bs) → part log i ≡ true_part image bs k i

  -- two records are the same in the parts of the tree blocks
  abbrev AgreeAbove : List ℕ → List ℕ → Type 0
  AgreeAbove log left = (i : ℕ) → 1 ≤ i → i ≤ levels (length bs) → part log i ≡ part left i

  -- at some level the image of the true block was expected, and no way passed
  record Halted (m : Meaning) : Type 0 where
    pub level : ℕ
    pub below : level < levels (length bs)
    pub why : Option Fault
    pub none : NoneOf image m (place (length bs) level k).0 (image (true_part image bs k (suc level))) m.ways why

  -- the data block was looked for by the image of the true one, and no way passed
  record Missed (store : Meaning) : Type 0 where
    pub why : Option Fault
    pub none : NoneOf image store k (image (true_part image bs k 0)) store.ways why

  -- a walk ends with all tree blocks true, or something else is so, or it got stuck
  abbrev WalkEnds : Meaning → Type 0 → Result (List ℕ) Reason → List ℕ → Type 0
  WalkEnds m Else answer left = (answer ≡ Ok (image (true_part image bs k 0))) × TrueAbove 0 left ⊎ (Else ⊎ Refused answer × Halted m)

  abbrev ReadEnds : Meaning → Meaning → Type 0 → Result Unit Reason → List ℕ → Type 0
  ReadEnds store m Else answer block = (answer ≡ Ok tt) × (block ≡ true_part image bs k 0) ⊎ (Else ⊎ Refused answer × (Halted m ⊎ Missed store))

  -- what passes for part j of the record, where all parts above it are true: it is true too, or something else is so
  abbrev Sifts : Meaning → Type 0 → List ℕ → ℕ → ℕ → Type 0
  Sifts m Else final j n = (bytes : List ℕ) → TrueAbove j final → part final j ≡ bytes → Passes image m n (image (true_part image bs k j)) bytes → (bytes ≡ true_part image bs k j) ⊎ Else

  few : levels (length bs) ≤ 3
  few = levels_most (length bs) least most

  module _ (m : Meaning) (Else : Type 0) (final : List ℕ) (sifts : (l : ℕ) → l < levels (length bs) → Sifts m Else final (suc l) (place (length bs) l k).0) where
    walk_from : (l : ℕ) (expected log : List ℕ) (answer : Result (List ℕ) Reason) (left : List ℕ) → l ≤ levels (length bs) → length log ≡ 2048 → AgreeAbove final left → expected ≡ image (true_part image bs k l) → TrueAbove l log
        → Walked image m (length bs) k l expected log answer left → WalkEnds m Else answer left
    walk_from zero expected log answer left h long agrees right above (is, stands) = inl (is ∙ ap Ok right, λ i low high. ap (λ r. part r i) stands ∙ above i low high)
    walk_from (suc l) expected log answer left h long agrees right above w =
        tried_elim image (WalkEnds m Else answer left) w
        (λ bytes passes rest.
        let next = with_part log (suc l) bytes in
        let cell = (place (length bs) l k).1 in
        let put : Leaves log (suc l) (suc l) next = leaves_others log bytes next (suc l) (omega (arith, few)) long passes.whole refl in
        let after : Leaves next 1 l left = walk_leaves image m (length bs) k l (cell_at bytes cell) next answer left (omega (arith, few)) put.long rest in
        let here : part next (suc l) ≡ bytes = same_part log (suc l) (suc l) bytes (omega (arith, few)) passes.whole refl in
        let higher : TrueAbove (suc l) next = λ i low high. put.apart i (inr low) ∙ above i low high in
        ⊎_elim
        (λ same.
        let down : TrueAbove l next = λ i low high. ⊎_elim (λ over. higher i over high) (λ under. let at : suc l ≡ i = omega arith in subst (λ j. part next j ≡ true_part image bs k j) at (here ∙ same)) (cases_lt (suc l) i) in
        walk_from l (cell_at bytes cell) next answer left (omega arith) put.long agrees (ap (λ b. cell_at b cell) same ∙ true_cell image wide bs least most k inside l) down rest)
        (λ instead. inr (inl instead))
        (sifts l h bytes (λ i low high. agrees i (omega arith) high ∙ after.apart i (inr (omega arith)) ∙ higher i low high) (agrees (suc l) (omega arith) h ∙ after.apart (suc l) (inr (omega arith)) ∙ here) (subst (λ e. Passes image m (place (length bs) l k).0 e bytes) right passes)))
        (λ why none stuck.
        let at : NoneOf image m (place (length bs) l k).0 (image (true_part image bs k (suc l))) m.ways why = subst (λ e. NoneOf image m (place (length bs) l k).0 e m.ways why) right none in
        inr (inr ((tree_block l (place (length bs) l k).0 why, stuck.0), record { level = l; below = h; why = why; none = at })))

    walk_ends : (answer : Result (List ℕ) Reason) (left : List ℕ) → AgreeAbove final left → Walked image m (length bs) k (levels (length bs)) (root_of image bs) blank answer left → WalkEnds m Else answer left
    walk_ends answer left agrees w =
        walk_from (levels (length bs)) (root_of image bs) blank answer left (omega arith) blank_long agrees (true_root image wide bs least most k inside) (λ i low high. absurd (omega arith)) w

  module _ (store m : Meaning) (Else : Type 0) (final : List ℕ) (sifts : (l : ℕ) → l < levels (length bs) → Sifts m Else final (suc l) (place (length bs) l k).0) (sifts_data : Sifts store Else final 0 k) where
    fetch_ends : (expected log : List ℕ) (answer : Result Unit Reason) (block : List ℕ) → length log ≡ 2048 → AgreeAbove final log → expected ≡ image (true_part image bs k 0) → TrueAbove 0 log
        → FetchedBlock image store k expected log answer block final → ReadEnds store m Else answer block
    fetch_ends expected log answer block long agrees right above f =
        tried_elim image (ReadEnds store m Else answer block) f
        (λ bytes passes came.
        let here : part final 0 ≡ bytes = ap (λ r. part r 0) came.2 ∙ same_part log 0 0 bytes (omega arith) passes.whole refl in
        ⊎_elim
        (λ same. inl (came.0, came.1 ∙ same))
        (λ instead. inr (inl instead))
        (sifts_data bytes (λ i low high. agrees i low high ∙ above i low high) here (subst (λ e. Passes image store k e bytes) right passes)))
        (λ why none missed.
        let at : NoneOf image store k (image (true_part image bs k 0)) store.ways why = subst (λ e. NoneOf image store k e store.ways why) right none in
        inr (inr ((data_block k why, missed.0), inr (record { why = why; none = at }))))

    ends_on : (walked : Result (List ℕ) Reason) (log : List ℕ) (answer : Result Unit Reason) (block : List ℕ) → length log ≡ 2048 → AgreeAbove final log → WalkEnds m Else walked log
        → MatchResult walked (λ expected. FetchedBlock image store k expected log answer block final) (λ reason. (answer ≡ Err reason) × (block ≡ zeros) × (final ≡ log)) → ReadEnds store m Else answer block
    ends_on walked log answer block long agrees ends fetch =
        ⊎_elim
        (λ right.
        let f : FetchedBlock image store k (image (true_part image bs k 0)) log answer block final =
        subst (λ r. MatchResult r (λ expected. FetchedBlock image store k expected log answer block final) (λ reason. (answer ≡ Err reason) × (block ≡ zeros) × (final ≡ log))) right.0 fetch in
        fetch_ends (image (true_part image bs k 0)) log answer block long agrees refl right.1 f)
        (λ other. ⊎_elim (λ instead. inr (inl instead))
        (λ refused.
        let f : (answer ≡ Err refused.0.0) × (block ≡ zeros) × (final ≡ log) =
        subst (λ r. MatchResult r (λ expected. FetchedBlock image store k expected log answer block final) (λ reason. (answer ≡ Err reason) × (block ≡ zeros) × (final ≡ log))) refused.0.1 fetch in
        inr (inr ((refused.0.0, f.0), inl refused.1)))
        other)
        ends

    read_ends : (answer : Result Unit Reason) (block : List ℕ) → Fetched image store m (length bs) k (root_of image bs) answer block final → ReadEnds store m Else answer block
    read_ends answer block f =
        let left : Leaves blank 1 (levels (length bs)) f.passed = walk_leaves image m (length bs) k (levels (length bs)) (root_of image bs) blank f.walked f.passed few blank_long f.walk in
        let after : Leaves f.passed 0 0 final = fetch_leaves image store k f.walked f.passed answer block final left.long f.fetch in
        let agrees : AgreeAbove final f.passed = λ i low high. after.apart i (inr low) in
        ends_on f.walked f.passed answer block left.long agrees (walk_ends m Else final sifts f.walked f.passed agrees f.walk) f.fetch

  -- a walk leaves the record as long, and part 0 blank
  pub walk_long : (m : Meaning) (answer : Result (List ℕ) Reason) (log : List ℕ) → Walked image m (length bs) k (levels (length bs)) (root_of image bs) blank answer log → (length log ≡ 2048) × (part log 0 ≡ part blank 0)
  walk_long m answer log w =
      let left : Leaves blank 1 (levels (length bs)) log = walk_leaves image m (length bs) k (levels (length bs)) (root_of image bs) blank answer log few blank_long w in
      (left.long, left.apart 0 (inl (omega arith)))

  -- a read leaves the record as long
  pub read_long : (store m : Meaning) (answer : Result Unit Reason) (block log : List ℕ) → Fetched image store m (length bs) k (root_of image bs) answer block log → length log ≡ 2048
  read_long store m answer block log f =
      let left : Leaves blank 1 (levels (length bs)) f.passed = walk_leaves image m (length bs) k (levels (length bs)) (root_of image bs) blank f.walked f.passed few blank_long f.walk in
      let after : Leaves f.passed 0 0 log = fetch_leaves image store k f.walked f.passed answer block log left.long f.fetch in
      after.long

  lies_at : (m : Meaning) → Lie m (tree_of image bs) → (l : ℕ) → l < levels (length bs) → (way : ℕ) (bytes : List ℕ) → Exists m way (place (length bs) l k).0 → m.cell way (place (length bs) l k).0 ≡ sure bytes
      → bytes ≡ true_part image bs k (suc l)
  lies_at m lie l h way bytes there is =
      lie way (place (length bs) l k).0 bytes there is (omega (arith, length-tree image bs, place_on_tree (length bs) l k least inside h)) ∙ true_in_tree image wide bs least most k inside l h

  lies_data : (store : Meaning) → Lie store bs → (way : ℕ) (bytes : List ℕ) → Exists store way k → store.cell way k ≡ sure bytes → bytes ≡ true_part image bs k 0
  lies_data store lie way bytes there is = lie way k bytes there is inside

  never_stuck : (m : Meaning) → Reaches image bs k m → Halted m → ⊥
  never_stuck m reaches stuck =
      let l = stuck.level in
      let found = reaches.sure_cell l stuck.below in
      let there : Exists m found.0 (place (length bs) l k).0 = record { way_below = found.1; below = omega (arith, reaches.blocks, place_on_tree (length bs) l k least inside stuck.below) } in
      sure_passes image m (place (length bs) l k).0 (true_part image bs k (suc l)) (lies_at m reaches.lies l stuck.below) stuck.why found.0 there found.2 stuck.none

  never_missed : (store : Meaning) → ReachesData bs k store → Missed store → ⊥
  never_missed store reaches missed =
      let found = reaches.sure_cell in
      let there : Exists store found.0 k = record { way_below = found.1; below = omega (arith, reaches.blocks, inside) } in
      sure_passes image store k (true_part image bs k 0) (lies_data store reaches.lies) missed.why found.0 there found.2 missed.none

  module _ (Shown : List ℕ → Type 0)
      (shown : (log : List ℕ) (j : ℕ) → length log ≡ 2048 → j ≤ levels (length bs) → ((i : ℕ) → j < i → i ≤ levels (length bs) → part log i ≡ true_part image bs k i) → part log j ≢ true_part image bs k j
      → image (true_part image bs k j) ≡ image (part log j) → Shown log)
    where
      shown_or_true : (m : Meaning) (log : List ℕ) → length log ≡ 2048 → (j n : ℕ) → j ≤ levels (length bs) → Sifts m (Shown log) log j n
      shown_or_true m log long j n h bytes above here passes =
          ⊎_elim inl (λ differs. inr (shown log j long h above (λ same. differs (sym here ∙ same)) (sym passes.as_expected ∙ ap image (sym here)))) (same_or_not bytes (true_part image bs k j))

      -- a walk that goes through comes to the image of the true data block over true tree blocks, or the record shows two blocks with one image
      pub walk_true : (m : Meaning) (walked : Result (List ℕ) Reason) (expected log log2 : List ℕ) → Walked image m (length bs) k (levels (length bs)) (root_of image bs) blank walked log → length log2 ≡ 2048
          → ((i : ℕ) → 1 ≤ i → i ≤ levels (length bs) → part log2 i ≡ part log i) → walked ≡ Ok expected
          → (expected ≡ image (true_part image bs k 0)) × ((i : ℕ) → 1 ≤ i → i ≤ levels (length bs) → part log i ≡ true_part image bs k i) ⊎ Shown log2
      walk_true m walked expected log log2 w long agrees is =
          ⊎_elim
          (λ right. let same : Ok expected ≡ Ok (image (true_part image bs k 0)) = sym is ∙ right.0 in inl (ap (ok_in expected) same, right.1))
          (λ other. ⊎_elim inr (λ refused. absurd (ok_not_err expected refused.0.0 (sym is ∙ refused.0.1))) other)
          (walk_ends m (Shown log2) log2 (λ l h. shown_or_true m log2 long (suc l) (place (length bs) l k).0 h) walked log agrees w)

      -- where the tree lies with a sure cell on each level, the walk goes through, or the record shows two blocks with one image
      pub walk_goes : (m : Meaning) (walked : Result (List ℕ) Reason) (log log2 : List ℕ) → Reaches image bs k m → Walked image m (length bs) k (levels (length bs)) (root_of image bs) blank walked log → length log2 ≡ 2048
          → ((i : ℕ) → 1 ≤ i → i ≤ levels (length bs) → part log2 i ≡ part log i)
          → (walked ≡ Ok (image (true_part image bs k 0))) × ((i : ℕ) → 1 ≤ i → i ≤ levels (length bs) → part log i ≡ true_part image bs k i) ⊎ Shown log2
      walk_goes m walked log log2 reaches w long agrees =
          ⊎_elim inl (λ other. ⊎_elim inr (λ refused. absurd (never_stuck m reaches refused.1)) other)
          (walk_ends m (Shown log2) log2 (λ l h. shown_or_true m log2 long (suc l) (place (length bs) l k).0 h) walked log agrees w)

      read_ends_shown : (store m : Meaning) (answer : Result Unit Reason) (block log : List ℕ) → Fetched image store m (length bs) k (root_of image bs) answer block log → ReadEnds store m (Shown log) answer block
      read_ends_shown store m answer block log f =
          let long : length log ≡ 2048 = read_long store m answer block log f in
          read_ends store m (Shown log) log (λ l h. shown_or_true m log long (suc l) (place (length bs) l k).0 h) (shown_or_true store log long 0 k (omega arith)) answer block f

      -- an accepted read gives the data block, or the record shows two blocks with one image
      pub read_right : (store m : Meaning) (answer : Result Unit Reason) (block log : List ℕ) → Fetched image store m (length bs) k (root_of image bs) answer block log → answer ≡ Ok tt → (block ≡ slice_index_or bs k []) ⊎ Shown log
      read_right store m answer block log f is =
          ⊎_elim (λ right. inl right.1) (λ other. ⊎_elim inr (λ refused. absurd (ok_not_err tt refused.0.0 (sym is ∙ refused.0.1))) other) (read_ends_shown store m answer block log f)

      -- where the contents and the tree lie with sure cells on the way, a read is accepted and gives the data block, or the record shows two blocks with one image
      pub read_goes : (store m : Meaning) (answer : Result Unit Reason) (block log : List ℕ) → ReachesData bs k store → Reaches image bs k m → Fetched image store m (length bs) k (root_of image bs) answer block log
          → (answer ≡ Ok tt) × (block ≡ slice_index_or bs k []) ⊎ Shown log
      read_goes store m answer block log reaches_data reaches f =
          ⊎_elim inl (λ other. ⊎_elim inr (λ refused. absurd (⊎_elim (never_stuck m reaches) (never_missed store reaches_data) refused.1)) other) (read_ends_shown store m answer block log f)

  -- a sound device on which the tree lies has a sure cell on each level
  pub reaches_sound : (m : Meaning) → IsMeaning m → m.sound ≡ true → total (length bs) ≤ m.blocks → Lie m (tree_of image bs) → Reaches image bs k m
  reaches_sound m means sound enough lie =
      record {
        blocks = enough;
        lies = lie;
        sure_cell = λ l h.
            let there : Exists m 0 (place (length bs) l k).0 = record { way_below = means.some_ways; below = omega (arith, enough, place_on_tree (length bs) l k least inside h) } in
            (0, means.some_ways, means.law_of_sound sound 0 (place (length bs) l k).0 there);
      }

  -- a sound device on which the contents lie has a sure cell for the data block
  pub reaches_data_sound : (store : Meaning) → IsMeaning store → store.sound ≡ true → length bs ≤ store.blocks → Lie store bs → ReachesData bs k store
  reaches_data_sound store means sound enough lie =
      let there : Exists store 0 k = record { way_below = means.some_ways; below = omega (arith, enough, inside) } in
      record { blocks = enough; lies = lie; sure_cell = (0, means.some_ways, means.law_of_sound sound 0 k there) }

  sifts_sound : (m : Meaning) (final : List ℕ) → IsMeaning m → m.sound ≡ true → Reaches image bs k m → (l : ℕ) → l < levels (length bs) → Sifts m ⊥ final (suc l) (place (length bs) l k).0
  sifts_sound m final means sound reaches l h bytes above here passes =
      let n = (place (length bs) l k).0 in
      inl (passes_truly image m n (true_part image bs k (suc l)) (lies_at m reaches.lies l h) (image (true_part image bs k (suc l))) bytes (omega (arith, reaches.blocks, place_on_tree (length bs) l k least inside h)) (λ way there. means.law_of_sound sound way n there) passes)

  sifts_data_sound : (store : Meaning) (final : List ℕ) → IsMeaning store → store.sound ≡ true → ReachesData bs k store → Sifts store ⊥ final 0 k
  sifts_data_sound store final means sound reaches bytes above here passes =
      inl (passes_truly image store k (true_part image bs k 0) (lies_data store reaches.lies) (image (true_part image bs k 0)) bytes (omega (arith, reaches.blocks, inside)) (λ way there. means.law_of_sound sound way k there) passes)

  -- on a sound device on which the tree lies, the walk goes through, over true tree blocks
  pub walk_sound : (m : Meaning) (walked : Result (List ℕ) Reason) (log : List ℕ) → IsMeaning m → m.sound ≡ true → total (length bs) ≤ m.blocks → Lie m (tree_of image bs)
      → Walked image m (length bs) k (levels (length bs)) (root_of image bs) blank walked log → (walked ≡ Ok (image (true_part image bs k 0))) × ((i : ℕ) → 1 ≤ i → i ≤ levels (length bs) → part log i ≡ true_part image bs k i)
  walk_sound m walked log means sound enough lie w =
      let reaches : Reaches image bs k m = reaches_sound m means sound enough lie in
      ⊎_elim (λ right. right) (λ other. absurd (⊎_elim (λ never. never) (λ refused. never_stuck m reaches refused.1) other))
      (walk_ends m ⊥ log (sifts_sound m log means sound reaches) walked log (λ i low high. refl) w)

  -- on sound devices on which the contents and the tree lie, a read is accepted and gives the data block
  pub read_sound : (store m : Meaning) (answer : Result Unit Reason) (block log : List ℕ) → IsMeaning store → store.sound ≡ true → length bs ≤ store.blocks → Lie store bs
      → IsMeaning m → m.sound ≡ true → total (length bs) ≤ m.blocks → Lie m (tree_of image bs) → Fetched image store m (length bs) k (root_of image bs) answer block log → (answer ≡ Ok tt) × (block ≡ slice_index_or bs k [])
  read_sound store m answer block log store_means store_sound store_enough store_lie means sound enough lie f =
      let reaches : Reaches image bs k m = reaches_sound m means sound enough lie in
      let reaches_data : ReachesData bs k store = reaches_data_sound store store_means store_sound store_enough store_lie in
      ⊎_elim (λ right. right) (λ other. absurd (⊎_elim (λ never. never) (λ refused. ⊎_elim (never_stuck m reaches) (never_missed store reaches_data) refused.1) other))
      (read_ends store m ⊥ log (sifts_sound m log means sound reaches) (sifts_data_sound store log store_means store_sound reaches_data) answer block f)
