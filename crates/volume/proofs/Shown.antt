-- A record compared with the true blocks: what is found.
use Rattle.std.proofs.Common.{◌≡◌, ◌≢◌, ℕ, zero, suc, ◌*◌, ◌/◌, ◌^◌, ◌<◌, ◌≤◌, false, ◌&&◌, ltb, eqb, List, [], length, get_or, Option, Some, None, sym, ap, ◌∙◌, ⊎_elim, arith}
use Rattle.std.specs.Prelude.{IfSome}
use Rattle.std.specs.Str.{bytes_eq}
use Rattle.std.proofs.lemmas.Bool.{and_from, and_left, and_right, both_ways, cases_lt, cond-false, cond-true, cond_both, eq-eqb, false_from_ne_true, le-ltb, lt-ltb, ne_eqb}
use Rattle.std.proofs.lemmas.Slice.Eq.{bytes_eq-Decides}
use Rattle.geometry.specs.Geometry.{levels}
use Rattle.tree.specs.Paths.{true_part}
use Rattle.device.specs.Memory.{part}
use Rattle.volume.specs.Extract.{blocks_at, descend, differ, extract}
use Rattle.volume.specs.Promise.{Collision}
use Rattle.volume.proofs.Heights.{true_part_at}

module _ (image : List ℕ → List ℕ) where
  -- equal blocks leave it to the rest
  pub differ_same : (truth recorded : List ℕ) (rest : Option (List ℕ × List ℕ)) → truth ≡ recorded → differ image truth recorded rest ≡ rest
  differ_same truth recorded rest same = cond-true (bytes_eq truth recorded) rest _ ((bytes_eq-Decides truth recorded).1 same)

  not_equal : (xs ys : List ℕ) → xs ≢ ys → bytes_eq xs ys ≡ false
  not_equal xs ys other = false_from_ne_true (bytes_eq xs ys) (λ e. other ((bytes_eq-Decides xs ys).0 e))

  -- blocks that differ do not
  pub differ_other : (truth recorded : List ℕ) (rest : Option (List ℕ × List ℕ)) → truth ≢ recorded → differ image truth recorded rest ≡ differ image truth recorded None
  differ_other truth recorded rest other =
      cond-false (bytes_eq truth recorded) rest _ (not_equal truth recorded other) ∙ sym (cond-false (bytes_eq truth recorded) None _ (not_equal truth recorded other))

  -- and are the pair where their images agree
  pub differ_pair : (truth recorded : List ℕ) (rest : Option (List ℕ × List ℕ)) → truth ≢ recorded → image truth ≡ image recorded → differ image truth recorded rest ≡ Some (truth, recorded)
  differ_pair truth recorded rest other same =
      cond-false (bytes_eq truth recorded) rest _ (not_equal truth recorded other) ∙ cond-true (bytes_eq (image truth) (image recorded)) (Some (truth, recorded)) None ((bytes_eq-Decides (image truth) (image recorded)).1 same)

  -- two blocks that differ and have one image
  abbrev pub Shows : List ℕ × List ℕ → Type 0
  Shows p = (p.0 ≢ p.1) × (image p.0 ≡ image p.1)

  differ_shows : (truth recorded : List ℕ) (rest : Option (List ℕ × List ℕ)) → IfSome rest Shows → IfSome (differ image truth recorded rest) Shows
  differ_shows truth recorded rest shows =
      cond_both (bytes_eq truth recorded) rest _ (λ o. IfSome o Shows) (λ same. shows)
      (λ other.
      cond_both (bytes_eq (image truth) (image recorded)) (Some (truth, recorded)) None (λ o. IfSome o Shows)
      (λ alike. (λ e. both_ways (bytes_eq truth recorded) other ((bytes_eq-Decides truth recorded).1 e), (bytes_eq-Decides (image truth) (image recorded)).0 alike))
      (λ unlike. tt))

  module _ (bs : List (List ℕ)) (n : ℕ) (record_area : List ℕ) where
    descend_shows : (j : ℕ) → IfSome (descend image bs n record_area j) Shows
    descend_shows zero = tt
    descend_shows (suc j) = differ_shows (true_part image bs n j) (part record_area j) (descend image bs n record_area j) (descend_shows j)

    -- what is found is a pair that differs and has one image
    pub extract_shows : IfSome (extract image bs n record_area) Shows
    unfolding extract
    extract_shows =
        cond_both (ltb n (length bs) && eqb (length record_area) 2048) (descend image bs n record_area (suc (levels (length bs)))) None (λ o. IfSome o Shows)
        (λ fits. descend_shows (suc (levels (length bs)))) (λ not. tt)

    -- at a number past the blocks nothing is found
    pub none_past : length bs ≤ n → extract image bs n record_area ≡ None
    unfolding extract
    none_past past = cond-false (ltb n (length bs) && eqb (length record_area) 2048) _ None (and_left _ _ (le-ltb n (length bs) past))

    -- nor in a record of another length
    pub none_long : length record_area ≢ 2048 → extract image bs n record_area ≡ None
    unfolding extract
    none_long other = cond-false (ltb n (length bs) && eqb (length record_area) 2048) _ None (and_right _ _ (ne_eqb (length record_area) 2048 other))

    module _ (inside : n < length bs) (whole : length record_area ≡ 2048) where
      -- in all other cases the parts are compared from the top on
      pub extract_is : extract image bs n record_area ≡ descend image bs n record_area (suc (levels (length bs)))
      unfolding extract
      extract_is =
          cond-true (ltb n (length bs) && eqb (length record_area) 2048) (descend image bs n record_area (suc (levels (length bs)))) None
          (and_from _ _ (lt-ltb n (length bs) inside) (eq-eqb (length record_area) 2048 whole))

      -- the part of a height is compared: where it is the true one, the parts below it are left, and where not, it is told
      module _ (h : ℕ) (truth recorded : List ℕ) (true_there : truth ≡ get_or (blocks_at image bs h) (n / 2 ^ (4 * h)) []) (recorded_there : recorded ≡ part record_area h) where
        here : descend image bs n record_area (suc h) ≡ differ image truth recorded (descend image bs n record_area h)
        here =
            let t : true_part image bs n h ≡ truth = true_part_at image bs n inside h ∙ sym true_there in
            let r : part record_area h ≡ recorded = sym recorded_there in
            (λ i. differ image (t i) (r i) (descend image bs n record_area h))

        pub goes_on : truth ≡ recorded → extract image bs n record_area ≡ descend image bs n record_area (suc h) → extract image bs n record_area ≡ descend image bs n record_area h
        goes_on same so_far = so_far ∙ here ∙ differ_same truth recorded (descend image bs n record_area h) same

        pub stops : truth ≢ recorded → extract image bs n record_area ≡ descend image bs n record_area (suc h) → differ image truth recorded None ≡ extract image bs n record_area
        stops other so_far = sym (so_far ∙ here ∙ differ_other truth recorded (descend image bs n record_area h) other)

      -- parts that are the true ones leave it to those below them
      down_to : (k m : ℕ) → k < m → ((j : ℕ) → k < j → j < m → part record_area j ≡ true_part image bs n j) → descend image bs n record_area m ≡ descend image bs n record_area (suc k)
      down_to k zero h equal = absurd (omega arith)
      down_to k (suc m) h equal =
          ⊎_elim
          (λ before.
          differ_same (true_part image bs n m) (part record_area m) (descend image bs n record_area m) (sym (equal m before (omega arith))) ∙ down_to k m before (λ j a b. equal j a (omega arith)))
          (λ here. let same : m ≡ k = omega arith in ap (λ j. descend image bs n record_area (suc j)) same) (cases_lt k m)

      -- the highest part that is not the true one is found, if its image agrees
      pub found_at : (k : ℕ) → k ≤ levels (length bs) → ((j : ℕ) → k < j → j ≤ levels (length bs) → part record_area j ≡ true_part image bs n j) → part record_area k ≢ true_part image bs n k
          → image (true_part image bs n k) ≡ image (part record_area k) → extract image bs n record_area ≡ Some (true_part image bs n k, part record_area k)
      found_at k h equal other alike =
          extract_is ∙ down_to k (suc (levels (length bs))) (omega arith) (λ j a b. equal j a (omega arith))
          ∙ differ_pair (true_part image bs n k) (part record_area k) (descend image bs n record_area k) (λ e. other (sym e)) alike

      -- so there is a collision
      pub collision_at : (k : ℕ) → k ≤ levels (length bs) → ((j : ℕ) → k < j → j ≤ levels (length bs) → part record_area j ≡ true_part image bs n j) → part record_area k ≢ true_part image bs n k
          → image (true_part image bs n k) ≡ image (part record_area k) → Collision image bs n record_area
      collision_at k h equal other alike =
          record { truth = true_part image bs n k; recorded = part record_area k; found = found_at k h equal other alike; differ = λ e. other (sym e); alike = alike }
