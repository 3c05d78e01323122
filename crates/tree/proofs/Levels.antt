-- A block filled image by image, and a level block by block.
use Rattle.std.proofs.Common.{◌≡◌, ℕ, suc, ◌+◌, ◌-◌, ◌*◌, ◌<◌, ◌≤◌, min, List, [], ◌∷◌, ◌++◌, map, length, get_or, take, set, replicate, sym, ap, ◌∙◌, append_assoc, append-nil, arith, length-append, length-set}
use lib.ListN.{length-map}
use Rattle.std.proofs.lemmas.List.Elements.{All-map}
use Rattle.std.proofs.lemmas.List.{length-take-le, map-append, map_more, nil_from_length, set_at, take_all, take_more_set}
use Rattle.geometry.specs.Geometry.{up}
use Rattle.tree.specs.Layout.{side_by_side, pack}
use Rattle.tree.proofs.Cells.{Wide, flat, flat_padded, length-pack, pack_next, side_more}
use borrow.Rule.Slice.PartMut.{put_mid}

module _ (image : List ℕ → List ℕ) where
  pub wide_images : ((block : List ℕ) → length (image block) ≡ 32) → (blocks : List (List ℕ)) → Wide (map image blocks)
  wide_images wide blocks = All-map (λ c. length c ≡ 32) image blocks (λ k d h. wide (get_or blocks k d))

  -- the image of the next block is written after those of the blocks before it
  pub image_more : ((block : List ℕ) → length (image block) ≡ 32) → (blocks : List (List ℕ)) (made cell : List ℕ) (i k : ℕ) → i < length blocks → k ≡ 32 → made ≡ side_by_side (map image (take i blocks)) → cell ≡ image (get_or blocks i []) → put_mid (32 * i) k made cell ≡ side_by_side (map image (take (i + 1) blocks))
  image_more wide blocks made cell i k h size so_far read =
      let long : length (map image (take i blocks)) ≡ i = length-map (take i blocks) image ∙ length-take-le i blocks (omega arith) in
      (λ j. put_mid (32 * i) k (so_far j) (read j))
      ∙ side_more (map image (take i blocks)) (image (get_or blocks i [])) i k (wide_images wide (take i blocks)) long size
      ∙ ap side_by_side (sym (map_more image blocks i [] h))

  -- the images of the first i blocks, and cells of zeros in place of the others
  abbrev pub first : List (List ℕ) → ℕ → List (List ℕ)
  first blocks i = map image (take i blocks) ++ replicate (16 - i) (replicate 32 0)

  pub first_more : (blocks cells : List (List ℕ)) (i : ℕ) (cell : List ℕ) → i < length blocks → length blocks ≤ 16 → cells ≡ first blocks i → cell ≡ image (get_or blocks i []) → set cells i cell ≡ first blocks (i + 1)
  first_more blocks cells i cell h few so_far read =
      let zero_cell : List ℕ = replicate 32 0 in
      let done = map image (take i blocks) in
      let rest = replicate (16 - (i + 1)) zero_cell in
      let long : length done ≡ i = length-map (take i blocks) image ∙ length-take-le i blocks (omega arith) in
      let left : 16 - i ≡ suc (16 - (i + 1)) = omega arith in
      ap (λ l. set l i cell) (so_far ∙ ap (λ n. done ++ replicate n zero_cell) left) ∙ set_at done zero_cell rest cell i long
      ∙ sym (append_assoc done (cell ∷ []) rest) ∙ ap (λ l. l ++ rest) (ap (λ c. done ++ c ∷ []) read ∙ sym (map_more image blocks i [] h))

  pub first_all : (blocks cells : List (List ℕ)) (i : ℕ) → i ≡ length blocks → length blocks ≤ 16 → cells ≡ first blocks i → flat cells ≡ side_by_side (map image blocks)
  first_all blocks cells i e few so_far =
      let n : length (map image blocks) ≡ i = length-map blocks image ∙ sym e in
      ap flat (so_far ∙ (λ k. map image (take_all i blocks (omega arith) k) ++ replicate (16 - sym n k) (replicate 32 0))) ∙ flat_padded (map image blocks) (omega arith)

  -- the first j blocks of a level are made, from all blocks below it but the rest
  pub record Made (below level rest : List (List ℕ)) (j : ℕ) : Type 0 where
    pub size : length level ≡ j + up (length rest)
    pub whole : take j level ++ pack (map image rest) ≡ pack (map image below)

  pub made_more : (below level rest sixteen more : List (List ℕ)) (j : ℕ) (block : List ℕ) → Made below level rest j → rest ≡ sixteen ++ more → length sixteen ≡ min 16 (length rest) → 0 < length rest
      → block ≡ side_by_side (map image sixteen) → Made below (set level j block) more (j + 1)
  made_more below level rest sixteen more j block made parts long some is =
      let both : map image rest ≡ map image sixteen ++ map image more = ap (map image) parts ∙ map-append image sixteen more in
      let count : length rest ≡ length sixteen + length more = ap length parts ∙ length-append sixteen more in
      let all : length (map image sixteen ++ map image more) ≡ length rest = ap length (sym both) ∙ length-map rest image in
      let packed : pack (map image rest) ≡ block ∷ pack (map image more) =
      ap pack both ∙ pack_next (map image sixteen) (map image more) (omega arith) (omega (arith, length-map sixteen image)) ∙ ap (λ b. b ∷ pack (map image more)) (sym is) in
      record {
        size = omega (arith, length-set level j block, made.size);
        whole =
            ap (λ l. l ++ pack (map image more)) (take_more_set level j block (omega (arith, made.size))) ∙ append_assoc (take j level) (block ∷ []) (pack (map image more))
            ∙ ap (λ l. take j level ++ l) (sym packed) ∙ made.whole;
      }

  pub made_all : (below level rest : List (List ℕ)) (j : ℕ) → Made below level rest j → length rest ≡ 0 → level ≡ pack (map image below)
  made_all below level rest j made none =
      let nothing : pack (map image rest) ≡ [] = nil_from_length (pack (map image rest)) (omega (arith, length-pack (map image rest), length-map rest image)) in
      sym (append-nil level) ∙ (λ k. sym (take_all j level (omega (arith, made.size))) k ++ sym nothing k) ∙ made.whole
