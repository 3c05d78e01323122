-- The blocks of a height: how many there are, how one is made of those below it, and which are on the way of a data block.
use Rattle.std.proofs.Common.{◌≡◌, ℕ, zero, suc, ◌+◌, ◌-◌, ◌*◌, ◌/◌, ◌^◌, ◌<◌, ◌≤◌, min, List, [], map, length, get_or, take, drop, set, sym, refl, ap, ◌∙◌, div-one, arith, length-drop, length-take}
use lib.ListN.{length-map}
use Rattle.std.proofs.lemmas.List.{drop-map, take-map, get_or-drop, get_or-take}
use Rattle.std.proofs.lemmas.Nat.{shr_le}
use Rattle.geometry.specs.Geometry.{up}
use Rattle.geometry.proofs.Numbers.{place_inside, sixteens, width_shifted}
use Rattle.tree.specs.Layout.{level, pack, side_by_side}
use Rattle.tree.specs.Paths.{true_part}
use Rattle.tree.proofs.Cells.{flat, get_or-pack, length-pack, sixteen}
use Rattle.tree.proofs.Levels.{first, first_all, first_more}
use Rattle.tree.proofs.Whole.{length-level}
use Rattle.volume.specs.Extract.{blocks_at}

module _ (image : List ℕ → List ℕ) where
  -- a block made of the images of up to sixteen blocks, those from number 16 at on
  module _ (below cells : List (List ℕ)) (at i : ℕ) where
    -- how many those are
    long : length (sixteen below at) ≡ min 16 (length below - 16 * at)
    long = length-take 16 (drop (16 * at) below) ∙ ap (min 16) (length-drop (16 * at) below)

    -- one cell more
    pub cell_more : (block cell : List ℕ) → i < min (length below - 16 * at) 16 → cells ≡ first image (sixteen below at) i → block ≡ get_or below (16 * at + i) [] → cell ≡ image block → set cells i cell ≡ first image (sixteen below at) (i + 1)
    cell_more block cell h so_far read hashed =
        let here : get_or (sixteen below at) i [] ≡ get_or below (16 * at + i) [] = get_or-take 16 (drop (16 * at) below) i [] (omega arith) ∙ get_or-drop (16 * at) below i [] in
        first_more image (sixteen below at) cells i cell (omega (arith, long)) (omega (arith, long)) so_far (hashed ∙ ap image (read ∙ sym here))

    -- all cells are block `at` of the height above
    pub cell_all : (level : List (List ℕ)) → at < up (length below) → i ≡ min (length below - 16 * at) 16 → pack (map image below) ≡ level → cells ≡ first image (sixteen below at) i → flat cells ≡ get_or level at []
    cell_all level inside e packed so_far =
        let images : sixteen (map image below) at ≡ map image (sixteen below at) = ap (take 16) (drop-map image (16 * at) below) ∙ take-map image 16 (drop (16 * at) below) in
        first_all image (sixteen below at) cells i (omega (arith, long)) (omega (arith, long)) so_far
        ∙ sym (get_or-pack (map image below) at [] (omega (arith, length-map below image)) ∙ ap side_by_side images) ∙ ap (λ l. get_or l at []) packed

  module _ (bs : List (List ℕ)) where
    -- a height above the data blocks packs the images of the height below it
    pub packs : (h : ℕ) → blocks_at image bs (suc h) ≡ pack (map image (blocks_at image bs h))
    packs zero = refl
    packs (suc l) = refl

    pub length-up : (h : ℕ) → length (blocks_at image bs (suc h)) ≡ up (length (blocks_at image bs h))
    length-up h = ap length (packs h) ∙ length-pack (map image (blocks_at image bs h)) ∙ ap up (length-map (blocks_at image bs h) image)

    pub length-blocks_at : (h : ℕ) → 1 ≤ length bs → length (blocks_at image bs h) ≡ (length bs - 1) / 2 ^ (4 * h) + 1
    length-blocks_at zero least = omega (arith, div-one (length bs - 1))
    length-blocks_at (suc l) least =
        let e : 4 * suc l ≡ 4 * l + 4 = omega arith in
        length-level image bs l ∙ sym (width_shifted (length bs) l least) ∙ ap (λ m. (length bs - 1) / 2 ^ m + 1) (sym e)

    -- what is known of the height `low` below a block that is made
    pub record Below (height low at len : ℕ) : Type 0 where
      pub count : (len - 1) / 2 ^ (4 * low) + 1 ≡ length (blocks_at image bs low)
      pub inside : at < up (length (blocks_at image bs low))
      pub few : (len - 1) / 2 ^ (4 * low) < len
      pub packed : pack (map image (blocks_at image bs low)) ≡ blocks_at image bs height

    pub below_it : (height low at len : ℕ) → height ≡ suc low → 1 ≤ len → len ≡ length bs → at < length (blocks_at image bs height) → Below height low at len
    below_it height low at len next least same inside =
        record {
          count = ap (λ n. (n - 1) / 2 ^ (4 * low) + 1) same ∙ sym (length-blocks_at low (omega arith));
          inside = omega (arith, ap (λ h. length (blocks_at image bs h)) next, length-up low);
          few = omega (arith, shr_le (len - 1) (4 * low));
          packed = sym (packs low) ∙ ap (blocks_at image bs) (sym next);
        }

    module _ (k : ℕ) (inside : k < length bs) where
      -- the part of a height is the block of that height on the way
      pub true_part_at : (h : ℕ) → true_part image bs k h ≡ get_or (blocks_at image bs h) (k / 2 ^ (4 * h)) []
      true_part_at zero = ap (λ j. get_or bs j []) (sym (div-one k))
      true_part_at (suc l) = ap (λ p. get_or (level image l bs) (k / p) []) (sym (sixteens (suc l)))

      -- and that height has it
      pub on_height : (h : ℕ) → k / 2 ^ (4 * h) < length (blocks_at image bs h)
      on_height zero = omega (arith, div-one k)
      on_height (suc l) = omega (arith, ap (λ p. k / p) (sixteens (suc l)), length-level image bs l, place_inside (length bs) l k (omega arith) inside)
