-- Worked cases: what the rules say of some small examples, each line with what goes in and what comes out.
use Rattle.std.specs.Prelude.{◌≡◌, [], ◌∷◌, map}
use Rattle.device.specs.Evictions.{EvictsAfter}
use Rattle.device.specs.Meaning.{Meaning}
use Rattle.device.specs.Mirror.{mirror_over}
use Rattle.device.specs.Offset.{offset_over}
use Rattle.geometry.specs.Geometry.{place, total}

pub record WorkedCases : Type 0 where
  -- the tree blocks over so many data blocks
  pub totals : map total (1 ∷ 16 ∷ 17 ∷ 256 ∷ 257 ∷ 4096 ∷ []) ≡ 1 ∷ 1 ∷ 3 ∷ 17 ∷ 20 ∷ 273 ∷ []
  -- of 257 data blocks, the places of block 256 at the levels 0, 1 and 2
  pub places : map (λ l. place 257 l 256) (0 ∷ 1 ∷ 2 ∷ []) ≡ (19, 0) ∷ (2, 0) ∷ (0, 1) ∷ []
  -- the blocks of an offset of 10 from block 5 on, where the source below has so many
  pub offset : (below : Meaning) → map (λ n. (offset_over 5 10 (record below { blocks = n })).blocks) (8 ∷ 5 ∷ []) ≡ 3 ∷ 0 ∷ []
  -- the blocks and the ways of a mirror of 5 and 4 ways, which is more than a source may have
  pub mirror : (first second : Meaning) → let both = mirror_over (record first { ways = 5 }) (record second { ways = 4 }) in (both.blocks ≡ 0) × (both.ways ≡ 8)
  -- the line that makes room for block 9, after writes of these blocks: of the least written the one with the lowest number
  pub evictions : EvictsAfter (8 ∷ 7 ∷ 6 ∷ 5 ∷ 4 ∷ 3 ∷ 2 ∷ 1 ∷ []) 9 1 × EvictsAfter (8 ∷ 7 ∷ 6 ∷ 5 ∷ 4 ∷ 3 ∷ 2 ∷ 1 ∷ 1 ∷ []) 9 2
