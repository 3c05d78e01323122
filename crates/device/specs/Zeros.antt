-- A block of zeros.
use Rattle.std.specs.Prelude.{ℕ, List, replicate}

-- what a refused read leaves: 512 zeros. It unfolds only where a proof names it, so that no other writes them out
unfoldable pub zeros : List ℕ
zeros = replicate 512 0
