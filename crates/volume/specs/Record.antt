-- The record area of a call, four blocks long: the data block, and then the tree blocks from level 0 up. Whatever did not pass is zero.
use Rattle.std.specs.Prelude.{ℕ, List, replicate}

-- a record area in which nothing has passed yet
unfoldable pub blank : List ℕ
blank = replicate 2048 0
