-- How far the rounds of a block have come, as the contracts between its steps say it.
use Rattle.std.specs.Prelude.{◌≡◌, ℕ, ◌+◌, ◌-◌, List, ◌++◌, take, drop, length}
use Rattle.std.specs.Simd.Lanes.{zip2}
use Rattle.digest.specs.Roots.{K}
use Rattle.digest.specs.Sha256.{block_words, plus, rounds, schedule}
use Rattle.digest.specs.declared.schedule.Window.{Window}
use Rattle.digest.specs.declared.variables.Variables.{Variables}

-- the sixteen words of a window
abbrev pub words_of : Window → List ℕ
words_of w = w.w0 ++ (w.w1 ++ (w.w2 ++ w.w3))

-- in the table of sums, those of four words and their constants stand from place t on
abbrev pub HasSums : List ℕ → ℕ → List ℕ → Type 0
HasSums sums t words = (length words ≡ 4) × (take 4 (drop t sums) ≡ zip2 plus (take 4 (drop t K)) words)

-- what the rounds from number t on make of the working variables, with n words of the schedule to come from this window
abbrev pub Left : ℕ → ℕ → Variables → List ℕ → Variables
Left t n v words = rounds v (drop t K) (schedule n words)

-- t rounds of a block are done: the window stands at word t, its sums are in the table, and what is left of the rounds gives what all
-- of them give from the start
pub record Halfway (start : Variables) (block sums : List ℕ) (t : ℕ) (v : Variables) (w : Window) : Type 0 where
  pub first : HasSums sums t w.w0
  pub second : HasSums sums (t + 4) w.w1
  pub third : HasSums sums (t + 8) w.w2
  pub fourth : HasSums sums (t + 12) w.w3
  pub left : Left t (64 - t) v (words_of w) ≡ Left 0 64 start (block_words block)
