-- The lines of a text, and the words of a line.
use Rattle.std.specs.Prelude.{ℕ, Bool, false, ◌||◌, if◌then◌else◌, not, List, [], ◌∷◌, ◌==◌}

-- a byte put before the first piece
abbrev pub onto_first : ℕ → List (List ℕ) → List (List ℕ)
onto_first c [] = (c ∷ []) ∷ []
onto_first c (p ∷ ps) = (c ∷ p) ∷ ps

-- a newline ends a line; what follows the last newline is a line unless it is empty
abbrev pub lines : List ℕ → List (List ℕ)
lines [] = []
lines (c ∷ cs) = if c == 10 then [] ∷ lines cs else onto_first c (lines cs)

-- a space, a tab or a carriage return
abbrev pub blank : ℕ → Bool
blank c = c == 32 || (c == 9 || c == 13)

-- whether a word begins here
abbrev pub begins : List ℕ → Bool
begins [] = false
begins (c ∷ cs) = not (blank c)

-- blanks part the words
abbrev pub words : List ℕ → List (List ℕ)
words [] = []
words (c ∷ cs) = if blank c then words cs else (if begins cs then onto_first c (words cs) else (c ∷ []) ∷ words cs)
