-- A line is cut at its first space, and so in one way.
use Rattle.std.proofs.Common.{◌≡◌, ℕ, List, Some, None, sym, ap, ◌∙◌, subst, arith, lit<, Bor}
use Rattle.std.proofs.lemmas.Str.Pattern.{IsSplitOnceResult, split_after, split_parts}
use Rattle.vectors.specs.declared.suite.Suite.{Suite}
use Rattle.vectors.specs.Hex.{unhex}
use Rattle.vectors.specs.Suite.{Writes}
use Rattle.vectors.specs.Vectors.{Says}

module _ (suite : Suite) (line : List ℕ) where
  pub no_space : IsSplitOnceResult 32 line None → (message hash : List ℕ) → Says suite line message hash → ⊥
  no_space split message hash says =
      split_after 32 line says.word says.hex None split (lit< tt) says.cut says.first

  module _ (x y : Bor (List ℕ)) (split : IsSplitOnceResult 32 line (Some (x, y))) where
    parts : (message hash : List ℕ) (says : Says suite line message hash) → (x.now ≡ says.word) × (y.now ≡ says.hex)
    parts message hash says = split_after 32 line says.word says.hex (Some (x, y)) split (lit< tt) says.cut says.first

    pub no_message
        : ((m : List ℕ) → Writes suite x.now m → ⊥)
        → (message hash : List ℕ)
        → Says suite line message hash
        → ⊥
    no_message bad message hash says =
        let e = (parts message hash says).0 in
        bad message (subst (λ k. Writes suite k message) (sym e) says.means)

    pub no_hex : None ≡ unhex y.now → (message hash : List ℕ) → Says suite line message hash → ⊥
    no_hex none message hash says =
        let e = (parts message hash says).1 in
        let both = none ∙ ap unhex e ∙ says.writes in
        let z : ◌≡◌ {A = ℕ} 0 1 = cc in
        omega arith

    pub says : (message hash : List ℕ) → Writes suite x.now message → Some hash ≡ unhex y.now → Says suite line message hash
    says message hash means hex =
        let cut = split_parts 32 line (Some (x, y)) split (lit< tt) in
        record {
          word = x.now;
          hex = y.now;
          cut = cut.0;
          first = cut.1;
          means = means;
          writes = sym hex;
        }
