-- A walk told level by level.
use Rattle.std.proofs.Common.{◌≡◌, ℕ, suc, Option, List, Result, Ok, Err, MatchResult, sym, refl, subst}
use Rattle.device.specs.declared.fault.Fault.{Fault}
use Rattle.device.specs.declared.source.Source
use Rattle.device.specs.Memory.{with_part}
use Rattle.geometry.specs.Geometry.{place}
use Rattle.tree.specs.Paths.{cell_at}
use Rattle.volume.specs.declared.refusal.Refusal.{Refusal}
use Rattle.volume.specs.Refusals.{Reason, reason, told, tree_block}
use Rattle.volume.specs.Walk.{Descended, Walked}

module _ {S : Type 0} (g : Source.Ghosts S) (image : List ℕ → List ℕ) (blocks n height : ℕ) (root blank_log : List ℕ) (first : S) where
  -- whatever the walk over the levels below this one comes to, the whole walk comes to
  pub record SoFar (level : ℕ) (expected log : List ℕ) (s : S) : Type 0 where
    pub comes : (answer : Result (List ℕ) Reason) (left : List ℕ) (t : S) → Walked g image blocks n level expected log s answer left t → Walked g image blocks n height root blank_log first answer left t

  -- no level is left
  pub all_passed : (level : ℕ) (expected log : List ℕ) (s : S) → level ≡ 0 → SoFar level expected log s → Walked g image blocks n height root blank_log first (Ok expected) log s
  all_passed level expected log s none so_far = so_far.comes (Ok expected) log s (subst (λ k. Walked g image blocks n k expected log s (Ok expected) log s) (sym none) (refl, refl, refl))

  module _ (l : ℕ) (expected log : List ℕ) (s : S) (next left : List ℕ) (between : S) where
    abbrev number : ℕ
    number = (place blocks l n).0

    abbrev cell : ℕ
    cell = (place blocks l n).1

    -- what comes of a level's block, by what is answered
    abbrev Came : Result Unit Reason → Result (List ℕ) (Option Fault) → S → Type 0
    Came answer outcome found =
        MatchResult outcome (λ bytes. (answer ≡ Ok tt) × (next ≡ cell_at bytes cell) × (left ≡ with_part log (suc l) bytes) × (between ≡ found))
        (λ why. (answer ≡ Err (tree_block l number why)) × (left ≡ log) × (between ≡ found))

    passed : (outcome : Result (List ℕ) (Option Fault)) (found : S) (answer : Result (List ℕ) Reason) (at_end : List ℕ) (t : S) → Came (Ok tt) outcome found → Walked g image blocks n l next left between answer at_end t
        → MatchResult outcome (λ bytes. Walked g image blocks n l (cell_at bytes cell) (with_part log (suc l) bytes) found answer at_end t) (λ why. (answer ≡ Err (tree_block l number why)) × (at_end ≡ log) × (t ≡ found))
    passed (Ok bytes) found answer at_end t (same, to, into, by) rest =
        subst (λ e. Walked g image blocks n l e (with_part log (suc l) bytes) found answer at_end t) to
        (subst (λ r. Walked g image blocks n l next r found answer at_end t) into (subst (λ u. Walked g image blocks n l next left u answer at_end t) by rest))
    passed (Err why) found answer at_end t (clash, stands, by) rest = cc

    got_stuck : (refusal : Reason) (outcome : Result (List ℕ) (Option Fault)) (found : S) → Came (Err refusal) outcome found
        → MatchResult outcome (λ bytes. Walked g image blocks n l (cell_at bytes cell) (with_part log (suc l) bytes) found (Err refusal) left between) (λ why. (◌≡◌ {A = Result (List ℕ) Reason} (Err refusal) (Err (tree_block l number why))) × (left ≡ log) × (between ≡ found))
    got_stuck refusal (Ok bytes) found (clash, to, into, by) = cc
    got_stuck refusal (Err why) found (same, stands, by) = (cc, stands, by)

    -- a level as the code has it: its block passed
    pub down : (level : ℕ) (place_there : ℕ × ℕ) (result : Result Unit Refusal) → level ≡ suc l → place_there ≡ place blocks l n → result ≡ Ok tt → SoFar level expected log s
        → Descended g image l place_there.0 place_there.1 expected log s (told result) next left between → SoFar l next left between
    down level place_there result up at came so_far d =
        let here = subst (λ p. Descended g image l p.0 p.1 expected log s (Ok tt) next left between) at (subst (λ r. Descended g image l place_there.0 place_there.1 expected log s (told r) next left between) came d) in
        let whole = subst (λ k. SoFar k expected log s) up so_far in
        record {
          comes = λ answer at_end t rest.
              whole.comes answer at_end t (record { outcome = here.outcome; between = here.between; search = here.search; goes_on = passed here.outcome here.between answer at_end t here.goes_on rest });
        }

    -- or none of its ways did
    pub stuck : (level : ℕ) (place_there : ℕ × ℕ) (result : Result Unit Refusal) (refusal : Refusal) → level ≡ suc l → place_there ≡ place blocks l n → result ≡ Err refusal → SoFar level expected log s
        → Descended g image l place_there.0 place_there.1 expected log s (told result) next left between → Walked g image blocks n height root blank_log first (Err (reason refusal)) left between
    stuck level place_there result refusal up at came so_far d =
        let here = subst (λ p. Descended g image l p.0 p.1 expected log s (Err (reason refusal)) next left between) at (subst (λ r. Descended g image l place_there.0 place_there.1 expected log s (told r) next left between) came d) in
        let whole = subst (λ k. SoFar k expected log s) up so_far in
        whole.comes (Err (reason refusal)) left between
        (record { outcome = here.outcome; between = here.between; search = here.search; goes_on = got_stuck (reason refusal) here.outcome here.between here.goes_on })
