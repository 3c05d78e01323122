-- Writes up a path of true tree blocks move the layout and the root to the contents with the block put in.
use Rattle.std.proofs.Common.{◌≡◌, ℕ, zero, suc, ◌<◌, ◌≤◌, Option, None, List, length, set, Ok, sym, ap, ◌∙◌, subst, length-set, arith}
use Rattle.std.proofs.lemmas.List.Elements.{All-set}
use Rattle.device.specs.Meaning.{Exists, IsSure, Meaning, Stays}
use Rattle.device.specs.Memory.{part}
use Rattle.geometry.specs.Geometry.{levels, place, total}
use Rattle.tree.specs.Layout.{root_of, tree_of}
use Rattle.tree.specs.Paths.{risen, true_part}
use Rattle.tree.proofs.Updates.{old_part, risen_agree, root_set, tree_set, written_agree, written_up}
use Rattle.volume.specs.Effects.{Lie}
use Rattle.volume.specs.Promise.{AreContents, Laid, SurePath}
use Rattle.volume.specs.Refusals.{Stuck, data_unwritten, tree_unwritten}
use Rattle.volume.specs.Writes.{first_failed, passed_at}
use Rattle.volume.proofs.Effects.{exists_still, stays_more, stays_none}
use Rattle.volume.proofs.Lies.{lie_written, sure_written}
use Rattle.volume.proofs.Meant.{PathPut, PutUp}
use Rattle.volume.proofs.Truths.{place_on_tree}

-- the contents with one block put in are contents
pub contents_set : (contents : List (List ℕ)) (n : ℕ) (block : List ℕ) → length block ≡ 512 → AreContents contents → AreContents (set contents n block)
contents_set contents n block long are =
    let size = length-set contents n block in
    record { least = omega (arith, size, are.least); most = omega (arith, size, are.most); whole = All-set (λ b. length b ≡ 512) contents n block long are.whole }

module _ (image : List ℕ → List ℕ) (blocks n : ℕ) (log block : List ℕ) (first : Option Stuck) (m : Meaning) where
  -- the writes up the tree leave the counts, and what is sound
  pub put_stays : (l : ℕ) (failed : Option Stuck) (m' : Meaning) → PutUp image blocks n log block first m l failed m' → Stays m m'
  put_stays zero failed m' (stands, is) = subst (Stays m) (sym is) (stays_none m)
  put_stays (suc l) failed m' up = stays_more (put_stays l up.failed up.meaning up.lower) up.level.written.stays

  -- whatever lies on the tree device lies there with the new blocks of the lowest l levels after they were put
  pub put_lies : (tree : List (List ℕ)) → Lie m tree → (l : ℕ) (failed : Option Stuck) (m' : Meaning) → PutUp image blocks n log block first m l failed m' → Lie m' (written_up image blocks n (passed_at log) block tree l)
  put_lies tree lie zero failed m' (stands, is) = subst (λ d. Lie d tree) (sym is) lie
  put_lies tree lie (suc l) failed m' up = lie_written (written_up image blocks n (passed_at log) block tree l) (put_lies tree lie l up.failed up.meaning up.lower) up.level.written

  -- the writes up the tree leave every sure cell sure
  pub put_sure : (l : ℕ) (failed : Option Stuck) (m' : Meaning) → PutUp image blocks n log block first m l failed m' → (way k : ℕ) → Exists m way k → IsSure (m.cell way k) → IsSure (m'.cell way k)
  put_sure zero failed m' (stands, is) way k there sure = subst (λ d. IsSure (d.cell way k)) (sym is) sure
  put_sure (suc l) failed m' up way k there sure =
      sure_written up.level.written way k (exists_still (put_stays l up.failed up.meaning up.lower) way k there) (put_sure l up.failed up.meaning up.lower way k there sure)

  -- with a sure cell for the block of each level, none of the writes up the tree is refused
  pub put_goes : (l : ℕ) (failed : Option Stuck) (m' : Meaning) → ((j : ℕ) → j < l → (way : ℕ) × Exists m way (place blocks j n).0 × IsSure (m.cell way (place blocks j n).0)) → first ≡ None
      → PutUp image blocks n log block first m l failed m' → failed ≡ None
  put_goes zero failed m' reaches none (stands, is) = stands ∙ none
  put_goes (suc l) failed m' reaches none up =
      let number = (place blocks l n).0 in
      let found = reaches l (omega arith) in
      let there : Exists up.meaning found.0 number = exists_still (put_stays l up.failed up.meaning up.lower) found.0 number found.1 in
      let taken : up.level.answer ≡ Ok tt = up.level.written.taken found.0 there (put_sure l up.failed up.meaning up.lower found.0 number found.1 found.2) in
      let before : up.failed ≡ None = put_goes l up.failed up.meaning (λ j h. reaches j (omega arith)) none up.lower in
      up.level.told ∙ ap (λ b. first_failed b (tree_unwritten l number) up.level.answer) before ∙ ap (first_failed None (tree_unwritten l number)) taken

-- what writes on a path have made of devices with these contents
pub record Moved (image : List ℕ → List ℕ) (contents : List (List ℕ)) (blocks n : ℕ) (log block : List ℕ) (store tree : Meaning) (failed : Option Stuck) (store' tree' : Meaning) : Type 0 where
  pub root : risen image blocks n (passed_at log) block (levels blocks) ≡ root_of image (set contents n block)
  pub lays : Laid image store tree contents → Laid image store' tree' (set contents n block)
  pub stays_store : Stays store store'
  pub stays_tree : Stays tree tree'
  -- with a sure cell for each block on the path, none is refused
  pub goes : store.blocks ≡ length contents → total (length contents) ≤ tree.blocks → SurePath store tree (length contents) n → failed ≡ None
  pub are_contents : length block ≡ 512 → AreContents (set contents n block)
  pub size : length (set contents n block) ≡ length contents

module _ (image : List ℕ → List ℕ) (contents : List (List ℕ)) (are : AreContents contents) (wide : (b : List ℕ) → length (image b) ≡ 32) (n : ℕ) (inside : n < length contents) (log block : List ℕ) where
  -- the tree blocks of the record are the true ones
  abbrev AllTrue : Type 0
  AllTrue = (i : ℕ) → 1 ≤ i → i ≤ levels (length contents) → part log i ≡ true_part image contents n i

  passed_truly : AllTrue → (l : ℕ) → l < levels (length contents) → old_part image contents n l ≡ passed_at log l
  passed_truly right l h = sym (right (suc l) (omega arith) h)

  root_moves : AllTrue → risen image (length contents) n (passed_at log) block (levels (length contents)) ≡ root_of image (set contents n block)
  root_moves right =
      sym (root_set image wide contents are.least are.most n inside block ∙ risen_agree image (length contents) n block (old_part image contents n) (passed_at log) (levels (length contents)) (passed_truly right))

  tree_moves : AllTrue → tree_of image (set contents n block) ≡ written_up image (length contents) n (passed_at log) block (tree_of image contents) (levels (length contents))
  tree_moves right =
      tree_set image wide contents are.least are.most n inside block
      ∙ written_agree image (length contents) n block (old_part image contents n) (passed_at log) (tree_of image contents) (levels (length contents)) (passed_truly right)

  module _ (store tree : Meaning) (failed : Option Stuck) (store' tree' : Meaning) (put : PathPut image (length contents) n log block store tree failed store' tree') where
    lays_anew : AllTrue → Laid image store tree contents → Laid image store' tree' (set contents n block)
    lays_anew right laid =
        let lies : Lie tree' (written_up image (length contents) n (passed_at log) block (tree_of image contents) (levels (length contents))) =
        put_lies image (length contents) n log block put.first tree (tree_of image contents) laid.in_tree (levels (length contents)) failed tree' put.tree_blocks in
        record { in_store = lie_written contents laid.in_store put.data_block.written; in_tree = subst (Lie tree') (sym (tree_moves right)) lies }

    none_refused : store.blocks ≡ length contents → total (length contents) ≤ tree.blocks → SurePath store tree (length contents) n → failed ≡ None
    none_refused whole enough path =
        let data_there : Exists store path.of_data.0 n = record { way_below = path.of_data.1; below = omega (arith, whole, inside) } in
        let taken : put.data_block.answer ≡ Ok tt = put.data_block.written.taken path.of_data.0 data_there path.of_data.2 in
        put_goes image (length contents) n log block put.first tree (levels (length contents)) failed tree'
        (λ l h.
        let found = path.of_tree l h in
        (found.0, record { way_below = found.1; below = omega (arith, enough, place_on_tree (length contents) l n are.least inside h) }, found.2))
        (put.data_block.told ∙ ap (first_failed None (data_unwritten n)) taken) put.tree_blocks

    moved : AllTrue → Moved image contents (length contents) n log block store tree failed store' tree'
    moved right =
        record {
          root = root_moves right;
          lays = lays_anew right;
          stays_store = put.data_block.written.stays;
          stays_tree = put_stays image (length contents) n log block put.first tree (levels (length contents)) failed tree' put.tree_blocks;
          goes = none_refused;
          are_contents = λ long. contents_set contents n block long are;
          size = length-set contents n block;
        }

-- writes on a path whose walk found the true tree blocks move the layout and the root
pub write_moves : (image : List ℕ → List ℕ) (contents : List (List ℕ)) → AreContents contents → ((b : List ℕ) → length (image b) ≡ 32) → (blocks n : ℕ) → n < length contents → blocks ≡ length contents
    → (log block : List ℕ) (store tree : Meaning) (failed : Option Stuck) (store' tree' : Meaning) → PathPut image blocks n log block store tree failed store' tree'
    → ((i : ℕ) → 1 ≤ i → i ≤ levels (length contents) → part log i ≡ true_part image contents n i) → Moved image contents blocks n log block store tree failed store' tree'
write_moves image contents are wide blocks n inside same log block store tree failed store' tree' put right =
    subst (λ b. Moved image contents b n log block store tree failed store' tree') (sym same)
    (moved image contents are wide n inside log block store tree failed store' tree' (subst (λ b. PathPut image b n log block store tree failed store' tree') same put) right)
