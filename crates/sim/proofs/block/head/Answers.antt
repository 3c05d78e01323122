use Rattle.std.proofs.Common.{◌≡◌, ℕ, ◌≤◌, List, ◌++◌, length, replicate, sym, ap, ◌∙◌, arith, length-append, rules}
use borrow.Rule.Slice.PartMut.{put_mid}
use Rattle.std.proofs.lemmas.List.{append_assoc, append-nil}
use Rattle.sim.specs.Block.{sim_head, little_endian}
use Rattle.sim.proofs.Bytes.{put_after, little_4, little_8}
use Rattle.sim.proofs.block.head.Goals as goal

two : (d k : List ℕ) → length d ≡ 20 → length k ≡ 4 → put_mid 20 4 (d ++ replicate 12 0) k ≡ d ++ (k ++ replicate 8 0)
two d k long wide = put_after d k 20 4 8 long wide

two_long : (d k : List ℕ) → length d ≡ 20 → length k ≡ 4 → 32 ≤ length (put_mid 20 4 (d ++ replicate 12 0) k)
two_long d k long wide = rw (two d k long wide, length-append, length-append) (omega arith)

three : (d k s : List ℕ) → length d ≡ 20 → length k ≡ 4 → length s ≡ 8 → put_mid 24 8 (put_mid 20 4 (d ++ replicate 12 0) k) s ≡ d ++ (k ++ s)
three d k s long wide more =
    let both : length (d ++ k) ≡ 24 = simp length-append (omega arith) in
    ap (λ xs. put_mid 24 8 xs s) (two d k long wide ∙ sym (append_assoc d k (replicate 8 0))) ∙ put_after (d ++ k) s 24 8 0 both more ∙ ap (λ xs. (d ++ k) ++ xs) (append-nil s) ∙ append_assoc d k s

pub slice_bounds-bytes-end-3 : goal.slice_bounds-bytes-end-3
slice_bounds-bytes-end-3 c = two_long c.copy_from_slice.new.self c.copy_from_slice-2.new.self (search rules) (search rules)

pub returns : goal.returns
unfolding sim_head
returns c =
    let a = c.copy_from_slice.ensures.after ∙ c.padded_digits.ensures in
    let b = c.copy_from_slice-2.ensures.after ∙ c.to_le_bytes.ensures ∙ little_4 _ ∙ ap (little_endian 4) c.from.ensures in
    let d = c.copy_from_slice-3.ensures.after ∙ c.to_le_bytes-2.ensures ∙ little_8 _ in
    three _ _ _ (search rules) (search rules) (search rules) ∙ (λ i. a i ++ (b i ++ d i))
