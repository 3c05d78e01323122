-- The padding of a message, and its blocks in two parts.
use Rattle.std.specs.Prelude.{◌≡◌, ℕ, zero, suc, ◌+◌, ◌-◌, ◌*◌, ◌/◌, ◌<◌, ◌≤◌, List, ◌∷◌, ◌++◌, take, drop, fold, length, replicate, slice_set}
use Rattle.std.proofs.Common.{refl, ap, sym, ◌∙◌, arith, length-append}
use Rattle.std.proofs.lemmas.List.{append-nil, append_assoc, drop_all, drop_at, drop-append-le, drop-drop, drop-replicate, length-drop, length-replicate, length-take-le, take_all, take_at, take-append-drop, take-append-le, take-replicate}
use Rattle.std.proofs.lemmas.Slice.{take-put_mid}
use Rattle.std.proofs.Math.Seq.{set-append_seam, take-append-add}
use Rattle.std.specs.Simd.{first_chunks}
use borrow.Rule.Slice.PartMut.{put_mid}
use Rattle.digest.specs.Sha256.{cut, digest, hash_block, initial, padding, salted_cell, sha256}

-- the mark is set after the bytes that are left, where n zeros stand
marked : (rest : List ℕ) (n : ℕ) → length rest < n → slice_set (rest ++ drop (length rest - 0) (replicate n 0)) (length rest) 128 ≡ rest ++ 128 ∷ replicate (n - 1 - length rest) 0
marked rest n low =
    let all : length rest - 0 ≡ length rest = omega arith in
    let one : n - length rest ≡ suc (n - 1 - length rest) = omega (arith, low) in
    rw (all, drop-replicate {X = ℕ} (length rest) n 0, one) (set-append_seam rest 0 (replicate (n - 1 - length rest) 0) 128)

-- as much of that as leaves room for the length at the end
room : (rest : List ℕ) (a n : ℕ) → length rest < a → a ≤ n → take a (rest ++ 128 ∷ replicate (n - 1 - length rest) 0) ≡ rest ++ 128 ∷ replicate (a - 1 - length rest) 0
room rest a n low high =
    let more : a ≡ length rest + suc (a - 1 - length rest) = omega (arith, low) in
    ap (λ m. take m (rest ++ 128 ∷ replicate (n - 1 - length rest) 0)) more
    ∙ take-append-add rest (128 ∷ replicate (n - 1 - length rest) 0) (suc (a - 1 - length rest))
    ∙ ap (λ zs. rest ++ 128 ∷ zs) (take-replicate {X = ℕ} (a - 1 - length rest) (n - 1 - length rest) 0 (omega (arith, high)))

-- the last blocks as they are written over n zeros
pub last_bytes
    : (rest bits : List ℕ) (end n : ℕ)
    → length rest + 9 ≤ end
    → end ≤ n
    → length bits ≡ 8
    → take end (put_mid (end - 8) (end - (end - 8)) (slice_set (rest ++ drop (length rest - 0) (replicate n 0)) (length rest) 128) bits)
    ≡ rest ++ 128 ∷ (replicate (end - 9 - length rest) 0 ++ bits)
last_bytes rest bits end n low high long =
    let wide : length (rest ++ 128 ∷ replicate (n - 1 - length rest) 0) ≡ n = simp (length-append, length-replicate) (omega (arith, low, high)) in
    let same : end - 8 - 1 - length rest ≡ end - 9 - length rest = omega arith in
    rw (marked rest n (omega (arith, low, high)))
    (take-put_mid (end - 8) (end - (end - 8)) (rest ++ 128 ∷ replicate (n - 1 - length rest) 0) bits end (omega (arith, long, low)) (omega (arith, wide, high))
    ∙ ap (λ front. front ++ bits) (room rest (end - 8) n (omega (arith, low)) (omega (arith, high)))
    ∙ rw same (append_assoc rest (128 ∷ replicate (end - 9 - length rest) 0) bits))

-- the first chunks of a list lie in its first part
chunks_apart : (k j : ℕ) (xs ys : List ℕ) → k * 64 ≤ length xs → first_chunks 64 (k + j) (xs ++ ys) ≡ first_chunks 64 k xs ++ first_chunks 64 j (drop (k * 64) xs ++ ys)
chunks_apart zero j xs ys h =
    let none : 0 + j ≡ j = omega arith in
    rw none refl
chunks_apart (suc k) j xs ys h =
    let more : suc k + j ≡ suc (k + j) = omega arith in
    let far : suc k * 64 ≡ 64 + k * 64 = omega arith in
    rw (
      more,
      take-append-le 64 xs ys (omega (arith, h)),
      drop-append-le 64 xs ys (omega (arith, h)),
      chunks_apart k j (drop 64 xs) ys (omega (arith, h, length-drop 64 xs)),
      drop-drop (k * 64) 64 xs,
      far,
    )
    refl

-- the blocks of a list: the whole ones of its first part, and those of the rest
pub cut_apart : (xs ys : List ℕ) → cut (xs ++ ys) ≡ first_chunks 64 (length xs / 64) xs ++ cut (drop (length xs / 64 * 64) xs ++ ys)
unfolding cut
cut_apart xs ys =
    let rest = drop (length xs / 64 * 64) xs in
    let all : length (xs ++ ys) / 64 ≡ length xs / 64 + length (rest ++ ys) / 64 =
    omega (arith, length-append xs ys, length-append rest ys, length-drop (length xs / 64 * 64) xs) in
    rw all (chunks_apart (length xs / 64) (length (rest ++ ys) / 64) xs ys (omega arith))

-- a block and what comes after it
cut_first : (first rest : List ℕ) → length first ≡ 64 → cut (first ++ rest) ≡ first ∷ cut rest
cut_first first rest h =
    let one : length first / 64 ≡ 1 = omega (arith, h) in
    cut_apart first rest
    ∙ rw (one, take_all 64 first (omega (arith, h)), drop_all 64 first (omega (arith, h))) refl

-- a salt and a block: the salt and the front of the block fill the first block of the message
pub salted
    : (salt block : List ℕ)
    → length salt ≡ 16
    → length block ≡ 512
    → digest (fold hash_block (hash_block initial (salt ++ take 48 block)) (cut (drop 48 block ++ padding 528))) ≡ salted_cell salt block
unfolding salted_cell sha256
salted salt block hs hb =
    let long : length (salt ++ block) ≡ 528 = omega (arith, hs, hb, length-append salt block) in
    let first : length (salt ++ take 48 block) ≡ 64 = omega (arith, hs, hb, length-append salt (take 48 block), length-take-le 48 block) in
    let parted : salt ++ block ≡ salt ++ take 48 block ++ drop 48 block =
    ap (λ b. salt ++ b) (sym (take-append-drop 48 block)) ∙ sym (append_assoc salt (take 48 block) (drop 48 block)) in
    rw (long, parted, append_assoc (salt ++ take 48 block) (drop 48 block) (padding 528), cut_first (salt ++ take 48 block) (drop 48 block ++ padding 528) first) refl

-- that first block as it is written over zeros
pub salt_first : (salt front zeros : List ℕ) → length salt ≡ 16 → length zeros ≡ 48 → put_mid 16 48 (salt ++ zeros) front ≡ salt ++ front
salt_first salt front zeros hs hz =
    rw (take_at salt zeros 16 hs, drop_at salt zeros 16 hs, drop_all 48 zeros (omega (arith, hz)), append-nil front) refl
