-- Numbers as bytes, and bytes that are written over zeros.
use Rattle.std.proofs.Common.{◌≡◌, ℕ, ◌+◌, ◌-◌, ◌/◌, ◌%◌, List, [], ◌∷◌, ◌++◌, length, replicate, arith}
use Rattle.std.proofs.Math.Nat.{div-div-eq-div-mul}
use borrow.Rule.Slice.PartMut.{put_mid}
use Rattle.std.proofs.lemmas.List.{take_at, drop_at, drop-replicate}
use Rattle.sim.specs.Block.{little_endian}

-- `mid` is written right after `front`, where zeros stood
pub put_after : (front mid : List ℕ) (a k n : ℕ) → length front ≡ a → length mid ≡ k → put_mid a k (front ++ replicate (k + n) 0) mid ≡ front ++ (mid ++ replicate n 0)
put_after front mid a k n long wide =
    let left : k + n - k ≡ n = omega arith in
    rw (take_at front (replicate (k + n) 0) a long, drop_at front (replicate (k + n) 0) a long, drop-replicate {X = ℕ} k (k + n) 0, left)

-- what `to_le_bytes` gives of a `u32`, and of a `u64`
pub little_4 : (n : ℕ) → n % 256 ∷ n / 256 % 256 ∷ n / 65536 % 256 ∷ n / 16777216 % 256 ∷ [] ≡ little_endian 4 n
little_4 n = simp div-div-eq-div-mul

pub little_8 : (n : ℕ) → n % 256 ∷ n / 256 % 256 ∷ n / 65536 % 256 ∷ n / 16777216 % 256 ∷ n / 4294967296 % 256 ∷ n / 1099511627776 % 256 ∷ n / 281474976710656 % 256 ∷ n / 72057594037927936 % 256 ∷ [] ≡ little_endian 8 n
little_8 n = simp div-div-eq-div-mul
