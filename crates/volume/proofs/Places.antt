-- What a walk needs to know of the places.
use Rattle.std.proofs.Common.{◌≡◌, ℕ, ◌<◌, ap, arith}
use Rattle.geometry.specs.Geometry.{place}

pub cell_inside : (n l k : ℕ) (p : ℕ × ℕ) → p ≡ place n l k → p.1 < 16
unfolding place
cell_inside n l k p is = omega (arith, ap (λ q. q.1) is)
