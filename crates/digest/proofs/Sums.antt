-- The table of the sums of constants and words.
use Rattle.std.specs.Prelude.{◌≡◌, ℕ, ◌+◌, ◌-◌, ◌≤◌, List, [], ◌∷◌, ◌++◌, take, drop, length, slice_index}
use Rattle.std.proofs.Common.{refl, ap, sym, ◌∙◌, arith}
use Rattle.std.proofs.lemmas.List.{drop_at, drop-append-le, drop-drop, length-drop, length-take-le, take_at, take-append-drop, take-append-le}
use Rattle.std.specs.Simd.Lanes.{put_chunk, zip2}
use borrow.Rule.Slice.PartMut.{mid_of, put_mid}
use Rattle.digest.specs.Halfway.{HasSums}
use Rattle.digest.specs.Roots.{K}
use Rattle.digest.specs.Sha256.{plus}
use Rattle.digest.proofs.FourRounds.{four_more, length-K}
use Rattle.digest.proofs.Lanes.{four}

-- sums that stand in the table are read one by one
abbrev Reads : List ℕ → ℕ → List ℕ → Type 0
Reads sums t ws =
    (plus (slice_index K t) (slice_index ws 0) ≡ slice_index sums t)
    × (plus (slice_index K (t + 1)) (slice_index ws 1) ≡ slice_index sums (t + 1))
    × (plus (slice_index K (t + 2)) (slice_index ws 2) ≡ slice_index sums (t + 2))
    × (plus (slice_index K (t + 3)) (slice_index ws 3) ≡ slice_index sums (t + 3))

reads_four : (sums : List ℕ) (t : ℕ) → length sums ≡ 64 → t + 4 ≤ 64 → (ws : List ℕ) → length ws ≡ 4
    → take 4 (drop t sums) ≡ zip2 plus (take 4 (drop t K)) ws → Reads sums t ws
reads_four sums t long h =
    four _ (λ a b c d e.
    let same =
    ap (take 4) (sym (four_more sums t (omega (arith, long, h)))) ∙ e
    ∙ ap (λ ks. zip2 plus (take 4 ks) (a ∷ b ∷ c ∷ d ∷ [])) (four_more K t (omega (arith, h, length-K))) in
    (sym (ap (λ l. slice_index l 0) same), sym (ap (λ l. slice_index l 1) same), sym (ap (λ l. slice_index l 2) same), sym (ap (λ l. slice_index l 3) same)))

pub reads : (sums : List ℕ) (t : ℕ) → length sums ≡ 64 → t + 4 ≤ 64 → (ws : List ℕ) → HasSums sums t ws → Reads sums t ws
reads sums t long h ws has = reads_four sums t long h ws has.0 has.1

-- four sums are as many as the words
pub four_sums : (t : ℕ) → t + 4 ≤ 64 → (ws : List ℕ) → length ws ≡ 4 → length (zip2 plus (take 4 (drop t K)) ws) ≡ 4
four_sums t h =
    four _ (λ a b c d. ap (λ ks. length (zip2 plus (take 4 ks) (a ∷ b ∷ c ∷ d ∷ []))) (four_more K t (omega (arith, h, length-K))))

-- four sums are put into the table: they stand there
abbrev pub Put : List ℕ → List ℕ → ℕ → List ℕ → Type 0
Put old new t ws = new ≡ take t old ++ (zip2 plus (take 4 (drop t K)) ws ++ drop (t + 4) old)

pub put_here : (old new : List ℕ) (t : ℕ) (ws : List ℕ) → length old ≡ 64 → t + 4 ≤ 64 → length ws ≡ 4 → Put old new t ws → HasSums new t ws
put_here old new t ws long h wide e =
    let zs = zip2 plus (take 4 (drop t K)) ws in (
      wide,
      ap (λ l. take 4 (drop t l)) e
          ∙ rw (drop_at (take t old) (zs ++ drop (t + 4) old) t (omega (arith, long, h, length-take-le t old))) (take_at zs (drop (t + 4) old) 4 (four_sums t h ws wide)),
    )

-- four places in the front of a list
in_front : (xs ys : List ℕ) (s : ℕ) → s + 4 ≤ length xs → take 4 (drop s (xs ++ ys)) ≡ take 4 (drop s xs)
in_front xs ys s h =
    rw (drop-append-le s xs ys (omega (arith, h))) (take-append-le 4 (drop s xs) ys (omega (arith, h, length-drop s xs)))

-- and those before them stay
pub put_kept : (old new : List ℕ) (t : ℕ) (ws : List ℕ) → length old ≡ 64 → t + 4 ≤ 64 → Put old new t ws
    → (s : ℕ) (us : List ℕ) → s + 4 ≤ t → HasSums old s us → HasSums new s us
put_kept old new t ws long h e s us before has =
    let front = take t old in
    let room : s + 4 ≤ length front = omega (arith, long, h, before, length-take-le t old) in (
      has.0,
      ap (λ l. take 4 (drop s l)) e
          ∙ in_front front (zip2 plus (take 4 (drop t K)) ws ++ drop (t + 4) old) s room
          ∙ sym (in_front front (drop t old) s room)
          ∙ ap (λ l. take 4 (drop s l)) (take-append-drop t old)
          ∙ has.1,
    )

-- a list that is written over as many places
written_over : (xs ys : List ℕ) → length xs ≡ length ys → put_chunk 0 xs ys ≡ ys
written_over [] [] h = refl
written_over [] (y ∷ ys) h = absurd (omega (arith, h))
written_over (x ∷ xs) [] h = absurd (omega (arith, h))
written_over (x ∷ xs) (y ∷ ys) h = ap (λ l. y ∷ l) (written_over xs ys (omega (arith, h)))

-- what a write of four sums leaves
pub written
    : (old zs : List ℕ) (t : ℕ) → length old ≡ 64 → t + 4 ≤ 64 → length zs ≡ 4
    → put_mid t (t + 4 - t) old (put_chunk 0 (mid_of t (t + 4 - t) old) zs) ≡ take t old ++ (zs ++ drop (t + 4) old)
written old zs t long h wide =
    let four : t + 4 - t ≡ 4 = omega arith in
    let places : length (take 4 (drop t old)) ≡ length zs = omega (arith, long, h, wide, length-drop t old, length-take-le 4 (drop t old)) in
    rw (four, written_over (take 4 (drop t old)) zs places, drop-drop 4 t old) refl

-- the sums of the constants one by one
pub of_constants : (t : ℕ) → t + 4 ≤ 64 → (ws : List ℕ)
    → zip2 plus (slice_index K t ∷ slice_index K (t + 1) ∷ slice_index K (t + 2) ∷ slice_index K (t + 3) ∷ []) ws ≡ zip2 plus (take 4 (drop t K)) ws
of_constants t h ws = ap (λ ks. zip2 plus (take 4 ks) ws) (sym (four_more K t (omega (arith, h, length-K))))

-- the sums of the first sixteen rounds, put in one after the other
pub first_four
    : (s0 s1 s2 s3 s4 w0 w1 w2 w3 : List ℕ)
    → length s0 ≡ 64 → length s1 ≡ 64 → length s2 ≡ 64 → length s3 ≡ 64
    → length w0 ≡ 4 → length w1 ≡ 4 → length w2 ≡ 4 → length w3 ≡ 4
    → Put s0 s1 0 w0 → Put s1 s2 4 w1 → Put s2 s3 8 w2 → Put s3 s4 12 w3
    → HasSums s4 0 w0 × HasSums s4 4 w1 × HasSums s4 8 w2 × HasSums s4 12 w3
first_four s0 s1 s2 s3 s4 w0 w1 w2 w3 l0 l1 l2 l3 h0 h1 h2 h3 e0 e1 e2 e3 =
    let kept1 = put_kept s1 s2 4 w1 l1 (omega arith) e1 in
    let kept2 = put_kept s2 s3 8 w2 l2 (omega arith) e2 in
    let kept3 = put_kept s3 s4 12 w3 l3 (omega arith) e3 in
    let has0 = put_here s0 s1 0 w0 l0 (omega arith) h0 e0 in
    let has1 = put_here s1 s2 4 w1 l1 (omega arith) h1 e1 in
    let has2 = put_here s2 s3 8 w2 l2 (omega arith) h2 e2 in (
      kept3 0 w0 (omega arith) (kept2 0 w0 (omega arith) (kept1 0 w0 (omega arith) has0)),
      kept3 4 w1 (omega arith) (kept2 4 w1 (omega arith) has1),
      kept3 8 w2 (omega arith) has2,
      put_here s3 s4 12 w3 l3 (omega arith) h3 e3,
    )
