-- The rounds, four at a time.
use Rattle.std.specs.Prelude.{◌≡◌, ℕ, suc, ◌+◌, ◌≤◌, List, [], ◌∷◌, ◌++◌, take, drop, length, slice_index}
use Rattle.std.proofs.Common.{refl, arith}
use Rattle.std.proofs.lemmas.List.{drop_more}
use Rattle.digest.specs.Halfway.{Left}
use Rattle.digest.specs.Roots.{K}
use Rattle.digest.proofs.Lanes.{four}
use Rattle.digest.specs.Sha256.{Ch, Maj, plus, Σ0, Σ1, round, rounds, schedule, slide}
use Rattle.digest.specs.declared.variables.Variables.{Variables}

-- the constant and the word may be added to each other first
T1_share : (x k w sum : ℕ) → plus k w ≡ sum → plus x sum ≡ plus (plus x k) w
unfolding plus
T1_share x k w sum e = omega (arith, e)

-- a round from its parts
pub round_of
    : (v : Variables) (k w sum s1 c s0 m : ℕ)
    → plus k w ≡ sum
    → s1 ≡ Σ1 v.e
    → c ≡ Ch v.e v.f v.g
    → s0 ≡ Σ0 v.a
    → m ≡ Maj v.a v.b v.c
    → record {
      a = plus (plus (plus (plus v.h s1) c) sum) (plus s0 m);
      b = v.a;
      c = v.b;
      d = v.c;
      e = plus v.d (plus (plus (plus v.h s1) c) sum);
      f = v.e;
      g = v.f;
      h = v.g;
    }
    ≡ round v k w
unfolding round
round_of v k w sum s1 c s0 m e big1 chosen big0 most =
    rw (T1_share (plus (plus v.h s1) c) k w sum e, big1, chosen, big0, most) refl

-- four constants of the table, and those after them
pub four_more : (ks : List ℕ) (t : ℕ) → t + 4 ≤ length ks
    → drop t ks ≡ slice_index ks t ∷ slice_index ks (t + 1) ∷ slice_index ks (t + 2) ∷ slice_index ks (t + 3) ∷ drop (t + 4) ks
four_more ks t h =
    let two : t + 1 + 1 ≡ t + 2 = omega arith in
    let three : t + 2 + 1 ≡ t + 3 = omega arith in
    let four : t + 3 + 1 ≡ t + 4 = omega arith in
    rw (
      drop_more ks t 0 (omega (arith, h)),
      drop_more ks (t + 1) 0 (omega (arith, h)),
      two,
      drop_more ks (t + 2) 0 (omega (arith, h)),
      three,
      drop_more ks (t + 3) 0 (omega (arith, h)),
      four,
    )
    refl

-- four rounds, with their constants and words
abbrev InTurn : ℕ → List ℕ → Type 0
InTurn t ws =
    (v v1 v2 v3 v4 : Variables)
    → v1 ≡ round v (slice_index K t) (slice_index ws 0)
    → v2 ≡ round v1 (slice_index K (t + 1)) (slice_index ws 1)
    → v3 ≡ round v2 (slice_index K (t + 2)) (slice_index ws 2)
    → v4 ≡ round v3 (slice_index K (t + 3)) (slice_index ws 3)
    → v4 ≡ rounds v (take 4 (drop t K)) ws

pub length-K : length K ≡ 64
unfolding K
length-K = refl

pub in_turn : (t : ℕ) → t + 4 ≤ 64 → (ws : List ℕ) → length ws ≡ 4 → InTurn t ws
unfolding rounds
in_turn t h =
    four _ (λ a b c d v v1 v2 v3 v4 e1 e2 e3 e4. rw (four_more K t (omega (arith, h, length-K)), ← e1, ← e2, ← e3) e4)

-- four words of the schedule
schedule_four : (n : ℕ) (rest w : List ℕ) → length w ≡ 4 → schedule (suc (suc (suc (suc n)))) (w ++ rest) ≡ w ++ schedule n (slide (slide (slide (slide (w ++ rest)))))
unfolding schedule slide
schedule_four n rest = four _ (λ a b c d. refl)

-- the last sixteen of it are the sixteen words themselves
schedule_last
    : (w0 : List ℕ) → length w0 ≡ 4 → (w1 : List ℕ) → length w1 ≡ 4 → (w2 : List ℕ) → length w2 ≡ 4 → (w3 : List ℕ) → length w3 ≡ 4
    → schedule 16 (w0 ++ (w1 ++ (w2 ++ w3))) ≡ w0 ++ (w1 ++ (w2 ++ (w3 ++ [])))
unfolding schedule slide
schedule_last =
    four _ (λ a0 a1 a2 a3.
    four _ (λ b0 b1 b2 b3.
    four _ (λ c0 c1 c2 c3.
    four _ (λ d0 d1 d2 d3. refl))))

-- four rounds, and then the others
four_first : (t : ℕ) → t + 4 ≤ 64 → (v : Variables) (rest w : List ℕ) → length w ≡ 4
    → rounds v (drop t K) (w ++ rest) ≡ rounds (rounds v (take 4 (drop t K)) w) (drop (t + 4) K) rest
unfolding rounds
four_first t h v rest =
    four _ (λ a b c d. rw (four_more K t (omega (arith, h, length-K))) refl)

-- four rounds take words t to t + 3, and the window of sixteen words moves on by as many
pub four_on
    : (t n : ℕ) → t + 4 + n ≡ 64
    → (v : Variables) (w0 rest later : List ℕ) → length w0 ≡ 4 → later ≡ slide (slide (slide (slide (w0 ++ rest))))
    → Left (t + 4) n (rounds v (take 4 (drop t K)) w0) later ≡ Left t (n + 4) v (w0 ++ rest)
four_on t n h v w0 rest later long e =
    let more : n + 4 ≡ suc (suc (suc (suc n))) = omega arith in
    rw (e, more, schedule_four n rest w0 long, four_first t (omega (arith, h)) v (schedule n (slide (slide (slide (slide (w0 ++ rest)))))) w0 long) refl

-- no round is left
none_left : (v : Variables) → v ≡ rounds v (drop 64 K) []
unfolding rounds K
none_left v = refl

-- the last sixteen rounds
pub sixteen_last
    : (w0 : List ℕ) → length w0 ≡ 4 → (w1 : List ℕ) → length w1 ≡ 4 → (w2 : List ℕ) → length w2 ≡ 4 → (w3 : List ℕ) → length w3 ≡ 4
    → (v v1 v2 v3 v4 : Variables)
    → v1 ≡ rounds v (take 4 (drop 48 K)) w0
    → v2 ≡ rounds v1 (take 4 (drop 52 K)) w1
    → v3 ≡ rounds v2 (take 4 (drop 56 K)) w2
    → v4 ≡ rounds v3 (take 4 (drop 60 K)) w3
    → v4 ≡ Left 48 16 v (w0 ++ (w1 ++ (w2 ++ w3)))
sixteen_last w0 h0 w1 h1 w2 h2 w3 h3 v v1 v2 v3 v4 e1 e2 e3 e4 =
    rw (
      schedule_last w0 h0 w1 h1 w2 h2 w3 h3,
      four_first 48 (omega arith) v (w1 ++ (w2 ++ (w3 ++ []))) w0 h0,
      ← e1,
      four_first 52 (omega arith) v1 (w2 ++ (w3 ++ [])) w1 h1,
      ← e2,
      four_first 56 (omega arith) v2 (w3 ++ []) w2 h2,
      ← e3,
      four_first 60 (omega arith) v3 [] w3 h3,
      ← e4,
    )
    (none_left v4)
