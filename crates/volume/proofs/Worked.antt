-- The worked cases, from the rules.
use Rattle.std.specs.Prelude.{◌≡◌, [], ◌∷◌, map, refl}
use Rattle.device.proofs.Evicted.{least_goes, lowest_goes}
use Rattle.geometry.specs.Geometry.{levels, place, total}
use Rattle.volume.specs.Cases.{WorkedCases}

totals_are : map total (1 ∷ 16 ∷ 17 ∷ 256 ∷ 257 ∷ 4096 ∷ []) ≡ 1 ∷ 1 ∷ 3 ∷ 17 ∷ 20 ∷ 273 ∷ []
unfolding total levels
totals_are = refl

places_are : map (λ l. place 257 l 256) (0 ∷ 1 ∷ 2 ∷ []) ≡ (19, 0) ∷ (2, 0) ∷ (0, 1) ∷ []
unfolding total levels place
places_are = refl

pub worked_cases : WorkedCases
worked_cases =
    record {
      totals = totals_are;
      places = places_are;
      offset = λ below. refl;
      mirror = λ first second. (refl, refl);
      evictions = (lowest_goes, least_goes);
    }
