-- A facet's integral, pulled back to the reference facet
use Rattle.std.specs.Prelude.{ℕ, true, false}
use Rattle.calculus.specs.Polynomial.{Polynomial, times, constant, coordinate, composed}
use Rattle.calculus.specs.Simplex.{Simplex, volume, reference, image, is_less}
use Rattle.calculus.specs.Integral.{shadow, shadow_integral}

-- the coordinates up to number e along a facet, by its affine map from the reference facet; each variable behind stands for itself
abbrev pub along : ℕ → Simplex → ℕ → Polynomial
along e w j = elim (is_less e j) [ true ↦ coordinate j | false ↦ image w j ]

-- of a facet w of a cell with last coordinate e, in direction i
abbrev pub pulled_back_facet : ℕ → ℕ → Simplex → Polynomial → Polynomial
pulled_back_facet e i w q = times (constant (volume (shadow i w))) (shadow_integral e (reference e) (composed (along e w) q))
