-- Products of bounded polynomials: their bounds, and why no step of theirs passes
use Rattle.std.proofs.Common.{◌≡◌, ℕ, ◌+◌, ◌*◌, ◌^◌, ◌<◌, ◌≤◌, false, is_none, List, [], ◌∷◌, ◌++◌, length, get_or, ap, ◌∙◌, arith}
use Rattle.algebra.specs.Fraction.{Fraction, one_fraction}
use Rattle.calculus.specs.Polynomial.{nil, one, times, constant}
use Rattle.calculus.proofs.PolynomialLaws.{constant-one}
use Rattle.polyalg.specs.Terms.{value_of, IsPoly}
use Rattle.polyalg.specs.Products.{degree_of, product_steps}
use Rattle.polyalg.specs.ReferenceIntegral.{VariablesBelow}
use Rattle.polyalg.specs.declared.term.Term.{Term}
use Rattle.polyalg.proofs.SizeLaws.{size_at, size_times}
use Rattle.polyalg.proofs.BoundLaws.{bounded, size_of, products_fit}
use Rattle.lagrange.proofs.Sizes.{start_size}
use Rattle.basis_products.specs.Functions.{IsBounded, AreBounded, AreLow}
use Rattle.basis_products.proofs.Lists.{all_pushed, all_at, all_weaken}

pub is_multiplied : (d n l b m k e : ℕ) (ts us out : List Term) → 0 < l → 0 < k → IsPoly out → value_of out ≡ times (value_of ts) (value_of us)
    → degree_of out ≤ degree_of ts + degree_of us → (VariablesBelow d ts → VariablesBelow d us → VariablesBelow d out)
    → IsBounded d n l b ts → IsBounded d m k e us → IsBounded d (n + m) (l * k) (b * e) out
is_multiplied d n l b m k e ts us out h g q v f w s t = record {
  degree = omega (arith, s.degree, t.degree, f);
  variables = w s.variables t.variables;
  over = bounded (l * k) (b * e) out q (size_at (l * k) (b * e) _ _ v (size_times l k b e (value_of ts) (value_of us) (size_of l b ts h s.over) (size_of k e us g t.over)));
  lawful = q;
}

-- one polynomial times each of a list, in order
pub all_multiplied : (d n l b m k e : ℕ) (ts : List Term) (ps : List (List Term)) (i : ℕ) (x out : List Term) (old new : List (List Term)) → 0 < l → 0 < k → i < length ps → x ≡ get_or ps i x
    → IsPoly out → value_of out ≡ times (value_of ts) (value_of x) → degree_of out ≤ degree_of ts + degree_of x → (VariablesBelow d ts → VariablesBelow d x → VariablesBelow d out)
    → new ≡ old ++ out ∷ [] → IsBounded d n l b ts → AreBounded d m k e ps → AreBounded d (n + m) (l * k) (b * e) old → AreBounded d (n + m) (l * k) (b * e) new
all_multiplied d n l b m k e ts ps i x out old new h g j is q v f w a s t o =
    all_pushed (IsBounded d (n + m) (l * k) (b * e)) old new out a o
    (is_multiplied d n l b m k e ts x out h g q v f w s (all_at (IsBounded d m k e) ps i x j is t))

pub product_fits_within : (d n l b m k e : ℕ) (ts us : List Term) → 0 < l * k → l * k < 2 ^ 127 → b * e < 2 ^ 127 → IsBounded d n l b ts → IsBounded d m k e us
    → is_none (product_steps nil ts us) ≡ false
product_fits_within d n l b m k e ts us p h g s t = products_fit l k b e ts us p h g s.over t.over

-- ---- the constant 1
pub one_value : (ts : List Term) (f : Fraction) → value_of ts ≡ constant f → f ≡ one_fraction → value_of ts ≡ one
one_value ts f e h = e ∙ ap constant h ∙ constant-one

pub one_bounded : (d : ℕ) (ts : List Term) (f : Fraction) → value_of ts ≡ constant f → f ≡ one_fraction → degree_of ts ≡ 0 → VariablesBelow d ts → IsPoly ts → IsBounded d 0 1 1 ts
one_bounded d ts f e h z v p = record { degree = omega (arith, z); variables = v; over = bounded 1 1 ts p (start_size _ f e h); lawful = p }

-- polynomials of low degree
pub all_low : (d n m l b : ℕ) (ps : List (List Term)) → n ≤ m → AreBounded d n l b ps → AreLow m ps
all_low d n m l b ps h s = all_weaken (IsBounded d n l b) (λ ts. degree_of ts ≤ m) (λ ts t. omega (arith, t.degree)) ps s
