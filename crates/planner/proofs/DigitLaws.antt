-- The values of the factors of a monomial's columns on a cell
use Rattle.std.proofs.Common.{◌≡◌, ℕ, zero, suc, ◌+◌, List, [], ◌∷◌, ◌++◌, map, if◌then◌else◌, Option, None, Some, refl, sym, ap, ap₂, ◌∙◌, subst, arith}
use Rattle.std.specs.Prelude.{slice_get}
use Rattle.std.specs.List.{flat_map}
use Rattle.algebra.specs.Fraction.{Fraction}
use Rattle.calculus.specs.Point.{Point}
use Rattle.calculus.specs.Simplex.{IsCell, Simplex, dimension}
use Rattle.spaces.specs.declared.cell.Cell.{Cell}
use Rattle.spaces.specs.declared.cell.Cell.TheVariants.{Interval, Triangle, Tetrahedron}
use Rattle.spaces.specs.Cell.{dimension as cell_dimension}
use Rattle.spaces.specs.declared.parts.Part.{Part}
use Rattle.spaces.specs.declared.parts.Parts.{Parts}
use Rattle.ufl_tree.specs.declared.function.Role.{Role}
use Rattle.ufl_tree.specs.declared.function.Role.TheVariants.{Test, Trial, Position, Coefficient}
use Rattle.monos.specs.declared.layout.CoefPlace.{CoefPlace}
use Rattle.monos.specs.declared.layout.Layout.{Layout}
use Rattle.monos.specs.declared.mono.Atom.{Atom}
use Rattle.monos.specs.Layout.{IsLawfulLayout, IsPosition, parts_or_none, place_of, place_parts, position_parts}
use Rattle.monos.specs.Monomial.{directions}
use Rattle.refint.specs.Local.{numbers_below, position_part}
use Rattle.refint.specs.Reference.{factors, is_argument, node_values, part_in, value_lists, values_of, vertex_values}
use Rattle.refint.proofs.Lists.{map_map}
use Rattle.refint.proofs.Values.{below_from, numbers_from}
use Rattle.kernel_runs.specs.Strips.{item, strip}
use Rattle.kernel_runs.specs.Body.{digit_values}
use Rattle.kernel_runs.specs.declared.digit.Digit.{Digit}
use Rattle.kernel_runs.specs.declared.digit.Digit.TheVariants.{Growth}
use Rattle.kernel_statements.specs.Digits.{coefficient_digits, corner_digit, digit_of, direction_digits, offset_in, part_digit, with_digit}

-- ---- values of coefficients
strip_from : (xs : List Fraction) (base k n : ℕ) → strip xs (base + k) 1 n ≡ map (λ j. item xs (base + j)) (numbers_from k n)
strip_from xs base k zero = refl
strip_from xs base k (suc n) = ap (λ r. item xs (base + k) ∷ r) (ap (λ b. strip xs b 1 n) (next base k) ∙ strip_from xs base (suc k) n)
  where
    next : (b k : ℕ) → b + k + 1 ≡ b + suc k
    next b k = omega arith

strip_is : (xs : List Fraction) (base n : ℕ) → strip xs base 1 n ≡ map (λ j. item xs (base + j)) (numbers_below n)
strip_is xs base n =
    ap (λ b. strip xs b 1 n) (none base) ∙ strip_from xs base 0 n ∙ ap (map (λ j. item xs (base + j))) (sym (below_from n))
  where
    none : (b : ℕ) → b ≡ b + 0
    none b = omega arith

of_part : (d : ℕ) (v : Simplex) (w : List Fraction) (c : CoefPlace) (p : Option Part) → digit_values d v w (part_digit c.offset p) ≡ node_values w (Some c) p
of_part d v w c None = refl
of_part d v w c (Some p) = strip_is w (c.offset + p.offset) p.nodes

of_place : (d : ℕ) (v : Simplex) (w : List Fraction) (o : Option CoefPlace) (i : ℕ)
    → digit_values d v w (part_digit (offset_in o) (slice_get (place_parts o) i)) ≡ node_values w o (part_in o i)
of_place d v w None zero = refl
of_place d v w None (suc i) = refl
of_place d v w (Some c) i = of_part d v w c (slice_get c.parts.items i)

-- ---- coordinates of corners
no_corners : (d : ℕ) (v : Simplex) (w : List Fraction) (k i : ℕ) → digit_values d v w (corner_digit k (slice_get [] i)) ≡ vertex_values v (slice_get [] i) k
no_corners d v w k zero = refl
no_corners d v w k (suc i) = refl

on_interval : (i : ℕ) (a b : Point Fraction) (w : List Fraction)
    → digit_values 1 (a ∷ b ∷ []) w (corner_digit i (slice_get (position_parts Interval).items i)) ≡ vertex_values (a ∷ b ∷ []) (slice_get (position_parts Interval).items i) i
on_interval zero a b w = refl
on_interval (suc i) a b w = no_corners 1 (a ∷ b ∷ []) w (suc i) i

on_triangle : (i : ℕ) (a b c : Point Fraction) (w : List Fraction)
    → digit_values 2 (a ∷ b ∷ c ∷ []) w (corner_digit i (slice_get (position_parts Triangle).items i)) ≡ vertex_values (a ∷ b ∷ c ∷ []) (slice_get (position_parts Triangle).items i) i
on_triangle zero a b c w = refl
on_triangle (suc zero) a b c w = refl
on_triangle (suc (suc i)) a b c w = no_corners 2 (a ∷ b ∷ c ∷ []) w (suc (suc i)) i

on_tetrahedron : (i : ℕ) (a b c e : Point Fraction) (w : List Fraction)
    → digit_values 3 (a ∷ b ∷ c ∷ e ∷ []) w (corner_digit i (slice_get (position_parts Tetrahedron).items i))
    ≡ vertex_values (a ∷ b ∷ c ∷ e ∷ []) (slice_get (position_parts Tetrahedron).items i) i
on_tetrahedron zero a b c e w = refl
on_tetrahedron (suc zero) a b c e w = refl
on_tetrahedron (suc (suc zero)) a b c e w = refl
on_tetrahedron (suc (suc (suc i))) a b c e w = no_corners 3 (a ∷ b ∷ c ∷ e ∷ []) w (suc (suc (suc i))) i

abbrev OnCell : Cell → Simplex → Type 0
OnCell c v = (i : ℕ) (w : List Fraction) → digit_values (cell_dimension c) v w (corner_digit i (slice_get (position_parts c).items i)) ≡ vertex_values v (slice_get (position_parts c).items i) i

on_cell : (c : Cell) (v : Simplex) → IsCell v → dimension v ≡ cell_dimension c → OnCell c v
on_cell c [] k e = absurd k
on_cell c (x ∷ []) k e = absurd k
on_cell Interval (x ∷ y ∷ []) k e = λ i w. on_interval i x y w
on_cell Triangle (x ∷ y ∷ []) k e = absurd (omega (arith, e))
on_cell Tetrahedron (x ∷ y ∷ []) k e = absurd (omega (arith, e))
on_cell Interval (x ∷ y ∷ z ∷ []) k e = absurd (omega (arith, e))
on_cell Triangle (x ∷ y ∷ z ∷ []) k e = λ i w. on_triangle i x y z w
on_cell Tetrahedron (x ∷ y ∷ z ∷ []) k e = absurd (omega (arith, e))
on_cell Interval (x ∷ y ∷ z ∷ t ∷ []) k e = absurd (omega (arith, e))
on_cell Triangle (x ∷ y ∷ z ∷ t ∷ []) k e = absurd (omega (arith, e))
on_cell Tetrahedron (x ∷ y ∷ z ∷ t ∷ []) k e = λ i w. on_tetrahedron i x y z t w
on_cell c (x ∷ y ∷ z ∷ t ∷ s ∷ v) k e = absurd k

of_position : (c : Cell) (v : Simplex) (w : List Fraction) (o : Option Parts) (i : ℕ) → IsCell v → dimension v ≡ cell_dimension c → IsPosition c o
    → digit_values (cell_dimension c) v w (corner_digit i (slice_get (parts_or_none o) i)) ≡ vertex_values v (position_part o i) i
of_position c v w None zero k e h = refl
of_position c v w None (suc i) k e h = refl
of_position c v w (Some ps) i k e h =
    subst (λ q. digit_values (cell_dimension c) v w (corner_digit i (slice_get q.items i)) ≡ vertex_values v (slice_get q.items i) i) (sym h) (on_cell c v k e i w)

-- ---- of all atoms
with_role : (l : Layout) (v : Simplex) (w : List Fraction) → IsLawfulLayout l → IsCell v → dimension v ≡ l.d → (r : Role) (i : ℕ) (ds : List Digit) (vs : List (List Fraction))
    → map (digit_values l.d v w) ds ≡ vs
    → map (digit_values l.d v w) (with_digit (digit_of l r i) ds) ≡ (if is_argument r then vs else values_of l v w r i ∷ vs)
with_role l v w h k e Test i ds vs g = g
with_role l v w h k e Trial i ds vs g = g
with_role l v w h k e Position i ds vs g =
    ap₂ ◌∷◌ (subst (λ d. digit_values d v w (corner_digit i (slice_get (parts_or_none l.position) i)) ≡ vertex_values v (position_part l.position i) i) (sym h.1.dimension)
    (of_position h.0 v w l.position i k (e ∙ h.1.dimension) h.1.position)) g
with_role l v w h k e (Coefficient n) i ds vs g = ap₂ ◌∷◌ (of_place l.d v w (place_of l.coefs n) i) g

pub coefficient_values : (l : Layout) (v : Simplex) (w : List Fraction) → IsLawfulLayout l → IsCell v → dimension v ≡ l.d → (xs : List Atom)
    → map (digit_values l.d v w) (coefficient_digits l xs) ≡ value_lists l v w xs
coefficient_values l v w h k e [] = refl
coefficient_values l v w h k e (x ∷ xs) =
    with_role l v w h k e x.f.role x.component (coefficient_digits l xs) (value_lists l v w xs) (coefficient_values l v w h k e xs)

pub factor_values : (l : Layout) (v : Simplex) (w : List Fraction) → IsLawfulLayout l → IsCell v → dimension v ≡ l.d → (xs : List Atom)
    → map (digit_values l.d v w) (coefficient_digits l xs) ++ map (digit_values l.d v w) (direction_digits xs) ≡ factors l v w xs
factor_values l v w h k e xs =
    ap₂ ◌++◌ (coefficient_values l v w h k e xs) (map_map (digit_values l.d v w) Growth (flat_map directions xs))
