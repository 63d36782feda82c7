-- Atoms that aren't 0, how far their products go, and which products fit
use Rattle.std.proofs.Common.{◌≡◌, ℕ, zero, suc, ◌-◌, ◌*◌, ◌^◌, ◌<◌, ◌≤◌, ◌⊎◌, inl, inr, Bool, true, false, ◌||◌, nat_le, max, if◌then◌else◌, List, [], ◌∷◌, Option, None, Some, length, get_or, drop, refl, sym, ap, ◌∙◌, arith}
use Rattle.std.specs.Prelude.{slice_get}
use Rattle.std.proofs.lemmas.Bool.Decides.{nat_tests}
use Rattle.std.proofs.lemmas.Nat.{pow-add}
use Rattle.std.proofs.Math.Nat.{pow-zero, one-le-pow}
use native.Mathlib.Nat as N
use Rattle.calculus.specs.LocalFunction.{factorial}
use Rattle.calculus.proofs.Nodes.{factorial_positive}
use Rattle.lagrange.specs.Bounds.{basis_bound}
use Rattle.spaces.specs.declared.parts.Part.{Part}
use Rattle.spaces.proofs.NodeLaws.{both_true}
use Rattle.ufl_tree.specs.declared.function.Role.{Role}
use Rattle.ufl_tree.specs.declared.function.Role.TheVariants.{Test, Trial, Position, Coefficient}
use Rattle.monos.specs.declared.layout.Layout.{Layout}
use Rattle.monos.specs.declared.mono.Atom.{Atom}
use Rattle.monos.specs.Layout.{IsLawfulLayout, role_parts, place_of}
use Rattle.monos.specs.Monomial.{derivative_count, derivatives}
use Rattle.refint.specs.Reference.{node_counts, nodes_in, part_of, is_argument}
use Rattle.polyalg.specs.Products.{degree_of}
use Rattle.polyalg.specs.declared.term.Term.{Term}
use Rattle.basis_products.specs.declared.factor.Source.TheVariants as source
use Rattle.basis_products.specs.Functions.{IsBounded, AreBounded, AreLow}
use Rattle.basis_products.specs.Order.{Fit}
use Rattle.basis_products.proofs.Lists.{all_weaken}
use Rattle.monomial_products.specs.declared.support.Support.{Support}
use Rattle.monomial_products.specs.declared.support.Support.TheVariants.{OnPart}
use Rattle.monomial_products.specs.Supports.{places_at, is_role, AreOn}
use Rattle.monomial_products.specs.Products.{has_role, own_places, product, sizes_of, source_of, alive_on, is_alive, are_alive, degree_in, degree_at, degree_left, denominator, coefficient_bound, own_spread, IsSmall, HaveSmallProducts}
use Rattle.monomial_products.proofs.PartLaws.{lawful_part, lawful_dimension, part_few, some_is}
use Rattle.monomial_products.proofs.NextLaws.{IsOn, position_is, coefficient_part}

-- ---- atoms that aren't 0
pub alive_within : (o : Option Part) (p : Part) (k : ℕ) → o ≡ Some p → alive_on o k ≡ true → k ≤ p.degree
alive_within o p k e h =
    let t : nat_le k p.degree ≡ true = ap (λ q. alive_on q k) (sym e) ∙ h in
    grind (arith, nat_tests)

pub not_alive : (o : Option Part) (k : ℕ) → o ≡ None → alive_on o k ≡ true → ⊥
not_alive o k e h = let t : false ≡ true = ap (λ q. alive_on q k) (sym e) ∙ h in cc

pub alive_at : (l : Layout) (xs : List Atom) (i : ℕ) (d : Atom) → i < length xs → are_alive l xs ≡ true → is_alive l (get_or xs i d) ≡ true
alive_at l [] i d h a = absurd (omega arith)
alive_at l (x ∷ xs) zero d h a = (both_true (is_alive l x) (are_alive l xs) a).0
alive_at l (x ∷ xs) (suc i) d h a = alive_at l xs i d (omega arith) (both_true (is_alive l x) (are_alive l xs) a).1

-- ---- spreads
times_positive : (m n : ℕ) → 1 ≤ m → 1 ≤ n → 1 ≤ m * n
times_positive m n h g = N.mul-le-mul h g

power_positive : (d k : ℕ) → 1 ≤ d → 1 ≤ d ^ k
power_positive d k h = one-le-pow k d h

factor_positive : (d k n : ℕ) → 1 ≤ d → 1 ≤ max 1 n * d ^ k
factor_positive d k n h = times_positive (max 1 n) (d ^ k) (omega arith) (power_positive d k h)

pub spread_tail : (l : Layout) (x : Atom) (xs : List Atom) → 1 ≤ l.d → own_spread l xs ≤ own_spread l (x ∷ xs)
spread_tail l x xs h =
    let m : ℕ = max 1 (nodes_in (slice_get (role_parts l x.f.role) x.component)) * l.d ^ derivative_count x in
    let p : 1 * own_spread l xs ≤ m * own_spread l xs = N.mul-le-mul_right (own_spread l xs) (factor_positive l.d (derivative_count x) (nodes_in (slice_get (role_parts l x.f.role) x.component)) h) in
    omega arith

spread_drop : (l : Layout) (xs : List Atom) (i : ℕ) → 1 ≤ l.d → own_spread l (drop i xs) ≤ own_spread l xs
spread_drop l [] zero h = omega arith
spread_drop l [] (suc i) h = omega arith
spread_drop l (x ∷ xs) zero h = omega arith
spread_drop l (x ∷ xs) (suc i) h = omega (arith, spread_drop l xs i h, spread_tail l x xs h)

drop_few : (xs : List Atom) (i : ℕ) → length (drop i xs) ≤ length xs
drop_few [] zero = omega arith
drop_few [] (suc i) = omega arith
drop_few (x ∷ xs) zero = omega arith
drop_few (x ∷ xs) (suc i) = omega (arith, drop_few xs i)

pub small_drop : (l : Layout) (xs : List Atom) (i : ℕ) → 1 ≤ l.d → IsSmall l xs → IsSmall l (drop i xs)
small_drop l xs i h s = record { atoms = omega (arith, drop_few xs i, s.atoms); spread = omega (arith, spread_drop l xs i h, s.spread) }

-- the part of a function that is summed
own_nodes : (l : Layout) (r : Role) (i : ℕ) (n : ℕ) (ms : List ℕ) (s k : ℕ) → 1 ≤ k → product ms ≤ s
    → product (if is_argument r then ms else (nodes_in (part_of l r i) ∷ ms)) ≤ max 1 (nodes_in (slice_get (role_parts l r) i)) * k * s
own_nodes l Test i n ms s k h g = let p : 1 * product ms ≤ max 1 (nodes_in (slice_get (role_parts l Test) i)) * k * s = N.mul-le-mul (times_positive _ k (omega arith) h) g in omega arith
own_nodes l Trial i n ms s k h g = let p : 1 * product ms ≤ max 1 (nodes_in (slice_get (role_parts l Trial) i)) * k * s = N.mul-le-mul (times_positive _ k (omega arith) h) g in omega arith
own_nodes l Position i n ms s k h g = summed (nodes_in (part_of l Position i)) (nodes_in (slice_get (role_parts l Position) i)) (ap nodes_in (sym (position_is l.position i))) ms s k h g
  where
    summed : (a b : ℕ) → a ≡ b → (ms : List ℕ) (s k : ℕ) → 1 ≤ k → product ms ≤ s → a * product ms ≤ max 1 b * k * s
    summed a b e ms s k h g =
        let p : a * 1 ≤ max 1 b * k = N.mul-le-mul (omega arith) h in
        let q : a * 1 * product ms ≤ max 1 b * k * s = N.mul-le-mul p g in
        omega arith
own_nodes l (Coefficient c) i n ms s k h g =
    summed (nodes_in (part_of l (Coefficient c) i)) (nodes_in (slice_get (role_parts l (Coefficient c)) i)) (ap nodes_in (sym (coefficient_part (place_of l.coefs c) i))) ms s k h g
  where
    summed : (a b : ℕ) → a ≡ b → (ms : List ℕ) (s k : ℕ) → 1 ≤ k → product ms ≤ s → a * product ms ≤ max 1 b * k * s
    summed a b e ms s k h g =
        let p : a * 1 ≤ max 1 b * k = N.mul-le-mul (omega arith) h in
        let q : a * 1 * product ms ≤ max 1 b * k * s = N.mul-le-mul p g in
        omega arith

pub count_within : (l : Layout) (xs : List Atom) → 1 ≤ l.d → product (node_counts l xs) ≤ own_spread l xs
count_within l [] h = omega arith
count_within l (x ∷ xs) h = own_nodes l x.f.role x.component 0 (node_counts l xs) (own_spread l xs) (l.d ^ derivative_count x) (power_positive l.d (derivative_count x) h) (count_within l xs h)

pub directions_within : (l : Layout) (xs : List Atom) → 1 ≤ l.d → l.d ^ derivatives xs ≤ own_spread l xs
directions_within l [] h = omega (arith, pow-zero l.d)
directions_within l (x ∷ xs) h =
    let m : ℕ = max 1 (nodes_in (slice_get (role_parts l x.f.role) x.component)) in
    let p : 1 * l.d ^ derivative_count x ≤ m * l.d ^ derivative_count x = N.mul-le-mul_right (l.d ^ derivative_count x) (omega arith) in
    let q : l.d ^ derivative_count x * l.d ^ derivatives xs ≤ m * l.d ^ derivative_count x * own_spread l xs = N.mul-le-mul (omega arith) (directions_within l xs h) in
    omega (arith, pow-add l.d (derivative_count x) (derivatives xs))

-- ---- places
some_places : (l : Layout) → IsLawfulLayout l → (r : Role) (s : Support) (xs : List Atom) → AreOn l r s xs → has_role r xs ≡ true → places_at s ≤ 20
some_places l h r s [] on e = absurd (apart e)
  where
    apart : false ≡ true → ⊥
    apart e = cc
some_places l h r s (x ∷ xs) on e = first (is_role x.f.role r) refl e (some_places l h r s xs on.1)
  where
    first : (b : Bool) → is_role x.f.role r ≡ b → (b || has_role r xs) ≡ true → (has_role r xs ≡ true → places_at s ≤ 20) → places_at s ≤ 20
    first true k e rest = let w = on.0 k in omega (arith, ap places_at w.1, part_few _ w.0 (lawful_part l h r x.component w.0 w.2))
    first false k e rest = rest e

pub places_few : (l : Layout) → IsLawfulLayout l → (r : Role) (s : Support) (xs : List Atom) → AreOn l r s xs → own_places s r xs ≤ 20
places_few l h r s xs on = go (has_role r xs) refl
  where
    go : (b : Bool) → has_role r xs ≡ b → (if b then places_at s else 1) ≤ 20
    go true e = some_places l h r s xs on e
    go false e = omega arith

-- a factor fits the products behind it
pub fits_role : (l : Layout) (tests trials : Support) (i : ℕ) (xs : List Atom) (p : Part) (r : Role) → slice_get (role_parts l r) i ≡ Some p → IsOn l Test tests r i → IsOn l Trial trials r i
    → (source_of r ≡ source.Test → (own_places tests Test xs ≡ 1) ⊎ (own_places tests Test xs ≡ p.nodes))
    × (source_of r ≡ source.Trial → (own_places trials Trial xs ≡ 1) ⊎ (own_places trials Trial xs ≡ p.nodes))
fits_role l tests trials i xs p Test e h g =
    let w = h refl in
    let s : tests ≡ OnPart p = w.1 ∙ ap OnPart (some_is w.0 p (sym w.2 ∙ e)) in
    ((λ z. either (has_role Test xs) (ap places_at s)), λ z. absurd (apart z))
  where
    apart : source.Test ≡ source.Trial → ⊥
    apart z = cc

    either : (b : Bool) → places_at tests ≡ p.nodes → ((if b then places_at tests else 1) ≡ 1) ⊎ ((if b then places_at tests else 1) ≡ p.nodes)
    either true k = inr k
    either false k = inl refl
fits_role l tests trials i xs p Trial e h g =
    let w = g refl in
    let s : trials ≡ OnPart p = w.1 ∙ ap OnPart (some_is w.0 p (sym w.2 ∙ e)) in
    ((λ z. absurd (apart z)), λ z. either (has_role Trial xs) (ap places_at s))
  where
    apart : source.Trial ≡ source.Test → ⊥
    apart z = cc

    either : (b : Bool) → places_at trials ≡ p.nodes → ((if b then places_at trials else 1) ≡ 1) ⊎ ((if b then places_at trials else 1) ≡ p.nodes)
    either true k = inr k
    either false k = inl refl
fits_role l tests trials i xs p Position e h g = ((λ z. absurd (apart z)), λ z. absurd (other z))
  where
    apart : source.Summed ≡ source.Test → ⊥
    apart z = cc

    other : source.Summed ≡ source.Trial → ⊥
    other z = cc
fits_role l tests trials i xs p (Coefficient c) e h g = ((λ z. absurd (apart z)), λ z. absurd (other z))
  where
    apart : source.Summed ≡ source.Test → ⊥
    apart z = cc

    other : source.Summed ≡ source.Trial → ⊥
    other z = cc

pub fits : (l : Layout) → IsLawfulLayout l → (tests trials : Support) (x : Atom) (xs : List Atom) (p : Part) → slice_get (role_parts l x.f.role) x.component ≡ Some p
    → AreOn l Test tests (x ∷ xs) → AreOn l Trial trials (x ∷ xs) → IsSmall l (x ∷ xs) → Fit (sizes_of l tests trials xs) (source_of x.f.role) p.nodes (l.d ^ derivative_count x)
fits l h tests trials x xs p e on too s =
    let d = (lawful_dimension l h).0 in
    let r = fits_role l tests trials x.component xs p x.f.role e on.0 too.0 in
    record {
      tests = r.0;
      trials = r.1;
      few = part_few _ p (lawful_part l h x.f.role x.component p e);
      test_nodes = places_few l h Test tests xs on.1;
      trial_nodes = places_few l h Trial trials xs too.1;
      nodes = omega (arith, count_within l xs d, spread_tail l x xs d, s.spread);
      directions = omega (arith, directions_within l (x ∷ xs) d, s.spread, pow-add l.d (derivative_count x) (derivatives xs));
    }

-- ---- degrees
degree_few : (l : Layout) → IsLawfulLayout l → (x : Atom) → degree_at l x ≤ 3
degree_few l h x = go (slice_get (role_parts l x.f.role) x.component) refl
  where
    go : (o : Option Part) → slice_get (role_parts l x.f.role) x.component ≡ o → degree_in o ≤ 3
    go None e = omega arith
    go (Some p) e = (lawful_part l h x.f.role x.component p e).degree

left_few : (l : Layout) → IsLawfulLayout l → (xs : List Atom) → degree_left l xs ≤ 3 * length xs
left_few l h [] = omega arith
left_few l h (x ∷ xs) = omega (arith, degree_few l h x, left_few l h xs)

low : (d n m l b : ℕ) (ps : List (List Term)) → n ≤ m → AreBounded d n l b ps → AreLow m ps
low d n m l b ps h s = all_weaken (IsBounded d n l b) (λ ts. degree_of ts ≤ m) (λ ts t. omega (arith, t.degree)) ps s

pub low_products : (l : Layout) → IsLawfulLayout l → (xs : List Atom) (ps : List (List Term)) → length xs ≤ 256 → AreBounded l.d (degree_left l xs) (denominator l xs) (coefficient_bound l xs) ps → AreLow 65532 ps
low_products l h xs ps few s = low l.d (degree_left l xs) 65532 (denominator l xs) (coefficient_bound l xs) ps (omega (arith, left_few l h xs)) s

pub low_functions : (d n k l b : ℕ) (ps : List (List Term)) → n ≤ 3 → AreBounded d (n - k) l b ps → AreLow 3 ps
low_functions d n k l b ps h s = low d (n - k) 3 l b ps (omega arith) s

-- ---- bounds of products
basis_positive : (q : ℕ) → 1 ≤ basis_bound q
basis_positive zero = omega arith
basis_positive (suc zero) = omega arith
basis_positive (suc (suc zero)) = omega arith
basis_positive (suc (suc (suc q))) = omega arith

pub denominator_positive : (l : Layout) (xs : List Atom) → 1 ≤ denominator l xs
denominator_positive l [] = omega arith
denominator_positive l (x ∷ xs) = times_positive (factorial (degree_at l x)) (denominator l xs) (factorial_positive (degree_at l x)) (denominator_positive l xs)

pub small_positive : (m n : ℕ) → 0 < m → 0 < n → 0 < m * n
small_positive m n h g = times_positive m n h g

small_tail : (l : Layout) (x : Atom) (xs : List Atom) → HaveSmallProducts l (x ∷ xs) → HaveSmallProducts l xs
small_tail l x xs s =
    let p : 1 * denominator l xs ≤ factorial (degree_at l x) * denominator l xs = N.mul-le-mul_right (denominator l xs) (factorial_positive (degree_at l x)) in
    let b : 1 ≤ basis_bound (degree_at l x) * 3 ^ derivative_count x = times_positive (basis_bound (degree_at l x)) (3 ^ derivative_count x) (basis_positive (degree_at l x)) (power_positive 3 (derivative_count x) (omega arith)) in
    let q : 1 * coefficient_bound l xs ≤ basis_bound (degree_at l x) * 3 ^ derivative_count x * coefficient_bound l xs = N.mul-le-mul_right (coefficient_bound l xs) b in
    record { denominator = omega (arith, s.denominator); sum = omega (arith, s.sum) }

pub small_products_drop : (l : Layout) (xs : List Atom) (i : ℕ) → HaveSmallProducts l xs → HaveSmallProducts l (drop i xs)
small_products_drop l [] zero s = s
small_products_drop l [] (suc i) s = s
small_products_drop l (x ∷ xs) zero s = s
small_products_drop l (x ∷ xs) (suc i) s = small_products_drop l xs i (small_tail l x xs s)
