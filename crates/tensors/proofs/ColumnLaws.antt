-- How many columns there are, counted atom by atom
use Rattle.std.proofs.Common.{◌≡◌, ℕ, zero, suc, ◌+◌, ◌-◌, ◌*◌, ◌^◌, ◌<◌, ◌≤◌, max, if◌then◌else◌, List, [], ◌∷◌, length, drop, get_or, refl, sym, ap, ◌∙◌, subst, arith, add-one, drop-cons}
use Rattle.std.specs.Prelude.{slice_get}
use Rattle.std.proofs.lemmas.List.{drop_all}
use Rattle.std.proofs.Math.Nat.{pow-zero, pow-suc}
use native.Mathlib.Nat as N
use Rattle.ufl_tree.specs.declared.function.Role.{Role}
use Rattle.ufl_tree.specs.declared.function.Role.TheVariants.{Test, Trial, Position, Coefficient}
use Rattle.monos.specs.declared.layout.Layout.{Layout}
use Rattle.monos.specs.declared.mono.Atom.{Atom}
use Rattle.monos.specs.Layout.{role_parts, place_of}
use Rattle.monos.specs.Monomial.{derivative_count}
use Rattle.refint.specs.Reference.{is_argument, nodes_in, part_of}
use Rattle.monomial_products.specs.Products.{own_spread, IsSmall}
use Rattle.monomial_products.proofs.FormedLaws.{small_drop}
use Rattle.monomial_products.proofs.NextLaws.{position_is, coefficient_part}
use Rattle.monomial_weights.specs.Columns.{column_count}

-- ---- powers
pub power_next : (d i p : ℕ) → p ≡ d ^ i → p * d ≡ d ^ (i + 1)
power_next d i p e = ap (λ m. m * d) e ∙ sym (ap (λ m. d ^ m) (add-one i) ∙ pow-suc d i)

some_power : (d k : ℕ) → 1 ≤ d → 1 ≤ d ^ k
some_power d zero h = omega (arith, pow-zero d)
some_power d (suc k) h =
    let p : 1 * 1 ≤ d ^ k * d = N.mul-le-mul (some_power d k h) h in
    omega (arith, pow-suc d k)

more_power : (d i j : ℕ) → 1 ≤ d → d ^ i ≤ d ^ (i + j)
more_power d i zero h = omega (arith, ap (λ k. d ^ k) (N.add-zero i))
more_power d i (suc j) h =
    let p : d ^ (i + j) * 1 ≤ d ^ (i + j) * d = N.mul-le-mul_left (d ^ (i + j)) h in
    omega (arith, more_power d i j h, ap (λ k. d ^ k) (N.add-suc i j), pow-suc d (i + j))

-- a power on the way fits
pub power_fits : (d i n p : ℕ) → 1 ≤ d → d < 256 → i < n → d ^ n ≤ 2 ^ 20 → p ≡ d ^ i → p * d < 2 ^ 64
power_fits d i n p h g k few e =
    let q : d ^ i ≤ 2 ^ 20 = omega (arith, more_power d i (n - i) h, ap (λ m. d ^ m) (rest k), few) in
    let s : d ≤ 256 = omega (arith, g) in
    let r : p * d ≤ 2 ^ 20 * 256 = N.mul-le-mul (subst (λ m. m ≤ 2 ^ 20) (sym e) q) s in
    omega arith
  where
    rest : i < n → i + (n - i) ≡ n
    rest k = omega arith

-- ---- one atom
abbrev pub summed : Layout → Atom → ℕ
summed l x = if is_argument x.f.role then 1 else nodes_in (part_of l x.f.role x.component)

abbrev own_nodes : Layout → Role → ℕ → ℕ
own_nodes l r i = max 1 (nodes_in (slice_get (role_parts l r) i))

within_own : (l : Layout) (r : Role) (i : ℕ) → (if is_argument r then 1 else nodes_in (part_of l r i)) ≤ own_nodes l r i
within_own l Test i = omega arith
within_own l Trial i = omega arith
within_own l Position i = omega (arith, ap nodes_in (position_is l.position i))
within_own l (Coefficient n) i = omega (arith, ap nodes_in (coefficient_part (place_of l.coefs n) i))

some_spread : (l : Layout) (xs : List Atom) → 1 ≤ l.d → 1 ≤ own_spread l xs
some_spread l [] h = omega arith
some_spread l (x ∷ xs) h = N.mul-le-mul (N.mul-le-mul (some_nodes (nodes_in (slice_get (role_parts l x.f.role) x.component))) (some_power l.d (derivative_count x) h)) (some_spread l xs h)
  where
    some_nodes : (n : ℕ) → 1 ≤ max 1 n
    some_nodes n = omega arith

-- ---- from one atom on
pub drop_here : {A : Type 0} (xs : List A) (i : ℕ) (d : A) → i < length xs → drop i xs ≡ get_or xs i d ∷ drop (i + 1) xs
drop_here xs i d h = rw (add-one, drop-cons xs i d) refl

pub record IsCounted (l : Layout) (all rest : List Atom) (count : ℕ) : Type 0 where
  pub total : count * column_count l rest ≡ column_count l all
  pub few : count * own_spread l rest ≤ 2 ^ 20

pub counted_none : (l : Layout) (all : List Atom) → IsSmall l all → IsCounted l all (drop 0 all) 1
counted_none l all s = record {
  total = N.one-mul (column_count l (drop 0 all)) ∙ ap (column_count l) (whole all);
  few = omega (arith, s.spread, ap (own_spread l) (whole all));
}
  where
    whole : (xs : List Atom) → drop 0 xs ≡ xs
    whole [] = refl
    whole (x ∷ xs) = refl

counted_step : (l : Layout) (all xs : List Atom) (x : Atom) (count : ℕ) → IsCounted l all (x ∷ xs) count → IsCounted l all xs (count * (summed l x * l.d ^ derivative_count x))
counted_step l all xs x count h = record {
  total = turned count (summed l x) (l.d ^ derivative_count x) (column_count l xs) ∙ h.total;
  few = N.le_trans (subst (λ n. n ≤ count * own_spread l (x ∷ xs)) (sym (turned count (summed l x) (l.d ^ derivative_count x) (own_spread l xs)))
      (N.mul-le-mul_left count (N.mul-le-mul_right (own_spread l xs) (N.mul-le-mul_right (l.d ^ derivative_count x) (within_own l x.f.role x.component))))) h.few;
}
  where
    turned : (c n k r : ℕ) → c * (n * k) * r ≡ c * (n * k * r)
    turned c n k r = N.mul_assoc c (n * k) r

pub counted_next : (l : Layout) (all : List Atom) (i count : ℕ) (d : Atom) → i < length all → IsCounted l all (drop i all) count
    → IsCounted l all (drop (i + 1) all) (count * (summed l (get_or all i d) * l.d ^ derivative_count (get_or all i d)))
counted_next l all i count d h c = counted_step l all (drop (i + 1) all) (get_or all i d) count (subst (λ xs. IsCounted l all xs count) (drop_here all i d h) c)

pub counted_few : (l : Layout) (all rest : List Atom) (count : ℕ) → 1 ≤ l.d → IsCounted l all rest count → count ≤ 2 ^ 20
counted_few l all rest count h c =
    N.le_trans (subst (λ n. n ≤ count * own_spread l rest) (N.mul-one count) (N.mul-le-mul_left count (some_spread l rest h))) c.few

pub counted_all : (l : Layout) (all : List Atom) (i count : ℕ) → length all ≤ i → IsCounted l all (drop i all) count → count ≡ column_count l all
counted_all l all i count h c = sym (N.mul-one count) ∙ ap (λ xs. count * column_count l xs) (sym (drop_all i all h)) ∙ c.total

-- an atom of a small product has few columns, and few lists of reference directions
some_nodes : (n : ℕ) → 1 ≤ max 1 n
some_nodes n = omega arith

covered : (n m k r : ℕ) → n ≤ m → 1 ≤ r → n * k ≤ m * k * r
covered n m k r h g =
    let p : n * k ≤ m * k = N.mul-le-mul_right k h in
    let q : m * k * 1 ≤ m * k * r = N.mul-le-mul_left (m * k) g in
    omega (arith, p, q)

module _ (l : Layout) (all : List Atom) (i : ℕ) (d : Atom) (h : 1 ≤ l.d) (g : i < length all) (s : IsSmall l all) where
  own_few : (n : ℕ) → n ≤ own_nodes l (get_or all i d).f.role (get_or all i d).component → n * l.d ^ derivative_count (get_or all i d) ≤ 2 ^ 20
  own_few n k =
      N.le_trans (covered n (own_nodes l (get_or all i d).f.role (get_or all i d).component) (l.d ^ derivative_count (get_or all i d)) (own_spread l (drop (i + 1) all)) k (some_spread l (drop (i + 1) all) h))
      (subst (λ xs. own_spread l xs ≤ 2 ^ 20) (drop_here all i d g) (small_drop l all i h s).spread)

  pub atom_few : summed l (get_or all i d) * l.d ^ derivative_count (get_or all i d) ≤ 2 ^ 20
  atom_few = own_few (summed l (get_or all i d)) (within_own l (get_or all i d).f.role (get_or all i d).component)

  pub lists_few : l.d ^ derivative_count (get_or all i d) ≤ 2 ^ 20
  lists_few = subst (λ n. n ≤ 2 ^ 20) (N.one-mul (l.d ^ derivative_count (get_or all i d))) (own_few 1 (some_nodes _))
