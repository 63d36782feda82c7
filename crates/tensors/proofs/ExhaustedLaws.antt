-- Rows are 0 where the function of an atom is: without a part, or derived more often than its part's degree
use Rattle.std.proofs.Common.{◌≡◌, ℕ, zero, suc, ◌+◌, ◌-◌, ◌<◌, ◌≤◌, Bool, true, false, ◌&&◌, nat_le, nat_lt, if◌then◌else◌, List, [], ◌∷◌, Option, None, Some, map, take, drop, length, refl, sym, ap, ◌∙◌, subst, arith}
use Rattle.std.specs.Prelude.{slice_get, slice_index}
use Rattle.std.specs.List.{flat_map, AllByRecursion}
use Rattle.std.proofs.lemmas.Bool.Decides.{nat_tests}
use Rattle.std.proofs.lemmas.List.{length-take-le, length-drop, length-append}
use Rattle.algebra.specs.RingLaws as L
use Rattle.algebra.specs.Fraction.{fractions, zero_fraction, mul}
use Rattle.calculus.specs.Integral.{shadow_integral}
use Rattle.calculus.specs.Polynomial.{Polynomial, nil, times, constant, constant_term, polynomials}
use Rattle.calculus.specs.Simplex.{reference}
use Rattle.calculus.proofs.PolynomialLaws.{constant-zero, value-constant}
use Rattle.calculus.proofs.Linear.{shadow_integral-scaled}
use Rattle.spaces.specs.declared.parts.Part.{Part}
use Rattle.ufl_tree.specs.declared.function.Role.{Role}
use Rattle.ufl_tree.specs.declared.function.Role.TheVariants.{Test, Trial, Position, Coefficient}
use Rattle.monos.specs.declared.layout.Layout.{Layout}
use Rattle.monos.specs.declared.mono.Atom.{Atom}
use Rattle.monos.specs.Layout.{IsLawfulLayout, role_parts, place_of}
use Rattle.monos.specs.Monomial.{Monomial, directions, derivative_count}
use Rattle.monos.proofs.LayoutLaws.{directions_count}
use Rattle.refint.specs.Local.{numbers_below, node_function, in_part}
use Rattle.refint.specs.Reference.{items, item, digit_lists, node_counts, product_at, atom_function, without_own, along_all, at_node}
use Rattle.refint.proofs.Lists.{first_mapped}
use Rattle.refint.proofs.Combined.{map_length}
use Rattle.basis_products.proofs.Lists.{all_append}
use Rattle.monomial_products.specs.Products.{alive_on, is_alive, are_alive}
use Rattle.monomial_products.proofs.NextLaws.{position_is, coefficient_part}
use Rattle.monomial_products.proofs.PartLaws.{some_is, none_some, lawful_part, lawful_dimension}
use Rattle.monomial_items.specs.Integrals.{integral_on}
use Rattle.monomial_items.proofs.ZeroLaws.{partless_zero}
use Rattle.tensors.specs.Rows.{AreZero}
use Rattle.tensors.proofs.VanishingLaws.{along_nil, exhausted}

-- ---- the integral of nothing
none_of : (p : Polynomial) → times (constant zero_fraction) p ≡ nil
none_of p = ap (λ c. times c p) constant-zero ∙ L.zero-mul polynomials p

integral_zero : (d : ℕ) → integral_on d nil ≡ zero_fraction
integral_zero d =
    ap constant_term (ap (shadow_integral d (reference d)) (sym (none_of nil)) ∙ shadow_integral-scaled d zero_fraction (reference d) nil ∙ none_of (shadow_integral d (reference d) nil))
    ∙ ap constant_term (sym constant-zero) ∙ value-constant (λ i. zero_fraction) zero_fraction

-- ---- an atom that is derived too often
module _ (l : Layout) (lawful : IsLawfulLayout l) (p : Part) (ds : List ℕ) (h : p.degree < length ds) where
  function_gone : p.degree ≤ 3 → (j : ℕ) → along_all ds (node_function l.d (reference l.d) p j) ≡ nil
  function_gone k j = let w = lawful_dimension l lawful in exhausted l.d p j ds w.0 w.1 k h

  argument_gone : p.degree ≤ 3 → (a : ℕ) → along_all ds (in_part l.d (reference l.d) (Some p) a) ≡ nil
  argument_gone k a = go (nat_le p.offset a && nat_lt a (p.offset + p.nodes))
    where
      go : (b : Bool) → along_all ds (if b then node_function l.d (reference l.d) p (a - p.offset) else nil) ≡ nil
      go true = function_gone k (a - p.offset)
      go false = along_nil ds

  atom_gone : (r : Role) (i a b : ℕ) (ns : List ℕ) → slice_get (role_parts l r) i ≡ Some p → along_all ds (atom_function l (reference l.d) a b r i ns) ≡ nil
  atom_gone Test i a b ns e = ap (λ o. along_all ds (in_part l.d (reference l.d) o a)) e ∙ argument_gone (lawful_part l lawful Test i p e).degree a
  atom_gone Trial i a b ns e = ap (λ o. along_all ds (in_part l.d (reference l.d) o b)) e ∙ argument_gone (lawful_part l lawful Trial i p e).degree b
  atom_gone Position i a b ns e =
      ap (λ o. along_all ds (at_node l.d (reference l.d) o (slice_index ns 0))) (sym (position_is l.position i) ∙ e)
      ∙ function_gone (lawful_part l lawful Position i p e).degree (slice_index ns 0)
  atom_gone (Coefficient n) i a b ns e =
      ap (λ o. along_all ds (at_node l.d (reference l.d) o (slice_index ns 0))) (sym (coefficient_part (place_of l.coefs n) i) ∙ e)
      ∙ function_gone (lawful_part l lawful (Coefficient n) i p e).degree (slice_index ns 0)

-- ---- a product with it, in as many directions as there are derivatives
abbrev IsGone : Layout → ℕ → ℕ → Atom → Type 0
IsGone l a b x = (ds ns : List ℕ) → length ds ≡ length (directions x) → along_all ds (atom_function l (reference l.d) a b x.f.role x.component ns) ≡ nil

product_gone : (l : Layout) (a b : ℕ) (xs : List Atom) (k : ℕ) (x : Atom) → slice_get xs k ≡ Some x → IsGone l a b x → (ns ds : List ℕ) → length ds ≡ length (flat_map directions xs)
    → product_at l a b xs ns ds ≡ nil
product_gone l a b [] k x e h ns ds g = absurd (none_some x e)
product_gone l a b (y ∷ xs) zero x e h ns ds g =
    ap (λ p. times p (product_at l a b xs (without_own y.f.role ns) (drop (length (directions y)) ds)))
    (subst (IsGone l a b) (sym (some_is y x e)) h (take (length (directions y)) ds) ns
    (length-take-le (length (directions y)) ds (omega (arith, length-append (directions y) (flat_map directions xs)))))
    ∙ L.zero-mul polynomials _
product_gone l a b (y ∷ xs) (suc k) x e h ns ds g =
    ap (times (along_all (take (length (directions y)) ds) (atom_function l (reference l.d) a b y.f.role y.component ns)))
    (product_gone l a b xs k x e h (without_own y.f.role ns) (drop (length (directions y)) ds)
    (length-drop (length (directions y)) ds ∙ omega (arith, length-append (directions y) (flat_map directions xs))))
    ∙ L.mul-zero polynomials _

pub all_flat : {A B : Type 0} (P : B → Type 0) (f : A → List B) → ((x : A) → AllByRecursion P (f x)) → (xs : List A) → AllByRecursion P (flat_map f xs)
all_flat P f h [] = tt
all_flat P f h (x ∷ xs) = all_append P (f x) (flat_map f xs) (h x) (all_flat P f h xs)

all_digits : {A : Type 0} (P : A → Type 0) (ns : List ℕ) (f : List ℕ → A) → ((ds : List ℕ) → length ds ≡ length ns → P (f ds)) → AllByRecursion P (map f (digit_lists ns))
all_digits P [] f h = (h [] refl, tt)
all_digits P (n ∷ ns) f h =
    subst (AllByRecursion P) (sym (first_mapped f n ns))
    (all_flat P (λ k. map (λ ds. f (k ∷ ds)) (digit_lists ns)) (λ k. all_digits P ns (λ ds. f (k ∷ ds)) (λ ds e. h (k ∷ ds) (ap suc e))) (numbers_below n))

gone_zero : (l : Layout) (m : Monomial) (k : ℕ) (x : Atom) → slice_get m.atoms k ≡ Some x → (a b : ℕ) → IsGone l a b x → AreZero (items l m a b)
unfolding items
gone_zero l m k x e a b h =
    all_flat (λ z. z ≡ zero_fraction) (λ ns. map (item l m a b ns) (digit_lists (map (λ i. l.d) (flat_map directions m.atoms))))
    (λ ns. all_digits (λ z. z ≡ zero_fraction) (map (λ i. l.d) (flat_map directions m.atoms)) (item l m a b ns)
    (λ ds g. ap (λ p. mul m.c (integral_on l.d p)) (product_gone l a b m.atoms k x e h ns ds (g ∙ map_length (λ i. l.d) (flat_map directions m.atoms)))
    ∙ ap (mul m.c) (integral_zero l.d) ∙ L.mul-zero fractions m.c))
    (digit_lists (node_counts l m.atoms))

-- ---- an atom that isn't alive
record IsDead (l : Layout) (xs : List Atom) : Type 0 where
  k : ℕ
  x : Atom
  own : slice_get xs k ≡ Some x
  dead : is_alive l x ≡ false

dead_in : (l : Layout) (xs : List Atom) → are_alive l xs ≡ false → IsDead l xs
dead_in l [] e = absurd (apart e)
  where
    apart : true ≡ false → ⊥
    apart e = cc
dead_in l (x ∷ xs) e = go (is_alive l x) refl e (dead_in l xs)
  where
    go : (b : Bool) → is_alive l x ≡ b → (b && are_alive l xs) ≡ false → (are_alive l xs ≡ false → IsDead l xs) → IsDead l (x ∷ xs)
    go true h e rest = let r = rest e in record { k = suc r.k; x = r.x; own = r.own; dead = r.dead }
    go false h e rest = record { k = 0; x = x; own = refl; dead = h }

pub dead_zero : (l : Layout) → IsLawfulLayout l → (m : Monomial) → are_alive l m.atoms ≡ false → (a b : ℕ) → AreZero (items l m a b)
dead_zero l h m e a b =
    let w = dead_in l m.atoms e in
    go w (slice_get (role_parts l w.x.f.role) w.x.component) refl w.dead
  where
    more : (k n : ℕ) → nat_le k n ≡ false → n < k
    more k n e = grind (arith, nat_tests)

    go : (w : IsDead l m.atoms) (o : Option Part) → slice_get (role_parts l w.x.f.role) w.x.component ≡ o → alive_on o (derivative_count w.x) ≡ false → AreZero (items l m a b)
    go w None f g = partless_zero l m w.k w.x w.own f a b
    go w (Some p) f g =
        gone_zero l m w.k w.x w.own a b
        (λ ds ns e. atom_gone l h p ds (omega (arith, more (derivative_count w.x) p.degree g, directions_count w.x)) w.x.f.role w.x.component a b ns f)
