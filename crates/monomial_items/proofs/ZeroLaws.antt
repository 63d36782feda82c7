-- Rows of zeros
use Rattle.std.proofs.Common.{◌≡◌, ℕ, zero, suc, ◌+◌, ◌-◌, ◌<◌, ◌≤◌, ◌⊎◌, inl, inr, Bool, true, false, ◌&&◌, nat_le, nat_lt, if◌then◌else◌, List, [], ◌∷◌, Some, None, map, take, drop, length, refl, sym, ap, ◌∙◌, arith}
use Rattle.std.specs.Prelude.{slice_get, slice_index}
use Rattle.std.specs.List.{flat_map, AllByRecursion}
use Rattle.std.proofs.lemmas.Bool.Decides.{nat_tests}
use Rattle.algebra.specs.RingLaws as L
use Rattle.algebra.specs.Fraction.{Fraction, fractions, zero_fraction, mul}
use Rattle.calculus.specs.Integral.{shadow_integral}
use Rattle.calculus.specs.Polynomial.{Polynomial, nil, times, constant, derivative, constant_term, polynomials}
use Rattle.calculus.specs.Simplex.{reference}
use Rattle.calculus.proofs.PolynomialLaws.{constant-zero, value-constant}
use Rattle.calculus.proofs.Linear.{shadow_integral-scaled}
use Rattle.polyalg.proofs.DerivedLaws.{derivative-nil}
use Rattle.spaces.specs.declared.parts.Part.{Part}
use Rattle.ufl_tree.specs.declared.function.Role.{Role}
use Rattle.ufl_tree.specs.declared.function.Role.TheVariants.{Test, Trial, Position, Coefficient}
use Rattle.monos.specs.declared.layout.Layout.{Layout}
use Rattle.monos.specs.declared.mono.Atom.{Atom}
use Rattle.monos.specs.Layout.{role_parts, place_of}
use Rattle.monos.specs.Monomial.{Monomial, directions}
use Rattle.refint.specs.Local.{in_part, node_function}
use Rattle.refint.specs.Reference.{items, item, digit_lists, node_counts, product_at, atom_function, without_own, along_all, at_node}
use Rattle.basis_products.proofs.Lists.{all_append}
use Rattle.monomial_products.proofs.NextLaws.{position_is, coefficient_part}
use Rattle.monomial_products.proofs.PartLaws.{some_is, none_some}
use Rattle.monomial_items.specs.Integrals.{integral_on}

-- ---- the integral of nothing
none_of : (p : Polynomial) → times (constant zero_fraction) p ≡ nil
none_of p = ap (λ c. times c p) constant-zero ∙ L.zero-mul polynomials p

integral_zero : (d : ℕ) → integral_on d nil ≡ zero_fraction
integral_zero d =
    ap constant_term (ap (shadow_integral d (reference d)) (sym (none_of nil)) ∙ shadow_integral-scaled d zero_fraction (reference d) nil ∙ none_of (shadow_integral d (reference d) nil))
    ∙ ap constant_term (sym constant-zero) ∙ value-constant (λ i. zero_fraction) zero_fraction

along_nil : (ds : List ℕ) → along_all ds nil ≡ nil
along_nil [] = refl
along_nil (i ∷ is) = ap (derivative i) (along_nil is) ∙ derivative-nil i

-- ---- a product with nothing
module _ (l : Layout) (a b : ℕ) where
  product_nil : (xs : List Atom) (k : ℕ) (x : Atom) → slice_get xs k ≡ Some x → ((ns : List ℕ) → atom_function l (reference l.d) a b x.f.role x.component ns ≡ nil) → (ns ds : List ℕ)
      → product_at l a b xs ns ds ≡ nil
  product_nil [] k x e h ns ds = absurd (none_some x e)
  product_nil (y ∷ xs) zero x e h ns ds =
      ap (λ p. times p (product_at l a b xs (without_own y.f.role ns) (drop (length (directions y)) ds)))
      (ap (along_all (take (length (directions y)) ds)) (ap (λ (z : Atom). atom_function l (reference l.d) a b z.f.role z.component ns) (some_is y x e) ∙ h ns) ∙ along_nil _)
      ∙ L.zero-mul polynomials _
  product_nil (y ∷ xs) (suc k) x e h ns ds =
      ap (times (along_all (take (length (directions y)) ds) (atom_function l (reference l.d) a b y.f.role y.component ns))) (product_nil xs k x e h _ _)
      ∙ L.mul-zero polynomials _

all_mapped : {A B : Type 0} (P : B → Type 0) (f : A → B) → ((x : A) → P (f x)) → (xs : List A) → AllByRecursion P (map f xs)
all_mapped P f h [] = tt
all_mapped P f h (x ∷ xs) = (h x, all_mapped P f h xs)

all_flat : {A B : Type 0} (P : B → Type 0) (f : A → List B) → ((x : A) → AllByRecursion P (f x)) → (xs : List A) → AllByRecursion P (flat_map f xs)
all_flat P f h [] = tt
all_flat P f h (x ∷ xs) = all_append P (f x) (flat_map f xs) (h x) (all_flat P f h xs)

abbrev AreZero : List Fraction → Type 0
AreZero xs = AllByRecursion (λ z. z ≡ zero_fraction) xs

each_zero : (l : Layout) (m : Monomial) (a b : ℕ) → ((ns ds : List ℕ) → item l m a b ns ds ≡ zero_fraction) → AreZero (items l m a b)
unfolding items
each_zero l m a b h =
    all_flat (λ z. z ≡ zero_fraction) (λ ns. map (item l m a b ns) (digit_lists (map (λ i. l.d) (flat_map directions m.atoms))))
    (λ ns. all_mapped (λ z. z ≡ zero_fraction) (item l m a b ns) (h ns) (digit_lists (map (λ i. l.d) (flat_map directions m.atoms)))) (digit_lists (node_counts l m.atoms))

pub number_zero : (l : Layout) (m : Monomial) → m.c ≡ zero_fraction → (a b : ℕ) → AreZero (items l m a b)
number_zero l m e a b = each_zero l m a b (λ ns ds. ap (λ c. mul c (integral_on l.d (product_at l a b m.atoms ns ds))) e ∙ L.zero-mul fractions _)

atom_zero : (l : Layout) (m : Monomial) (k : ℕ) (x : Atom) → slice_get m.atoms k ≡ Some x → (a b : ℕ) → ((ns : List ℕ) → atom_function l (reference l.d) a b x.f.role x.component ns ≡ nil)
    → AreZero (items l m a b)
atom_zero l m k x e a b h =
    each_zero l m a b (λ ns ds. ap (λ p. mul m.c (integral_on l.d p)) (product_nil l a b m.atoms k x e h ns ds) ∙ ap (mul m.c) (integral_zero l.d) ∙ L.mul-zero fractions m.c)

-- ---- atoms that are nothing
partless : (l : Layout) (a b i : ℕ) (r : Role) → slice_get (role_parts l r) i ≡ None → (ns : List ℕ) → atom_function l (reference l.d) a b r i ns ≡ nil
partless l a b i Test e ns = ap (λ o. in_part l.d (reference l.d) o a) e
partless l a b i Trial e ns = ap (λ o. in_part l.d (reference l.d) o b) e
partless l a b i Position e ns = ap (λ o. at_node l.d (reference l.d) o (slice_index ns 0)) (sym (position_is l.position i) ∙ e)
partless l a b i (Coefficient n) e ns = ap (λ o. at_node l.d (reference l.d) o (slice_index ns 0)) (sym (coefficient_part (place_of l.coefs n) i) ∙ e)

pub partless_zero : (l : Layout) (m : Monomial) (k : ℕ) (x : Atom) → slice_get m.atoms k ≡ Some x → slice_get (role_parts l x.f.role) x.component ≡ None → (a b : ℕ) → AreZero (items l m a b)
partless_zero l m k x e h a b = atom_zero l m k x e a b (partless l a b x.component x.f.role h)

below_none : (o a : ℕ) → a < o → nat_le o a ≡ false
below_none o a h = grind (arith, nat_tests)

past_none : (n a : ℕ) → n ≤ a → nat_lt a n ≡ false
past_none n a h = grind (arith, nat_tests)

and_false : (b : Bool) → (b && false) ≡ false
and_false true = refl
and_false false = refl

outside : (d : ℕ) (p : Part) (a : ℕ) → (a < p.offset) ⊎ (p.offset + p.nodes ≤ a) → in_part d (reference d) (Some p) a ≡ nil
outside d p a (inl h) = ap (λ t. if t && nat_lt a (p.offset + p.nodes) then node_function d (reference d) p (a - p.offset) else nil) (below_none p.offset a h)
outside d p a (inr h) =
    ap (λ t. if nat_le p.offset a && t then node_function d (reference d) p (a - p.offset) else nil) (past_none (p.offset + p.nodes) a h)
    ∙ ap (λ t. if t then node_function d (reference d) p (a - p.offset) else nil) (and_false (nat_le p.offset a))

pub tests_zero : (l : Layout) (m : Monomial) (k : ℕ) (x : Atom) → slice_get m.atoms k ≡ Some x → x.f.role ≡ Test → (p : Part) → slice_get l.rows.items x.component ≡ Some p → (a b : ℕ)
    → (a < p.offset) ⊎ (p.offset + p.nodes ≤ a) → AreZero (items l m a b)
tests_zero l m k x e r p f a b h =
    atom_zero l m k x e a b (λ ns. ap (λ z. atom_function l (reference l.d) a b z x.component ns) r ∙ ap (λ o. in_part l.d (reference l.d) o a) f ∙ outside l.d p a h)

pub trials_zero : (l : Layout) (m : Monomial) (k : ℕ) (x : Atom) → slice_get m.atoms k ≡ Some x → x.f.role ≡ Trial → (p : Part) → slice_get l.cols.items x.component ≡ Some p → (a b : ℕ)
    → (b < p.offset) ⊎ (p.offset + p.nodes ≤ b) → AreZero (items l m a b)
trials_zero l m k x e r p f a b h =
    atom_zero l m k x e a b (λ ns. ap (λ z. atom_function l (reference l.d) a b z x.component ns) r ∙ ap (λ o. in_part l.d (reference l.d) o b) f ∙ outside l.d p b h)
