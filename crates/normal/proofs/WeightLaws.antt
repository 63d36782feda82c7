-- The weight of a tree bounds the list of its monomials
use Rattle.std.proofs.Common.{◌≡◌, ℕ, zero, suc, ◌+◌, ◌*◌, ◌≤◌, List, [], ◌∷◌, ◌++◌, length, refl, sym, ◌∙◌, ap, subst, arith}
use Rattle.std.specs.List.{AllByRecursion}
use native.Mathlib.Nat as N
use Rattle.algebra.specs.Fraction.{Fraction}
use Rattle.ufl_tree.specs.declared.function.Function.{Function}
use Rattle.monos.specs.declared.weight.Weight.{Weight}
use Rattle.weigh.specs.Steps.{space_step}
use Rattle.monos.specs.Monomial.{Monomial}
use Rattle.monos.specs.declared.mono.Atom.{Atom}
use Rattle.normal.specs.Monomials.{all_negative, all_times, products, bumped, atom_along, all_with, atoms_along, all_with_factor, all_derived, monos_along}
use Rattle.weigh.specs.Lists.{lists_below}
use Rattle.weigh.specs.Lists.{costs, HasWeight, AreProducts, AllProducts, none, more, IsDerived, AllDerived, AreNegated}
use Rattle.monos.specs.Monomial.{derivative_count, derivatives as turns}
use Rattle.normal.specs.Bounding.{AreShort}
use Rattle.weigh.proofs.ListLaws.{all_append}
use Rattle.weigh.proofs.NodeLaws.{space_list}

-- ---- how many atoms
pub short_more : (n k : ℕ) → n ≤ k → (ms : List Monomial) → AreShort n ms → AreShort k ms
short_more n k h [] x = tt
short_more n k h (m ∷ ms) x = (N.le_trans x.0 h, short_more n k h ms x.1)

pub short_append : (n : ℕ) (ms ns : List Monomial) → AreShort n ms → AreShort n ns → AreShort n (ms ++ ns)
short_append n ms ns = all_append (λ m. length m.atoms ≤ n) ms ns

pub short_negative : (n : ℕ) (ms : List Monomial) → AreShort n ms → AreShort n (all_negative ms)
short_negative n [] x = tt
short_negative n (m ∷ ms) x = (x.0, short_negative n ms x.1)

pub both_long : (xs ys : List Atom) → length (xs ++ ys) ≡ length xs + length ys
both_long [] ys = sym (N.zero-add (length ys))
both_long (x ∷ xs) ys = ap suc (both_long xs ys) ∙ sym (N.suc-add (length xs) (length ys))

short_row : (n k : ℕ) (m : Monomial) (ns : List Monomial) → length m.atoms ≤ n → AreShort k ns → AreShort (n + k) (all_times m ns)
short_row n k m [] h x = tt
short_row n k m (j ∷ ns) h x = (subst (λ v. v ≤ n + k) (sym (both_long m.atoms j.atoms)) (N.add-le-add h x.0), short_row n k m ns h x.1)

pub short_products : (n k : ℕ) (ms ns : List Monomial) → AreShort n ms → AreShort k ns → AreShort (n + k) (products ms ns)
short_products n k [] ns x y = tt
short_products n k (m ∷ ms) ns x y = short_append (n + k) (all_times m ns) (products ms ns) (short_row n k m ns x.0 y) (short_products n k ms ns x.1 y)

pub short_below : (n k : ℕ) (f : ℕ → List Monomial) → ((j : ℕ) → AreShort k (f j)) → AreShort k (lists_below n f)
short_below zero k f h = tt
short_below (suc n) k f h = short_append k (lists_below n f) (f n) (short_below n k f h) (h n)

-- each choice of the product rule is as long as the product
abbrev pub AreAsLong : ℕ → List (List Atom) → Type 0
AreAsLong n xs = AllByRecursion (λ x. length x ≡ n) xs

long_with : (a : Atom) (n : ℕ) (xs : List (List Atom)) → AreAsLong n xs → AreAsLong (suc n) (all_with a xs)
long_with a n [] h = tt
long_with a n (x ∷ xs) h = (ap suc h.0, long_with a n xs h.1)

pub long_choices : (i : ℕ) (xs : List Atom) → AreAsLong (length xs) (atoms_along i xs)
long_choices i [] = tt
long_choices i (x ∷ xs) = (refl, long_with x (length xs) (atoms_along i xs) (long_choices i xs))

short_factor : (n k : ℕ) (c : Fraction) (xs : List (List Atom)) → k ≤ n → AreAsLong k xs → AreShort n (all_with_factor c xs)
short_factor n k c [] h x = tt
short_factor n k c (y ∷ ys) h x = (subst (λ v. v ≤ n) (sym x.0) h, short_factor n k c ys h x.1)

short_derivatives : (i n : ℕ) (ms : List Monomial) → AreShort n ms → AreShort n (all_derived i ms)
short_derivatives i n [] x = tt
short_derivatives i n (m ∷ ms) x =
    short_append n (all_with_factor m.c (atoms_along i m.atoms)) (all_derived i ms)
    (short_factor n (length m.atoms) m.c (atoms_along i m.atoms) x.0 (long_choices i m.atoms)) (short_derivatives i n ms x.1)

pub short_along : (i n : ℕ) (ms : List Monomial) → AreShort n ms → AreShort n (monos_along i ms)
short_along zero n ms x = short_derivatives 0 n ms x
short_along (suc zero) n ms x = short_derivatives 1 n ms x
short_along (suc (suc zero)) n ms x = short_derivatives 2 n ms x
short_along (suc (suc (suc i))) n ms x = tt

-- ---- products and derivatives, as the laws of lists ask for them
module _ (cost : Function → ℕ) where
  pub costs_append : (xs ys : List Atom) → costs cost (xs ++ ys) ≡ costs cost xs * costs cost ys
  costs_append [] ys = sym (N.one-mul (costs cost ys))
  costs_append (x ∷ xs) ys = ap (λ n. cost x.f * n) (costs_append xs ys) ∙ sym (N.mul_assoc (cost x.f) (costs cost xs) (costs cost ys))

  pub turns_append : (xs ys : List Atom) → turns (xs ++ ys) ≡ turns xs + turns ys
  turns_append [] ys = sym (N.zero-add (turns ys))
  turns_append (x ∷ xs) ys = ap (λ n. derivative_count x + n) (turns_append xs ys) ∙ sym (N.add_assoc (derivative_count x) (turns xs) (turns ys))

  row_products : (m : Monomial) (ns : List Monomial) → AreProducts cost m ns (all_times m ns)
  row_products m [] = tt
  row_products m (n ∷ ns) = (record { value = refl; costs = costs_append m.atoms n.atoms; derivatives = turns_append m.atoms n.atoms }, row_products m ns)

  pub are_products : (ms ns : List Monomial) → AllProducts cost ns ms (products ms ns)
  are_products [] ns = none
  are_products (m ∷ ms) ns = more m ms (all_times m ns) (products ms ns) (row_products m ns) (are_products ms ns)

  pub counted_zero : (ds : List ℕ) (f : Function) (k : ℕ) → derivative_count (record { f = f; component = k; dirs = bumped 0 ds }) ≡ suc (derivative_count (record { f = f; component = k; dirs = ds }))
  counted_zero [] f k = refl
  counted_zero (a ∷ ds) f k = omega arith

  pub counted_one : (ds : List ℕ) (f : Function) (k : ℕ) → derivative_count (record { f = f; component = k; dirs = bumped 1 ds }) ≡ suc (derivative_count (record { f = f; component = k; dirs = ds }))
  counted_one [] f k = refl
  counted_one (a ∷ []) f k = omega arith
  counted_one (a ∷ b ∷ ds) f k = omega arith

  pub counted_two : (ds : List ℕ) (f : Function) (k : ℕ) → derivative_count (record { f = f; component = k; dirs = bumped 2 ds }) ≡ suc (derivative_count (record { f = f; component = k; dirs = ds }))
  counted_two [] f k = refl
  counted_two (a ∷ []) f k = omega arith
  counted_two (a ∷ b ∷ []) f k = omega arith
  counted_two (a ∷ b ∷ c ∷ ds) f k = omega arith

  abbrev pub IsChoice : List Atom → List Atom → Type 0
  IsChoice xs ys = (costs cost ys ≡ costs cost xs) × (turns ys ≡ suc (turns xs))

  module _ (i : ℕ) (counts : (ds : List ℕ) (f : Function) (k : ℕ)
      → derivative_count (record { f = f; component = k; dirs = bumped i ds }) ≡ suc (derivative_count (record { f = f; component = k; dirs = ds }))) where
    choices_with : (x : Atom) (xs : List Atom) (ys : List (List Atom)) → AllByRecursion (IsChoice xs) ys → AllByRecursion (IsChoice (x ∷ xs)) (all_with x ys)
    choices_with x xs [] h = tt
    choices_with x xs (y ∷ ys) h = ((ap (λ n. cost x.f * n) h.0.0, next (derivative_count x) (turns y) (turns xs) h.0.1), choices_with x xs ys h.1)
      where
        next : (a b c : ℕ) → b ≡ suc c → a + b ≡ suc (a + c)
        next a b c e = omega (arith, e)

    pub are_choices : (xs : List Atom) → AllByRecursion (IsChoice xs) (atoms_along i xs)
    are_choices [] = tt
    are_choices (x ∷ xs) = ((refl, first (derivative_count (atom_along i x)) (derivative_count x) (turns xs) (counts x.dirs x.f x.component)), choices_with x xs (atoms_along i xs) (are_choices xs))
      where
        first : (a b c : ℕ) → a ≡ suc b → a + c ≡ suc (b + c)
        first a b c e = omega (arith, e)

    choices_derived : (m : Monomial) (ys : List (List Atom)) → AllByRecursion (IsChoice m.atoms) ys → AllByRecursion (IsDerived cost m) (all_with_factor m.c ys)
    choices_derived m [] h = tt
    choices_derived m (y ∷ ys) h = (record { value = refl; costs = h.0.0; derivatives = h.0.1 }, choices_derived m ys h.1)

    as_many_with : (x : Atom) (ys : List (List Atom)) → length (all_with x ys) ≡ length ys
    as_many_with x [] = refl
    as_many_with x (y ∷ ys) = ap suc (as_many_with x ys)

    as_many_choices : (xs : List Atom) → length (atoms_along i xs) ≡ length xs
    as_many_choices [] = refl
    as_many_choices (x ∷ xs) = ap suc (as_many_with x (atoms_along i xs) ∙ as_many_choices xs)

    as_many_factors : (c : Fraction) (ys : List (List Atom)) → length (all_with_factor c ys) ≡ length ys
    as_many_factors c [] = refl
    as_many_factors c (y ∷ ys) = ap suc (as_many_factors c ys)

    are_derived : (g : ℕ) (ms : List Monomial) → AreShort g ms → AllDerived cost g ms (all_derived i ms)
    are_derived g [] x = none
    are_derived g (m ∷ ms) x =
        more m ms (all_with_factor m.c (atoms_along i m.atoms)) (all_derived i ms)
        (subst (λ n. n ≤ g) (sym (as_many_factors m.c (atoms_along i m.atoms) ∙ as_many_choices m.atoms)) x.0)
        (choices_derived m (atoms_along i m.atoms) (are_choices m.atoms)) (are_derived g ms x.1)

  pub nothing_list : (d : ℕ) (w : Weight) → HasWeight cost d w []
  nothing_list d w = record { over = tt; sum = omega arith; total = omega arith }

  pub along_list : (d i : ℕ) (a : Weight) (ms : List Monomial) → AreShort a.g ms → HasWeight cost d a ms → HasWeight cost d (space_step d a) (monos_along i ms)
  along_list d zero a ms x h = space_list cost d a ms (all_derived 0 ms) h (are_derived 0 counted_zero a.g ms x)
  along_list d (suc zero) a ms x h = space_list cost d a ms (all_derived 1 ms) h (are_derived 1 counted_one a.g ms x)
  along_list d (suc (suc zero)) a ms x h = space_list cost d a ms (all_derived 2 ms) h (are_derived 2 counted_two a.g ms x)
  along_list d (suc (suc (suc i))) a ms x h = nothing_list d (space_step d a)

  pub are_negated : (ms : List Monomial) → AreNegated ms (all_negative ms)
  are_negated [] = tt
  are_negated (m ∷ ms) = ((refl, refl), are_negated ms)
