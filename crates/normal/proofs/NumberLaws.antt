-- What a weight says of each monomial of a tree
use Rattle.std.proofs.Common.{◌≡◌, ℕ, zero, suc, ◌+◌, ◌-◌, ◌*◌, ◌≤◌, ◌==◌, max, Bool, true, false, List, [], ◌∷◌, ◌++◌, length, Option, None, Some, slice_get, IsPermutation, if◌then◌else◌, refl, sym, ◌∙◌, ap, subst, arith}
use Rattle.std.specs.List.{AllByRecursion}
use Prim.Native.Nat.{◌∣◌}
use native.Mathlib.Nat as N
use Rattle.algebra.specs.Fraction.{Fraction, one_fraction}
use Rattle.spaces.specs.Scalar.{Scalar}
use Rattle.ufl_tree.specs.declared.function.Function.{Function}
use Rattle.ufl_tree.specs.Indices.{Names, with_name, index_value, index_values}
use Rattle.ufl_tree.specs.Places.{Table, function_place}
use Rattle.ufl_tree.specs.Term.{Term, num, fun, mark, neg, sum, prod, over, dx, delta, pick, raise, turn, Terms, no_terms, term}
use Rattle.monos.specs.declared.mono.Atom.{Atom}
use Rattle.monos.specs.declared.weight.Weight.{Weight}
use Rattle.monos.specs.Monomial.{Monomial, derivative_count, derivatives}
use Rattle.weigh.specs.Bounds.{Bounds}
use Rattle.weigh.specs.Lists.{costs, lists_below}
use Rattle.weigh.specs.Steps.{number_step, one_step, times_step, both_step, index_step, space_step, label_step}
use Rattle.weigh.specs.Terms.{term_weight, term_directions, items_weight}
use Rattle.weigh.specs.Weighing.{parts_weight, scalars_in, function_weight}
use Rattle.weigh.proofs.BoundsLaws.{join_first, join_second}
use Rattle.weigh.proofs.ListLaws.{all_append}
use Rattle.normal.specs.Bounding.{function_sum, HasNumbers, HaveNumbers}
use Rattle.normal.specs.Collecting.{merged, nonzero, IsSortedOut}
use Rattle.normal.specs.Monomials.{number_mono, function_mono, all_negative, all_times, products, bumped, all_with, atoms_along, all_with_factor, all_derived, monos_along, monomials, item_monomials}
use Rattle.normal.proofs.KeptLaws.{collected_keeps}
use Rattle.normal.proofs.OrderLaws.{in_any_order}
use Rattle.normal.proofs.WeightLaws.{both_long, AreAsLong, long_choices, costs_append, turns_append, counted_zero, counted_one, counted_two, IsChoice, are_choices}

-- ---- a weight that is wider in the numbers that count for each monomial
pub record IsWider (k w : Weight) : Type 0 where
  pub f : w.f ≤ k.f
  pub rmin : k.rmin ≤ w.rmin
  pub rmax : w.rmax ≤ k.rmax
  pub deg : w.deg ≤ k.deg
  pub fac : w.fac ∣ k.fac
  pub s : w.s ≤ k.s

-- what puts two weights together keeps of each what a list does
pub first_wider : (put : ℕ → ℕ → ℕ) (a b : Weight) → IsWider (both_step put a b) a
first_wider put a b = let h = join_first a b in record { f = h.f; rmin = h.rmin; rmax = h.rmax; deg = h.deg; fac = h.fac; s = h.s }

pub second_wider : (put : ℕ → ℕ → ℕ) (a b : Weight) → IsWider (both_step put a b) b
second_wider put a b = let h = join_second a b in record { f = h.f; rmin = h.rmin; rmax = h.rmax; deg = h.deg; fac = h.fac; s = h.s }

pub label_wider : (n : ℕ) (a : Weight) → IsWider (label_step n a) a
label_wider n a = record { f = N.le_refl a.f; rmin = N.le_refl a.rmin; rmax = N.le_refl a.rmax; deg = N.le_refl a.deg; fac = N.dvd_refl a.fac; s = N.le_refl a.s }

pub index_wider : (n : ℕ) (a : Weight) → IsWider (index_step n a) a
index_wider n a = record { f = N.le_refl a.f; rmin = N.le_refl a.rmin; rmax = N.le_refl a.rmax; deg = N.le_refl a.deg; fac = N.dvd_refl a.fac; s = N.le_refl a.s }

pub bound_wider : (w e : Weight) → Bounds w e → IsWider w e
bound_wider w e b = record { f = b.f; rmin = b.rmin; rmax = b.rmax; deg = b.deg; fac = b.fac; s = b.s }

-- ---- arithmetic of the degrees
wider_degree : (x d e r : ℕ) → x ≤ d + r → d ≤ e → x ≤ e + r
wider_degree x d e r h k = omega (arith, h, k)

both_degrees : (x y z d e p q r : ℕ) → z ≡ x + y → r ≡ p + q → x ≤ d + p → y ≤ e + q → z ≤ d + e + r
both_degrees x y z d e p q r g k i j = omega (arith, g, k, i, j)

less_degree : (x y d p q : ℕ) → y ≡ x → q ≡ suc p → x ≤ d + p → y ≤ (d - 1) + q
less_degree x y d p q e h k = omega (arith, e, h, k)

one_more_least : (a b c : ℕ) → a ≡ suc b → c ≤ b → c + 1 ≤ a
one_more_least a b c e h = omega (arith, e, h)

one_more_most : (a b c : ℕ) → a ≡ suc b → b ≤ c → a ≤ c + 1
one_more_most a b c e h = omega (arith, e, h)

sum_append : (n : Function → ℕ) (xs ys : List Atom) → function_sum n (xs ++ ys) ≡ function_sum n xs + function_sum n ys
sum_append n [] ys = sym (N.zero-add (function_sum n ys))
sum_append n (x ∷ xs) ys = ap (λ k. n x.f + k) (sum_append n xs ys) ∙ sym (N.add_assoc (n x.f) (function_sum n xs) (function_sum n ys))

-- each choice of the product rule has the same functions
abbrev HaveSum : (Function → ℕ) → ℕ → List (List Atom) → Type 0
HaveSum n k ys = AllByRecursion (λ y. function_sum n y ≡ k) ys

sum_with : (n : Function → ℕ) (a : Atom) (k : ℕ) (ys : List (List Atom)) → HaveSum n k ys → HaveSum n (n a.f + k) (all_with a ys)
sum_with n a k [] h = tt
sum_with n a k (y ∷ ys) h = (ap (λ j. n a.f + j) h.0, sum_with n a k ys h.1)

sum_choices : (n : Function → ℕ) (i : ℕ) (xs : List Atom) → HaveSum n (function_sum n xs) (atoms_along i xs)
sum_choices n i [] = tt
sum_choices n i (x ∷ xs) = (refl, sum_with n x (function_sum n xs) (atoms_along i xs) (sum_choices n i xs))

-- ---- the number of a function in each of three roles
record IsOneFunction (w : Weight) : Type 0 where
  f : w.f ≡ 1
  rmin : w.rmin ≡ 0
  rmax : w.rmax ≡ 0

one_function : (ps : List Scalar) → IsOneFunction (parts_weight ps)
one_function [] = record { f = refl; rmin = refl; rmax = refl }
one_function (p ∷ ps) = let h = one_function ps in record { f = h.f; rmin = h.rmin; rmax = h.rmax }

module _ (elements : Table) where
  abbrev degree_of : Function → ℕ
  degree_of f = (function_weight elements f).deg

  abbrev fac_of : Function → ℕ
  fac_of f = (function_weight elements f).fac

  abbrev s_of : Function → ℕ
  s_of f = (function_weight elements f).s

  -- ---- lists
  pub wider : (k w : Weight) → IsWider k w → (ms : List Monomial) → HaveNumbers elements w ms → HaveNumbers elements k ms
  wider k w b [] x = tt
  wider k w b (m ∷ ms) x = (
    record {
      functions = N.le_trans (x.0).functions b.f;
      least = N.le_trans b.rmin (x.0).least;
      greatest = N.le_trans (x.0).greatest b.rmax;
      degrees = wider_degree (function_sum degree_of m.atoms) w.deg k.deg (derivatives m.atoms) (x.0).degrees b.deg;
      fac = N.dvd_trans (costs fac_of m.atoms) (x.0).fac b.fac;
      s = N.le_trans (x.0).s b.s;
    },
    wider k w b ms x.1,
  )

  pub append : (w : Weight) (ms ns : List Monomial) → HaveNumbers elements w ms → HaveNumbers elements w ns → HaveNumbers elements w (ms ++ ns)
  append w ms ns = all_append (λ m. HasNumbers elements w m.atoms) ms ns

  pub negatives : (w : Weight) (ms : List Monomial) → HaveNumbers elements w ms → HaveNumbers elements w (all_negative ms)
  negatives w [] x = tt
  negatives w (m ∷ ms) x = (x.0, negatives w ms x.1)

  both : (a b : Weight) (xs ys : List Atom) → HasNumbers elements a xs → HasNumbers elements b ys → HasNumbers elements (times_step a b) (xs ++ ys)
  both a b xs ys h k = record {
    functions = subst (λ v. v ≤ a.f + b.f) (sym (both_long xs ys)) (N.add-le-add h.functions k.functions);
    least = subst (λ v. a.rmin + b.rmin ≤ v) (sym (turns_append fac_of xs ys)) (N.add-le-add h.least k.least);
    greatest = subst (λ v. v ≤ a.rmax + b.rmax) (sym (turns_append fac_of xs ys)) (N.add-le-add h.greatest k.greatest);
    degrees = both_degrees (function_sum degree_of xs) (function_sum degree_of ys) (function_sum degree_of (xs ++ ys)) a.deg b.deg (derivatives xs) (derivatives ys)
        (derivatives (xs ++ ys)) (sum_append degree_of xs ys) (turns_append fac_of xs ys) h.degrees k.degrees;
    fac = subst (λ v. v ∣ a.fac * b.fac) (sym (costs_append fac_of xs ys)) (N.mul-dvd-mul (costs fac_of xs) (costs fac_of ys) h.fac k.fac);
    s = subst (λ v. v ≤ a.s * b.s) (sym (costs_append s_of xs ys)) (N.mul-le-mul h.s k.s);
  }

  row : (a b : Weight) (m : Monomial) (ns : List Monomial) → HasNumbers elements a m.atoms → HaveNumbers elements b ns → HaveNumbers elements (times_step a b) (all_times m ns)
  row a b m [] h x = tt
  row a b m (n ∷ ns) h x = (both a b m.atoms n.atoms h x.0, row a b m ns h x.1)

  pub all_products : (a b : Weight) (ms ns : List Monomial) → HaveNumbers elements a ms → HaveNumbers elements b ns → HaveNumbers elements (times_step a b) (products ms ns)
  all_products a b [] ns x y = tt
  all_products a b (m ∷ ms) ns x y = append (times_step a b) (all_times m ns) (products ms ns) (row a b m ns x.0 y) (all_products a b ms ns x.1 y)

  below : (w : Weight) (n : ℕ) (g : ℕ → List Monomial) → ((j : ℕ) → HaveNumbers elements w (g j)) → HaveNumbers elements w (lists_below n g)
  below w zero g h = tt
  below w (suc n) g h = append w (lists_below n g) (g n) (below w n g h) (h n)

  factors : (d : ℕ) (w : Weight) (c : Fraction) (xs : List Atom) (ys : List (List Atom)) → HasNumbers elements w xs → AllByRecursion (IsChoice fac_of xs) ys
      → AllByRecursion (IsChoice s_of xs) ys → AreAsLong (length xs) ys → HaveSum degree_of (function_sum degree_of xs) ys → HaveNumbers elements (space_step d w) (all_with_factor c ys)
  factors d w c xs [] h a b l t = tt
  factors d w c xs (y ∷ ys) h a b l t = (
    record {
      functions = subst (λ v. v ≤ w.f) (sym l.0) h.functions;
      least = one_more_least (derivatives y) (derivatives xs) w.rmin a.0.1 h.least;
      greatest = one_more_most (derivatives y) (derivatives xs) w.rmax a.0.1 h.greatest;
      degrees = less_degree (function_sum degree_of xs) (function_sum degree_of y) w.deg (derivatives xs) (derivatives y) t.0 a.0.1 h.degrees;
      fac = subst (λ v. v ∣ w.fac) (sym a.0.0) h.fac;
      s = subst (λ v. v ≤ w.s) (sym b.0.0) h.s;
    },
    factors d w c xs ys h a.1 b.1 l.1 t.1,
  )

  module _ (i : ℕ) (counts : (ds : List ℕ) (f : Function) (k : ℕ)
      → derivative_count (record { f = f; component = k; dirs = bumped i ds }) ≡ suc (derivative_count (record { f = f; component = k; dirs = ds }))) where
    derived : (d : ℕ) (w : Weight) (ms : List Monomial) → HaveNumbers elements w ms → HaveNumbers elements (space_step d w) (all_derived i ms)
    derived d w [] x = tt
    derived d w (m ∷ ms) x =
        append (space_step d w) (all_with_factor m.c (atoms_along i m.atoms)) (all_derived i ms)
        (factors d w m.c m.atoms (atoms_along i m.atoms) x.0 (are_choices fac_of i counts m.atoms) (are_choices s_of i counts m.atoms) (long_choices i m.atoms)
        (sum_choices degree_of i m.atoms)) (derived d w ms x.1)

  pub along : (d i : ℕ) (w : Weight) (ms : List Monomial) → HaveNumbers elements w ms → HaveNumbers elements (space_step d w) (monos_along i ms)
  along d zero w ms x = derived 0 (counted_zero fac_of) d w ms x
  along d (suc zero) w ms x = derived 1 (counted_one fac_of) d w ms x
  along d (suc (suc zero)) w ms x = derived 2 (counted_two fac_of) d w ms x
  along d (suc (suc (suc i))) w ms x = tt

  -- ---- leaves
  pub bare : (n m : ℕ) → HasNumbers elements (number_step n m) []
  bare n m = record { functions = omega arith; least = omega arith; greatest = omega arith; degrees = omega arith; fac = N.dvd_refl 1; s = omega arith }

  pub unit : (b : Bool) → HaveNumbers elements one_step (if b then number_mono one_fraction else [])
  unit true = (bare 1 1, tt)
  unit false = tt

  pub function_numbers : (f : Function) (k : Option ℕ) → HaveNumbers elements (function_weight elements f) (function_mono f k)
  function_numbers f None = tt
  function_numbers f (Some k) = (
    record {
      functions = N.le_of_eq (sym h.f);
      least = N.le_of_eq h.rmin;
      greatest = N.le_of_eq (sym h.rmax);
      degrees = omega arith;
      fac = subst (λ v. v ∣ fac_of f) (sym (N.mul-one (fac_of f))) (N.dvd_refl (fac_of f));
      s = N.le_of_eq (N.mul-one (s_of f));
    },
    tt,
  )
    where
      h : IsOneFunction (function_weight elements f)
      h = one_function (scalars_in (slice_get elements f.element))

  -- ---- a tree
  mutual
    pub numbers : (e : Term) (v : Names) → HaveNumbers elements (term_weight elements e) (monomials elements e v)
    numbers (num c) v = (bare _ _, tt)
    numbers (fun f at) v = function_numbers f (function_place elements f (index_values v at))
    numbers (mark l at b) v = wider _ _ (label_wider (length at) (term_weight elements b)) (monomials elements b v) (numbers b v)
    numbers (neg a) v = negatives (term_weight elements a) (monomials elements a v) (numbers a v)
    numbers (sum a b) v =
        append _ (monomials elements a v) (monomials elements b v)
        (wider _ _ (first_wider (λ m n. m + n) (term_weight elements a) (term_weight elements b)) (monomials elements a v) (numbers a v))
        (wider _ _ (second_wider (λ m n. m + n) (term_weight elements a) (term_weight elements b)) (monomials elements b v) (numbers b v))
    numbers (prod a b) v =
        all_products (term_weight elements a) (term_weight elements b) (monomials elements a v) (monomials elements b v) (numbers a v) (numbers b v)
    numbers (over i n b) v =
        wider _ _ (index_wider n (term_weight elements b)) (lists_below n (λ k. monomials elements b (with_name i k v)))
        (below (term_weight elements b) n (λ k. monomials elements b (with_name i k v)) (λ k. numbers b (with_name i k v)))
    numbers (dx i b) v = along (term_directions elements b) (index_value v i) (term_weight elements b) (monomials elements b v) (numbers b v)
    numbers (delta i j) v = unit (index_value v i == index_value v j)
    numbers (pick i ts) v = items_numbers ts v (index_value v i)
    numbers (raise l at b) v = tt
    numbers (turn w d b) v = tt

    items_numbers : (ts : Terms) (v : Names) (i : ℕ) → HaveNumbers elements (items_weight elements ts) (item_monomials elements ts v i)
    items_numbers no_terms v i = tt
    items_numbers (term t no_terms) v zero = numbers t v
    items_numbers (term t no_terms) v (suc i) = tt
    items_numbers (term t (term u ts)) v zero =
        wider _ _ (first_wider max (term_weight elements t) (items_weight elements (term u ts))) (monomials elements t v) (numbers t v)
    items_numbers (term t (term u ts)) v (suc i) =
        wider _ _ (second_wider max (term_weight elements t) (items_weight elements (term u ts))) (item_monomials elements (term u ts) v i) (items_numbers (term u ts) v i)

  pub bounded_numbers : (w : Weight) (e : Term) (v : Names) → Bounds w (term_weight elements e) → HaveNumbers elements w (monomials elements e v)
  bounded_numbers w e v b = wider w (term_weight elements e) (bound_wider w (term_weight elements e) b) (monomials elements e v) (numbers e v)

  -- ---- also after collecting
  turned_sum : (a b k : ℕ) → a + (b + k) ≡ b + (a + k)
  turned_sum a b k = omega arith

  turned_product : (a b k : ℕ) → a * (b * k) ≡ b * (a * k)
  turned_product a b k = omega arith

  as_long : (xs ys : List Atom) → IsPermutation xs ys → length ys ≡ length xs
  as_long = in_any_order (λ (a : Atom) (k : ℕ). suc k) (λ a b k. refl) (λ xs. length xs) (λ a more. refl)

  as_derived : (xs ys : List Atom) → IsPermutation xs ys → derivatives ys ≡ derivatives xs
  as_derived = in_any_order (λ (a : Atom) (k : ℕ). derivative_count a + k) (λ a b k. turned_sum (derivative_count a) (derivative_count b) k) derivatives (λ a more. refl)

  same_sum : (n : Function → ℕ) (xs ys : List Atom) → IsPermutation xs ys → function_sum n ys ≡ function_sum n xs
  same_sum n = in_any_order (λ (a : Atom) (k : ℕ). n a.f + k) (λ a b k. turned_sum (n a.f) (n b.f) k) (function_sum n) (λ a more. refl)

  same_product : (n : Function → ℕ) (xs ys : List Atom) → IsPermutation xs ys → costs n ys ≡ costs n xs
  same_product n = in_any_order (λ (a : Atom) (k : ℕ). n a.f * k) (λ a b k. turned_product (n a.f) (n b.f) k) (costs n) (λ a more. refl)

  same_degrees : (x y d p q : ℕ) → y ≡ x → q ≡ p → x ≤ d + p → y ≤ d + q
  same_degrees x y d p q e h k = omega (arith, e, h, k)

  in_order : (w : Weight) (xs ys : List Atom) → IsPermutation xs ys → HasNumbers elements w xs → HasNumbers elements w ys
  in_order w xs ys h k = record {
    functions = subst (λ v. v ≤ w.f) (sym (as_long xs ys h)) k.functions;
    least = subst (λ v. w.rmin ≤ v) (sym (as_derived xs ys h)) k.least;
    greatest = subst (λ v. v ≤ w.rmax) (sym (as_derived xs ys h)) k.greatest;
    degrees = same_degrees (function_sum degree_of xs) (function_sum degree_of ys) w.deg (derivatives xs) (derivatives ys) (same_sum degree_of xs ys h) (as_derived xs ys h) k.degrees;
    fac = subst (λ v. v ∣ w.fac) (sym (same_product fac_of xs ys h)) k.fac;
    s = subst (λ v. v ≤ w.s) (sym (same_product s_of xs ys h)) k.s;
  }

  pub collected_numbers : (w : Weight) (ms ps : List Monomial) → IsSortedOut ms ps → HaveNumbers elements w ms → HaveNumbers elements w (nonzero (merged ps))
  collected_numbers w = collected_keeps (λ xs. HasNumbers elements w xs) (in_order w)
