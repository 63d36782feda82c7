-- The weight of an expanded tree bounds its monomials
use Rattle.std.proofs.Common.{◌≡◌, ℕ, zero, suc, ◌+◌, ◌*◌, ◌/◌, ◌≤◌, ◌==◌, max, Bool, true, false, List, [], ◌∷◌, ◌++◌, length, Option, None, Some, slice_get, if◌then◌else◌, unsigned_abs, refl, sym, ◌∙◌, ap, ap₂, subst, subst₂, ◌⊎◌, inl, inr, arith}
use Prim.Native.Nat.{◌∣◌}
use native.Mathlib.Nat as N
use Rattle.algebra.specs.Fraction.{one_fraction}
use Rattle.algebra.specs.Gcd.{gcd}
use Rattle.algebra.specs.LowestTerms.{top, bottom}
use Rattle.ratio.specs.Value.{fraction_of}
use Rattle.spaces.specs.Scalar.{Scalar}
use Rattle.ufl_tree.specs.declared.function.Function.{Function}
use Rattle.ufl_tree.specs.Term.{Term, num, fun, mark, neg, sum, prod, over, dx, delta, pick, raise, turn, Terms, no_terms, term}
use Rattle.ufl_tree.specs.Indices.{Names, with_name, index_value, index_values}
use Rattle.ufl_tree.specs.Places.{Table, function_place}
use Rattle.monos.specs.declared.weight.Weight.{Weight}
use Rattle.weigh.specs.Steps.{number_step, join_step, space_step}
use Rattle.weigh.specs.Weighing.{exact, parts_weight, scalars_in, function_weight, one_weight}
use Rattle.weigh.specs.Terms.{term_directions, items_directions, term_weight, items_weight}
use Rattle.weigh.proofs.BoundsLaws.{join_first, join_second}
use Rattle.weigh.proofs.TermLaws.{term_sound, items_sound}
use Rattle.monos.specs.Monomial.{Monomial}
use Rattle.monos.specs.declared.mono.Atom.{Atom}
use Rattle.normal.specs.Monomials.{IsExpanded, AreExpanded, number_mono, function_mono, all_negative, products, atoms_along, all_with_factor, all_derived, monos_along, monomials, item_monomials}
use Rattle.weigh.specs.Lists.{HasWeight}
use Rattle.normal.specs.Bounding.{cost_of, AreShort, HasDirections, HaveDirections}
use Rattle.weigh.proofs.NodeLaws.{bounded_list, plus_list, times_list, index_list, negated_list, number_list}
use Rattle.normal.proofs.WeightLaws.{short_more, short_append, short_negative, short_products, short_below, short_along, are_products, along_list, are_negated, nothing_list}

-- ---- the number 1, and the weight of a function
one_top : unsigned_abs (top one_fraction) ≡ 1
unfolding top one_fraction gcd
one_top = refl

one_bottom : bottom one_fraction ≡ 1
unfolding bottom one_fraction gcd
one_bottom = refl

record IsFunctionWeight (w : Weight) : Type 0 where
  pub g : w.g ≡ 1
  pub num : w.num ≡ 1
  pub den : w.den ≡ 1

parts_are : (ps : List Scalar) → IsFunctionWeight (parts_weight ps)
parts_are [] = record { g = refl; num = refl; den = refl }
parts_are (p ∷ ps) = let h = parts_are ps in record { g = h.g; num = h.num; den = h.den }

-- ---- where no function occurs
no_atoms : (xs : List Atom) → length xs ≤ 0 → xs ≡ []
no_atoms [] h = refl
no_atoms (x ∷ xs) h = absurd (omega (arith, h))

no_derivatives : (i : ℕ) (ms : List Monomial) → AreShort 0 ms → all_derived i ms ≡ []
no_derivatives i [] x = refl
no_derivatives i (m ∷ ms) x = ap (λ xs. all_with_factor m.c (atoms_along i xs) ++ all_derived i ms) (no_atoms m.atoms x.0) ∙ no_derivatives i ms x.1

none_along : (i : ℕ) (ms : List Monomial) → AreShort 0 ms → monos_along i ms ≡ []
none_along zero ms x = no_derivatives 0 ms x
none_along (suc zero) ms x = no_derivatives 1 ms x
none_along (suc (suc zero)) ms x = no_derivatives 2 ms x
none_along (suc (suc (suc i))) ms x = refl

pub short_unit : (n : ℕ) (b : Bool) → AreShort n (if b then number_mono one_fraction else [])
short_unit n true = (omega arith, tt)
short_unit n false = tt

module _ (elements : Table) where
  -- ---- at most g atoms in each monomial
  pub short_function : (f : Function) (k : Option ℕ) → AreShort (function_weight elements f).g (function_mono f k)
  short_function f None = tt
  short_function f (Some k) = (N.le_of_eq (sym (parts_are (scalars_in (slice_get elements f.element))).g), tt)

  mutual
    pub short : (e : Term) (v : Names) → AreShort (term_weight elements e).g (monomials elements e v)
    short (num c) v = (omega arith, tt)
    short (fun f at) v = short_function f (function_place elements f (index_values v at))
    short (mark l at b) v = short_more _ _ (N.le-add_right (term_weight elements b).g (max (length at) 1)) (monomials elements b v) (short b v)
    short (neg a) v = short_negative _ (monomials elements a v) (short a v)
    short (sum a b) v =
        short_append _ (monomials elements a v) (monomials elements b v)
        (short_more _ _ (left (term_weight elements a).g (term_weight elements b).g) (monomials elements a v) (short a v))
        (short_more _ _ (right (term_weight elements a).g (term_weight elements b).g) (monomials elements b v) (short b v))
      where
        left : (m n : ℕ) → m ≤ max m n
        left m n = omega arith

        right : (m n : ℕ) → n ≤ max m n
        right m n = omega arith
    short (prod a b) v = short_products _ _ (monomials elements a v) (monomials elements b v) (short a v) (short b v)
    short (over i n b) v = short_below n _ (λ k. monomials elements b (with_name i k v)) (λ k. short b (with_name i k v))
    short (dx i b) v = short_along (index_value v i) _ (monomials elements b v) (short b v)
    short (delta i j) v = short_unit _ (index_value v i == index_value v j)
    short (pick i ts) v = items_short ts v (index_value v i)
    short (raise l at b) v = tt
    short (turn w d b) v = tt

    items_short : (ts : Terms) (v : Names) (i : ℕ) → AreShort (items_weight elements ts).g (item_monomials elements ts v i)
    items_short no_terms v i = tt
    items_short (term t no_terms) v zero = short t v
    items_short (term t no_terms) v (suc i) = tt
    items_short (term t (term u ts)) v zero = short_more _ _ (left (term_weight elements t).g (items_weight elements (term u ts)).g) (monomials elements t v) (short t v)
      where
        left : (m n : ℕ) → m ≤ max m n
        left m n = omega arith
    items_short (term t (term u ts)) v (suc i) =
        short_more _ _ (right (term_weight elements t).g (items_weight elements (term u ts)).g) (item_monomials elements (term u ts) v i) (items_short (term u ts) v i)
      where
        right : (m n : ℕ) → n ≤ max m n
        right m n = omega arith

  module _ (d : ℕ) (positive : 1 ≤ d) where
    -- d directions, or no function
    abbrev pub IsKnown : ℕ → (Names → Type 0) → Type 0
    IsKnown n P = (n ≡ d) ⊎ ((n ≡ 1) × ((v : Names) → P v))

    both_known : (m n : ℕ) (P Q R : Names → Type 0) → ((v : Names) → P v → Q v → R v) → IsKnown m P → IsKnown n Q → IsKnown (max m n) R
    both_known m n P Q R f (inl p) (inl q) = inl (omega (arith, p, q))
    both_known m n P Q R f (inl p) (inr q) = inl (both p q.0)
      where
        both : m ≡ d → n ≡ 1 → max m n ≡ d
        both p q = omega (arith, p, q, positive)
    both_known m n P Q R f (inr p) (inl q) = inl (both p.0 q)
      where
        both : m ≡ 1 → n ≡ d → max m n ≡ d
        both p q = omega (arith, p, q, positive)
    both_known m n P Q R f (inr p) (inr q) = inr (both p.0 q.0, λ v. f v (p.1 v) (q.1 v))
      where
        both : m ≡ 1 → n ≡ 1 → max m n ≡ 1
        both p q = omega (arith, p, q)

    one_known : (m : ℕ) (P R : Names → Type 0) → (((v : Names) → P v) → (v : Names) → R v) → IsKnown m P → IsKnown m R
    one_known m P R f (inl p) = inl p
    one_known m P R f (inr p) = inr (p.0, f p.1)

    mutual
      pub known : (e : Term) → HasDirections elements d e → IsExpanded e → IsKnown (term_directions elements e) (λ v. AreShort 0 (monomials elements e v))
      known (num c) h x = inr (refl, λ v. (N.le_refl 0, tt))
      known (fun f at) h x = inl h
      known (mark l at b) h x = known b h x
      known (neg a) h x = one_known _ _ _ (λ p v. short_negative 0 (monomials elements a v) (p v)) (known a h x)
      known (sum a b) h x = both_known _ _ _ _ _ (λ v p q. short_append 0 (monomials elements a v) (monomials elements b v) p q) (known a h.0 x.0) (known b h.1 x.1)
      known (prod a b) h x = both_known _ _ _ _ _ (λ v p q. short_products 0 0 (monomials elements a v) (monomials elements b v) p q) (known a h.0 x.0) (known b h.1 x.1)
      known (over i n b) h x = one_known _ _ _ (λ p v. short_below n 0 (λ k. monomials elements b (with_name i k v)) (λ k. p (with_name i k v))) (known b h x)
      known (dx i b) h x = one_known _ _ _ (λ p v. short_along (index_value v i) 0 (monomials elements b v) (p v)) (known b h x)
      known (delta i j) h x = inr (refl, λ v. short_unit 0 (index_value v i == index_value v j))
      known (pick i ts) h x = one_known _ _ _ (λ p v. p v (index_value v i)) (items_known ts h x)
      known (raise l at b) h x = absurd x
      known (turn w u b) h x = absurd x

      pub items_known : (ts : Terms) → HaveDirections elements d ts → AreExpanded ts → IsKnown (items_directions elements ts) (λ v. (i : ℕ) → AreShort 0 (item_monomials elements ts v i))
      items_known no_terms h x = inr (refl, λ v i. tt)
      items_known (term t ts) h x = both_known _ _ _ _ _ (λ v p q i. either v p q i) (known t h.0 x.0) (items_known ts h.1 x.1)
        where
          either : (v : Names) → AreShort 0 (monomials elements t v) → ((i : ℕ) → AreShort 0 (item_monomials elements ts v i)) → (i : ℕ) → AreShort 0 (item_monomials elements (term t ts) v i)
          either v p q zero = p
          either v p q (suc i) = q i

    -- ---- the leaves
    pub unit_weighed : (b : Bool) → HasWeight (cost_of elements) d (one_weight exact) (if b then number_mono one_fraction else [])
    unit_weighed true =
        subst₂ (λ t b. HasWeight (cost_of elements) d (number_step t b) (number_mono one_fraction)) one_top one_bottom
        (number_list (cost_of elements) d (record { c = one_fraction; atoms = [] }) refl)
    unit_weighed false = nothing_list (cost_of elements) d (one_weight exact)

    pub function_weighed : (f : Function) (k : Option ℕ) → HasWeight (cost_of elements) d (function_weight elements f) (function_mono f k)
    function_weighed f None = nothing_list (cost_of elements) d (function_weight elements f)
    function_weighed f (Some k) = record {
      over = (subst₂ (λ b n. b ∣ n) (sym one_bottom) (sym h.den) (N.dvd_refl 1), tt);
      sum = subst (λ p. c * 1 * p + 0 ≤ c) (sym (N.pow-zero d)) (omega arith);
      total = at _ _ _ _ one_top (ap₂ ◌/◌ h.den one_bottom) (N.pow-zero d) h.num;
    }
      where
        w : Weight
        w = function_weight elements f

        c : ℕ
        c = w.cost

        h : IsFunctionWeight w
        h = parts_are (scalars_in (slice_get elements f.element))

        at : (t q p n : ℕ) → t ≡ 1 → q ≡ 1 → p ≡ 1 → n ≡ 1 → t * q * 1 * (c * 1 * p) + 0 ≤ c * n
        at t q p n ht hq hp hn =
            subst₂ (λ t q. t * q * 1 * (c * 1 * p) + 0 ≤ c * n) (sym ht) (sym hq)
            (subst₂ (λ p n. 1 * 1 * 1 * (c * 1 * p) + 0 ≤ c * n) (sym hp) (sym hn) (omega arith))

    pub along_weighed : (i : ℕ) (e : Term) (ms : List Monomial) → AreShort (term_weight elements e).g ms → HasWeight (cost_of elements) d (term_weight elements e) ms
        → (term_directions elements e ≡ d) ⊎ AreShort 0 ms → HasWeight (cost_of elements) d (space_step (term_directions elements e) (term_weight elements e)) (monos_along i ms)
    along_weighed i e ms s w (inl p) =
        subst (λ n. HasWeight (cost_of elements) d (space_step n (term_weight elements e)) (monos_along i ms)) (sym p) (along_list (cost_of elements) d i (term_weight elements e) ms s w)
    along_weighed i e ms s w (inr p) =
        subst (λ ns. HasWeight (cost_of elements) d (space_step (term_directions elements e) (term_weight elements e)) ns) (sym (none_along i ms p)) (nothing_list (cost_of elements) d (space_step (term_directions elements e) (term_weight elements e)))

    at_names : (n : ℕ) (P : Names → Type 0) (v : Names) → IsKnown n P → (n ≡ d) ⊎ P v
    at_names n P v (inl p) = inl p
    at_names n P v (inr p) = inr (p.1 v)

    mutual
      pub weighed : (e : Term) (v : Names) → HasDirections elements d e → IsExpanded e → HasWeight (cost_of elements) d (term_weight elements e) (monomials elements e v)
      weighed (num c) v h x = number_list (cost_of elements) d (record { c = fraction_of c; atoms = [] }) refl
      weighed (fun f at) v h x = function_weighed f (function_place elements f (index_values v at))
      weighed (mark l at b) v h x = weighed b v h x
      weighed (neg a) v h x = negated_list (cost_of elements) d _ (monomials elements a v) (all_negative (monomials elements a v)) _ _ (are_negated (cost_of elements) (monomials elements a v)) (weighed a v h x)
      weighed (sum a b) v h x =
          plus_list (cost_of elements) d (term_weight elements a) (term_weight elements b) (term_sound elements a) (term_sound elements b)
          (monomials elements a v) (monomials elements b v) (weighed a v h.0 x.0) (weighed b v h.1 x.1)
      weighed (prod a b) v h x =
          times_list (cost_of elements) d (term_weight elements a) (term_weight elements b) (term_sound elements a) (term_sound elements b)
          (monomials elements a v) (monomials elements b v) (products (monomials elements a v) (monomials elements b v)) (weighed a v h.0 x.0) (weighed b v h.1 x.1)
          (are_products (cost_of elements) (monomials elements a v) (monomials elements b v))
      weighed (over i n b) v h x = index_list (cost_of elements) d n (term_weight elements b) (λ k. monomials elements b (with_name i k v)) (λ k. weighed b (with_name i k v) h x)
      weighed (dx i b) v h x = along_weighed (index_value v i) b (monomials elements b v) (short b v) (weighed b v h x) (at_names _ _ v (known b h x))
      weighed (delta i j) v h x = unit_weighed (index_value v i == index_value v j)
      weighed (pick i ts) v h x = items_weighed ts v h x (index_value v i)
      weighed (raise l at b) v h x = absurd x
      weighed (turn w u b) v h x = absurd x

      items_weighed : (ts : Terms) (v : Names) → HaveDirections elements d ts → AreExpanded ts → (i : ℕ) → HasWeight (cost_of elements) d (items_weight elements ts) (item_monomials elements ts v i)
      items_weighed no_terms v h x i = nothing_list (cost_of elements) d (one_weight exact)
      items_weighed (term t no_terms) v h x zero = weighed t v h.0 x.0
      items_weighed (term t no_terms) v h x (suc i) = nothing_list (cost_of elements) d (term_weight elements t)
      items_weighed (term t (term u ts)) v h x zero =
          bounded_list (cost_of elements) d (join_step (term_weight elements t) (items_weight elements (term u ts))) (term_weight elements t)
          (items_sound elements (term t (term u ts))) (term_sound elements t) (join_first (term_weight elements t) (items_weight elements (term u ts))) (monomials elements t v) (weighed t v h.0 x.0)
      items_weighed (term t (term u ts)) v h x (suc i) =
          bounded_list (cost_of elements) d (join_step (term_weight elements t) (items_weight elements (term u ts))) (items_weight elements (term u ts))
          (items_sound elements (term t (term u ts))) (items_sound elements (term u ts)) (join_second (term_weight elements t) (items_weight elements (term u ts))) (item_monomials elements (term u ts) v i) (items_weighed (term u ts) v h.1 x.1 i)
