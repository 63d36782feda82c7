-- What is known of the monomials of a node, from those of its operands
use Rattle.std.proofs.Common.{◌≡◌, ℕ, zero, suc, ◌+◌, ◌*◌, ◌≤◌, ◌==◌, max, Bool, true, false, List, [], ◌∷◌, ◌++◌, map, length, Option, None, Some, slice_get, if◌then◌else◌, IsPermutation, refl, sym, ◌∙◌, ap, ap₂, subst, ◌⊎◌, inl, inr, arith}
use Rattle.std.specs.List.{AllByRecursion}
use Rattle.std.specs.List.Sorted.{IsSortedByKey}
use Rattle.std.specs.Cmp.Lexicographic.{slice_cmp}
use Rattle.std.specs.Ordering.{nat_cmp}
use Rattle.std.proofs.lemmas.List.Elements.{All-from_recursion, recursion_from_All}
use Rattle.std.proofs.lemmas.List.Sorted.{All-permutation, IsPermutation-refl}
use native.Mathlib.Nat as N
use Rattle.algebra.specs.Fraction.{one_fraction, is_zero_fraction}
use Rattle.algebra.proofs.InverseLaws.{one_is_not_zero}
use Rattle.algebra.specs.RingLaws as L
use Rattle.ratio.specs.declared.reduced.Ratio.{Ratio}
use Rattle.ratio.specs.Value.{fraction_of}
use Rattle.calculus.specs.Polynomial.{nil, plus, times, negative as minus, polynomials, plus-nil}
use Rattle.calculus.specs.Integral.{sum_below}
use Rattle.ufl_tree.specs.declared.plain.Plain.{Plain}
use Rattle.ufl_tree.specs.Reading.{term_of, terms_of}
use Rattle.ufl_tree.specs.declared.function.Function.{Function}
use Rattle.ufl_tree.specs.declared.function.Ix.{Ix}
use Rattle.ufl_tree.specs.Indices.{Names, with_name, index_value, index_values}
use Rattle.ufl_tree.specs.Places.{Table, function_place}
use Rattle.ufl_tree.specs.Term.{Term, num, fun, mark, neg, sum, prod, over, dx, delta, pick, raise, turn, Terms, no_terms, term}
use Rattle.ufl_meaning.specs.Environment.{Environment}
use Rattle.ufl_meaning.specs.Operators.{along}
use Rattle.ufl_meaning.specs.Meaning.{meaning, item_meaning}
use Rattle.ufl_meaning.specs.Monomial.{HasNoOffset, monos_value}
use Rattle.monos.specs.Monomial.{Monomial}
use Rattle.monos.specs.declared.mono.Atom.{Atom}
use Rattle.monos.specs.declared.weight.Weight.{Weight}
use Rattle.weigh.specs.Lists.{HasWeight, lists_below}
use Rattle.weigh.specs.Steps.{join_step}
use Rattle.weigh.specs.Terms.{term_weight, items_weight, term_directions, items_directions}
use Rattle.weigh.proofs.ListLaws.{all_append, weighed_more, weighed_append, weighed_sorted}
use Rattle.weigh.proofs.NodeLaws.{bounded_list, plus_list, times_list, negated_list, number_list}
use Rattle.weigh.proofs.TermLaws.{term_sound, items_sound}
use Rattle.weigh.proofs.BoundsLaws.{join_first, join_second}
use Rattle.normal.specs.Monomials.{IsExpanded, AreExpanded, number_mono, function_mono, all_negative, products, monos_along, monomials, item_monomials}
use Rattle.normal.specs.Collecting.{AreReordered, merged, nonzero, IsSortedOut, HasNoZero}
use Rattle.normal.specs.Bounding.{cost_of, AreShort, HasDirections, HaveDirections}
use Rattle.normal.specs.Order.{digits_of, AreInOrder}
use Rattle.normal.specs.Gathering.{IsCollected, IsGathered, IsSum, IsSumOf, IsSumBelowOf, AddsUp}
use Rattle.normal.specs.Bounding.{HasNumbers, HaveNumbers}
use Rattle.normal.specs.Origins.{HasFunction, HaveFunction, HasPlace, AllAtoms, HasOrigin, HaveOrigins}
use Rattle.normal.specs.Monomials.{atom_along}
use Rattle.normal.proofs.NumberLaws.{first_wider, second_wider, label_wider, index_wider, wider, append as append_numbers, negatives, all_products, along as along_numbers, bare, unit, function_numbers, collected_numbers}
use Rattle.normal.proofs.OriginLaws.{negative_all, products_all, along_all, unit_all}
use Rattle.normal.proofs.OriginSums.{own_origins, joined_origins, collected_origins, negative_origins, product_origins, along_origins}
use Rattle.normal.proofs.KeptLaws.{collected_atoms}
use Rattle.normal.proofs.OrderLaws.{monos_permuted}
use Rattle.normal.proofs.MonomialLaws.{append_value, number_value, function_value, all_negative_value, products_value, along_value}
use Rattle.normal.proofs.MeaningLaws.{unit_value}
use Rattle.normal.proofs.CollectingLaws.{nonzero_value}
use Rattle.normal.proofs.CollectedLaws.{collected_value, no_zero, merged_keeps, nonzero_keeps}
use Rattle.normal.proofs.CollectedWeights.{nonzero_weighed, collected_weighed}
use Rattle.normal.proofs.KeptLaws.{collected_short}
use Rattle.normal.proofs.WeightLaws.{short_append, short_more, short_negative, short_products, short_along, are_products, are_negated, nothing_list}
use Rattle.normal.proofs.BoundingLaws.{short_unit, short_function, IsKnown, known, items_known, unit_weighed, function_weighed, along_weighed}
use Rattle.normal.proofs.StepValues.{negative_zero}

-- ---- what permutes keeps
each_permuted : (P : Monomial → Type 0) (ms ns : List Monomial) → IsPermutation ms ns → AllByRecursion P ms → AllByRecursion P ns
each_permuted P ms ns h x = recursion_from_All P ns (All-permutation P ms ns h (All-from_recursion P ms x))

-- ---- collecting
sorted_out : (ms rs : List Monomial) → (g : IsGathered ms rs) → IsSortedOut ms (g.collected).sorted
sorted_out ms rs g = record { reordered = g.reordered; inside = g.inside; outside = (g.collected).permuted }

abbrev IsInOrder : List Atom → Type 0
IsInOrder xs = IsSortedByKey digits_of (slice_cmp nat_cmp) xs

all_merged : (P : List Atom → Type 0) (ms : List Monomial) → AllByRecursion (λ m. P m.atoms) ms → AllByRecursion (λ m. P m.atoms) (merged ms)
all_merged P [] x = tt
all_merged P (m ∷ ms) x = merged_keeps P m ms x.0 x.1

pub collected_order : (ms rs : List Monomial) → IsCollected ms rs → AreInOrder ms → AreInOrder rs
collected_order ms rs g x =
    subst AreInOrder (sym g.is)
    (nonzero_keeps IsInOrder (merged g.sorted) (all_merged IsInOrder g.sorted (each_permuted (λ m. IsInOrder m.atoms) ms g.sorted g.permuted x)))

-- ---- where atoms come from
-- whatever holds of an atom's function and component holds of its derivative
every : (P Q : Atom → Type 0) → ((a : Atom) → P a → Q a) → (xs : List Atom) → AllByRecursion P xs → AllByRecursion Q xs
every P Q f [] x = tt
every P Q f (a ∷ more) x = (f a x.0, every P Q f more x.1)

pub every_atom : (P Q : Atom → Type 0) → ((a : Atom) → P a → Q a) → (ms : List Monomial) → AllAtoms P ms → AllAtoms Q ms
every_atom P Q f [] x = tt
every_atom P Q f (m ∷ ms) x = (every P Q f m.atoms x.0, every_atom P Q f ms x.1)

-- ---- numbers that are negative
negative_nonzero : (ms : List Monomial) → HasNoZero ms → HasNoZero (all_negative ms)
negative_nonzero [] x = tt
negative_nonzero (m ∷ ms) x = (negative_zero m.c ∙ x.0, negative_nonzero ms x.1)

negative_order : (ms : List Monomial) → AreInOrder ms → AreInOrder (all_negative ms)
negative_order [] x = tt
negative_order (m ∷ ms) x = (x.0, negative_order ms x.1)

module _ (elements : Table) where
  abbrev C : Function → ℕ
  C = cost_of elements

  abbrev W : Term → Weight
  W e = term_weight elements e

  abbrev Directed : Term → List Monomial → Type 0
  Directed e ms = (d : ℕ) → 1 ≤ d → HasDirections elements d e → (term_directions elements e ≡ d) ⊎ AreShort 0 ms

  abbrev From : Term → Atom → Type 0
  From e a = HasFunction a.f e

  stays : (e : Term) (i : ℕ) (a : Atom) → From e a → From e (atom_along i a)
  stays e i a h = h

  placed : (i : ℕ) (a : Atom) → HasPlace elements a → HasPlace elements (atom_along i a)
  placed i a h = record { at = h.at; is = h.is }

  -- what one operation keeps
  directed : (e : Term) (n : ℕ) (ms ns : List Monomial) → (AreShort 0 ms → AreShort 0 ns) → (d : ℕ) → (n ≡ d) ⊎ AreShort 0 ms → (n ≡ d) ⊎ AreShort 0 ns
  directed e n ms ns f d (inl p) = inl p
  directed e n ms ns f d (inr p) = inr (f p)

  -- ---- leaves
  pub number_sum : (c : Ratio) (v : Names) (ms : List Monomial) → ms ≡ nonzero (number_mono (fraction_of c)) → IsSumOf elements (num c) v ms
  number_sum c v ms e = subst (IsSumOf elements (num c) v) (sym e) (record {
    is = λ x. record {
      value = λ env s. nonzero_value env (number_mono (fraction_of c)) ∙ number_value env (fraction_of c);
      weight = λ d p h. nonzero_weighed C d _ (number_mono (fraction_of c)) _ _ (number_list C d (record { c = fraction_of c; atoms = [] }) refl);
      directions = λ d p h. inr (nonzero_keeps (λ (xs : List Atom). length xs ≤ 0) (number_mono (fraction_of c)) (N.le_refl 0, tt));
      short = nonzero_keeps (λ (xs : List Atom). length xs ≤ 1) (number_mono (fraction_of c)) (omega arith, tt);
      numbers = nonzero_keeps (λ xs. HasNumbers elements (W (num c)) xs) (number_mono (fraction_of c)) (bare elements _ _, tt);
      leaves = nonzero_keeps (λ xs. AllByRecursion (From (num c)) xs) (number_mono (fraction_of c)) (tt, tt);
      places = nonzero_keeps (λ xs. AllByRecursion (HasPlace elements) xs) (number_mono (fraction_of c)) (tt, tt);
      origins = nonzero_keeps (HasOrigin (number_mono (fraction_of c))) (number_mono (fraction_of c)) (own_origins (number_mono (fraction_of c)));
      nonzero = no_zero (number_mono (fraction_of c));
      in_order = nonzero_keeps IsInOrder (number_mono (fraction_of c)) (no_atoms, tt);
    };
  })
    where
      no_atoms : IsInOrder []
      no_atoms k d p q = absurd (omega (arith, q))

  pub function_sum : (f : Function) (at : List Ix) (v : Names) (ms : List Monomial) → ms ≡ function_mono f (function_place elements f (index_values v at)) → IsSumOf elements (fun f at) v ms
  function_sum f at v ms e = subst (IsSumOf elements (fun f at) v) (sym e) (go (function_place elements f (index_values v at)) refl)
    where
      alone : (k : Option ℕ) → HasNoZero (function_mono f k)
      alone None = tt
      alone (Some k) = (one_is_not_zero, tt)

      leaf : (k : Option ℕ) → AllAtoms (From (fun f at)) (function_mono f k)
      leaf None = tt
      leaf (Some k) = ((refl, tt), tt)

      place : (k : Option ℕ) → function_place elements f (index_values v at) ≡ k → AllAtoms (HasPlace elements) (function_mono f k)
      place None e = tt
      place (Some k) e = ((record { at = index_values v at; is = e }, tt), tt)

      in_order : (k : Option ℕ) → AreInOrder (function_mono f k)
      in_order None = tt
      in_order (Some k) = ((λ n d p q. absurd (omega (arith, q))), tt)

      go : (k : Option ℕ) → function_place elements f (index_values v at) ≡ k → IsSumOf elements (fun f at) v (function_mono f (function_place elements f (index_values v at)))
      go k e = record {
        is = λ x. record {
          value = λ env s. function_value env f (function_place elements f (index_values v at));
          weight = λ d p h. function_weighed elements d p f (function_place elements f (index_values v at));
          directions = λ d p h. inl h;
          short = short_function elements f (function_place elements f (index_values v at));
          numbers = function_numbers elements f (function_place elements f (index_values v at));
          leaves = leaf (function_place elements f (index_values v at));
          places = place (function_place elements f (index_values v at)) refl;
          origins = own_origins (function_mono f (function_place elements f (index_values v at)));
          nonzero = alone (function_place elements f (index_values v at));
          in_order = in_order (function_place elements f (index_values v at));
        };
      }

  pub unit_sum : (i j : Ix) (v : Names) (ms : List Monomial) → ms ≡ (if index_value v i == index_value v j then number_mono one_fraction else []) → IsSumOf elements (delta i j) v ms
  unit_sum i j v ms e = subst (IsSumOf elements (delta i j) v) (sym e) (record {
    is = λ x. record {
      value = λ env s. unit_value elements env s (index_value v i == index_value v j);
      weight = λ d p h. unit_weighed elements d p (index_value v i == index_value v j);
      directions = λ d p h. inr (short_unit 0 (index_value v i == index_value v j));
      short = short_unit 1 (index_value v i == index_value v j);
      numbers = unit elements (index_value v i == index_value v j);
      leaves = unit_all (From (delta i j)) (stays (delta i j)) (index_value v i == index_value v j);
      places = unit_all (HasPlace elements) placed (index_value v i == index_value v j);
      origins = own_origins (if index_value v i == index_value v j then number_mono one_fraction else []);
      nonzero = alone (index_value v i == index_value v j);
      in_order = in_order (index_value v i == index_value v j);
    };
  })
    where
      alone : (b : Bool) → HasNoZero (if b then number_mono one_fraction else [])
      alone true = (one_is_not_zero, tt)
      alone false = tt

      in_order : (b : Bool) → AreInOrder (if b then number_mono one_fraction else [])
      in_order true = ((λ n d p q. absurd (omega (arith, q))), tt)
      in_order false = tt

  -- ---- one operand
  pub mark_sum : (l : ℕ) (at : List Ix) (b : Term) (v : Names) (ms : List Monomial) → IsSumOf elements b v ms → IsSumOf elements (mark l at b) v ms
  mark_sum l at b v ms g = record {
    is = λ x. let h = g.is x in record {
      value = λ env s. h.value env s ∙ sym (plus-nil _) ∙ ap (plus _) (sym (s l (index_values v at)));
      weight = h.weight;
      directions = h.directions;
      short = short_more _ _ (N.le-add_right (W b).g (max (length at) 1)) ms h.short;
      numbers = wider elements _ _ (label_wider (length at) (W b)) ms h.numbers;
      leaves = h.leaves;
      places = h.places;
      origins = h.origins;
      nonzero = h.nonzero;
      in_order = h.in_order;
    };
  }

  pub negative_sum : (a : Term) (v : Names) (ms ns : List Monomial) → ns ≡ all_negative ms → IsSumOf elements a v ms → IsSumOf elements (neg a) v ns
  negative_sum a v ms ns e g = subst (IsSumOf elements (neg a) v) (sym e) (record {
    is = λ x. let h = g.is x in record {
      value = λ env s. all_negative_value env ms ∙ ap minus (h.value env s);
      weight = λ d p q. negated_list C d _ ms (all_negative ms) _ _ (are_negated C ms) (h.weight d p q);
      directions = λ d p q. directed a (term_directions elements a) ms (all_negative ms) (short_negative 0 ms) d (h.directions d p q);
      short = short_negative _ ms h.short;
      numbers = negatives elements _ ms h.numbers;
      leaves = negative_all (From a) (stays a) ms h.leaves;
      places = negative_all (HasPlace elements) placed ms h.places;
      origins = negative_origins (monomials elements a v) ms h.origins;
      nonzero = negative_nonzero ms h.nonzero;
      in_order = negative_order ms h.in_order;
    };
  })

  -- ---- sorted and put together
  -- all but the order of the atoms, of a list before it is collected
  record Holds (e : Term) (v : Names) (ms : List Monomial) : Type 0 where
    value : AddsUp elements e v ms
    weight : (d : ℕ) → 1 ≤ d → HasDirections elements d e → HasWeight C d (W e) ms
    directions : Directed e ms
    short : AreShort (W e).g ms
    numbers : HaveNumbers elements (W e) ms
    leaves : AllAtoms (From e) ms
    places : AllAtoms (HasPlace elements) ms
    origins : HaveOrigins (monomials elements e v) ms

  gathered : (e : Term) (v : Names) (ms rs : List Monomial) → IsGathered ms rs → Holds e v ms → IsSum elements e v rs
  gathered e v ms rs g h =
      let ps : List Monomial = (g.collected).sorted in
      let o : IsSortedOut ms ps = sorted_out ms rs g in
      record {
        value = λ env s. ap (monos_value env) (g.collected).is ∙ collected_value env ms ps o ∙ h.value env s;
        weight = λ d p q. subst (HasWeight C d (W e)) (sym (g.collected).is) (collected_weighed C d (W e).den (term_sound elements e).den ms ps _ _ o (h.weight d p q));
        directions = λ d p q. directed e (term_directions elements e) ms rs (λ k. subst (AreShort 0) (sym (g.collected).is) (collected_short 0 ms ps o k)) d (h.directions d p q);
        short = subst (AreShort (W e).g) (sym (g.collected).is) (collected_short (W e).g ms ps o h.short);
        numbers = subst (HaveNumbers elements (W e)) (sym (g.collected).is) (collected_numbers elements (W e) ms ps o h.numbers);
        leaves = subst (AllAtoms (From e)) (sym (g.collected).is) (collected_atoms (From e) ms ps o h.leaves);
        places = subst (AllAtoms (HasPlace elements)) (sym (g.collected).is) (collected_atoms (HasPlace elements) ms ps o h.places);
        origins = subst (HaveOrigins (monomials elements e v)) (sym (g.collected).is) (collected_origins (monomials elements e v) ms ps o h.origins);
        nonzero = subst HasNoZero (sym (g.collected).is) (no_zero (merged ps));
        in_order = collected_order g.reordered rs g.collected g.in_order;
      }

  same_orders : (ms : List Monomial) → AreReordered ms ms
  same_orders [] = tt
  same_orders (m ∷ ms) = (record { c = refl; atoms = IsPermutation-refl m.atoms }, same_orders ms)

  pub collected_sum : (e : Term) (v : Names) (ms rs : List Monomial) → IsCollected ms rs → IsSumOf elements e v ms → IsSumOf elements e v rs
  collected_sum e v ms rs g k = record {
    is = λ x. let h = k.is x in
        gathered e v ms rs (record { reordered = ms; inside = same_orders ms; in_order = h.in_order; collected = g })
        (record { value = h.value; weight = h.weight; directions = h.directions; short = h.short; numbers = h.numbers; leaves = h.leaves; places = h.places; origins = h.origins });
  }

  -- ---- derivatives
  pub derivative_sum : (i : Ix) (b : Term) (v : Names) (ms rs : List Monomial) → IsGathered (monos_along (index_value v i) ms) rs → IsSumOf elements b v ms → IsSumOf elements (dx i b) v rs
  derivative_sum i b v ms rs g k = record {
    is = λ x. let h = k.is x in
        gathered (dx i b) v (monos_along (index_value v i) ms) rs g (record {
          value = λ env s. along_value env (index_value v i) ms ∙ ap (along (index_value v i)) (h.value env s);
          weight = λ d p q. along_weighed elements d p (index_value v i) b ms h.short (h.weight d p q) (h.directions d p q);
          directions = λ d p q. directed b (term_directions elements b) ms (monos_along (index_value v i) ms) (short_along (index_value v i) 0 ms) d (h.directions d p q);
          short = short_along (index_value v i) _ ms h.short;
          numbers = along_numbers elements (term_directions elements b) (index_value v i) (W b) ms h.numbers;
          leaves = along_all (From b) (stays b) (index_value v i) ms h.leaves;
          places = along_all (HasPlace elements) placed (index_value v i) ms h.places;
          origins = along_origins (index_value v i) (monomials elements b v) ms h.origins;
        });
  }

  -- ---- two operands
  either_max : (m n d : ℕ) → 1 ≤ d → (m ≡ d) ⊎ (m ≡ 1) → n ≡ d → max m n ≡ d
  either_max m n d p (inl h) k = omega (arith, h, k, p)
  either_max m n d p (inr h) k = omega (arith, h, k, p)

  other_max : (m n d : ℕ) → 1 ≤ d → m ≡ d → (n ≡ d) ⊎ (n ≡ 1) → max m n ≡ d
  other_max m n d p k (inl h) = omega (arith, h, k, p)
  other_max m n d p k (inr h) = omega (arith, h, k, p)

  one_or : (d : ℕ) → 1 ≤ d → (e : Term) → HasDirections elements d e → IsExpanded e → (term_directions elements e ≡ d) ⊎ (term_directions elements e ≡ 1)
  one_or d p e h x = go (known elements d p e h x)
    where
      go : IsKnown elements d p (term_directions elements e) (λ v. AreShort 0 (monomials elements e v)) → (term_directions elements e ≡ d) ⊎ (term_directions elements e ≡ 1)
      go (inl q) = inl q
      go (inr q) = inr q.0

  both_directed : (a b : Term) (ms ns rs : List Monomial) → (AreShort 0 ms → AreShort 0 ns → AreShort 0 rs) → (d : ℕ) → 1 ≤ d → HasDirections elements d a → HasDirections elements d b → IsExpanded a → IsExpanded b
      → (term_directions elements a ≡ d) ⊎ AreShort 0 ms → (term_directions elements b ≡ d) ⊎ AreShort 0 ns → (max (term_directions elements a) (term_directions elements b) ≡ d) ⊎ AreShort 0 rs
  both_directed a b ms ns rs f d p g h x y (inl k) l = inl (other_max _ _ d p k (one_or d p b h y))
  both_directed a b ms ns rs f d p g h x y (inr k) (inl l) = inl (either_max _ _ d p (one_or d p a g x) l)
  both_directed a b ms ns rs f d p g h x y (inr k) (inr l) = inr (f k l)

  left_max : (m n : ℕ) → m ≤ max m n
  left_max m n = omega arith

  right_max : (m n : ℕ) → n ≤ max m n
  right_max m n = omega arith

  pub both_sum : (a b : Term) (v : Names) (ms ns rs : List Monomial) → IsPermutation (ms ++ ns) rs → IsSumOf elements a v ms → IsSumOf elements b v ns → IsSumOf elements (sum a b) v rs
  both_sum a b v ms ns rs o g k = record {
    is = λ x. let h = g.is x.0 in let j = k.is x.1 in record {
      value = λ env s. monos_permuted env (ms ++ ns) rs o ∙ append_value env ms ns ∙ ap₂ plus (h.value env s) (j.value env s);
      weight = λ d p q. weighed_sorted C d _ (ms ++ ns) rs _ _ o (plus_list C d (W a) (W b) (term_sound elements a) (term_sound elements b) ms ns (h.weight d p q.0) (j.weight d p q.1));
      directions = λ d p q. both_directed a b ms ns rs (λ f l. each_permuted (λ m. length m.atoms ≤ 0) (ms ++ ns) rs o (short_append 0 ms ns f l)) d p q.0 q.1 x.0 x.1 (h.directions d p q.0) (j.directions d p q.1);
      short = each_permuted (λ m. length m.atoms ≤ max (W a).g (W b).g) (ms ++ ns) rs o
          (short_append _ ms ns (short_more _ _ (left_max (W a).g (W b).g) ms h.short) (short_more _ _ (right_max (W a).g (W b).g) ns j.short));
      numbers = each_permuted (λ m. HasNumbers elements (W (sum a b)) m.atoms) (ms ++ ns) rs o
          (append_numbers elements _ ms ns (wider elements _ _ (first_wider (λ m n. m + n) (W a) (W b)) ms h.numbers) (wider elements _ _ (second_wider (λ m n. m + n) (W a) (W b)) ns j.numbers));
      leaves = each_permuted (λ m. AllByRecursion (From (sum a b)) m.atoms) (ms ++ ns) rs o
          (all_append (λ m. AllByRecursion (From (sum a b)) m.atoms) ms ns (every_atom (From a) (From (sum a b)) (λ x k. inl k) ms h.leaves) (every_atom (From b) (From (sum a b)) (λ x k. inr k) ns j.leaves));
      places = each_permuted (λ m. AllByRecursion (HasPlace elements) m.atoms) (ms ++ ns) rs o (all_append (λ m. AllByRecursion (HasPlace elements) m.atoms) ms ns h.places j.places);
      origins = each_permuted (λ m. HasOrigin (monomials elements a v ++ monomials elements b v) m.atoms) (ms ++ ns) rs o (joined_origins (monomials elements a v) (monomials elements b v) ms ns h.origins j.origins);
      nonzero = each_permuted (λ m. is_zero_fraction m.c ≡ false) (ms ++ ns) rs o (all_append (λ m. is_zero_fraction m.c ≡ false) ms ns h.nonzero j.nonzero);
      in_order = each_permuted (λ m. IsInOrder m.atoms) (ms ++ ns) rs o (all_append (λ m. IsInOrder m.atoms) ms ns h.in_order j.in_order);
    };
  }

  pub product_sum : (a b : Term) (v : Names) (ms ns rs : List Monomial) → IsGathered (products ms ns) rs → IsSumOf elements a v ms → IsSumOf elements b v ns → IsSumOf elements (prod a b) v rs
  product_sum a b v ms ns rs o g k = record {
    is = λ x. let h = g.is x.0 in let j = k.is x.1 in
        gathered (prod a b) v (products ms ns) rs o (record {
          value = λ env s. products_value env ms ns ∙ ap₂ times (h.value env s) (j.value env s);
          weight = λ d p q. times_list C d (W a) (W b) (term_sound elements a) (term_sound elements b) ms ns (products ms ns) (h.weight d p q.0) (j.weight d p q.1) (are_products C ms ns);
          directions = λ d p q. both_directed a b ms ns (products ms ns) (short_products 0 0 ms ns) d p q.0 q.1 x.0 x.1 (h.directions d p q.0) (j.directions d p q.1);
          short = short_products _ _ ms ns h.short j.short;
          numbers = all_products elements (W a) (W b) ms ns h.numbers j.numbers;
          leaves = products_all (From (prod a b)) (stays (prod a b)) ms ns (every_atom (From a) (From (prod a b)) (λ x k. inl k) ms h.leaves) (every_atom (From b) (From (prod a b)) (λ x k. inr k) ns j.leaves);
          places = products_all (HasPlace elements) placed ms ns h.places j.places;
          origins = product_origins (monomials elements a v) (monomials elements b v) ms ns h.origins j.origins;
        });
  }

  -- a product with 0
  pub no_product : (a b : Term) (v : Names) (ms : List Monomial) → ms ≡ [] → IsSumOf elements a v ms → IsSumOf elements (prod a b) v ms
  no_product a b v ms e g = subst (IsSumOf elements (prod a b) v) (sym e) (record {
    is = λ x. record {
      value = λ env s. sym (L.zero-mul polynomials _) ∙ ap (λ p. times p (meaning elements b env v)) (ap (monos_value env) (sym e) ∙ (g.is x.0).value env s);
      weight = λ d p q. nothing_list C d (W (prod a b));
      directions = λ d p q. inr tt;
      short = tt;
      numbers = tt;
      leaves = tt;
      places = tt;
      origins = tt;
      nonzero = tt;
      in_order = tt;
    };
  })

  -- ---- sums over the values of a name
  pub none_below : (e : Term) (i : ℕ) (v : Names) → IsSumBelowOf elements e i v 0 []
  none_below e i v = record {
    is = λ x. record {
      value = λ env s. refl;
      weight = λ d p q. record { over = tt; sum = omega arith; total = omega arith };
      directions = λ d p q. inr tt;
      short = tt;
      numbers = tt;
      leaves = tt;
      places = tt;
      origins = tt;
      nonzero = tt;
      in_order = tt;
    };
  }

  one_more : (n k : ℕ) → n * k + k ≡ (n + 1) * k
  one_more n k = omega arith

  next_number : (n : ℕ) → suc n ≡ n + 1
  next_number n = omega arith

  pub one_more_below : (e : Term) (i : ℕ) (v : Names) (n : ℕ) (ms ns rs : List Monomial) → IsPermutation (ms ++ ns) rs → IsSumBelowOf elements e i v n ms
      → IsSumOf elements e (with_name i n v) ns → IsSumBelowOf elements e i v (n + 1) rs
  one_more_below e i v n ms ns rs o g k = record {
    is = λ x. let h = g.is x in let j = k.is x in record {
      value = λ env s.
          monos_permuted env (ms ++ ns) rs o ∙ append_value env ms ns ∙ ap₂ plus (h.value env s) (j.value env s)
          ∙ ap (λ m. sum_below m (λ k. meaning elements e env (with_name i k v))) (next_number n);
      weight = λ d p q.
          weighed_more C d _ rs _ _ _ _ (N.le_of_eq (one_more n (W e).cost)) (N.le_of_eq (one_more n ((W e).cost * (W e).num)))
          (weighed_sorted C d _ (ms ++ ns) rs _ _ o (weighed_append C d _ ms ns _ _ _ _ (h.weight d p q) (j.weight d p q)));
      directions = λ d p q. both_short d rs (λ f l. each_permuted (λ m. length m.atoms ≤ 0) (ms ++ ns) rs o (short_append 0 ms ns f l)) (h.directions d p q) (j.directions d p q);
      short = each_permuted (λ m. length m.atoms ≤ (W e).g) (ms ++ ns) rs o (short_append _ ms ns h.short j.short);
      numbers = each_permuted (λ m. HasNumbers elements (W e) m.atoms) (ms ++ ns) rs o (append_numbers elements _ ms ns h.numbers j.numbers);
      leaves = each_permuted (λ m. AllByRecursion (From e) m.atoms) (ms ++ ns) rs o (all_append (λ m. AllByRecursion (From e) m.atoms) ms ns h.leaves j.leaves);
      places = each_permuted (λ m. AllByRecursion (HasPlace elements) m.atoms) (ms ++ ns) rs o (all_append (λ m. AllByRecursion (HasPlace elements) m.atoms) ms ns h.places j.places);
      origins = each_permuted (λ m. HasOrigin (lists_below (n + 1) (λ k. monomials elements e (with_name i k v))) m.atoms) (ms ++ ns) rs o
          (subst (λ m. HaveOrigins (lists_below m (λ k. monomials elements e (with_name i k v))) (ms ++ ns)) (next_number n)
          (joined_origins (lists_below n (λ k. monomials elements e (with_name i k v))) (monomials elements e (with_name i n v)) ms ns h.origins j.origins));
      nonzero = each_permuted (λ m. is_zero_fraction m.c ≡ false) (ms ++ ns) rs o (all_append (λ m. is_zero_fraction m.c ≡ false) ms ns h.nonzero j.nonzero);
      in_order = each_permuted (λ m. IsInOrder m.atoms) (ms ++ ns) rs o (all_append (λ m. IsInOrder m.atoms) ms ns h.in_order j.in_order);
    };
  }
    where
      both_short : (d : ℕ) (xs : List Monomial) → (AreShort 0 ms → AreShort 0 ns → AreShort 0 xs) → (term_directions elements e ≡ d) ⊎ AreShort 0 ms → (term_directions elements e ≡ d) ⊎ AreShort 0 ns
          → (term_directions elements e ≡ d) ⊎ AreShort 0 xs
      both_short d xs f (inl p) q = inl p
      both_short d xs f (inr p) (inl q) = inl q
      both_short d xs f (inr p) (inr q) = inr (f p q)

  pub over_sum : (e : Term) (i n : ℕ) (v : Names) (ms : List Monomial) → IsSumBelowOf elements e i v n ms → IsSumOf elements (over i n e) v ms
  over_sum e i n v ms g = record {
    is = λ x. let h = g.is x in record {
      value = h.value;
      weight = λ d p q. weighed_more C d _ ms _ _ _ _ (at_most n (W e).cost) (at_most_total n (W e).cost (W e).num) (h.weight d p q);
      directions = h.directions;
      short = h.short;
      numbers = wider elements _ _ (index_wider n (W e)) ms h.numbers;
      leaves = h.leaves;
      places = h.places;
      origins = h.origins;
      nonzero = h.nonzero;
      in_order = h.in_order;
    };
  }
    where
      at_most : (n c : ℕ) → n * c ≤ c * max n 1
      at_most n c = subst (λ k. k ≤ c * max n 1) (N.mul_comm c n) (N.mul-le-mul_left c (left_max n 1))

      at_most_total : (n c k : ℕ) → n * (c * k) ≤ c * max n 1 * k
      at_most_total n c k = subst (λ j. j ≤ c * max n 1 * k) (N.mul_assoc n c k) (N.mul-le-mul_right k (at_most n c))

  -- ---- what isn't expanded
  pub raise_sum : (l : ℕ) (at : List Ix) (b : Term) (v : Names) (ms : List Monomial) → IsSumOf elements (raise l at b) v ms
  raise_sum l at b v ms = record { is = λ x. absurd x }

  pub turn_sum : (w u : Function) (b : Term) (v : Names) (ms : List Monomial) → IsSumOf elements (turn w u b) v ms
  turn_sum w u b v ms = record { is = λ x. absurd x }

  -- ---- items
  record IsItem (ts : Terms) (k : ℕ) (v : Names) (ms : List Monomial) : Type 0 where
    value : (env : Environment) → HasNoOffset env → monos_value env ms ≡ item_meaning elements ts env v k
    weight : (d : ℕ) → 1 ≤ d → HaveDirections elements d ts → HasWeight C d (items_weight elements ts) ms
    directions : (d : ℕ) → 1 ≤ d → HaveDirections elements d ts → (items_directions elements ts ≡ d) ⊎ AreShort 0 ms
    short : AreShort (items_weight elements ts).g ms
    numbers : HaveNumbers elements (items_weight elements ts) ms
    leaves : AllAtoms (λ a. HaveFunction a.f ts) ms
    places : AllAtoms (HasPlace elements) ms
    origins : HaveOrigins (item_monomials elements ts v k) ms
    nonzero : HasNoZero ms
    in_order : AreInOrder ms

  items_one_or : (d : ℕ) → 1 ≤ d → (ts : Terms) → HaveDirections elements d ts → AreExpanded ts → (items_directions elements ts ≡ d) ⊎ (items_directions elements ts ≡ 1)
  items_one_or d p ts h x = go (items_known elements d p ts h x)
    where
      go : IsKnown elements d p (items_directions elements ts) (λ v. (i : ℕ) → AreShort 0 (item_monomials elements ts v i)) → (items_directions elements ts ≡ d) ⊎ (items_directions elements ts ≡ 1)
      go (inl q) = inl q
      go (inr q) = inr q.0

  first_item : (x : Term) (ts : Terms) (v : Names) (ms : List Monomial) → IsExpanded x → AreExpanded ts → IsSum elements x v ms → IsItem (term x ts) 0 v ms
  first_item x no_terms v ms a b h = record {
    value = h.value;
    weight = λ d p q. h.weight d p q.0;
    directions = λ d p q. directed_first d p (h.directions d p q.0);
    short = h.short;
    numbers = h.numbers;
    leaves = every_atom (From x) (λ a. HaveFunction a.f (term x no_terms)) (λ y k. inl k) ms h.leaves;
    places = h.places;
    origins = h.origins;
    nonzero = h.nonzero;
    in_order = h.in_order;
  }
    where
      directed_first : (d : ℕ) → 1 ≤ d → (term_directions elements x ≡ d) ⊎ AreShort 0 ms → (max (term_directions elements x) 1 ≡ d) ⊎ AreShort 0 ms
      directed_first d p (inl q) = inl (other_max _ 1 d p q (inr refl))
      directed_first d p (inr q) = inr q
  first_item x (term y ts) v ms a b h = record {
    value = h.value;
    weight = λ d p q.
        bounded_list C d (join_step (W x) (items_weight elements (term y ts))) (W x) (items_sound elements (term x (term y ts))) (term_sound elements x)
        (join_first (W x) (items_weight elements (term y ts))) ms (h.weight d p q.0);
    directions = λ d p q. directed_first d p q.1 (h.directions d p q.0);
    short = short_more _ _ (left_max (W x).g (items_weight elements (term y ts)).g) ms h.short;
    numbers = wider elements _ _ (first_wider max (W x) (items_weight elements (term y ts))) ms h.numbers;
    leaves = every_atom (From x) (λ a. HaveFunction a.f (term x (term y ts))) (λ z k. inl k) ms h.leaves;
    places = h.places;
    origins = h.origins;
    nonzero = h.nonzero;
    in_order = h.in_order;
  }
    where
      directed_first : (d : ℕ) → 1 ≤ d → HaveDirections elements d (term y ts) → (term_directions elements x ≡ d) ⊎ AreShort 0 ms
          → (max (term_directions elements x) (items_directions elements (term y ts)) ≡ d) ⊎ AreShort 0 ms
      directed_first d p g (inl q) = inl (other_max _ _ d p q (items_one_or d p (term y ts) g b))
      directed_first d p g (inr q) = inr q

  next_item : (x y : Term) (ts : Terms) (k : ℕ) (v : Names) (ms : List Monomial) → IsExpanded x → IsItem (term y ts) k v ms → IsItem (term x (term y ts)) (suc k) v ms
  next_item x y ts k v ms a h = record {
    value = h.value;
    weight = λ d p q.
        bounded_list C d (join_step (W x) (items_weight elements (term y ts))) (items_weight elements (term y ts)) (items_sound elements (term x (term y ts))) (items_sound elements (term y ts))
        (join_second (W x) (items_weight elements (term y ts))) ms (h.weight d p q.1);
    directions = λ d p q. directed_next d p q.0 (h.directions d p q.1);
    short = short_more _ _ (right_max (W x).g (items_weight elements (term y ts)).g) ms h.short;
    numbers = wider elements _ _ (second_wider max (W x) (items_weight elements (term y ts))) ms h.numbers;
    leaves = every_atom (λ a. HaveFunction a.f (term y ts)) (λ a. HaveFunction a.f (term x (term y ts))) (λ z k. inr k) ms h.leaves;
    places = h.places;
    origins = h.origins;
    nonzero = h.nonzero;
    in_order = h.in_order;
  }
    where
      directed_next : (d : ℕ) → 1 ≤ d → HasDirections elements d x → (items_directions elements (term y ts) ≡ d) ⊎ AreShort 0 ms
          → (max (term_directions elements x) (items_directions elements (term y ts)) ≡ d) ⊎ AreShort 0 ms
      directed_next d p g (inl q) = inl (either_max _ _ d p (one_or d p x g a) q)
      directed_next d p g (inr q) = inr q

  got : (x t : Plain) → Some x ≡ Some t → x ≡ t
  got x t e = cc

  got_none : (t : Plain) → None ≡ Some t → ⊥
  got_none t e = cc

  item_at : (ts : List Plain) (k : ℕ) (t : Plain) (v : Names) (ms : List Monomial) → slice_get ts k ≡ Some t → IsSumOf elements (term_of t) v ms
      → AreExpanded (terms_of (map term_of ts)) → IsItem (terms_of (map term_of ts)) k v ms
  item_at [] k t v ms e g x = absurd (got_none t e)
  item_at (y ∷ ts) zero t v ms e g x =
      first_item (term_of y) (terms_of (map term_of ts)) v ms x.0 x.1 ((subst (λ z. IsSumOf elements (term_of z) v ms) (sym (got y t e)) g).is x.0)
  item_at (y ∷ []) (suc k) t v ms e g x = absurd (got_none t e)
  item_at (y ∷ z ∷ ts) (suc k) t v ms e g x =
      next_item (term_of y) (term_of z) (terms_of (map term_of ts)) k v ms x.0 (item_at (z ∷ ts) k t v ms e g x.1)

  pub item_sum : (ts : List Plain) (i : Ix) (v : Names) (k : ℕ) (t : Plain) (ms : List Monomial) → index_value v i ≡ k → slice_get ts k ≡ Some t → IsSumOf elements (term_of t) v ms
      → IsSumOf elements (pick i (terms_of (map term_of ts))) v ms
  item_sum ts i v k t ms e f g = record {
    is = λ x. let h = item_at ts k t v ms f g x in record {
      value = λ env s. h.value env s ∙ ap (item_meaning elements (terms_of (map term_of ts)) env v) (sym e);
      weight = h.weight;
      directions = h.directions;
      short = h.short;
      numbers = h.numbers;
      leaves = h.leaves;
      places = h.places;
      origins = subst (λ j. HaveOrigins (item_monomials elements (terms_of (map term_of ts)) v j) ms) (sym e) h.origins;
      nonzero = h.nonzero;
      in_order = h.in_order;
    };
  }

  nil_behind : (ts : List Plain) (k : ℕ) (env : Environment) (v : Names) → slice_get ts k ≡ None → nil ≡ item_meaning elements (terms_of (map term_of ts)) env v k
  nil_behind [] k env v e = refl
  nil_behind (y ∷ ts) zero env v e = absurd (got_none y (sym e))
  nil_behind (y ∷ ts) (suc k) env v e = nil_behind ts k env v e

  pub no_item : (ts : List Plain) (i : Ix) (v : Names) (k : ℕ) (ms : List Monomial) → ms ≡ [] → index_value v i ≡ k → slice_get ts k ≡ None → IsSumOf elements (pick i (terms_of (map term_of ts))) v ms
  no_item ts i v k ms z e f = subst (IsSumOf elements (pick i (terms_of (map term_of ts))) v) (sym z) (record {
    is = λ x. record {
      value = λ env s. nil_behind ts k env v f ∙ ap (item_meaning elements (terms_of (map term_of ts)) env v) (sym e);
      weight = λ d p q. nothing_list C d (items_weight elements (terms_of (map term_of ts)));
      directions = λ d p q. inr tt;
      short = tt;
      numbers = tt;
      leaves = tt;
      places = tt;
      origins = tt;
      nonzero = tt;
      in_order = tt;
    };
  })
