-- The room of a tree's steps is that of its parts, and of their lists
use Rattle.std.proofs.Common.{◌≡◌, ℕ, zero, suc, ◌+◌, ◌*◌, ◌^◌, ◌<◌, ◌≤◌, List, [], ◌∷◌, map, None, Some, slice_get, sym, subst, arith}
use native.Mathlib.Nat as N
use Rattle.ufl_tree.specs.declared.function.Function.{Function}
use Rattle.ufl_tree.specs.declared.function.Ix.{Ix}
use Rattle.ufl_tree.specs.declared.plain.Plain.{Plain}
use Rattle.ufl_tree.specs.Indices.{Names, index_value}
use Rattle.ufl_tree.specs.Places.{Table}
use Rattle.ufl_tree.specs.Reading.{term_of, terms_of}
use Rattle.ufl_tree.specs.Term.{Term, fun, mark, neg, sum, prod, over, dx, pick, Terms}
use Rattle.monos.specs.Monomial.{Monomial}
use Rattle.monos.specs.declared.weight.Weight.{Weight}
use Rattle.weigh.specs.Admitted.{IsAdmitted}
use Rattle.weigh.specs.Bounds.{Bounds, IsSound}
use Rattle.weigh.specs.Lists.{HasWeight}
use Rattle.weigh.specs.Refusals.{size}
use Rattle.calculus.specs.LocalFunction.{factorial}
use Rattle.calculus.proofs.Nodes.{factorial_positive}
use Rattle.weigh.specs.Terms.{term_weight, items_weight, term_directions}
use Rattle.weigh.proofs.AgreeLaws.{IsAbove, positive_from_sound}
use Rattle.weigh.proofs.StepLaws.{times_pair, plus_pair, join_pair, index_one, space_one}
use Rattle.weigh.proofs.NodeLaws.{times_list}
use Rattle.weigh.proofs.TermLaws.{term_sound, items_sound, directions_positive}
use Rattle.normal.specs.Monomials.{IsExpanded, AreExpanded, products, monos_along}
use Rattle.normal.specs.Bounding.{cost_of, HasDirections, HaveDirections}
use Rattle.normal.specs.Gathering.{HasRoom, HaveRoom, AreFew, IsSumOf, IsSafe}
use Rattle.normal.proofs.WeightLaws.{are_products}
use Rattle.normal.proofs.BoundingLaws.{along_weighed}
use Rattle.normal.proofs.RoomLaws.{all_over, few_derivatives}

below_both : (a b c d : ℕ) → a ≤ c → b ≤ d → c * d < 2 ^ 127 → a * b < 2 ^ 127
below_both a b c d h k l = N.lt_of_le_of_lt (N.mul-le-mul h k) l

four_turned : (a b c d : ℕ) → a * b * (c * d) ≡ a * c * (b * d)
four_turned a b c d = omega arith

module _ (elements : Table) where
  abbrev W : Term → Weight
  W e = term_weight elements e

  abbrev C : Function → ℕ
  C = cost_of elements

  some_cost : (f : Function) → 1 ≤ C f
  some_cost f = (term_sound elements (fun f [])).cost

  -- ---- the parts of a tree
  within : (a e : Weight) → IsAbove a e → e.cost * e.num < 2 ^ 127 → a.cost * a.num < 2 ^ 127
  within a e h k = below_both a.cost a.num e.cost e.num h.cost h.num k

  pub safe_first : (a b : Term) → IsSafe elements (sum a b) → IsSafe elements a
  safe_first a b s = record {
    expanded = (s.expanded).0;
    d = s.d;
    positive = s.positive;
    directions = (s.directions).0;
    size = within (W a) (W (sum a b)) (plus_pair.first (W a) (W b) (positive_from_sound (W a) (term_sound elements a)) (positive_from_sound (W b) (term_sound elements b))) s.size;
  }

  pub safe_second : (a b : Term) → IsSafe elements (sum a b) → IsSafe elements b
  safe_second a b s = record {
    expanded = (s.expanded).1;
    d = s.d;
    positive = s.positive;
    directions = (s.directions).1;
    size = within (W b) (W (sum a b)) (plus_pair.second (W a) (W b) (positive_from_sound (W a) (term_sound elements a)) (positive_from_sound (W b) (term_sound elements b))) s.size;
  }

  pub safe_left : (a b : Term) → IsSafe elements (prod a b) → IsSafe elements a
  safe_left a b s = record {
    expanded = (s.expanded).0;
    d = s.d;
    positive = s.positive;
    directions = (s.directions).0;
    size = within (W a) (W (prod a b)) (times_pair.first (W a) (W b) (positive_from_sound (W a) (term_sound elements a)) (positive_from_sound (W b) (term_sound elements b))) s.size;
  }

  pub safe_right : (a b : Term) → IsSafe elements (prod a b) → IsSafe elements b
  safe_right a b s = record {
    expanded = (s.expanded).1;
    d = s.d;
    positive = s.positive;
    directions = (s.directions).1;
    size = within (W b) (W (prod a b)) (times_pair.second (W a) (W b) (positive_from_sound (W a) (term_sound elements a)) (positive_from_sound (W b) (term_sound elements b))) s.size;
  }

  pub safe_marked : (l : ℕ) (at : List Ix) (b : Term) → IsSafe elements (mark l at b) → IsSafe elements b
  safe_marked l at b s = record { expanded = s.expanded; d = s.d; positive = s.positive; directions = s.directions; size = s.size }

  pub safe_negated : (a : Term) → IsSafe elements (neg a) → IsSafe elements a
  safe_negated a s = record { expanded = s.expanded; d = s.d; positive = s.positive; directions = s.directions; size = s.size }

  pub safe_below : (i n : ℕ) (b : Term) → IsSafe elements (over i n b) → IsSafe elements b
  safe_below i n b s = record {
    expanded = s.expanded;
    d = s.d;
    positive = s.positive;
    directions = s.directions;
    size = within (W b) (W (over i n b)) ((index_one n).above (W b) (positive_from_sound (W b) (term_sound elements b))) s.size;
  }

  pub safe_derived : (i : Ix) (b : Term) → IsSafe elements (dx i b) → IsSafe elements b
  safe_derived i b s = record {
    expanded = s.expanded;
    d = s.d;
    positive = s.positive;
    directions = s.directions;
    size = within (W b) (W (dx i b)) ((space_one (term_directions elements b) (directions_positive elements b)).above (W b) (positive_from_sound (W b) (term_sound elements b))) s.size;
  }

  record SafeItems (d : ℕ) (ts : Terms) : Type 0 where
    expanded : AreExpanded ts
    directions : HaveDirections elements d ts
    size : (items_weight elements ts).cost * (items_weight elements ts).num < 2 ^ 127

  item_safe : (d : ℕ) → 1 ≤ d → (ts : List Plain) (k : ℕ) (t : Plain) → slice_get ts k ≡ Some t → SafeItems d (terms_of (map term_of ts)) → IsSafe elements (term_of t)
  item_safe d p [] k t e s = absurd (nothing e)
    where
      nothing : None ≡ Some t → ⊥
      nothing e = cc
  item_safe d p (x ∷ []) zero t e s = subst (λ y. IsSafe elements (term_of y)) (one e) (record { expanded = (s.expanded).0; d = d; positive = p; directions = (s.directions).0; size = s.size })
    where
      one : Some x ≡ Some t → x ≡ t
      one e = cc
  item_safe d p (x ∷ []) (suc k) t e s = absurd (nothing e)
    where
      nothing : None ≡ Some t → ⊥
      nothing e = cc
  item_safe d p (x ∷ y ∷ ts) zero t e s =
      subst (λ y. IsSafe elements (term_of y)) (one e) (record {
        expanded = (s.expanded).0;
        d = d;
        positive = p;
        directions = (s.directions).0;
        size = within (W (term_of x)) _ (join_pair.first (W (term_of x)) (items_weight elements (terms_of (map term_of (y ∷ ts)))) (positive_from_sound _ (term_sound elements (term_of x)))
            (positive_from_sound _ (items_sound elements (terms_of (map term_of (y ∷ ts)))))) s.size;
      })
    where
      one : Some x ≡ Some t → x ≡ t
      one e = cc
  item_safe d p (x ∷ y ∷ ts) (suc k) t e s =
      item_safe d p (y ∷ ts) k t e (record {
        expanded = (s.expanded).1;
        directions = (s.directions).1;
        size = within (items_weight elements (terms_of (map term_of (y ∷ ts)))) _ (join_pair.second (W (term_of x)) (items_weight elements (terms_of (map term_of (y ∷ ts)))) (positive_from_sound _ (term_sound elements (term_of x)))
            (positive_from_sound _ (items_sound elements (terms_of (map term_of (y ∷ ts)))))) s.size;
      })

  pub safe_item : (i : Ix) (ts : List Plain) (k : ℕ) (t : Plain) → slice_get ts k ≡ Some t → IsSafe elements (pick i (terms_of (map term_of ts))) → IsSafe elements (term_of t)
  safe_item i ts k t e s = item_safe s.d s.positive ts k t e (record { expanded = s.expanded; directions = s.directions; size = s.size })

  -- ---- the lists
  den_below : (w : Weight) → IsSound w → w.cost * w.num < 2 ^ 127 → w.den < 2 ^ 127
  den_below w s h = N.lt_of_le_of_lt (N.le_trans s.parts (subst (λ k. w.num ≤ k) (N.mul_comm w.num w.cost) (N.le-mul_of_pos_right w.num s.cost))) h

  list_room : (d : ℕ) → 1 ≤ d → (w : Weight) → IsSound w → w.cost * w.num < 2 ^ 127 → (ms : List Monomial) → HasWeight C d w ms → HasRoom ms
  list_room d p w s h ms x = record {
    cost = C;
    d = d;
    l = w.den;
    s = w.cost;
    t = w.cost * w.num;
    costs = some_cost;
    directions = p;
    some = s.den;
    weighed = x;
    small = den_below w s h;
    few = h;
  }

  pub sum_room : (e : Term) (v : Names) (ms : List Monomial) → IsSumOf elements e v ms → IsSafe elements e → HasRoom ms
  sum_room e v ms g s = list_room s.d s.positive (W e) (term_sound elements e) s.size ms ((g.is s.expanded).weight s.d s.positive s.directions)

  pub product_room : (a b : Term) (v : Names) (ms ns : List Monomial) → IsSumOf elements a v ms → IsSumOf elements b v ns → IsSafe elements (prod a b) → HaveRoom ms ns
  product_room a b v ms ns g k s =
      let x : HasWeight C s.d (W a) ms = (g.is (s.expanded).0).weight s.d s.positive (s.directions).0 in
      let y : HasWeight C s.d (W b) ns = (k.is (s.expanded).1).weight s.d s.positive (s.directions).1 in
      record {
        l = (W a).den;
        t = (W a).cost * (W a).num;
        j = (W b).den;
        u = (W b).cost * (W b).num;
        left = all_over C s.d some_cost s.positive (W a).den ((W a).cost * (W a).num) (term_sound elements a).den ms x.over x.total;
        right = all_over C s.d some_cost s.positive (W b).den ((W b).cost * (W b).num) (term_sound elements b).den ns y.over y.total;
        small = den_below (W (prod a b)) (term_sound elements (prod a b)) s.size;
        few = subst (λ n. n < 2 ^ 127) (sym (four_turned (W a).cost (W a).num (W b).cost (W b).num)) s.size;
        sum = list_room s.d s.positive (W (prod a b)) (term_sound elements (prod a b)) s.size (products ms ns)
            (times_list C s.d (W a) (W b) (term_sound elements a) (term_sound elements b) ms ns (products ms ns) x y (are_products C ms ns));
      }

  pub derivative_few : (i : Ix) (b : Term) (v : Names) (ms : List Monomial) → IsSumOf elements b v ms → IsSafe elements (dx i b) → AreFew ms
  derivative_few i b v ms g s =
      let r = safe_derived i b s in
      let h = g.is r.expanded in
      let x : HasWeight C r.d (W b) ms = h.weight r.d r.positive r.directions in
      few_derivatives C r.d some_cost r.positive (W b).den ((W b).cost * (W b).num) (term_sound elements b).den r.size ms h.nonzero x.over x.total

  pub derivative_room : (i : Ix) (b : Term) (v : Names) (ms : List Monomial) → IsSumOf elements b v ms → IsSafe elements (dx i b) → HasRoom (monos_along (index_value v i) ms)
  derivative_room i b v ms g s =
      let h = g.is s.expanded in
      list_room s.d s.positive (W (dx i b)) (term_sound elements (dx i b)) s.size (monos_along (index_value v i) ms)
      (along_weighed elements s.d s.positive (index_value v i) b ms h.short (h.weight s.d s.positive s.directions) (h.directions s.d s.positive s.directions))

  -- ---- a tree that an admitted weight bounds
  num_below : (w e : Weight) → 1 ≤ w.den → Bounds w e → e.num ≤ w.num
  num_below w e p b =
      N.le_of_mul-le-mul_right (N.le_trans b.num (N.mul-le-mul_left w.num (N.le_of_dvd p b.den))) p

  product_below : (a b c n s : ℕ) → 1 ≤ a → 1 ≤ b → 1 ≤ s → c * n ≤ a * b * c * n * s
  product_below a b c n s p q r =
      N.le_trans
      (subst (λ k. c * n ≤ k) (turned a b c n) (N.le-mul_of_pos_right (c * n) (N.mul-pos p q)))
      (N.le-mul_of_pos_right (a * b * c * n) r)
    where
      turned : (a b c n : ℕ) → c * n * (a * b) ≡ a * b * c * n
      turned a b c n = omega arith

  pub admitted_safe : (d : ℕ) → 1 ≤ d → (w : Weight) → IsAdmitted d w → (e : Term) → IsExpanded e → HasDirections elements d e → Bounds w (W e) → IsSafe elements e
  admitted_safe d p w a e x h b = record {
    expanded = x;
    d = d;
    positive = p;
    directions = h;
    size =
        N.lt_of_le_of_lt (N.mul-le-mul b.cost (num_below w (W e) a.one_den b))
        (N.lt_of_le_of_lt (product_below (factorial (w.deg + d)) w.fac w.cost w.num w.s (factorial_positive (w.deg + d)) a.one_fac a.one_s) (small (size d w) a.size));
  }
    where
      small : (n : ℕ) → n < 2 ^ 100 → n < 2 ^ 127
      small n h = omega (arith, h)
