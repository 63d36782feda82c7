-- The steps of the walk, as the code takes them
use Rattle.std.proofs.Common.{Vec, Global, ◌≡◌, ℕ, zero, suc, ◌<◌, ◌≤◌, List, [], ◌∷◌, map, length, get_or, None, Some, slice_get, Result, IfOk, IfErr, refl, sym, ◌∙◌, ap, ap₂, subst, arith}
use Rattle.ufl_tree.specs.declared.function.Ix.{Ix}
use Rattle.ufl_tree.specs.declared.plain.Plain.{Plain}
use Rattle.ufl_tree.specs.declared.plain.Plain.TheVariants as w
use Rattle.ufl_tree.proofs.ReadingLaws.{term_of-Mark, term_of-Neg, term_of-Sum, term_of-Prod, term_of-Over, term_of-Dx, term_of-Pick}
use Rattle.ufl_tree.specs.Indices.{Names, index_value}
use Rattle.ufl_tree.specs.Places.{Table}
use Rattle.ufl_tree.specs.Reading.{term_of, terms_of}
use Rattle.ufl_tree.specs.Term.{Term, mark, neg, sum, prod, over, dx, pick}
use Rattle.monos.specs.Monomial.{Monomial, monomials_of}
use Rattle.monos.specs.declared.mono.Mono.{Mono}
use Rattle.normal.specs.Monomials.{products, monos_along}
use Rattle.ufl_meaning.specs.Density.{no_names}
use Rattle.normal.specs.Collecting.{IsStrict}
use Rattle.normal.specs.Order.{comes_before}
use Rattle.normal.proofs.AtomOrder.{by_atoms}
use Rattle.normal.proofs.CollectedLaws.{collected_strict}
use Rattle.normal.specs.Gathering.{IsGathered, IsCollected, HasRoom, HaveRoom, AreFew, IsSum, IsSumOf, IsSafe, IsNormalOf}
use Rattle.normal.specs.declared.refusal.NormalRefusal.{NormalRefusal}
use Rattle.normal.specs.declared.refusal.NormalRefusal.TheVariants.{Memory}
use Rattle.normal.proofs.Refusals.{ok_then, err_then}
use Rattle.normal.proofs.NodeSums.{mark_sum, derivative_sum, product_sum, item_sum, collected_sum}
use Rattle.normal.proofs.SafeLaws.{safe_marked, safe_item, product_room, derivative_few, derivative_room, sum_room}

-- what a tree's answer says
abbrev pub Value : Table → Term → Names → Result (Vec Mono Global) NormalRefusal → Type 0
Value elements e v r = IfOk r (λ ms. IsSumOf elements e v (monomials_of ms.items))

abbrev pub Safe : Table → Term → Result (Vec Mono Global) NormalRefusal → Type 0
Safe elements e r = IfErr r (λ y. IsSafe elements e → y ≡ Memory)

-- ---- what a lookup says
pub got_at : (es : List Plain) (k : ℕ) (e : Plain) → k < length es → e ≡ get_or es k e → slice_get es k ≡ Some e
got_at [] k e h p = absurd (omega (arith, h))
got_at (x ∷ es) zero e h p = ap Some (sym p)
got_at (x ∷ es) (suc k) e h p = got_at es k e (omega (arith, h)) p

pub none_at : (es : List Plain) (k : ℕ) → length es ≤ k → slice_get es k ≡ None
none_at [] k h = refl
none_at (x ∷ es) zero h = absurd (omega (arith, h))
none_at (x ∷ es) (suc k) h = none_at es k (omega (arith, h))

pub emptied : (xs : List Mono) → length xs ≡ 0 → monomials_of xs ≡ []
emptied [] h = refl
emptied (x ∷ xs) h = absurd (omega (arith, h))

-- ---- the tree at a node, whose parts are lent
pub at_mark : (e b x : Plain) (l : ℕ) (at : List Ix) → e ≡ w.Mark l at b → x ≡ b → term_of e ≡ mark l at (term_of x)
at_mark e b x l at p q = ap term_of p ∙ term_of-Mark l at b ∙ ap (λ y. mark l at (term_of y)) (sym q)

pub at_neg : (e b x : Plain) → e ≡ w.Neg b → x ≡ b → term_of e ≡ neg (term_of x)
at_neg e b x p q = ap term_of p ∙ term_of-Neg b ∙ ap (λ y. neg (term_of y)) (sym q)

pub at_sum : (e a b x y : Plain) → e ≡ w.Sum a b → x ≡ a → y ≡ b → term_of e ≡ sum (term_of x) (term_of y)
at_sum e a b x y p q r = ap term_of p ∙ term_of-Sum a b ∙ ap₂ (λ m n. sum (term_of m) (term_of n)) (sym q) (sym r)

pub at_prod : (e a b x y : Plain) → e ≡ w.Prod a b → x ≡ a → y ≡ b → term_of e ≡ prod (term_of x) (term_of y)
at_prod e a b x y p q r = ap term_of p ∙ term_of-Prod a b ∙ ap₂ (λ m n. prod (term_of m) (term_of n)) (sym q) (sym r)

pub at_over : (e b x : Plain) (i n : ℕ) → e ≡ w.Over i n b → x ≡ b → term_of e ≡ over i n (term_of x)
at_over e b x i n p q = ap term_of p ∙ term_of-Over i n b ∙ ap (λ y. over i n (term_of y)) (sym q)

pub at_dx : (e b x : Plain) (i : Ix) → e ≡ w.Dx i b → x ≡ b → term_of e ≡ dx i (term_of x)
at_dx e b x i p q = ap term_of p ∙ term_of-Dx i b ∙ ap (λ y. dx i (term_of y)) (sym q)

pub at_pick : (e : Plain) (i : Ix) (ts us : List Plain) → e ≡ w.Pick i ts → us ≡ ts → term_of e ≡ pick i (terms_of (map term_of us))
at_pick e i ts us p q = ap term_of p ∙ term_of-Pick i ts ∙ ap (λ xs. pick i (terms_of (map term_of xs))) (sym q)

module _ (elements : Table) where
  pub sum_as : (d e : Term) (v : Names) (ms : List Monomial) → e ≡ d → IsSumOf elements d v ms → IsSumOf elements e v ms
  sum_as d e v ms p h = subst (λ t. IsSumOf elements t v ms) (sym p) h

  pub safe_as : (d e : Term) → e ≡ d → IsSafe elements e → IsSafe elements d
  safe_as d e p h = subst (IsSafe elements) p h

  -- another term for the same tree
  pub same_value : (r : Result (Vec Mono Global) NormalRefusal) (v : Names) (d e : Term) → e ≡ d → Value elements d v r → Value elements e v r
  same_value r v d e p h = subst (λ t. Value elements t v r) (sym p) h

  pub same_safe : (r : Result (Vec Mono Global) NormalRefusal) (d e : Term) → e ≡ d → Safe elements d r → Safe elements e r
  same_safe r d e p h = subst (λ t. Safe elements t r) (sym p) h

  pub marked_value : (r : Result (Vec Mono Global) NormalRefusal) (v : Names) (l : ℕ) (at : List Ix) (b : Term) → Value elements b v r → Value elements (mark l at b) v r
  marked_value r v l at b h = ok_then r (λ ms k. mark_sum elements l at b v (monomials_of ms.items) k) h

  pub marked_safe : (r : Result (Vec Mono Global) NormalRefusal) (l : ℕ) (at : List Ix) (b : Term) → Safe elements b r → Safe elements (mark l at b) r
  marked_safe r l at b h = err_then r (λ y k s. k (safe_marked elements l at b s)) h

  pub product_value : (r : Result (Vec Mono Global) NormalRefusal) (v : Names) (a b : Term) (ms ns : List Monomial) → IfOk r (λ all. IsGathered (products ms ns) (monomials_of all.items))
      → IsSumOf elements a v ms → IsSumOf elements b v ns → Value elements (prod a b) v r
  product_value r v a b ms ns h g k = ok_then r (λ all o. product_sum elements a b v ms ns (monomials_of all.items) o g k) h

  pub product_safe : (r : Result (Vec Mono Global) NormalRefusal) (v : Names) (a b : Term) (ms ns : List Monomial) → IfErr r (λ y. HaveRoom ms ns → y ≡ Memory)
      → IsSumOf elements a v ms → IsSumOf elements b v ns → Safe elements (prod a b) r
  product_safe r v a b ms ns h g k = err_then r (λ y f s. f (product_room elements a b v ms ns g k s)) h

  pub derivative_value : (r : Result (Vec Mono Global) NormalRefusal) (v : Names) (i : Ix) (n : ℕ) (b : Term) (ms : List Monomial) → n ≡ index_value v i → IfOk r (λ all. IsGathered (monos_along n ms) (monomials_of all.items))
      → IsSumOf elements b v ms → Value elements (dx i b) v r
  derivative_value r v i n b ms e h g =
      ok_then r (λ all o. derivative_sum elements i b v ms (monomials_of all.items) (subst (λ k. IsGathered (monos_along k ms) (monomials_of all.items)) e o) g) h

  pub derivative_safe : (r : Result (Vec Mono Global) NormalRefusal) (v : Names) (i : Ix) (n : ℕ) (b : Term) (ms : List Monomial) → n ≡ index_value v i
      → IfErr r (λ y. AreFew ms → HasRoom (monos_along n ms) → y ≡ Memory) → IsSumOf elements b v ms → Safe elements (dx i b) r
  derivative_safe r v i n b ms e h g =
      err_then r (λ y f s. f (derivative_few elements i b v ms g s) (subst (λ k. HasRoom (monos_along k ms)) (sym e) (derivative_room elements i b v ms g s))) h

  pub item_value : (r : Result (Vec Mono Global) NormalRefusal) (v : Names) (ts : List Plain) (n : ℕ) (t : Plain) → slice_get ts n ≡ Some t → Value elements (term_of t) v r
      → IfOk r (λ ms. (i : Ix) → index_value v i ≡ n → IsSumOf elements (pick i (terms_of (map term_of ts))) v (monomials_of ms.items))
  item_value r v ts n t e h = ok_then r (λ ms k i f. item_sum elements ts i v n t (monomials_of ms.items) f e k) h

  pub item_memory : (r : Result (Vec Mono Global) NormalRefusal) (ts : List Plain) (n : ℕ) (t : Plain) → slice_get ts n ≡ Some t → Safe elements (term_of t) r
      → IfErr r (λ y. (i : Ix) → IsSafe elements (pick i (terms_of (map term_of ts))) → y ≡ Memory)
  item_memory r ts n t e h = err_then r (λ y k i s. k (safe_item elements i ts n t e s)) h

  pub picked_value : (r : Result (Vec Mono Global) NormalRefusal) (v : Names) (ts : List Plain) (i : Ix) (n : ℕ) → index_value v i ≡ n
      → IfOk r (λ ms. (i : Ix) → index_value v i ≡ n → IsSumOf elements (pick i (terms_of (map term_of ts))) v (monomials_of ms.items))
      → Value elements (pick i (terms_of (map term_of ts))) v r
  picked_value r v ts i n e h = ok_then r (λ ms k. k i e) h

  pub picked_safe : (r : Result (Vec Mono Global) NormalRefusal) (ts : List Plain) (i : Ix)
      → IfErr r (λ y. (i : Ix) → IsSafe elements (pick i (terms_of (map term_of ts))) → y ≡ Memory) → Safe elements (pick i (terms_of (map term_of ts))) r
  picked_safe r ts i h = err_then r (λ y k. k i) h

  -- ---- the whole tree
  pub normal_value : (r : Result (Vec Mono Global) NormalRefusal) (e : Term) (v : Names) (ms : List Monomial) → v ≡ no_names → IfOk r (λ all. IsCollected ms (monomials_of all.items))
      → IsSumOf elements e v ms → IfOk r (λ all. IsNormalOf elements e (monomials_of all.items))
  normal_value r e v ms q h k =
      ok_then r
      (λ all g. record {
        is = λ x. record {
          sum = subst (λ u. IsSum elements e u (monomials_of all.items)) q ((collected_sum elements e v ms (monomials_of all.items) g k).is x);
          strict = subst (IsStrict comes_before) (sym g.is) (collected_strict comes_before by_atoms g.sorted g.rising);
        };
      }) h

  pub normal_safe : (r : Result (Vec Mono Global) NormalRefusal) (e : Term) (v : Names) (ms : List Monomial) → IfErr r (λ y. HasRoom ms → y ≡ Memory) → IsSumOf elements e v ms → Safe elements e r
  normal_safe r e v ms h k = err_then r (λ y f s. f (sum_room elements e v ms k s)) h
