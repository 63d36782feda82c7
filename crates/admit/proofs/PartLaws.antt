-- The weights of functions, part by part
use Rattle.std.proofs.Common.{◌≡◌, ℕ, zero, suc, ◌+◌, ◌-◌, ◌≤◌, ◌<◌, max, option_map, List, [], ◌∷◌, drop, length, slice_get, Option, None, Some, ◌⊎◌, inl, inr, sym, ◌∙◌, ap, subst, refl, arith}
use Rattle.algebra.specs.Gcd.{gcd}
use Rattle.calculus.specs.LocalFunction.{factorial}
use Rattle.spaces.specs.declared.parts.Part.{Part}
use Rattle.spaces.specs.Scalar.{Scalar, scalar_of, part_at, placed}
use Rattle.weigh.specs.Refusals.{AreLow}
use Rattle.weigh.specs.Steps.{lcm}
use Rattle.monos.specs.declared.weight.Weight.{Weight}
use Rattle.weigh.specs.Weighing.{parts_weight, scalars_in, function_weight}
use Rattle.spaces.specs.declared.element_tree.ElementTree.{ElementTree}
use Rattle.spaces.specs.Space.{Space, scalars, IsLawful}
use Rattle.weigh.proofs.TableLaws.{table_low_from_lawful}
use Rattle.spaces.specs.Reading.{space_of}
use Rattle.ufl_tree.specs.declared.function.Function.{Function}
use Rattle.ufl_tree.specs.Places.{table_of}
use Rattle.std.proofs.lemmas.Option.{slice_get-map}

-- the factorials of degrees up to 3, each of which divides the greater ones
abbrev pub IsFactorial : ℕ → Type 0
IsFactorial n = (n ≡ 1) ⊎ ((n ≡ 2) ⊎ (n ≡ 6))

record IsGreater (f n : ℕ) : Type 0 where
  pub multiple : lcm f n ≡ max n f
  pub factorial : IsFactorial (max n f)

both : (f n k m : ℕ) → f ≡ k → n ≡ m → lcm k m ≡ max m k → IsFactorial (max m k) → IsGreater f n
both f n k m p q e h = subst (λ x. IsGreater x n) (sym p) (subst (λ y. IsGreater k y) (sym q) (record { multiple = e; factorial = h }))

greater : (f n : ℕ) → IsFactorial f → IsFactorial n → IsGreater f n
unfolding gcd
greater f n (inl p) (inl q) = both f n 1 1 p q refl (inl refl)
greater f n (inl p) (inr (inl q)) = both f n 1 2 p q refl (inr (inl refl))
greater f n (inl p) (inr (inr q)) = both f n 1 6 p q refl (inr (inr refl))
greater f n (inr (inl p)) (inl q) = both f n 2 1 p q refl (inr (inl refl))
greater f n (inr (inl p)) (inr (inl q)) = both f n 2 2 p q refl (inr (inl refl))
greater f n (inr (inl p)) (inr (inr q)) = both f n 2 6 p q refl (inr (inr refl))
greater f n (inr (inr p)) (inl q) = both f n 6 1 p q refl (inr (inr refl))
greater f n (inr (inr p)) (inr (inl q)) = both f n 6 2 p q refl (inr (inr refl))
greater f n (inr (inr p)) (inr (inr q)) = both f n 6 6 p q refl (inr (inr refl))

low_factorial : (q : ℕ) → q ≤ 3 → IsFactorial (factorial q)
low_factorial zero h = inl refl
low_factorial (suc zero) h = inl refl
low_factorial (suc (suc zero)) h = inr (inl refl)
low_factorial (suc (suc (suc zero))) h = inr (inr refl)
low_factorial (suc (suc (suc (suc q)))) h = absurd (omega (arith, h))

parts_factorial : (ps : List Scalar) → AreLow ps → IsFactorial (parts_weight ps).fac
parts_factorial [] h = inl refl
parts_factorial (p ∷ ps) h =
    let g = greater (factorial p.degree) (parts_weight ps).fac (low_factorial p.degree h.0) (parts_factorial ps h.1) in
    subst IsFactorial (sym g.multiple) g.factorial

pub common_factorial : (q : ℕ) → q ≤ 3 → (ps : List Scalar) → AreLow ps
    → max (parts_weight ps).fac (factorial q) ≡ lcm (factorial q) (parts_weight ps).fac
common_factorial q h ps k = sym (greater (factorial q) (parts_weight ps).fac (low_factorial q h) (parts_factorial ps k)).multiple

-- ---- the parts of an element, from the last one on
pub part_behind : (ss : List Scalar) (k : ℕ) (offset : ℕ) (p : Part) → slice_get (placed offset ss) k ≡ Some p
    → drop k ss ≡ scalar_of p ∷ drop (suc k) ss
part_behind [] k offset p e = absurd (none k e)
  where
    none : (k : ℕ) → slice_get {X = Part} [] k ≡ Some p → ⊥
    none zero e = grind arith
    none (suc k) e = grind arith
part_behind (s ∷ ss) zero offset p e = grind arith
part_behind (s ∷ ss) (suc k) offset p e = part_behind ss k (offset + s.nodes) p e

pub no_part : (ss : List Scalar) (k : ℕ) (offset : ℕ) → slice_get (placed offset ss) k ≡ None → drop k ss ≡ []
no_part [] zero offset e = refl
no_part [] (suc k) offset e = refl
no_part (s ∷ ss) zero offset e = grind arith
no_part (s ∷ ss) (suc k) offset e = no_part ss k (offset + s.nodes) e

low_behind : (ss : List Scalar) (k : ℕ) → AreLow ss → AreLow (drop k ss)
low_behind [] zero h = tt
low_behind [] (suc k) h = tt
low_behind (s ∷ ss) zero h = h
low_behind (s ∷ ss) (suc k) h = low_behind ss k h.1

-- the part before the k last ones
pub low_part : (ss : List Scalar) (k : ℕ) (p : Part) → AreLow ss → slice_get (placed 0 ss) k ≡ Some p → p.degree ≤ 3
low_part ss k p h e = (subst AreLow (part_behind ss k 0 p e) (low_behind ss k h)).0

pub one_more : (ss : List Scalar) (k : ℕ) (p : Part) (w v : Weight) → 0 < k → AreLow ss → slice_get (placed 0 ss) (k - 1) ≡ Some p
    → w ≡ parts_weight (drop k ss) → ((ps : List Scalar) → AreLow ps → w ≡ parts_weight ps → v ≡ parts_weight (scalar_of p ∷ ps))
    → v ≡ parts_weight (drop (k - 1) ss)
one_more ss zero p w v h l e f g = absurd (omega (arith, h))
one_more ss (suc k) p w v h l e f g =
    let m : suc k - 1 ≡ k = omega arith in
    let at : slice_get (placed 0 ss) k ≡ Some p = subst (λ n. slice_get (placed 0 ss) n ≡ Some p) m e in
    subst (λ n. v ≡ parts_weight (drop n ss)) (sym m) (g (drop (suc k) ss) (low_behind ss (suc k) l) f ∙ ap parts_weight (sym (part_behind ss k 0 p at)))

none_inside : (ss : List Scalar) (k offset : ℕ) → k < length ss → slice_get (placed offset ss) k ≡ None → ⊥
none_inside [] k offset h e = omega (arith, h)
none_inside (s ∷ ss) zero offset h e = grind arith
none_inside (s ∷ ss) (suc k) offset h e = none_inside ss k (offset + s.nodes) (omega (arith, h)) e

-- as each lawful element has low degrees
pub low_scalars : (s : Space) → IsLawful s → AreLow (scalars s)
low_scalars s h = (table_low_from_lawful (s ∷ []) (h, tt)).0

pub part_there : (ss : List Scalar) (k : ℕ) → 0 < k → k ≤ length ss → slice_get (placed 0 ss) (k - 1) ≡ None → ⊥
part_there ss k h m e = none_inside ss (k - 1) 0 (omega (arith, h, m)) e

-- ---- the element of a number
pub weight_at : (es : List ElementTree) (f : Function) (t : ElementTree) → slice_get es f.element ≡ Some t
    → function_weight (table_of es) f ≡ parts_weight (scalars (space_of t))
weight_at es f t e = ap (λ o. parts_weight (scalars_in o)) (slice_get-map space_of es f.element ∙ ap (option_map space_of) e)

pub weight_at_none : (es : List ElementTree) (f : Function) → slice_get es f.element ≡ None → function_weight (table_of es) f ≡ parts_weight []
weight_at_none es f e = ap (λ o. parts_weight (scalars_in o)) (slice_get-map space_of es f.element ∙ ap (option_map space_of) e)
