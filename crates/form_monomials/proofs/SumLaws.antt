-- What a sum of trees has of them
use Rattle.std.proofs.Common.{◌≡◌, ℕ, ◌+◌, ◌*◌, ◌/◌, inl, inr, List, [], ◌∷◌, ◌++◌, sym, ◌∙◌, ap, ap₂, arith}
use Rattle.std.specs.List.{AllByRecursion}
use Rattle.std.proofs.lemmas.Nat.Gcd.{dvd_antisymm}
use native.Mathlib.Nat as N
use Rattle.algebra.specs.RingLaws as L
use Rattle.calculus.specs.Polynomial.{Polynomial, polynomials, nil, plus, plus_assoc, plus-nil}
use Rattle.ufl_tree.specs.declared.function.Function.{Function}
use Rattle.ufl_tree.specs.Places.{Table}
use Rattle.ufl_tree.specs.Term.{Term, sum}
use Rattle.ufl_meaning.specs.Environment.{Environment}
use Rattle.ufl_meaning.specs.Prelude.{meaning, no_names}
use Rattle.monos.specs.declared.weight.Weight.{Weight}
use Rattle.weigh.specs.Bounds.{Bounds, IsSound}
use Rattle.weigh.specs.Steps.{lcm, plus_step}
use Rattle.weigh.specs.Terms.{term_weight}
use Rattle.weigh.proofs.BoundsLaws.{bounds_refl, bounds_trans, plus_bounds}
use Rattle.weigh.proofs.LcmLaws.{lcm_left, lcm_right, lcm_least}
use Rattle.weigh.proofs.SoundLaws.{plus_sound}
use Rattle.weigh.proofs.TermLaws.{term_sound}
use Rattle.integrands.proofs.PlusLaws.{plus_brackets}
use Rattle.normal.specs.Origins.{HasFunction}
use Rattle.form_monomials.specs.Monomials.{HaveBodies}
use Rattle.form_monomials.specs.Sums.{IsSumOf, alone, both}

-- ---- a property that a sum has where both parts have it
pub sum_has : (P : Term → Type 0) → ((a b : Term) → P a → P b → P (sum a b)) → (e : Term) (xs : List Term) → IsSumOf e xs → AllByRecursion P xs → P e
sum_has P f _ _ (alone e) h = h.0
sum_has P f _ _ (both a b xs ys s t) h = let g = split xs h in f a b (sum_has P f a xs s g.0) (sum_has P f b ys t g.1)
  where
    split : (zs : List Term) → AllByRecursion P (zs ++ ys) → AllByRecursion P zs × AllByRecursion P ys
    split [] h = (tt, h)
    split (z ∷ zs) h = let g = split zs h.1 in ((h.0, g.0), g.1)

-- ---- functions
first_bodies : (f : Function) (xs ys : List Term) → HaveBodies f xs → HaveBodies f (xs ++ ys)
first_bodies f [] ys h = absurd h
first_bodies f (x ∷ xs) ys (inl h) = inl h
first_bodies f (x ∷ xs) ys (inr h) = inr (first_bodies f xs ys h)

second_bodies : (f : Function) (xs ys : List Term) → HaveBodies f ys → HaveBodies f (xs ++ ys)
second_bodies f [] ys h = h
second_bodies f (x ∷ xs) ys h = inr (second_bodies f xs ys h)

pub sum_functions : (f : Function) (e : Term) (xs : List Term) → IsSumOf e xs → HasFunction f e → HaveBodies f xs
sum_functions f _ _ (alone e) h = inl h
sum_functions f _ _ (both a b xs ys s t) (inl h) = first_bodies f xs ys (sum_functions f a xs s h)
sum_functions f _ _ (both a b xs ys s t) (inr h) = second_bodies f xs ys (sum_functions f b ys t h)

-- ---- meaning
module _ (elements : Table) (env : Environment) where
  abbrev pub meanings : List Term → Polynomial
  meanings [] = nil
  meanings (e ∷ es) = plus (meaning elements e env no_names) (meanings es)

  meanings_joined : (xs ys : List Term) → meanings (xs ++ ys) ≡ plus (meanings xs) (meanings ys)
  meanings_joined [] ys = sym (L.zero-add polynomials _)
  meanings_joined (x ∷ xs) ys = ap (plus (meaning elements x env no_names)) (meanings_joined xs ys) ∙ sym (plus_assoc _ _ _)

  pub sum_means : (e : Term) (xs : List Term) → IsSumOf e xs → meaning elements e env no_names ≡ meanings xs
  sum_means _ _ (alone e) = sym (plus-nil _)
  sum_means _ _ (both a b xs ys s t) = ap₂ plus (sum_means a xs s) (sum_means b ys t) ∙ sym (meanings_joined xs ys)

-- ---- weights: those of sums do not depend on the order of two, nor on brackets
plus_swapped : (a b : Weight) → IsSound a → IsSound b → Bounds (plus_step a b) (plus_step b a)
plus_swapped a b p q = record {
  cost = omega arith;
  deg = omega arith;
  g = omega arith;
  f = omega arith;
  rmin = omega arith;
  rmax = omega arith;
  s = omega arith;
  den = lcm_least b.den a.den _ q.den (lcm_right a.den b.den) (lcm_left a.den b.den);
  fac = lcm_least b.fac a.fac _ q.fac (lcm_right a.fac b.fac) (lcm_left a.fac b.fac);
  num = N.le_of_eq (ap₂ ◌*◌ (ap (λ n. b.num * (n / b.den) + a.num * (n / a.den)) same ∙ turned _ _) (sym same));
}
  where
    same : lcm b.den a.den ≡ lcm a.den b.den
    same =
        dvd_antisymm (lcm_least b.den a.den _ q.den (lcm_right a.den b.den) (lcm_left a.den b.den))
        (lcm_least a.den b.den _ p.den (lcm_right b.den a.den) (lcm_left b.den a.den))

    turned : (x y : ℕ) → x + y ≡ y + x
    turned x y = omega arith

plus_left : (a b c : Weight) → IsSound a → IsSound b → IsSound c → Bounds (plus_step a (plus_step b c)) (plus_step (plus_step a b) c)
plus_left a b c p q r =
    let first = plus_swapped a (plus_step b c) p (plus_sound b c q r) in
    let second = plus_brackets b c a q r p in
    let third = plus_swapped b (plus_step c a) q (plus_sound c a r p) in
    let fourth = plus_brackets c a b r p q in
    let fifth = plus_swapped c (plus_step a b) r (plus_sound a b p q) in
    bounds_trans _ (plus_step (plus_step b c) a) _ (plus_sound _ a (plus_sound b c q r) p).den first
    (bounds_trans _ (plus_step b (plus_step c a)) _ (plus_sound b _ q (plus_sound c a r p)).den second
    (bounds_trans _ (plus_step (plus_step c a) b) _ (plus_sound _ b (plus_sound c a r p) q).den third
    (bounds_trans _ (plus_step c (plus_step a b)) _ (plus_sound c _ r (plus_sound a b p q)).den fourth fifth)))

module _ (elements : Table) where
  -- that of the sum of the trees, from right to left
  abbrev pub weight_of : Term → List Term → Weight
  weight_of e [] = term_weight elements e
  weight_of e (x ∷ xs) = plus_step (term_weight elements e) (weight_of x xs)

  pub weight_sound : (e : Term) (xs : List Term) → IsSound (weight_of e xs)
  weight_sound e [] = term_sound elements e
  weight_sound e (x ∷ xs) = plus_sound _ _ (term_sound elements e) (weight_sound x xs)

  weight_joined : (x : Term) (xs : List Term) (y : Term) (ys : List Term) → Bounds (weight_of x (xs ++ y ∷ ys)) (plus_step (weight_of x xs) (weight_of y ys))
  weight_joined x [] y ys = bounds_refl _
  weight_joined x (z ∷ xs) y ys =
      bounds_trans _ (plus_step (term_weight elements x) (plus_step (weight_of z xs) (weight_of y ys))) _
      (plus_sound _ _ (term_sound elements x) (plus_sound _ _ (weight_sound z xs) (weight_sound y ys))).den
      (plus_bounds _ _ _ _ (term_sound elements x) (bounds_refl _) (weight_joined z xs y ys))
      (plus_left _ _ _ (term_sound elements x) (weight_sound z xs) (weight_sound y ys))

  -- the weight of e is bounded by that of the sum of the trees, of which there is one at least
  abbrev pub IsBelow : Term → List Term → Type 0
  IsBelow e [] = ⊥
  IsBelow e (x ∷ xs) = Bounds (weight_of x xs) (term_weight elements e)

  both_below : (a b : Term) (xs ys : List Term) → IsBelow a xs → IsBelow b ys → IsBelow (sum a b) (xs ++ ys)
  both_below a b [] ys h k = absurd h
  both_below a b (x ∷ xs) [] h k = absurd k
  both_below a b (x ∷ xs) (y ∷ ys) h k =
      bounds_trans _ (plus_step (weight_of x xs) (weight_of y ys)) _ (plus_sound _ _ (weight_sound x xs) (weight_sound y ys)).den
      (weight_joined x xs y ys) (plus_bounds _ _ _ _ (term_sound elements a) h k)

  pub sum_below : (e : Term) (xs : List Term) → IsSumOf e xs → IsBelow e xs
  sum_below _ _ (alone e) = bounds_refl _
  sum_below _ _ (both a b xs ys s t) = both_below a b xs ys (sum_below a xs s) (sum_below b ys t)
