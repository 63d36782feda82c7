-- A component in index notation keeps the meaning and the weight
use Rattle.std.proofs.Common.{◌≡◌, ℕ, ◌≤◌, max, List, [], ◌∷◌, length, sym, ◌∙◌, ap, subst, arith, Result, Ok, Err, IfOk}
use Rattle.ufl_tree.specs.declared.function.Ix.{Ix}
use Rattle.ufl_tree.specs.declared.function.Ix.TheVariants.{Fixed, Named}
use Rattle.ufl_tree.specs.Places.{Table}
use Rattle.ufl_tree.specs.Term.{Term}
use Rattle.ufl_tree.specs.Typed.{Typed, shape_of}
use Rattle.ufl_meaning.specs.Prelude.{meaning}
use Rattle.weigh.specs.Prelude.{Bounds, term_weight, exact, weight_with, IsLawfulTable}
use Rattle.lower.specs.Fitting.{IsFitting}
use Rattle.lower.specs.Keeping.{IsBelow, AreBelow, above, all_above, names_above}
use Rattle.lower.specs.Lowering.{lower}
use Rattle.lower.specs.Shares.{share_of}
use Rattle.lower.proofs.AboveLaws.{names_below}
use Rattle.lower.proofs.FittingLaws.{fitting_kept}
use Rattle.lower.proofs.BoundsKept.{lower_bounds}
use Rattle.lower.proofs.ShareLaws.{shares_weigh}
use Rattle.passes.specs.Component.{first_name}
use Rattle.passes.specs.Kept.{HasMeaning, HasWeight}

index_below : (n : ℕ) (i : Ix) → above i ≤ n → IsBelow n i
index_below n (Fixed k) h = tt
index_below n (Named i) h = omega (arith, h)

indices_below : (n : ℕ) (b : List Ix) → all_above b ≤ n → AreBelow n b
indices_below n [] h = tt
indices_below n (i ∷ b) h = (index_below n i (omega (arith, h)), indices_below n b (omega (arith, h)))

left : (x y : ℕ) → x ≤ max x y
left x y = omega arith

right : (x y : ℕ) → y ≤ max x y
right x y = omega arith

pub keeps_meaning : {E : Type 0} {A : Type 0} (f : A → Term) (r : Result A E) (es : Table) (e : Typed) (b : List Ix) → IfOk r (λ p. f p ≡ lower share_of es e Named b (first_name e b))
    → IsLawfulTable es → IsFitting es e → IfOk r (λ p. HasMeaning es e b (f p))
keeps_meaning f (Err x) es e b h lawful fit = tt
keeps_meaning f (Ok p) es e b h lawful fit = λ env v.
    ap (λ q. meaning es q env v) h
    ∙ fitting_kept es lawful (first_name e b) e (names_below (first_name e b) e (left (names_above e) (all_above b))) fit env v b (indices_below (first_name e b) b (right (names_above e) (all_above b)))

pub keeps_weight : {E : Type 0} {A : Type 0} (f : A → Term) (r : Result A E) (es : Table) (e : Typed) (b : List Ix) → IfOk r (λ p. f p ≡ lower share_of es e Named b (first_name e b))
    → IsFitting es e → length b ≤ length (shape_of e) → IfOk r (λ p. HasWeight es e (f p))
keeps_weight f (Err x) es e b h fit short = tt
keeps_weight f (Ok p) es e b h fit short = subst (λ q. Bounds (weight_with exact es e) (term_weight es q)) (sym h) (lower_bounds es share_of shares_weigh e fit Named b (first_name e b) short)
