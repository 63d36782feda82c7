-- Which components of its operands an operator takes, case by case
use Rattle.std.proofs.Common.{◌≡◌, ℕ, refl, sym, ap, ap₂, subst, List, [], ◌∷◌, true, true≢false}
use Rattle.ufl_tree.specs.declared.function.Ix.{Ix}
use Rattle.ufl_tree.specs.declared.function.Ix.TheVariants.{Fixed}
use Rattle.ufl_tree.specs.declared.tree.Op2.{Op2}
use Rattle.ufl_tree.specs.declared.tree.Op2.TheVariants.{Sum, Product, Dot, Inner, Outer, Cross}
use Rattle.ufl_tree.specs.Term.{prod, pick, no_terms, term}
use Rattle.lower.specs.Lowering.{Lowered, nothing, minus_term, rotated_term}
use Rattle.passes.specs.declared.pairs.Axes.{Axes}
use Rattle.passes.specs.Names.{names_from}
use Rattle.passes.specs.Pairs.{is_cross, Suits, axis_product}
use Rattle.passes.specs.Component.{AreAxes}
use Rattle.passes.proofs.NameLaws.{sums_listed}

moved : (P : List Ix → List Ix → List ℕ → Type 0) (l l' r r' : List Ix) (z z' : List ℕ) → l ≡ l' → r ≡ r' → z ≡ z' → P l' r' z' → P l r z
moved P l l' r r' z z' hl hr hz h = subst (λ l. P l r z) (sym hl) (subst (λ r. P l' r z) (sym hr) (subst (λ z. P l' r' z) (sym hz) h))

moved_to : (op op' : Op2) (s t : List ℕ) (b : List Ix) (n : ℕ) (l r : List Ix) (z : List ℕ) → op ≡ op' → Suits op' s t b n l r z → Suits op s t b n l r z
moved_to op op' s t b n l r z e h = subst (λ o. Suits o s t b n l r z) (sym e) h

pub suits_inner : (op : Op2) (s t : List ℕ) (b : List Ix) (n : ℕ) (l r : List Ix) (z : List ℕ) → op ≡ Inner → l ≡ names_from s n → r ≡ names_from s n → z ≡ s → Suits op s t b n l r z
suits_inner op s t b n l r z e hl hr hz =
    moved_to op Inner s t b n l r z e
    (moved (λ l r z. Suits Inner s t b n l r z) l (names_from s n) r (names_from s n) z s hl hr hz (λ x f g. sym (sums_listed s (λ c m. prod (f c m) (g c m)) n)))

pub cross_only : (op : Op2) → is_cross op ≡ true → op ≡ Cross
cross_only Sum h = absurd (true≢false (sym h))
cross_only Product h = absurd (true≢false (sym h))
cross_only Dot h = absurd (true≢false (sym h))
cross_only Inner h = absurd (true≢false (sym h))
cross_only Outer h = absurd (true≢false (sym h))
cross_only Cross h = refl

pub axes_crossed : (f g : Lowered) (n : ℕ) (u v : Axes) (b : List Ix) → AreAxes f n u → AreAxes g n v
    → rotated_term (axis_product u v) b n ≡ rotated_term (λ j k. prod (f (Fixed j ∷ []) n) (g (Fixed k ∷ []) n)) b n
axes_crossed f g n u v [] p q = ap (λ x. nothing x n) (ap₂ minus_term (ap₂ prod p.0 q.0) (ap₂ prod p.0 q.0))
axes_crossed f g n u v (i ∷ j ∷ b) p q = ap (λ x. nothing x n) (ap₂ minus_term (ap₂ prod p.0 q.0) (ap₂ prod p.0 q.0))
axes_crossed f g n u v (i ∷ []) p q =
    ap₂ (λ x ys. pick i (term x ys)) (ap₂ minus_term (ap₂ prod p.1 q.2) (ap₂ prod p.2 q.1))
    (ap₂ (λ x y. term x (term y no_terms)) (ap₂ minus_term (ap₂ prod p.2 q.0) (ap₂ prod p.0 q.2)) (ap₂ minus_term (ap₂ prod p.0 q.1) (ap₂ prod p.1 q.0)))
