-- What a tree keeps when its derivatives are carried out
use Rattle.std.proofs.Common.{◌≡◌, ℕ, max, List, Bool, true, false, nat_lt, if◌then◌else◌, refl, sym, ◌∙◌, ap, subst, arith, ltb-true, Result, Ok, Err, IfOk}
use Rattle.std.proofs.lemmas.Bool.{lt-ltb}
use Rattle.ufl_tree.specs.declared.function.Function.{Function}
use Rattle.ufl_tree.specs.declared.function.Ix.{Ix}
use Rattle.ufl_tree.specs.declared.function.Ix.TheVariants.{Fixed, Named}
use Rattle.ufl_tree.specs.Indices.{Names, index_value}
use Rattle.ufl_tree.specs.Term.{Term, raise, turn}
use Rattle.ufl_meaning.specs.Prelude.{meaning}
use Rattle.ufl_meaning.proofs.EnvironmentLaws.{raised_only_used, turned_only_used}
use Rattle.lower.specs.Keeping.{IsBelow, all_above}
use Rattle.lower.specs.Renaming.{Renaming, all_renamed}
use Rattle.perturb.specs.Expanding.{by_variable, linear, expand, Stands}
use Rattle.perturb.proofs.BoundsKept.{whatever_bounds}
use Rattle.perturb.proofs.CoefficientsOf.{coefficient_laws, parameter_times_one}
use Rattle.perturb.proofs.MeaningKept.{expand_means, expand_ready, later}
use Rattle.derivatives.specs.Naming.{term_above}
use Rattle.derivatives.specs.Expanded.{expanded, IsExpanded, Means, KeepsBounds, IsExpansion}
use Rattle.derivatives.proofs.NamingLaws.{Agree, same_expand, same_meaning}

-- ---- names at or above n are 0
abbrev below : ℕ → Renaming
below n i = if nat_lt i n then Named i else Fixed 0

abbrev cut : ℕ → Names → Names
cut n v i = if nat_lt i n then v i else 0

cut_stands : (n : ℕ) (v : Names) → Stands n (cut n v) v (below n)
cut_stands n v = record { agrees = λ i. agree i (nat_lt i n); below = λ i. within i (nat_lt i n) refl }
  where
    agree : (i : ℕ) (t : Bool) → (if t then v i else 0) ≡ index_value v (if t then Named i else Fixed 0)
    agree i true = refl
    agree i false = refl

    within : (i : ℕ) (t : Bool) → nat_lt i n ≡ t → IsBelow n (if t then Named i else Fixed 0)
    within i true e = ltb-true i n e
    within i false e = tt

same_below : {A : Type 0} (n : ℕ) (f g : ℕ → A) → Agree n f (λ i. if nat_lt i n then f i else g i)
same_below n f g i h = sym (ap (λ t. if t then f i else g i) (lt-ltb i n h))

-- ---- the meaning
pub expanded_means : (e : Term) → Means e (expanded e)
unfolding expanded
expanded_means e elements env u v =
    ap (λ p. meaning elements p env v) (same_expand n e Named (below n) n (same_below n Named (λ i. Fixed 0)) (omega arith))
    ∙ expand_means coefficient_laws elements (λ k l b env. raised_only_used l b env) turned_only_used parameter_times_one e env u n (cut n v) v (below n) (cut_stands n v)
    ∙ sym (same_meaning n elements e env v (cut n v) (same_below n v (λ i. 0)) (omega arith))
  where
    n : ℕ
    n = term_above e

pub expanded_ready : (e : Term) → IsExpanded (expanded e)
unfolding expanded
expanded_ready e = later 0 (term_above e) (omega arith) (expand e Named (term_above e)) (expand_ready e Named (term_above e))

pub expanded_bounds : (e : Term) → KeepsBounds e (expanded e)
unfolding expanded
expanded_bounds e elements w h = whatever_bounds elements w e Named (term_above e) h

pub is_expansion : (e : Term) → IsExpansion e (expanded e)
is_expansion e = record { tree = refl; expanded = expanded_ready e; meaning = expanded_means e; weight = expanded_bounds e }

-- ---- the tree of each call
pub tree_of_itself : (e : Term) (n : ℕ) → n ≡ term_above e → expand e Named n ≡ expanded e
unfolding expanded
tree_of_itself e n h = ap (expand e Named) h

pub tree_of_raise : (l : ℕ) (at : List Ix) (e b : Term) (n : ℕ) → n ≡ max (all_above at) (term_above e) → b ≡ expand e Named n
    → by_variable l (all_renamed Named at) b ≡ expanded (raise l at e)
unfolding expanded
tree_of_raise l at e b n h k = ap (by_variable l (all_renamed Named at)) (k ∙ ap (expand e Named) h)

pub tree_of_turn : (f g : Function) (e b : Term) → b ≡ expanded e → linear f.role g.role b ≡ expanded (turn f g e)
unfolding expanded
tree_of_turn f g e b h = ap (linear f.role g.role) h

-- an answer that is this tree
pub expands : {A E : Type 0} (f : A → Term) (r : Result A E) (e p : Term) → p ≡ expanded e → IfOk r (λ x. f x ≡ p) → IfOk r (λ x. IsExpansion e (f x))
expands f (Err x) e p h k = tt
expands f (Ok x) e p h k = subst (IsExpansion e) (sym (k ∙ h)) (is_expansion e)
