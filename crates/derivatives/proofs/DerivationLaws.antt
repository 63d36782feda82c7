-- The derivative of each node, whatever it is taken by
use Rattle.std.proofs.Common.{◌≡◌, ℕ, List, [], ◌∷◌, map, refl, sym, ◌∙◌, ap, ap₂, ◌==◌, if◌then◌else◌}
use Rattle.ratio.specs.declared.reduced.Ratio.{Ratio}
use Rattle.ufl_tree.specs.declared.function.Function.{Function as Fn}
use Rattle.ufl_tree.specs.declared.function.Ix.{Ix}
use Rattle.ufl_tree.specs.declared.function.Role.{Role}
use Rattle.ufl_tree.specs.declared.plain.Plain.{Plain}
use Rattle.ufl_tree.specs.Reading.{term_of, terms_of}
use Rattle.ufl_tree.specs.Term.{Term, num, fun, mark, neg, sum, prod, over, dx, delta, pick, raise, turn, term}
use Rattle.lower.specs.Renaming.{zero_term}
use Rattle.perturb.specs.Expanding.{deltas, by_variable, all_by_variable, linear, all_linear}
use Rattle.derivatives.specs.Derivation.{derivative_of}
use Rattle.derivatives.specs.declared.derivation.Derivation.{Derivation}
use Rattle.derivatives.specs.declared.derivation.Derivation.TheVariants.{Variable, Function}

-- ---- by the kind of derivative
pub of-Variable : (l : ℕ) (at : List Ix) (e : Term) → derivative_of (Variable l at) e ≡ by_variable l at e
unfolding derivative_of
of-Variable l at e = refl

pub of-Function : (w d : Role) (e : Term) → derivative_of (Function w d) e ≡ linear w d e
unfolding derivative_of
of-Function w d e = refl

-- ---- by the node
pub of-num : (by : Derivation) (c : Ratio) → derivative_of by (num c) ≡ zero_term
unfolding derivative_of
of-num (Variable l at) c = refl
of-num (Function w d) c = refl

pub of-neg : (by : Derivation) (a : Term) → derivative_of by (neg a) ≡ neg (derivative_of by a)
unfolding derivative_of
of-neg (Variable l at) a = refl
of-neg (Function w d) a = refl

pub of-sum : (by : Derivation) (a b : Term) → derivative_of by (sum a b) ≡ sum (derivative_of by a) (derivative_of by b)
unfolding derivative_of
of-sum (Variable l at) a b = refl
of-sum (Function w d) a b = refl

pub of-prod : (by : Derivation) (a b : Term) → derivative_of by (prod a b) ≡ sum (prod (derivative_of by a) b) (prod a (derivative_of by b))
unfolding derivative_of
of-prod (Variable l at) a b = refl
of-prod (Function w d) a b = refl

pub of-over : (by : Derivation) (i n : ℕ) (b : Term) → derivative_of by (over i n b) ≡ over i n (derivative_of by b)
unfolding derivative_of
of-over (Variable l at) i n b = refl
of-over (Function w d) i n b = refl

pub of-dx : (by : Derivation) (i : Ix) (b : Term) → derivative_of by (dx i b) ≡ dx i (derivative_of by b)
unfolding derivative_of
of-dx (Variable l at) i b = refl
of-dx (Function w d) i b = refl

pub of-delta : (by : Derivation) (i j : Ix) → derivative_of by (delta i j) ≡ zero_term
unfolding derivative_of
of-delta (Variable l at) i j = refl
of-delta (Function w d) i j = refl

pub of-raise : (by : Derivation) (l : ℕ) (at : List Ix) (b : Term) → derivative_of by (raise l at b) ≡ zero_term
unfolding derivative_of
of-raise (Variable m c) l at b = refl
of-raise (Function w d) l at b = refl

pub of-turn : (by : Derivation) (f g : Fn) (b : Term) → derivative_of by (turn f g b) ≡ zero_term
unfolding derivative_of
of-turn (Variable m c) f g b = refl
of-turn (Function w d) f g b = refl

-- the items of a list, one by one
each_by_variable : (l : ℕ) (at : List Ix) (ps : List Plain) → all_by_variable l at (terms_of (map term_of ps)) ≡ terms_of (map (λ e. by_variable l at (term_of e)) ps)
each_by_variable l at [] = refl
each_by_variable l at (p ∷ ps) = ap (term (by_variable l at (term_of p))) (each_by_variable l at ps)

each_linear : (w d : Role) (ps : List Plain) → all_linear w d (terms_of (map term_of ps)) ≡ terms_of (map (λ e. linear w d (term_of e)) ps)
each_linear w d [] = refl
each_linear w d (p ∷ ps) = ap (term (linear w d (term_of p))) (each_linear w d ps)

pub of-pick : (by : Derivation) (i : Ix) (ps : List Plain) → derivative_of by (pick i (terms_of (map term_of ps))) ≡ pick i (terms_of (map (λ e. derivative_of by (term_of e)) ps))
unfolding derivative_of
of-pick (Variable l at) i ps = ap (pick i) (each_by_variable l at ps)
of-pick (Function w d) i ps = ap (pick i) (each_linear w d ps)

-- ---- of functions and variables, by the kind
pub fun_by_variable : (by : Derivation) (l : ℕ) (c : List Ix) (f : Fn) (at : List Ix) → by ≡ Variable l c → zero_term ≡ derivative_of by (fun f at)
unfolding derivative_of
fun_by_variable by l c f at is = sym (ap (λ x. derivative_of x (fun f at)) is)

pub fun_by_function : (by : Derivation) (w d : Role) (f : Fn) (at : List Ix) → by ≡ Function w d → linear w d (fun f at) ≡ derivative_of by (fun f at)
unfolding derivative_of
fun_by_function by w d f at is = sym (ap (λ x. derivative_of x (fun f at)) is)

pub mark_by_variable : (by : Derivation) (l : ℕ) (c component : List Ix) (m : ℕ) (b : List Ix) (e slope own : Term) → by ≡ Variable l c → component ≡ c
    → slope ≡ derivative_of by e → own ≡ (if m == l then deltas b component else zero_term) → sum slope own ≡ derivative_of by (mark m b e)
unfolding derivative_of
mark_by_variable by l c component m b e slope own is same h k =
    ap₂ sum (h ∙ ap (λ x. derivative_of x e) is) (k ∙ ap (λ x. if m == l then deltas b x else zero_term) same) ∙ sym (ap (λ x. derivative_of x (mark m b e)) is)

pub mark_by_function : (by : Derivation) (w d : Role) (m : ℕ) (b : List Ix) (e slope : Term) → by ≡ Function w d → slope ≡ derivative_of by e → slope ≡ derivative_of by (mark m b e)
unfolding derivative_of
mark_by_function by w d m b e slope is h = h ∙ ap (λ x. derivative_of x e) is ∙ sym (ap (λ x. derivative_of x (mark m b e)) is)
