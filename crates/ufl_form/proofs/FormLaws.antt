-- What a builder of forms owes: its tree obeys the table, and what is kept beside it is what the definitions say of the tree
use Rattle.std.proofs.Common.{◌≡◌, true≢false, ℕ, Bool, true, false, if◌then◌else◌, ◌+◌, max, refl, sym, ap, ap₂, ◌∙◌, subst, Option, Result, Ok, Err}
use Rattle.std.specs.Prelude.{IfOk}
use Rattle.std.specs.Result.{IsErr, IsErrAnd}
use Rattle.ratio.specs.declared.reduced.Ratio.{Ratio}
use Rattle.ufl_tree.specs.declared.tree.Tree.{Tree}
use Rattle.ufl_tree.specs.declared.function.Function.{Function}
use Rattle.ufl_tree.specs.declared.function.On.{On}
use Rattle.ufl_tree.specs.declared.function.Role.{Role}
use Rattle.ufl_tree.specs.declared.function.Role.TheVariants.{Test, Trial, Position, Coefficient}
use Rattle.ufl_tree.specs.Places.{Table}
use Rattle.ufl_tree.specs.Typed.{Kind}
use Rattle.spaces.specs.declared.cell.Cell.{Cell}
use Rattle.ufl_tree.specs.Reading.{typed_of}
use Rattle.ufl_tree.specs.FormTerm.{FormTerm, integral, sum, scale, left, right, action, adjoint, derivative}
use Rattle.ufl_expr.specs.declared.refusal.TypeRefusal.{TypeRefusal}
use Rattle.ufl_expr.specs.declared.refusal.TypeRefusal.TheVariants.{Kind as OfKind}
use Rattle.ufl_expr.specs.Shapes.{is_scalar}
use Rattle.ufl_tree.proofs.KindLaws.{own_kind-typed_of}
use Rattle.ufl_form.specs.declared.arguments.Arguments.{Arguments}
use Rattle.ufl_form.specs.Arguments.{tree_arguments}
use Rattle.ufl_expr.specs.Sizes.{nodes_of, height_of}
use Rattle.ufl_expr.specs.Table.{IsTyped}
use Rattle.ufl_form.specs.declared.form_tree.FormTree.{FormTree}
use Rattle.ufl_form.specs.declared.form_tree.FormTree.TheVariants as v
use Rattle.ufl_form.specs.declared.pattern_set.PatternSet.{PatternSet}
use Rattle.ufl_form.specs.declared.table.FormKind.{FormKind}
use Rattle.ufl_form.specs.Patterns.{tree_patterns, united, product, linear_pairs, constant_pairs, without, turned, of_role}
use Rattle.ufl_form.specs.Reading.{form_of}
use Rattle.ufl_form.specs.Sizes.{form_nodes, form_height}
use Rattle.ufl_form.specs.Table.{Verdict, no_free, integral_from, integral_kind, sum_kind, last_of, is_last, last_kind, action_kind, derivative_kind, turned_kind, right_kind, adjoint_kind, further, form_kind, form_patterns, AreTyped}
use Rattle.ufl_form.specs.Building.{checked, formed, acted, derived_from, derived, IsDescribed}
use Rattle.ufl_form.proofs.FormReadings.{form_of-Integral, form_of-Sum, form_of-Scale, form_of-Left, form_of-Right, form_of-Action, form_of-Adjoint, form_of-Derivative}

pub described_same : (f g : FormTerm) (k : FormKind) (p : PatternSet) (n h : ℕ) → f ≡ g → IsDescribed g k p n h → IsDescribed f k p n h
described_same f g k p n h e D = subst (λ x. IsDescribed x k p n h) (sym e) D

-- the part that a form stores is an equal tree
pub described_part : (s t : FormTree) (k : FormKind) (p : PatternSet) (n h : ℕ) → s ≡ t → IsDescribed (form_of t) k p n h → IsDescribed (form_of s) k p n h
described_part s t k p n h e D = described_same _ _ k p n h (ap form_of e) D

-- with what the calls gave, which is equal
pub described_kept : (f : FormTerm) (k l : FormKind) (p q : PatternSet) (n h i : ℕ) → l ≡ k → q ≡ p → i ≡ h → IsDescribed f k p n h → IsDescribed f l q n i
described_kept f k l p q n h i a b c D =
    record { typed = D.typed; kind = D.kind ∙ ap (λ x. Ok x) (sym a); patterns = b ∙ D.patterns; count = D.count; depth = c ∙ D.depth }

pub described_integral : (m : On) (e : Tree) (k : FormKind) (p : PatternSet) (n h : ℕ) → IsTyped (typed_of e) → integral_kind (typed_of e) ≡ Ok k
    → p ≡ tree_patterns (typed_of e) → n ≡ nodes_of (typed_of e) → h ≡ height_of (typed_of e) → IsDescribed (form_of (v.Integral m e)) k p (n + 1) (h + 1)
unfolding AreTyped form_kind form_nodes form_height
described_integral m e k p n h typed kind patterns count depth =
    described_same _ (integral m (typed_of e)) k p (n + 1) (h + 1) (form_of-Integral m e)
    (record { typed = typed; kind = kind; patterns = patterns; count = ap (λ x. x + 1) count; depth = ap (λ x. x + 1) depth })

further_both : (v w : Verdict) (k l : FormKind) → v ≡ Ok k → w ≡ Ok l → further v (λ a. further w (λ b. sum_kind a b)) ≡ sum_kind k l
further_both v w k l e d = ap₂ (λ (x y : Verdict). further x (λ a. further y (λ b. sum_kind a b))) e d

pub described_sum : (s t : FormTree) (k l j : FormKind) (p q : PatternSet) (m n h i : ℕ) → sum_kind k l ≡ Ok j
    → IsDescribed (form_of s) k p m h → IsDescribed (form_of t) l q n i → IsDescribed (form_of (v.Sum s t)) j (united p q) (m + n + 1) (max h i + 1)
unfolding AreTyped form_kind form_nodes form_height
described_sum s t k l j p q m n h i is C D =
    described_same _ (sum (form_of s) (form_of t)) j (united p q) (m + n + 1) (max h i + 1) (form_of-Sum s t)
    (record {
      typed = (C.typed, D.typed);
      kind = further_both (form_kind (form_of s)) (form_kind (form_of t)) k l C.kind D.kind ∙ is;
      patterns = ap₂ united C.patterns D.patterns;
      count = ap₂ (λ x y. x + y + 1) C.count D.count;
      depth = ap₂ (λ x y. max x y + 1) C.depth D.depth;
    })

pub described_scale : (c : Ratio) (t : FormTree) (k : FormKind) (p : PatternSet) (n h : ℕ) → IsDescribed (form_of t) k p n h
    → IsDescribed (form_of (v.Scale c t)) k p (n + 1) (h + 1)
unfolding AreTyped form_kind form_nodes form_height
described_scale c t k p n h D =
    described_same _ (scale c (form_of t)) k p (n + 1) (h + 1) (form_of-Scale c t)
    (record { typed = D.typed; kind = D.kind; patterns = D.patterns; count = ap (λ x. x + 1) D.count; depth = ap (λ x. x + 1) D.depth })

pub described_left : (t : FormTree) (k : FormKind) (p : PatternSet) (n h : ℕ) → IsDescribed (form_of t) k p n h
    → IsDescribed (form_of (v.Left t)) k (linear_pairs p) (n + 1) (h + 1)
unfolding AreTyped form_kind form_nodes form_height
described_left t k p n h D =
    described_same _ (left (form_of t)) k (linear_pairs p) (n + 1) (h + 1) (form_of-Left t)
    (record { typed = D.typed; kind = D.kind; patterns = ap linear_pairs D.patterns; count = ap (λ x. x + 1) D.count; depth = ap (λ x. x + 1) D.depth })

pub described_right : (t : FormTree) (k : FormKind) (p : PatternSet) (n h : ℕ) → IsDescribed (form_of t) k p n h
    → IsDescribed (form_of (v.Right t)) (right_kind k) (constant_pairs p) (n + 1) (h + 1)
unfolding AreTyped form_kind form_nodes form_height
described_right t k p n h D =
    described_same _ (right (form_of t)) (right_kind k) (constant_pairs p) (n + 1) (h + 1) (form_of-Right t)
    (record {
      typed = D.typed;
      kind = ap (λ x. further x (λ a. Ok (right_kind a))) D.kind;
      patterns = ap constant_pairs D.patterns;
      count = ap (λ x. x + 1) D.count;
      depth = ap (λ x. x + 1) D.depth;
    })

pub described_adjoint : (t : FormTree) (k : FormKind) (p : PatternSet) (n h : ℕ) → IsDescribed (form_of t) k p n h
    → IsDescribed (form_of (v.Adjoint t)) (adjoint_kind k) (turned p) (n + 1) (h + 1)
unfolding AreTyped form_kind form_nodes form_height
described_adjoint t k p n h D =
    described_same _ (adjoint (form_of t)) (adjoint_kind k) (turned p) (n + 1) (h + 1) (form_of-Adjoint t)
    (record {
      typed = D.typed;
      kind = ap (λ x. further x (λ a. Ok (adjoint_kind a))) D.kind;
      patterns = ap turned D.patterns;
      count = ap (λ x. x + 1) D.count;
      depth = ap (λ x. x + 1) D.depth;
    })

-- ---- what is refused
pub formed_refused : (t : FormTree) (f : FormTerm) (r : TypeRefusal) → form_of t ≡ f → form_kind f ≡ Err r → formed t ≡ Err r
unfolding formed checked
formed_refused t f r e h = ap (λ x. checked x t) (ap form_kind e ∙ h)

pub sum_refused : (s t : FormTree) (k l : FormKind) (p q : PatternSet) (m n h i : ℕ) (r : TypeRefusal) → sum_kind k l ≡ Err r
    → IsDescribed (form_of s) k p m h → IsDescribed (form_of t) l q n i → formed (v.Sum s t) ≡ Err r
unfolding form_kind
sum_refused s t k l p q m n h i r is C D =
    formed_refused _ (sum (form_of s) (form_of t)) r (form_of-Sum s t) (further_both (form_kind (form_of s)) (form_kind (form_of t)) k l C.kind D.kind ∙ is)

pub integral_refused : (m : On) (e : Tree) (r : TypeRefusal) → integral_kind (typed_of e) ≡ Err r → formed (v.Integral m e) ≡ Err r
unfolding form_kind
integral_refused m e r h = formed_refused _ (integral m (typed_of e)) r (form_of-Integral m e) h

-- ---- the last argument
last_holds : (b c : Bool) (r : Role) → (if b then Ok Trial else if c then Ok Test else Err OfKind) ≡ Ok r → is_last r (if b then Ok Trial else if c then Ok Test else Err OfKind) ≡ true
last_holds true c Trial h = refl
last_holds true c Test h = cc
last_holds true c Position h = cc
last_holds true c (Coefficient n) h = cc
last_holds false true Trial h = cc
last_holds false true Test h = refl
last_holds false true Position h = cc
last_holds false true (Coefficient n) h = cc
last_holds false false r h = cc

action_further : (v : Verdict) (q p : PatternSet) (k : FormKind) (last : Role) (f : Function) → v ≡ Ok k → q ≡ p → is_last last (last_of p) ≡ true
    → further v (λ a. last_kind (is_last last (last_of q)) (action_kind a last f)) ≡ action_kind k last f
action_further v q p k last f e d t =
    ap₂ (λ (x : Verdict) (y : PatternSet). further x (λ a. last_kind (is_last last (last_of y)) (action_kind a last f))) e d
    ∙ ap (λ b. last_kind b (action_kind k last f)) t

action_verdict : (t : FormTree) (k : FormKind) (p : PatternSet) (n h : ℕ) (last : Role) (f : Function) → last_of p ≡ Ok last → IsDescribed (form_of t) k p n h
    → form_kind (action (form_of t) last f) ≡ action_kind k last f
unfolding form_kind
action_verdict t k p n h last f is D =
    action_further (form_kind (form_of t)) (form_patterns (form_of t)) p k last f D.kind (sym D.patterns) (last_holds _ _ last is)

pub described_action : (t : FormTree) (k j : FormKind) (p : PatternSet) (n h : ℕ) (last : Role) (f : Function) → last_of p ≡ Ok last → action_kind k last f ≡ Ok j
    → IsDescribed (form_of t) k p n h → IsDescribed (form_of (v.Action t last f)) j (without last p) (n + 1) (h + 1)
unfolding AreTyped form_nodes form_height
described_action t k j p n h last f is gives D =
    described_same _ (action (form_of t) last f) j (without last p) (n + 1) (h + 1) (form_of-Action t last f)
    (record {
      typed = D.typed;
      kind = action_verdict t k p n h last f is D ∙ gives;
      patterns = ap (without last) D.patterns;
      count = ap (λ x. x + 1) D.count;
      depth = ap (λ x. x + 1) D.depth;
    })

-- ---- derivatives
-- what the table of elements lets pass obeys the table of forms
turned_passes : (b : Bool) (v : Verdict) (j : FormKind) → (if b then v else Err OfKind) ≡ Ok j → v ≡ Ok j
turned_passes true v j h = h
turned_passes false v j h = cc

pub described_derivative : (t : FormTree) (k j : FormKind) (p : PatternSet) (n h : ℕ) (table : Table) (w du : Function) → turned_kind table k w du ≡ Ok j
    → IsDescribed (form_of t) k p n h → IsDescribed (form_of (v.Derivative t w du)) j (product p (of_role du.role)) (n + 1) (h + 1)
unfolding AreTyped form_kind form_nodes form_height
described_derivative t k j p n h table w du gives D =
    described_same _ (derivative (form_of t) w du) j (product p (of_role du.role)) (n + 1) (h + 1) (form_of-Derivative t w du)
    (record {
      typed = D.typed;
      kind = ap (λ x. further x (λ a. derivative_kind a w du)) D.kind ∙ turned_passes _ (derivative_kind k w du) j gives;
      patterns = ap (λ x. product x (of_role du.role)) D.patterns;
      count = ap (λ x. x + 1) D.count;
      depth = ap (λ x. x + 1) D.depth;
    })

-- ---- what an action and a derivative give
pub acted_as : (t u : FormTree) (k : FormKind) (p : PatternSet) (n h : ℕ) (f : Function) (w : Result Role TypeRefusal) → last_of p ≡ w → IsDescribed (form_of t) k p n h → t ≡ u
    → acted (last_of (form_patterns (form_of u))) u f ≡ acted w t f
acted_as t u k p n h f w is D view =
    sym (ap (λ x. acted (last_of (form_patterns (form_of x))) x f) view)
    ∙ ap (λ x. acted x t f) (sym (ap last_of D.patterns) ∙ is)

pub action_refused : (t : FormTree) (k : FormKind) (p : PatternSet) (n h : ℕ) (last : Role) (f : Function) (r : TypeRefusal) → last_of p ≡ Ok last → action_kind k last f ≡ Err r
    → IsDescribed (form_of t) k p n h → formed (v.Action t last f) ≡ Err r
action_refused t k p n h last f r is gives D =
    formed_refused _ (action (form_of t) last f) r (form_of-Action t last f) (action_verdict t k p n h last f is D ∙ gives)

pub derived_as : (t u : FormTree) (k : FormKind) (p : PatternSet) (n h : ℕ) (table : Table) (w du : Function) (x : Verdict) → turned_kind table k w du ≡ x
    → IsDescribed (form_of t) k p n h → t ≡ u → derived table u w du ≡ derived_from x t w du
derived_as t u k p n h table w du x is D view =
    sym (ap (λ y. derived table y w du) view)
    ∙ ap (λ y. derived_from (further y (λ a. turned_kind table a w du)) t w du) D.kind
    ∙ ap (λ y. derived_from y t w du) is

-- ---- integrals
pub integral_of : (t : Tree) (c : Option Cell) (a : Option Arguments) (s f : Bool) (r : Verdict) → r ≡ integral_from c a s f → c ≡ t.cell
    → a ≡ tree_arguments (typed_of t) → s ≡ is_scalar t.shape → f ≡ no_free t.free → r ≡ integral_kind (typed_of t)
integral_of t c a s f r h hc ha hs hf =
    h
    ∙ ap₂ (λ x y. integral_from x y s f) hc ha
    ∙ ap₂ (λ x y. integral_from t.cell (tree_arguments (typed_of t)) x y) hs hf
    ∙ sym (ap (λ (k : Kind). integral_from k.cell (tree_arguments (typed_of t)) (is_scalar k.shape) (no_free k.free)) (own_kind-typed_of t))

-- ---- what a `?` passes on
pub passed : {A : Type 0} (r : Result A TypeRefusal) (e : TypeRefusal) → IsErr r → IsErrAnd r (λ x. x ≡ e) → r ≡ Err e
passed (Ok t) e h g = absurd (true≢false (sym h))
passed (Err x) e h g = ap (λ y. Err y) g

-- ---- what is kept beside a form
pub told_of : {A : Type 0} (s t : FormTree) (k : FormKind) (p : PatternSet) (n h : ℕ) (f : FormKind → A) → s ≡ t → IsDescribed (form_of s) k p n h
    → IfOk (form_kind (form_of t)) (λ kind. f kind ≡ f k)
told_of s t k p n h f view D =
    subst (λ x. IfOk (form_kind (form_of x)) (λ kind. f kind ≡ f k)) view (subst (λ x. IfOk x (λ kind. f kind ≡ f k)) (sym D.kind) refl)
