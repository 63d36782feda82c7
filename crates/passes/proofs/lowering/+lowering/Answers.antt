use Rattle.std.proofs.Common.{◌∙◌, refl, sym, ap, ap₂, [], ◌≡◌, ◌++◌, map, max, arith}
use Rattle.ufl_tree.specs.Reading.{term_of, terms_of}
use Rattle.ufl_tree.specs.Term as m
use Rattle.ufl_tree.specs.Indices.{front, back, first_size}
use Rattle.ufl_tree.proofs.ReadingLaws as r
use Rattle.lower.specs.Lowering.{one_term, power_term, chosen_term, minus_term}
use Rattle.lower.specs.Renaming.{all_renamed}
use Rattle.lower.specs.Shares.{share_of}
use Rattle.passes.specs.Names.{renaming_of}
use Rattle.passes.specs.Component.{component_in, bound_in}
use Rattle.passes.proofs.ResultLaws.{ok_as}
use Rattle.passes.proofs.PairLaws.{axes_crossed}
use Rattle.passes.proofs.LoweringLaws as l
use Rattle.passes.proofs.SpotLaws as s
use Rattle.passes.proofs.lowering.+lowering.Goals as goal

-- ---- index sums
pub component-returns-then-is_empty : goal.component-returns-then-is_empty
component-returns-then-is_empty t c =
    ok_as term_of c.unsummed.result _ _ (l.summed_none c.args.scope.now c.args.tree.now c.args.at.now c.args.next c.in_ok-repeated.repeated c.in_ok-repeated.ensures (c.is_empty.ensures.0 c.if-is_empty.true)) c.unsummed.ensures

pub with_sums-returns : goal.with_sums-returns
with_sums-returns t c =
    ok_as term_of c.sums_around.result _ _
    (l.summed_some c.args.scope.now (record { elements = c.args.scope.now.elements; names = c.as_slice.result }) c.args.tree.now c.args.at.now c.args.next _ c.args.repeated.now _ _ c.requires refl (ap renaming_of c.as_slice.ensures ∙ c.in_ok-names.ensures) c.in_ok-inner.ensures
    (c.as_slice-2.ensures ∙ c.in_ok-sizes.ensures) c.in_ok-body.ensures)
    c.sums_around.ensures

-- ---- nodes
pub unsummed-returns-in-Number : goal.unsummed-returns-in-Number
unsummed-returns-in-Number t c = r.term_of-Num _ ∙ l.in_number c.args.scope.now c.args.tree.now c.args.at.now c.args.next _ c.in-Number.is

pub unsummed-returns-in-Identity : goal.unsummed-returns-in-Identity
unsummed-returns-in-Identity t c = c.identity.ensures ∙ l.in_identity c.args.scope.now c.args.tree.now c.args.at.now c.args.next _ c.in-Identity.is

pub unsummed-returns-in-Fun : goal.unsummed-returns-in-Fun
unsummed-returns-in-Fun t c = ok_as term_of c.function.result _ _ (l.in_function c.args.scope.now c.args.tree.now c.args.at.now c.args.next _ c.in-Fun.is) c.function.ensures

pub unsummed-returns-in-Piece : goal.unsummed-returns-in-Piece
unsummed-returns-in-Piece t c = ok_as term_of c.piece.result _ _ (l.in_piece c.args.scope.now c.args.tree.now c.args.at.now c.args.next c.in-Piece.f c.in-Piece.which c.in-Piece.is) c.piece.ensures

pub unsummed-returns-in-One : goal.unsummed-returns-in-One
unsummed-returns-in-One t c =
    ok_as term_of c.one.result _ _
    (ap (λ a. one_term share_of c.in-One.op a.shape (component_in c.args.scope.now a) c.args.at.now c.args.next) c.get.ensures
    ∙ l.in_one c.args.scope.now c.args.tree.now c.in-One.a c.args.at.now c.args.next c.in-One.op c.in-One.is)
    c.one.ensures

pub unsummed-returns-in_ok-base-in-Power : goal.unsummed-returns-in_ok-base-in-Power
unsummed-returns-in_ok-base-in-Power t c =
    ok_as term_of c.power.result _ _
    (ap (λ p. power_term p c.in-Power.n) (c.in_ok-base-in-Power.ensures ∙ ap (λ a. component_in c.args.scope.now a [] c.args.next) c.get-in-Power.ensures)
    ∙ l.in_power c.args.scope.now c.args.tree.now c.in-Power.a c.args.at.now c.args.next c.in-Power.n c.in-Power.is)
    c.power.ensures

pub unsummed-returns-in_ok-place-in-Index : goal.unsummed-returns-in_ok-place-in-Index
unsummed-returns-in_ok-place-in-Index t c =
    ok_as term_of c.component-in-Index.result _ _
    (ap₂ (λ a b. component_in c.args.scope.now a b c.args.next) c.get-in-Index.ensures
    (c.as_slice-in-Index.ensures ∙ c.in_ok-place-in-Index.ensures ∙ ap (λ at. all_renamed (renaming_of c.args.scope.now.names.now) at ++ c.args.at.now) c.as_slice.ensures)
    ∙ l.in_index c.args.scope.now c.args.tree.now c.in-Index.a c.args.at.now c.args.next c.in-Index.by c.in-Index.is)
    c.component-in-Index.ensures

pub unsummed-returns-in_ok-body-in-Partial : goal.unsummed-returns-in_ok-body-in-Partial
unsummed-returns-in_ok-body-in-Partial t c =
    ok_as term_of c.dx.result _ _
    (ap₂ m.dx c.renamed.ensures (c.in_ok-body-in-Partial.ensures ∙ ap (λ a. component_in c.args.scope.now a c.args.at.now c.args.next) c.get-in-Partial.ensures)
    ∙ l.in_partial c.args.scope.now c.args.tree.now c.in-Partial.a c.args.at.now c.args.next c.in-Partial.i c.in-Partial.is)
    c.dx.ensures

pub unsummed-returns-in-Tensor : goal.unsummed-returns-in-Tensor
unsummed-returns-in-Tensor t c =
    ok_as term_of c.tensor.result _ _
    (ap₂ (λ a by. bound_in c.args.scope.now a by c.args.at.now c.args.next) c.get-in-Tensor.ensures c.as_slice-in-Tensor.ensures
    ∙ l.in_tensor c.args.scope.now c.args.tree.now c.in-Tensor.a c.args.at.now c.args.next c.in-Tensor.by c.in-Tensor.is)
    c.tensor.ensures

pub unsummed-returns-in-List : goal.unsummed-returns-in-List
unsummed-returns-in-List t c =
    ok_as term_of c.chosen.result _ _
    (ap (λ ts. chosen_term (λ c'. terms_of (map (λ a. component_in c.args.scope.now a c' c.args.next) ts)) c.args.at.now c.args.next) c.as_slice-in-List.ensures
    ∙ l.in_list c.args.scope.now c.args.tree.now c.args.at.now c.args.next c.in-List.items c.in-List.is)
    c.chosen.ensures

pub unsummed-returns-in_ok-body-in-Variable : goal.unsummed-returns-in_ok-body-in-Variable
unsummed-returns-in_ok-body-in-Variable t c =
    ok_as term_of c.mark.result _ _
    (ap (m.mark c.in-Variable.label c.args.at.now) (c.in_ok-body-in-Variable.ensures ∙ ap (λ a. component_in c.args.scope.now a c.args.at.now c.args.next) c.get-in-Variable.ensures)
    ∙ l.in_variable c.args.scope.now c.args.tree.now c.in-Variable.a c.args.at.now c.args.next c.in-Variable.label c.in-Variable.is)
    c.mark.ensures

pub unsummed-returns-in-Diff : goal.unsummed-returns-in-Diff
unsummed-returns-in-Diff t c =
    ok_as term_of c.diff.result _ _
    (ap (λ a. m.raise c.in-Diff.label (back a.shape c.args.at.now) (component_in c.args.scope.now a (front a.shape c.args.at.now) c.args.next)) c.get-in-Diff.ensures
    ∙ l.in_diff c.args.scope.now c.args.tree.now c.in-Diff.body c.args.at.now c.args.next c.in-Diff.label _ c.in-Diff.is)
    c.diff.ensures

-- ---- operators of two operands
pub two-returns-then-is_cross : goal.two-returns-then-is_cross
two-returns-then-is_cross t c =
    ok_as term_of c.crossed.result _ _
    (l.in_cross c.args.scope.now c.args.tree.now c.in-Two.a c.in-Two.b c.get-a.result.now c.get-b.result.now c.args.at.now c.args.next c.in-Two.op
    c.in-Two.is (sym c.is_cross.ensures ∙ c.if-is_cross.true) c.get-a.ensures c.get-b.ensures)
    (c.crossed.ensures (component_in c.args.scope.now c.get-b.result.now) c.in_ok-second.ensures)

pub two-returns : goal.two-returns
two-returns t c =
    ok_as term_of c.paired.result _ _
    (l.in_pair c.args.scope.now c.args.tree.now c.in-Two.a c.in-Two.b c.get-a.result.now c.get-b.result.now c.args.at.now c.args.next c.in-Two.op _ _
    c.in_ok-places.places.left c.in_ok-places.places.right _ c.in_ok-places.places.sizes _ _ c.in-Two.is (sym c.is_cross.ensures ∙ c.if-is_cross.false)
    c.get-a.ensures c.get-b.ensures c.as_slice-shape.ensures c.as_slice-other.ensures c.in_ok-places.ensures
    c.in_ok-factor.ensures c.as_slice.ensures c.as_slice-sizes.ensures)
    c.paired.ensures

pub crossed-returns : goal.crossed-returns
crossed-returns t c = λ g is.
    ok_as term_of c.cross.result _ _
    (axes_crossed (component_in c.args.scope.now c.args.a.now) g c.args.next c.in_ok-own.own c.args.other.now c.args.at.now c.in_ok-own.ensures is)
    c.cross.ensures

pub paired-returns : goal.paired-returns
paired-returns t c =
    ok_as term_of c.joined.result _ _
    (l.paired_at c.args.scope.now c.args.a.now c.args.next c.args.op c.args.places.now.left _ c.args.places.now.sizes _ _ (term_of c.args.other)
    c.in_ok-own.ensures c.as_slice.ensures c.as_slice-sizes.ensures)
    c.joined.ensures

pub within-returns : goal.within-returns
within-returns t c = ok_as term_of c.component.result _ _ (ap (component_in c.args.scope.now c.args.a.now c.args.at.now) c.in_ok-inner.ensures) c.component.ensures

-- ---- bindings
pub tensor-returns : goal.tensor-returns
tensor-returns t c =
    ok_as term_of c.component.result _ _
    (l.bound_at c.args.scope.now (record { elements = c.args.scope.now.elements; names = c.as_slice.result }) c.args.a.now c.args.by.now c.args.at.now c.args.next refl (ap renaming_of c.as_slice.ensures ∙ c.in_ok-names.ensures))
    c.component.ensures

-- ---- operators
pub grad-returns-in_ok-body-in-Some : goal.grad-returns-in_ok-body-in-Some
grad-returns-in_ok-body-in-Some t c =
    ok_as term_of c.dx.result _ _
    (s.grad_at (component_in c.args.scope.now c.args.a.now) c.args.at.now c.in-Some.rest.now c.in-Some.i.now c.args.next _ c.in-Some.ensures.cases.0 c.in_ok-body-in-Some.ensures) c.dx.ensures

pub dev-returns : goal.dev-returns
dev-returns t c =
    let e : c.max.result ≡ max c.first_size-size.result 1 = omega arith in
    ok_as term_of c.kept.result _ _
    (s.dev_at (component_in c.args.scope.now c.args.a.now) c.args.a.now.shape c.args.at.now c.args.next c.first_size-size.result c.entry_of-spot.result _ c.entry_of-spot.ensures
    (c.first_size-size.ensures ∙ ap first_size c.as_slice.ensures)
    (c.in_ok-rest.ensures
    ∙ ap₂ minus_term c.in_ok-own.ensures
    (c.in_ok-along.ensures ∙ ap₂ m.prod (c.in_ok-mean.ensures ∙ ap₂ m.prod c.in_ok-sum.ensures (c.share.ensures ∙ ap (λ k. m.num (share_of k)) e)) c.delta.ensures)))
    c.kept.ensures

-- ---- lists
pub chosen-returns-in_ok-items-in-Some : goal.chosen-returns-in_ok-items-in-Some
chosen-returns-in_ok-items-in-Some t c =
    l.chosen_first (λ b. map (λ a. component_in c.args.scope.now a b c.args.next) c.args.trees.now) c.args.at.now c.in-Some.rest.now c.in-Some.i.now c.args.next _ _ c.in-Some.ensures.cases.0
    c.in_ok-items-in-Some.ensures c.pick.ensures

pub chosen-returns-in_ok-items-in-None : goal.chosen-returns-in_ok-items-in-None
chosen-returns-in_ok-items-in-None t c =
    ok_as term_of c.nothing.result _ _
    (l.chosen_none (λ b. map (λ a. component_in c.args.scope.now a b c.args.next) c.args.trees.now) c.args.at.now c.args.next _ _ c.in-None.ensures.cases c.in_ok-items-in-None.ensures c.pick-in-None.ensures)
    c.nothing.ensures
