use Rattle.std.proofs.Common.{◌∙◌, sym, ap, ap₂, ◌++◌}
use Rattle.passes.specs.Component.{summed_at}
use Rattle.passes.proofs.NodeLaws.{read-Number, read-Identity, read-Fun, read-Piece, read-One, read-Power, read-Tensor, read-List, read-Variable, read-Diff, summed_two, summed_index, summed_partial}
use Rattle.std.proofs.Common.{[], ◌∷◌}
use Rattle.ufl_tree.specs.Indices.{repeated, named, cell_size}
use Rattle.monos.specs.Summed.{summed}
use Rattle.passes.proofs.ResultLaws.{ok_same}
use Rattle.passes.proofs.summed.summed.Goals as goal

pub returns-in-Two : goal.returns-in-Two
returns-in-Two c =
    ok_same c.of_operator.result _ _
    (ap₂ (summed c.in-Two.op) (c.as_slice.ensures ∙ ap (λ t. t.free) c.get-a.ensures) (c.as_slice-in-Two.ensures ∙ ap (λ t. t.free) c.get-b.ensures)
    ∙ summed_two c.args.tree.now c.in-Two.op c.in-Two.a c.in-Two.b c.in-Two.is)
    c.of_operator.ensures

pub returns-in_ok-right-in-Index : goal.returns-in_ok-right-in-Index
returns-in_ok-right-in-Index c =
    ok_same c.joined.result _ _
    (ap₂ (λ xs ys. repeated (xs ++ ys)) (c.as_slice-in-Index-3.ensures ∙ ap (λ t. t.free) c.get-a-in-Index.ensures)
    (c.in_ok-right-in-Index.ensures ∙ ap₂ named c.as_slice-in-Index.ensures (c.as_slice-in-Index-2.ensures ∙ ap (λ t. t.shape) c.get-a-in-Index.ensures))
    ∙ summed_index c.args.tree.now c.in-Index.a c.in-Index.at c.in-Index.is)
    c.joined.ensures

pub returns-in_ok-right-in-Partial : goal.returns-in_ok-right-in-Partial
returns-in_ok-right-in-Partial c =
    ok_same c.joined-in-Partial.result _ _
    (ap₂ (λ xs ys. repeated (xs ++ ys)) (c.as_slice-in-Partial.ensures ∙ ap (λ t. t.free) c.get-a-in-Partial.ensures)
    (c.in_ok-right-in-Partial.ensures ∙ ap (λ n. named (c.in-Partial.i ∷ []) (n ∷ [])) (c.cell_size.ensures ∙ ap (λ t. cell_size t.cell) c.get-a-in-Partial.ensures))
    ∙ summed_partial c.args.tree.now c.in-Partial.a c.in-Partial.i c.in-Partial.is)
    c.joined-in-Partial.ensures

pub returns-in-Number : goal.returns-in-Number
returns-in-Number c = c.new.ensures ∙ ap summed_at (sym (read-Number c.args.tree.now _ c.in-Number.is))

pub returns-in-Identity : goal.returns-in-Identity
returns-in-Identity c = c.new-in-Identity.ensures ∙ ap summed_at (sym (read-Identity c.args.tree.now _ c.in-Identity.is))

pub returns-in-Fun : goal.returns-in-Fun
returns-in-Fun c = c.new-in-Fun.ensures ∙ ap summed_at (sym (read-Fun c.args.tree.now _ c.in-Fun.is))

pub returns-in-Piece : goal.returns-in-Piece
returns-in-Piece c = c.new-in-Piece.ensures ∙ ap summed_at (sym (read-Piece c.args.tree.now _ _ c.in-Piece.is))

pub returns-in-One : goal.returns-in-One
returns-in-One c = c.new-in-One.ensures ∙ ap summed_at (sym (read-One c.args.tree.now _ _ c.in-One.is))

pub returns-in-Power : goal.returns-in-Power
returns-in-Power c = c.new-in-Power.ensures ∙ ap summed_at (sym (read-Power c.args.tree.now _ _ c.in-Power.is))

pub returns-in-Tensor : goal.returns-in-Tensor
returns-in-Tensor c = c.new-in-Tensor.ensures ∙ ap summed_at (sym (read-Tensor c.args.tree.now _ _ c.in-Tensor.is))

pub returns-in-List : goal.returns-in-List
returns-in-List c = c.new-in-List.ensures ∙ ap summed_at (sym (read-List c.args.tree.now _ c.in-List.is))

pub returns-in-Variable : goal.returns-in-Variable
returns-in-Variable c = c.new-in-Variable.ensures ∙ ap summed_at (sym (read-Variable c.args.tree.now _ _ c.in-Variable.is))

pub returns-in-Diff : goal.returns-in-Diff
returns-in-Diff c = c.new-in-Diff.ensures ∙ ap summed_at (sym (read-Diff c.args.tree.now _ _ _ c.in-Diff.is))
