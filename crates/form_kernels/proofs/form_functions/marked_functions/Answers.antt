use Rattle.std.proofs.Common.{◌∙◌, refl, arith}
use Rattle.ufl_tree.specs.Places.{table_of}
use Rattle.form_kernels.specs.Kernels.{marked_name}
use Rattle.form_kernels.proofs.FunLaws.{none_marked, one_marked, all_marked}
use Rattle.form_kernels.proofs.PartLaws.{renamed}
use Rattle.form_kernels.proofs.form_functions.marked_functions.Goals as goal

pub loop-marker-init : goal.loop-marker-init
loop-marker-init c = λ numbers f k w are. rw c.new-marked.ensures.items (none_marked (table_of c.args.elements.now) numbers f k w c.args.name.now c.args.markers.now)

pub loop-marker-preserved : goal.loop-marker-preserved
loop-marker-preserved c = λ numbers f k w are.
    let T = table_of c.args.elements.now in
    let name = c.args.name.now in
    let markers = c.args.markers.now in
    rw c.in_ok-push.ensures.items
    (one_marked T numbers f k w name markers c.loop-marker.marker-index c.loop-marker.marked.items _ (omega arith) refl (omega (arith, c.type_inv.markers c.loop-marker.marker-index)) (c.loop-marker.invariant numbers f k w are)
    (renamed T numbers f k w _ _ (marked_name _ name) _ (c.in_ok-fun.ensures numbers f k w are) (c.as_slice.ensures.value ∙ c.in_ok-own_name.ensures)))

pub returns : goal.returns
returns c = λ numbers f k w are.
    all_marked (table_of c.args.elements.now) numbers f k w c.args.name.now c.args.markers.now c.loop-marker.marker-index c.loop-marker.marked.items (omega arith) (c.loop-marker.invariant numbers f k w are)
