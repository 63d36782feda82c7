use Rattle.std.proofs.Common.{◌≡◌, refl, max, arith}
use Rattle.ufl_tree.specs.Reading.{typed_of, term_of}
use Rattle.ufl_tree.specs.Places.{table_of}
use Rattle.passes.proofs.ResultLaws.{ok_as}
use Rattle.passes.proofs.LoweringLaws.{whole}
use Rattle.passes.proofs.KeptLaws.{keeps_meaning, keeps_weight}
use Rattle.passes.proofs.lowering.lower.Goals as goal

pub returns-clause-tree : goal.returns-clause-tree
returns-clause-tree c =
    let e : c.max-next.result ≡ max c.names_above.result c.all_above.result = omega arith in
    ok_as term_of c.component.result _ _ (whole _ c.tree-tree.result.now c.args.e.now c.args.at.now _ c.names_above.result c.all_above.result refl c.tree-tree.ensures.same c.names_above.ensures c.all_above.ensures e) c.component.ensures

pub returns-clause-meaning : goal.returns-clause-meaning
returns-clause-meaning c = keeps_meaning term_of c.component.result (table_of c.args.elements.now) (typed_of c.args.e.now) c.args.at.now (returns-clause-tree c)

pub returns-clause-weight : goal.returns-clause-weight
returns-clause-weight c = keeps_weight term_of c.component.result (table_of c.args.elements.now) (typed_of c.args.e.now) c.args.at.now (returns-clause-tree c)
