use Rattle.std.proofs.Common.{refl}
use Rattle.ufl_tree.specs.Places.{table_of}
use Rattle.ufl_tree.specs.Reading.{typed_of, term_of}
use Rattle.integrands.proofs.FlatteningLaws.{integral_behind}
use Rattle.integrands.proofs.forms.with_integral.Goals as goal

pub returns : goal.returns
returns c =
    integral_behind (table_of c.args.elements.now) c.args.on (typed_of c.args.e.now) (term_of c.in_ok-component.component) c.args.found.items c.push.new.self.items _
    c.in_ok-push.ensures.items refl c.in_ok-body.ensures.tree c.in_ok-component.ensures.tree
