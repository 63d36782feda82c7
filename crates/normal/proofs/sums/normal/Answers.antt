use Rattle.ufl_tree.specs.Places.{table_of}
use Rattle.ufl_tree.specs.Reading.{term_of}
use Rattle.monos.specs.Monomial.{monomials_of}
use Rattle.weigh.specs.Terms.{term_weight}
use Rattle.weigh.proofs.NodeLaws.{bounded_list}
use Rattle.weigh.proofs.TermLaws.{term_sound}
use Rattle.normal.proofs.NumberLaws.{wider, bound_wider}
use Rattle.normal.specs.Bounding.{cost_of}
use Rattle.normal.proofs.sums.normal.Goals as goal

pub returns-in-Ok-clause-weight : goal.returns-in-Ok-clause-weight
returns-in-Ok-clause-weight c = λ d p h w s b.
    bounded_list (cost_of (table_of c.args.elements.now)) d w (term_weight (table_of c.args.elements.now) (term_of c.args.e.now)) s (term_sound (table_of c.args.elements.now) (term_of c.args.e.now)) b
    (monomials_of c.in-Ok.ms.items) ((((c.in-Ok.ensures.value).is c.requires.expanded).sum).weight d p h)

pub returns-in-Ok-clause-numbers : goal.returns-in-Ok-clause-numbers
returns-in-Ok-clause-numbers c = λ w b.
    wider (table_of c.args.elements.now) w (term_weight (table_of c.args.elements.now) (term_of c.args.e.now)) (bound_wider w (term_weight (table_of c.args.elements.now) (term_of c.args.e.now)) b)
    (monomials_of c.in-Ok.ms.items) (((c.in-Ok.ensures.value).is c.requires.expanded).sum).numbers
