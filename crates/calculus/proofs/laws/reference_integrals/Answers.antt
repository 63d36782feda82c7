use Rattle.calculus.proofs.ReferenceIntegrals.{interval_powers, triangle_powers, tetrahedron_powers}
use Rattle.calculus.proofs.laws.reference_integrals.Goals as goal

pub returns-clause-interval : goal.returns-clause-interval
returns-clause-interval c = interval_powers

pub returns-clause-triangle : goal.returns-clause-triangle
returns-clause-triangle c = triangle_powers

pub returns-clause-tetrahedron : goal.returns-clause-tetrahedron
returns-clause-tetrahedron c = tetrahedron_powers
