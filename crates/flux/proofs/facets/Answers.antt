use Rattle.flux.proofs.FacetLaws.{interval_facets, triangle_facets, tetrahedron_facets}
use Rattle.flux.proofs.facets.Goals as goal

pub returns-clause-interval : goal.returns-clause-interval
returns-clause-interval c = interval_facets

pub returns-clause-triangle : goal.returns-clause-triangle
returns-clause-triangle c = triangle_facets

pub returns-clause-tetrahedron : goal.returns-clause-tetrahedron
returns-clause-tetrahedron c = tetrahedron_facets
