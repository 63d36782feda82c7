use Rattle.std.proofs.Common.{◌≡◌, ◌+◌, length, map}
use Rattle.ufl_tree.specs.Reading.{term_of, terms_of}
use Rattle.lower.specs.Lowering.{terms_from, place_term}
use Rattle.passes.proofs.pieces.+place.Given as goal

abbrev pub decreases-place : goal.decreases-place
decreases-place l = length l.shape.now

abbrev pub invariant-loop-j : goal.invariant-loop-j
invariant-loop-j l = terms_of (map term_of l.items) ≡ terms_from 0 l.j (λ j. place_term l.f l.first l.inner (l.start + j) l.rest l.next)
