-- The markers that a form names, and the function of each
use Rattle.std.specs.Prelude.{◌≡◌, ℕ, ◌==◌, nat_eq, Bool, true, false, List, [], ◌∷◌, ◌++◌, Option, None, Some, Contains, if◌then◌else◌}
use Rattle.std.specs.List.{AllByRecursion, list_any}
use Rattle.std.specs.List.Sorted.{IsStrictlyIncreasing}
use Rattle.ufl_tree.specs.declared.function.On.{On}
use Rattle.ufl_tree.specs.declared.function.On.TheVariants.{All, Marked}
use Rattle.ufl_tree.specs.FormTerm.{FormTerm, integral, sum, scale, left, right, action, adjoint, derivative}
use Rattle.ufl_tree.specs.Term.{Term}
use Rattle.ufl_meaning.specs.Density.{covers}
use Rattle.integrands.specs.Integrands.{IntegrandTerm}

-- ---- the functions of a form: one for each marker that it names, and one for the cells whose marker it doesn't name
-- does an integral over these cells belong to the function of the marker, or, without a marker, to the other one?
abbrev pub is_part : Option ℕ → On → Bool
is_part marker All = true
is_part None (Marked k) = false
is_part (Some m) (Marked k) = k == m

-- the bodies of the integrands of the function, in order
abbrev pub bodies_in : Option ℕ → List IntegrandTerm → List Term
bodies_in marker [] = []
bodies_in marker (p ∷ ps) = if is_part marker p.on then p.body ∷ bodies_in marker ps else bodies_in marker ps

-- on the cells with marker k, the function's integrands and no others are integrated
abbrev pub RunsOn : Option ℕ → List IntegrandTerm → ℕ → Type 0
RunsOn marker ps k = AllByRecursion (λ (p : IntegrandTerm). covers p.on k ≡ is_part marker p.on) ps

-- ---- markers
abbrev pub marker_before : On → List ℕ → List ℕ
marker_before All ms = ms
marker_before (Marked k) ms = k ∷ ms

-- those of the integrals that are over the cells with one, in the order of the integrals
abbrev pub named : List IntegrandTerm → List ℕ
named [] = []
named (p ∷ ps) = marker_before p.on (named ps)

-- those of the integrals of a form
abbrev pub named_in : FormTerm → List ℕ
named_in (integral on e) = marker_before on []
named_in (sum f g) = named_in f ++ named_in g
named_in (scale c f) = named_in f
named_in (left f) = named_in f
named_in (right f) = named_in f
named_in (action f last g) = named_in f
named_in (adjoint f) = named_in f
named_in (derivative f w du) = named_in f

-- the markers that a form names, by rising number, each once
pub record AreMarkersOf (f : FormTerm) (ms : List ℕ) : Type 0 where
  pub rising : IsStrictlyIncreasing ms
  pub all : (m : ℕ) → Contains (named_in f) m → Contains ms m
  pub only : (m : ℕ) → Contains ms m → Contains (named_in f) m

-- those of the form with these integrands
abbrev pub AreMarkers : List IntegrandTerm → List ℕ → Type 0
AreMarkers ps ms = (f : FormTerm) → named_in f ≡ named ps → AreMarkersOf f ms

-- the function for the cells with marker k
abbrev pub function_on : List IntegrandTerm → ℕ → Option ℕ
function_on ps k = if list_any (nat_eq k) (named ps) then Some k else None
