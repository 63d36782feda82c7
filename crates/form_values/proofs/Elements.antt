-- Elements that a form names have parts on the mesh's cells
use Rattle.std.proofs.Common.{◌≡◌, ℕ, Option, None, Some, slice_get, sym, ◌∙◌, subst}
use Rattle.std.specs.List.{AllByRecursion}
use Rattle.spaces.specs.Space.{Space, scalars}
use Rattle.dofs.proofs.Elements.{lawful_parts}
use Rattle.dofs.proofs.Lists.{same_some}
use Rattle.dofs.proofs.OccurringLabels.{IsPart}
use Rattle.form_values.specs.CellLayout.{IsElement, IsElementOf}
use Rattle.form_values.specs.Problem.{Problem, space_in}

abbrev pub OnMesh : Problem → Option Space → Type 0
OnMesh p o = (s : Space) → o ≡ Some s → AllByRecursion (IsPart p.mesh.kind) (scalars s)

element_parts : (p : Problem) (e : ℕ) → IsElement p e → OnMesh p (slice_get p.elements e)
element_parts p e is s found =
    subst (λ r. AllByRecursion (IsPart p.mesh.kind) (scalars r)) (same_some is.space s (sym is.found ∙ found))
    (subst (λ c. AllByRecursion (IsPart c) (scalars is.space)) is.cell (lawful_parts is.space is.lawful))

pub on_mesh : (p : Problem) (e : Option ℕ) → IsElementOf p e → OnMesh p (space_in p e)
on_mesh p None is s found = cc
on_mesh p (Some e) is s found = element_parts p e is s found
