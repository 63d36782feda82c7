use Rattle.std.proofs.Common.{ℕ, List, take}
use Rattle.ufl_form.specs.declared.table.FormKind.{FormKind}
use Rattle.ufl_tree.specs.FormTerm.{FormTerm}
use Rattle.ufl_tree.specs.Places.{table_of}
use Rattle.monos.specs.declared.weight.Weight.{Weight}
use Rattle.form_kernels.specs.Parts.{AreMarkedFunctions, ArePartsOf}
use Rattle.form_kernels.proofs.form_functions.marked_functions.Given as goal

-- those so far are the functions of the markers so far
abbrev pub invariant-loop-marker : goal.invariant-loop-marker
invariant-loop-marker l = (numbers : List ℕ) (f : FormTerm) (k : FormKind) (w : Weight) → ArePartsOf (table_of l.elements) numbers f k w l.parts
    → AreMarkedFunctions (table_of l.elements) numbers f k w l.name (take l.marker-index l.markers) l.marked.items
