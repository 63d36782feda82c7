-- What the functions of this crate answer
use Rattle.std.specs.Prelude.{◌≡◌, ◌⊎◌, ℕ, List, ◌++◌, ◌∷◌, [], Result, Ok, Err}
use Rattle.ufl_read.specs.declared.refusal.FormKind.TheVariants.{Memory}
use Rattle.ufl_read.specs.declared.refusal.FormRefusal.{FormRefusal}
use Rattle.ufl_read.specs.Refusals.{wordless}
use Rattle.ufl_values.specs.declared.value.Value.{Value}
use Rattle.ufl_calls.specs.declared.group.Group.{Group}
use Rattle.ufl_calls.specs.declared.made.Made.{Made}
use Rattle.ufl_calls.specs.Groups.{IsGroup}
use Rattle.ufl_calls.specs.Calls.{Refusable}
use Rattle.ufl_elab.specs.declared.names.Names.{Names}
use Rattle.ufl_elab.specs.declared.exports.Exports.{Exports as ExportsLent}
use Rattle.ufl_elab.specs.Names.{Name}
use Rattle.ufl_elab.specs.Entries.{names_of}
use Rattle.ufl_elab.specs.Evaluation.{Place}
use Rattle.ufl_elab.specs.Exports.{Exports}
use Rattle.ufl_elab.specs.Statements.{State}

abbrev pub file_in : Names → List ℕ
file_in names = names.file.now

abbrev pub names_in : Names → List Name
names_in names = names_of names.bound.entries

abbrev pub place_in : Names → ℕ → Place
place_in names line = record { file = file_in names; names = names_in names; line = line }

abbrev pub state_in : Names → Made → State
state_in names made = record { names = names_in names; made = made }

-- what is left is wanted, or the refusal is, or memory ran out
abbrev pub Leaves : {A B : Type 0} → Result B FormRefusal → A → Result A FormRefusal → Type 0
Leaves (Ok _) left want = want ≡ Ok left
Leaves (Err e) left want = (e ≡ wordless Memory 0) ⊎ (want ≡ Err e)

-- one more value behind those of a group
abbrev pub Gathers : Result Group FormRefusal → Made → List Value → Refusable Value → Type 0
Gathers (Ok g) m vs want = (a : Value) × ((want ≡ Ok (a, m)) × IsGroup (vs ++ a ∷ []) g)
Gathers (Err e) m vs want = (e ≡ wordless Memory 0) ⊎ (want ≡ Err e)

abbrev pub exports_seen : ExportsLent → Exports
exports_seen x = record { line = x.line; target = x.target; items = x.items.now }
