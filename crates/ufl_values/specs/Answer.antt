-- Answers of operators and calls
use Rattle.std.specs.Prelude.{◌≡◌, ◌⊎◌, Result, Ok, Err}
use Rattle.spaces.specs.declared.refusal.SpaceRefusal.{SpaceRefusal}
use Rattle.spaces.specs.declared.refusal.SpaceRefusal.TheVariants as s
use Rattle.ufl_expr.specs.declared.refusal.TypeRefusal.{TypeRefusal}
use Rattle.ufl_expr.specs.declared.refusal.TypeRefusal.TheVariants as t
use Rattle.ufl_values.specs.declared.refusal.Reason.{Reason}
use Rattle.ufl_values.specs.declared.refusal.Reason.TheVariants as r

abbrev pub reason_of_type : TypeRefusal → Reason
reason_of_type t.Kind = r.Kind
reason_of_type t.Shape = r.Shape
reason_of_type t.FreeIndex = r.FreeIndex
reason_of_type t.Nodes = r.Nodes
reason_of_type t.Memory = r.Memory

abbrev pub reason_of_space : SpaceRefusal → Reason
reason_of_space s.Kind = r.Kind
reason_of_space s.Size = r.Nodes
reason_of_space s.Memory = r.Memory

-- the wanted value or refusal, or want of memory
abbrev pub Answers : {A : Type 0} → Result A Reason → Result A Reason → Type 0
Answers (Ok x) want = want ≡ Ok x
Answers (Err e) want = (e ≡ r.Memory) ⊎ (want ≡ Err e)

-- the same, and what is made then
abbrev pub Makes : {A M : Type 0} → Result A Reason → M → Result (A × M) Reason → Type 0
Makes (Ok x) m want = want ≡ Ok (x, m)
Makes (Err e) m want = (e ≡ r.Memory) ⊎ (want ≡ Err e)

-- the next step, unless this one refuses
abbrev pub and_then : {A B : Type 0} → Result A Reason → (A → Result B Reason) → Result B Reason
and_then (Err e) next = Err e
and_then (Ok x) next = next x

-- an answer of a builder, as a value
abbrev pub typed_as : {A B : Type 0} → (A → B) → Result A TypeRefusal → Result B Reason
typed_as make (Ok x) = Ok (make x)
typed_as make (Err e) = Err (reason_of_type e)
