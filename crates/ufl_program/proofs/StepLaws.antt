-- What holds of each answer of a step holds behind it
use Rattle.std.proofs.Common.{◌≡◌, Result, Ok, Err, refl}
use Rattle.std.specs.Prelude.{IfOk}
use Rattle.ufl_expr.specs.declared.refusal.TypeRefusal.{TypeRefusal}
use Rattle.ufl_values.specs.declared.refusal.Reason.{Reason}
use Rattle.ufl_values.specs.Answer.{and_then, typed_as}
use Rattle.ufl_values.specs.Operators.{built_then, verified}

abbrev pub Any : {A : Type 0} → A → Type 0
Any x = Unit {0}

pub anything : {A E : Type 0} (r : Result A E) → IfOk r Any
anything (Ok x) = tt
anything (Err e) = tt

pub where_ok : {A E : Type 0} (r : Result A E) (P : A → Type 0) → ((x : A) → r ≡ Ok x → P x) → IfOk r P
where_ok (Ok x) P g = g x refl
where_ok (Err e) P g = tt

pub then_keeps : {A B : Type 0} (r : Result A Reason) (f : A → Result B Reason) (P : A → Type 0) (Q : B → Type 0)
    → IfOk r P → ((x : A) → P x → IfOk (f x) Q) → IfOk (and_then r f) Q
then_keeps (Ok x) f P Q h g = g x h
then_keeps (Err e) f P Q h g = tt

pub typed_keeps : {A B : Type 0} (make : A → B) (r : Result A TypeRefusal) (P : A → Type 0) (Q : B → Type 0)
    → IfOk r P → ((x : A) → P x → Q (make x)) → IfOk (typed_as make r) Q
typed_keeps make (Ok x) P Q h g = g x h
typed_keeps make (Err e) P Q h g = tt

pub built_keeps : {A B : Type 0} (r : Result A TypeRefusal) (f : A → Result B TypeRefusal) (P : A → Type 0) (Q : B → Type 0)
    → IfOk r P → ((x : A) → P x → IfOk (f x) Q) → IfOk (built_then r f) Q
built_keeps (Ok x) f P Q h g = g x h
built_keeps (Err e) f P Q h g = tt

pub verified_keeps : {A B : Type 0} (r : Result A TypeRefusal) (answer : Result B TypeRefusal) (Q : B → Type 0) → IfOk answer Q → IfOk (verified r answer) Q
verified_keeps (Ok x) answer Q h = h
verified_keeps (Err e) answer Q h = tt
