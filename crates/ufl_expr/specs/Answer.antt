-- What a call answers that may run out of memory
use Rattle.std.specs.Prelude.{◌≡◌, ◌⊎◌, Result, Ok, Err}
use Rattle.ufl_expr.specs.declared.refusal.TypeRefusal.{TypeRefusal}
use Rattle.ufl_expr.specs.declared.refusal.TypeRefusal.TheVariants.{Memory}

-- the wanted value or refusal, or want of memory
abbrev pub Gives : {A : Type 0} → Result A TypeRefusal → Result A TypeRefusal → Type 0
Gives (Ok x) want = want ≡ Ok x
Gives (Err r) want = (r ≡ Memory) ⊎ (want ≡ Err r)
