-- What a signature says, as a kind
use Rattle.std.specs.Prelude.{Result, Ok, Err}
use Rattle.ufl_tree.specs.Typed.{Kind}
use Rattle.ufl_expr.specs.declared.signature.Signature.{Signature}
use Rattle.ufl_expr.specs.declared.refusal.TypeRefusal.{TypeRefusal}
use Rattle.ufl_expr.specs.Table.{Verdict}

abbrev pub kind_in : Signature → Kind
kind_in s = record { shape = s.shape; free = s.free; cell = s.cell }

abbrev pub kinds : Result Signature TypeRefusal → Verdict
kinds (Ok s) = Ok (kind_in s)
kinds (Err r) = Err r
