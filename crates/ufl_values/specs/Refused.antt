-- The refusal of a form file for a reason, with its line and its word
use Rattle.std.specs.Prelude.{ℕ, Result, Ok, Err}
use Rattle.ufl_syntax.specs.declared.span.Span.{Span}
use Rattle.ufl_read.specs.declared.refusal.FormKind.{FormKind}
use Rattle.ufl_read.specs.declared.refusal.FormKind.TheVariants as k
use Rattle.ufl_read.specs.declared.refusal.FormRefusal.{FormRefusal}
use Rattle.ufl_read.specs.Refusals.{wordless}
use Rattle.ufl_values.specs.declared.refusal.Reason.{Reason}
use Rattle.ufl_values.specs.declared.refusal.Reason.TheVariants as r

abbrev pub kind_of : Reason → FormKind
kind_of r.UnknownName = k.UnknownName
kind_of r.Kind = k.Kind
kind_of r.Unsupported = k.Unsupported
kind_of r.Shape = k.Shape
kind_of r.FreeIndex = k.FreeIndex
kind_of r.NumberRange = k.NumberRange
kind_of r.Nodes = k.Nodes
kind_of r.Memory = k.Memory

abbrev pub worded : Reason → ℕ → Span → FormRefusal
worded e line word = record { kind = kind_of e; line = line; from = word.from; len = word.len }

-- want of memory has neither line nor word
abbrev pub refused : Reason → ℕ → Span → FormRefusal
refused r.Memory line word = wordless k.Memory 0
refused e line word = worded e line word

-- an answer with the line of the statement and the word of a refusal
abbrev pub placed : {A : Type 0} → Result A Reason → ℕ → Span → Result A FormRefusal
placed (Ok a) line word = Ok a
placed (Err e) line word = Err (refused e line word)
