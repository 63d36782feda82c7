-- The names of exported forms
use Rattle.std.specs.Prelude.{◌≡◌, ◌≢◌, ℕ, List, All}
use Rattle.std.specs.List.{Any, AllPairs, Contains}
use Rattle.ufl_syntax.specs.declared.span.Span.{Span}
use Rattle.ufl_syntax.specs.declared.tree.Stmt.{Stmt}
use Rattle.ufl_syntax.specs.Spans.{word_at}
use Rattle.ufl_elab.specs.declared.program.Named.{Named}

-- where the name of a form stands
abbrev pub word_of : Named → Span
word_of n = record { from = n.from; len = n.len }

abbrev pub name_of : List ℕ → Named → List ℕ
name_of file n = word_at file (word_of n)

-- the word is a target of a statement on this line
abbrev pub IsTarget : List Stmt → ℕ → Span → Type 0
IsTarget sts line word = Any (λ st. (st.line ≡ line) × Contains st.targets word) sts

abbrev pub AreTargets : List Stmt → List Named → Type 0
AreTargets sts = All (λ n. IsTarget sts n.line (word_of n))

-- no two have one name
abbrev pub DifferInName : List ℕ → List Named → Type 0
DifferInName file = AllPairs (λ m n. name_of file m ≢ name_of file n)
