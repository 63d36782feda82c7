-- The two levels of operators: `+` and `-` between terms, `*` and `/` between factors
use Rattle.std.specs.Prelude.{ℕ, Bool, List}
use Rattle.ufl_syntax.specs.declared.class.Class.{Class}
use Rattle.ufl_syntax.specs.declared.class.Lexeme.{Lexeme}
use Rattle.ufl_syntax.specs.declared.tree.Syn.{Syn}
use Rattle.ufl_syntax.specs.Grammar as g
use Rattle.ufl_syntax.specs.Machine.{Part, a_sum, adds, a_term, muls, a_signed}
use Rattle.ufl_read.specs.declared.values.Level.{Level}
use Rattle.ufl_read.specs.declared.values.Level.TheVariants as l

abbrev pub is_joining : Level → Class → Bool
is_joining l.Sum j = g.is_sign j
is_joining l.Term j = g.is_factor j

-- what the operators of a level join
abbrev pub IsOperand : Level → ℕ → List Lexeme → Syn → List Lexeme → Type 0
IsOperand l.Sum n ts e rest = g.Term n ts e rest
IsOperand l.Term n ts e rest = g.Signed n ts e rest

abbrev pub an_operand : Level → ℕ → Part
an_operand l.Sum n = a_term n
an_operand l.Term n = a_signed n

-- what they join it to
abbrev pub IsChain : Level → ℕ → List Lexeme → Syn → List Lexeme → Type 0
IsChain l.Sum n ts e rest = g.Sum n ts e rest
IsChain l.Term n ts e rest = g.Term n ts e rest

abbrev pub a_chain : Level → ℕ → Part
a_chain l.Sum n = a_sum n
a_chain l.Term n = a_term n

-- the operators that are still to come, with what they join
abbrev pub joined : Level → ℕ → Part
joined l.Sum n = adds n
joined l.Term n = muls n
