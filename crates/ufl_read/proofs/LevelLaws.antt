-- Chains of both levels
use Rattle.std.proofs.Common.{[], ◌∷◌, ◌++◌, ◌≡◌, ◌<◌, ◌≤◌, true, false, List, ℕ, refl}
use Rattle.ufl_syntax.specs.declared.class.Class.{Class}
use Rattle.ufl_syntax.specs.declared.class.Lexeme.{Lexeme}
use Rattle.ufl_syntax.specs.declared.tree.Next.{Next}
use Rattle.ufl_syntax.specs.declared.tree.Syn.{Syn}
use Rattle.ufl_syntax.specs.Grammar.{Adds, no_add, Muls, no_mul, sum, term, chain, next}
use Rattle.ufl_syntax.specs.Machine.{Part, may_be_empty, part_on, run, skips, takes}
use Rattle.ufl_syntax.proofs.Complete.{add_on, mul_on, sum_begins, term_begins}
use Rattle.ufl_read.specs.Levels.{IsChain, IsOperand, a_chain, an_operand, is_joining, joined}
use Rattle.ufl_read.specs.Reads.{Moves}
use Rattle.ufl_read.specs.declared.values.Level.{Level}
use Rattle.ufl_read.specs.declared.values.Level.TheVariants as l
use Rattle.ufl_read.proofs.Turns.{added_at, factor_not, multiplied_at, sign_not, sum_at, term_at}

-- the operators that are still to come, with what they join
abbrev pub Joined : Level → ℕ → List Lexeme → List Next → List Lexeme → Type 0
Joined l.Sum n ts ns rest = Adds n ts ns rest
Joined l.Term n ts ns rest = Muls n ts ns rest

-- how much less room the parts of a level need
abbrev pub step : Level → ℕ
step l.Sum = 8
step l.Term = 4

pub joined_empty : (v : Level) (n : ℕ) → may_be_empty (joined v n) ≡ true
joined_empty l.Sum n = refl
joined_empty l.Term n = refl

pub joined_moved : (v : Level) (n a b : ℕ) → Moves (may_be_empty (joined v n)) a b → a ≤ b
joined_moved l.Sum n a b h = h
joined_moved l.Term n a b h = h

pub joined_moves : (v : Level) (n a b : ℕ) → a ≤ b → Moves (may_be_empty (joined v n)) a b
joined_moves l.Sum n a b h = h
joined_moves l.Term n a b h = h

pub operand_moved : (v : Level) (n a b : ℕ) → Moves (may_be_empty (an_operand v n)) a b → a < b
operand_moved l.Sum n a b h = h
operand_moved l.Term n a b h = h

pub chain_moves : (v : Level) (n a b : ℕ) → a < b → Moves (may_be_empty (a_chain v n)) a b
chain_moves l.Sum n a b h = h
chain_moves l.Term n a b h = h

pub chain_begins : (v : Level) (n : ℕ) (stack : List Part) (ts : List Lexeme) → run (a_chain v n ∷ stack) ts ≡ run (an_operand v n ∷ joined v n ∷ stack) ts
chain_begins l.Sum = sum_begins
chain_begins l.Term = term_begins

pub not_joined : (v : Level) (n : ℕ) (j : Class) → is_joining v j ≡ false → part_on (joined v n) j ≡ skips
not_joined l.Sum = sign_not
not_joined l.Term = factor_not

pub joins_on : (v : Level) (n : ℕ) (j : Class) → is_joining v j ≡ true → part_on (joined v n) j ≡ takes (an_operand v n ∷ joined v n ∷ [])
joins_on l.Sum = add_on
joins_on l.Term = mul_on

pub chain_at : (v : Level) (n : ℕ) (ts mid rest : List Lexeme) (e all : Syn) (ns : List Next) → all ≡ chain e ns → IsOperand v n ts e mid
    → ((more : List Next) (end : List Lexeme) → Joined v n rest more end → Joined v n mid (ns ++ more) end) → IsChain v n ts all rest
chain_at l.Sum = sum_at
chain_at l.Term = term_at

pub joined_at : (v : Level) (n : ℕ) (start ts us mid rest : List Lexeme) (op : Lexeme) (e : Syn) (old new ns : List Next) → new ≡ old ++ next op e ∷ [] → ts ≡ op ∷ us → is_joining v op.class ≡ true
    → IsOperand v n us e mid → Joined v n mid ns rest → (Joined v n ts (next op e ∷ ns) rest → Joined v n start (old ++ next op e ∷ ns) rest) → Joined v n start (new ++ ns) rest
joined_at l.Sum = added_at
joined_at l.Term = multiplied_at

-- one operand
pub chain_alone : (v : Level) (n : ℕ) (ts rest : List Lexeme) (e : Syn) → IsOperand v n ts e rest → IsChain v n ts e rest
chain_alone l.Sum n ts rest e a = sum a no_add
chain_alone l.Term n ts rest e a = term a no_mul
