use Rattle.std.proofs.Common.{◌∷◌, ◌++◌, ◌≡◌, ◌+◌, ◌≤◌, length, drop, List, ◌-◌, ◌*◌}
use Rattle.ufl_syntax.specs.declared.class.Lexeme.{Lexeme}
use Rattle.ufl_syntax.specs.declared.tree.Syn.{Syn}
use Rattle.ufl_syntax.specs.declared.tree.Next.{Next}
use Rattle.ufl_syntax.specs.declared.tree.Post.{Post}
use Rattle.ufl_syntax.specs.declared.tree.Arg.{Arg}
use Rattle.ufl_syntax.specs.Grammar.{Later, Posts, Args}
use Rattle.ufl_syntax.specs.Machine.{Part, run, a_later, posts, args}
use Rattle.ufl_read.specs.Levels.{joined}
use Rattle.ufl_read.proofs.LevelLaws.{Joined, step}
use Rattle.ufl_read.proofs.values.+reader.Given as goal

abbrev pub decreases-argument : goal.decreases-argument
decreases-argument l = l.room * 14 + 12

abbrev pub decreases-arguments : goal.decreases-arguments
decreases-arguments l = l.room * 14 + 13

abbrev pub decreases-atom : goal.decreases-atom
decreases-atom l = l.room * 14 + 1

abbrev pub decreases-list_of : goal.decreases-list_of
decreases-list_of l = l.room * 14

abbrev pub decreases-later : goal.decreases-later
decreases-later l = l.room * 14 + 12

abbrev pub decreases-post : goal.decreases-post
decreases-post l = l.room * 14

abbrev pub decreases-postfix : goal.decreases-postfix
decreases-postfix l = l.room * 14 + 2

abbrev pub decreases-postfix_from : goal.decreases-postfix_from
decreases-postfix_from l = l.room * 14 + 1

abbrev pub decreases-signed : goal.decreases-signed
decreases-signed l = l.room * 14 + 3

abbrev pub decreases-sign_of : goal.decreases-sign_of
decreases-sign_of l = l.room * 14

abbrev pub decreases-power_of : goal.decreases-power_of
decreases-power_of l = l.room * 14

abbrev pub decreases-operand : goal.decreases-operand
decreases-operand l = l.room * 14 + step l.level

abbrev pub decreases-chain : goal.decreases-chain
decreases-chain l = l.room * 14 + step l.level + 2

abbrev pub decreases-chain_from : goal.decreases-chain_from
decreases-chain_from l = l.room * 14 + step l.level + 1

abbrev pub decreases-sum : goal.decreases-sum
decreases-sum l = l.room * 14 + 11

abbrev pub decreases-term : goal.decreases-term
decreases-term l = l.room * 14 + 7

abbrev pub decreases-value : goal.decreases-value
decreases-value l = l.room * 14 + 13

abbrev pub invariant-arguments-all : goal.invariant-arguments-all
invariant-arguments-all l =
    (l.from ≤ l.at)
    × ((as_ : List Arg) (rest : List Lexeme) → Args l.room (drop l.at l.tokens) as_ rest → Args l.room (drop l.from l.tokens) (l.all ++ as_) rest)
    × ((stack : List Part) → run (args l.room ∷ stack) (drop l.from l.tokens) ≡ run (args l.room ∷ stack) (drop l.at l.tokens))

abbrev pub decreases-arguments-all : goal.decreases-arguments-all
decreases-arguments-all l = length l.tokens - l.at

abbrev pub invariant-later-all : goal.invariant-later-all
invariant-later-all l =
    (l.from ≤ l.at)
    × ((es : List Syn) (rest : List Lexeme) → Later l.room (drop l.at l.tokens) es rest
    → (all : List Syn) × Later l.room (drop l.from l.tokens) all rest × (l.items ++ es ≡ l.fn.before ++ all))
    × ((stack : List Part) → run (a_later l.room ∷ stack) (drop l.from l.tokens) ≡ run (a_later l.room ∷ stack) (drop l.at l.tokens))

abbrev pub decreases-later-all : goal.decreases-later-all
decreases-later-all l = length l.tokens - l.at

abbrev pub invariant-postfix_from-all : goal.invariant-postfix_from-all
invariant-postfix_from-all l =
    (l.from ≤ l.at)
    × ((ps : List Post) (rest : List Lexeme) → Posts l.room (drop l.at l.tokens) ps rest → Posts l.room (drop l.from l.tokens) (l.all ++ ps) rest)
    × ((stack : List Part) → run (posts l.room ∷ stack) (drop l.from l.tokens) ≡ run (posts l.room ∷ stack) (drop l.at l.tokens))
    × (l.first ≡ l.initial.first)

abbrev pub decreases-postfix_from-all : goal.decreases-postfix_from-all
decreases-postfix_from-all l = length l.tokens - l.at

abbrev pub invariant-chain_from-all : goal.invariant-chain_from-all
invariant-chain_from-all l =
    (l.from ≤ l.at)
    × ((ns : List Next) (rest : List Lexeme) → Joined l.level l.room (drop l.at l.tokens) ns rest
    → Joined l.level l.room (drop l.from l.tokens) (l.chain ++ ns) rest)
    × ((stack : List Part) → run (joined l.level l.room ∷ stack) (drop l.from l.tokens) ≡ run (joined l.level l.room ∷ stack) (drop l.at l.tokens))
    × (l.first ≡ l.initial.first)

abbrev pub decreases-chain_from-all : goal.decreases-chain_from-all
decreases-chain_from-all l = length l.tokens - l.at
