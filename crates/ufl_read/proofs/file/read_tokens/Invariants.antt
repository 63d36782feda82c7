use Rattle.slices.specs.FormTokens.{unread}
use Rattle.ufl_read.proofs.Whole.{Scanned}
use Rattle.ufl_read.proofs.file.read_tokens.Given as goal

-- the tokens so far, behind which the others stand
abbrev pub invariant-all : goal.invariant-all
invariant-all l = Scanned l.text l.tokens l.all

abbrev pub decreases-all : goal.decreases-all
decreases-all l = unread l.tokens
