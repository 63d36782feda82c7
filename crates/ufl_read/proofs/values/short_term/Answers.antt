use Rattle.ufl_syntax.specs.Grammar.{a_name, a_number, a_text}
use Rattle.ufl_read.proofs.Turns.{one_token}
use Rattle.ufl_read.proofs.values.short_term.Goals as goal

pub returns-in-Name-clause-term : goal.returns-in-Name-clause-term
returns-in-Name-clause-term c = λ room. one_token room _ _ _ _ c.in_ok-first.ensures.0 (a_name c.in-Name.is)

pub returns-in-Name-clause-ended : goal.returns-in-Name-clause-ended
returns-in-Name-clause-ended c = c.is_end_of_term.ensures c.if-not-is_end_of_term.false

pub returns-in-Number-clause-term : goal.returns-in-Number-clause-term
returns-in-Number-clause-term c = λ room. one_token room _ _ _ _ c.in_ok-first.ensures.0 (a_number c.in-Number.is)

pub returns-in-Number-clause-ended : goal.returns-in-Number-clause-ended
returns-in-Number-clause-ended c = c.is_end_of_term.ensures c.if-not-is_end_of_term.false

pub returns-in-Text-clause-term : goal.returns-in-Text-clause-term
returns-in-Text-clause-term c = λ room. one_token room _ _ _ _ c.in_ok-first.ensures.0 (a_text c.in-Text.is)

pub returns-in-Text-clause-ended : goal.returns-in-Text-clause-ended
returns-in-Text-clause-ended c = c.is_end_of_term.ensures c.if-not-is_end_of_term.false
