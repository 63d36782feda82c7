use Rattle.std.proofs.Common.{Ok, Err}
use Rattle.c_text.specs.Units.{reading}
use Rattle.c_text.proofs.UnitLaws.{refuses}
use Rattle.c_text.proofs.UnitTold.{unit_told}
use Rattle.c_text.proofs.Answered.{taken}
use Rattle.c_text.proofs.Places.{place_is}
use Rattle.c_text.proofs.read.read_unit.Goals as goal

pub returns-in-Ok-clause-spelled : goal.returns-in-Ok-clause-spelled
returns-in-Ok-clause-spelled c = (unit_told c.args.text.now c.in-Ok.unit c.in-Ok.ensures).spells

pub returns-in-Ok-clause-lawful : goal.returns-in-Ok-clause-lawful
returns-in-Ok-clause-lawful c = (unit_told c.args.text.now c.in-Ok.unit c.in-Ok.ensures).rules

pub returns-in-Ok-clause-lined : goal.returns-in-Ok-clause-lined
returns-in-Ok-clause-lined c = (unit_told c.args.text.now c.in-Ok.unit c.in-Ok.ensures).lines

pub returns-in-Ok-clause-taken : goal.returns-in-Ok-clause-taken
returns-in-Ok-clause-taken c = λ u keeps spells short. taken (Ok c.in-Ok.unit) c.args.text.now c.in-Ok.ensures u keeps spells short

pub returns-in-Err-Refused-clause-taken : goal.returns-in-Err-Refused-clause-taken
returns-in-Err-Refused-clause-taken c = λ u keeps spells short.
    let e = c.in-Err-Refused.refusal in
    taken (Err e) c.args.text.now (refuses e.kind e (reading c.args.text.now) (rw c.in-Err-Refused.field-0-is at c.in-Err-Refused.ensures)) u keeps spells short

pub returns-in-Err-Refused-clause-place : goal.returns-in-Err-Refused-clause-place
returns-in-Err-Refused-clause-place c =
    let e = c.in-Err-Refused.refusal in
    place_is c.args.text.now e (rw c.in-Err-Refused.field-0-is at c.in-Err-Refused.ensures)
