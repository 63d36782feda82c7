use Rattle.std.proofs.Common.{◌∙◌, ap, sym}
use Rattle.c_unit.specs.Meaning.{ran, fractions_of}
use Rattle.c_unit.specs.declared.unit.CFun.{CFun}
use Rattle.c_run.specs.Answer.{answer}
use Rattle.assembly.proofs.MachineLaws.{machine_found, machine_missing}
use Rattle.assembly.proofs.runs.Machines.run.Goals as goal

pub run-requires : goal.run-requires
run-requires c =
    let e = machine_found c.args.self.now c.args.marker c.in-Ok.i c.deref.result.now c.index_mut.result.now c.requires.machines c.requires.rising c.deref.ensures.value c.in-Ok.ensures.position c.index_mut.ensures.value in
    c.requires.tensor ∙ ap (λ (f : CFun). f.a) (sym e)

pub run-requires-in-Err : goal.run-requires-in-Err
run-requires-in-Err c =
    let e = machine_missing c.args.self.now c.args.marker c.in-Err.field-0 c.deref.result.now c.requires.machines c.requires.rising c.deref.ensures.value c.in-Err.ensures.position in
    c.requires.tensor ∙ ap (λ (f : CFun). f.a) (sym e)

pub returns-in-Ok-clause-meaning : goal.returns-in-Ok-clause-meaning
returns-in-Ok-clause-meaning c =
    let e = machine_found c.args.self.now c.args.marker c.in-Ok.i c.deref.result.now c.index_mut.result.now c.requires.machines c.requires.rising c.deref.ensures.value c.in-Ok.ensures.position c.index_mut.ensures.value in
    c.run.ensures.meaning ∙ ap (λ (f : CFun). answer (ran f (fractions_of c.args.x.now) (fractions_of c.args.w.now))) e

pub returns-in-Err-clause-meaning : goal.returns-in-Err-clause-meaning
returns-in-Err-clause-meaning c =
    let e = machine_missing c.args.self.now c.args.marker c.in-Err.field-0 c.deref.result.now c.requires.machines c.requires.rising c.deref.ensures.value c.in-Err.ensures.position in
    c.run-in-Err.ensures.meaning ∙ ap (λ (f : CFun). answer (ran f (fractions_of c.args.x.now) (fractions_of c.args.w.now))) e
