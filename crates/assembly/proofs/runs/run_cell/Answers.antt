use Rattle.std.proofs.Common.{◌≡◌, ◌∙◌, ◌+◌, ◌≤◌, ◌++◌, List, ap, sym, arith, length}
use Rattle.std.proofs.lemmas.List.{map-append, length-drop}
use Rattle.std.proofs.lemmas.Result.{err_from_is_err_and}
use Rattle.algebra.specs.Fraction.{Fraction}
use Rattle.c_unit.specs.Meaning.{fractions_of}
use Rattle.ratio.specs.Value.{fraction_of}
use Rattle.assembly.specs.Run.{tensor_of}
use Rattle.assembly.proofs.GatherLaws.{tail_written, refused_as}
use Rattle.assembly.proofs.runs.run_cell.Goals as goal

pub returns-clause-values : goal.returns-clause-values
returns-clause-values c =
    let old = c.args.values.now.items in
    let start : c.len-start.result ≡ length old = omega (arith, c.len-start.ensures, c.args.values.now.ok.0) in
    let room : c.len-start.result ≤ c.len-start.result + c.args.machines.now.funs.now.plain.a = omega arith in
    let filled : length c.resize.new.self.items ≡ c.resize.new.self.len = omega (arith, c.resize.new.self.ok.0) in
    let whole : c.len-start.result + length c.run-ret.new.a ≡ c.resize.new.self.len
    = omega (arith, c.run-ret.auto.a, c.in_ok-resize.ensures.len, filled, ap length c.deref_mut.ensures.value, length-drop c.len-start.result c.deref_mut.result.now) in
    ap fractions_of (tail_written c.resize.new.self.items c.deref_mut.result.now old _ c.run-ret.new.a c.resize.new.self.len _ c.len-start.result c.deref_mut.ensures.value c.in_ok-resize.ensures.items start room filled whole)
    ∙ map-append fraction_of old c.run-ret.new.a
    ∙ ap (λ (t : List Fraction). fractions_of old ++ t) (sym (c.in_ok-outcome.ensures.tensor c.run-ret.new.a) ∙ ap tensor_of c.run-ret.ensures.meaning)

pub returns-in_err-outcome-clause-refusal : goal.returns-in_err-outcome-clause-refusal
returns-in_err-outcome-clause-refusal c =
    let p = err_from_is_err_and c.from_residual-in_err-outcome.result c.from_residual-in_err-outcome.ensures.1 in
    rw (p.1, p.2) (refused_as _ _ c.args.k _ c.run-ret.ensures.meaning (c.in_err-outcome.ensures.refusal c.run-ret.new.a))
