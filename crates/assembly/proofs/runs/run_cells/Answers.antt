use Rattle.std.proofs.Common.{◌≡◌, ◌∙◌, ◌++◌, List, ap, sym, subst, refl, arith, below_more}
use Rattle.std.proofs.lemmas.Result.{err_from_is_err_and}
use Rattle.algebra.specs.Fraction.{Fraction}
use Rattle.c_unit.specs.Meaning.{fractions_of}
use Rattle.assembly.specs.Run.{tensor_of, is_good}
use Rattle.assembly.specs.Assembly.{runs_of, fun_on, tensor_on, IsGoodOn}
use Rattle.assembly.specs.declared.funs.Funs.{Funs}
use Rattle.assembly.proofs.GatherLaws.{same_size, answer_is, refused_as, refused_first, run_more}
use Rattle.assembly.proofs.runs.run_cells.Goals as goal

pub run_cell-requires-clause-size : goal.run_cell-requires-clause-size
run_cell-requires-clause-size c =
    let f = c.args.f.now in
    subst (λ (g : Funs). (fun_on g c.cell-marker.result.marker).a ≡ g.plain.a) (sym c.loop-k.invariant.funs)
    (same_size f.plain.a f.marked.items c.cell-marker.result.marker f.plain refl c.requires.fit.marked)

pub returns-in_err-run_cell-clause-refusal : goal.returns-in_err-run_cell-clause-refusal
returns-in_err-run_cell-clause-refusal c =
    let s = runs_of c.args.f.now c.args.m.now c.args.coefs.now in
    let here = answer_is s c.loop-k.k c.cell-marker.result.marker c.loop-k.machines.funs.now c.deref.result.now c.deref-in-loop-k.result.now
    c.loop-k.invariant.funs c.cell-marker.ensures.marker
    (ap fractions_of c.deref.ensures.value ∙ c.in_ok-gather_coordinates.ensures) (ap fractions_of c.deref-in-loop-k.ensures.value ∙ c.in_ok-gather_values.ensures) in
    let p = err_from_is_err_and c.from_residual-in_err-run_cell.result c.from_residual-in_err-run_cell.ensures.1 in
    rw (p.1, p.2) (refused_first s c.loop-k.k _ c.requires.few (omega (arith, c.cells-cells.ensures)) c.loop-k.invariant.good
    (refused_as _ _ c.loop-k.k _ here c.in_err-run_cell.ensures.refusal))

pub loop-k-preserved : goal.loop-k-preserved
loop-k-preserved c =
    let s = runs_of c.args.f.now c.args.m.now c.args.coefs.now in
    let size = c.args.f.now.plain.a in
    let here = answer_is s c.loop-k.k c.cell-marker.result.marker c.loop-k.machines.funs.now c.deref.result.now c.deref-in-loop-k.result.now
    c.loop-k.invariant.funs c.cell-marker.ensures.marker
    (ap fractions_of c.deref.ensures.value ∙ c.in_ok-gather_coordinates.ensures) (ap fractions_of c.deref-in-loop-k.ensures.value ∙ c.in_ok-gather_values.ensures) in
    let funs : c.run_cell.new.machines.funs.now ≡ c.args.f.now = ap (λ r. r.now) c.run_cell.ensures.funs ∙ c.loop-k.invariant.funs in
    let same : c.loop-k.machines.funs.now.plain.a ≡ size = ap (λ (f : Funs). f.plain.a) c.loop-k.invariant.funs in
    record {
      funs = funs;
      machines = c.run_cell.ensures.machines;
      size = omega (arith, c.in_ok-run_cell.ensures.size, c.loop-k.invariant.size, same);
      values = run_more size c.loop-k.k (tensor_on s) c.loop-k.values.items c.run_cell.new.values.items
          (c.in_ok-run_cell.ensures.values ∙ ap (λ (t : List Fraction). fractions_of c.loop-k.values.items ++ t) (ap tensor_of here))
          c.loop-k.invariant.size (omega (arith, c.in_ok-run_cell.ensures.size, same)) c.loop-k.invariant.values;
      good = below_more (IsGoodOn s) c.loop-k.k c.loop-k.invariant.good (sym (ap is_good here) ∙ c.in_ok-run_cell.ensures.good);
    }
