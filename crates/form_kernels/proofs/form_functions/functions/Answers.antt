use Rattle.std.proofs.Common.{◌∙◌, sym, subst}
use Rattle.ufl_form.specs.Reading.{form_of}
use Rattle.ufl_tree.specs.Places.{table_of}
use Rattle.monos.specs.Layout.{IsLawfulOn}
use Rattle.form_kernels.specs.Kernels.{plain_name}
use Rattle.form_kernels.proofs.FunLaws.{form_functions, marked_again, markers_named}
use Rattle.form_kernels.proofs.PartLaws.{renamed}
use Rattle.form_kernels.proofs.form_functions.functions.Goals as goal

pub function-requires : goal.function-requires
function-requires c = record {
  numbers = c.args.coefficients.now;
  f = form_of c.args.form.now;
  k = c.requires.0;
  w = c.requires.1;
  are = c.in_ok-parts.ensures c.requires.0 c.requires.1 c.requires.2;
}

pub marked_functions-requires : goal.marked_functions-requires
marked_functions-requires c = record {
  numbers = c.args.coefficients.now;
  f = form_of c.args.form.now;
  k = c.requires.0;
  w = c.requires.1;
  are = c.in_ok-parts.ensures c.requires.0 c.requires.1 c.requires.2;
}

pub returns-clause-layout : goal.returns-clause-layout
returns-clause-layout c = λ k w h.
    let are = c.in_ok-parts.ensures k w h in record { is = are.layout; lawful = subst (IsLawfulOn k.cell) (sym are.layout) are.on_cell }

pub returns-clause-functions : goal.returns-clause-functions
returns-clause-functions c = λ k w h.
    let T = table_of c.args.elements.now in
    let numbers = c.args.coefficients.now in
    let f = form_of c.args.form.now in
    let are = c.in_ok-parts.ensures k w h in
    form_functions T numbers f k w c.args.name.now c.in_ok-named.named.items
    (markers_named T f _ c.in_ok-parts.parts.integrands.items c.in_ok-named.named.items c.in_ok-named.ensures c.as_slice-2.ensures.value are.integrands) _
    (renamed T numbers f k w _ _ (plain_name c.args.name.now) _ (c.in_ok-plain.ensures numbers f k w are) (c.as_slice.ensures.value ∙ c.in_ok-own_name.ensures))
    (marked_again T numbers f k w c.args.name.now _ c.in_ok-named.named.items _ (c.in_ok-marked.ensures numbers f k w are) c.as_slice-3.ensures.value)
