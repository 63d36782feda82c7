use Rattle.std.proofs.Common.{[], refl, sym, ap, ◌∙◌}
use Rattle.std.proofs.lemmas.Result.{err_from_is_err_and}
use Rattle.std.specs.Option.{option_copied}
use Rattle.mesh_in.specs.MeshData.{fractions}
use Rattle.assembly.specs.Assembly.{assembly_of, row_count}
use Rattle.ffc.specs.Forms.{problem_of, occurring_of}
use Rattle.ffc.proofs.ValuesLaws.{prepared, no_values, run_refused, pushed_sums, pushed_text, pushed_refusal}
use Rattle.ffc.proofs.values.values_text.Goals as goal

pub new-requires-2 : goal.new-requires-2
new-requires-2 c =
    let r = c.requires.admitted in
    let p = c.args.program.now in
    let n = c.args.named.now in
    let m = fractions c.args.mesh.now in
    let a = c.in_ok-assembly.assembly in
    let l = a.functions.layout in
    let funs = a.functions.functions in
    let test = option_copied c.as_ref.result in
    let trial = option_copied c.as_ref-2.result in
    let is = prepared p n m c.as_slice.result.now r.0 r.1 c.args.name.now l funs a.test a.trial test trial c.as_slice.ensures c.as_ref.ensures.value c.as_ref-2.ensures.value r.2
    c.in_ok-assembly.ensures.prepared in
    c.prepared.ensures.fits (problem_of p n m) (occurring_of p n) r.1 c.args.name.now l funs test trial is c.args.mesh.now refl [] tt

pub returns-in_err-rows-clause-refusal : goal.returns-in_err-rows-clause-refusal
returns-in_err-rows-clause-refusal c = λ k w admitted.
    let p = c.args.program.now in
    let n = c.args.named.now in
    let m = fractions c.args.mesh.now in
    let a = c.in_ok-assembly.assembly in
    let l = a.functions.layout in
    let funs = a.functions.functions in
    let test = option_copied c.as_ref.result in
    let trial = option_copied c.as_ref-2.result in
    let is = prepared p n m c.as_slice.result.now k w c.args.name.now l funs a.test a.trial test trial c.as_slice.ensures c.as_ref.ensures.value c.as_ref-2.ensures.value admitted
    c.in_ok-assembly.ensures.prepared in
    let s = assembly_of funs c.args.mesh.now test trial [] in
    let form = c.prepared.ensures.assembly (problem_of p n m) (occurring_of p n) w c.args.name.now l funs test trial is c.args.mesh.now refl [] (no_values p n m c.requires.without) in
    let e = err_from_is_err_and c.from_residual-in_err-rows.result c.from_residual-in_err-rows.ensures.1 in
    rw (e.1, e.2)
    (c.refusals.ensures.cause (problem_of p n m) (occurring_of p n) w s form c.in_err-rows.field-0.0 (run_refused s c.in_err-rows.field-0.0 c.in_err-rows.ensures.refusal))

pub returns-in_err-push_values-clause-refusal : goal.returns-in_err-push_values-clause-refusal
returns-in_err-push_values-clause-refusal c = λ k w admitted.
    let p = c.args.program.now in
    let n = c.args.named.now in
    let m = fractions c.args.mesh.now in
    let a = c.in_ok-assembly.assembly in
    let l = a.functions.layout in
    let funs = a.functions.functions in
    let test = option_copied c.as_ref.result in
    let trial = option_copied c.as_ref-2.result in
    let is = prepared p n m c.as_slice.result.now k w c.args.name.now l funs a.test a.trial test trial c.as_slice.ensures c.as_ref.ensures.value c.as_ref-2.ensures.value admitted
    c.in_ok-assembly.ensures.prepared in
    let s = assembly_of funs c.args.mesh.now test trial [] in
    let form = c.prepared.ensures.assembly (problem_of p n m) (occurring_of p n) w c.args.name.now l funs test trial is c.args.mesh.now refl [] (no_values p n m c.requires.without) in
    let e = err_from_is_err_and c.from_residual-in_err-push_values.result c.from_residual-in_err-push_values.ensures.1 in
    rw (e.1, e.2)
    (c.refusals.ensures.cause (problem_of p n m) (occurring_of p n) w s form c.in_err-push_values.field-0.0
    (pushed_refusal s c.in_ok-rows.rows c.in_ok-rows.ensures.rows c.in_err-push_values.field-0.0 c.in_ok-rows.ensures.few c.in_ok-rows.ensures.good c.in_err-push_values.ensures.refusal))

pub returns-clause-text : goal.returns-clause-text
returns-clause-text c =
    let r = c.requires.admitted in
    let p = c.args.program.now in
    let n = c.args.named.now in
    let m = fractions c.args.mesh.now in
    let a = c.in_ok-assembly.assembly in
    let l = a.functions.layout in
    let funs = a.functions.functions in
    let test = option_copied c.as_ref.result in
    let trial = option_copied c.as_ref-2.result in
    let is = prepared p n m c.as_slice.result.now r.0 r.1 c.args.name.now l funs a.test a.trial test trial c.as_slice.ensures c.as_ref.ensures.value c.as_ref-2.ensures.value r.2
    c.in_ok-assembly.ensures.prepared in
    let s = assembly_of funs c.args.mesh.now test trial [] in
    let form = c.prepared.ensures.assembly (problem_of p n m) (occurring_of p n) r.1 c.args.name.now l funs test trial is c.args.mesh.now refl [] (no_values p n m c.requires.without) in
    let g = c.in_ok-push_values.ensures.text in (
      g.0,
      c.values.ensures.triples (problem_of p n m) (occurring_of p n) r.1 s form c.in_ok-rows.ensures.good g.0 (pushed_sums s c.in_ok-rows.rows c.in_ok-rows.ensures.rows g.0 g.1),
      pushed_text s c.in_ok-rows.rows c.in_ok-rows.ensures.rows (problem_of p n m) (occurring_of p n) r.1 c.args.name.now c.args.name.now l funs c.rank.result
          c.column_count-columns.result c.new-text.result.items c.push_values.new.text.items g.0 is c.rank.ensures
          (c.column_count-columns.ensures ∙ ap row_count (c.as_ref-3.ensures.value ∙ sym c.as_ref-2.ensures.value)) c.new-text.ensures.items g.2,
    )

pub returns-clause-whole : goal.returns-clause-whole
returns-clause-whole c =
    let r = c.requires.admitted in
    let p = c.args.program.now in
    let n = c.args.named.now in
    let m = fractions c.args.mesh.now in
    let a = c.in_ok-assembly.assembly in
    let l = a.functions.layout in
    let funs = a.functions.functions in
    let test = option_copied c.as_ref.result in
    let trial = option_copied c.as_ref-2.result in
    let is = prepared p n m c.as_slice.result.now r.0 r.1 c.args.name.now l funs a.test a.trial test trial c.as_slice.ensures c.as_ref.ensures.value c.as_ref-2.ensures.value r.2
    c.in_ok-assembly.ensures.prepared in
    let s = assembly_of funs c.args.mesh.now test trial [] in
    let form = c.prepared.ensures.assembly (problem_of p n m) (occurring_of p n) r.1 c.args.name.now l funs test trial is c.args.mesh.now refl [] (no_values p n m c.requires.without) in
    let g = c.in_ok-push_values.ensures.text in
    c.values.ensures.whole (problem_of p n m) (occurring_of p n) r.1 s form c.in_ok-rows.ensures.few c.in_ok-rows.ensures.good g.0
    (pushed_sums s c.in_ok-rows.rows c.in_ok-rows.ensures.rows g.0 g.1)
