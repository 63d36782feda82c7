use Rattle.std.proofs.Common.{◌≡◌, Result, Ok, sym, subst, inr, arith}
use Rattle.std.specs.Prelude.{IfOk, IfErr}
use Rattle.algebra.specs.Fraction.{Fraction}
use Rattle.mesh_in.specs.MeshData.{MeshData, fractions}
use Rattle.mesh_in.specs.Reader.{Fails}
use Rattle.mesh_in.specs.declared.refusal.MeshRefusal.{MeshRefusal}
use Rattle.mesh_in.proofs.ReadingLemmas.{long_text, short_text}
use Rattle.mesh_in.proofs.read.read.Goals as goal

pub returns-then-text-clause-err : goal.returns-then-text-clause-err
returns-then-text-clause-err c = inr (long_text c.args.text.now (omega arith))

pub returns-clause-ok : goal.returns-clause-ok
returns-clause-ok c =
    let P : Result (MeshData Fraction) MeshRefusal → Type 0 = λ m. IfOk c.read_lines.result (λ r. m ≡ Ok (fractions r.0)) in
    subst P (sym (short_text c.args.text.now (omega arith))) c.read_lines.ensures.ok

pub returns-clause-err : goal.returns-clause-err
returns-clause-err c =
    let P : Result (MeshData Fraction) MeshRefusal → Type 0 = λ m. IfErr c.read_lines.result (λ e. Fails e m) in
    subst P (sym (short_text c.args.text.now (omega arith))) c.read_lines.ensures.err
