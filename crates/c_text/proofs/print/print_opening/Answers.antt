use Rattle.std.proofs.Common.{ap, ℕ, List, ◌++◌, codes, decimal}
use Rattle.c_text.specs.Layout.{indent}
use Rattle.c_text.proofs.Appended.{ok_as}
use Rattle.c_text.proofs.print.print_opening.Goals as goal

pub returns-clause-ok : goal.returns-clause-ok
unfolding indent
returns-clause-ok c =
    let t : List ℕ = decimal c.args.fun.now.t in
    let a : List ℕ = decimal c.args.fun.now.a in
    let rest : List ℕ = codes "(const fr *X, const fr *W, fr *A)\n{\n  fr T[" ++ (t ++ (codes "];\n  fr_clear(T, " ++ (t ++ (codes ");\n  fr_clear(A, " ++ (a ++ codes ");\n"))))) in
    ok_as _ _ _ _ _ (ap (λ n. codes "int " ++ (n ++ rest)) c.as_slice.ensures) c.print_parts.ensures.ok
