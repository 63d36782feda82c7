use Rattle.std.proofs.Common.{◌≡◌, ◌∙◌, ap, ap₂, sym, refl, ◌∷◌, ◌++◌, length, set, get_or, take, ◌-◌, arith}
use Rattle.c_run.specs.Busy.{entry}
use Rattle.c_run.proofs.Listed.{nothing_inside, some_inside, at_seam}
use Rattle.c_run.proofs.busy.close.Goals as goal

pub returns-else-inside-eq0 : goal.returns-else-inside-eq0
returns-else-inside-eq0 c = λ front e inside all at.
    let items = c.args.busy.now.items in
    let index : c.index.result.now.index ≡ e.index
    = ap (λ x. x.index) (c.index.ensures ∙ ap₂ (λ l n. get_or l n c.index.result.now) all (sym at) ∙ at_seam front e c.index.result.now inside) in
    let some : length (front ++ e ∷ inside) - c.args.at - 1 ≡ 0 → ⊥ = λ z. c.if-inside-eq0.false (omega (arith, c.len.ensures, ap length all, z)) in
    let size : c.len.result ≡ length (front ++ e ∷ inside) = omega (arith, c.len.ensures, ap length all) in
    ap₂ (λ n m. set items c.args.at (entry n (m - c.args.at - 1))) index size
    ∙ ap (λ l. set l c.args.at (entry e.index (length (front ++ e ∷ inside) - c.args.at - 1))) all
    ∙ some_inside front e inside c.args.at at some

pub returns-then-inside-eq0 : goal.returns-then-inside-eq0
returns-then-inside-eq0 c = λ front e inside all at.
    c.truncate.ensures.items ∙ ap (λ l. take c.args.at l) all
    ∙ nothing_inside front e inside c.args.at at (omega (arith, c.len.ensures, ap length all, c.if-inside-eq0.true))
