use Rattle.std.proofs.Common.{◌∙◌, refl, sym, ap, ap₂, ℕ, List, ◌++◌, codes}
use Rattle.c_text.specs.Pieces.{text_of, bytes_of}
use Rattle.c_text.specs.Layout.{one_pieces, body_pieces, place_pieces, value_pieces, indent}
use Rattle.c_text.specs.Parts.{header_bytes}
use Rattle.c_text.proofs.Appended.{on_err, extends_behind, ok_as, ok_behind, goes_on}
use Rattle.c_text.proofs.Texts.{text_call, text_test, text_inverse, text_load, text_loop, text_body_next}
use Rattle.c_text.proofs.print.+printer.Goals as goal

pub print_body-returns-in_err-print_statement-clause-kept : goal.print_body-returns-in_err-print_statement-clause-kept
print_body-returns-in_err-print_statement-clause-kept t c = on_err _ (extends_behind _ _ _ _ c.loop-statement.invariant.1 c.in_err-print_statement.ensures.kept)

pub print_body-loop-statement-preserved : goal.print_body-loop-statement-preserved
print_body-loop-statement-preserved t c =
    goes_on _ _ _ _ _ _ _ _ c.loop-statement.invariant.1 c.loop-statement.invariant.2
    (text_body_next c.args.depth c.args.body.now c.loop-statement.statement-index c.statement-item.result c.loop-statement-test.true c.statement-item.is)
    c.in_ok-print_statement.ensures.ok

pub print_statement-returns-in-Set-clause-ok : goal.print_statement-returns-in-Set-clause-ok
print_statement-returns-in-Set-clause-ok t c = ok_as _ _ _ _ _ (sym (ap (λ s. text_of (one_pieces c.args.depth s)) c.in-Set.is ∙ text_call c.args.depth (codes "fr_set") c.in-Set.to (value_pieces c.in-Set.value))) c.print_call.ensures.ok

pub print_statement-returns-in-Copy-clause-ok : goal.print_statement-returns-in-Copy-clause-ok
print_statement-returns-in-Copy-clause-ok t c = ok_as _ _ _ _ _ (sym (ap (λ s. text_of (one_pieces c.args.depth s)) c.in-Copy.is ∙ text_call c.args.depth (codes "fr_copy") c.in-Copy.to (place_pieces c.in-Copy.arg))) c.print_call-in-Copy.ensures.ok

pub print_statement-returns-in-Abs-clause-ok : goal.print_statement-returns-in-Abs-clause-ok
print_statement-returns-in-Abs-clause-ok t c = ok_as _ _ _ _ _ (sym (ap (λ s. text_of (one_pieces c.args.depth s)) c.in-Abs.is ∙ text_call c.args.depth (codes "fr_abs") c.in-Abs.to (place_pieces c.in-Abs.arg))) c.print_call-in-Abs.ensures.ok

pub print_statement-returns-in-Inv-clause-ok : goal.print_statement-returns-in-Inv-clause-ok
print_statement-returns-in-Inv-clause-ok t c = ok_as _ _ _ _ _ (sym (ap (λ s. text_of (one_pieces c.args.depth s)) c.in-Inv.is ∙ text_inverse c.args.depth c.in-Inv.to c.in-Inv.arg)) c.print_inverse.ensures.ok

pub print_statement-returns-in-Add-clause-ok : goal.print_statement-returns-in-Add-clause-ok
print_statement-returns-in-Add-clause-ok t c = ok_as _ _ _ _ _ (sym (ap (λ s. text_of (one_pieces c.args.depth s)) c.in-Add.is ∙ text_test c.args.depth (codes "fr_add") c.in-Add.to c.in-Add.left c.in-Add.right)) c.print_step_call.ensures.ok

pub print_statement-returns-in-Sub-clause-ok : goal.print_statement-returns-in-Sub-clause-ok
print_statement-returns-in-Sub-clause-ok t c = ok_as _ _ _ _ _ (sym (ap (λ s. text_of (one_pieces c.args.depth s)) c.in-Sub.is ∙ text_test c.args.depth (codes "fr_sub") c.in-Sub.to c.in-Sub.left c.in-Sub.right)) c.print_step_call-in-Sub.ensures.ok

pub print_statement-returns-in-Mul-clause-ok : goal.print_statement-returns-in-Mul-clause-ok
print_statement-returns-in-Mul-clause-ok t c = ok_as _ _ _ _ _ (sym (ap (λ s. text_of (one_pieces c.args.depth s)) c.in-Mul.is ∙ text_test c.args.depth (codes "fr_mul") c.in-Mul.to c.in-Mul.left c.in-Mul.right)) c.print_step_call-in-Mul.ensures.ok

pub print_statement-returns-in-Load-clause-ok : goal.print_statement-returns-in-Load-clause-ok
print_statement-returns-in-Load-clause-ok t c = ok_as _ _ _ _ _ (sym (ap (λ s. text_of (one_pieces c.args.depth s)) c.in-Load.is ∙ text_load c.args.depth c.in-Load.to c.in-Load.table c.in-Load.at)) c.print_load.ensures.ok

pub print_statement-returns-in_ok-print_body-in-For-clause-ok : goal.print_statement-returns-in_ok-print_body-in-For-clause-ok
print_statement-returns-in_ok-print_body-in-For-clause-ok t c =
    let d = c.args.depth in
    let close : List ℕ = bytes_of (indent d) ++ codes "}\n" in
    ok_behind _ _ _ _ _ _ _ c.in_ok-print_header-in-For.ensures.ok
    (ap₂ (λ e b. header_bytes d c.in-For.turns ++ (text_of (body_pieces e b) ++ close)) c.deeper.ensures c.as_slice.ensures
    ∙ sym (ap (λ s. text_of (one_pieces d s)) c.in-For.is ∙ text_loop d c.in-For.turns c.in-For.body))
    (ok_behind _ _ _ _ _ _ _ c.in_ok-print_body-in-For.ensures.ok refl c.print_parts.ensures.ok)
