use Rattle.std.proofs.Common.{◌∙◌, sym, refl, ap₂, ℕ, List, ◌++◌, codes}
use Rattle.c_text.specs.Pieces.{text_of}
use Rattle.c_text.specs.Layout.{enum_pieces, signature_pieces, slots_pieces, tables_pieces, body_pieces}
use Rattle.c_text.proofs.Appended.{kept_behind, ok_behind}
use Rattle.c_text.proofs.Texts.{text_function}
use Rattle.c_text.proofs.print.print_function.Goals as goal

pub returns-clause-ok : goal.returns-clause-ok
returns-clause-ok c =
    let f = c.args.fun.now in
    let e : List ℕ = text_of (enum_pieces f) in
    let o : List ℕ = text_of (signature_pieces f.name ++ slots_pieces f) in
    let t : List ℕ = text_of (tables_pieces 0 c.as_slice.result.now) in
    let b : List ℕ = text_of (body_pieces 0 c.as_slice-2.result.now) in
    let z : List ℕ = codes "  return 0;\n}\n" in
    ok_behind _ _ _ _ e (o ++ (t ++ (b ++ z))) _ c.in_ok-print_enum.ensures.ok
    (ap₂ (λ ts bs. e ++ (o ++ (text_of (tables_pieces 0 ts) ++ (text_of (body_pieces 0 bs) ++ z)))) c.as_slice.ensures c.as_slice-2.ensures ∙ sym (text_function f))
    (ok_behind _ _ _ _ o (t ++ (b ++ z)) (o ++ (t ++ (b ++ z))) c.in_ok-print_opening.ensures.ok refl
    (ok_behind _ _ _ _ t (b ++ z) (t ++ (b ++ z)) c.in_ok-print_tables.ensures.ok refl (ok_behind _ _ _ _ b z (b ++ z) c.in_ok-print_body.ensures.ok refl c.print_text.ensures.ok)))

pub returns-clause-kept : goal.returns-clause-kept
returns-clause-kept c =
    kept_behind _ _ _ _ _ c.in_ok-print_enum.ensures.ok
    (kept_behind _ _ _ _ _ c.in_ok-print_opening.ensures.ok
    (kept_behind _ _ _ _ _ c.in_ok-print_tables.ensures.ok (kept_behind _ _ _ _ _ c.in_ok-print_body.ensures.ok c.print_text.ensures.kept)))
