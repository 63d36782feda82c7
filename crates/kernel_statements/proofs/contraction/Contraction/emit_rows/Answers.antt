use Rattle.std.proofs.Common.{◌≡◌, ℕ, suc, ◌-◌, ◌<◌, ◌++◌, ◌∷◌, [], true, false, sym, ap, ap₂, ◌∙◌, arith}
use Rattle.std.proofs.lemmas.Result.{on_ok_weaker}
use Rattle.c_unit.specs.Meaning.{fractions_of}
use Rattle.kernel_runs.specs.Planned.{rows_code, rows_part, straight_rows}
use Rattle.kernel_statements.specs.Emitted.{cut}
use Rattle.kernel_statements.specs.Statements.{row_list}
use Rattle.kernel_statements.proofs.BodyLaws.{cut_length}
use Rattle.kernel_statements.proofs.contraction.Contraction.emit_rows.Goals as goal

one_back : (n : ℕ) → 0 < n → n ≡ suc (n - 1)
one_back n h = omega arith

pub returns-then-is_short : goal.returns-then-is_short
returns-then-is_short c =
    let k = c.args.self.now in
    let straight = sym c.is_short.ensures ∙ c.if-is_short.true in
    on_ok_weaker c.emit_straight.result (λ e.
    e ∙ ap₂ (λ xs n. c.args.body.now ++ straight_rows 32 c.args.values c.args.at c.args.table n 0 (cut k.columns k.rows (fractions_of xs)))
    c.as_slice.ensures.value (one_back k.columns c.requires.some)
    ∙ ap (λ b. c.args.body.now ++ rows_part b 32 c.args.values c.args.at c.args.table (k.columns - 1) (row_list k)) (sym straight)) c.emit_straight.ensures

pub returns-else-is_short : goal.returns-else-is_short
returns-else-is_short c =
    let k = c.args.self.now in
    let looped = sym c.is_short.ensures ∙ c.if-is_short.false in
    on_ok_weaker c.emit_looped.result (λ e.
    e ∙ ap (λ n. c.args.body.now ++ rows_code 32 c.args.values c.args.at c.args.table n (k.columns - 1) ∷ []) (sym (cut_length k.columns k.rows (fractions_of k.items.items)))
    ∙ ap (λ b. c.args.body.now ++ rows_part b 32 c.args.values c.args.at c.args.table (k.columns - 1) (row_list k)) (sym looped)) c.emit_looped.ensures
