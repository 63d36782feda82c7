use Rattle.std.proofs.Common.{◌≡◌, ℕ, ◌+◌, ◌^◌, List, [], map, sym, ap, ◌∙◌, subst}
use Rattle.std.proofs.lemmas.Result.{IfOk-weaker, on_ok_weaker}
use Rattle.refint.proofs.Lists.{map_map}
use Rattle.kernel_runs.specs.Strips.{from_last, in_turn}
use Rattle.kernel_runs.specs.Planned.{counts_after}
use Rattle.kernel_runs.specs.Body.{strip_of}
use Rattle.kernel_runs.specs.declared.digit.Digit.TheVariants.{Growth}
use Rattle.kernel_statements.specs.Emitted.{CountsFit}
use Rattle.kernel_statements.proofs.ColumnLaws.{all_at, all_code, all_count, grown_count, within_parts}
use Rattle.kernel_statements.proofs.columns.emit_columns.Goals as goal

pub emit_growths-requires-clause-few : goal.emit_growths-requires-clause-few
emit_growths-requires-clause-few c =
    let w = within_parts (2 ^ 20) 1 (strip_of c.args.d) c.args.coefficients.now (map (λ i. Growth i) c.args.directions.now) c.requires.few in
    subst (λ n. CountsFit c.args.d n (in_turn (map (λ i. Growth i) c.args.directions.now) [])) (sym c.first.ensures.count) w.0

pub emit_values-requires-clause-few : goal.emit_values-requires-clause-few
emit_values-requires-clause-few c =
    let w = within_parts (2 ^ 20) 1 (strip_of c.args.d) c.args.coefficients.now (map (λ i. Growth i) c.args.directions.now) c.requires.few in
    let grown = grown_count c.first.result c.in_ok-grown.grown (in_turn (map (λ i. strip_of c.args.d (Growth i)) c.args.directions.now) []) c.in_ok-grown.ensures.columns c.first.ensures.count in
    subst (λ n. CountsFit c.args.d n (from_last c.args.coefficients.now []))
    (ap (λ is. counts_after 1 (in_turn is [])) (map_map (strip_of c.args.d) (λ i. Growth i) c.args.directions.now) ∙ sym grown) w.1

pub returns-clause-at : goal.returns-clause-at
returns-clause-at c =
    IfOk-weaker c.emit_values.result _ _ (λ last e.
    all_at c.first.result c.in_ok-grown.grown last 33 (33 + c.args.buffers.columns) 20
    (in_turn (map (λ i. strip_of c.args.d (Growth i)) c.args.directions.now) [])
    (from_last (map (strip_of c.args.d) c.args.coefficients.now) []) c.in_ok-grown.ensures.columns
    c.first.ensures.next c.first.ensures.following c.first.ensures.at e) c.emit_values.ensures.columns

pub returns-clause-count : goal.returns-clause-count
returns-clause-count c =
    IfOk-weaker c.emit_values.result _ _ (λ last e.
    all_count c.first.result c.in_ok-grown.grown last
    (in_turn (map (λ i. strip_of c.args.d (Growth i)) c.args.directions.now) [])
    (from_last (map (strip_of c.args.d) c.args.coefficients.now) []) c.in_ok-grown.ensures.columns c.first.ensures.count e) c.emit_values.ensures.columns

pub returns-clause-code : goal.returns-clause-code
returns-clause-code c =
    on_ok_weaker c.emit_values.result (λ e.
    all_code c.first.result c.in_ok-grown.grown 33 (33 + c.args.buffers.columns) 20 _ _ c.args.body.now c.emit_growths.new.body c.emit_values.new.body
    c.in_ok-grown.ensures.columns c.first.ensures.next c.first.ensures.following c.first.ensures.at c.first.ensures.count c.in_ok-grown.ensures.code e)
    c.emit_values.ensures.code
