use Rattle.std.proofs.Common.{◌≡◌, ◌-◌, ◌+◌, ◌++◌, ◌∷◌, [], Some, Err, map, sym, ap, inr, ◌∙◌, arith}
use Rattle.std.proofs.lemmas.List.{map_push}
use Rattle.std.proofs.lemmas.Result.{err_from_is_err_and}
use Rattle.ratio.specs.Value.{fraction_of}
use Rattle.mesh_in.specs.Line.{words}
use Rattle.data_in.specs.DataText.{value}
use Rattle.data_in.specs.DataReading.{within, row_at, with_row}
use Rattle.data_in.specs.Reader.{remaining, behind_values}
use Rattle.data_in.proofs.StepLaws.{open_missing, none_missing, row_said, row_refused, value_row, value_next, no_value, one_value, behind_one, behind_none, behind_err}
use Rattle.data_in.proofs.read.read_values.Goals as goal

pub values-init : goal.values-init
values-init c = record {
  says = λ low.
      let all : c.args.count - 0 ≡ c.args.count = omega arith in
      behind_none (remaining c.args.lines.now (within low c.args.count))
      ∙ ap (λ k. behind_values [] (remaining c.args.lines.now (within low k))) (sym all)
      ∙ ap (λ vs. behind_values (map fraction_of vs) (remaining c.args.lines.now (within low (c.args.count - 0)))) (sym c.new-values.ensures.items);
  left = omega arith;
}

pub returns-in_err-line-clause-err : goal.returns-in_err-line-clause-err
returns-in_err-line-clause-err c =
    let p = err_from_is_err_and c.from_residual.result c.from_residual.ensures.1 in
    rw (p.1, p.2) (λ low.
    let place = within low (c.args.count - c.values.counter) in
    inr (c.values.invariant.says low
    ∙ behind_err (map fraction_of c.values.values.items) (remaining c.values.lines place) c.in_err-line.field-0.0 (c.in_err-line.ensures.refused place (open_missing low c.args.count c.values.counter c.values-test.true))))

pub returns-in_default-clause-err : goal.returns-in_default-clause-err
returns-in_default-clause-err c = λ low.
    let i = c.values.counter in
    let line = c.in_ok-line.line in
    let place = within low (c.args.count - i) in
    let row = value_row low c.args.count i line.number (words line.text.now) c.values-test.true ∙ no_value (words line.text.now) c.in_default.ensures in
    inr (c.values.invariant.says low
    ∙ behind_err (map fraction_of c.values.values.items) (remaining c.values.lines place) c.refused.result
    (c.in_ok-line.ensures.found place ∙ row_refused line.number place (row_at place line.number (words line.text.now)) (λ q. remaining c.row.new.self q) row ∙ sym (ap Err c.refused.ensures)))

pub values-preserved : goal.values-preserved
values-preserved c = record {
  says = λ low.
      let i = c.values.counter in
      let line = c.in_ok-line.line in
      let x = fraction_of c.in-Some.value in
      let xs = map fraction_of c.values.values.items in
      let place = within low (c.args.count - i) in
      let row = value_row low c.args.count i line.number (words line.text.now) c.values-test.true ∙ one_value (words line.text.now) x c.in-Some.ensures in
      let pushed : map fraction_of c.push.new.self.items ≡ xs ++ x ∷ [] = rw c.in_ok-push.ensures.items (map_push fraction_of c.values.values.items c.in-Some.value) in
      c.values.invariant.says low
      ∙ ap (behind_values xs)
      (c.in_ok-line.ensures.found place
      ∙ row_said line.number place (row_at place line.number (words line.text.now)) (value x) (λ q. remaining c.row.new.self q) row
      ∙ ap (λ q. with_row (Some (value x)) (remaining c.row.new.self q)) (value_next low c.args.count i x))
      ∙ behind_one xs x (remaining c.row.new.self (within low (c.args.count - (i + 1))))
      ∙ ap (λ ys. behind_values ys (remaining c.row.new.self (within low (c.args.count - (i + 1))))) (sym pushed);
  left = omega (arith, c.in_ok-line.ensures.shorter, c.values.invariant.left);
}

pub returns-clause-ok : goal.returns-clause-ok
returns-clause-ok c = λ low.
    c.values.invariant.says low
    ∙ ap (λ p. behind_values (map fraction_of c.values.values.items) (remaining c.values.lines p)) (none_missing low c.args.count c.values.counter c.values-test.false)
