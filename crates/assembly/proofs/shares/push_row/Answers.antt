use Rattle.std.proofs.Common.{◌≡◌, ◌∙◌, true, false, ap, arith}
use Rattle.std.proofs.lemmas.Bool.Decides.{nat_tests}
use Rattle.algebra.specs.Fraction.{is_zero_fraction}
use Rattle.ratio.specs.Value.{fraction_of}
use Rattle.assembly.proofs.SharesLaws.{row_pushed, row_skipped}
use Rattle.assembly.proofs.shares.push_row.Goals as goal
use Rattle.assembly.proofs.shares.push_row.Goals.{then-not-is_zero+in_ok-push, else-not-is_zero}

pub loop-i-preserved : goal.loop-i-preserved
loop-i-preserved c =
    let zero = c.is_zero.ensures in
    elim c.if-not-is_zero.branch [
      | then-not-is_zero+in_ok-push w ↦
          let test = w.if-not-is_zero.true in
          let z : is_zero_fraction (fraction_of c.index-values-i.result) ≡ false = grind (arith, nat_tests) in
          row_pushed c.args.row c.args.cols.now c.args.values.now c.loop-i.i c.index-values-i.result c.loop-i.triples.items c.if-not-is_zero.triples.items _ (omega arith) (omega arith) c.index-values-i.is
          z (ap (λ v. v.items) w.triples-is ∙ w.in_ok-push.ensures.items) c.loop-i.invariant
      | else-not-is_zero w ↦
          let test = w.if-not-is_zero.false in
          let z : is_zero_fraction (fraction_of c.index-values-i.result) ≡ true = grind (arith, nat_tests) in
          row_skipped c.args.row c.args.cols.now c.args.values.now c.loop-i.i c.index-values-i.result c.loop-i.triples.items c.if-not-is_zero.triples.items _ (omega arith) (omega arith) c.index-values-i.is
          z (ap (λ v. v.items) w.triples-is) c.loop-i.invariant
    ]
