use Rattle.std.proofs.Common.{◌≡◌, true, false, ◌&&◌, ◌∙◌, ◌<◌, ◌*◌, length, sym, ap, take, drop, arith}
use Rattle.std.specs.Prelude.{nat_eq}
use Rattle.std.specs.Ordering.{int_eq}
use Rattle.std.specs.Cmp.Lexicographic.{pointwise}
use Rattle.ratio.specs.declared.reduced.Ratio.{Ratio}
use Rattle.kernel_statements.proofs.FoundLaws.{equal_rows, place_here, place_later, place_none}
use Rattle.kernel_statements.proofs.counted.CountedRows.place.Goals as goal

pub returns-then-eq : goal.returns-then-eq
returns-then-eq c found row h w z e =
    let test : c.eq.result ≡ pointwise (λ (x y : Ratio). int_eq x.n y.n && nat_eq x.d y.d) c.piece.result.now c.args.shape.now = c.eq.ensures in
    let below : c.loop-k.k < length c.args.self.now.leading.items = omega (arith, c.count-k-end.ensures, c.loop-k-test.true) in
    place_here found c.args.self.now c.loop-k.k c.piece.result.now c.args.shape.now row h below
    (c.piece.ensures ∙ ap (λ xs. take c.args.self.now.width (drop (c.loop-k.k * c.args.self.now.width) xs)) c.as_slice.ensures.value) z e
    ((equal_rows c.piece.result.now c.args.shape.now).0 (sym test ∙ c.if-eq.true))
    ∙ sym (c.loop-k.invariant found row h w z e)

pub loop-k-preserved : goal.loop-k-preserved
loop-k-preserved c found row h w z e =
    let test : c.eq.result ≡ pointwise (λ (x y : Ratio). int_eq x.n y.n && nat_eq x.d y.d) c.piece.result.now c.args.shape.now = c.eq.ensures in
    let below : c.loop-k.k < length c.args.self.now.leading.items = omega (arith, c.count-k-end.ensures, c.loop-k-test.true) in
    c.loop-k.invariant found row h w z e
    ∙ place_later found c.args.self.now c.loop-k.k c.piece.result.now c.args.shape.now row h below
    (c.piece.ensures ∙ ap (λ xs. take c.args.self.now.width (drop (c.loop-k.k * c.args.self.now.width) xs)) c.as_slice.ensures.value) z e
    (λ q. apart (sym c.if-eq.false ∙ test ∙ (equal_rows c.piece.result.now c.args.shape.now).1 q))
  where
    apart : false ≡ true → ⊥
    apart e = cc
