use Rattle.std.proofs.Common.{◌∙◌, sym, ap, codes, Ok, [], ◌∷◌, ◌++◌, arith}
use Rattle.c_text.specs.Stream.{◌>>=◌, is_ahead, repeat}
use Rattle.c_text.specs.Fractions.{further_item_at, add_item}
use Rattle.c_text.specs.Parser.{stream}
use Rattle.c_text.proofs.ReadLaws.{gives_err, fails_through}
use Rattle.c_text.proofs.Repeats.{one_more, none_more, all_read, some_ahead}
use Rattle.c_text.proofs.parser.Parser.further_items.Goals as goal

pub returns-then-not-next_is-clause-read : goal.returns-then-not-next_is-clause-read
returns-then-not-next_is-clause-read c = all_read (is_ahead (codes ",")) add_item _ _ _ _ c.all.invariant.read.2 (sym c.next_is.ensures ∙ c.if-not-next_is.true)

pub returns-in_err-item-clause-read : goal.returns-in_err-item-clause-read
returns-in_err-item-clause-read c =
    let test = sym c.next_is.ensures ∙ c.if-not-next_is.false in
    gives_err (λ x. x) c.from_residual.result c.in_err-item.field-0.0 _ _ c.from_residual.ensures.0 c.from_residual.ensures.1
    (none_more c.in_err-item.field-0.0 (is_ahead (codes ",")) add_item _ _ _ _ _ (some_ahead (stream c.all.self) _ _ test) c.all.invariant.read.1 c.all.invariant.read.2 test
    (fails_through c.in_err-item.field-0.0 (further_item_at (stream c.all.self)) _ c.in_err-item.ensures.read))

pub all-preserved : goal.all-preserved
all-preserved c =
    let test = sym c.next_is.ensures ∙ c.if-not-next_is.false in
    let r = one_more (is_ahead (codes ",")) add_item _ _ _ _ c.all.items _ _ c.all.invariant.read.1 c.in_ok-item.ensures.shorter c.all.invariant.read.2 test
    (ap (λ r. r >>= λ x. Ok (c.all.items ++ x.0 ∷ [], x.1)) c.in_ok-item.ensures.read) in
    record {
      shorter = omega (arith, c.all.invariant.shorter, c.in_ok-item.ensures.shorter);
      read = (r.0, r.1, r.2 ∙ ap (λ ts. repeat (is_ahead (codes ",")) add_item r.0 ts (stream c.further_item.new.self)) (sym c.in_ok-push.ensures.ok));
    }
