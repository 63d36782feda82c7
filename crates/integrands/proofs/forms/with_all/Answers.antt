use Rattle.std.proofs.Common.{◌≡◌, ◌++◌, [], ◌∷◌, map, sym, ◌∙◌, ap, append_assoc, append-nil}
use Rattle.integrands.specs.Integrands.{integrands_of, with_body}
use Rattle.integrands.specs.Flattening.{under}
use Rattle.integrands.proofs.FlatteningLaws.{no_items, under_behind}
use Rattle.integrands.proofs.forms.with_all.Goals as goal

pub loop-one-preserved : goal.loop-one-preserved
loop-one-preserved c = record {
  all = append_assoc c.loop-one.yielded (c.in-Some.one ∷ []) c.next.new.self.rest.items ∙ ap (λ xs. c.loop-one.yielded ++ xs) (sym (c.in-Some.ensures.steps).0) ∙ c.loop-one.invariant.all;
  value = under_behind c.args.operator (integrands_of c.args.found.items) c.loop-one.yielded c.in-Some.one _ c.loop-one.all.items c.push.new.self.items c.in_ok-push.ensures.items c.in_ok-under.ensures.tree c.loop-one.invariant.value;
}

pub returns : goal.returns
returns c =
    let all : c.loop-one.yielded ≡ c.args.others.items = sym (append-nil c.loop-one.yielded) ∙ ap (λ xs. c.loop-one.yielded ++ xs) (no_items c.loop-one.one-iterator.rest.items c.loop-one.one-iterator.rest.len (sym (c.loop-one.one-iterator.rest.ok).0) (c.in-None.ensures.steps).0) ∙ c.loop-one.invariant.all in
    c.loop-one.invariant.value ∙ ap (λ xs. integrands_of c.args.found.items ++ map (with_body (under c.args.operator)) (integrands_of xs)) all
