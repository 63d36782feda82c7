use Rattle.std.proofs.Common.{◌≡◌, ◌++◌, [], ◌∷◌, sym, ◌∙◌, ap, refl, append_assoc, append-nil}
use Rattle.monos.specs.Monomial.{monomials_of}
use Rattle.normal.specs.Monomials.{all_negative}
use Rattle.normal.proofs.MergedSteps.{no_items}
use Rattle.normal.proofs.ProductLists.{negative_goes_on}
use Rattle.normal.proofs.lists.negated.Goals as goal

pub loop-m-preserved : goal.loop-m-preserved
loop-m-preserved c = record {
  all = append_assoc c.loop-m.yielded (c.in-Some.m ∷ []) c.next.new.self.rest.items ∙ ap (λ xs. c.loop-m.yielded ++ xs) (sym (c.in-Some.ensures.steps).0) ∙ c.loop-m.invariant.all;
  value = negative_goes_on c.loop-m.yielded c.in-Some.m _ c.loop-m.all.items c.push.new.self.items c.in_ok-push.ensures.items c.neg.ensures refl c.loop-m.invariant.value;
}

pub returns : goal.returns
returns c =
    let all : c.loop-m.yielded ≡ c.args.ms.items = sym (append-nil c.loop-m.yielded) ∙ ap (λ xs. c.loop-m.yielded ++ xs) (no_items c.loop-m.m-iterator.rest.items c.loop-m.m-iterator.rest.len (sym (c.loop-m.m-iterator.rest.ok).0) (c.in-None.ensures.steps).0) ∙ c.loop-m.invariant.all in
    c.loop-m.invariant.value ∙ ap (λ xs. all_negative (monomials_of xs)) all
