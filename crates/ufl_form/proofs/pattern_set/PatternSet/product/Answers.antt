use Rattle.std.proofs.Common.{◌≡◌, ap, ap₂, ◌∙◌}
use Rattle.ufl_form.specs.declared.pattern_set.PatternSet.{PatternSet}
use Rattle.ufl_form.specs.Patterns.{united, test_added, trials_added, product}
use Rattle.ufl_form.proofs.pattern_set.PatternSet.product.Goals as goal

product_of : (a b r s u o p t q m : PatternSet) → r ≡ united s u → u ≡ united o t → s ≡ trials_added a.zero b → o ≡ test_added p → p ≡ trials_added a.one b
    → t ≡ test_added q → q ≡ test_added m → m ≡ trials_added a.more b → r ≡ product a b
unfolding product
product_of a b r s u o p t q m hr hu hs ho hp ht hq hm =
    hr ∙ ap₂ united hs (hu ∙ ap₂ united (ho ∙ ap test_added hp) (ht ∙ ap test_added (hq ∙ ap test_added hm)))

pub returns : goal.returns
returns c =
    product_of c.args.self c.args.other _ _ _ _ _ _ _ _ c.united-2.ensures c.united.ensures c.trials_added-same.ensures c.test_added-once.ensures c.trials_added.ensures
    c.test_added-twice.ensures c.test_added.ensures c.trials_added-2.ensures
