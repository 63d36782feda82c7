use Rattle.std.proofs.Common.{rules, ◌≡◌, ◌++◌, sym, ◌∙◌, ap₂, subst, subst₂, IsPermutation}
use Rattle.std.specs.Cmp.Lexicographic.{slice_cmp}
use Rattle.std.specs.List.Sorted.{IsSortedByKey}
use Rattle.std.specs.Ordering.{nat_cmp}
use Rattle.algebra.proofs.StepLaws.{product_value}
use Rattle.normal.specs.Order.{digits_of}
use Rattle.normal.proofs.Sorting.{atoms_sorted}
use Rattle.normal.proofs.lists.product.Goals as goal

pub returns-clause-value : goal.returns-clause-value
returns-clause-value c =
    let e : c.extend_from_slice.new.self.items ≡ c.args.m.now.atoms ++ c.args.n.now.atoms =
    c.in_ok-extend_from_slice.ensures.items ∙ ap₂ ◌++◌ (c.in_ok-atoms.ensures.items ∙ c.as_slice.ensures) c.as_slice-2.ensures in
    record {
      c = product_value _ _ _ (sym c.in-Some.ensures);
      atoms = subst₂ IsPermutation e (sym c.from_vec.ensures) c.sort_unstable_by_key.ensures.permutation;
    }

pub returns-clause-in_order : goal.returns-clause-in_order
returns-clause-in_order c =
    (subst (IsSortedByKey digits_of (slice_cmp nat_cmp)) (sym c.from_vec.ensures) (atoms_sorted _ c.sort_unstable_by_key.ensures.sorted (λ a r q k. search rules)), tt)
