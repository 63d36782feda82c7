use Rattle.std.proofs.Common.{rules, ◌≡◌, ◌<◌, ◌≤◌, length, refl, sym, ◌∙◌, ap, subst, subst₂, IsPermutation}
use Rattle.std.proofs.Math.ListN.{set}
use Rattle.std.specs.Cmp.Lexicographic.{slice_cmp}
use Rattle.std.specs.List.Sorted.{IsSortedByKey}
use Rattle.std.specs.Ordering.{nat_cmp}
use Rattle.normal.specs.Order.{digits_of}
use Rattle.normal.specs.Monomials.{atoms_derived_at}
use Rattle.normal.proofs.DerivedLists.{derived_in_place}
use Rattle.normal.proofs.Sorting.{atoms_sorted}
use Rattle.monos.specs.Monomial.{derivatives}
use Rattle.normal.proofs.RoomLaws.{counted_in}
use Rattle.normal.proofs.lists.with_derivative.Goals as goal

pub returns-clause-value : goal.returns-clause-value
returns-clause-value c =
    let e : c.in_ok-atoms.atoms.items ≡ c.args.m.now.atoms = c.in_ok-atoms.ensures.items ∙ c.as_slice.ensures in
    let there : c.args.place < length c.in_ok-atoms.atoms.items = subst (λ xs. c.args.place < length xs) (sym e) c.requires.place in
    let changed : set c.in_ok-atoms.atoms.items c.args.place c.in-Some.atom ≡ atoms_derived_at c.args.direction c.args.m.now.atoms c.args.place =
    ap (set c.in_ok-atoms.atoms.items c.args.place) c.in-Some.ensures
    ∙ derived_in_place c.args.direction c.in_ok-atoms.atoms.items c.args.place c.index.result.now there c.index.ensures
    ∙ ap (λ xs. atoms_derived_at c.args.direction xs c.args.place) e in
    record { c = refl; atoms = subst₂ IsPermutation changed (sym c.from_vec.ensures) c.sort_unstable_by_key.ensures.permutation }

pub returns-clause-in_order : goal.returns-clause-in_order
returns-clause-in_order c =
    (subst (IsSortedByKey digits_of (slice_cmp nat_cmp)) (sym c.from_vec.ensures) (atoms_sorted _ c.sort_unstable_by_key.ensures.sorted (λ a r q k. search rules)), tt)

pub returns-in_default-clause-range : goal.returns-in_default-clause-range
returns-in_default-clause-range c =
    let e : c.in_ok-atoms.atoms.items ≡ c.args.m.now.atoms = c.in_ok-atoms.ensures.items ∙ c.as_slice.ensures in
    let there : c.args.place < length c.in_ok-atoms.atoms.items = subst (λ xs. c.args.place < length xs) (sym e) c.requires.place in
    λ q. subst (λ xs. 255 ≤ derivatives xs) e (counted_in c.in_ok-atoms.atoms.items c.args.place c.index.result.now c.args.direction there c.index.ensures c.requires.direction c.in_default.ensures)
