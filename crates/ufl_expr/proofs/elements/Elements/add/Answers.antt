use Rattle.std.proofs.Common.{◌∙◌, arith}
use Rattle.spaces.specs.Reading.{space_of}
use Rattle.ufl_tree.specs.Places.{table_of}
use Rattle.ufl_expr.proofs.ElementLaws.{found_at, found_within, kept_table, number_moved, added_new, longer_new, new_number, distinct_added, lawful_added, one_more}
use Rattle.ufl_expr.proofs.elements.Elements.add.Goals as goal

pub overflow_cast-result : goal.overflow_cast-result
overflow_cast-result c =
    let h = number_moved c.tree.result.now c.args.element c.as_slice.result.now c.args.self.now _ c.tree.ensures.same (c.as_slice.ensures ∙ c.self.view_is) c.in-Some.ensures in
    omega (arith, found_within c.in-Some.number (space_of c.args.element) c.args.self.now h, c.requires)

pub returns-in-Some-clause-number : goal.returns-in-Some-clause-number
returns-in-Some-clause-number c =
    let h = number_moved c.tree.result.now c.args.element c.as_slice.result.now c.args.self.now _ c.tree.ensures.same (c.as_slice.ensures ∙ c.self.view_is) c.in-Some.ensures in
    found_at c.in-Some.number (space_of c.args.element) (table_of c.args.self.now) h

pub returns-in-Some-clause-numbered : goal.returns-in-Some-clause-numbered
returns-in-Some-clause-numbered c =
    number_moved c.tree.result.now c.args.element c.as_slice.result.now c.args.self.now _ c.tree.ensures.same (c.as_slice.ensures ∙ c.self.view_is) c.in-Some.ensures

pub returns-in-Some-clause-table : goal.returns-in-Some-clause-table
returns-in-Some-clause-table c =
    let h = number_moved c.tree.result.now c.args.element c.as_slice.result.now c.args.self.now _ c.tree.ensures.same (c.as_slice.ensures ∙ c.self.view_is) c.in-Some.ensures in
    kept_table c.in-Some.number c.args.element c.args.self.now h

pub invariant_of-self-in-None : goal.invariant_of-self-in-None
invariant_of-self-in-None c =
    let h = number_moved c.tree.result.now c.args.element c.as_slice.result.now c.self.inside.items _ c.tree.ensures.same c.as_slice.ensures c.in-None.ensures in
    record {
      distinct = distinct_added c.args.element c.self.inside.items c.push.new.self h c.in_ok-push-in-None.ensures.ok c.self.invariant.distinct;
      lawful = lawful_added c.args.element c.self.inside.items c.push.new.self c.in_ok-push-in-None.ensures.ok c.self.invariant.lawful c.tree.ensures.lawful;
      few = one_more c.args.element c.self.inside.items c.args.self.now c.push.new.self c.in_ok-push-in-None.ensures.ok c.self.view_is c.requires;
    }

pub returns-in_ok-push-in-None-clause-number : goal.returns-in_ok-push-in-None-clause-number
returns-in_ok-push-in-None-clause-number c = added_new c.self.inside.items c.push.new.self c.args.element c.len-number.result c.in_ok-push-in-None.ensures.ok c.len-number.ensures

pub returns-in_ok-push-in-None-clause-numbered : goal.returns-in_ok-push-in-None-clause-numbered
returns-in_ok-push-in-None-clause-numbered c =
    let h = number_moved c.tree.result.now c.args.element c.as_slice.result.now c.args.self.now _ c.tree.ensures.same (c.as_slice.ensures ∙ c.self.view_is) c.in-None.ensures in
    new_number c.args.element c.self.inside.items c.args.self.now c.push.new.self c.len-number.result c.in_ok-push-in-None.ensures.ok c.self.view_is c.len-number.ensures h

pub returns-in_ok-push-in-None-clause-table : goal.returns-in_ok-push-in-None-clause-table
returns-in_ok-push-in-None-clause-table c =
    let h = number_moved c.tree.result.now c.args.element c.as_slice.result.now c.args.self.now _ c.tree.ensures.same (c.as_slice.ensures ∙ c.self.view_is) c.in-None.ensures in
    longer_new c.args.element c.self.inside.items c.args.self.now c.push.new.self c.in_ok-push-in-None.ensures.ok c.self.view_is h
