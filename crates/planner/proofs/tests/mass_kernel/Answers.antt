use Rattle.std.proofs.Common.{sym, subst, ◌∙◌, ap}
use Rattle.spaces.specs.declared.cell.Cell.TheVariants.{Interval}
use Rattle.monos.specs.Layout.{IsLawfulLayout}
use Rattle.monos.specs.Monomial.{monomials_of}
use Rattle.planner.proofs.ExampleLaws.{arguments_as, linear_lawful, mass_arguments, mass_weighed, within_as}
use Rattle.planner.proofs.tests.mass_kernel.Goals as goal

pub plan-requires-clause-layout : goal.plan-requires-clause-layout
plan-requires-clause-layout c = subst IsLawfulLayout (sym c.in_ok-l.ensures) (linear_lawful Interval)

pub plan-requires-clause-weight : goal.plan-requires-clause-weight
plan-requires-clause-weight c = within_as _ _ _ c.in_ok-l.ensures c.weight_of_mass.ensures (ap monomials_of c.as_slice.ensures.value ∙ c.in_ok-monos.ensures) mass_weighed

pub plan-requires-clause-arguments : goal.plan-requires-clause-arguments
plan-requires-clause-arguments c = arguments_as _ _ c.in_ok-l.ensures (ap monomials_of c.as_slice.ensures.value ∙ c.in_ok-monos.ensures) mass_arguments
