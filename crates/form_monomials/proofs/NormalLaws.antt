-- The monomials of the sum of a function's bodies
use Rattle.std.proofs.Common.{◌≡◌, ℕ, List, [], ◌∷◌, map, length, Option, sym, ◌∙◌, ap, arith}
use Rattle.ufl_tree.specs.declared.plain.Plain.{Plain}
use Rattle.ufl_tree.specs.Places.{Table}
use Rattle.ufl_tree.specs.Reading.{term_of}
use Rattle.ufl_tree.specs.Term.{Term}
use Rattle.ufl_meaning.specs.Density.{no_names}
use Rattle.monos.specs.Monomial.{Monomial}
use Rattle.monos.specs.declared.weight.Weight.{Weight}
use Rattle.weigh.specs.Bounds.{Bounds}
use Rattle.weigh.specs.Terms.{term_weight}
use Rattle.normal.specs.Bounding.{cost_of, HaveNumbers}
use Rattle.normal.specs.Gathering.{AddsUp, IsBounded, IsSafe}
use Rattle.normal.specs.Origins.{HasFunction, AllAtoms}
use Rattle.normal.proofs.NodeSums.{every_atom}
use Rattle.normal.proofs.SafeLaws.{admitted_safe}
use Rattle.normal.proofs.WeightLaws.{nothing_list}
use Rattle.integrands.specs.Integrands.{IntegrandTerm}
use Rattle.form_monomials.specs.Markers.{bodies_in}
use Rattle.form_monomials.specs.Monomials.{AreAdmitted, AddUp, AreBounded, HaveBoundedNumbers, HaveBodies}
use Rattle.form_monomials.specs.Sums.{IsSumOf}
use Rattle.form_monomials.proofs.ChoiceLaws.{bodies_mean, sum_expanded, sum_directions, sum_bounds}
use Rattle.form_monomials.proofs.SumLaws.{meanings, sum_means, sum_functions}

module _ (elements : Table) (marker : Option ℕ) (ps : List IntegrandTerm) where
  -- ---- a sum of some bodies
  module _ (e : Term) (s : IsSumOf e (bodies_in marker ps)) where
    pub function_safe : AreAdmitted elements ps → IsSafe elements e
    function_safe a =
        admitted_safe elements a.d a.within.positive a.w a.admitted e (sum_expanded marker e ps s a.within.expanded)
        (sum_directions marker elements a.d e ps s a.within.directions) (sum_bounds marker elements a.w e ps s a.within.weight)

    pub function_value : (ms : List Monomial) → AddsUp elements e no_names ms → AddUp elements ps marker ms
    function_value ms h env plain runs = h env plain ∙ sum_means elements env e (bodies_in marker ps) s ∙ bodies_mean marker elements ps env runs

    pub function_weight : (ms : List Monomial) → IsBounded elements e ms → AreBounded elements ps ms
    function_weight ms h d w x = h d x.positive (sum_directions marker elements d e ps s x.directions) w x.sound (sum_bounds marker elements w e ps s x.weight)

    pub function_numbers : (ms : List Monomial) → ((w : Weight) → Bounds w (term_weight elements e) → HaveNumbers elements w ms) → HaveBoundedNumbers elements ps ms
    function_numbers ms h d w x = h w (sum_bounds marker elements w e ps s x.weight)

    pub function_leaves : (ms : List Monomial) → AllAtoms (λ a. HasFunction a.f e) ms → AllAtoms (λ a. HaveBodies a.f (bodies_in marker ps)) ms
    function_leaves ms h = every_atom (λ a. HasFunction a.f e) (λ a. HaveBodies a.f (bodies_in marker ps)) (λ a k. sum_functions a.f e (bodies_in marker ps) s k) ms h

  -- ---- no body
  module _ (none : bodies_in marker ps ≡ []) where
    pub nothing_value : AddUp elements ps marker []
    nothing_value env plain runs = ap (meanings elements env) (sym none) ∙ bodies_mean marker elements ps env runs

  pub nothing_weight : AreBounded elements ps []
  nothing_weight d w x = nothing_list (cost_of elements) d w

  pub nothing_numbers : HaveBoundedNumbers elements ps []
  nothing_numbers d w x = tt

pub no_bodies : (xs : List Plain) (es : List Term) → length xs ≡ 0 → map term_of xs ≡ es → es ≡ []
no_bodies [] es h e = sym e
no_bodies (x ∷ xs) es h e = absurd (omega (arith, h))
