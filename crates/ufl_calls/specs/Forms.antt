-- Calls that give forms of forms
use Rattle.std.specs.Prelude.{◌==◌, if◌then◌else◌, length, List, [], ◌∷◌, Result, Ok, Err}
use Rattle.ufl_tree.specs.declared.function.Function.{Function}
use Rattle.ufl_tree.specs.declared.function.Role.TheVariants.{Test, Trial}
use Rattle.ufl_tree.specs.Places.{Table}
use Rattle.ufl_form.specs.declared.form_tree.FormTree.{FormTree}
use Rattle.ufl_form.specs.declared.form_tree.FormTree.TheVariants as f
use Rattle.ufl_form.specs.declared.pattern_set.PatternSet.{PatternSet}
use Rattle.ufl_form.specs.Patterns.{has_test, has_trial}
use Rattle.ufl_form.specs.Reading.{form_of}
use Rattle.ufl_form.specs.Table.{form_patterns, last_of}
use Rattle.ufl_form.specs.Building.{formed, acted, derived}
use Rattle.ufl_values.specs.declared.refusal.Reason.{Reason}
use Rattle.ufl_values.specs.declared.refusal.Reason.TheVariants as r
use Rattle.ufl_values.specs.declared.value.Value.{Value}
use Rattle.ufl_values.specs.declared.value.Value.TheVariants as v
use Rattle.ufl_values.specs.Answer.{and_then, typed_as}
use Rattle.ufl_calls.specs.Arguments.{one_place, two_places, three_places}
use Rattle.ufl_calls.specs.Functions.{whole_function}
use Rattle.ufl_calls.specs.Groups.{grouped}

abbrev pub form_in : Value → Result FormTree Reason
form_in (v.Form t) = Ok t
form_in _ = Err r.Kind

abbrev pub only_form : List Value → Result FormTree Reason
only_form places = and_then (one_place places) form_in

abbrev pub left : List Value → Result Value Reason
left places = and_then (only_form places) (λ t. typed_as v.Form (formed (f.Left t)))

abbrev pub right : List Value → Result Value Reason
right places = and_then (only_form places) (λ t. typed_as v.Form (formed (f.Right t)))

abbrev pub pair_of : Value → Value → Result Value Reason
pair_of a b = and_then (grouped (a ∷ (b ∷ []))) (λ vs. Ok (v.Tuple vs))

abbrev pub left_side : FormTree → Result Value Reason
left_side t = typed_as v.Form (formed (f.Left t))

abbrev pub right_side : FormTree → Result Value Reason
right_side t = typed_as v.Form (formed (f.Right t))

abbrev pub pair_with : Value → Result Value Reason → Result Value Reason
pair_with a b = and_then b (λ c. pair_of a c)

-- the tuple of both sides
abbrev pub both_sides : FormTree → Result Value Reason
both_sides t = and_then (left_side t) (λ a. pair_with a (right_side t))

-- `system(F)`
abbrev pub system : List Value → Result Value Reason
system places = and_then (only_form places) both_sides

abbrev pub adjoint : List Value → Result Value Reason
adjoint places = and_then (only_form places) (λ t. typed_as v.Form (formed (f.Adjoint t)))

abbrev pub action_on : Value → Value → Result Value Reason
action_on a b =
    and_then (form_in a) (λ t. and_then (whole_function b) (λ g.
    typed_as v.Form (acted (last_of (form_patterns (form_of t))) t g)))

-- `action(F, f)`
abbrev pub action : List Value → Result Value Reason
action places = and_then (two_places places) (λ p. action_on p.0 p.1)

-- without a direction: the next argument, on the element of w; there may be no trial function yet
abbrev pub next_argument : PatternSet → Function → Result Function Reason
next_argument set w =
    if has_trial set then Err r.Kind else Ok (record { role = (if has_test set then Trial else Test); element = w.element })

abbrev pub derivative_along : Table → Value → Value → Value → Result Value Reason
derivative_along table a b c =
    and_then (form_in a) (λ t. and_then (whole_function b) (λ w. and_then (whole_function c) (λ du.
    typed_as v.Form (derived table t w du))))

abbrev pub next_derivative : Table → FormTree → Function → Result Value Reason
next_derivative table t w =
    and_then (next_argument (form_patterns (form_of t)) w) (λ du. typed_as v.Form (derived table t w du))

abbrev pub derivative_by : Table → Value → Value → Result Value Reason
derivative_by table a b = and_then (form_in a) (λ t. and_then (whole_function b) (λ w. next_derivative table t w))

abbrev pub derivative_of_three : Table → List Value → Result Value Reason
derivative_of_three table places = and_then (three_places places) (λ p. derivative_along table p.0 p.1 p.2)

abbrev pub derivative_of_two : Table → List Value → Result Value Reason
derivative_of_two table places = and_then (two_places places) (λ p. derivative_by table p.0 p.1)

-- `derivative(F, w, du)` and `derivative(F, w)`
abbrev pub derivative : Table → List Value → Result Value Reason
derivative table places =
    if length places == 3 then derivative_of_three table places else derivative_of_two table places
