use Rattle.std.proofs.Common.{◌≡◌, inr, List, [], ◌∷◌, Result, Ok, Err, sym, ap, subst, ◌∙◌}
use Rattle.std.proofs.lemmas.Result.{err_from_is_err_and}
use Rattle.ufl_values.specs.declared.refusal.Reason.{Reason}
use Rattle.ufl_values.specs.declared.value.Value.{Value}
use Rattle.ufl_values.specs.declared.value.Value.TheVariants as v
use Rattle.ufl_values.specs.Answer.{Answers, and_then}
use Rattle.ufl_calls.specs.Groups.{grouped}
use Rattle.ufl_calls.specs.Forms.{pair_of}
use Rattle.ufl_calls.proofs.form_calls.pair.Goals as goal

grouped_then : (a b : Value) (found : Result (List Value) Reason) → found ≡ grouped (a ∷ (b ∷ [])) → pair_of a b ≡ and_then found (λ vs. Ok (v.Tuple vs))
grouped_then a b found e = ap (λ r. and_then r (λ vs. Ok (v.Tuple vs))) (sym e)

refused : (a b : Value) (result : Result Value Reason) (r k : Reason) → result ≡ Err r → r ≡ k → Err k ≡ grouped (a ∷ (b ∷ [])) → Answers result (pair_of a b)
refused a b result r k e same g = subst (λ x. Answers x (pair_of a b)) (sym (e ∙ ap Err same)) (inr (grouped_then a b (Err k) g))

pub returns-in_err-finish : goal.returns-in_err-finish
returns-in_err-finish c =
    let p = err_from_is_err_and c.from_residual-in_err-finish.result c.from_residual-in_err-finish.ensures.1 in
    refused c.args.a c.args.b c.from_residual-in_err-finish.result _ c.in_err-finish.field-0.0 p.1 p.2
    (c.in_err-finish.ensures (c.args.a ∷ (c.args.b ∷ [])) (c.in_ok-push-2.ensures (c.args.a ∷ []) (c.in_ok-push.ensures [] c.new-both.ensures)))

pub returns : goal.returns
returns c =
    grouped_then c.args.a c.args.b (Ok c.in_ok-finish.field-0)
    (c.in_ok-finish.ensures (c.args.a ∷ (c.args.b ∷ [])) (c.in_ok-push-2.ensures (c.args.a ∷ []) (c.in_ok-push.ensures [] c.new-both.ensures)))
