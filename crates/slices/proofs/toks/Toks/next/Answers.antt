use Rattle.std.proofs.Common.{◌≡◌, ◌-◌, sym, ◌∙◌, ap, subst, ℕ, ◌<◌, length, take, drop, get_or, IsTrue}
use Rattle.slices.specs.White.{is_white}
use Rattle.slices.specs.Tokens.{Reader, rest_of, next_of, finished, no_token}
use Rattle.slices.proofs.White.{white_gap_at}
use Rattle.slices.proofs.Next.{ends, lost, found}
use Rattle.slices.proofs.toks.Toks.next.Goals as goal

pub returns-then-is_empty-clause-step : goal.returns-then-is_empty-clause-step
returns-then-is_empty-clause-step c =
    let p = ends c.self.inside.text.now c.self.inside.at c.self.inside.line c.past_white-at.result.0 c.past_white-at.result.1 c.past_white-at.ensures.left (sym c.is_empty.ensures ∙ c.if-is_empty.true) in
    (subst (λ (r : Reader). next_of (rest_of r) ≡ finished) c.self.view_is p.0, p.1)

pub returns-in_default-clause-step : goal.returns-in_default-clause-step
returns-in_default-clause-step c =
    let p = lost c.self.inside.text.now c.self.inside.at c.self.inside.line c.past_white-at.result.0 c.past_white-at.result.1 c.past_white-at.ensures.left (sym c.is_empty.ensures ∙ c.if-is_empty.false) (sym c.c_token.ensures.value ∙ c.in_default.is) in
    (subst (λ (r : Reader). next_of (rest_of r) ≡ no_token c.past_white-at.result.0 c.past_white-at.result.1) c.self.view_is p.0, p.1)

pub returns-clause-step : goal.returns-clause-step
returns-clause-step c =
    let p = found c.self.inside.text.now c.self.inside.at c.self.inside.line c.past_white-at.result.0 c.past_white-at.result.1 c.in-Some.length c.in-Some.kind c.past_white-at.ensures.left (sym c.c_token.ensures.value ∙ c.in-Some.is) in
    ap (λ (r : Reader). next_of (rest_of r)) (sym c.self.view_is) ∙ p

pub returns-clause-gap : goal.returns-clause-gap
returns-clause-gap c =
    subst (λ (r : Reader). (k d : ℕ) → k < length (take (c.past_white-at.result.0 - r.at) (drop r.at r.source)) → IsTrue (is_white (get_or (take (c.past_white-at.result.0 - r.at) (drop r.at r.source)) k d))) c.self.view_is
    (white_gap_at _ c.self.inside.at c.self.inside.line _ c.past_white-at.ensures.left)
