use Rattle.std.proofs.Common.{◌≡◌, ◌-◌, ◌+◌, sym, ◌∙◌, ap, subst, refl, length, take, drop, true, arith}
use Rattle.slices.specs.FormGap.{after_gap, blanks, spot}
use Rattle.slices.specs.FormTokens.{FormReader, form_next, finished, no_token, token}
use Rattle.slices.proofs.FormNext.{reader, ends, last, fed, lost, found}
use Rattle.slices.proofs.form_toks.FormToks.next.Goals as goal

pub returns-then-not-self-clause-step : goal.returns-then-not-self-clause-step
returns-then-not-self-clause-step c =
    let t = c.self.inside in
    let r = c.past_gap-at.result in
    let skip = subst (λ q. after_gap blanks q (drop t.at t.text.now) t.at t.line ≡ spot r.0 r.1) c.is_quiet-quiet.ensures c.past_gap-at.ensures.value in
    (subst (λ (r : FormReader). form_next r ≡ finished) c.self.view_is (ends t.text.now t.at t.line t.depth t.begun r.0 r.1 skip c.if-at-self.true c.if-not-self.true), refl)

pub returns-then-at-self-clause-step : goal.returns-then-at-self-clause-step
returns-then-at-self-clause-step c =
    let t = c.self.inside in
    let r = c.past_gap-at.result in
    let skip = subst (λ q. after_gap blanks q (drop t.at t.text.now) t.at t.line ≡ spot r.0 r.1) c.is_quiet-quiet.ensures c.past_gap-at.ensures.value in
    ap form_next (sym c.self.view_is) ∙ last t.text.now t.at t.line t.depth t.begun r.0 r.1 skip c.if-at-self.true c.if-not-self.false

pub returns-then-first-eq10-clause-step : goal.returns-then-first-eq10-clause-step
returns-then-first-eq10-clause-step c =
    let t = c.self.inside in
    let r = c.past_gap-at.result in
    let skip = subst (λ q. after_gap blanks q (drop t.at t.text.now) t.at t.line ≡ spot r.0 r.1) c.is_quiet-quiet.ensures c.past_gap-at.ensures.value in
    ap form_next (sym c.self.view_is) ∙ fed t.text.now t.at t.line t.depth t.begun r.0 r.1 skip (omega (arith, c.if-at-self.false)) c.if-first-eq10.true

pub returns-in_default-clause-step : goal.returns-in_default-clause-step
returns-in_default-clause-step c =
    let t = c.self.inside in
    let r = c.past_gap-at.result in
    let skip = subst (λ q. after_gap blanks q (drop t.at t.text.now) t.at t.line ≡ spot r.0 r.1) c.is_quiet-quiet.ensures c.past_gap-at.ensures.value in
    let p = lost t.text.now t.at t.line t.depth t.begun r.0 r.1 skip (omega (arith, c.if-at-self.false)) c.if-first-eq10.false (sym c.form_token.ensures.value ∙ c.in_default.is) in
    (subst (λ (q : FormReader). form_next q ≡ no_token r.0 r.1) c.self.view_is p, refl)

pub returns-clause-step : goal.returns-clause-step
returns-clause-step c =
    let t = c.self.inside in
    let r = c.past_gap-at.result in
    let n = c.in-Some.length in
    let k = c.in-Some.kind in
    let skip = subst (λ q. after_gap blanks q (drop t.at t.text.now) t.at t.line ≡ spot r.0 r.1) c.is_quiet-quiet.ensures c.past_gap-at.ensures.value in
    ap form_next (sym c.self.view_is)
    ∙ found t.text.now t.at t.line t.depth t.begun r.0 r.1 n k skip (omega (arith, c.if-at-self.false)) c.if-first-eq10.false (sym c.form_token.ensures.value ∙ c.in-Some.is)
    ∙ ap (λ d. token (record { text = take n (take (length t.text.now - r.0) (drop r.0 t.text.now)); from = r.0; line = r.1; kind = k }) (reader t.text.now (r.0 + n) r.1 d true)) (sym c.depth_after-self-inside.ensures.value)
