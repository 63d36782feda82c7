-- Each reading looks at the tokens in their order
use Rattle.std.proofs.Common.{◌≡◌, refl, sym, ◌∙◌, ap, ap₂, ℕ, zero, suc, ◌&&◌, ◌||◌, ◌==◌, nat_lt, Bool, true, false, if◌then◌else◌, List, [], ◌∷◌, length, Option, Some, None, Result, Ok, Err, codes, bytes_eq}
use Rattle.slices.specs.Tokens.{Token}
use Rattle.c_unit.specs.declared.unit.CFun.{CFun}
use Rattle.ratio.specs.declared.reduced.Ratio.{Ratio}
use Rattle.c_text.specs.declared.refusal.KernelRefusal.{KernelRefusal}
use Rattle.c_text.specs.declared.refusal.KernelKind.TheVariants as kinds
use Rattle.c_text.specs.declared.place.Scope.{Scope}
use Rattle.c_text.specs.Stream.{Stream, Read, ◌>>=◌, refusal, shift, expect, expects, repeat, is_ahead}
use Rattle.c_text.specs.Places.{required, number_at, counter_at, factor_at, step_at, add_step, is_step_ahead, goes_on, steps_at, array_at}
use Rattle.c_text.proofs.Local.{at, SameHead, Local, Firm, AnyLine, Follows, gives, refuses, follows_choice, local_of, firm_shift, bind_local, local_then, firm_then, firm_test, firm_gives, local_ok, OfHead, head_ahead, local_if, firm_if, local_ahead, firm_ahead, local_repeat}

-- ---- words

pub firm_expect : (word : List ℕ) → Firm (λ l k. l ≡ k) (λ s. expect word s)
unfolding expect
firm_expect word = firm_test firm_shift _ (λ t line h. follows_choice (bytes_eq t.text word) (gives t.line h (λ s. refl)) (refuses (refusal kinds.Syntax t.line) h refl (λ s. refl)))

pub firm_expects : (word : List ℕ) (words : List (List ℕ)) → Firm AnyLine (λ s. expects (word ∷ words) s)
unfolding expects
firm_expects word [] = firm_test (firm_expect word) _ (λ t line h. gives tt tt (λ s. refl))
firm_expects word (w ∷ ws) = firm_then (firm_expect word) _ (λ t. firm_expects w ws)

-- ---- numbers and slots

-- a value and the line of its token
abbrev pub InLine : {A : Type 0} → A × ℕ → ℕ → Type 0
InLine x line = x.1 ≡ line

pub follows_required : {A : Type 0} (o : Option A) (l line : ℕ) → l ≡ line → Follows InLine line (λ s. required o l s)
follows_required None l line h = refuses (refusal kinds.Syntax l) h refl (λ s. refl)
follows_required (Some x) l line h = gives (x, l) h (λ s. refl)

pub firm_number : Firm InLine (λ s. number_at s)
unfolding number_at
firm_number = firm_test firm_shift _ (λ t line h. follows_required _ t.line line h)

firm_counter : (from depth : ℕ) → Firm InLine (λ s. counter_at from depth s)
unfolding counter_at
firm_counter from depth = firm_test firm_shift _ (λ t line h. follows_required _ t.line line h)

firm_factor : Firm AnyLine (λ s. factor_at s)
unfolding factor_at
firm_factor = firm_test firm_number _ (λ n line h. follows_choice (n.0 == 0) (refuses (refusal kinds.Syntax n.1) h refl (λ s. refl)) (gives n.0 tt (λ s. refl)))

pub firm_step : (from depth : ℕ) → Firm (λ x k. x.2 ≡ k) (λ s. step_at from depth s)
unfolding step_at
firm_step from depth =
    firm_then (firm_expect (codes "+")) _ (λ p. firm_then firm_factor _ (λ f. firm_then (firm_expect (codes "*")) _ (λ m. firm_test (firm_counter from depth) _ (λ c line h. gives (f, c.0, c.1) h (λ s. refl)))))

pub firm_array : Firm InLine (λ s. array_at s)
unfolding array_at
firm_array = firm_test firm_shift _ (λ t line h. follows_required _ t.line line h)
