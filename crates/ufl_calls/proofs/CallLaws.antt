-- Answers of steps that make nothing, and refusals with their words
use Rattle.std.proofs.Common.{◌≡◌, inl, inr, ℕ, Some, Result, Ok, Err, refl, sym, ap, subst}
use Rattle.ufl_syntax.specs.declared.span.Span.{Span}
use Rattle.ufl_values.specs.declared.refusal.Reason.{Reason}
use Rattle.ufl_values.specs.declared.refusal.Reason.TheVariants as r
use Rattle.ufl_values.specs.declared.value.Value.{Value}
use Rattle.ufl_values.specs.Refused.{refused, placed}
use Rattle.ufl_values.specs.Answer.{Answers, Makes}
use Rattle.ufl_calls.specs.declared.made.Made.{Made}
use Rattle.ufl_calls.specs.Made.{Making, unmade}
use Rattle.ufl_calls.specs.Calls.{Finds, at_word, with_keywords, keyword_refused}

pub unmade_makes : {A : Type 0} (r : Result A Reason) (m : Made) (want : Result A Reason) → Answers r want → Makes r m (unmade want m)
unmade_makes (Ok x) m want e = ap (λ w. unmade w m) e
unmade_makes (Err k) m want (inl e) = inl e
unmade_makes (Err k) m want (inr e) = inr (ap (λ w. unmade w m) e)

pub exact_answers : {A : Type 0} (r want : Result A Reason) → r ≡ want → Answers r want
exact_answers (Ok x) want e = sym e
exact_answers (Err k) want e = inr (sym e)

pub placed_finds : {A : Type 0} (r : Result A Reason) (m : Made) (want : Making A) (line : ℕ) (word : Span)
    → Makes r m want → Finds (placed r line word) m (at_word line word want)
placed_finds (Ok x) m want line word e = ap (at_word line word) e
placed_finds (Err k) m want line word (inl e) = inl (ap (λ x. refused x line word) e)
placed_finds (Err k) m want line word (inr e) = inr (ap (at_word line word) e)

-- an answer that is known, of a step that makes nothing
pub exact_finds : {A : Type 0} (r : Result A Reason) (m : Made) (line : ℕ) (word : Span)
    → Finds (placed r line word) m (at_word line word (unmade r m))
exact_finds (Ok x) m line word = refl
exact_finds (Err k) m line word = inr refl

pub refused_finds : (r : Result Value Reason) (m : Made) (want : Making Value) (line : ℕ) (word other : Span)
    → Makes r m want → Finds (Err (keyword_refused r line word other)) m (with_keywords line word (Some other) want)
refused_finds (Ok x) m want line word other e = inr (ap (with_keywords line word (Some other)) e)
refused_finds (Err k) m want line word other (inl e) =
    subst (λ k. Finds (Err (keyword_refused (Err k) line word other)) m (with_keywords line word (Some other) want)) (sym e) (inl refl)
refused_finds (Err r.Memory) m want line word other (inr e) = inl refl
refused_finds (Err r.Kind) m want line word other (inr e) = inr (ap (with_keywords line word (Some other)) e)
refused_finds (Err r.UnknownName) m want line word other (inr e) = inr (ap (with_keywords line word (Some other)) e)
refused_finds (Err r.Unsupported) m want line word other (inr e) = inr (ap (with_keywords line word (Some other)) e)
refused_finds (Err r.Shape) m want line word other (inr e) = inr (ap (with_keywords line word (Some other)) e)
refused_finds (Err r.FreeIndex) m want line word other (inr e) = inr (ap (with_keywords line word (Some other)) e)
refused_finds (Err r.NumberRange) m want line word other (inr e) = inr (ap (with_keywords line word (Some other)) e)
refused_finds (Err r.Nodes) m want line word other (inr e) = inr (ap (with_keywords line word (Some other)) e)
