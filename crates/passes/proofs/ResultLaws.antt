-- Answers that are passed on
use Rattle.std.proofs.Common.{◌≡◌, Result, Ok, Err, IfOk, ◌∙◌}

-- the same answer, said of an equal value
pub ok_same : {A E : Type 0} (r : Result A E) (x y : A) → x ≡ y → IfOk r (λ z. z ≡ x) → IfOk r (λ z. z ≡ y)
ok_same (Ok z) x y e h = h ∙ e
ok_same (Err r) x y e h = tt

pub ok_as : {A B E : Type 0} (f : A → B) (r : Result A E) (x y : B) → x ≡ y → IfOk r (λ z. f z ≡ x) → IfOk r (λ z. f z ≡ y)
ok_as f (Ok z) x y e h = h ∙ e
ok_as f (Err r) x y e h = tt

-- what follows from what is said of it
pub ok_then : {A E : Type 0} {P Q : A → Type 0} (r : Result A E) → ((x : A) → P x → Q x) → IfOk r P → IfOk r Q
ok_then (Ok z) f h = f z h
ok_then (Err r) f h = tt
