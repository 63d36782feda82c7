-- What holds of a value that is there
use Rattle.std.proofs.Common.{◌≡◌, Result, Ok, Err, IfOk, refl, subst}

pub if_ok : {A E : Type 0} (r : Result A E) (P : A → Type 0) → ((a : A) → r ≡ Ok a → P a) → IfOk r P
if_ok (Ok a) P h = h a refl
if_ok (Err e) P h = tt

pub at_ok : {A E : Type 0} (r : Result A E) (a : A) (P : A → Type 0) → r ≡ Ok a → IfOk r P → P a
at_ok r a P e h = subst (λ r. IfOk r P) e h
