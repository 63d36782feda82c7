-- What a refusal says where the steps have room
use Rattle.std.proofs.Common.{◌≡◌, Result, Ok, Err, IfOk, IfErr, refl}
use Rattle.normal.specs.declared.refusal.NormalRefusal.{NormalRefusal}
use Rattle.normal.specs.declared.refusal.NormalRefusal.TheVariants.{Range, Memory}

pub ok_then : {A E : Type 0} {P Q : A → Type 0} (r : Result A E) → ((x : A) → P x → Q x) → IfOk r P → IfOk r Q
ok_then (Ok z) f h = f z h
ok_then (Err y) f h = tt

pub err_then : {A E : Type 0} {P Q : E → Type 0} (r : Result A E) → ((y : E) → P y → Q y) → IfErr r P → IfErr r Q
err_then (Ok z) f h = tt
err_then (Err y) f h = f y h

-- it is memory where the other one can't be
pub only_memory : (r : NormalRefusal) (P : Type 0) → (r ≡ Range → P) → (P → ⊥) → r ≡ Memory
only_memory r P f never = elim r as (λ (x : NormalRefusal). (x ≡ Range → P) → x ≡ Memory) [ Range ↦ λ g. absurd (never (g refl)) | Memory ↦ λ g. refl ] f
