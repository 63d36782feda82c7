-- Reading step by step
use Rattle.std.proofs.Common.{◌≡◌, sym, ◌∙◌, ap, Result, Ok, Err, IsErr, IsErrAnd, subst}
use Rattle.std.proofs.lemmas.Bool.{true≢false}
use Rattle.c_text.specs.declared.refusal.KernelRefusal.{KernelRefusal}
use Rattle.c_text.specs.declared.refusal.ReadFault.{ReadFault}
use Rattle.c_text.specs.declared.refusal.ReadFault.TheVariants as faults
use Rattle.c_text.specs.Stream.{Stream, Read, Fails, Gives, ◌>>=◌}

-- a fault passes through what would have followed
pub fails_through : {A B : Type 0} (e : ReadFault) (r : Result A KernelRefusal) (f : A → Result B KernelRefusal) → Fails e r → Fails e (r >>= f)
fails_through faults.Memory r f h = tt
fails_through (faults.Refused x) r f h = ap (λ q. q >>= f) h

pub fails_as : {A : Type 0} (e : ReadFault) (r q : Result A KernelRefusal) → q ≡ r → Fails e r → Fails e q
fails_as faults.Memory r q e h = tt
fails_as (faults.Refused x) r q e h = e ∙ h

pub gives_err : {X Y : Type 0} (view : X → Y) (r : Result X ReadFault) (e : ReadFault) (new : Stream) (read : Read Y) → IsErr r → IsErrAnd r (λ x. x ≡ e) → Fails e read → Gives view r new read
gives_err view (Ok x) e new read h k f = absurd (true≢false (sym h))
gives_err view (Err x) e new read h k f = subst (λ y. Fails y read) (sym k) f

pub read_ok : {A B : Type 0} (r : Result A KernelRefusal) (x : A) (f : A → Result B KernelRefusal) → r ≡ Ok x → (r >>= f) ≡ f x
read_ok r x f e = ap (λ q. q >>= f) e

pub gives_as : {X Y : Type 0} (view : X → Y) (r : Result X ReadFault) (new : Stream) (read read' : Read Y) → read ≡ read' → Gives view r new read' → Gives view r new read
gives_as view (Ok x) new read read' e h = e ∙ h
gives_as view (Err x) new read read' e h = fails_as x read' read e h

pub same_three : {A B C D : Type 0} (f : A → B → C → D) {a a' : A} {b b' : B} {c c' : C} → a ≡ a' → b ≡ b' → c ≡ c' → f a b c ≡ f a' b' c'
same_three f {a} {a'} {b} {b'} {c} {c'} p q r = ap (λ x. f x b c) p ∙ ap (λ y. f a' y c) q ∙ ap (λ z. f a' b' z) r
