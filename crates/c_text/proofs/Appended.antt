-- Appending step by step
use Rattle.std.proofs.Common.{◌≡◌, sym, ◌∙◌, ap, ℕ, List, ◌++◌, append_assoc, Result, Ok, Err, OnErr, OnOk}
use Rattle.c_text.specs.Appends.{Extends}

pub extends_behind : (old mid new t : List ℕ) → mid ≡ old ++ t → Extends mid new → Extends old new
extends_behind old mid new t e x = (t ++ x.0, x.1 ∙ ap (λ l. l ++ x.0) e ∙ append_assoc old t x.0)

-- A step behind others failed.
pub kept_behind : {T E : Type 0} (r : Result T E) (old mid new t : List ℕ) → mid ≡ old ++ t → OnErr r (Extends mid new) → OnErr r (Extends old new)
kept_behind (Ok x) old mid new t e h = tt
kept_behind (Err x) old mid new t e h = extends_behind old mid new t e h

-- a step behind others
pub ok_behind : {T E : Type 0} (r : Result T E) (old mid new t u v : List ℕ) → mid ≡ old ++ t → t ++ u ≡ v → OnOk r (new ≡ mid ++ u) → OnOk r (new ≡ old ++ v)
ok_behind (Ok x) old mid new t u v e f h = h ∙ ap (λ l. l ++ u) e ∙ append_assoc old t u ∙ ap (λ l. old ++ l) f
ok_behind (Err x) old mid new t u v e f h = tt

pub on_err : {T E P : Type 0} (r : Result T E) → P → OnErr r P
on_err (Ok x) p = tt
on_err (Err e) p = p

-- the same text in other words
pub ok_as : {T E : Type 0} (r : Result T E) (old new u v : List ℕ) → u ≡ v → OnOk r (new ≡ old ++ u) → OnOk r (new ≡ old ++ v)
ok_as (Ok x) old new u v e h = h ∙ ap (λ l. old ++ l) e
ok_as (Err x) old new u v e h = tt

-- One turn of a loop that appends: `rest` is what is still to be appended.
pub goes_on : (old out new done t rest rest' all : List ℕ) → out ≡ old ++ done → done ++ rest ≡ all → rest ≡ t ++ rest' → new ≡ out ++ t
    → (done' : List ℕ) × (new ≡ old ++ done') × (done' ++ rest' ≡ all)
goes_on old out new done t rest rest' all o a e n = (done ++ t, n ∙ ap (λ l. l ++ t) o ∙ append_assoc old done t, append_assoc done t rest' ∙ ap (λ l. done ++ l) (sym e) ∙ a)
