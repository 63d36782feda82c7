-- Ends of runs and their numbers
use Rattle.std.proofs.Common.{◌≡◌, ℕ, ◌+◌, refl, sym, ap, arith, add_assoc, true, false}
use Rattle.c_unit.specs.Meaning.{Slots, End, Going, Passed, Zero, further, then_do}
use Rattle.c_run.specs.declared.ret.Ret.{Ret}
use Rattle.c_run.specs.Answer.{end_of, is_good, number, numbered}

no_further : (n : ℕ) → 0 + n ≡ n
no_further n = omega arith

pub further-zero : (e : End) → further 0 e ≡ e
further-zero (Going s) = refl
further-zero (Passed at op l r s) = ap (λ n. Passed n op l r s) (no_further at)
further-zero (Zero at s) = ap (λ n. Zero n s) (no_further at)

pub further-further : (m n : ℕ) (e : End) → further m (further n e) ≡ further (m + n) e
further-further m n (Going s) = refl
further-further m n (Passed at op l r s) = ap (λ k. Passed k op l r s) (sym (add_assoc m n at))
further-further m n (Zero at s) = ap (λ k. Zero k s) (sym (add_assoc m n at))

capped_sum : (m n : ℕ) → number (number m + number n) ≡ number (m + n)
capped_sum m n = grind arith

-- numbers may be capped on the way
pub numbered-further : (n : ℕ) (e : End) → numbered (further (number n) (numbered e)) ≡ numbered (further n e)
numbered-further n (Going s) = refl
numbered-further n (Passed at op l r s) = ap (λ k. Passed k op l r s) (capped_sum n at)
numbered-further n (Zero at s) = ap (λ k. Zero k s) (capped_sum n at)

capped_once : (m n : ℕ) → number (number m + n) ≡ number (m + n)
capped_once m n = grind arith

pub numbered_count : (n : ℕ) (e : End) → numbered (further (number n) e) ≡ numbered (further n e)
numbered_count n (Going s) = refl
numbered_count n (Passed at op l r s) = ap (λ k. Passed k op l r s) (capped_once n at)
numbered_count n (Zero at s) = ap (λ k. Zero k s) (capped_once n at)

pub went_on : (e : End) (r : Ret) (s : Slots) → numbered e ≡ end_of r s → is_good r ≡ true → e ≡ Going s
went_on (Going s') Ret.Good s h g = h
went_on (Passed at op l r s') Ret.Good s h g = cc
went_on (Zero at s') Ret.Good s h g = cc
went_on e (Ret.Passed at op l r) s h g = cc
went_on e (Ret.Zero at) s h g = cc

pub stopped : (e : End) (r : Ret) (s : Slots) (go : Slots → End) → numbered e ≡ end_of r s → is_good r ≡ false → then_do e go ≡ e
stopped (Passed at op l r s') t s go h g = refl
stopped (Zero at s') t s go h g = refl
stopped (Going s') Ret.Good s go h g = cc
stopped (Going s') (Ret.Passed at op l r) s go h g = cc
stopped (Going s') (Ret.Zero at) s go h g = cc

pub stopped_at : (r : Ret) (s : Slots) (go : Slots → End) → is_good r ≡ false → then_do (end_of r s) go ≡ end_of r s
stopped_at Ret.Good s go g = cc
stopped_at (Ret.Passed at op l r) s go g = refl
stopped_at (Ret.Zero at) s go g = refl

pub went_on_at : (r : Ret) (s : Slots) → is_good r ≡ true → end_of r s ≡ Going s
went_on_at Ret.Good s g = refl
went_on_at (Ret.Passed at op l r) s g = cc
went_on_at (Ret.Zero at) s g = cc

pub then_further : (e : End) (r : Ret) (s : Slots) (n : ℕ) (go : Slots → End) → numbered e ≡ end_of r s → is_good r ≡ false → then_do (further n e) go ≡ further n e
then_further (Passed at op l r s') t s n go h g = refl
then_further (Zero at s') t s n go h g = refl
then_further (Going s') Ret.Good s n go h g = cc
then_further (Going s') (Ret.Passed at op l r) s n go h g = cc
then_further (Going s') (Ret.Zero at) s n go h g = cc
