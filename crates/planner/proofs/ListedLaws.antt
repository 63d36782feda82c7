-- The contractions of a list of monomials, one monomial after the other
use Rattle.std.proofs.Common.{◌≡◌, ℕ, zero, suc, ◌+◌, ◌<◌, List, [], ◌∷◌, ◌++◌, length, take, get_or, Option, Some, None, sym, ap, ◌∙◌, subst, append-nil, arith}
use Rattle.std.proofs.lemmas.List.{take_more}
use Rattle.std.specs.List.{AllByRecursion}
use Rattle.monos.specs.declared.layout.Layout.{Layout}
use Rattle.monos.specs.declared.mono.Mono.{Mono}
use Rattle.monos.specs.Monomial.{Monomial, monomial_of, monomials_of}
use Rattle.refint.proofs.Lists.{map_append}
use Rattle.tensors.specs.Rows.{rows_of}
use Rattle.kernel_statements.specs.Counted.{counted_rows}
use Rattle.kernel_statements.specs.declared.contraction.Contraction.{Contraction}
use Rattle.kernel_statements.proofs.CountedLaws.{all_with}
use Rattle.planner.specs.Contractions.{AreContractionsOf, IsContractionOf, MayBeContractionOf, contraction_list, more, none, without}

-- ---- one more at the end
last_without : (l : Layout) {ms : List Monomial} {cs : List Contraction} (m : Monomial) → AreContractionsOf l ms cs → counted_rows (rows_of l m) ≡ []
    → AreContractionsOf l (ms ++ m ∷ []) cs
last_without l m none e = without e none
last_without l m (without h r) e = without h (last_without l m r e)
last_without l m (more h r) e = more h (last_without l m r e)

last_more : (l : Layout) {ms : List Monomial} {cs : List Contraction} (m : Monomial) (c : Contraction) → AreContractionsOf l ms cs → IsContractionOf l m c
    → AreContractionsOf l (ms ++ m ∷ []) (cs ++ c ∷ [])
last_more l m c none e = more e none
last_more l m c (without h r) e = without h (last_more l m c r e)
last_more l m c (more h r) e = more h (last_more l m c r e)

next_monomial : (ms : List Mono) (i : ℕ) (m : Mono) → i < length ms → m ≡ get_or ms i m → monomials_of (take (i + 1) ms) ≡ monomials_of (take i ms) ++ monomial_of m ∷ []
next_monomial ms i m l e =
    ap monomials_of (take_more ms i m l) ∙ ap (λ x. monomials_of (take i ms ++ x ∷ [])) (sym e) ∙ map_append monomial_of (take i ms) (m ∷ [])

pub next_found : (l : Layout) (ms : List Mono) (cs new : List Contraction) (o : Option Contraction) (i : ℕ) (m : Mono) → i < length ms → m ≡ get_or ms i m
    → AreContractionsOf l (monomials_of (take i ms)) cs → MayBeContractionOf l (monomial_of m) o → new ≡ cs ++ contraction_list o
    → AreContractionsOf l (monomials_of (take (i + 1) ms)) new
next_found l ms cs new o i m b e r h n =
    subst (λ ns. AreContractionsOf l ns new) (sym (next_monomial ms i m b e))
    (subst (AreContractionsOf l (monomials_of (take i ms) ++ monomial_of m ∷ [])) (sym n) (last_found o h))
  where
    last_found : (o : Option Contraction) → MayBeContractionOf l (monomial_of m) o → AreContractionsOf l (monomials_of (take i ms) ++ monomial_of m ∷ []) (cs ++ contraction_list o)
    last_found None h = subst (AreContractionsOf l (monomials_of (take i ms) ++ monomial_of m ∷ [])) (sym (append-nil cs)) (last_without l (monomial_of m) r h)
    last_found (Some c) h = last_more l (monomial_of m) c r h

-- what holds of each monomial
pub each_monomial : (P : Monomial → Type 0) (ms : List Mono) (i : ℕ) (m : Mono) → i < length ms → m ≡ get_or ms i m → AllByRecursion P (monomials_of ms) → P (monomial_of m)
each_monomial P ms i m b e h = subst (λ x. P (monomial_of x)) (sym e) (at ms i b h)
  where
    at : (ms : List Mono) (i : ℕ) → i < length ms → AllByRecursion P (monomials_of ms) → P (monomial_of (get_or ms i m))
    at [] i b h = absurd (omega arith)
    at (x ∷ ms) zero b h = h.0
    at (x ∷ ms) (suc i) b h = at ms i (omega arith) h.1

pub next_each : (P : Monomial → Type 0) (ms : List Mono) (i : ℕ) (m : Mono) → i < length ms → m ≡ get_or ms i m → AllByRecursion P (monomials_of (take i ms)) → P (monomial_of m)
    → AllByRecursion P (monomials_of (take (i + 1) ms))
next_each P ms i m b e h p = subst (AllByRecursion P) (sym (next_monomial ms i m b e)) (all_with P (monomials_of (take i ms)) (monomial_of m) h p)
