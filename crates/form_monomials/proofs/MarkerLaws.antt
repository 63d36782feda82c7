-- Sorted, and each once
use Rattle.std.proofs.Common.{◌≡◌, ℕ, nat_eq, List, sym, ◌∙◌, subst}
use Rattle.std.specs.Prelude.{Contains}
use Rattle.std.specs.List.{dedup}
use Rattle.std.specs.List.Sorted.{IsPermutation, IsSorted, IsStrictlyIncreasing}
use Rattle.std.specs.Ordering.{nat_cmp}
use Rattle.std.proofs.lemmas.List.Kept.{Contains-dedup_nat, Contains-from_dedup}
use Rattle.std.proofs.lemmas.List.Sorted.{Contains-permutation, IsPermutation-sym}
use Rattle.std.proofs.lemmas.Map.Keys.{IsStrictlyIncreasing-dedup}
use Rattle.integrands.specs.Integrands.{IntegrandTerm}
use Rattle.form_monomials.specs.Markers.{named, AreMarkers}

pub are_markers : (ps : List IntegrandTerm) (ns xs ms : List ℕ) → ns ≡ named ps → IsPermutation ns xs → IsSorted nat_cmp xs → ms ≡ dedup nat_eq xs → AreMarkers ps ms
are_markers ps ns xs ms n p s d f e = record {
  rising = subst IsStrictlyIncreasing (sym d) (IsStrictlyIncreasing-dedup xs s);
  all = λ m h. subst (λ zs. Contains zs m) (sym d) (Contains-dedup_nat xs m (Contains-permutation ns xs m p (subst (λ zs. Contains zs m) (e ∙ sym n) h)));
  only = λ m h. subst (λ zs. Contains zs m) (sym (e ∙ sym n)) (Contains-permutation xs ns m (IsPermutation-sym ns xs p) (Contains-from_dedup nat_eq xs m (subst (λ zs. Contains zs m) d h)));
}
