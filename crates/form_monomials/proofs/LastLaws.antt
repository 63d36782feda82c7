-- Sums of the last trees of a list
use Rattle.std.proofs.Common.{◌≡◌, ℕ, ◌+◌, List, [], ◌∷◌, ◌++◌, map, length, refl, sym, ◌∙◌, ap, ap₂, subst, arith}
use Rattle.std.proofs.lemmas.List.{append_assoc, map-append, length-append}
use Rattle.ufl_tree.specs.declared.plain.Plain.{Plain}
use Rattle.ufl_tree.specs.Reading.{term_of}
use Rattle.ufl_tree.specs.Term.{Term, sum}
use Rattle.form_monomials.specs.Sums.{IsSumOf, alone, both, IsSumOfLast}

pub one_last : (old new : List Plain) (n : ℕ) (e : Plain) → old ≡ new ++ e ∷ [] → 1 ≡ n → IsSumOfLast old new n e
one_last old new n e h k = record { taken = e ∷ []; parts = h; count = k; sum = alone (term_of e) }

pub both_last : (old mid new : List Plain) (m n k : ℕ) (a b e : Plain) → IsSumOfLast old mid m b → IsSumOfLast mid new n a → n + m ≡ k → term_of e ≡ sum (term_of a) (term_of b) → IsSumOfLast old new k e
both_last old mid new m n k a b e g h s t = record {
  taken = h.taken ++ g.taken;
  parts = g.parts ∙ ap (λ zs. zs ++ g.taken) h.parts ∙ append_assoc new h.taken g.taken;
  count = length-append h.taken g.taken ∙ ap₂ ◌+◌ h.count g.count ∙ s;
  sum = subst (λ (x : Term). IsSumOf x (map term_of (h.taken ++ g.taken))) (sym t)
      (subst (IsSumOf (sum (term_of a) (term_of b))) (sym (map-append term_of h.taken g.taken)) (both (term_of a) (term_of b) (map term_of h.taken) (map term_of g.taken) h.sum g.sum));
}

no_first : (xs ys : List Plain) → length (xs ++ ys) ≡ length ys → xs ++ ys ≡ ys
no_first [] ys h = refl
no_first (x ∷ xs) ys h = absurd (omega (arith, h, length-append xs ys))

pub whole_sum : (old new : List Plain) (n : ℕ) (e : Plain) → IsSumOfLast old new n e → n ≡ length old → IsSumOf (term_of e) (map term_of old)
whole_sum old new n e h k =
    subst (λ zs. IsSumOf (term_of e) (map term_of zs)) (sym (no_first new h.taken (ap length (sym h.parts) ∙ sym k ∙ sym h.count)) ∙ sym h.parts) h.sum

-- how many are left
pub left_over : (old new : List Plain) (n : ℕ) (e : Plain) → IsSumOfLast old new n e → length old ≡ length new + n
left_over old new n e h = ap length h.parts ∙ length-append new h.taken ∙ ap (λ k. length new + k) h.count
