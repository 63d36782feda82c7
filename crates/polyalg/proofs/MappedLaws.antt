-- A linear map of polynomials, term by term
use Rattle.std.proofs.Common.{max, ◌≤◌, ◌≡◌, ℕ, Bool, List, [], ◌++◌, refl, sym, ap, ◌∙◌, subst, arith}
use Rattle.algebra.specs.RingLaws as L
use Rattle.calculus.specs.Polynomial.{Polynomial, nil, plus, polynomials, plus-nil}
use Rattle.polyalg.specs.Terms.{value_of, Rising, keys_and, AreTerms, IsPoly}
use Rattle.polyalg.specs.Products.{degree_of}
use Rattle.polyalg.specs.declared.term.Term.{Term}

-- how far the map g has come: `out` is there, with keys that are k less than those of its terms; `left` is left
pub record Mapped (g : Polynomial → Polynomial) (stops : List Term → Bool) (k : ℕ) (out left all : List Term) : Type 0 where
  pub value : plus (value_of out) (g (value_of left)) ≡ g (value_of all)
  pub passes : stops left ≡ stops all
  pub rising : Rising (keys_and k out ++ keys_and 0 left)
  pub there : AreTerms out
  pub remain : AreTerms left
  pub degree : max (degree_of out) (degree_of left) ≤ degree_of all

module _ (g : Polynomial → Polynomial) (stops : List Term → Bool) (k : ℕ) where
  pub mapped_begin : (out all : List Term) → out ≡ [] → IsPoly all → Mapped g stops k out all all
  mapped_begin out all e p =
      subst (λ us. Mapped g stops k us all all) (sym e)
      (record { value = L.zero-add polynomials (g (value_of all)); passes = refl; rising = p.sorted; there = tt; remain = p.terms; degree = omega arith })

  pub mapped_value : g nil ≡ nil → (out left all : List Term) → left ≡ [] → Mapped g stops k out left all → value_of out ≡ g (value_of all)
  mapped_value n out left all e s =
      sym (plus-nil (value_of out)) ∙ ap (plus (value_of out)) (sym n) ∙ ap (λ ts. plus (value_of out) (g (value_of ts))) (sym e) ∙ s.value

  pub mapped_passes : (out left all : List Term) → left ≡ [] → Mapped g stops k out left all → stops all ≡ stops []
  mapped_passes out left all e s = sym s.passes ∙ ap stops e

  pub mapped_degree : (out left all : List Term) → Mapped g stops k out left all → degree_of out ≤ degree_of all
  mapped_degree out left all s = omega (arith, s.degree)
