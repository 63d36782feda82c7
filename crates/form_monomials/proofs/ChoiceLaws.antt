-- The integrands of a function, as a choice of those of the form
use Rattle.std.proofs.Common.{◌≡◌, ℕ, Bool, true, false, if◌then◌else◌, List, [], ◌∷◌, Option, refl, sym, ◌∙◌, ap, subst}
use Rattle.std.specs.List.{AllByRecursion}
use Rattle.algebra.specs.RingLaws as L
use Rattle.calculus.specs.Polynomial.{polynomials, nil, plus}
use Rattle.ufl_tree.specs.Places.{Table}
use Rattle.ufl_tree.specs.Term.{Term}
use Rattle.ufl_meaning.specs.Density.{covers}
use Rattle.ufl_meaning.specs.Environment.{Environment}
use Rattle.ufl_meaning.specs.Prelude.{meaning, no_names}
use Rattle.monos.specs.declared.weight.Weight.{Weight}
use Rattle.weigh.specs.Bounds.{Bounds}
use Rattle.weigh.specs.Steps.{plus_step}
use Rattle.weigh.specs.Terms.{term_weight}
use Rattle.weigh.proofs.BoundsLaws.{bounds_trans}
use Rattle.normal.specs.Bounding.{HasDirections}
use Rattle.normal.specs.Monomials.{IsExpanded}
use Rattle.integrands.specs.Integrands.{IntegrandTerm, integrands_value}
use Rattle.integrands.specs.Keeping.{AreExpanded, chosen, total_weight, BoundsTotal}
use Rattle.arity.specs.Bodies.{HaveFormDirections}
use Rattle.form_monomials.specs.Markers.{is_part, bodies_in, RunsOn}
use Rattle.form_monomials.specs.Sums.{IsSumOf}
use Rattle.arity.proofs.Multilinear.{ready_expanded}
use Rattle.form_monomials.proofs.SumLaws.{sum_has, meanings, weight_of, weight_sound, IsBelow, sum_below}

module _ (marker : Option ℕ) where
  -- ---- what all bodies have
  pub in_bodies : (P : Term → Type 0) (ps : List IntegrandTerm) → AllByRecursion (λ (p : IntegrandTerm). P p.body) ps → AllByRecursion P (bodies_in marker ps)
  in_bodies P [] h = tt
  in_bodies P (p ∷ ps) h = go (is_part marker p.on) (in_bodies P ps h.1)
    where
      go : (b : Bool) → AllByRecursion P (bodies_in marker ps) → AllByRecursion P (if b then p.body ∷ bodies_in marker ps else bodies_in marker ps)
      go true r = (h.0, r)
      go false r = r

  bodies_expanded : (ps : List IntegrandTerm) → AreExpanded ps → AllByRecursion (λ (p : IntegrandTerm). IsExpanded p.body) ps
  bodies_expanded [] h = tt
  bodies_expanded (p ∷ ps) h = (ready_expanded 0 p.body h.0, bodies_expanded ps h.1)

  -- ---- the value
  pub bodies_mean : (elements : Table) (ps : List IntegrandTerm) (env : Environment) → RunsOn marker ps env.marker → meanings elements env (bodies_in marker ps) ≡ integrands_value elements ps env
  bodies_mean elements [] env h = refl
  bodies_mean elements (p ∷ ps) env h = go (is_part marker p.on) (covers p.on env.marker) h.0 (bodies_mean elements ps env h.1)
    where
      go : (b c : Bool) → c ≡ b → meanings elements env (bodies_in marker ps) ≡ integrands_value elements ps env → meanings elements env (if b then p.body ∷ bodies_in marker ps else bodies_in marker ps)
          ≡ plus (if c then meaning elements p.body env no_names else nil) (integrands_value elements ps env)
      go true true e r = ap (plus (meaning elements p.body env no_names)) r
      go true false e r = cc
      go false true e r = cc
      go false false e r = r ∙ sym (L.zero-add polynomials _)

  -- ---- the weight
  abbrev choice : List IntegrandTerm → List Bool
  choice [] = []
  choice (p ∷ ps) = is_part marker p.on ∷ choice ps

  abbrev all_bodies : List IntegrandTerm → List Term
  all_bodies [] = []
  all_bodies (p ∷ ps) = p.body ∷ all_bodies ps

  chosen_bodies : (ps : List IntegrandTerm) → bodies_in marker ps ≡ all_bodies (chosen (choice ps) ps)
  chosen_bodies [] = refl
  chosen_bodies (p ∷ ps) = go (is_part marker p.on) (chosen_bodies ps)
    where
      go : (b : Bool) → bodies_in marker ps ≡ all_bodies (chosen (choice ps) ps) → (if b then p.body ∷ bodies_in marker ps else bodies_in marker ps) ≡ all_bodies (chosen (b ∷ choice ps) (p ∷ ps))
      go true r = ap (λ xs. p.body ∷ xs) r
      go false r = r

  same_total : (elements : Table) (p : IntegrandTerm) (ps : List IntegrandTerm) → total_weight elements p ps ≡ weight_of elements p.body (all_bodies ps)
  same_total elements p [] = refl
  same_total elements p (q ∷ ps) = ap (λ w. plus_step (term_weight elements p.body) w) (same_total elements q ps)

  below_total : (elements : Table) (w : Weight) (e : Term) (ps : List IntegrandTerm) → BoundsTotal elements w ps → IsBelow elements e (all_bodies ps) → Bounds w (term_weight elements e)
  below_total elements w e [] h k = absurd k
  below_total elements w e (p ∷ ps) h k =
      bounds_trans w (weight_of elements p.body (all_bodies ps)) (term_weight elements e) (weight_sound elements p.body (all_bodies ps)).den
      (subst (Bounds w) (same_total elements p ps) h) k

  -- ---- the sum of the bodies
  pub sum_expanded : (e : Term) (ps : List IntegrandTerm) → IsSumOf e (bodies_in marker ps) → AreExpanded ps → IsExpanded e
  sum_expanded e ps s h = sum_has IsExpanded (λ a b x y. (x, y)) e (bodies_in marker ps) s (in_bodies IsExpanded ps (bodies_expanded ps h))

  pub sum_directions : (elements : Table) (d : ℕ) (e : Term) (ps : List IntegrandTerm) → IsSumOf e (bodies_in marker ps) → HaveFormDirections elements d ps → HasDirections elements d e
  sum_directions elements d e ps s h = sum_has (HasDirections elements d) (λ a b x y. (x, y)) e (bodies_in marker ps) s (in_bodies (HasDirections elements d) ps h)

  pub sum_bounds : (elements : Table) (w : Weight) (e : Term) (ps : List IntegrandTerm) → IsSumOf e (bodies_in marker ps) → ((bs : List Bool) → BoundsTotal elements w (chosen bs ps)) → Bounds w (term_weight elements e)
  sum_bounds elements w e ps s h =
      below_total elements w e (chosen (choice ps) ps) (h (choice ps)) (subst (IsBelow elements e) (chosen_bodies ps) (sum_below elements e (bodies_in marker ps) s))
