-- Lists that are found in one pass over the integrands
use Rattle.std.proofs.Common.{◌≡◌, ℕ, ◌<◌, ◌≤◌, ◌+◌, Bool, true, false, if◌then◌else◌, List, [], ◌∷◌, ◌++◌, map, length, drop, get_or, Option, refl, sym, ◌∙◌, ap, add-one, drop-cons}
use Rattle.std.proofs.lemmas.List.{drop_all, append-nil, append_assoc, map-append}
use Rattle.ufl_tree.specs.declared.function.On.{On}
use Rattle.ufl_tree.specs.declared.function.On.TheVariants.{All, Marked}
use Rattle.ufl_tree.specs.declared.plain.Plain.{Plain}
use Rattle.ufl_tree.specs.Reading.{term_of}
use Rattle.integrands.specs.declared.integrand.Integrand.{Integrand}
use Rattle.integrands.specs.Integrands.{IntegrandTerm, integrand_of, integrands_of}
use Rattle.form_monomials.specs.Markers.{is_part, bodies_in, marker_before, named}

drop_here : {X : Type 0} (xs : List X) (i : ℕ) (d : X) → i < length xs → drop i xs ≡ get_or xs i d ∷ drop (i + 1) xs
drop_here xs i d h = rw (add-one, drop-cons xs i d) refl

-- what is found in the integrands, one after another
module _ {X : Type 0} (f : List IntegrandTerm → List X) (steps : (p : IntegrandTerm) (ps : List IntegrandTerm) → f (p ∷ ps) ≡ f (p ∷ []) ++ f ps) (none : f [] ≡ []) where
  pub found_more : (ps : List Integrand) (i : ℕ) (d : Integrand) (xs ys whole : List X) → i < length ps → ys ≡ xs ++ f (integrand_of (get_or ps i d) ∷ [])
      → xs ++ f (integrands_of (drop i ps)) ≡ whole → ys ++ f (integrands_of (drop (i + 1) ps)) ≡ whole
  found_more ps i d xs ys whole h e q =
      ap (λ zs. zs ++ f (integrands_of (drop (i + 1) ps))) e
      ∙ append_assoc xs (f (integrand_of (get_or ps i d) ∷ [])) (f (integrands_of (drop (i + 1) ps)))
      ∙ ap (λ zs. xs ++ zs) (sym (steps (integrand_of (get_or ps i d)) (integrands_of (drop (i + 1) ps))))
      ∙ ap (λ us. xs ++ f (integrands_of us)) (sym (drop_here ps i d h)) ∙ q

  pub found_all : (ps : List Integrand) (i : ℕ) (xs whole : List X) → length ps ≤ i → xs ++ f (integrands_of (drop i ps)) ≡ whole → xs ≡ whole
  found_all ps i xs whole h q = sym (append-nil xs) ∙ ap (λ ys. xs ++ ys) (sym none) ∙ ap (λ us. xs ++ f (integrands_of us)) (sym (drop_all i ps h)) ∙ q

-- ---- markers
pub marker_steps : (p : IntegrandTerm) (ps : List IntegrandTerm) → named (p ∷ ps) ≡ named (p ∷ []) ++ named ps
marker_steps p ps = go p.on
  where
    go : (on : On) → marker_before on (named ps) ≡ marker_before on [] ++ named ps
    go All = refl
    go (Marked k) = refl

-- ---- bodies
module _ (marker : Option ℕ) where
  pub body_steps : (p : IntegrandTerm) (ps : List IntegrandTerm) → bodies_in marker (p ∷ ps) ≡ bodies_in marker (p ∷ []) ++ bodies_in marker ps
  body_steps p ps = go (is_part marker p.on)
    where
      go : (b : Bool) → (if b then p.body ∷ bodies_in marker ps else bodies_in marker ps) ≡ (if b then p.body ∷ [] else []) ++ bodies_in marker ps
      go true = refl
      go false = refl

  pub body_kept : (p : Integrand) (xs ys : List Plain) (b : Plain) → is_part marker p.on ≡ true → b ≡ p.body → ys ≡ xs ++ b ∷ [] → map term_of ys ≡ map term_of xs ++ bodies_in marker (integrand_of p ∷ [])
  body_kept p xs ys b h e q =
      ap (map term_of) q ∙ map-append term_of xs (b ∷ []) ∙ ap (λ (t : Plain). map term_of xs ++ term_of t ∷ []) e
      ∙ ap (λ c. map term_of xs ++ (if c then term_of p.body ∷ [] else [])) (sym h)

  pub body_left : (p : Integrand) (xs : List Plain) → is_part marker p.on ≡ false → map term_of xs ≡ map term_of xs ++ bodies_in marker (integrand_of p ∷ [])
  body_left p xs h = sym (append-nil (map term_of xs)) ∙ ap (λ c. map term_of xs ++ (if c then term_of p.body ∷ [] else [])) (sym h)
