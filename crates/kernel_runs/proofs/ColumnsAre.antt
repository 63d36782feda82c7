-- What the factors make of one number: it times the columns
use Rattle.std.proofs.Common.{◌≡◌, refl, sym, ◌∙◌, ap, map, append_assoc, List, [], ◌∷◌, ◌++◌}
use Rattle.algebra.specs.Fraction.{Fraction, mul, mul_one}
use Rattle.kernel_runs.specs.Strips.{Factor, Slowest, factors_in, from_last, in_turn, outer, with_factor, with_factors}
use Rattle.refint.specs.Digits.{columns}
use Rattle.kernel_runs.proofs.StripLaws.{columns_append, outer_scaled, scaled_outer}

factors_append : (xs : List Fraction) (fs gs : List (Factor (List Fraction))) → with_factors xs (fs ++ gs) ≡ with_factors (with_factors xs fs) gs
factors_append xs [] gs = refl
factors_append xs (f ∷ fs) gs = factors_append (with_factor xs f) fs gs

fastest_are : (c : Fraction) (fs gs : List (List Fraction)) (more : List (Factor (List Fraction)))
    → with_factors (map (mul c) (columns fs)) (in_turn gs more) ≡ with_factors (map (mul c) (columns (fs ++ gs))) more
fastest_are c fs [] more = ap (λ l. with_factors (map (mul c) (columns l)) more) (sym (whole fs))
  where
    whole : (fs : List (List Fraction)) → fs ++ [] ≡ fs
    whole [] = refl
    whole (f ∷ fs) = ap (λ l. f ∷ l) (whole fs)
fastest_are c fs (g ∷ gs) more =
    ap (λ l. with_factors l (in_turn gs more)) (outer_scaled c (columns fs) g ∙ ap (map (mul c)) (sym (columns_append fs g)))
    ∙ fastest_are c (fs ++ g ∷ []) gs more
    ∙ ap (λ l. with_factors (map (mul c) (columns l)) more) (append_assoc fs (g ∷ []) gs)

slowest_are : (c : Fraction) (gs fs : List (List Fraction)) (xs : List Fraction) (more : List (Factor (List Fraction))) → with_factors xs more ≡ map (mul c) (columns fs)
    → with_factors xs (more ++ from_last gs []) ≡ map (mul c) (columns (gs ++ fs))
slowest_are c [] fs xs more e = factors_append xs more [] ∙ e
slowest_are c (g ∷ gs) fs xs more e =
    ap (λ l. with_factors xs (more ++ l)) (moved gs (Slowest g ∷ []))
    ∙ ap (with_factors xs) (sym (append_assoc more (from_last gs []) (Slowest g ∷ [])))
    ∙ factors_append xs (more ++ from_last gs []) (Slowest g ∷ [])
    ∙ ap (outer g) (slowest_are c gs fs xs more e)
    ∙ scaled_outer c g (columns (gs ++ fs))
  where
    moved : (gs : List (List Fraction)) (more : List (Factor (List Fraction))) → from_last gs more ≡ from_last gs [] ++ more
    moved [] more = refl
    moved (g ∷ gs) more = moved gs (Slowest g ∷ more) ∙ sym (append_assoc (from_last gs []) (Slowest g ∷ []) more) ∙ sym (ap (λ l. l ++ more) (moved gs (Slowest g ∷ [])))

-- derivatives ds and coefficients cs, from c on
pub columns_are : (c : Fraction) (cs ds : List (List Fraction)) → with_factors (c ∷ []) (factors_in cs ds) ≡ map (mul c) (columns (cs ++ ds))
columns_are c cs ds =
    slowest_are c cs ds (c ∷ []) (in_turn ds [])
    (ap (λ x. with_factors (x ∷ []) (in_turn ds [])) (sym (mul_one c)) ∙ fastest_are c [] ds [])
