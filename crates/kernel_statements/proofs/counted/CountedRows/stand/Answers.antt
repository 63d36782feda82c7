use Rattle.std.proofs.Common.{◌≡◌, ◌∙◌, ◌<◌, ◌++◌, ◌∷◌, [], List, Option, Some, None, Bool, true, false, ◌&&◌, length, map, get_or, sym, ap, subst, arith}
use Rattle.std.proofs.lemmas.List.{length-map}
use Rattle.std.specs.Prelude.{nat_eq}
use Rattle.std.specs.Ordering.{int_eq}
use Rattle.algebra.specs.Fraction.{Fraction, inverse, is_zero_fraction, mul, one_fraction}
use Rattle.ratio.specs.declared.reduced.Ratio.{Ratio}
use Rattle.ratio.specs.Value.{fraction_of}
use Rattle.ratio.proofs.Equality.{same_ratio}
use Rattle.c_unit.specs.Meaning.{fractions_of}
use Rattle.kernel_statements.specs.Counted.{counted_with, first_multiple, is_zero_row, multiplier, shape, standing, Own, Times, scaled_standing}
use Rattle.kernel_statements.specs.Found.{IsFound}
use Rattle.kernel_statements.proofs.FoundLaws.{by_leading, counted_new, counted_old, equal_tests, found_count, found_shapes, kept_below, kept_multiplier, kept_nonzero, of_leading, scaled_one, scaled_other, standing_new, standing_old}
use Rattle.kernel_statements.proofs.counted.CountedRows.stand.Goals as goal

pub set_shape-requires-clause-fits : goal.set_shape-requires-clause-fits
set_shape-requires-clause-fits c = by_leading c.in-Some.leading c.args.row.now c.requires.fits c.in-Some.ensures.0 c.in-Some.ensures.1.0

pub place-requires-clause-whole : goal.place-requires-clause-whole
place-requires-clause-whole c = found_shapes c.requires.found.0 c.args.self.now c.requires.found.1

pub returns-in_default-place-clause-value : goal.returns-in_default-place-clause-value
returns-in_default-place-clause-value c found h =
    let shaped : fractions_of c.as_slice.result.now ≡ shape (fractions_of c.args.row.now) =
    ap fractions_of c.as_slice.ensures.value ∙ c.in_ok-set_shape.ensures ∙ ap (λ y. map (λ x. mul x (inverse y)) (fractions_of c.args.row.now)) c.in-Some.ensures.1.0 in
    let wide : length (fractions_of c.args.row.now) ≡ c.args.self.now.width = length-map c.args.row.now fraction_of ∙ c.requires.width in
    let none : first_multiple 0 found (fractions_of c.args.row.now) ≡ None = sym (c.in_default-place.ensures found (fractions_of c.args.row.now) h wide c.in-Some.ensures.0 shaped) in
    ap Own (c.count-own.ensures ∙ sym (found_count found c.args.self.now h)) ∙ sym (standing_new found (fractions_of c.args.row.now) c.in-Some.ensures.0 none)

pub returns-in_default-place-clause-found : goal.returns-in_default-place-clause-found
returns-in_default-place-clause-found c found h =
    let shaped : fractions_of c.as_slice.result.now ≡ shape (fractions_of c.args.row.now) =
    ap fractions_of c.as_slice.ensures.value ∙ c.in_ok-set_shape.ensures ∙ ap (λ y. map (λ x. mul x (inverse y)) (fractions_of c.args.row.now)) c.in-Some.ensures.1.0 in
    let wide : length (fractions_of c.args.row.now) ≡ c.args.self.now.width = length-map c.args.row.now fraction_of ∙ c.requires.width in
    let none : first_multiple 0 found (fractions_of c.args.row.now) ≡ None = sym (c.in_default-place.ensures found (fractions_of c.args.row.now) h wide c.in-Some.ensures.0 shaped) in
    let own : fractions_of c.as_slice-in_default-place.result.now ≡ shape (fractions_of c.args.row.now) =
    ap fractions_of c.as_slice-in_default-place.ensures.value ∙ c.in_ok-set_shape.ensures ∙ ap (λ y. map (λ x. mul x (inverse y)) (fractions_of c.args.row.now)) c.in-Some.ensures.1.0 in
    subst (λ rows. IsFound rows c.push.new.self) (sym (counted_new found (fractions_of c.args.row.now) c.in-Some.ensures.0 none))
    (c.in_ok-push.ensures.found found h c.requires.width c.in-Some.ensures.1.0 own)

pub index-requires : goal.index-requires
index-requires c =
    let shaped : fractions_of c.as_slice.result.now ≡ shape (fractions_of c.args.row.now) =
    ap fractions_of c.as_slice.ensures.value ∙ c.in_ok-set_shape.ensures ∙ ap (λ y. map (λ x. mul x (inverse y)) (fractions_of c.args.row.now)) c.in-Some.ensures.1.0 in
    let wide : length (fractions_of c.args.row.now) ≡ c.args.self.now.width = length-map c.args.row.now fraction_of ∙ c.requires.width in
    let some : first_multiple 0 c.requires.found.0 (fractions_of c.args.row.now) ≡ Some c.in-Some-place.place = sym (c.in-Some-place.ensures c.requires.found.0 (fractions_of c.args.row.now) c.requires.found.1 wide c.in-Some.ensures.0 shaped) in
    let below = kept_below c.requires.found.0 c.args.self.now (fractions_of c.args.row.now) c.in-Some-place.place c.requires.found.1 some in
    omega (arith, below, c.args.self.now.leading.ok)

pub quotient-by-requires-clause-some : goal.quotient-by-requires-clause-some
quotient-by-requires-clause-some c =
    let shaped : fractions_of c.as_slice.result.now ≡ shape (fractions_of c.args.row.now) =
    ap fractions_of c.as_slice.ensures.value ∙ c.in_ok-set_shape.ensures ∙ ap (λ y. map (λ x. mul x (inverse y)) (fractions_of c.args.row.now)) c.in-Some.ensures.1.0 in
    let wide : length (fractions_of c.args.row.now) ≡ c.args.self.now.width = length-map c.args.row.now fraction_of ∙ c.requires.width in
    let some : first_multiple 0 c.requires.found.0 (fractions_of c.args.row.now) ≡ Some c.in-Some-place.place = sym (c.in-Some-place.ensures c.requires.found.0 (fractions_of c.args.row.now) c.requires.found.1 wide c.in-Some.ensures.0 shaped) in
    kept_nonzero c.requires.found.0 c.args.self.now (fractions_of c.args.row.now) c.in-Some-place.place c.index.result.now c.requires.found.1 c.in-Some.ensures.0 some c.index.ensures

pub quotient-by-requires-clause-fits : goal.quotient-by-requires-clause-fits
quotient-by-requires-clause-fits c =
    let shaped : fractions_of c.as_slice.result.now ≡ shape (fractions_of c.args.row.now) =
    ap fractions_of c.as_slice.ensures.value ∙ c.in_ok-set_shape.ensures ∙ ap (λ y. map (λ x. mul x (inverse y)) (fractions_of c.args.row.now)) c.in-Some.ensures.1.0 in
    let wide : length (fractions_of c.args.row.now) ≡ c.args.self.now.width = length-map c.args.row.now fraction_of ∙ c.requires.width in
    let some : first_multiple 0 c.requires.found.0 (fractions_of c.args.row.now) ≡ Some c.in-Some-place.place = sym (c.in-Some-place.ensures c.requires.found.0 (fractions_of c.args.row.now) c.requires.found.1 wide c.in-Some.ensures.0 shaped) in
    of_leading c.in-Some.leading c.index.result.now c.in-Some-place.place c.args.row.now c.args.self.now.leading.items c.requires.own
    (kept_below c.requires.found.0 c.args.self.now (fractions_of c.args.row.now) c.in-Some-place.place c.requires.found.1 some) c.index.ensures c.in-Some.ensures.0 c.in-Some.ensures.1.0

pub returns-then-eq-clause-value : goal.returns-then-eq-clause-value
returns-then-eq-clause-value c found h =
    let shaped : fractions_of c.as_slice.result.now ≡ shape (fractions_of c.args.row.now) =
    ap fractions_of c.as_slice.ensures.value ∙ c.in_ok-set_shape.ensures ∙ ap (λ y. map (λ x. mul x (inverse y)) (fractions_of c.args.row.now)) c.in-Some.ensures.1.0 in
    let wide : length (fractions_of c.args.row.now) ≡ c.args.self.now.width = length-map c.args.row.now fraction_of ∙ c.requires.width in
    let some : first_multiple 0 found (fractions_of c.args.row.now) ≡ Some c.in-Some-place.place = sym (c.in-Some-place.ensures found (fractions_of c.args.row.now) h wide c.in-Some.ensures.0 shaped) in
    let by : multiplier (get_or found c.in-Some-place.place []) (fractions_of c.args.row.now) ≡ fraction_of c.quotient-by.result =
    kept_multiplier found c.args.self.now (fractions_of c.args.row.now) c.in-Some-place.place c.index.result.now h c.in-Some.ensures.0 some c.index.ensures
    ∙ ap (λ x. mul x (inverse (fraction_of c.index.result.now))) (sym c.in-Some.ensures.1.0) ∙ sym c.quotient-by.ensures in
    let one : fraction_of c.quotient-by.result ≡ one_fraction = ap fraction_of ((equal_tests c.quotient-by.result c.one.result).0 (sym c.eq.ensures ∙ c.if-eq.true)) ∙ c.one.ensures in
    sym (standing_old found (fractions_of c.args.row.now) c.in-Some-place.place c.in-Some.ensures.0 some ∙ scaled_one (multiplier (get_or found c.in-Some-place.place []) (fractions_of c.args.row.now)) c.in-Some-place.place (by ∙ one))

pub returns-then-eq-clause-found : goal.returns-then-eq-clause-found
returns-then-eq-clause-found c found h =
    let shaped : fractions_of c.as_slice.result.now ≡ shape (fractions_of c.args.row.now) =
    ap fractions_of c.as_slice.ensures.value ∙ c.in_ok-set_shape.ensures ∙ ap (λ y. map (λ x. mul x (inverse y)) (fractions_of c.args.row.now)) c.in-Some.ensures.1.0 in
    let wide : length (fractions_of c.args.row.now) ≡ c.args.self.now.width = length-map c.args.row.now fraction_of ∙ c.requires.width in
    let some : first_multiple 0 found (fractions_of c.args.row.now) ≡ Some c.in-Some-place.place = sym (c.in-Some-place.ensures found (fractions_of c.args.row.now) h wide c.in-Some.ensures.0 shaped) in
    subst (λ rows. IsFound rows c.args.self.now) (sym (counted_old found (fractions_of c.args.row.now) c.in-Some-place.place c.in-Some.ensures.0 some)) h

pub returns-else-eq-clause-value : goal.returns-else-eq-clause-value
returns-else-eq-clause-value c found h =
    let shaped : fractions_of c.as_slice.result.now ≡ shape (fractions_of c.args.row.now) =
    ap fractions_of c.as_slice.ensures.value ∙ c.in_ok-set_shape.ensures ∙ ap (λ y. map (λ x. mul x (inverse y)) (fractions_of c.args.row.now)) c.in-Some.ensures.1.0 in
    let wide : length (fractions_of c.args.row.now) ≡ c.args.self.now.width = length-map c.args.row.now fraction_of ∙ c.requires.width in
    let some : first_multiple 0 found (fractions_of c.args.row.now) ≡ Some c.in-Some-place.place = sym (c.in-Some-place.ensures found (fractions_of c.args.row.now) h wide c.in-Some.ensures.0 shaped) in
    let by : multiplier (get_or found c.in-Some-place.place []) (fractions_of c.args.row.now) ≡ fraction_of c.quotient-by.result =
    kept_multiplier found c.args.self.now (fractions_of c.args.row.now) c.in-Some-place.place c.index.result.now h c.in-Some.ensures.0 some c.index.ensures
    ∙ ap (λ x. mul x (inverse (fraction_of c.index.result.now))) (sym c.in-Some.ensures.1.0) ∙ sym c.quotient-by.ensures in
    let other : fraction_of c.quotient-by.result ≡ one_fraction → ⊥ = λ e.
    apart (sym c.if-eq.false ∙ c.eq.ensures ∙ (equal_tests c.quotient-by.result c.one.result).1 (same_ratio c.quotient-by.result c.one.result (e ∙ sym c.one.ensures))) in
    sym (standing_old found (fractions_of c.args.row.now) c.in-Some-place.place c.in-Some.ensures.0 some
    ∙ scaled_other (multiplier (get_or found c.in-Some-place.place []) (fractions_of c.args.row.now)) c.in-Some-place.place (λ e. other (sym by ∙ e))
    ∙ ap (λ x. Times x c.in-Some-place.place) by)
  where
    apart : false ≡ true → ⊥
    apart e = cc

pub returns-else-eq-clause-found : goal.returns-else-eq-clause-found
returns-else-eq-clause-found c found h =
    let shaped : fractions_of c.as_slice.result.now ≡ shape (fractions_of c.args.row.now) =
    ap fractions_of c.as_slice.ensures.value ∙ c.in_ok-set_shape.ensures ∙ ap (λ y. map (λ x. mul x (inverse y)) (fractions_of c.args.row.now)) c.in-Some.ensures.1.0 in
    let wide : length (fractions_of c.args.row.now) ≡ c.args.self.now.width = length-map c.args.row.now fraction_of ∙ c.requires.width in
    let some : first_multiple 0 found (fractions_of c.args.row.now) ≡ Some c.in-Some-place.place = sym (c.in-Some-place.ensures found (fractions_of c.args.row.now) h wide c.in-Some.ensures.0 shaped) in
    subst (λ rows. IsFound rows c.args.self.now) (sym (counted_old found (fractions_of c.args.row.now) c.in-Some-place.place c.in-Some.ensures.0 some)) h
