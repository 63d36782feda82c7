use Rattle.std.proofs.Common.{◌≡◌, ◌-◌, ◌*◌, ◌^◌, ◌++◌, [], ◌∷◌, map, arith, ap, sym, ◌∙◌, subst}
use Rattle.std.specs.List.{flat_map}
use Rattle.calculus.specs.Polynomial.{derivative}
use Rattle.polyalg.specs.Prelude.{value_of}
use Rattle.refint.specs.Local.{numbers_below}
use Rattle.lagrange.proofs.Sizes.{never}
use Rattle.std.proofs.Common.{refl}
use Rattle.basis_products.specs.Functions.{all_along, AreBounded}
use Rattle.basis_products.proofs.FunctionLaws.{along_more, all_more, step_few, start_within}
use Rattle.basis_products.proofs.factor.derivatives_of.Goals as goal

pub loop-init : goal.loop-init
loop-init c =
    let one : c.push.new.self.items ≡ c.args.function ∷ [] = c.in_ok-push.ensures.items ∙ ap (λ r. r ++ c.args.function ∷ []) c.new-all.ensures.items in
    record { value = ap (map value_of) one; bounds = λ n k b h g f. start_within c.args.d n k b c.args.function _ one f }

pub loop-preserved : goal.loop-preserved
loop-preserved c = record {
  value = c.in_ok-all.ensures.value
      ∙ ap (λ r. flat_map (λ i. map (derivative i) r) (numbers_below c.args.d)) (ap (map value_of) c.as_slice.ensures.value ∙ c.loop.invariant.value)
      ∙ sym (along_more c.args.d c.loop.counter (value_of c.args.function));
  bounds = λ n k b h g f.
      all_more c.args.d n k b c.loop.counter _ h
      (c.in_ok-all.ensures.bounds (n - c.loop.counter) k (b * 3 ^ c.loop.counter) g
      (subst (AreBounded c.args.d (n - c.loop.counter) k (b * 3 ^ c.loop.counter)) (sym c.as_slice.ensures.value) (c.loop.invariant.bounds n k b h g f)));
}

pub returns-in_err-all-clause-fits : goal.returns-in_err-all-clause-fits
returns-in_err-all-clause-fits c n l b h g s w f =
    never _ c.from_residual-in_err-all.result _ c.in_err-all.field-0.0 c.from_residual-in_err-all.ensures.0 c.from_residual-in_err-all.ensures.1 refl
    (c.in_err-all.ensures.fits (n - c.loop.counter) l (b * 3 ^ c.loop.counter) s (step_few n c.loop.counter b h (omega arith) w)
    (subst (AreBounded c.args.d (n - c.loop.counter) l (b * 3 ^ c.loop.counter)) (sym c.as_slice.ensures.value) (c.loop.invariant.bounds n l b h g f)))

pub returns-clause-value : goal.returns-clause-value
returns-clause-value c =
    let all : c.loop.counter ≡ c.args.derivatives = omega arith in
    c.loop.invariant.value ∙ ap (λ m. all_along c.args.d m (value_of c.args.function)) all

pub returns-clause-bounds : goal.returns-clause-bounds
returns-clause-bounds c n l b h g f =
    let all : c.loop.counter ≡ c.args.derivatives = omega arith in
    subst (λ m. AreBounded c.args.d (n - m) l (b * 3 ^ m) c.loop.all.items) all (c.loop.invariant.bounds n l b h g f)
