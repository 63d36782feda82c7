-- The run of the mass kernel
use Rattle.std.proofs.Common.{◌≡◌, ℕ, List, [], ◌∷◌, true, false, None, Some}
use Rattle.algebra.specs.Fraction.{Fraction, absolute, add, inverse, is_zero_fraction, mul, negative, zero_fraction}
use Rattle.algebra.specs.Steps.{difference, fits}
use Rattle.ratio.specs.declared.reduced.Ratio.{Ratio}
use Rattle.ratio.specs.Value.{fraction_of}
use Rattle.c_unit.specs.declared.unit.Array.TheVariants.{T, A}
use Rattle.c_unit.specs.declared.unit.Op.TheVariants as Op
use Rattle.c_unit.specs.declared.unit.CStmt.{CStmt, Set, Abs, Inv, Mul}
use Rattle.c_unit.specs.Meaning.{Slots, run_list}
use Rattle.kernel.specs.Ends.{Ends}
use Rattle.kernel.specs.Statements.{mass_statements, plain}
use Rattle.kernel.proofs.Rules.{difference_then, ends_further, product_then, reciprocal_then}

abbrev no_turns : List ℕ
no_turns = 0 ∷ 0 ∷ 0 ∷ 0 ∷ []

abbrev pub slots_at : Fraction → Fraction → List Fraction → List Fraction → Slots
slots_at x₀ x₁ t a = record { x = x₀ ∷ x₁ ∷ []; w = []; t = t; a = a }

abbrev pub zeros : List Fraction → List Fraction
zeros more = zero_fraction ∷ zero_fraction ∷ zero_fraction ∷ zero_fraction ∷ more

-- each entry as its item times the size of the volume factor, or Q where a step passes, or Z where the volume factor is 0
pub mass_run : (Q Z : Type 0) (P : Slots → Type 0) (ks : List (List Fraction)) (same other : Ratio) (x₀ x₁ : Fraction)
    → (difference x₁ x₀ ≡ None → Q)
    → (difference x₁ x₀ ≡ Some (add x₁ (negative x₀)) → is_zero_fraction (add x₁ (negative x₀)) ≡ true → Z)
    → (difference x₁ x₀ ≡ Some (add x₁ (negative x₀)) → is_zero_fraction (add x₁ (negative x₀)) ≡ false
    → (fits (mul (absolute (add x₁ (negative x₀))) (fraction_of same)) ≡ false → Q)
    × (fits (mul (absolute (add x₁ (negative x₀))) (fraction_of other)) ≡ false → Q)
    × (fits (mul (absolute (add x₁ (negative x₀))) (fraction_of same)) ≡ true → fits (mul (absolute (add x₁ (negative x₀))) (fraction_of other)) ≡ true
    → (t : List Fraction)
    → P (slots_at x₀ x₁ t
    (mul (absolute (add x₁ (negative x₀))) (fraction_of same) ∷ mul (absolute (add x₁ (negative x₀))) (fraction_of other)
    ∷ mul (absolute (add x₁ (negative x₀))) (fraction_of other) ∷ mul (absolute (add x₁ (negative x₀))) (fraction_of same) ∷ []))))
    → Ends Q Z P (run_list (mass_statements same other) ks 0 no_turns (slots_at x₀ x₁ (zeros (zero_fraction ∷ [])) (zeros [])))
mass_run Q Z P ks same other x₀ x₁ passes flat fit =
    let z : Fraction = zero_fraction in
    let v : Fraction = add x₁ (negative x₀) in
    let i : Fraction = inverse v in
    let h : Fraction = absolute v in
    let m : Fraction = fraction_of same in
    let q : Fraction = fraction_of other in
    let entries : List CStmt = Mul (plain A 0) (plain T 2) (plain T 3) ∷ Mul (plain A 1) (plain T 2) (plain T 4) ∷ Mul (plain A 2) (plain T 2) (plain T 4) ∷ Mul (plain A 3) (plain T 2) (plain T 3) ∷ [] in
    let items : List CStmt = Set (plain T 3) same ∷ Set (plain T 4) other ∷ entries in
    let run : List CStmt → Slots → _ = λ cs. run_list cs ks 0 no_turns in
    let at : List Fraction → List Fraction → Slots = slots_at x₀ x₁ in
    let T' : List Fraction = v ∷ i ∷ h ∷ m ∷ q ∷ [] in
    difference_then Q Z P x₁ x₀ Op.Sub x₁ x₀ (plain T 0) no_turns (at (zeros (z ∷ [])) (zeros [])) 1
    (run (Inv (plain T 1) (plain T 0) ∷ Abs (plain T 2) (plain T 0) ∷ items)) passes
    (λ some. reciprocal_then Q Z P v (plain T 1) no_turns (at (v ∷ zeros []) (zeros [])) 1 (run (Abs (plain T 2) (plain T 0) ∷ items)) (flat some)
    (λ apart. let known = fit some apart in
    ends_further Q Z P 1 (run items (at (v ∷ i ∷ h ∷ z ∷ z ∷ []) (zeros [])))
    (ends_further Q Z P 1 (run (Set (plain T 4) other ∷ entries) (at (v ∷ i ∷ h ∷ m ∷ z ∷ []) (zeros [])))
    (ends_further Q Z P 1 (run entries (at T' (zeros [])))
    (product_then Q Z P h m Op.Mul h m (plain A 0) no_turns (at T' (zeros [])) 1
    (run (Mul (plain A 1) (plain T 2) (plain T 4) ∷ Mul (plain A 2) (plain T 2) (plain T 4) ∷ Mul (plain A 3) (plain T 2) (plain T 3) ∷ [])) known.0
    (λ first. product_then Q Z P h q Op.Mul h q (plain A 1) no_turns (at T' (mul h m ∷ z ∷ z ∷ z ∷ [])) 1
    (run (Mul (plain A 2) (plain T 2) (plain T 4) ∷ Mul (plain A 3) (plain T 2) (plain T 3) ∷ [])) known.1
    (λ second. product_then Q Z P h q Op.Mul h q (plain A 2) no_turns (at T' (mul h m ∷ mul h q ∷ z ∷ z ∷ [])) 1
    (run (Mul (plain A 3) (plain T 2) (plain T 3) ∷ [])) known.1
    (λ third. product_then Q Z P h m Op.Mul h m (plain A 3) no_turns (at T' (mul h m ∷ mul h q ∷ mul h q ∷ z ∷ [])) 1 (run []) known.0
    (λ fourth. known.2 first second T')))))))))
