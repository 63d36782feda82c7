-- The functions that occur in a form have what all its functions have, and the numbers of its coefficients rise
use Rattle.std.proofs.Common.{◌≡◌, ℕ, zero, suc, ◌+◌, ◌≤◌, ◌||◌, Bool, true, false, if◌then◌else◌, List, ◌∷◌, refl, arith}
use Rattle.std.specs.List.{AllByRecursion}
use Rattle.ufl_tree.specs.declared.function.Function.{Function}
use Rattle.ufl_tree.specs.declared.function.Role.{Role}
use Rattle.ufl_tree.specs.declared.function.Role.TheVariants.{Coefficient}
use Rattle.ufl_tree.specs.FormTerm.{FormTerm, integral, sum, scale, left, right, action, adjoint, derivative}
use Rattle.ufl_tree.specs.Functions.{EachFunctionOfAll, Each, EachPart}
use Rattle.ufl_tree.specs.Typed.{Typed, number, identity, function, piece, one, two, power, index, partial, tensor, list, variable, diff, TypedList, no_items, item}
use Rattle.ufl_meaning.specs.Environment.{same_role}
use Rattle.monos.specs.Layout.{AreRising}
use Rattle.form_values.specs.CellLayout.{parts_of, coefficient_space, places_from}
use Rattle.form_values.specs.Problem.{Problem}
use Rattle.form_layouts.specs.Occurring.{occurs_in, occurs_in_all, occurs, coefficients_from}

-- a function of the role, with both
pub record Found (P Q : Function → Type 0) (r : Role) : Type 0 where
  pub found : Function
  pub role : same_role found.role r ≡ true
  pub first : P found
  pub second : Q found

abbrev AllHave : (Function → Type 0) → TypedList → Type 0
AllHave P = EachFunctionOfAll (λ k f. P f) (λ k f n. P f)

either : (A : Type 0) (a b : Bool) → (a ≡ true → A) → (b ≡ true → A) → (a || b) ≡ true → A
either A true b f g h = f refl
either A false b f g h = g h

none : (A : Type 0) → false ≡ true → A
none A h = cc

module _ (P Q : Function → Type 0) (r : Role) where
  mutual
    pub found_in : (e : Typed) → Each P e → Each Q e → occurs_in r e ≡ true → Found P Q r
    found_in (number k c) p q h = none _ h
    found_in (identity k n) p q h = none _ h
    found_in (function k f) p q h = record { found = f; role = h; first = p; second = q }
    found_in (piece k f n) p q h = record { found = f; role = h; first = p; second = q }
    found_in (one k op a) p q h = found_in a p q h
    found_in (two k op a b) p q h = either _ (occurs_in r a) (occurs_in r b) (λ e. found_in a p.0 q.0 e) (λ e. found_in b p.1 q.1 e) h
    found_in (power k a n) p q h = found_in a p q h
    found_in (index k a at) p q h = found_in a p q h
    found_in (partial k a i) p q h = found_in a p q h
    found_in (tensor k a by) p q h = found_in a p q h
    found_in (list k ts) p q h = found_in_all ts p q h
    found_in (variable k l a) p q h = found_in a p q h
    found_in (diff k l by a) p q h = found_in a p q h

    found_in_all : (ts : TypedList) → AllHave P ts → AllHave Q ts → occurs_in_all r ts ≡ true → Found P Q r
    found_in_all no_items p q h = none _ h
    found_in_all (item t ts) p q h = either _ (occurs_in r t) (occurs_in_all r ts) (λ e. found_in t p.0 q.0 e) (λ e. found_in_all ts p.1 q.1 e) h

  pub found : (f : FormTerm) → EachPart (Each P) (λ f g. P g) f → EachPart (Each Q) (λ f g. Q g) f → occurs r f ≡ true → Found P Q r
  found (integral on e) p q h = found_in e p q h
  found (sum f g) p q h = either _ (occurs r f) (occurs r g) (λ e. found f p.0 q.0 e) (λ e. found g p.1 q.1 e) h
  found (scale c f) p q h = found f p q h
  found (left f) p q h = found f p q h
  found (right f) p q h = found f p q h
  found (action f last g) p q h =
      either _ (occurs r f) (same_role g.role r) (λ e. found f p.0 q.0 e) (λ e. record { found = g; role = e; first = p.1; second = q.1 }) h
  found (adjoint f) p q h = found f p q h
  found (derivative f w du) p q h =
      either _ (occurs r f) (same_role du.role r) (λ e. found f p.0 q.0 e) (λ e. record { found = du; role = e; first = p.2; second = q.2 }) h

-- ---- the coefficients that occur
all_chosen : (P : ℕ → Type 0) (b : Bool) (n : ℕ) (ns : List ℕ) → (b ≡ true → P n) → AllByRecursion P ns → AllByRecursion P (if b then n ∷ ns else ns)
all_chosen P true n ns here rest = (here refl, rest)
all_chosen P false n ns here rest = rest

pub all_coefficients : (P : ℕ → Type 0) (f : FormTerm) → ((n : ℕ) → occurs (Coefficient n) f ≡ true → P n) → (n count : ℕ) → AllByRecursion P (coefficients_from f n count)
all_coefficients P f each n zero = tt
all_coefficients P f each n (suc count) =
    all_chosen P (occurs (Coefficient n) f) n (coefficients_from f (suc n) count) (each n) (all_coefficients P f each (suc n) count)

rising_chosen : (p : Problem) (offset low n : ℕ) (ns : List ℕ) (b : Bool) → low ≤ n → ((at least : ℕ) → least ≤ suc n → AreRising least (places_from p at ns))
    → AreRising low (places_from p offset (if b then n ∷ ns else ns))
rising_chosen p offset low n ns true h rest = (h, rest (offset + (parts_of (coefficient_space p n)).local) (n + 1) (omega arith))
rising_chosen p offset low n ns false h rest = rest offset low (omega arith)

rising_from : (p : Problem) (f : FormTerm) (offset low n count : ℕ) → low ≤ n → AreRising low (places_from p offset (coefficients_from f n count))
rising_from p f offset low n zero h = tt
rising_from p f offset low n (suc count) h =
    rising_chosen p offset low n (coefficients_from f (suc n) count) (occurs (Coefficient n) f) h (λ at least few. rising_from p f at least (suc n) count few)

pub coefficients_rise : (p : Problem) (f : FormTerm) (count : ℕ) → AreRising 0 (places_from p 0 (coefficients_from f 0 count))
coefficients_rise p f count = rising_from p f 0 0 0 count (omega arith)
