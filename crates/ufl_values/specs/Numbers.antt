-- Numbers: steps that may pass, and whole numbers as indices, sizes and exponents
use Rattle.std.specs.Prelude.{ℕ, zero, suc, ℤ, pos, negsuc, nat_le, ◌==◌, if◌then◌else◌, List, [], ◌∷◌, ◌++◌, Option, None, Some, Result, Ok, Err}
use Rattle.algebra.specs.Fraction.{Fraction, one_fraction}
use Rattle.algebra.specs.LowestTerms.{top, bottom}
use Rattle.algebra.specs.Steps.{product}
use Rattle.ratio.specs.declared.reduced.Ratio.{Ratio}
use Rattle.ratio.specs.Value.{fraction_of}
use Rattle.ufl_tree.specs.declared.function.Ix.{Ix}
use Rattle.ufl_tree.specs.declared.function.Ix.TheVariants as x
use Rattle.ufl_values.specs.declared.refusal.Reason.{Reason}
use Rattle.ufl_values.specs.declared.refusal.Reason.TheVariants as r
use Rattle.ufl_values.specs.declared.value.Value.{Value}
use Rattle.ufl_values.specs.declared.value.Value.TheVariants as v
use Rattle.ufl_values.specs.Exact.{exact}
use Rattle.ufl_values.specs.Answer.{and_then}

abbrev pub or_refusal : {A : Type 0} → Reason → Option A → Result A Reason
or_refusal e None = Err e
or_refusal e (Some x) = Ok x

abbrev pub exact_of : Option Fraction → Option Ratio
exact_of None = None
exact_of (Some x) = exact x

-- the number that a step came to, unless the step passes
abbrev pub stepped : Option Fraction → Result Ratio Reason
stepped q = or_refusal r.NumberRange (exact_of q)

abbrev pub numbered : Result Ratio Reason → Result Value Reason
numbered a = and_then a (λ c. Ok (v.Number c))

-- 255 stands for each whole number outside 0 to 255: no place takes it
abbrev pub byte_at : ℤ → ℕ
byte_at (pos n) = if nat_le n 255 then n else 255
byte_at (negsuc n) = 255

abbrev pub whole_number : Ratio → Option ℕ
whole_number c = if bottom (fraction_of c) == 1 then Some (byte_at (top (fraction_of c))) else None

abbrev pub count_at : ℤ → Option ℕ → Result ℕ Reason
count_at (pos n) o = or_refusal r.Kind o
count_at (negsuc n) o = Err r.Kind

-- a number of parts: a whole number that isn't negative
abbrev pub part_count : Value → Result ℕ Reason
part_count (v.Number c) = count_at (top (fraction_of c)) (whole_number c)
part_count _ = Err r.Kind

abbrev pub fixed : Option ℕ → Result Ix Reason
fixed None = Err r.Kind
fixed (Some n) = Ok (x.Fixed n)

-- an index of a component or a direction: an index or a whole number
abbrev pub index_of : Value → Result Ix Reason
index_of (v.Index n) = Ok (x.Named n)
index_of (v.Number c) = fixed (whole_number c)
index_of _ = Err r.Kind

-- the indices of several values, from the left, behind those that are found
abbrev pub indices_from : List Ix → List Value → Result (List Ix) Reason
indices_from found [] = Ok found
indices_from found (a ∷ others) = and_then (index_of a) (λ i. indices_from (found ++ i ∷ []) others)

abbrev pub indices_of : List Value → Result (List Ix) Reason
indices_of values = indices_from [] values

-- the only marker that is a whole number below 2^32
abbrev pub marker_at : ℤ → Result ℕ Reason
marker_at (pos n) = if nat_le n 4294967295 then Ok n else Err r.Kind
marker_at (negsuc n) = Err r.Kind

abbrev pub marker_of : Ratio → Result ℕ Reason
marker_of c = if bottom (fraction_of c) == 1 then marker_at (top (fraction_of c)) else Err r.Kind

-- the product of so many times a number: from the left, each step exact
abbrev pub power_from : ℕ → Fraction → Option Fraction → Option Fraction
power_from n x None = None
power_from zero x (Some y) = Some y
power_from (suc n) x (Some y) = power_from n x (product y x)

unfoldable pub power_of : Fraction → ℕ → Option Fraction
power_of x n = power_from n x (Some one_fraction)
