-- The functions that were found so far, and those of a tree or a form with them
use Rattle.std.specs.Prelude.{ℕ, suc, ◌||◌, Bool, List, [], ◌∷◌, if◌then◌else◌}
use Rattle.ufl_tree.specs.declared.function.Role.{Role}
use Rattle.ufl_tree.specs.declared.function.Role.TheVariants.{Position, Coefficient}
use Rattle.ufl_tree.specs.FormTerm.{FormTerm}
use Rattle.ufl_tree.specs.Typed.{Typed, TypedList}
use Rattle.ufl_meaning.specs.Environment.{same_role}
use Rattle.form_layouts.specs.declared.marks.Marks.{Marks}
use Rattle.form_layouts.specs.Occurring.{occurs_in, occurs_in_all, occurs}

-- the flags of the numbers from n on, with those of which the test is true
abbrev pub with_numbers : (ℕ → Bool) → ℕ → List Bool → List Bool
with_numbers test n [] = []
with_numbers test n (b ∷ bs) = (b || test n) ∷ with_numbers test (suc n) bs

unfoldable pub with_found : (Role → Bool) → Marks → Marks
with_found test m = record {
  coefficients = with_numbers (λ n. test (Coefficient n)) 0 m.coefficients;
  position = m.position || test Position;
}

unfoldable pub with_role : Role → Marks → Marks
with_role r = with_found (same_role r)

unfoldable pub with_tree : Typed → Marks → Marks
with_tree e = with_found (λ r. occurs_in r e)

unfoldable pub with_trees : TypedList → Marks → Marks
with_trees es = with_found (λ r. occurs_in_all r es)

unfoldable pub with_form : FormTerm → Marks → Marks
with_form f = with_found (λ r. occurs r f)

-- the numbers of the flags that are set, of those from n on
abbrev pub numbers_from : ℕ → List Bool → List ℕ
numbers_from n [] = []
numbers_from n (b ∷ bs) = if b then n ∷ numbers_from (suc n) bs else numbers_from (suc n) bs
