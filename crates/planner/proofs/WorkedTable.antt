-- Worked: the one table of u*v with functions of degree 1 on intervals
use Rattle.std.proofs.Common.{◌≡◌, [], ◌∷◌, ◌++◌, refl, ap, ap₂, ◌∙◌, lit<}
use Rattle.algebra.specs.Fraction.{add, inverse, is_zero_fraction, mul, negative, one_fraction, zero_fraction}
use Rattle.calculus.specs.Mass.{sixth, third}
use Rattle.refint.specs.Examples.{mass_layout, mass_monomial}
use Rattle.refint.proofs.WorkedItems.{mass_items}
use Rattle.tensors.specs.Rows.{rows_of}
use Rattle.kernel_statements.specs.Counted.{counted_rows, table_of}
use Rattle.planner.specs.Kernels.{kernel_tables}

mass_rows : rows_of mass_layout mass_monomial ≡ (third ∷ []) ∷ (sixth ∷ []) ∷ (sixth ∷ []) ∷ (third ∷ []) ∷ []
unfolding rows_of
mass_rows =
    ap₂ (λ x r. x ∷ r) (mass_items 0 0 (lit< tt) (lit< tt))
    (ap₂ (λ x r. x ∷ r) (mass_items 0 1 (lit< tt) (lit< tt))
    (ap₂ (λ x r. x ∷ r) (mass_items 1 0 (lit< tt) (lit< tt)) (ap (λ x. x ∷ []) (mass_items 1 1 (lit< tt) (lit< tt)))))

-- each other row is a multiple of the first
mass_counted : counted_rows ((third ∷ []) ∷ (sixth ∷ []) ∷ (sixth ∷ []) ∷ (third ∷ []) ∷ []) ≡ (third ∷ []) ∷ []
unfolding add inverse is_zero_fraction mul negative one_fraction zero_fraction
mass_counted = refl

pub mass_table : kernel_tables mass_layout (mass_monomial ∷ []) ≡ (third ∷ []) ∷ []
mass_table = ap (λ rows. table_of (counted_rows rows) ++ []) mass_rows ∙ ap (λ found. table_of found ++ []) mass_counted
