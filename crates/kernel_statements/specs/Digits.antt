-- The factors of the columns of a monomial, and the nodes at which it has rows
use Rattle.std.specs.Prelude.{ℕ, ◌+◌, List, [], ◌∷◌, ◌++◌, map, Option, None, Some, slice_get}
use Rattle.std.specs.List.{flat_map}
use Rattle.spaces.specs.declared.parts.Part.{Part}
use Rattle.spaces.specs.declared.parts.Parts.{Parts}
use Rattle.ufl_tree.specs.declared.function.Role.{Role}
use Rattle.ufl_tree.specs.declared.function.Role.TheVariants.{Test, Trial, Position, Coefficient}
use Rattle.monos.specs.declared.layout.CoefPlace.{CoefPlace}
use Rattle.monos.specs.declared.layout.Layout.{Layout}
use Rattle.monos.specs.declared.mono.Atom.{Atom}
use Rattle.monos.specs.Layout.{place_of, role_parts}
use Rattle.monos.specs.Monomial.{directions}
use Rattle.refint.specs.Local.{entries_of}
use Rattle.monomial_products.specs.declared.support.Support.{Support}
use Rattle.monomial_products.specs.declared.support.Support.TheVariants.{Everywhere, OnPart, Nowhere}
use Rattle.kernel_runs.specs.declared.digit.Digit.{Digit}
use Rattle.kernel_runs.specs.declared.digit.Digit.TheVariants.{Growth, Weights, Corners}

-- ---- the values of an atom that is no argument
abbrev pub part_digit : ℕ → Option Part → Digit
part_digit offset None = Weights 0 0
part_digit offset (Some p) = Weights (offset + p.offset) p.nodes

abbrev pub corner_digit : ℕ → Option Part → Digit
corner_digit i None = Weights 0 0
corner_digit i (Some p) = Corners i p.nodes

abbrev pub offset_in : Option CoefPlace → ℕ
offset_in None = 0
offset_in (Some c) = c.offset

abbrev pub digit_of : Layout → Role → ℕ → Option Digit
digit_of l Test i = None
digit_of l Trial i = None
digit_of l Position i = Some (corner_digit i (slice_get (role_parts l Position) i))
digit_of l (Coefficient n) i =
    Some (part_digit (offset_in (place_of l.coefs n)) (slice_get (role_parts l (Coefficient n)) i))

abbrev pub with_digit : Option Digit → List Digit → List Digit
with_digit None digits = digits
with_digit (Some g) digits = g ∷ digits

abbrev pub coefficient_digits : Layout → List Atom → List Digit
coefficient_digits l [] = []
coefficient_digits l (x ∷ xs) = with_digit (digit_of l x.f.role x.component) (coefficient_digits l xs)

-- ---- the growths in the directions of the derivatives
abbrev pub direction_digits : List Atom → List Digit
direction_digits xs = map Growth (flat_map directions xs)

-- ---- the nodes of an argument at which a monomial has rows: from the first to before the end
abbrev pub first_node : Support → ℕ
first_node Everywhere = 0
first_node (OnPart p) = p.offset
first_node Nowhere = 0

abbrev pub end_node : Parts → Support → ℕ
end_node ps Everywhere = entries_of ps
end_node ps (OnPart p) = p.offset + p.nodes
end_node ps Nowhere = 0
