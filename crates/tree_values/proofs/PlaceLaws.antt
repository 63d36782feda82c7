-- Places of components in the flat list
use Rattle.std.proofs.Common.{◌≡◌, ℕ, ◌+◌, ◌*◌, refl, sym, ap, ◌∙◌, List, [], ◌∷◌, Option, None, Some, arith, nat_lt, true, false, Bool, if◌then◌else◌}
use Rattle.std.proofs.lemmas.Bool.Decides.{nat_tests}
use Rattle.spaces.specs.Space.{Space}
use Rattle.spaces.specs.Reading.{space_of}
use Rattle.spaces.specs.declared.element_tree.ElementTree.{ElementTree}
use Rattle.ufl_tree.specs.Indices.{place}
use Rattle.ufl_tree.specs.Places.{element_shape}
use Rattle.tree_values.specs.Component.{spot_of}
use Rattle.tree_values.specs.declared.component.Spot.{Spot}
use Rattle.tree_values.specs.declared.component.Spot.TheVariants.{Scalar, Vector, Matrix}

-- the place in a shape of at most two sizes, by the component's length
abbrev pub spot_place : List ℕ → Spot → Option ℕ
spot_place [] Scalar = Some 0
spot_place (d ∷ []) (Vector i) = if nat_lt i d then Some i else None
spot_place (d ∷ e ∷ []) (Matrix i j) = if nat_lt i d then (if nat_lt j e then Some (i * e + j) else None) else None
spot_place _ _ = None

abbrev none : Option ℕ
none = None

never : (b : Bool) → (if b then None else None) ≡ none
never true = refl
never false = refl

pub place_scalar : (b : List ℕ) → place [] b ≡ spot_place [] (spot_of b)
place_scalar [] = refl
place_scalar (i ∷ []) = refl
place_scalar (i ∷ j ∷ []) = refl
place_scalar (i ∷ j ∷ k ∷ b) = refl

pub place_vector : (d : ℕ) (b : List ℕ) → place (d ∷ []) b ≡ spot_place (d ∷ []) (spot_of b)
place_vector d [] = refl
place_vector d (i ∷ []) = let e : 0 * d + i ≡ i = omega arith in ap (λ n. if nat_lt i d then Some n else None) e
place_vector d (i ∷ j ∷ []) = never (nat_lt i d)
place_vector d (i ∷ j ∷ k ∷ b) = never (nat_lt i d)

pub ruleset places = (place_scalar, place_vector, nat_tests)

pub shape_in : (t u : ElementTree) (s : Space) (b : List ℕ) → t ≡ u → space_of u ≡ s → place (element_shape s) b ≡ place (element_shape (space_of t)) b
shape_in t u s b h r = ap (λ s. place (element_shape s) b) (sym (ap space_of h ∙ r))
