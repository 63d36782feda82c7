-- The local nodes of an argument at which a product of atoms may be other than 0
use Rattle.std.specs.Prelude.{◌≡◌, ℕ, ◌+◌, ◌-◌, ◌==◌, ◌&&◌, nat_le, nat_lt, Bool, true, false, if◌then◌else◌, List, [], ◌∷◌, Option, None, Some, slice_get}
use Rattle.std.specs.List.{AllByRecursion}
use Rattle.spaces.specs.declared.parts.Part.{Part}
use Rattle.ufl_tree.specs.declared.function.Role.{Role}
use Rattle.ufl_tree.specs.declared.function.Role.TheVariants.{Test, Trial, Position, Coefficient}
use Rattle.monos.specs.declared.layout.Layout.{Layout}
use Rattle.monos.specs.declared.mono.Atom.{Atom}
use Rattle.monos.specs.Layout.{role_parts}
use Rattle.monomial_products.specs.declared.support.Support.{Support}
use Rattle.monomial_products.specs.declared.support.Support.TheVariants.{Everywhere, OnPart, Nowhere}

-- how many nodes stand for all
abbrev pub places_at : Support → ℕ
places_at Everywhere = 1
places_at (OnPart p) = p.nodes
places_at Nowhere = 0

-- which of them a local node is
abbrev pub place_at : Support → ℕ → Option ℕ
place_at Everywhere a = Some 0
place_at (OnPart p) a = if nat_le p.offset a && nat_lt (a - p.offset) p.nodes then Some (a - p.offset) else None
place_at Nowhere a = None

-- a local node that it is
abbrev pub node_at : Support → ℕ → ℕ
node_at Everywhere t = 0
node_at (OnPart p) t = p.offset + t
node_at Nowhere t = 0

-- the atoms of an argument
abbrev pub is_role : Role → Role → Bool
is_role Test Test = true
is_role Trial Trial = true
is_role Position Position = true
is_role (Coefficient m) (Coefficient n) = m == n
is_role _ _ = false

-- what is left of a support where one more atom is of this part; the parts of a function begin at different nodes
abbrev pub narrowed : Support → Option Part → Support
narrowed s None = Nowhere
narrowed Everywhere (Some p) = OnPart p
narrowed (OnPart q) (Some p) = if q.offset == p.offset then OnPart q else Nowhere
narrowed Nowhere (Some p) = Nowhere

-- where the atoms of an argument let a product be other than 0, within what is left so far
abbrev pub support_from : Support → Layout → Role → List Atom → Support
support_from s l r [] = s
support_from s l r (x ∷ xs) =
    support_from (if is_role x.f.role r then narrowed s (slice_get (role_parts l r) x.component) else s) l r xs

abbrev pub support_of : Layout → Role → List Atom → Support
support_of l r xs = support_from Everywhere l r xs

-- each atom of the argument is of the support's part
abbrev pub AreOn : Layout → Role → Support → List Atom → Type 0
AreOn l r s xs =
    AllByRecursion
    (λ x. is_role x.f.role r ≡ true → (p : Part) × (s ≡ OnPart p) × (slice_get (role_parts l r) x.component ≡ Some p)) xs
