-- The shares of a sum of monomials as a kernel adds them up
use Rattle.std.proofs.Common.{◌≡◌, ℕ, zero, suc, ◌+◌, ◌<◌, Bool, true, false, List, [], ◌∷◌, map, Option, None, Some, slice_get, slice_index_or, if◌then◌else◌, sym, ◌∙◌, ap, subst, arith}
use Rattle.std.specs.List.{AllByRecursion}
use Rattle.algebra.specs.Fraction.{Fraction, zero_fraction}
use Rattle.algebra.specs.Over.{Over}
use Rattle.algebra.specs.Sums.{total}
use Rattle.algebra.proofs.OverLaws.{over_zero}
use Rattle.calculus.specs.Jacobian.{vertex_at}
use Rattle.calculus.specs.Simplex.{Simplex, IsCell, dimension, along_axis}
use Rattle.spaces.specs.declared.cell.Cell.{Cell}
use Rattle.spaces.specs.declared.cell.Cell.TheVariants.{Interval, Triangle, Tetrahedron}
use Rattle.spaces.specs.declared.parts.Part.{Part}
use Rattle.spaces.specs.declared.parts.Parts.{Parts}
use Rattle.spaces.specs.Cell.{dimension as cell_dimension}
use Rattle.ufl_tree.specs.declared.function.Role.{Role}
use Rattle.ufl_tree.specs.declared.function.Role.TheVariants.{Test, Trial, Position, Coefficient}
use Rattle.monos.specs.declared.layout.CoefPlace.{CoefPlace}
use Rattle.monos.specs.declared.layout.Layout.{Layout}
use Rattle.monos.specs.declared.mono.Atom.{Atom}
use Rattle.monos.specs.Layout.{IsLawfulOn, IsPosition, position_parts, place_of}
use Rattle.monos.specs.Monomial.{Monomial}
use Rattle.refint.specs.Local.{numbers_below, position_part}
use Rattle.refint.specs.Reference.{share_of, is_argument, part_in, node_values, vertex_values, values_of, value_lists}
use Rattle.refint.proofs.Lists.{map_map}
use Rattle.room.specs.Numbered.{AllOver}
use Rattle.room.specs.Room.{coordinates, values_with, all_values}
use Rattle.room.specs.Rows.{part_value, entry_part}
use Rattle.room.proofs.Lists.{all_below, all_left, all_right, all_of_vertices}
use Rattle.room.proofs.VolumeLaws.{vertices}

pub entry_shares : (l : Layout) (v : Simplex) (w : List Fraction) (ms : List Monomial) (a b : ℕ) → share_of l v w ms a b ≡ total (map (part_value l.d v) (map (entry_part l v w a b) ms))
entry_shares l v w ms a b = ap total (sym (map_map (part_value l.d v) (entry_part l v w a b) ms))

-- ---- what bounds the values that a kernel multiplies with
module _ (n m : ℕ) (some : 0 < n) where
  item_over : (xs : List Fraction) → AllOver n m xs → (k : ℕ) → Over n m (slice_index_or xs k zero_fraction)
  item_over [] a zero = over_zero n m some
  item_over [] a (suc k) = over_zero n m some
  item_over (x ∷ xs) a zero = a.0
  item_over (x ∷ xs) a (suc k) = item_over xs a.1 k

  -- of a coefficient
  nodes_over : (w : List Fraction) → AllOver n m w → (c : Option CoefPlace) (p : Option Part) → AllOver n m (node_values w c p)
  nodes_over w all None p = tt
  nodes_over w all (Some c) None = tt
  nodes_over w all (Some c) (Some p) =
      all_below (Over n m) (λ j. slice_index_or w (c.offset + p.offset + j) zero_fraction) p.nodes (λ j h. item_over w all (c.offset + p.offset + j))

  -- of the position
  along_corners : (d i : ℕ) → i < d → (v : Simplex) → IsCell v → dimension v ≡ d → AllOver n m (coordinates d v)
      → AllOver n m (map (λ j. along_axis i (vertex_at v j)) (numbers_below (suc d)))
  along_corners d i k v c e a =
      all_below (Over n m) (λ j. along_axis i (vertex_at v j)) (suc d)
      (λ j h. all_of_vertices (Over n m) d v (λ p i. along_axis i p) j i (subst (λ x. j < x) (sym (vertices v c ∙ ap suc e)) h) k a)

  no_part : (v : Simplex) (k i : ℕ) → AllOver n m (vertex_values v (slice_get [] i) k)
  no_part v k zero = tt
  no_part v k (suc i) = tt

  position_over : (c : Cell) (i : ℕ) (v : Simplex) → IsCell v → dimension v ≡ cell_dimension c → AllOver n m (coordinates (cell_dimension c) v)
      → AllOver n m (vertex_values v (position_part (Some (position_parts c)) i) i)
  position_over Interval zero v k e a = along_corners 1 0 (omega arith) v k e a
  position_over Interval (suc i) v k e a = no_part v (suc i) i
  position_over Triangle zero v k e a = along_corners 2 0 (omega arith) v k e a
  position_over Triangle (suc zero) v k e a = along_corners 2 1 (omega arith) v k e a
  position_over Triangle (suc (suc i)) v k e a = no_part v (suc (suc i)) i
  position_over Tetrahedron zero v k e a = along_corners 3 0 (omega arith) v k e a
  position_over Tetrahedron (suc zero) v k e a = along_corners 3 1 (omega arith) v k e a
  position_over Tetrahedron (suc (suc zero)) v k e a = along_corners 3 2 (omega arith) v k e a
  position_over Tetrahedron (suc (suc (suc i))) v k e a = no_part v (suc (suc (suc i))) i

  module _ (c : Cell) (l : Layout) (h : IsLawfulOn c l) (v : Simplex) (k : IsCell v) (e : dimension v ≡ l.d) (w : List Fraction) (all : AllOver n m (all_values l v w)) where
    pub corners_over : (i : ℕ) → AllOver n m (vertex_values v (position_part l.position i) i)
    corners_over i = go l.position h.position all
      where
        go : (o : Option Parts) → IsPosition c o → AllOver n m (values_with o l.d v w) → AllOver n m (vertex_values v (position_part o i) i)
        go None p a = tt
        go (Some ps) p a =
            subst (λ q. AllOver n m (vertex_values v (position_part (Some q) i) i)) (sym p)
            (position_over c i v k (e ∙ h.dimension) (subst (λ d. AllOver n m (coordinates d v)) h.dimension (all_right (Over n m) w (coordinates l.d v) a)))

    own_values : AllOver n m w
    own_values = go l.position all
      where
        go : (o : Option Parts) → AllOver n m (values_with o l.d v w) → AllOver n m w
        go None a = a
        go (Some ps) a = all_left (Over n m) w (coordinates l.d v) a

    role_over : (r : Role) (i : ℕ) → AllOver n m (values_of l v w r i)
    role_over Test i = tt
    role_over Trial i = tt
    role_over Position i = corners_over i
    role_over (Coefficient j) i = nodes_over w own_values (place_of l.coefs j) (part_in (place_of l.coefs j) i)

    one_over : (t : Bool) (ys : List Fraction) (rest : List (List Fraction)) → AllOver n m ys → AllByRecursion (AllOver n m) rest
        → AllByRecursion (AllOver n m) (if t then rest else ys ∷ rest)
    one_over true ys rest a b = b
    one_over false ys rest a b = (a, b)

    pub values_over : (xs : List Atom) → AllByRecursion (AllOver n m) (value_lists l v w xs)
    values_over [] = tt
    values_over (x ∷ xs) = one_over (is_argument x.f.role) (values_of l v w x.f.role x.component) (value_lists l v w xs) (role_over x.f.role x.component) (values_over xs)
