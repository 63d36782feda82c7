-- The parts of lawful layouts
use Rattle.std.proofs.Common.{◌≡◌, ℕ, zero, suc, ◌+◌, ◌*◌, ◌≤◌, ◌==◌, inl, inr, Bool, true, false, if◌then◌else◌, List, [], ◌∷◌, Option, None, Some, refl, sym, ap, ◌∙◌, subst, arith}
use Rattle.std.specs.Prelude.{slice_get}
use Rattle.std.specs.List.{AllByRecursion}
use Rattle.spaces.specs.declared.cell.Cell.{Cell}
use Rattle.spaces.specs.declared.cell.Cell.TheVariants.{Interval, Triangle, Tetrahedron}
use Rattle.spaces.specs.declared.family.Family.TheVariants.{Lagrange}
use Rattle.spaces.specs.declared.parts.Part.{Part}
use Rattle.spaces.specs.declared.parts.Parts.{Parts}
use Rattle.spaces.specs.Cell.{dimension, same_cell}
use Rattle.spaces.specs.Family.{node_count}
use Rattle.spaces.specs.Scalar.{Scalar, placed, repeated, laid_out}
use Rattle.spaces.specs.Space.{Space, scalar, vector, tensor, mixed, Spaces, no_spaces, space, scalars, scalars_of, cell_of, first_cell, same_cells, IsLawful, AreLawful}
use Rattle.spaces.proofs.SpaceLaws.{degree_few, node_count_few}
use Rattle.spaces.proofs.EqualityLaws.{cell_true}
use Rattle.spaces.proofs.NodeLaws.{both_true, dimension_range}
use Rattle.ufl_tree.specs.declared.function.Role.{Role}
use Rattle.ufl_tree.specs.declared.function.Role.TheVariants.{Test, Trial, Position, Coefficient}
use Rattle.monos.specs.declared.layout.CoefPlace.{CoefPlace}
use Rattle.monos.specs.declared.layout.Layout.{Layout}
use Rattle.monos.specs.Layout.{MayBeOn, IsPosition, IsLawfulOn, IsLawfulLayout, place_of, place_parts, parts_or_none, role_parts}
use Rattle.refint.specs.Local.{cell_in}
use Rattle.basis_products.proofs.Lists.{all_append}

-- ---- elements
pub record IsScalarOn (c : Cell) (s : Scalar) : Type 0 where
  pub degree : s.degree ≤ 3
  pub nodes : s.nodes ≡ node_count c s.degree

on_repeated : (c : Cell) (n : ℕ) (ss : List Scalar) → AllByRecursion (IsScalarOn c) ss → AllByRecursion (IsScalarOn c) (repeated n ss)
on_repeated c zero ss on = tt
on_repeated c (suc n) ss on = all_append (IsScalarOn c) ss (repeated n ss) on (on_repeated c n ss on)

mutual
  pub on_space : (s : Space) → IsLawful s → AllByRecursion (IsScalarOn (cell_of s)) (scalars s)
  on_space (scalar f c q) h = (record { degree = degree_few f q h; nodes = refl }, tt)
  on_space (vector s n) h = on_repeated (cell_of s) n (scalars s) (on_space s h.0)
  on_space (tensor s m n) h = on_repeated (cell_of s) (m * n) (scalars s) (on_space s h.0)
  on_space (mixed ss) h = on_spaces (first_cell ss) ss h.0 h.1

  on_spaces : (c : Cell) (ss : Spaces) → AreLawful ss → same_cells c ss ≡ true → AllByRecursion (IsScalarOn c) (scalars_of ss)
  on_spaces c no_spaces h e = tt
  on_spaces c (space s ss) h e =
      let both = both_true (same_cell (cell_of s) c) (same_cells c ss) e in
      all_append (IsScalarOn c) (scalars s) (scalars_of ss) (subst (λ k. AllByRecursion (IsScalarOn k) (scalars s)) (cell_true (cell_of s) c both.0) (on_space s h.0)) (on_spaces c ss h.1 both.1)

-- ---- parts
pub record IsPartOn (c : Cell) (p : Part) : Type 0 where
  pub degree : p.degree ≤ 3
  pub nodes : p.nodes ≡ node_count c p.degree

pub some_is : {A : Type 0} (x y : A) → Some x ≡ Some y → x ≡ y
some_is x y e = cc

pub none_some : {A : Type 0} (x : A) → None ≡ Some x → ⊥
none_some x e = cc

placed_on : (c : Cell) (at : ℕ) (ss : List Scalar) → AllByRecursion (IsScalarOn c) ss → (i : ℕ) (p : Part) → slice_get (placed at ss) i ≡ Some p → IsPartOn c p
placed_on c at [] on i p e = absurd (none_some p e)
placed_on c at (s ∷ ss) on zero p e = subst (IsPartOn c) (some_is _ p e) (record { degree = on.0.degree; nodes = on.0.nodes })
placed_on c at (s ∷ ss) on (suc i) p e = placed_on c (at + s.nodes) ss on.1 i p e

laid_on : (c : Cell) (ss : List Scalar) (ps : Parts) → ps ≡ laid_out ss → AllByRecursion (IsScalarOn c) ss → (i : ℕ) (p : Part) → slice_get ps.items i ≡ Some p → IsPartOn c p
laid_on c ss ps h on i p e = placed_on c 0 ss on i p (ap (λ (q : Parts). slice_get q.items i) (sym h) ∙ e)

may_be_on : (c : Cell) (ps : Parts) → MayBeOn c ps → (i : ℕ) (p : Part) → slice_get ps.items i ≡ Some p → IsPartOn c p
may_be_on c ps h i p e = elim h [
  | inl a ↦ laid_on c (scalars a.element) ps a.parts (subst (λ k. AllByRecursion (IsScalarOn k) (scalars a.element)) a.cell (on_space a.element a.lawful)) i p e
  | inr n ↦ laid_on c [] ps n tt i p e
]

coefficient_on : (c : Cell) (cs : List CoefPlace) → AllByRecursion (λ k. MayBeOn c k.parts) cs → (n i : ℕ) (p : Part) → slice_get (place_parts (place_of cs n)) i ≡ Some p → IsPartOn c p
coefficient_on c [] h n i p e = absurd (none_some p e)
coefficient_on c (k ∷ ks) h n i p e = go (k.number == n) e (coefficient_on c ks h.1 n i p)
  where
    go : (b : Bool) → slice_get (place_parts (if b then Some k else place_of ks n)) i ≡ Some p → (slice_get (place_parts (place_of ks n)) i ≡ Some p → IsPartOn c p) → IsPartOn c p
    go true e r = may_be_on c k.parts h.0 i p e
    go false e r = r e

position_on : (c : Cell) (o : Option Parts) → IsPosition c o → (i : ℕ) (p : Part) → slice_get (parts_or_none o) i ≡ Some p → IsPartOn c p
position_on c None h i p e = absurd (none_some p e)
position_on c (Some ps) h i p e =
    laid_on c (scalars (vector (scalar Lagrange c 1) (dimension c))) ps h (on_repeated c (dimension c) _ (record { degree = omega arith; nodes = refl }, tt)) i p e

part_on : (c : Cell) (l : Layout) → IsLawfulOn c l → (r : Role) (i : ℕ) (p : Part) → slice_get (role_parts l r) i ≡ Some p → IsPartOn c p
part_on c l h Test i p e = may_be_on c l.rows h.rows i p e
part_on c l h Trial i p e = may_be_on c l.cols h.cols i p e
part_on c l h Position i p e = position_on c l.position h.position i p e
part_on c l h (Coefficient n) i p e = coefficient_on c l.coefs h.coefs n i p e

-- ---- in the words of the layout's dimension
cell_back : (c : Cell) → c ≡ cell_in (dimension c)
cell_back Interval = refl
cell_back Triangle = refl
cell_back Tetrahedron = refl

pub lawful_part : (l : Layout) → IsLawfulLayout l → (r : Role) (i : ℕ) (p : Part) → slice_get (role_parts l r) i ≡ Some p → IsPartOn (cell_in l.d) p
lawful_part l h r i p e = subst (λ c. IsPartOn c p) (cell_back h.0 ∙ ap cell_in (sym h.1.dimension)) (part_on h.0 l h.1 r i p e)

pub lawful_dimension : (l : Layout) → IsLawfulLayout l → (1 ≤ l.d) × (l.d ≤ 3)
lawful_dimension l h = let r = dimension_range h.0 in (omega (arith, r.0, h.1.dimension), omega (arith, r.1, h.1.dimension))

pub part_few : (c : Cell) (p : Part) → IsPartOn c p → p.nodes ≤ 20
part_few c p h = omega (arith, h.nodes, node_count_few c p.degree h.degree)
