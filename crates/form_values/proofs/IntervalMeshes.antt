-- Meshes of intervals: each cell has two vertices, and each vertex one coordinate
use Rattle.std.proofs.Common.{◌≡◌, ◌≢◌, ℕ, zero, suc, ◌<◌, ◌≤◌, Bool, true, false, not, ◌||◌, ◌&&◌, refl, sym, ◌∙◌, ap, ap₂, subst, arith, List, [], ◌∷◌, ◌++◌, length, map, take, ltb-true, nat_lt}
use Rattle.std.specs.Prelude.{slice_index_or, ◌==◌}
use Rattle.std.specs.List.{list_any, AllByRecursion}
use Rattle.std.proofs.lemmas.List.{length-map}
use Rattle.std.proofs.Math.Dec.{eqb}
use Rattle.std.proofs.lemmas.Bool.{eq-eqb}
use Rattle.algebra.specs.Fraction.{Fraction, zero_fraction}
use Rattle.calculus.specs.Simplex.{point_of}
use Rattle.kernel.specs.MassShare.{interval}
use Rattle.ratio.specs.declared.reduced.Ratio.{Ratio}
use Rattle.ratio.specs.Value.{fraction_of}
use Rattle.spaces.specs.declared.cell.Cell.TheVariants.{Interval}
use Rattle.spaces.specs.Cell.{dimension}
use Rattle.mesh_in.specs.MeshData.{MeshData, IsMesh, IsCell, is_distinct, fractions, most}
use Rattle.assembly.specs.Run.{coordinates_of}
use Rattle.form_values.specs.Problem.{corners_of}
use Rattle.form_values.specs.MassMatrix.{end_of, IsIntervalMesh}

-- ---- coordinates
first_item : (p : List Fraction) → length p ≡ 1 → p ≡ slice_index_or p 0 zero_fraction ∷ []
first_item [] h = absurd (omega arith)
first_item (x ∷ []) h = refl
first_item (x ∷ y ∷ p) h = absurd (omega arith)

-- each point has one coordinate
abbrev pub OnLine : MeshData Fraction → Type 0
OnLine m = (v : ℕ) → v < length m.points → length (slice_index_or m.points v []) ≡ 1

pub ends_are : (m : MeshData Fraction) (a b : ℕ) → OnLine m → a < length m.points → b < length m.points
    → coordinates_of m (a ∷ b ∷ []) ≡ end_of m (a ∷ b ∷ []) 0 ∷ end_of m (a ∷ b ∷ []) 1 ∷ []
ends_are m a b line h k = ap₂ (λ p q. p ++ (q ++ [])) (first_item (slice_index_or m.points a []) (line a h)) (first_item (slice_index_or m.points b []) (line b k))

pub simplex_is : (mesh : MeshData Fraction) (a b : ℕ) → OnLine mesh → a < length mesh.points → b < length mesh.points
    → corners_of mesh (a ∷ b ∷ []) ≡ interval (end_of mesh (a ∷ b ∷ []) 0) (end_of mesh (a ∷ b ∷ []) 1)
simplex_is mesh a b line h k =
    ap₂ (λ p q. point_of p ∷ point_of q ∷ []) (first_item (slice_index_or mesh.points a []) (line a h)) (first_item (slice_index_or mesh.points b []) (line b k))

-- ---- items
pub item_of : {A : Type 0} (P : A → Type 0) (xs : List A) (k : ℕ) (d : A) → k < length xs → AllByRecursion P xs → P (slice_index_or xs k d)
item_of P [] k d h all = absurd (omega arith)
item_of P (x ∷ xs) zero d h all = all.0
item_of P (x ∷ xs) (suc k) d h all = item_of P xs k d (omega arith) all.1

pub front_of : {A : Type 0} (P : A → Type 0) (xs : List A) (k : ℕ) → AllByRecursion P xs → AllByRecursion P (take k xs)
front_of P xs zero all = tt
front_of P [] (suc k) all = tt
front_of P (x ∷ xs) (suc k) all = (all.0, front_of P xs k all.1)

-- ---- the cells of a mesh
and_parts : (s t : Bool) → (s && t) ≡ true → (s ≡ true) × (t ≡ true)
and_parts true t h = (refl, h)
and_parts false t h = cc

distinct_apart : (a b : ℕ) → is_distinct (a ∷ b ∷ []) ≡ true → a ≢ b
distinct_apart a b h e = go (eqb b a) (eq-eqb b a (sym e)) (and_parts (not ((b == a) || false)) _ h).0
  where
    go : (t : Bool) → t ≡ true → not (t || false) ≡ true → ⊥
    go true k i = cc
    go false k i = cc

abbrev pub IsMember : {A : Type 0} → List A → A → Type 0
IsMember {A = A} xs x = (p : A → Bool) → p x ≡ true → list_any p xs ≡ true

pub or_right : (s t : Bool) → t ≡ true → (s || t) ≡ true
or_right true t h = refl
or_right false t h = h

pub weaker : {A : Type 0} (P Q : A → Type 0) (xs : List A) → ((x : A) → P x → Q x) → AllByRecursion P xs → AllByRecursion Q xs
weaker P Q [] f h = h
weaker P Q (x ∷ xs) f h = (f x h.0, weaker P Q xs f h.1)

pub all_members : {A : Type 0} (xs : List A) → AllByRecursion (IsMember xs) xs
all_members [] = tt
all_members (x ∷ xs) =
    (λ p h. ap (λ t. t || list_any p xs) h, weaker (IsMember xs) (IsMember (x ∷ xs)) xs (λ y h p k. or_right (p x) (list_any p xs) (h p k)) (all_members xs))

pub both : {A : Type 0} (P Q R : A → Type 0) (xs : List A) → ((x : A) → P x → Q x → R x) → AllByRecursion P xs → AllByRecursion Q xs → AllByRecursion R xs
both P Q R [] f h k = h
both P Q R (x ∷ xs) f h k = (f x h.0 k.0, both P Q R xs f h.1 k.1)

no_size : (n : ℕ) → suc (suc (suc n)) ≡ 2 → ⊥
no_size n h = omega arith

-- what holds of two vertices of the mesh that are apart holds of a cell
pub by_ends : (P : List ℕ → Type 0) (count : ℕ) → ((a b : ℕ) → a ≢ b → a < count → b < count → P (a ∷ b ∷ [])) → (cell : List ℕ) → IsCell 1 count cell → P cell
by_ends P count h [] cell = absurd (omega arith)
by_ends P count h (a ∷ []) cell = absurd (omega arith)
by_ends P count h (a ∷ b ∷ []) cell =
    let ranges = and_parts (nat_lt a count) _ cell.in_range in
    h a b (distinct_apart a b cell.distinct) (ltb-true a _ ranges.0) (ltb-true b _ (and_parts (nat_lt b count) true ranges.1).0)
by_ends P count h (a ∷ b ∷ c ∷ more) cell = absurd (no_size (length more) cell.size)

-- ---- meshes in memory, by their values
mapped_points : (d : ℕ) (points : List (List Ratio)) → AllByRecursion (λ p. length p ≡ d) points → AllByRecursion (λ p. length p ≡ d) (map (map fraction_of) points)
mapped_points d [] all = tt
mapped_points d (p ∷ points) all = (length-map p fraction_of ∙ all.0, mapped_points d points all.1)

-- what is a mesh in memory is one by its values
pub mesh_of_values : (m : MeshData Ratio) → IsMesh m → IsMesh (fractions m)
mesh_of_values m is =
    let same : length m.points ≡ length (fractions m).points = sym (length-map m.points (map fraction_of)) in
    record {
      points = mapped_points (dimension m.kind) m.points is.points;
      cells = subst (λ n. AllByRecursion (IsCell (dimension m.kind) n) m.cells) same is.cells;
      markers = is.markers;
      few_points = subst (λ n. n ≤ most) same is.few_points;
      few_cells = is.few_cells;
    }

pub line_of_mesh : (m : MeshData Fraction) → m.kind ≡ Interval → IsMesh m → OnLine m
line_of_mesh m kind is v h =
    item_of (λ (p : List Fraction). length p ≡ 1) m.points v [] h
    (subst (λ (d : ℕ). AllByRecursion (λ (p : List Fraction). length p ≡ d) m.points) (ap dimension kind) is.points)

pub ends_of_mesh : (m : MeshData Fraction) → m.kind ≡ Interval → IsMesh m → AllByRecursion (IsCell 1 (length m.points)) m.cells
ends_of_mesh m kind is = subst (λ (d : ℕ). AllByRecursion (IsCell d (length m.points)) m.cells) (ap dimension kind) is.cells

pub on_line : (m : MeshData Ratio) → IsIntervalMesh m → OnLine (fractions m)
on_line m is = line_of_mesh (fractions m) is.0 (mesh_of_values m is.1)

pub cells_in : (m : MeshData Ratio) → IsIntervalMesh m → AllByRecursion (IsCell 1 (length (fractions m).points)) (fractions m).cells
cells_in m is = ends_of_mesh (fractions m) is.0 (mesh_of_values m is.1)
