-- What a lawful element has
use Rattle.std.proofs.Common.{◌≡◌, ℕ, ◌+◌, ◌*◌, ◌^◌, ◌<◌, ◌≤◌, zero, suc, Bool, true, false, nat_lt, nat_le, ◌&&◌, if◌then◌else◌, max, drop, get_or, drop-cons, add-one, Ok, Err, List, [], ◌∷◌, ◌++◌, length, map, refl, sym, ap, ap₂, ◌∙◌, arith, lit<, lit≤, Some, None, length-append, subst}
use Rattle.std.proofs.lemmas.Bool.Decides.{nat_tests}
use Rattle.spaces.specs.declared.cell.Cell.{Cell}
use Rattle.spaces.specs.declared.cell.Cell.TheVariants.{Interval, Triangle, Tetrahedron}
use Rattle.spaces.specs.declared.family.Family.{Family}
use Rattle.spaces.specs.declared.family.Family.TheVariants.{Lagrange, Dg, Real}
use Rattle.spaces.specs.Cell.{same_cell}
use Rattle.spaces.specs.Family.{has_degree, node_count}
use Rattle.spaces.specs.Scalar.{Scalar, scalar_of, repeated, local_size, appended, laid_out}
use Rattle.spaces.specs.Space.{Space, scalar, vector, tensor, mixed, Spaces, no_spaces, space, scalars, scalars_of, is_scalar, depth_of, greatest_depth, cell_of, first_cell, same_cells, IsLawful, AreLawful}
use Rattle.spaces.specs.Sound.{Describes}
use Rattle.spaces.specs.Single.{SingleOf}
use Rattle.spaces.specs.declared.parts.Part.{Part}
use Rattle.spaces.specs.declared.element_tree.ElementTree.TheVariants as v
use Rattle.spaces.proofs.ReadingLaws.{space_of-Scalar, space_of-Vector, space_of-Tensor, space_of-Mixed}
use Rattle.spaces.specs.declared.parts.Parts.{Parts}
use Rattle.spaces.specs.declared.element_tree.ElementTree.{ElementTree}
use Rattle.spaces.specs.declared.refusal.SpaceRefusal.TheVariants.{Kind, Size}
use Rattle.spaces.specs.Reading.{space_of, spaces_in}
use Rattle.spaces.specs.Refusal.{block_refusal, common_cell, common_depth, Gives}
use Rattle.spaces.proofs.PartsLaws.{local_size-append, length-placed, scalars-placed}

pub degree_few : (f : Family) (q : ℕ) → has_degree f q ≡ true → q ≤ 3
degree_few Lagrange q h = grind (arith, nat_tests)
degree_few Dg q h = grind (arith, nat_tests)
degree_few Real q h = grind (arith, nat_tests)

pub node_count_few : (c : Cell) (q : ℕ) → q ≤ 3 → node_count c q ≤ 20
node_count_few c zero h = (elim c as (λ c. node_count c 0 ≤ 20) [ Interval ↦ lit≤ tt | Triangle ↦ lit≤ tt | Tetrahedron ↦ lit≤ tt ])
node_count_few c (suc zero) h = (elim c as (λ c. node_count c 1 ≤ 20) [ Interval ↦ lit≤ tt | Triangle ↦ lit≤ tt | Tetrahedron ↦ lit≤ tt ])
node_count_few c (suc (suc zero)) h = (elim c as (λ c. node_count c 2 ≤ 20) [ Interval ↦ lit≤ tt | Triangle ↦ lit≤ tt | Tetrahedron ↦ lit≤ tt ])
node_count_few c (suc (suc (suc zero))) h = (elim c as (λ c. node_count c 3 ≤ 20) [ Interval ↦ lit≤ tt | Triangle ↦ lit≤ tt | Tetrahedron ↦ lit≤ tt ])
node_count_few c (suc (suc (suc (suc n)))) h = absurd (omega arith)

-- at most 20 local values a part
pub local_size-repeated : (n : ℕ) (xs : List Scalar) → local_size xs ≤ 20 * length xs → local_size (repeated n xs) ≤ 20 * length (repeated n xs)
local_size-repeated zero xs h = omega arith
local_size-repeated (suc n) xs h =
    omega (arith, local_size-repeated n xs h, h, local_size-append xs (repeated n xs), length-append xs (repeated n xs))

mutual
  pub local_size_few : (s : Space) → IsLawful s → local_size (scalars s) ≤ 20 * length (scalars s)
  local_size_few (scalar f c q) h = omega (arith, node_count_few c q (degree_few f q h))
  local_size_few (vector s n) h = local_size-repeated n (scalars s) (local_size_few s h.0)
  local_size_few (tensor s m n) h = local_size-repeated (m * n) (scalars s) (local_size_few s h.0)
  local_size_few (mixed ss) h = local_sizes_few ss h.0

  pub local_sizes_few : (ss : Spaces) → AreLawful ss → local_size (scalars_of ss) ≤ 20 * length (scalars_of ss)
  local_sizes_few no_spaces h = omega arith
  local_sizes_few (space s ss) h =
      omega (arith, local_size_few s h.0, local_sizes_few ss h.1, local_size-append (scalars s) (scalars_of ss), length-append (scalars s) (scalars_of ss))

pub length-repeated : (n : ℕ) (xs : List Scalar) → length (repeated n xs) ≡ n * length xs
length-repeated zero xs = omega arith
length-repeated (suc n) xs = omega (arith, length-repeated n xs, length-append xs (repeated n xs))

pub scalar_depth : (s : Space) → is_scalar s ≡ true → depth_of s ≡ 1
scalar_depth (scalar f c q) h = refl
scalar_depth (vector s n) h = cc
scalar_depth (tensor s m n) h = cc
scalar_depth (mixed ss) h = cc

pub scalar_length : (s : Space) → is_scalar s ≡ true → length (scalars s) ≡ 1
scalar_length (scalar f c q) h = refl
scalar_length (vector s n) h = cc
scalar_length (tensor s m n) h = cc
scalar_length (mixed ss) h = cc

block_length : (s : Space) (n : ℕ) → is_scalar s ≡ true → length (repeated n (scalars s)) ≡ n
block_length s n h = omega (arith, length-repeated n (scalars s), ap (λ k. n * k) (scalar_length s h))

pub lawful_some : (s : Space) → IsLawful s → 0 < length (scalars s)
lawful_some (scalar f c q) h = lit< tt
lawful_some (vector s n) h = omega (arith, block_length s n h.1, h.2)
lawful_some (tensor s m n) h = omega (arith, block_length s (m * n) h.1, h.2)
lawful_some (mixed ss) h = h.2

-- what a block that isn't refused is
pub block_given : (s : Space) (n : ℕ) (a b : Parts) → Gives (Ok a) (block_refusal s n) b → (is_scalar s ≡ true) × (0 < n) × (n ≤ 64) × (a ≡ b)
block_given s n a b h = kind (is_scalar s) refl h where
  size : (x : Bool) → (nat_lt 0 n && nat_le n 64) ≡ x → is_scalar s ≡ true → Gives (Ok a) (if x then None else Some Size) b
      → (is_scalar s ≡ true) × (0 < n) × (n ≤ 64) × (a ≡ b)
  size true e k h = (k, grind (arith, nat_tests), grind (arith, nat_tests), h)
  size false e k h = cc

  kind : (x : Bool) → is_scalar s ≡ x → Gives (Ok a) (if x then (if nat_lt 0 n && nat_le n 64 then None else Some Size) else Some Kind) b
      → (is_scalar s ≡ true) × (0 < n) × (n ≤ 64) × (a ≡ b)
  kind true e h = size (nat_lt 0 n && nat_le n 64) refl e h
  kind false e h = cc

pub described_vector : (s : Space) (n : ℕ) (cell : Cell) (depth : ℕ) (own flat : Parts) → Describes s cell depth own
    → Gives (Ok flat) (block_refusal s n) (laid_out (repeated n (scalars s))) → Describes (vector s n) cell 2 flat
described_vector s n cell depth own flat d h =
    let g = block_given s n flat (laid_out (repeated n (scalars s))) h in
    record {
      lawful = (d.lawful, g.0, g.1, g.2);
      cell_is = d.cell_is;
      depth_is = omega (arith, scalar_depth s g.0);
      parts_are = g.3;
      some = omega (arith, block_length s n g.0, g.1);
      few = omega (arith, block_length s n g.0, g.2);
      shallow = lit≤ tt;
    }

pub described_tensor : (s : Space) (m n : ℕ) (cell : Cell) (depth : ℕ) (own flat : Parts) → Describes s cell depth own
    → Gives (Ok flat) (block_refusal s (m * n)) (laid_out (repeated (m * n) (scalars s))) → Describes (tensor s m n) cell 2 flat
described_tensor s m n cell depth own flat d h =
    let g = block_given s (m * n) flat (laid_out (repeated (m * n) (scalars s))) h in
    record {
      lawful = (d.lawful, g.0, g.1, g.2);
      cell_is = d.cell_is;
      depth_is = omega (arith, scalar_depth s g.0);
      parts_are = g.3;
      some = omega (arith, block_length s (m * n) g.0, g.1);
      few = omega (arith, block_length s (m * n) g.0, g.2);
      shallow = lit≤ tt;
    }

pub same_cell_itself : (c : Cell) → same_cell c c ≡ true
same_cell_itself Interval = refl
same_cell_itself Triangle = refl
same_cell_itself Tetrahedron = refl

-- what a list of elements that isn't refused is
pub cell_given : (ss : Spaces) (c : Cell) → common_cell ss ≡ Ok c → AreLawful ss
    → (c ≡ first_cell ss) × (same_cells (first_cell ss) ss ≡ true) × (0 < length (scalars_of ss))
cell_given no_spaces c e h = cc
cell_given (space s ss) c e h = go (same_cells (cell_of s) ss) refl e where
  go : (x : Bool) → same_cells (cell_of s) ss ≡ x → (if x then Ok (cell_of s) else Err Kind) ≡ Ok c
      → (c ≡ cell_of s) × ((same_cell (cell_of s) (cell_of s) && same_cells (cell_of s) ss) ≡ true) × (0 < length (scalars s ++ scalars_of ss))
  go true t e = (cc, ap₂ (λ x y. x && y) (same_cell_itself (cell_of s)) t, omega (arith, length-append (scalars s) (scalars_of ss), lawful_some s h.0))
  go false t e = cc

pub depth_given : (ss : Spaces) (d : ℕ) → common_depth ss ≡ Ok d
    → (d ≡ greatest_depth ss) × (length (scalars_of ss) ≤ 64) × (greatest_depth ss ≤ 63)
depth_given ss d e = go (nat_le (length (scalars_of ss)) 64 && nat_le (greatest_depth ss) 63) refl e where
  go : (x : Bool) → (nat_le (length (scalars_of ss)) 64 && nat_le (greatest_depth ss) 63) ≡ x → (if x then Ok (greatest_depth ss) else Err Size) ≡ Ok d
      → (d ≡ greatest_depth ss) × (length (scalars_of ss) ≤ 64) × (greatest_depth ss ≤ 63)
  go true t e = (cc, grind (arith, nat_tests), grind (arith, nat_tests))
  go false t e = cc

pub described_mixed : (ss : Spaces) (cell : Cell) (depth : ℕ) (flat : Parts) → common_cell ss ≡ Ok cell → common_depth ss ≡ Ok depth
    → AreLawful ss → flat ≡ laid_out (scalars_of ss) → Describes (mixed ss) cell (depth + 1) flat
described_mixed ss cell depth flat c e h p =
    let g = cell_given ss cell c h in
    let d = depth_given ss depth e in
    record {
      lawful = (h, g.1, g.2, d.1, d.2);
      cell_is = g.0;
      depth_is = omega (arith, d.0);
      parts_are = p;
      some = g.2;
      few = d.1;
      shallow = omega (arith, d.0, d.2);
    }

pub joined_fits : (ss : Spaces) (d : ℕ) → common_depth ss ≡ Ok d → AreLawful ss → local_size (scalars_of ss) < 2 ^ 32
joined_fits ss d e h = omega (arith, local_sizes_few ss h, (depth_given ss d e).1)

pub drop_spaces : (ts : List ElementTree) (i : ℕ) (t : ElementTree) → i < length ts → t ≡ get_or ts i t
    → spaces_in (drop i ts) ≡ space (space_of t) (spaces_in (drop (i + 1) ts))
drop_spaces ts i t h e =
    ap spaces_in (drop-cons ts i t h) ∙ ap₂ (λ u k. space (space_of u) (spaces_in (drop k ts))) (sym e) (sym (add-one i))

-- how far a survey of elements has come
pub record Surveyed (depth count : ℕ) (all left : Spaces) : Type 0 where
  pub depth_is : max depth (greatest_depth left) ≡ greatest_depth all
  pub count_is : count + length (scalars_of left) ≡ length (scalars_of all)
  pub few : count ≤ 64
  pub lawful : AreLawful left → AreLawful all

pub surveyed_step : (d n e m : ℕ) (all left rest : Spaces) (s : Space) → left ≡ space s rest → IsLawful s
    → e ≡ max d (depth_of s) → m ≡ n + length (scalars s) → m ≤ 64 → Surveyed d n all left → Surveyed e m all rest
surveyed_step d n e m all left rest s is h deep more few y =
    record {
      depth_is = omega (arith, deep, ap greatest_depth is, y.depth_is);
      count_is = omega (arith, more, ap (λ l. length (scalars_of l)) is, length-append (scalars s) (scalars_of rest), y.count_is);
      few = few;
      lawful = λ r. y.lawful (subst AreLawful (sym is) (h, r));
    }

-- what an element says of the value that a caller sees
pub described_at : (t u : ElementTree) (cell : Cell) (depth : ℕ) (parts : Parts) → t ≡ u → Describes (space_of t) cell depth parts → Describes (space_of u) cell depth parts
described_at t u cell depth parts e d = subst (λ t. Describes (space_of t) cell depth parts) e d

pub described_scalar : (f : Family) (c : Cell) (q n : ℕ) → has_degree f q ≡ true → n ≡ node_count c q
    → Describes (space_of (v.Scalar f c q)) c 1 (record { items = record { family = f; degree = q; nodes = n; offset = 0 } ∷ []; local = n })
described_scalar f c q n h e =
    subst (λ s. Describes s c 1 (record { items = record { family = f; degree = q; nodes = n; offset = 0 } ∷ []; local = n })) (sym (space_of-Scalar f c q))
    (record {
      lawful = h;
      cell_is = refl;
      depth_is = refl;
      parts_are = let more : n ≡ node_count c q + 0 = omega (arith, e) in ap₂ (λ k l. record { items = record { family = f; degree = q; nodes = k; offset = 0 } ∷ []; local = l }) e more;
      some = lit< tt;
      few = lit≤ tt;
      shallow = lit≤ tt;
    })

pub described_vector_tree : (p q r : ElementTree) (n : ℕ) (cell : Cell) (depth : ℕ) (own flat : Parts) → p ≡ q → q ≡ r
    → Describes (space_of q) cell depth own → Gives (Ok flat) (block_refusal (space_of r) n) (laid_out (repeated n (scalars (space_of r))))
    → Describes (space_of (v.Vector p n)) cell 2 flat
described_vector_tree p q r n cell depth own flat a b d g =
    subst (λ s. Describes s cell 2 flat) (sym (space_of-Vector p n ∙ ap (λ t. vector (space_of t) n) (a ∙ b)))
    (described_vector (space_of r) n cell depth own flat (described_at q r cell depth own b d) g)

pub described_tensor_tree : (p q r : ElementTree) (m n : ℕ) (cell : Cell) (depth : ℕ) (own flat : Parts) → p ≡ q → q ≡ r
    → Describes (space_of q) cell depth own → Gives (Ok flat) (block_refusal (space_of r) (m * n)) (laid_out (repeated (m * n) (scalars (space_of r))))
    → Describes (space_of (v.Tensor p m n)) cell 2 flat
described_tensor_tree p q r m n cell depth own flat a b d g =
    subst (λ s. Describes s cell 2 flat) (sym (space_of-Tensor p m n ∙ ap (λ t. tensor (space_of t) m n) (a ∙ b)))
    (described_tensor (space_of r) m n cell depth own flat (described_at q r cell depth own b d) g)

pub described_mixed_tree : (ts ps : List ElementTree) (cell : Cell) (depth : ℕ) (flat : Parts) → ts ≡ ps
    → common_cell (spaces_in ps) ≡ Ok cell → common_depth (spaces_in ps) ≡ Ok depth
    → AreLawful (spaces_in ps) → flat ≡ laid_out (scalars_of (spaces_in ps)) → Describes (space_of (v.Mixed ts)) cell (depth + 1) flat
described_mixed_tree ts ps cell depth flat a c e h p =
    subst (λ s. Describes s cell (depth + 1) flat) (sym (space_of-Mixed ts ∙ ap (λ us. mixed (spaces_in us)) a))
    (described_mixed (spaces_in ps) cell depth flat c e h p)

-- how many parts an element keeps
pub count_is : (xs : List Part) (p : Parts) (ss : List Scalar) → xs ≡ p.items → p ≡ laid_out ss → length xs ≡ length ss
count_is xs p ss a b = ap length a ∙ ap (λ q. length q.items) b ∙ length-placed 0 ss

-- the answers of `single`
pub single_Scalar : (t u : ElementTree) (f : Family) (c : Cell) (q n : ℕ) → t ≡ v.Scalar f c q → t ≡ u → IsLawful (space_of u) → n ≡ node_count c q
    → SingleOf (space_of u) (Some (record { family = f; degree = q; nodes = n; offset = 0 }))
single_Scalar t u f c q n is same h e =
    let at : space_of u ≡ scalar f c q = ap space_of (sym same ∙ is) ∙ space_of-Scalar f c q in
    (ap is_scalar at, ap scalars at ∙ ap (λ k. record { family = f; degree = q; nodes = k } ∷ []) (sym e), omega (arith, e, node_count_few c q (degree_few f q (subst IsLawful at h))))

pub single_degree : (t u : ElementTree) (f : Family) (c : Cell) (q : ℕ) → t ≡ v.Scalar f c q → t ≡ u → IsLawful (space_of u) → q ≤ 3
single_degree t u f c q is same h = degree_few f q (subst IsLawful (ap space_of (sym same ∙ is) ∙ space_of-Scalar f c q) h)

pub other_Vector : (t u p : ElementTree) (n : ℕ) → t ≡ v.Vector p n → t ≡ u → is_scalar (space_of u) ≡ false
other_Vector t u p n is same = ap is_scalar (ap space_of (sym same ∙ is) ∙ space_of-Vector p n)

pub other_Tensor : (t u p : ElementTree) (m n : ℕ) → t ≡ v.Tensor p m n → t ≡ u → is_scalar (space_of u) ≡ false
other_Tensor t u p m n is same = ap is_scalar (ap space_of (sym same ∙ is) ∙ space_of-Tensor p m n)

pub other_Mixed : (t u : ElementTree) (ps : List ElementTree) → t ≡ v.Mixed ps → t ≡ u → is_scalar (space_of u) ≡ false
other_Mixed t u ps is same = ap is_scalar (ap space_of (sym same ∙ is) ∙ space_of-Mixed ps)

-- the answers of `mixed`
pub joined_fits_at : (ps qs : List ElementTree) (d : ℕ) → ps ≡ qs → Ok d ≡ common_depth (spaces_in ps) → AreLawful (spaces_in ps)
    → local_size (scalars_of (spaces_in qs)) < 2 ^ 32
joined_fits_at ps qs d same e h = subst (λ ts. local_size (scalars_of (spaces_in ts)) < 2 ^ 32) same (joined_fits (spaces_in ps) d (sym e) h)

pub described_mixed_at : (ts ps us bs cs : List ElementTree) (cell : Cell) (depth : ℕ) (flat : Parts) → ts ≡ ps → us ≡ ps → bs ≡ ps → cs ≡ ps
    → Ok cell ≡ common_cell (spaces_in us) → Ok depth ≡ common_depth (spaces_in bs)
    → AreLawful (spaces_in bs) → flat ≡ laid_out (scalars_of (spaces_in cs)) → Describes (space_of (v.Mixed ts)) cell (depth + 1) flat
described_mixed_at ts ps us bs cs cell depth flat t a b c e d h p =
    described_mixed_tree ts ps cell depth flat t
    (sym (e ∙ ap (λ ws. common_cell (spaces_in ws)) a))
    (sym (d ∙ ap (λ us. common_depth (spaces_in us)) b))
    (subst (λ us. AreLawful (spaces_in us)) b h)
    (p ∙ ap (λ us. laid_out (scalars_of (spaces_in us))) c)

-- the answers of `joined`
pub kept_scalars : (xs : List Part) (p : Parts) (ss : List Scalar) → xs ≡ p.items → p ≡ laid_out ss → map scalar_of xs ≡ ss
kept_scalars xs p ss a b = ap (map scalar_of) (a ∙ ap (λ q. q.items) b) ∙ scalars-placed 0 ss

pub left_scalars : (ts : List ElementTree) (i : ℕ) (t : ElementTree) (xs : List Part) (p : Parts) → i < length ts → t ≡ get_or ts i t
    → xs ≡ p.items → p ≡ laid_out (scalars (space_of t))
    → scalars_of (spaces_in (drop i ts)) ≡ map scalar_of xs ++ scalars_of (spaces_in (drop (i + 1) ts))
left_scalars ts i t xs p h e a b =
    ap scalars_of (drop_spaces ts i t h e) ∙ ap (λ ss. ss ++ scalars_of (spaces_in (drop (i + 1) ts))) (sym (kept_scalars xs p (scalars (space_of t)) a b))

pub room_for_all : (p : Parts) (ys xs left whole : List Scalar) → left ≡ ys ++ xs → appended p left ≡ laid_out whole
    → local_size whole < 2 ^ 32 → p.local + local_size ys < 2 ^ 32
room_for_all p ys xs left whole is e h = omega (arith, local_size-append ys xs, ap local_size is, ap (λ q. q.local) e)
