-- The labels of the cells, one cell after the other
use Rattle.std.proofs.Common.{◌≡◌, ℕ, zero, suc, ◌+◌, ◌*◌, ◌<◌, ◌≤◌, ◌⊎◌, inl, inr, true, List, [], ◌∷◌, ◌++◌, Some, length, map, take, drop, refl, sym, ap, ap₂, ◌∙◌, ◌^◌, arith, add-one, append_assoc, drop-cons, length-append}
use Rattle.std.specs.List.{AllByRecursion, list_all, slice_get}
use Rattle.std.proofs.lemmas.List.{map-append, length-map, take_at}
use Rattle.std.proofs.Math.Seq.{drop-append_seam}
use Rattle.std.proofs.lemmas.Nat.{mul-le}
use Rattle.std.proofs.lemmas.Option.{get_or_from_slice_get}
use Rattle.spaces.specs.declared.cell.Cell.{Cell}
use Rattle.spaces.specs.declared.family.Family.{Family}
use Rattle.spaces.specs.declared.family.Family.TheVariants.{Lagrange, Dg, Real}
use Rattle.spaces.specs.declared.parts.Part.{Part}
use Rattle.spaces.specs.Scalar.{Scalar, scalar_of, local_size}
use Rattle.spaces.proofs.SpaceLaws.{node_count_few}
use Rattle.spaces.specs.Nodes.{nodes_of}
use Rattle.spaces.proofs.NodeLaws.{is_node, all_nodes, node_number}
use Rattle.mesh_in.specs.MeshData.{rows, most}
use Rattle.dofs.specs.declared.key.Key.{Key}
use Rattle.dofs.specs.Label.{Label, weighted, node_label}
use Rattle.dofs.specs.Order.{label_cmp, place, sorted_set}
use Rattle.dofs.specs.Arrays.{key_of, IsSmall, key_cmp}
use Rattle.dofs.specs.Parts.{IsOn}
use Rattle.dofs.specs.Rows.{part_labels, local_labels, labels_from, constant, constants, occurring, rows_of, cell_rows}
use Rattle.dofs.proofs.SupportLaws.{length-weighted}
use Rattle.dofs.proofs.LocalLaws.{first_node, node_sum}
use Rattle.dofs.proofs.SetLaws.{Member, all_append, all_sorted_set, length-sorted_set, is_sorted_set, strict_sorted_set, to_set, from_set, member_from_contains, contains_from_member}
use Rattle.dofs.proofs.Lists.{member_left, member_right}
use Rattle.dofs.proofs.RankLaws.{any_member}
use Rattle.dofs.proofs.KeyLaws.{key_total, key_separates, keys_in_order, same_places}

-- ---- arrays of three are enough
small_nodes : (c : Cell) (q j : ℕ) (f : Family) (k : ℕ) (vs : List ℕ) (ns : List (List ℕ)) → q ≤ 3 → list_all (is_node c q) ns ≡ true → AllByRecursion IsSmall (map (node_label j f k vs) ns)
small_nodes c q j f k vs [] few all = tt
small_nodes c q j f k vs (w ∷ ns) few all =
    let here = first_node c q w ns all in (
      record {
        few = omega (arith, length-map (weighted vs w) (λ p. p.vertex), length-weighted vs w, node_sum c q w here.0);
        weights = length-map (weighted vs w) (λ p. p.weight) ∙ sym (length-map (weighted vs w) (λ p. p.vertex));
      },
      small_nodes c q j f k vs ns few here.1,
    )

pub small_local : (c : Cell) (j : ℕ) (ss : List Scalar) (k : ℕ) (vs : List ℕ) → AllByRecursion (IsOn c) ss → AllByRecursion IsSmall (local_labels c j ss k vs)
small_local c j [] k vs on = tt
small_local c j (s ∷ ss) k vs on =
    all_append IsSmall (part_labels c j s k vs) (local_labels c (suc j) ss k vs)
    (small_nodes c s.degree j s.family k vs (nodes_of c s.degree) on.0.degree (all_nodes c s.degree on.0.degree)) (small_local c (suc j) ss k vs on.1)

small_from : (c : Cell) (ss : List Scalar) (k : ℕ) (cells : List (List ℕ)) → AllByRecursion (IsOn c) ss → AllByRecursion IsSmall (labels_from c ss k cells)
small_from c ss k [] on = tt
small_from c ss k (vs ∷ cells) on = all_append IsSmall (local_labels c zero ss k vs) (labels_from c ss (suc k) cells) (small_local c zero ss k vs on) (small_from c ss (suc k) cells on)

small_constant : (j : ℕ) (f : Family) → AllByRecursion IsSmall (constant j f)
small_constant j Lagrange = tt
small_constant j Dg = tt
small_constant j Real = (record { few = omega arith; weights = refl }, tt)

small_constants : (j : ℕ) (ss : List Scalar) → AllByRecursion IsSmall (constants j ss)
small_constants j [] = tt
small_constants j (s ∷ ss) = all_append IsSmall (constant j s.family) (constants (suc j) ss) (small_constant j s.family) (small_constants (suc j) ss)

pub small_occurring : (c : Cell) (ss : List Scalar) (cells : List (List ℕ)) → AllByRecursion (IsOn c) ss → AllByRecursion IsSmall (occurring c ss cells)
small_occurring c ss cells on = all_append IsSmall (constants zero ss) (labels_from c ss zero cells) (small_constants zero ss) (small_from c ss zero cells on)

pub small_rows : (c : Cell) (ss : List Scalar) (cells : List (List ℕ)) → AllByRecursion (IsOn c) ss → AllByRecursion IsSmall (rows_of c ss cells)
small_rows c ss cells on = all_sorted_set IsSmall label_cmp (occurring c ss cells) (small_occurring c ss cells on)

-- ---- one cell more
next_cell : (cells : List (List ℕ)) (k : ℕ) (vs : List ℕ) → k < length cells → slice_get cells k ≡ Some vs → drop k cells ≡ vs ∷ drop (k + 1) cells
next_cell cells k vs lt e =
    drop-cons cells k [] lt ∙ ap₂ (λ v n. v ∷ drop n cells) (get_or_from_slice_get cells k vs [] e) (sym (add-one k))

labels_more : (c : Cell) (ss : List Scalar) (cells : List (List ℕ)) (k : ℕ) (vs : List ℕ) → k < length cells → slice_get cells k ≡ Some vs
    → labels_from c ss k (drop k cells) ≡ local_labels c zero ss k vs ++ labels_from c ss (k + 1) (drop (k + 1) cells)
labels_more c ss cells k vs lt e =
    ap (labels_from c ss k) (next_cell cells k vs lt e) ∙ ap (λ n. local_labels c zero ss k vs ++ labels_from c ss n (drop (k + 1) cells)) (sym (add-one k))

pub keys_more : (c d : Cell) (ss : List Scalar) (cells : List (List ℕ)) (k : ℕ) (vs : List ℕ) (before after whole : List Key) → k < length cells → slice_get cells k ≡ Some vs → d ≡ c
    → after ≡ before ++ map key_of (local_labels d zero ss k vs) → before ++ map key_of (labels_from c ss k (drop k cells)) ≡ whole
    → after ++ map key_of (labels_from c ss (k + 1) (drop (k + 1) cells)) ≡ whole
keys_more c d ss cells k vs before after whole lt e same is rest =
    let left = labels_from c ss (k + 1) (drop (k + 1) cells) in
    ap (λ ks. ks ++ map key_of left) (is ∙ ap (λ b. before ++ map key_of (local_labels b zero ss k vs)) same)
    ∙ append_assoc before (map key_of (local_labels c zero ss k vs)) (map key_of left)
    ∙ ap (λ ks. before ++ ks) (sym (map-append key_of (local_labels c zero ss k vs) left))
    ∙ ap (λ ls. before ++ map key_of ls) (sym (labels_more c ss cells k vs lt e))
    ∙ rest

pub length_local : (c : Cell) (j : ℕ) (ss : List Scalar) (k : ℕ) (vs : List ℕ) → AllByRecursion (IsOn c) ss → length (local_labels c j ss k vs) ≡ local_size ss
length_local c j [] k vs on = refl
length_local c j (s ∷ ss) k vs on =
    omega (
      arith,
      length-append (part_labels c j s k vs) (local_labels c (suc j) ss k vs),
      length-map (nodes_of c s.degree) (node_label j s.family k vs),
      node_number c s.degree on.0.degree,
      on.0.nodes,
      length_local c (suc j) ss k vs on.1,
    )

-- ---- row numbers of 32 bits are enough
length-from : (c : Cell) (ss : List Scalar) (k : ℕ) (cells : List (List ℕ)) → AllByRecursion (IsOn c) ss → length (labels_from c ss k cells) ≡ length cells * local_size ss
length-from c ss k [] on = let none : 0 ≡ 0 * local_size ss = omega arith in none
length-from c ss k (vs ∷ cells) on =
    length-append (local_labels c zero ss k vs) (labels_from c ss (suc k) cells)
    ∙ ap₂ (λ m n. m + n) (length_local c zero ss k vs on) (length-from c ss (suc k) cells on)
    ∙ next (length cells) (local_size ss)
  where
    next : (n w : ℕ) → w + n * w ≡ suc n * w
    next n w = grind arith

length-constants : (j : ℕ) (ss : List Scalar) → length (constants j ss) ≤ length ss
length-constants j [] = omega arith
length-constants j (s ∷ ss) = omega (arith, length-append (constant j s.family) (constants (suc j) ss), length-constants (suc j) ss, one j s.family)
  where
    one : (j : ℕ) (f : Family) → length (constant j f) ≤ 1
    one j Lagrange = omega arith
    one j Dg = omega arith
    one j Real = omega arith

few_local : (c : Cell) (ss : List Scalar) → AllByRecursion (IsOn c) ss → local_size ss ≤ 20 * length ss
few_local c [] on = omega arith
few_local c (s ∷ ss) on = omega (arith, few_local c ss on.1, on.0.nodes, node_count_few c s.degree on.0.degree)

few_nodes : (c : Cell) (ss : List Scalar) (cells : ℕ) → AllByRecursion (IsOn c) ss → length ss ≤ 64 → cells ≤ most → cells * local_size ss ≤ 1000000 * 1280
few_nodes c ss cells on few small = mul-le cells (local_size ss) 1000000 1280 small (omega (arith, few_local c ss on, few))

pub few_places : (c : Cell) (ps : List Part) (cells size : ℕ) → AllByRecursion (IsOn c) (map scalar_of ps) → length ps ≤ 64 → cells ≤ most → size ≡ cells * local_size (map scalar_of ps) → size < 2 ^ 32
few_places c ps cells size on few small e = omega (arith, e, few_nodes c (map scalar_of ps) cells on (omega (arith, length-map ps scalar_of, few)) small)

few_occurring : (c : Cell) (ss : List Scalar) (cells : List (List ℕ)) → AllByRecursion (IsOn c) ss → length ss ≤ 64 → length cells ≤ most → length (occurring c ss cells) < 2 ^ 32
few_occurring c ss cells on few small =
    omega (arith, length-append (constants zero ss) (labels_from c ss zero cells), length-constants zero ss, length-from c ss zero cells on, few_nodes c ss (length cells) on few small, few)

pub few_rows : (c : Cell) (ps : List Part) (cells : List (List ℕ)) (labels : List Key) → AllByRecursion (IsOn c) (map scalar_of ps) → length ps ≤ 64 → length cells ≤ most
    → labels ≡ map key_of (rows_of c (map scalar_of ps) cells) → length labels < 2 ^ 32
few_rows c ps cells labels on few small e =
    omega (
      arith,
      ap length e,
      length-map (rows_of c (map scalar_of ps) cells) key_of,
      length-sorted_set label_cmp (occurring c (map scalar_of ps) cells),
      few_occurring c (map scalar_of ps) cells on (omega (arith, length-map ps scalar_of, few)) small,
    )

-- ---- the labels of all cells and the constants, in another order
swap : {K : Type 0} (z : K) (xs ys : List K) → Member z (xs ++ ys) → Member z (ys ++ xs)
swap z xs ys m = sides (from_append z xs ys m)
  where
    from_append : {K : Type 0} (z : K) (xs ys : List K) → Member z (xs ++ ys) → Member z xs ⊎ Member z ys
    from_append z [] ys m = inr m
    from_append z (x ∷ xs) ys (inl e) = inl (inl e)
    from_append z (x ∷ xs) ys (inr m) = up (from_append z xs ys m)
      where
        up : Member z xs ⊎ Member z ys → Member z (x ∷ xs) ⊎ Member z ys
        up (inl n) = inl (inr n)
        up (inr n) = inr n

    sides : Member z xs ⊎ Member z ys → Member z (ys ++ xs)
    sides (inl n) = member_right z ys xs n
    sides (inr n) = member_left z ys xs n

swapped : (xs ys : List Key) → sorted_set key_cmp (xs ++ ys) ≡ sorted_set key_cmp (ys ++ xs)
swapped xs ys =
    is_sorted_set key_total key_separates (ys ++ xs) (sorted_set key_cmp (xs ++ ys)) (strict_sorted_set key_total (xs ++ ys))
    (λ z h. any_member z (sorted_set key_cmp (xs ++ ys)) (to_set key_cmp key_separates z (xs ++ ys) (swap z ys xs (member_from_contains (ys ++ xs) z h))))
    (λ z h. contains_from_member (ys ++ xs) z (swap z xs ys (from_set key_cmp z (xs ++ ys) (member_from_contains (sorted_set key_cmp (xs ++ ys)) z h))))

-- ---- the rows of all cells
pub labels_made : (c : Cell) (ss : List Scalar) (cells : List (List ℕ)) (keys labels : List Key) → AllByRecursion (IsOn c) ss
    → keys ≡ map key_of (labels_from c ss 0 cells) ++ map key_of (constants 0 ss) → labels ≡ sorted_set key_cmp keys → labels ≡ map key_of (rows_of c ss cells)
labels_made c ss cells keys labels on is e =
    e ∙ ap (sorted_set key_cmp) is ∙ swapped (map key_of (labels_from c ss 0 cells)) (map key_of (constants 0 ss))
    ∙ ap (sorted_set key_cmp) (sym (map-append key_of (constants 0 ss) (labels_from c ss 0 cells)))
    ∙ keys_in_order (occurring c ss cells) (small_occurring c ss cells on)

cells_made : (c : Cell) (ss : List Scalar) (ms : List Label) (k : ℕ) (cells : List (List ℕ)) → AllByRecursion (IsOn c) ss → AllByRecursion IsSmall ms
    → rows (local_size ss) (length cells) (map (λ x. place key_cmp x (map key_of ms)) (map key_of (labels_from c ss k cells))) ≡ cell_rows c ss ms k cells
unfolding rows
cells_made c ss ms k [] on small = refl
cells_made c ss ms k (vs ∷ cells) on small =
    let here = local_labels c zero ss k vs in
    let rest = labels_from c ss (suc k) cells in
    let numbers : List Label → List ℕ = λ ls. map (λ x. place key_cmp x (map key_of ms)) (map key_of ls) in
    let split : numbers (local_labels c zero ss k vs ++ labels_from c ss (suc k) cells) ≡ numbers (local_labels c zero ss k vs) ++ numbers (labels_from c ss (suc k) cells) =
    ap (map (λ x. place key_cmp x (map key_of ms))) (map-append key_of (local_labels c zero ss k vs) (labels_from c ss (suc k) cells))
    ∙ map-append (λ x. place key_cmp x (map key_of ms)) (map key_of (local_labels c zero ss k vs)) (map key_of (labels_from c ss (suc k) cells)) in
    let wide : length (numbers (local_labels c zero ss k vs)) ≡ local_size ss =
    length-map (map key_of (local_labels c zero ss k vs)) (λ x. place key_cmp x (map key_of ms)) ∙ length-map (local_labels c zero ss k vs) key_of ∙ length_local c zero ss k vs on in
    ap₂ (λ r rs. r ∷ rs)
    (ap (take (local_size ss)) split ∙ take_at (numbers (local_labels c zero ss k vs)) (numbers (labels_from c ss (suc k) cells)) (local_size ss) wide
    ∙ same_places (local_labels c zero ss k vs) ms (small_local c zero ss k vs on) small)
    (ap (λ t. rows (local_size ss) (length cells) t)
    (ap (drop (local_size ss)) split ∙ ap (λ n. drop n (numbers (local_labels c zero ss k vs) ++ numbers (labels_from c ss (suc k) cells))) (sym wide)
    ∙ drop-append_seam (numbers (local_labels c zero ss k vs)) (numbers (labels_from c ss (suc k) cells)))
    ∙ cells_made c ss ms (suc k) cells on small)

-- the ranks of the keys in front
pub ranks_made : (c : Cell) (ss : List Scalar) (cells : List (List ℕ)) (keys : List Key) (n : ℕ) (all ranks : List ℕ) → AllByRecursion (IsOn c) ss
    → keys ≡ map key_of (labels_from c ss 0 cells) ++ map key_of (constants 0 ss) → all ≡ map (λ k. place key_cmp k (sorted_set key_cmp keys)) keys
    → n ≡ length cells * local_size ss → ranks ≡ take n all → ranks ≡ map (λ k. place key_cmp k (map key_of (rows_of c ss cells))) (map key_of (labels_from c ss 0 cells))
ranks_made c ss cells keys n all ranks on is each size front =
    let f : Key → ℕ = λ k. place key_cmp k (map key_of (rows_of c ss cells)) in
    let many : length (map f (map key_of (labels_from c ss 0 cells))) ≡ n =
    length-map (map key_of (labels_from c ss 0 cells)) f ∙ length-map (labels_from c ss 0 cells) key_of ∙ length-from c ss 0 cells on ∙ sym size in
    front ∙ ap (take n) (each
    ∙ ap₂ (λ ls ks. map (λ k. place key_cmp k ls) ks) (labels_made c ss cells keys (sorted_set key_cmp keys) on is refl) is
    ∙ map-append f (map key_of (labels_from c ss 0 cells)) (map key_of (constants 0 ss)))
    ∙ take_at (map f (map key_of (labels_from c ss 0 cells))) (map f (map key_of (constants 0 ss))) n many

pub ranks_size : (c : Cell) (ss : List Scalar) (cells : List (List ℕ)) (ranks : List ℕ) → AllByRecursion (IsOn c) ss
    → ranks ≡ map (λ k. place key_cmp k (map key_of (rows_of c ss cells))) (map key_of (labels_from c ss 0 cells)) → length ranks ≡ length cells * local_size ss
ranks_size c ss cells ranks on is =
    ap length is ∙ length-map (map key_of (labels_from c ss 0 cells)) (λ k. place key_cmp k (map key_of (rows_of c ss cells))) ∙ length-map (labels_from c ss 0 cells) key_of ∙ length-from c ss 0 cells on

pub rows_made : (c : Cell) (ss : List Scalar) (cells : List (List ℕ)) (ranks : List ℕ) → AllByRecursion (IsOn c) ss
    → ranks ≡ map (λ k. place key_cmp k (map key_of (rows_of c ss cells))) (map key_of (labels_from c ss 0 cells))
    → rows (local_size ss) (length cells) ranks ≡ cell_rows c ss (rows_of c ss cells) 0 cells
rows_made c ss cells ranks on is = ap (rows (local_size ss) (length cells)) is ∙ cells_made c ss (rows_of c ss cells) 0 cells on (small_rows c ss cells on)

pub few_keys : (c : Cell) (ps : List Part) (cells : List (List ℕ)) (keys : List Key) → AllByRecursion (IsOn c) (map scalar_of ps) → length ps ≤ 64 → length cells ≤ most
    → keys ≡ map key_of (labels_from c (map scalar_of ps) 0 cells) ++ map key_of (constants 0 (map scalar_of ps)) → length keys < 2 ^ 32
few_keys c ps cells keys on few small is =
    let ss = map scalar_of ps in
    omega (
      arith,
      ap length is,
      length-append (map key_of (labels_from c (map scalar_of ps) 0 cells)) (map key_of (constants 0 (map scalar_of ps))),
      length-map (labels_from c (map scalar_of ps) 0 cells) key_of,
      length-map (constants 0 (map scalar_of ps)) key_of,
      length-append (constants zero (map scalar_of ps)) (labels_from c (map scalar_of ps) zero cells),
      few_occurring c (map scalar_of ps) cells on (omega (arith, length-map ps scalar_of, few)) small,
    )
