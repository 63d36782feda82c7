-- The places of local labels, and the functions of the local nodes by place
use Rattle.std.proofs.Common.{◌≡◌, ℕ, zero, suc, ◌+◌, ◌-◌, ◌<◌, ◌≤◌, inl, inr, Bool, true, false, ◌&&◌, List, [], ◌∷◌, length, nat_lt, nat_le, get_or, slice_get, Option, None, Some, if◌then◌else◌, refl, sym, ap, ap₂, ◌∙◌, subst, arith, eq-eqb, add_assoc, add-zero, zero-add}
use Rattle.std.specs.List.{AllByRecursion}
use Rattle.std.proofs.lemmas.Bool.Decides.{nat_tests}
use Rattle.std.proofs.lemmas.List.{length-map}
use Rattle.calculus.specs.Polynomial.{nil}
use Rattle.calculus.specs.LocalFunction.{local_function}
use Rattle.spaces.specs.declared.cell.Cell.{Cell}
use Rattle.spaces.specs.declared.cell.Cell.TheVariants.{Interval, Triangle, Tetrahedron}
use Rattle.spaces.specs.declared.family.Family.{Family}
use Rattle.spaces.specs.declared.parts.Part.{Part}
use Rattle.spaces.specs.Cell.{dimension}
use Rattle.spaces.specs.Scalar.{Scalar, part_at, placed, laid_out}
use Rattle.spaces.specs.Nodes.{nodes_of}
use Rattle.spaces.proofs.NodeLaws.{node_number, all_nodes}
use Rattle.dofs.specs.Label.{Label, node_label}
use Rattle.dofs.specs.Parts.{IsOn}
use Rattle.dofs.specs.Rows.{part_labels, local_labels}
use Rattle.dofs.specs.Basis.{CellOf, function_on, basis_value}
use Rattle.refint.specs.Local.{cell_in, node_function, in_part, argument_value}
use Rattle.dofs.proofs.Lists.{suc-moves, same_some, all_at, IsDistinct, one_place}
use Rattle.form_values.proofs.Lists.{get_left, get_right, get_map, member_place, at_size}
use Rattle.dofs.proofs.NodeLabels.{IsCellOf, function_of_node, sizes, distinct_local}
use Rattle.dofs.proofs.OccurringLabels.{IsPart, HasPart, of_local, no_component, only_local}

-- ---- a part in the flat list, and the places of its labels
pub record IsPlaced (c : Cell) (j o : ℕ) (ss : List Scalar) (k : ℕ) (vs : List ℕ) (i : ℕ) (p : Part) : Type 0 where
  pub scalar : Scalar
  pub part : slice_get ss i ≡ Some scalar
  pub degree : p.degree ≡ scalar.degree
  pub few : scalar.degree ≤ 3
  pub nodes : length (nodes_of c scalar.degree) ≡ p.nodes
  -- how many local nodes are before it
  pub start : ℕ
  pub offset : p.offset ≡ o + start
  pub label : (n : ℕ) → n < p.nodes → slice_get (local_labels c j ss k vs) (start + n) ≡ Some (node_label (j + i) scalar.family k vs (get_or (nodes_of c scalar.degree) n []))

pub is_placed : (c : Cell) (j o : ℕ) (ss : List Scalar) (k : ℕ) (vs : List ℕ) (i : ℕ) (p : Part) → AllByRecursion (IsPart c) ss → slice_get (placed o ss) i ≡ Some p → IsPlaced c j o ss k vs i p
is_placed c j o [] k vs i p on h = cc
is_placed c j o (s ∷ ss) k vs zero p on h =
    let e : part_at o s ≡ p = same_some (part_at o s) p h in
    subst (IsPlaced c j o (s ∷ ss) k vs zero) e (record {
      scalar = s;
      part = refl;
      degree = refl;
      few = on.0.on.degree;
      nodes = node_number c s.degree on.0.on.degree ∙ sym on.0.on.nodes;
      start = 0;
      offset = sym (add-zero o);
      label = λ n lt.
          get_left (part_labels c j s k vs) (local_labels c (suc j) ss k vs) (0 + n) _
          (ap (slice_get (part_labels c j s k vs)) (zero-add n) ∙ get_map (node_label j s.family k vs) (nodes_of c s.degree) n [] (omega (arith, lt, node_number c s.degree on.0.on.degree, on.0.on.nodes))
          ∙ ap (λ m. Some (node_label m s.family k vs (get_or (nodes_of c s.degree) n []))) (sym (add-zero j)));
    })
is_placed c j o (s ∷ ss) k vs (suc i) p on h =
    let r = is_placed c (suc j) (o + s.nodes) ss k vs i p on.1 h in
    let size : length (part_labels c j s k vs) ≡ s.nodes = length-map (nodes_of c s.degree) (node_label j s.family k vs) ∙ node_number c s.degree on.0.on.degree ∙ sym on.0.on.nodes in
    record {
      scalar = r.scalar;
      part = r.part;
      degree = r.degree;
      few = r.few;
      nodes = r.nodes;
      start = s.nodes + r.start;
      offset = omega (arith, r.offset);
      label = λ n lt.
          ap (slice_get (local_labels c j (s ∷ ss) k vs)) (add_assoc s.nodes r.start n)
          ∙ get_right (part_labels c j s k vs) (local_labels c (suc j) ss k vs) s.nodes (r.start + n) size
          ∙ r.label n lt
          ∙ ap (λ m. Some (node_label m r.scalar.family k vs (get_or (nodes_of c r.scalar.degree) n []))) (suc-moves j i);
    }

pub not_placed : (o : ℕ) (ss : List Scalar) (i : ℕ) → slice_get (placed o ss) i ≡ None → slice_get ss i ≡ None
not_placed o [] i h = refl
not_placed o (s ∷ ss) zero h = cc
not_placed o (s ∷ ss) (suc i) h = not_placed (o + s.nodes) ss i h

-- ---- the functions by place
pub cell_back : (c : Cell) → cell_in (dimension c) ≡ c
cell_back Interval = refl
cell_back Triangle = refl
cell_back Tetrahedron = refl

pub basis_of_node : (i : ℕ) (f : Family) (k : CellOf) (ws : List ℕ) → IsDistinct k.vertices → length ws ≡ length k.vertices → basis_value (node_label i f k.number k.vertices ws) k i ≡ local_function k.corners ws
basis_of_node i f k ws d e =
    ap (λ t. if t then function_on (node_label i f k.number k.vertices ws) k else nil) (eq-eqb i i refl) ∙ function_of_node i f k.number k.vertices ws k.corners d e

-- that of node n of a part
pub node_is : (c : Cell) (ss : List Scalar) (k : CellOf) (i n : ℕ) (p : Part) (h : IsPlaced c 0 0 ss k.number k.vertices i p) → IsCellOf c k.vertices → n < p.nodes
    → basis_value (node_label i h.scalar.family k.number k.vertices (get_or (nodes_of c h.scalar.degree) n [])) k i ≡ node_function (dimension c) k.corners p n
node_is c ss k i n p h is lt =
    basis_of_node i h.scalar.family k (get_or (nodes_of c h.scalar.degree) n []) is.distinct
    (at_size (λ w. length w ≡ length k.vertices) (nodes_of c h.scalar.degree) n [] (sizes c h.scalar.degree k.vertices (nodes_of c h.scalar.degree) is (all_nodes c h.scalar.degree h.few)) (omega (arith, lt, h.nodes)))
    ∙ ap₂ (λ b q. local_function k.corners (get_or (nodes_of b q) n [])) (sym (cell_back c)) (sym h.degree)

pub own_label : (c : Cell) (ss : List Scalar) (k : ℕ) (vs : List ℕ) (i n : ℕ) (p : Part) (h : IsPlaced c 0 0 ss k vs i p) → n < p.nodes
    → slice_get (local_labels c 0 ss k vs) (p.offset + n) ≡ Some (node_label i h.scalar.family k vs (get_or (nodes_of c h.scalar.degree) n []))
own_label c ss k vs i n p h lt =
    ap (λ m. slice_get (local_labels c 0 ss k vs) (m + n)) (h.offset ∙ zero-add h.start) ∙ h.label n lt
    ∙ ap (λ m. Some (node_label m h.scalar.family k vs (get_or (nodes_of c h.scalar.degree) n []))) (zero-add i)

tested : (o a n : ℕ) → (nat_le o a && nat_lt a (o + n)) ≡ true → (o ≤ a) × (a < o + n)
tested o a n h = grind (arith, nat_tests)

tested_none : (o a n : ℕ) → (nat_le o a && nat_lt a (o + n)) ≡ false → (m : ℕ) → m < n → a ≡ o + m → ⊥
tested_none o a n h m lt e = grind (arith, nat_tests)

-- the function of local node a in component i is that of its label
pub argument_is : (c : Cell) (ss : List Scalar) (k : CellOf) (a i : ℕ) (l : Label) → AllByRecursion (IsPart c) ss → IsCellOf c k.vertices
    → slice_get (local_labels c 0 ss k.number k.vertices) a ≡ Some l → basis_value l k i ≡ argument_value (dimension c) k.corners (laid_out ss) a i
argument_is c ss k a i l on is at = go (slice_get (placed 0 ss) i) refl
  where
    has : HasPart ss l
    has = all_at (HasPart ss) (local_labels c 0 ss k.number k.vertices) a l (of_local c ss 0 ss k.number k.vertices (λ n. ap (slice_get ss) (zero-add n)) on is) at

    inside : (p : Part) (h : IsPlaced c 0 0 ss k.number k.vertices i p) (t : Bool) → (nat_le p.offset a && nat_lt a (p.offset + p.nodes)) ≡ t
        → basis_value l k i ≡ (if t then node_function (dimension c) k.corners p (a - p.offset) else nil)
    inside p h true e =
        let within = tested p.offset a p.nodes e in
        let lt : a - p.offset < p.nodes = omega (arith, within) in
        let back : p.offset + (a - p.offset) ≡ a = omega (arith, within.0) in
        let same = same_some l _ (sym at ∙ ap (slice_get (local_labels c 0 ss k.number k.vertices)) (sym back) ∙ own_label c ss k.number k.vertices i (a - p.offset) p h lt) in
        ap (λ m. basis_value m k i) same ∙ node_is c ss k i (a - p.offset) p h is lt
    inside p h false e = elim (only_local c ss l k i h.scalar has is h.part) [
      | inl none ↦ none
      | inr m ↦
          let r = member_place (node_label i h.scalar.family k.number k.vertices) (nodes_of c h.scalar.degree) l [] m in
          let lt : r.0 < p.nodes = omega (arith, r.1, h.nodes) in
          absurd (tested_none p.offset a p.nodes e r.0 lt
          (one_place (local_labels c 0 ss k.number k.vertices) a (p.offset + r.0) l (distinct_local c 0 ss k.number k.vertices (parts_on ss on) is) at
          (own_label c ss k.number k.vertices i r.0 p h lt ∙ ap Some (sym r.2))))
    ]
      where
        parts_on : (ss : List Scalar) → AllByRecursion (IsPart c) ss → AllByRecursion (IsOn c) ss
        parts_on [] all = tt
        parts_on (s ∷ ss) all = (all.0.on, parts_on ss all.1)

    go : (o : Option Part) → slice_get (placed 0 ss) i ≡ o → basis_value l k i ≡ in_part (dimension c) k.corners o a
    go None e = no_component ss l k i has (not_placed 0 ss i e)
    go (Some p) e = inside p (is_placed c 0 0 ss k.number k.vertices i p on e) (nat_le p.offset a && nat_lt a (p.offset + p.nodes)) refl
