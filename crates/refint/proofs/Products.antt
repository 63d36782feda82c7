-- The product of the atoms of a monomial as a sum over nodes and directions
use Rattle.std.specs.Prelude.{◌≡◌, ℕ, ◌+◌, ◌==◌, Bool, true, false, List, [], ◌∷◌, map, take, drop, slice_index, slice_get, slice_index_or, Option, None, Some, if◌then◌else◌}
use Rattle.std.specs.List.{flat_map}
use mathlib.Core.Path.{refl, sym, ◌∙◌, ap, ap₂}
use Rattle.algebra.specs.RingLaws as L
use Rattle.algebra.specs.Fraction.{Fraction, zero_fraction, one_fraction, is_zero_fraction}
use Rattle.calculus.specs.Polynomial.{Polynomial, nil, one, plus, times, constant, composed, polynomials}
use Rattle.calculus.specs.Jacobian.{vertex_at}
use Rattle.calculus.specs.Simplex.{Simplex, IsCell, dimension, volume, reference, affine, along_axis}
use Rattle.calculus.proofs.PolynomialLaws.{composed-times, composed-one, constant-one}
use Rattle.spaces.specs.declared.parts.Part.{Part}
use Rattle.ufl_tree.specs.declared.function.Role.{Role}
use Rattle.ufl_tree.specs.declared.function.Role.TheVariants.{Test, Trial, Position, Coefficient}
use Rattle.ufl_meaning.specs.Monomial.{atoms_value}
use Rattle.monos.specs.declared.mono.Atom.{Atom}
use Rattle.refint.specs.Local.{position_part, part_value, coefficient_value, position_value, local_value, local, node_function, numbers_below}
use Rattle.monos.specs.declared.layout.CoefPlace.{CoefPlace}
use Rattle.monos.specs.declared.layout.Layout.{Layout}
use Rattle.refint.specs.Digits.{columns}
use Rattle.refint.specs.Reference.{digit_lists, growths, along_all, at_node, atom_function, without_own, product_at, part_in, part_of, nodes_in, node_values, vertex_values, values_of, value_lists, node_counts, is_argument}
use Rattle.monos.specs.Layout.{place_of}
use Rattle.monos.specs.Monomial.{directions}
use Rattle.refint.proofs.Lists.{map_append, first_mapped}
use Rattle.refint.proofs.Combined.{IsSum, mapped, bound, numbered, is_sum_at, product, map_length, times_is_linear, times_by_is_linear}
use Rattle.refint.proofs.PulledBack.{IsPulled, in_part_pulled, at_node_pulled, along_sum, along_is_linear, derived_along}

-- at these nodes of the coefficient atoms, on the cell itself
abbrev pub product_on : Layout → Simplex → ℕ → ℕ → List Atom → List ℕ → Polynomial
product_on l v a b [] ns = one
product_on l v a b (x ∷ xs) ns =
    times (along_all (directions x) (atom_function l v a b x.f.role x.component ns)) (product_on l v a b xs (without_own x.f.role ns))

one_term : plus (times (constant one_fraction) one) nil ≡ one
one_term = polynomials.add_zero _ ∙ ap (λ x. times x one) constant-one ∙ L.one-mul polynomials one

-- ---- nodes: the values of a coefficient times the functions of its nodes
module _ (d : ℕ) (v : Simplex) (w : List Fraction) where
  part_sum : (c : CoefPlace) (o : Option Part)
      → IsSum (node_values w (Some c) o) (map (at_node d v o) (numbers_below (nodes_in o))) (part_value d v w c.offset o)
  part_sum c None = record { lengths = refl; value = refl }
  part_sum c (Some p) = numbered (λ j. slice_index_or w (c.offset + p.offset + j) zero_fraction) (node_function d v p) p.nodes

  abbrev HasPart : Option CoefPlace → ℕ → Polynomial → Type 0
  HasPart o i p = IsSum (node_values w o (part_in o i)) (map (at_node d v (part_in o i)) (numbers_below (nodes_in (part_in o i)))) p

  first_or_later : (t : Bool) (c : CoefPlace) (i : ℕ) (o : Option CoefPlace) (p : Polynomial) → HasPart o i p
      → HasPart (if t then Some c else o) i (if t then part_value d v w c.offset (slice_get c.parts.items i) else p)
  first_or_later true c i o p h = part_sum c (slice_get c.parts.items i)
  first_or_later false c i o p h = h

  pub coefficient_sum : (cs : List CoefPlace) (n i : ℕ) → HasPart (place_of cs n) i (coefficient_value d v w cs n i)
  coefficient_sum [] n i = record { lengths = refl; value = refl }
  coefficient_sum (c ∷ cs) n i = first_or_later (c.number == n) c i _ _ (coefficient_sum cs n i)

  vertex_sum : (o : Option Part) (i : ℕ) → IsSum (vertex_values v o i) (map (at_node d v o) (numbers_below (nodes_in o))) (position_value d v o i)
  vertex_sum None i = record { lengths = refl; value = refl }
  vertex_sum (Some p) i = numbered (λ j. along_axis i (vertex_at v j)) (node_function d v p) p.nodes

module _ (l : Layout) (v : Simplex) (w : List Fraction) (a b : ℕ) where
  -- a function that is a sum over the nodes of a part
  one_more_sum : (o : Option Part) (values : List Fraction) (q : Polynomial) → IsSum values (map (at_node l.d v o) (numbers_below (nodes_in o))) q
      → (js : List ℕ) (vs : List (List Fraction)) (ms : List ℕ) (f : List ℕ → Polynomial) (t : Polynomial) → IsSum (columns vs) (map f (digit_lists ms)) t
      → IsSum (columns (values ∷ vs)) (map (λ ns. times (along_all js (at_node l.d v o (slice_index ns 0))) (f (drop 1 ns))) (digit_lists (nodes_in o ∷ ms)))
      (times (along_all js q) t)
  one_more_sum o values q h js vs ms f t k =
      is_sum_at _ _ _ _ _ _ refl
      (sym (first_mapped (λ ns. times (along_all js (at_node l.d v o (slice_index ns 0))) (f (drop 1 ns))) (nodes_in o) ms)) refl
      (bound (λ j. times (at j) t) (λ j. map (λ ns. times (at j) (f ns)) (digit_lists ms)) (columns vs)
      (λ j. mapped (times (at j)) (times_is_linear (at j)) f (columns vs) (digit_lists ms) t k)
      (numbers_below (nodes_in o)) values _
      (mapped (λ p. times p t) (times_by_is_linear t) at _ (numbers_below (nodes_in o)) _
      (mapped (along_all js) (along_is_linear js) (at_node l.d v o) _ (numbers_below (nodes_in o)) _ h)))
    where
      at : ℕ → Polynomial
      at j = along_all js (at_node l.d v o j)

  one_more : (r : Role) (i : ℕ) (js : List ℕ) (vs : List (List Fraction)) (ms : List ℕ) (f : List ℕ → Polynomial) (t : Polynomial)
      → IsSum (columns vs) (map f (digit_lists ms)) t
      → IsSum (columns (if is_argument r then vs else values_of l v w r i ∷ vs))
      (map (λ ns. times (along_all js (atom_function l v a b r i ns)) (f (without_own r ns))) (digit_lists (if is_argument r then ms else nodes_in (part_of l r i) ∷ ms)))
      (times (along_all js (local_value l v w a b r i)) t)
  one_more Test i js vs ms f t k = mapped (times _) (times_is_linear _) f (columns vs) (digit_lists ms) t k
  one_more Trial i js vs ms f t k = mapped (times _) (times_is_linear _) f (columns vs) (digit_lists ms) t k
  one_more Position i js vs ms f t k =
      one_more_sum (part_of l Position i) (values_of l v w Position i) (local_value l v w a b Position i) (vertex_sum l.d v w (position_part l.position i) i) js vs ms f t k
  one_more (Coefficient n) i js vs ms f t k =
      one_more_sum (part_of l (Coefficient n) i) (values_of l v w (Coefficient n) i) (local_value l v w a b (Coefficient n) i) (coefficient_sum l.d v w l.coefs n i) js vs ms f t k

  pub nodes_sum : (xs : List Atom)
      → IsSum (columns (value_lists l v w xs)) (map (product_on l v a b xs) (digit_lists (node_counts l xs))) (atoms_value (local l v w a b) xs)
  nodes_sum [] = record { lengths = refl; value = one_term }
  nodes_sum (x ∷ xs) =
      is_sum_at _ _ _ _ _ _ refl refl (ap (λ p. times p (atoms_value (local l v w a b) xs)) (sym (derived_along x _)))
      (one_more x.f.role x.component (directions x) (value_lists l v w xs) (node_counts l xs) (product_on l v a b xs) _ (nodes_sum xs))

-- ---- directions: after the map
module _ (l : Layout) (v : Simplex) (c : IsCell v) (h : is_zero_fraction (volume v) ≡ false) (e : dimension v ≡ l.d) (a b : ℕ) where
  atom_pulled : (r : Role) (i : ℕ) (ns : List ℕ) → IsPulled l.d v (atom_function l v a b r i ns) (atom_function l (reference l.d) a b r i ns)
  atom_pulled Test i ns = in_part_pulled l.d v c h e _ a
  atom_pulled Trial i ns = in_part_pulled l.d v c h e _ b
  atom_pulled Position i ns = at_node_pulled l.d v c h e _ _
  atom_pulled (Coefficient n) i ns = at_node_pulled l.d v c h e _ _

  pub directions_sum : (xs : List Atom) (ns : List ℕ)
      → IsSum (columns (map (growths l.d v) (flat_map directions xs))) (map (product_at l a b xs ns) (digit_lists (map (λ i. l.d) (flat_map directions xs))))
      (composed (affine v) (product_on l v a b xs ns))
  directions_sum [] ns = record { lengths = refl; value = one_term ∙ sym (composed-one (affine v)) }
  directions_sum (x ∷ xs) ns =
      is_sum_at _ _ _ _ _ _
      (ap columns (sym (map_append (growths l.d v) (directions x) (flat_map directions xs))))
      (ap₂ (λ n ms. map (λ ds. times (along_all (take n ds) q) (product_at l a b xs (without_own x.f.role ns) (drop n ds))) (digit_lists ms))
      (map_length (λ i. l.d) (directions x)) (sym (map_append (λ i. l.d) (directions x) (flat_map directions xs))))
      (sym (composed-times (affine v) _ _))
      (product (map (growths l.d v) (directions x)) (map (growths l.d v) (flat_map directions xs)) (map (λ i. l.d) (directions x)) (map (λ i. l.d) (flat_map directions xs))
      (λ ds. along_all ds q) (product_at l a b xs (without_own x.f.role ns)) _ _
      (along_sum l.d v c h e (directions x) _ q (atom_pulled x.f.role x.component ns)) (directions_sum xs (without_own x.f.role ns)))
    where
      q : Polynomial
      q = atom_function l (reference l.d) a b x.f.role x.component ns
