-- The items of a reference tensor, and the factors of its columns: Kirby and Logg, A compiler for variational forms, ACM TOMS 32 (2006)
use Rattle.std.specs.Prelude.{◌≡◌, ℕ, ◌+◌, List, [], ◌∷◌, ◌++◌, map, take, drop, slice_index, slice_index_or, slice_get, Option, None, Some, nat_lt, if◌then◌else◌, Bool, true, false, length}
use Rattle.std.specs.List.{flat_map}
use Rattle.spaces.specs.declared.parts.Part.{Part}
use Rattle.ufl_tree.specs.declared.function.Role.{Role}
use Rattle.ufl_tree.specs.declared.function.Role.TheVariants.{Test, Trial, Position, Coefficient}
use Rattle.algebra.specs.Fraction.{Fraction, zero_fraction, mul, absolute, is_zero_fraction}
use Rattle.calculus.specs.Polynomial.{Polynomial, nil, one, times, derivative, constant_term}
use Rattle.calculus.specs.Simplex.{Simplex, IsCell, dimension, volume, reference, along_axis}
use Rattle.calculus.specs.Integral.{shadow_integral, integral_value}
use Rattle.calculus.specs.Jacobian.{vertex_at, inverse_jacobian}
use Rattle.ufl_meaning.specs.Monomial.{mono_value}
use Rattle.monos.specs.Monomial.{Monomial, directions}
use Rattle.monos.specs.Layout.{place_of}
use Rattle.monos.specs.declared.mono.Atom.{Atom}
use Rattle.algebra.specs.Sums.{total}
use Rattle.refint.specs.Local.{position_part, node_function, argument_value, local, numbers_below, entries_of}
use Rattle.monos.specs.declared.layout.CoefPlace.{CoefPlace}
use Rattle.monos.specs.declared.layout.Layout.{Layout}
use Rattle.refint.specs.Digits.{columns, dot}

-- the part of a component
abbrev pub part_in : Option CoefPlace → ℕ → Option Part
part_in None i = None
part_in (Some c) i = slice_get c.parts.items i

abbrev pub nodes_in : Option Part → ℕ
nodes_in None = 0
nodes_in (Some p) = p.nodes

-- test and trial function; any other is a sum over the nodes of its parts
abbrev pub is_argument : Role → Bool
is_argument Test = true
is_argument Trial = true
is_argument Position = false
is_argument (Coefficient n) = false

-- the part of a component of a function that is summed over
abbrev pub part_of : Layout → Role → ℕ → Option Part
part_of l Test i = None
part_of l Trial i = None
part_of l Position i = position_part l.position i
part_of l (Coefficient n) i = part_in (place_of l.coefs n) i

-- the values of a part's nodes; what the list of values lacks is 0
abbrev pub node_values : List Fraction → Option CoefPlace → Option Part → List Fraction
node_values w None p = []
node_values w (Some c) None = []
node_values w (Some c) (Some p) = map (λ j. slice_index_or w (c.offset + p.offset + j) zero_fraction) (numbers_below p.nodes)

-- the coordinates of the vertices at a part's nodes
abbrev pub vertex_values : Simplex → Option Part → ℕ → List Fraction
vertex_values v None i = []
vertex_values v (Some p) i = map (λ j. along_axis i (vertex_at v j)) (numbers_below p.nodes)

abbrev pub values_of : Layout → Simplex → List Fraction → Role → ℕ → List Fraction
values_of l v w Test i = []
values_of l v w Trial i = []
values_of l v w Position i = vertex_values v (position_part l.position i) i
values_of l v w (Coefficient n) i = node_values w (place_of l.coefs n) (part_in (place_of l.coefs n) i)

-- of each atom that is no argument, in their order: the values of its nodes, and how many these are
abbrev pub value_lists : Layout → Simplex → List Fraction → List Atom → List (List Fraction)
value_lists l v w [] = []
value_lists l v w (x ∷ xs) = if is_argument x.f.role then value_lists l v w xs else values_of l v w x.f.role x.component ∷ value_lists l v w xs

abbrev pub node_counts : Layout → List Atom → List ℕ
node_counts l [] = []
node_counts l (x ∷ xs) = if is_argument x.f.role then node_counts l xs else nodes_in (part_of l x.f.role x.component) ∷ node_counts l xs

-- how each reference coordinate grows in a physical direction
abbrev pub growths : ℕ → Simplex → ℕ → List Fraction
growths d v i = map (λ a. if nat_lt i d then inverse_jacobian v a i else zero_fraction) (numbers_below d)

abbrev pub factors : Layout → Simplex → List Fraction → List Atom → List (List Fraction)
factors l v w xs = value_lists l v w xs ++ map (growths l.d v) (flat_map directions xs)

-- ---- items
abbrev pub along_all : List ℕ → Polynomial → Polynomial
along_all [] p = p
along_all (i ∷ is) p = derivative i (along_all is p)

abbrev pub at_node : ℕ → Simplex → Option Part → ℕ → Polynomial
at_node d v None j = nil
at_node d v (Some p) j = node_function d v p j

-- the function of an atom on a cell: of local node a or b, or of the first node in a list
abbrev pub atom_function : Layout → Simplex → ℕ → ℕ → Role → ℕ → List ℕ → Polynomial
atom_function l v a b Test i ns = argument_value l.d v l.rows a i
atom_function l v a b Trial i ns = argument_value l.d v l.cols b i
atom_function l v a b Position i ns = at_node l.d v (part_of l Position i) (slice_index ns 0)
atom_function l v a b (Coefficient n) i ns = at_node l.d v (part_of l (Coefficient n) i) (slice_index ns 0)

abbrev pub without_own : Role → List ℕ → List ℕ
without_own Test ns = ns
without_own Trial ns = ns
without_own Position ns = drop 1 ns
without_own (Coefficient n) ns = drop 1 ns

-- at these nodes of the coefficient atoms, in these reference directions
abbrev pub product_at : Layout → ℕ → ℕ → List Atom → List ℕ → List ℕ → Polynomial
product_at l a b [] ns ds = one
product_at l a b (x ∷ xs) ns ds =
    times (along_all (take (length (directions x)) ds) (atom_function l (reference l.d) a b x.f.role x.component ns))
    (product_at l a b xs (without_own x.f.role ns) (drop (length (directions x)) ds))

abbrev pub item : Layout → Monomial → ℕ → ℕ → List ℕ → List ℕ → Fraction
item l m a b ns ds = mul m.c (constant_term (shadow_integral l.d (reference l.d) (product_at l a b m.atoms ns ds)))

abbrev pub digit_lists : List ℕ → List (List ℕ)
digit_lists [] = [] ∷ []
digit_lists (n ∷ ns) = flat_map (λ k. map (λ ds. k ∷ ds) (digit_lists ns)) (numbers_below n)

unfoldable pub items : Layout → Monomial → ℕ → ℕ → List Fraction
items l m a b =
    flat_map (λ ns. map (item l m a b ns) (digit_lists (map (λ i. l.d) (flat_map directions m.atoms)))) (digit_lists (node_counts l m.atoms))

-- the law that joins the planner to the shares: the integral of a monomial is its row times its columns
abbrev pub MonoShare : Layout → Monomial → Type 0
MonoShare l m =
    (v : Simplex) → IsCell v → dimension v ≡ l.d → is_zero_fraction (volume v) ≡ false → (w : List Fraction) (a b : ℕ)
    → integral_value v (mono_value (local l v w a b) m) ≡ mul (absolute (volume v)) (dot (columns (factors l v w m.atoms)) (items l m a b))

-- the sum of the shares of monomials at local nodes a and b, and all of them, row by row
abbrev pub share_of : Layout → Simplex → List Fraction → List Monomial → ℕ → ℕ → Fraction
share_of l v w ms a b = total (map (λ m. mul (absolute (volume v)) (dot (columns (factors l v w m.atoms)) (items l m a b))) ms)

unfoldable pub shares_of : Layout → Simplex → List Fraction → List Monomial → List Fraction
shares_of l v w ms = flat_map (λ a. map (share_of l v w ms a) (numbers_below (entries_of l.cols))) (numbers_below (entries_of l.rows))
