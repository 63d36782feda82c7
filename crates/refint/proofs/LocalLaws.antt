-- The environment of a cell: no variable above the dimension, no parameter, no offset
use Rattle.std.proofs.Common.{◌≡◌, ℕ, ◌+◌, ◌-◌, ◌≤◌, ◌==◌, ◌&&◌, false, List, [], ◌∷◌, map, nat_lt, nat_le, Option, None, Some, slice_get, slice_index_or, refl, sym, ◌∙◌, ap, arith}
use Rattle.std.proofs.lemmas.Bool.Decides.{nat_tests}
use Rattle.algebra.specs.Fraction.{Fraction, zero_fraction, is_zero_fraction}
use Rattle.calculus.specs.Integral.{integral_value}
use Rattle.calculus.specs.Jacobian.{vertex_at}
use Rattle.calculus.specs.Polynomial.{Polynomial, nil, derivative}
use Rattle.calculus.specs.Simplex.{Simplex, IsCell, dimension, volume, along_axis}
use Rattle.calculus.proofs.PolynomialLaws.{IsFree}
use Rattle.spaces.specs.declared.parts.Part.{Part}
use Rattle.ufl_tree.specs.declared.function.Role.{Role}
use Rattle.ufl_tree.specs.declared.function.Role.TheVariants.{Test, Trial, Position, Coefficient}
use Rattle.ufl_meaning.specs.Environment.{Environment, HasOnlyUsed, parameter_number}
use Rattle.ufl_meaning.specs.Monomial.{HasNoOffset, monos_value}
use Rattle.ufl_meaning.proofs.FreeLaws.{free_constant, free_nil, free_times, free_either, free_below}
use Rattle.monos.specs.declared.layout.CoefPlace.{CoefPlace}
use Rattle.monos.specs.declared.layout.Layout.{Layout}
use Rattle.monos.specs.Monomial.{Monomial}
use Rattle.refint.specs.Local.{node_function, in_part, part_value, coefficient_value, position_part, position_value, local_value, local, local_share, local_shares, numbers_below, entries_of}
use Rattle.refint.specs.Reference.{shares_of}
use Rattle.refint.proofs.Free.{free_above}
use Rattle.refint.proofs.Lists.{map_same, flat_same}
use Rattle.refint.proofs.SharesLaw.{monos_shares}

module _ (v : Simplex) (c : IsCell v) (t : ℕ) (above : nat_lt t (dimension v) ≡ false) where
  free_node : (d : ℕ) (p : Part) (j : ℕ) → IsFree t (node_function d v p j)
  free_node d p j = free_above v c t above _

  free_part : (d : ℕ) (o : Option Part) (a : ℕ) → IsFree t (in_part d v o a)
  free_part d None a = free_nil t
  free_part d (Some p) a = free_either t (nat_le p.offset a && nat_lt a (p.offset + p.nodes)) (node_function d v p (a - p.offset)) nil (free_node d p (a - p.offset)) (free_nil t)

  free_sum : (d : ℕ) (w : List Fraction) (at : ℕ) (o : Option Part) → IsFree t (part_value d v w at o)
  free_sum d w at None = free_nil t
  free_sum d w at (Some p) = free_below t p.nodes _ (λ j. free_times t _ _ (free_constant t (slice_index_or w (at + p.offset + j) zero_fraction)) (free_node d p j))

  free_coefficient : (d : ℕ) (w : List Fraction) (cs : List CoefPlace) (n i : ℕ) → IsFree t (coefficient_value d v w cs n i)
  free_coefficient d w [] n i = free_nil t
  free_coefficient d w (x ∷ xs) n i =
      free_either t (x.number == n) (part_value d v w x.offset (slice_get x.parts.items i)) (coefficient_value d v w xs n i) (free_sum d w x.offset (slice_get x.parts.items i))
      (free_coefficient d w xs n i)

  free_position : (d : ℕ) (o : Option Part) (i : ℕ) → IsFree t (position_value d v o i)
  free_position d None i = free_nil t
  free_position d (Some p) i = free_below t p.nodes _ (λ j. free_times t _ _ (free_constant t (along_axis i (vertex_at v j))) (free_node d p j))

  pub local_free : (l : Layout) (w : List Fraction) (a b : ℕ) (r : Role) (i : ℕ) → IsFree t (local_value l v w a b r i)
  local_free l w a b Test i = free_part l.d (slice_get l.rows.items i) a
  local_free l w a b Trial i = free_part l.d (slice_get l.cols.items i) b
  local_free l w a b Position i = free_position l.d (position_part l.position i) i
  local_free l w a b (Coefficient n) i = free_coefficient l.d w l.coefs n i

not_below : (t n : ℕ) → n ≤ t → nat_lt t n ≡ false
not_below t n h = grind (arith, nat_tests)

few : (v : Simplex) → IsCell v → dimension v ≤ 3
few [] c = absurd c
few (a ∷ []) c = absurd c
few (a ∷ b ∷ []) c = omega arith
few (a ∷ b ∷ e ∷ []) c = omega arith
few (a ∷ b ∷ e ∷ f ∷ []) c = omega arith
few (a ∷ b ∷ e ∷ f ∷ g ∷ vs) c = absurd c

beyond : (k n : ℕ) → n ≤ 3 → n ≤ 3 + k
beyond k n h = omega (arith, h)

pub local_above : (l : Layout) (v : Simplex) → IsCell v → (w : List Fraction) (a b t : ℕ) → dimension v ≤ t → (r : Role) (i : ℕ) → derivative t (local_value l v w a b r i) ≡ nil
local_above l v c w a b t h r i = local_free v c t (not_below t (dimension v) h) l w a b r i

pub local_only_used : (l : Layout) (v : Simplex) → IsCell v → (w : List Fraction) (a b : ℕ) → HasOnlyUsed (local l v w a b)
local_only_used l v c w a b = record {
  values = λ r i k le. local_above l v c w a b (parameter_number k) (beyond k (dimension v) (few v c)) r i;
  offsets = λ n x k le. free_nil (parameter_number k);
}

pub local_no_offset : (l : Layout) (v : Simplex) (w : List Fraction) (a b : ℕ) → HasNoOffset (local l v w a b)
local_no_offset l v w a b n x = refl

-- ---- a density that monomials add up to
pub density_shares : (density : Environment → Polynomial) (ms : List Monomial) → ((env : Environment) → HasOnlyUsed env → HasNoOffset env → monos_value env ms ≡ density env)
    → (l : Layout) (v : Simplex) → IsCell v → dimension v ≡ l.d → is_zero_fraction (volume v) ≡ false → (w : List Fraction) → local_shares density l v w ≡ shares_of l v w ms
unfolding local_shares
density_shares density ms adds l v c e h w =
    flat_same (λ a. map (local_share density l v w a) (numbers_below (entries_of l.cols))) (λ a. map (local_share (λ env. monos_value env ms) l v w a) (numbers_below (entries_of l.cols)))
    (λ a. map_same (local_share density l v w a) (local_share (λ env. monos_value env ms) l v w a)
    (λ b. ap (integral_value v) (sym (adds (local l v w a b) (local_only_used l v c w a b) (local_no_offset l v w a b)))) (numbers_below (entries_of l.cols)))
    (numbers_below (entries_of l.rows))
    ∙ monos_shares l v c e h w ms
