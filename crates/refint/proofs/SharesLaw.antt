-- The local shares of a sum of monomials
use Rattle.std.specs.Prelude.{◌≡◌, ℕ, ◌+◌, ◌*◌, ◌<◌, false, slice_index_or, List, [], ◌∷◌}
use mathlib.Core.Path.{sym, ◌∙◌, ap, ap₂}
use Rattle.algebra.specs.Fraction.{Fraction, zero_fraction, add, is_zero_fraction}
use Rattle.calculus.specs.Polynomial.{Polynomial, nil, plus, constant_term}
use Rattle.calculus.specs.Simplex.{Simplex, IsCell, dimension, volume}
use Rattle.calculus.specs.Integral.{cell_integral, integral_value}
use Rattle.calculus.proofs.PolynomialLaws.{value-plus, value-constant, constant-zero}
use Rattle.calculus.proofs.Linear.{cell_integral-plus, cell_integral-scaled}
use Rattle.ufl_meaning.specs.Monomial.{monos_value}
use Rattle.monos.specs.Monomial.{Monomial}
use Rattle.refint.specs.Local.{local, local_share, local_shares, numbers_below, entries_of}
use Rattle.monos.specs.declared.layout.Layout.{Layout}
use Rattle.refint.specs.Reference.{share_of, shares_of}
use Rattle.refint.proofs.Lists.{map_same, flat_same}
use Rattle.refint.proofs.Combined.{linear_nil}
use Rattle.refint.proofs.MonoShares.{mono_share}
use Rattle.refint.proofs.Values.{rows_at}

pub integral_nil : (v : Simplex) → integral_value v nil ≡ zero_fraction
integral_nil v =
    ap constant_term (linear_nil (cell_integral v) (record { adds = cell_integral-plus v; scales = cell_integral-scaled v }) ∙ sym constant-zero)
    ∙ value-constant _ zero_fraction

pub integral_plus : (v : Simplex) (p q : Polynomial) → integral_value v (plus p q) ≡ add (integral_value v p) (integral_value v q)
integral_plus v p q = ap constant_term (cell_integral-plus v p q) ∙ value-plus _ _ _

module _ (l : Layout) (v : Simplex) (c : IsCell v) (e : dimension v ≡ l.d) (h : is_zero_fraction (volume v) ≡ false) (w : List Fraction) where
  pub monos_share : (a b : ℕ) (ms : List Monomial) → integral_value v (monos_value (local l v w a b) ms) ≡ share_of l v w ms a b
  monos_share a b [] = integral_nil v
  monos_share a b (m ∷ ms) = integral_plus v _ _ ∙ ap₂ add (mono_share l m v c e h w a b) (monos_share a b ms)

  pub monos_shares : (ms : List Monomial) → local_shares (λ env. monos_value env ms) l v w ≡ shares_of l v w ms
  unfolding local_shares shares_of
  monos_shares ms =
      flat_same _ _ (λ a. map_same _ _ (λ b. monos_share a b ms) (numbers_below (entries_of l.cols))) (numbers_below (entries_of l.rows))

  pub entry_share : (ms : List Monomial) (a b : ℕ) → a < entries_of l.rows → b < entries_of l.cols
      → slice_index_or (local_shares (λ env. monos_value env ms) l v w) (entries_of l.cols * a + b) zero_fraction ≡ share_of l v w ms a b
  unfolding local_shares
  entry_share ms a b i j =
      rows_at (local_share (λ env. monos_value env ms) l v w) (entries_of l.rows) (entries_of l.cols) a b i j ∙ monos_share a b ms
