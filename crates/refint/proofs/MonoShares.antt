-- The integral of a monomial over a cell: its volume times columns and items
use Rattle.std.specs.Prelude.{◌≡◌, ℕ, List, [], ◌∷◌, map}
use Rattle.std.specs.List.{flat_map}
use mathlib.Core.Path.{sym, ◌∙◌, ap, ap₂}
use Rattle.algebra.specs.RingLaws as L
use Rattle.algebra.specs.Fraction.{Fraction, zero_fraction, add, mul, absolute, fractions}
use Rattle.calculus.specs.Polynomial.{Polynomial, nil, plus, times, constant, composed, constant_term}
use Rattle.calculus.specs.Simplex.{Simplex, IsCell, dimension, volume, reference, affine}
use Rattle.calculus.specs.Integral.{shadow_integral, pulled_back_integral, integral_value}
use Rattle.calculus.proofs.PolynomialLaws.{value-plus, value-times, value-constant, constant-zero}
use Rattle.calculus.proofs.Linear.{shadow_integral-plus, shadow_integral-scaled, composed-scaled}
use Rattle.calculus.proofs.ChangeOfVariables.{cell_law}
use Rattle.ufl_meaning.specs.Monomial.{mono_value, atoms_value}
use Rattle.monos.specs.Monomial.{Monomial}
use Rattle.refint.specs.Local.{local}
use Rattle.monos.specs.declared.layout.Layout.{Layout}
use Rattle.refint.specs.Digits.{columns, dot}
use Rattle.refint.specs.Reference.{MonoShare, items, item, value_lists, node_counts, growths, digit_lists, product_at}
use Rattle.monos.specs.Monomial.{directions}
use Rattle.refint.proofs.Lists.{map_flat, map_map, flat_same}
use Rattle.refint.proofs.Combined.{combined, IsSum, linear_nil, mapped, bound, columns_both}
use Rattle.refint.proofs.PulledBack.{composed_is_linear}
use Rattle.refint.proofs.Products.{product_on, nodes_sum, directions_sum}

-- the integral over the reference cell, as a number
abbrev reference_value : ℕ → Polynomial → Fraction
reference_value d p = constant_term (shadow_integral d (reference d) p)

reference_plus : (d : ℕ) (p q : Polynomial) → reference_value d (plus p q) ≡ add (reference_value d p) (reference_value d q)
reference_plus d p q = ap constant_term (shadow_integral-plus d (reference d) p q) ∙ value-plus _ _ _

reference_scaled : (d : ℕ) (c : Fraction) (p : Polynomial) → reference_value d (times (constant c) p) ≡ mul c (reference_value d p)
reference_scaled d c p =
    ap constant_term (shadow_integral-scaled d c (reference d) p) ∙ value-times _ _ _ ∙ ap (λ x. mul x (reference_value d p)) (value-constant _ c)

reference_nil : (d : ℕ) → reference_value d nil ≡ zero_fraction
reference_nil d =
    ap constant_term (linear_nil (shadow_integral d (reference d)) (record { adds = shadow_integral-plus d (reference d); scales = λ c p. shadow_integral-scaled d c (reference d) p }) ∙ sym constant-zero)
    ∙ value-constant _ zero_fraction

-- the integral of a sum of multiples
dot_value : (d : ℕ) (c : Fraction) (xs : List Fraction) (ps : List Polynomial) → dot xs (map (λ p. mul c (reference_value d p)) ps) ≡ mul c (reference_value d (combined xs ps))
dot_value d c [] ps = sym (ap (mul c) (reference_nil d) ∙ L.mul-zero fractions c)
dot_value d c (x ∷ xs) [] = sym (ap (mul c) (reference_nil d) ∙ L.mul-zero fractions c)
dot_value d c (x ∷ xs) (p ∷ ps) =
    ap₂ add (L.mul_left_comm fractions x c (reference_value d p) ∙ ap (mul c) (sym (reference_scaled d x p))) (dot_value d c xs ps)
    ∙ sym (fractions.mul_add c _ _)
    ∙ ap (mul c) (sym (reference_plus d (times (constant x) p) (combined xs ps)))

pub pulled_value : (v : Simplex) → IsCell v → (p : Polynomial) → integral_value v p ≡ mul (absolute (volume v)) (reference_value (dimension v) (composed (affine v) p))
unfolding pulled_back_integral
pulled_value v c p =
    ap constant_term (cell_law v c p) ∙ value-times _ _ _
    ∙ ap (λ x. mul x (reference_value (dimension v) (composed (affine v) p))) (value-constant _ (absolute (volume v)))

pub mono_share : (l : Layout) (m : Monomial) → MonoShare l m
unfolding items
mono_share l m v c e h w a b =
    pulled_value v c (mono_value (local l v w a b) m)
    ∙ ap (mul (absolute (volume v)))
    (ap₂ reference_value e (composed-scaled (affine v) k A)
    ∙ reference_scaled l.d k (composed (affine v) A)
    ∙ sym (dot_value l.d k xs ps ∙ ap (λ s. mul k (reference_value l.d s)) sum.value)
    ∙ ap₂ dot (sym (columns_both (value_lists l v w m.atoms) (map (growths l.d v) (flat_map directions m.atoms)))) listed)
  where
    k : Fraction
    k = m.c

    A : Polynomial
    A = atoms_value (local l v w a b) m.atoms

    nodes : List (List ℕ)
    nodes = digit_lists (node_counts l m.atoms)

    ways : List (List ℕ)
    ways = digit_lists (map (λ i. l.d) (flat_map directions m.atoms))

    xs : List Fraction
    xs = flat_map (λ x. map (mul x) (columns (map (growths l.d v) (flat_map directions m.atoms)))) (columns (value_lists l v w m.atoms))

    ps : List Polynomial
    ps = flat_map (λ ns. map (product_at l a b m.atoms ns) ways) nodes

    sum : IsSum xs ps (composed (affine v) A)
    sum =
        bound (λ ns. composed (affine v) (product_on l v a b m.atoms ns)) (λ ns. map (product_at l a b m.atoms ns) ways) _
        (λ ns. directions_sum l v c h e a b m.atoms ns) nodes (columns (value_lists l v w m.atoms)) _
        (mapped (composed (affine v)) (composed_is_linear (affine v)) (product_on l v a b m.atoms) _ nodes A (nodes_sum l v w a b m.atoms))

    listed : map (λ p. mul k (reference_value l.d p)) ps ≡ flat_map (λ ns. map (item l m a b ns) ways) nodes
    listed =
        map_flat (λ p. mul k (reference_value l.d p)) (λ ns. map (product_at l a b m.atoms ns) ways) nodes
        ∙ flat_same _ _ (λ ns. map_map (λ p. mul k (reference_value l.d p)) (product_at l a b m.atoms ns) ways) nodes
