-- Sums of monomials that have one factor of a function are linear in it, and those without one are blind to it; so are forms that they add up to
use Rattle.std.proofs.Common.{◌≡◌, ℕ, zero, suc, Bool, true, false, List, [], ◌∷◌, Option, None, Some, if◌then◌else◌, refl, sym, ap, ap₂, ◌∙◌, arith}
use Rattle.std.specs.Prelude.{slice_index}
use Rattle.algebra.specs.Solver.{at, ◌⊕◌, ◌⊗◌}
use Rattle.algebra.specs.Sound as Solve
use Rattle.algebra.specs.RingLaws as L
use Rattle.algebra.specs.Fraction.{Fraction}
use Rattle.calculus.specs.Polynomial.{Polynomial, nil, plus, times, constant, derivative, polynomials, plus-nil}
use Rattle.calculus.proofs.PolynomialLaws.{IsFree}
use Rattle.monos.specs.declared.mono.Atom.{Atom}
use Rattle.monos.specs.Monomial.{Monomial}
use Rattle.refint.proofs.Combined.{IsLinear}
use Rattle.refint.proofs.PulledBack.{derivative_is_linear}
use Rattle.ufl_tree.specs.declared.function.Role.{Role}
use Rattle.ufl_tree.specs.declared.function.Role.TheVariants.{Test, Trial, Position}
use Rattle.ufl_meaning.specs.Density.{density}
use Rattle.ufl_meaning.specs.Environment.{Environment, HasOnlyUsed, same_role, parameter_number}
use Rattle.ufl_meaning.specs.Monomial.{HasNoOffset, again, derived, atom_value, atoms_value, monos_value}
use Rattle.ufl_meaning.proofs.FreeLaws.{free_constant, free_plus, free_times}
use Rattle.form_values.specs.CellLayout.{Occurring}
use Rattle.form_values.specs.Linear.{with_components, combination, IsLinearIn, IsBlindTo, IsLinearWhere, IsMultilinear, atom_count, HaveCount, HaveOneWhere, HaveArguments}
use Rattle.form_values.specs.Problem.{Problem}

-- ---- combinations
pub combination_nil : (a b : Fraction) → combination a b nil nil ≡ nil
combination_nil a b = ap₂ plus (L.mul-zero polynomials (constant a)) (L.mul-zero polynomials (constant b)) ∙ plus-nil nil

pub times_right : (a b : Fraction) (p x y : Polynomial) → times p (combination a b x y) ≡ combination a b (times p x) (times p y)
times_right a b p x y =
    Solve.ring polynomials (constant a ∷ constant b ∷ p ∷ x ∷ y ∷ []) (at 2 ⊗ (at 0 ⊗ at 3 ⊕ at 1 ⊗ at 4)) (at 0 ⊗ (at 2 ⊗ at 3) ⊕ at 1 ⊗ (at 2 ⊗ at 4)) refl

pub times_left : (a b : Fraction) (p x y : Polynomial) → times (combination a b x y) p ≡ combination a b (times x p) (times y p)
times_left a b p x y =
    Solve.ring polynomials (constant a ∷ constant b ∷ p ∷ x ∷ y ∷ []) ((at 0 ⊗ at 3 ⊕ at 1 ⊗ at 4) ⊗ at 2) (at 0 ⊗ (at 3 ⊗ at 2) ⊕ at 1 ⊗ (at 4 ⊗ at 2)) refl

plus_both : (a b : Fraction) (p q x y : Polynomial) → plus (combination a b p q) (combination a b x y) ≡ combination a b (plus p x) (plus q y)
plus_both a b p q x y =
    Solve.ring polynomials (constant a ∷ constant b ∷ p ∷ q ∷ x ∷ y ∷ []) ((at 0 ⊗ at 2 ⊕ at 1 ⊗ at 3) ⊕ (at 0 ⊗ at 4 ⊕ at 1 ⊗ at 5)) (at 0 ⊗ (at 2 ⊕ at 4) ⊕ at 1 ⊗ (at 3 ⊕ at 5)) refl

-- ---- atoms
again_is_linear : (i n : ℕ) → IsLinear (again i n)
again_is_linear i zero = record { adds = λ p q. refl; scales = λ c p. refl }
again_is_linear i (suc n) = record {
  adds = λ p q. ap (derivative i) ((again_is_linear i n).adds p q) ∙ (derivative_is_linear i).adds _ _;
  scales = λ c p. ap (derivative i) ((again_is_linear i n).scales c p) ∙ (derivative_is_linear i).scales c _;
}

again_combined : (i n : ℕ) (a b : Fraction) (p q : Polynomial) → again i n (combination a b p q) ≡ combination a b (again i n p) (again i n q)
again_combined i n a b p q = let h = again_is_linear i n in h.adds _ _ ∙ ap₂ plus (h.scales a p) (h.scales b q)

derived_combined : (ds : List ℕ) (a b : Fraction) (p q : Polynomial) → derived ds (combination a b p q) ≡ combination a b (derived ds p) (derived ds q)
derived_combined ds a b p q =
    let second : Polynomial → Polynomial = again 2 (slice_index ds 2) in
    let first : Polynomial → Polynomial = λ r. again 1 (slice_index ds 1) (second r) in
    ap (λ r. again 0 (slice_index ds 0) (again 1 (slice_index ds 1) r)) (again_combined 2 (slice_index ds 2) a b p q)
    ∙ ap (again 0 (slice_index ds 0)) (again_combined 1 (slice_index ds 1) a b (second p) (second q))
    ∙ again_combined 0 (slice_index ds 0) a b (first p) (first q)

module _ (w : Role) (env : Environment) where
  other_atom : (x : ℕ → Polynomial) (c : Atom) → same_role c.f.role w ≡ false → atom_value (with_components w x env) c ≡ atom_value env c
  other_atom x c e = ap (λ t. derived c.dirs (if t then x c.component else env.value c.f.role c.component)) e

  own_atom : (x : ℕ → Polynomial) (c : Atom) → same_role c.f.role w ≡ true → atom_value (with_components w x env) c ≡ derived c.dirs (x c.component)
  own_atom x c e = ap (λ t. derived c.dirs (if t then x c.component else env.value c.f.role c.component)) e

  no_atoms : (x : ℕ → Polynomial) (cs : List Atom) → atom_count w cs ≡ 0 → atoms_value (with_components w x env) cs ≡ atoms_value env cs
  no_atoms x [] e = refl
  no_atoms x (c ∷ cs) e = go (same_role c.f.role w) refl e (no_atoms x cs)
    where
      go : (t : Bool) → same_role c.f.role w ≡ t → (if t then suc (atom_count w cs) else atom_count w cs) ≡ 0
          → (atom_count w cs ≡ 0 → atoms_value (with_components w x env) cs ≡ atoms_value env cs) → atoms_value (with_components w x env) (c ∷ cs) ≡ atoms_value env (c ∷ cs)
      go true h e more = absurd (omega (arith, e))
      go false h e more = ap₂ times (other_atom x c h) (more e)

  module _ (a b : Fraction) (x y : ℕ → Polynomial) where
    abbrev both : ℕ → Polynomial
    both = λ i. combination a b (x i) (y i)

    abbrev IsCombined : List Atom → Type 0
    IsCombined cs = atoms_value (with_components w both env) cs ≡ combination a b (atoms_value (with_components w x env) cs) (atoms_value (with_components w y env) cs)

    one_atom : (cs : List Atom) → atom_count w cs ≡ 1 → IsCombined cs
    one_atom [] e = absurd (omega (arith, e))
    one_atom (c ∷ cs) e = go (same_role c.f.role w) refl e (one_atom cs)
      where
        go : (t : Bool) → same_role c.f.role w ≡ t → (if t then suc (atom_count w cs) else atom_count w cs) ≡ 1 → (atom_count w cs ≡ 1 → IsCombined cs) → IsCombined (c ∷ cs)
        go true h e more =
            let none : atom_count w cs ≡ 0 = omega (arith, e) in
            ap₂ times (own_atom both c h ∙ derived_combined c.dirs a b (x c.component) (y c.component)) (no_atoms both cs none)
            ∙ times_left a b (atoms_value env cs) (derived c.dirs (x c.component)) (derived c.dirs (y c.component))
            ∙ ap₂ (combination a b) (ap₂ times (sym (own_atom x c h)) (sym (no_atoms x cs none))) (ap₂ times (sym (own_atom y c h)) (sym (no_atoms y cs none)))
        go false h e more =
            ap₂ times (other_atom both c h) (more e)
            ∙ times_right a b (atom_value env c) (atoms_value (with_components w x env) cs) (atoms_value (with_components w y env) cs)
            ∙ ap₂ (λ p q. combination a b (times p (atoms_value (with_components w x env) cs)) (times q (atoms_value (with_components w y env) cs))) (sym (other_atom x c h)) (sym (other_atom y c h))

    -- ---- monomials
    pub one_factor : (ms : List Monomial) → HaveCount w 1 ms
        → monos_value (with_components w both env) ms ≡ combination a b (monos_value (with_components w x env) ms) (monos_value (with_components w y env) ms)
    one_factor [] all = sym (combination_nil a b)
    one_factor (m ∷ ms) all =
        ap₂ plus (ap (times (constant m.c)) (one_atom m.atoms all.0) ∙ times_right a b (constant m.c) _ _) (one_factor ms all.1)
        ∙ plus_both a b _ _ _ _

  pub no_factor : (x : ℕ → Polynomial) (ms : List Monomial) → HaveCount w 0 ms → monos_value (with_components w x env) ms ≡ monos_value env ms
  no_factor x [] all = refl
  no_factor x (m ∷ ms) all = ap₂ (λ p q. plus (times (constant m.c) p) q) (no_atoms x m.atoms all.0) (no_factor x ms all.1)

-- ---- densities
free_combined : (t : ℕ) (a b : Fraction) (p q : Polynomial) → IsFree t p → IsFree t q → IsFree t (combination a b p q)
free_combined t a b p q h k = free_plus t (times (constant a) p) (times (constant b) q) (free_times t (constant a) p (free_constant t a) h) (free_times t (constant b) q (free_constant t b) k)

combined_only_used : (w : Role) (env : Environment) (a b : Fraction) (x y : ℕ → Polynomial) → HasOnlyUsed (with_components w x env) → HasOnlyUsed (with_components w y env)
    → HasOnlyUsed (with_components w (λ i. combination a b (x i) (y i)) env)
combined_only_used w env a b x y h k = record {
  values = λ r i n le. go r i n (same_role r w) (h.values r i n le) (k.values r i n le);
  offsets = λ l c n le. h.offsets l c n le;
}
  where
    go : (r : Role) (i n : ℕ) (t : Bool) → IsFree (parameter_number n) (if t then x i else env.value r i) → IsFree (parameter_number n) (if t then y i else env.value r i)
        → IsFree (parameter_number n) (if t then combination a b (x i) (y i) else env.value r i)
    go r i n true p q = free_combined (parameter_number n) a b (x i) (y i) p q
    go r i n false p q = p

-- monomials for each marker that add up to a density
abbrev AddUp : (ℕ → List Monomial) → (Environment → Polynomial) → Type 0
AddUp ms f = (env : Environment) → HasOnlyUsed env → HasNoOffset env → monos_value env (ms env.marker) ≡ f env

linear_in : (w : Role) (ms : ℕ → List Monomial) (f : Environment → Polynomial) → AddUp ms f → ((k : ℕ) → HaveCount w 1 (ms k)) → IsLinearIn w f
linear_in w ms f add all env a b x y plain h k =
    sym (add (with_components w (λ i. combination a b (x i) (y i)) env) (combined_only_used w env a b x y h k) plain)
    ∙ one_factor w env a b x y (ms env.marker) (all env.marker)
    ∙ ap₂ (combination a b) (add (with_components w x env) h plain) (add (with_components w y env) k plain)

blind_to : (w : Role) (ms : ℕ → List Monomial) (f : Environment → Polynomial) → AddUp ms f → ((k : ℕ) → HaveCount w 0 (ms k)) → IsBlindTo w f
blind_to w ms f add all env x y plain h k =
    sym (add (with_components w x env) h plain)
    ∙ no_factor w env x (ms env.marker) (all env.marker) ∙ sym (no_factor w env y (ms env.marker) (all env.marker))
    ∙ add (with_components w y env) k plain

linear_where : (o : Option ℕ) (w : Role) (ms : ℕ → List Monomial) (f : Environment → Polynomial) → AddUp ms f → ((k : ℕ) → HaveOneWhere o w (ms k)) → IsLinearWhere o w f
linear_where None w ms f add all = tt
linear_where (Some e) w ms f add all = linear_in w ms f add all

pub multilinear : (p : Problem) (o : Occurring) (ms : ℕ → List Monomial) → AddUp ms (density p.elements p.form) → ((k : ℕ) → HaveArguments p o (ms k)) → IsMultilinear p o
multilinear p o ms add all = record {
  test = linear_where p.test Test ms (density p.elements p.form) add (λ k. (all k).test);
  trial = linear_where p.trial Trial ms (density p.elements p.form) add (λ k. (all k).trial);
  position = λ none. blind_to Position ms (density p.elements p.form) add (λ k. (all k).position none);
}
