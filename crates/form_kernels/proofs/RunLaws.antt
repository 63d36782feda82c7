-- The runs of a function whose monomials are a form's density on the cells of a marker
use Rattle.std.proofs.Common.{◌≡◌, ℕ, true, List, [], ◌∷◌, Option, refl, sym, ◌∙◌, ap, ap₂}
use Rattle.algebra.specs.Fraction.{Fraction, is_zero_fraction}
use Rattle.calculus.specs.Polynomial.{Polynomial, plus, times, constant}
use Rattle.calculus.specs.Simplex.{Simplex, IsCell, dimension, volume}
use Rattle.ufl_tree.specs.FormTerm.{FormTerm}
use Rattle.ufl_tree.specs.Places.{Table}
use Rattle.ufl_meaning.specs.Environment.{Environment, HasOnlyUsed}
use Rattle.ufl_meaning.specs.Density.{density}
use Rattle.ufl_meaning.specs.Monomial.{HasNoOffset, atom_value, atoms_value, monos_value}
use Rattle.monos.specs.declared.layout.Layout.{Layout}
use Rattle.monos.specs.declared.mono.Atom.{Atom}
use Rattle.monos.specs.Monomial.{Monomial}
use Rattle.c_unit.specs.Meaning.{Slots, End, Going, Passed, Zero}
use Rattle.kernel.specs.Ends.{Ends}
use Rattle.integrands.specs.Integrands.{IntegrandTerm}
use Rattle.integrands.specs.Keeping.{HaveDensity}
use Rattle.refint.proofs.LocalLaws.{density_shares}
use Rattle.refint.proofs.SharesLaw.{monos_shares}
use Rattle.form_monomials.specs.Markers.{RunsOn}
use Rattle.form_monomials.specs.Monomials.{AddUp}
use Rattle.form_monomials.proofs.FormLaws.{density_there}
use Rattle.planner.specs.Kernels.{GivesShares, monos_density}

-- no monomial depends on the cell's marker
abbrev marked : ℕ → Environment → Environment
marked k env = record env { marker = k }

atoms_marked : (k : ℕ) (env : Environment) (xs : List Atom) → atoms_value env xs ≡ atoms_value (marked k env) xs
atoms_marked k env [] = refl
atoms_marked k env (x ∷ xs) = ap (times (atom_value env x)) (atoms_marked k env xs)

monos_marked : (k : ℕ) (env : Environment) (ms : List Monomial) → monos_value env ms ≡ monos_value (marked k env) ms
monos_marked k env [] = refl
monos_marked k env (m ∷ ms) = ap₂ (λ x y. plus (times (constant m.c) x) y) (atoms_marked k env m.atoms) (monos_marked k env ms)

only_marked : (k : ℕ) (env : Environment) → HasOnlyUsed env → HasOnlyUsed (marked k env)
only_marked k env h = record { values = h.values; offsets = h.offsets }

-- ---- what the monomials of a marker add up to
pub marked_density : (elements : Table) (f : FormTerm) (ps : List IntegrandTerm) → HaveDensity elements f ps → (marker : Option ℕ) (ms : List Monomial) → AddUp elements ps marker ms
    → (k : ℕ) → RunsOn marker ps k → (env : Environment) → HasOnlyUsed env → HasNoOffset env → monos_value env ms ≡ density elements f (marked k env)
marked_density elements f ps h marker ms a k runs env used plain =
    monos_marked k env ms ∙ density_there elements f ps h marker ms a (marked k env) (only_marked k env used) (λ l b. plain l b) runs

-- ---- ends
ends_more : (Q Z : Type 0) (P R : Slots → Type 0) → ((s : Slots) → P s → R s) → (e : End) → Ends Q Z P e → Ends Q Z R e
ends_more Q Z P R f (Going s) h = f s h
ends_more Q Z P R f (Passed at op l r s) h = h
ends_more Q Z P R f (Zero at s) h = h

pub shares_more : (Q : Type 0) (q : Environment → Polynomial) (ms : List Monomial) (l : Layout) (v : Simplex) (w : List Fraction) → IsCell v → dimension v ≡ l.d
    → ((env : Environment) → HasOnlyUsed env → HasNoOffset env → monos_value env ms ≡ q env)
    → (e : End) → GivesShares Q (monos_density ms) l v w e → GivesShares Q q l v w e
shares_more Q q ms l v w cell on adds e h =
    ends_more Q (is_zero_fraction (volume v) ≡ true) _ _
    (λ s k. (k.0, k.1 ∙ monos_shares l v cell on k.0 w ms ∙ sym (density_shares q ms adds l v cell on k.0 w))) e h
