-- The monomials of a tree have the pairs of its terms
use Rattle.std.proofs.Common.{◌≡◌, ℕ, zero, suc, ◌+◌, ◌==◌, inl, inr, Bool, true, false, if◌then◌else◌, List, [], ◌∷◌, ◌++◌, Option, None, Some, refl, sym, ap, subst, arith, eqb-true}
use Rattle.std.specs.List.{AllByRecursion}
use Rattle.algebra.specs.Fraction.{Fraction, one_fraction}
use Rattle.ufl_tree.specs.declared.function.Function.{Function}
use Rattle.ufl_tree.specs.declared.function.Ix.{Ix}
use Rattle.ufl_tree.specs.declared.function.Ix.TheVariants.{Fixed, Named}
use Rattle.ufl_tree.specs.declared.function.Role.{Role}
use Rattle.ufl_tree.specs.declared.function.Role.TheVariants.{Test, Trial, Position, Coefficient}
use Rattle.ufl_tree.specs.Indices.{Names, with_name, index_value, index_values}
use Rattle.ufl_tree.specs.Places.{Table, function_place}
use Rattle.ufl_tree.specs.Term.{Term, num, fun, mark, neg, sum, prod, over, dx, delta, pick, raise, turn, Terms, no_terms, term}
use Rattle.ufl_meaning.specs.Environment.{same_role}
use Rattle.monos.specs.Monomial.{Monomial}
use Rattle.monos.specs.declared.mono.Atom.{Atom}
use Rattle.weigh.specs.Lists.{lists_below}
use Rattle.weigh.proofs.ListLaws.{all_append}
use Rattle.normal.specs.Monomials.{number_mono, function_mono, all_negative, all_times, products, all_with, atoms_along, all_with_factor, all_derived, monos_along, monomials, item_monomials}
use Rattle.form_values.specs.Linear.{atom_count}
use Rattle.arity.proofs.Terms.{tests, trials, HasUnit, HasTerm, HaveTerm}

-- ---- of products, and of derivatives
one_more_both : (b : Bool) (all xs ys : ℕ) → all ≡ xs + ys → (if b then suc all else all) ≡ (if b then suc xs else xs) + ys
one_more_both true all xs ys h = omega (arith, h)
one_more_both false all xs ys h = h

count_append : (w : Role) (xs ys : List Atom) → atom_count w (xs ++ ys) ≡ atom_count w xs + atom_count w ys
count_append w [] ys = omega arith
count_append w (x ∷ xs) ys = one_more_both (same_role x.f.role w) (atom_count w (xs ++ ys)) (atom_count w xs) (atom_count w ys) (count_append w xs ys)

-- atoms of the same number
abbrev Same : Role → List Atom → List (List Atom) → Type 0
Same w xs all = AllByRecursion (λ (ys : List Atom). atom_count w ys ≡ atom_count w xs) all

same_with : (w : Role) (a : Atom) (xs : List Atom) (all : List (List Atom)) → Same w xs all → Same w (a ∷ xs) (all_with a all)
same_with w a xs [] h = tt
same_with w a xs (y ∷ ys) h = (ap (λ n. if same_role a.f.role w then suc n else n) h.0, same_with w a xs ys h.1)

same_along : (w : Role) (i : ℕ) (xs : List Atom) → Same w xs (atoms_along i xs)
same_along w i [] = tt
same_along w i (a ∷ xs) = (refl, same_with w a xs (atoms_along i xs) (same_along w i xs))

-- ---- monomials whose pairs of numbers are those of some set
abbrev Paired : (ℕ → ℕ → Type 0) → List Monomial → Type 0
Paired P ms = AllByRecursion (λ (m : Monomial). P (atom_count Test m.atoms) (atom_count Trial m.atoms)) ms

paired_more : (P Q : ℕ → ℕ → Type 0) → ((i j : ℕ) → P i j → Q i j) → (ms : List Monomial) → Paired P ms → Paired Q ms
paired_more P Q f [] h = tt
paired_more P Q f (m ∷ ms) h = (f _ _ h.0, paired_more P Q f ms h.1)

paired_negative : (P : ℕ → ℕ → Type 0) (ms : List Monomial) → Paired P ms → Paired P (all_negative ms)
paired_negative P [] h = tt
paired_negative P (m ∷ ms) h = (h.0, paired_negative P ms h.1)

paired_append : (P : ℕ → ℕ → Type 0) (ms ns : List Monomial) → Paired P ms → Paired P ns → Paired P (ms ++ ns)
paired_append P ms ns = all_append _ ms ns

moved : (P : ℕ → ℕ → Type 0) (i j k l : ℕ) → i ≡ k → j ≡ l → P i j → P k l
moved P i j k l d e h = subst (λ x. P x l) d (subst (λ x. P i x) e h)

paired_factor : (P : ℕ → ℕ → Type 0) (c : Fraction) (xs : List Atom) (all : List (List Atom)) → Same Test xs all → Same Trial xs all → P (atom_count Test xs) (atom_count Trial xs)
    → Paired P (all_with_factor c all)
paired_factor P c xs [] g h p = tt
paired_factor P c xs (y ∷ ys) g h p = (moved P (atom_count Test xs) (atom_count Trial xs) (atom_count Test y) (atom_count Trial y) (sym g.0) (sym h.0) p, paired_factor P c xs ys g.1 h.1 p)

paired_derived : (P : ℕ → ℕ → Type 0) (i : ℕ) (ms : List Monomial) → Paired P ms → Paired P (all_derived i ms)
paired_derived P i [] h = tt
paired_derived P i (m ∷ ms) h =
    paired_append P (all_with_factor m.c (atoms_along i m.atoms)) (all_derived i ms)
    (paired_factor P m.c m.atoms (atoms_along i m.atoms) (same_along Test i m.atoms) (same_along Trial i m.atoms) h.0) (paired_derived P i ms h.1)

paired_along : (P : ℕ → ℕ → Type 0) (i : ℕ) (ms : List Monomial) → Paired P ms → Paired P (monos_along i ms)
paired_along P zero ms h = paired_derived P 0 ms h
paired_along P (suc zero) ms h = paired_derived P 1 ms h
paired_along P (suc (suc zero)) ms h = paired_derived P 2 ms h
paired_along P (suc (suc (suc i))) ms h = tt

paired_below : (P : ℕ → ℕ → Type 0) (n : ℕ) (f : ℕ → List Monomial) → ((k : ℕ) → Paired P (f k)) → Paired P (lists_below n f)
paired_below P zero f h = tt
paired_below P (suc n) f h = paired_append P (lists_below n f) (f n) (paired_below P n f h) (h n)

abbrev Both : Term → Term → ℕ → ℕ → Type 0
Both a b = HasTerm (prod a b)

paired_row : (a b : Term) (m : Monomial) (ns : List Monomial) → HasTerm a (atom_count Test m.atoms) (atom_count Trial m.atoms) → Paired (HasTerm b) ns → Paired (Both a b) (all_times m ns)
paired_row a b m [] h x = tt
paired_row a b m (n ∷ ns) h x =
    ((atom_count Test m.atoms, atom_count Trial m.atoms, atom_count Test n.atoms, atom_count Trial n.atoms, h, x.0, count_append Test m.atoms n.atoms, count_append Trial m.atoms n.atoms), paired_row a b m ns h x.1)

paired_products : (a b : Term) (ms ns : List Monomial) → Paired (HasTerm a) ms → Paired (HasTerm b) ns → Paired (Both a b) (products ms ns)
paired_products a b [] ns x y = tt
paired_products a b (m ∷ ms) ns x y = paired_append (Both a b) (all_times m ns) (products ms ns) (paired_row a b m ns x.0 y) (paired_products a b ms ns x.1 y)

-- ---- leaves
function_counts : (r : Role) → ((if same_role r Test then 1 else 0) ≡ tests r) × ((if same_role r Trial then 1 else 0) ≡ trials r)
function_counts Test = (refl, refl)
function_counts Trial = (refl, refl)
function_counts Position = (refl, refl)
function_counts (Coefficient n) = (refl, refl)

paired_function : (f : Function) (at : List Ix) (k : Option ℕ) → Paired (HasTerm (fun f at)) (function_mono f k)
paired_function f at None = tt
paired_function f at (Some n) = (function_counts f.role, tt)

unit_there : (x y : Ix) (v : Names) → (index_value v x == index_value v y) ≡ true → HasUnit x y 0 0
unit_there (Fixed k) (Fixed l) v e = (eqb-true k l e, (refl, refl))
unit_there (Fixed k) (Named y) v e = (refl, refl)
unit_there (Named x) y v e = (refl, refl)

paired_unit : (b : Bool) (x y : Ix) (v : Names) → (index_value v x == index_value v y) ≡ b → Paired (HasUnit x y) (if b then number_mono one_fraction else [])
paired_unit true x y v e = (unit_there x y v e, tt)
paired_unit false x y v e = tt

-- ---- trees
mutual
  pub paired : (elements : Table) (t : Term) (v : Names) → Paired (HasTerm t) (monomials elements t v)
  paired elements (num c) v = ((refl, refl), tt)
  paired elements (fun f at) v = paired_function f at (function_place elements f (index_values v at))
  paired elements (mark l at b) v = paired_more (HasTerm b) (HasTerm (mark l at b)) (λ i j h. inr h) (monomials elements b v) (paired elements b v)
  paired elements (neg a) v = paired_negative (HasTerm a) (monomials elements a v) (paired elements a v)
  paired elements (sum a b) v =
      paired_append (HasTerm (sum a b)) (monomials elements a v) (monomials elements b v)
      (paired_more (HasTerm a) (HasTerm (sum a b)) (λ i j h. inl h) (monomials elements a v) (paired elements a v))
      (paired_more (HasTerm b) (HasTerm (sum a b)) (λ i j h. inr h) (monomials elements b v) (paired elements b v))
  paired elements (prod a b) v = paired_products a b (monomials elements a v) (monomials elements b v) (paired elements a v) (paired elements b v)
  paired elements (over x n b) v = paired_below (HasTerm b) n (λ k. monomials elements b (with_name x k v)) (λ k. paired elements b (with_name x k v))
  paired elements (dx x b) v = paired_along (HasTerm b) (index_value v x) (monomials elements b v) (paired elements b v)
  paired elements (delta x y) v = paired_unit (index_value v x == index_value v y) x y v refl
  paired elements (pick x ts) v = paired_items elements ts v (index_value v x)
  paired elements (raise l at b) v = tt
  paired elements (turn f g b) v = tt

  paired_items : (elements : Table) (ts : Terms) (v : Names) (i : ℕ) → Paired (HaveTerm ts) (item_monomials elements ts v i)
  paired_items elements no_terms v i = tt
  paired_items elements (term t ts) v zero = paired_more (HasTerm t) (HaveTerm (term t ts)) (λ i j h. inl h) (monomials elements t v) (paired elements t v)
  paired_items elements (term t ts) v (suc i) = paired_more (HaveTerm ts) (HaveTerm (term t ts)) (λ i j h. inr h) (item_monomials elements ts v i) (paired_items elements ts v i)
