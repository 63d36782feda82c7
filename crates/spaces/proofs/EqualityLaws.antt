-- Equality of cells and elements, as a test
use Rattle.std.proofs.Common.{◌≡◌, ℕ, ◌≤◌, ◌==◌, Bool, true, false, true≢false, if◌then◌else◌, List, [], ◌∷◌, length, drop, refl, sym, ap, ap₂, ◌∙◌, subst, arith}
use Rattle.std.specs.Prelude.{◌↔◌}
use Rattle.std.proofs.lemmas.Bool.{eqb-true, eq-eqb}
use Rattle.std.proofs.lemmas.List.{drop_all}
use Rattle.spaces.specs.declared.cell.Cell.{Cell}
use Rattle.spaces.specs.declared.cell.Cell.TheVariants.{Interval, Triangle, Tetrahedron}
use Rattle.spaces.specs.declared.family.Family.{Family}
use Rattle.spaces.specs.declared.family.Family.TheVariants.{Lagrange, Dg, Real}
use Rattle.spaces.specs.declared.element_tree.ElementTree.{ElementTree}
use Rattle.spaces.specs.Space.{Space, scalar, vector, tensor, mixed, Spaces, no_spaces, space}
use Rattle.spaces.specs.declared.element_tree.ElementTree.TheVariants as v
use Rattle.spaces.specs.Cell.{same_cell}
use Rattle.spaces.specs.Equality.{same_family, same_sizes, same_space, same_spaces}
use Rattle.spaces.specs.Reading.{space_of, spaces_in}
use Rattle.spaces.proofs.ReadingLaws.{space_of-Vector, space_of-Tensor}
use Rattle.spaces.proofs.SpaceLaws.{same_cell_itself}

-- ---- tests
first_true : (a b : Bool) → (if a then b else false) ≡ true → a ≡ true
first_true true b h = refl
first_true false b h = absurd (true≢false (sym h))

second_true : (a b : Bool) → (if a then b else false) ≡ true → b ≡ true
second_true true b h = h
second_true false b h = absurd (true≢false (sym h))

family_true : (f g : Family) → same_family f g ≡ true → f ≡ g
family_true Lagrange Lagrange h = refl
family_true Lagrange Dg h = absurd (true≢false (sym h))
family_true Lagrange Real h = absurd (true≢false (sym h))
family_true Dg Lagrange h = absurd (true≢false (sym h))
family_true Dg Dg h = refl
family_true Dg Real h = absurd (true≢false (sym h))
family_true Real Lagrange h = absurd (true≢false (sym h))
family_true Real Dg h = absurd (true≢false (sym h))
family_true Real Real h = refl

pub cell_true : (c e : Cell) → same_cell c e ≡ true → c ≡ e
cell_true Interval Interval h = refl
cell_true Interval Triangle h = absurd (true≢false (sym h))
cell_true Interval Tetrahedron h = absurd (true≢false (sym h))
cell_true Triangle Interval h = absurd (true≢false (sym h))
cell_true Triangle Triangle h = refl
cell_true Triangle Tetrahedron h = absurd (true≢false (sym h))
cell_true Tetrahedron Interval h = absurd (true≢false (sym h))
cell_true Tetrahedron Triangle h = absurd (true≢false (sym h))
cell_true Tetrahedron Tetrahedron h = refl

scalar_same : (f g : Family) (c e : Cell) (q r : ℕ) → f ≡ g → c ≡ e → q ≡ r → scalar f c q ≡ scalar g e r
scalar_same f g c e q r a b d = cc

tensor_same : (s t : Space) (m n k l : ℕ) → s ≡ t → m ≡ k → n ≡ l → tensor s m n ≡ tensor t k l
tensor_same s t m n k l a b d = cc

mutual
  pub space_true : (s t : Space) → same_space s t ≡ true → s ≡ t
  space_true (scalar f c q) (scalar g e r) h =
      let k = second_true (same_family f g) (if same_cell c e then q == r else false) h in
      scalar_same f g c e q r (family_true f g (first_true (same_family f g) (if same_cell c e then q == r else false) h))
      (cell_true c e (first_true (same_cell c e) (q == r) k)) (eqb-true q r (second_true (same_cell c e) (q == r) k))
  space_true (scalar f c q) (vector t n) h = absurd (true≢false (sym h))
  space_true (scalar f c q) (tensor t m n) h = absurd (true≢false (sym h))
  space_true (scalar f c q) (mixed ts) h = absurd (true≢false (sym h))
  space_true (vector s m) (scalar g e r) h = absurd (true≢false (sym h))
  space_true (vector s m) (vector t n) h =
      ap₂ vector (space_true s t (second_true (m == n) (same_space s t) h)) (eqb-true m n (first_true (m == n) (same_space s t) h))
  space_true (vector s m) (tensor t k l) h = absurd (true≢false (sym h))
  space_true (vector s m) (mixed ts) h = absurd (true≢false (sym h))
  space_true (tensor s m n) (scalar g e r) h = absurd (true≢false (sym h))
  space_true (tensor s m n) (vector t k) h = absurd (true≢false (sym h))
  space_true (tensor s m n) (tensor t k l) h =
      let d = first_true (same_sizes m n k l) (same_space s t) h in
      tensor_same s t m n k l (space_true s t (second_true (same_sizes m n k l) (same_space s t) h))
      (eqb-true m k (first_true (m == k) (n == l) d)) (eqb-true n l (second_true (m == k) (n == l) d))
  space_true (tensor s m n) (mixed ts) h = absurd (true≢false (sym h))
  space_true (mixed ss) (scalar g e r) h = absurd (true≢false (sym h))
  space_true (mixed ss) (vector t n) h = absurd (true≢false (sym h))
  space_true (mixed ss) (tensor t m n) h = absurd (true≢false (sym h))
  space_true (mixed ss) (mixed ts) h = ap mixed (spaces_true ss ts h)

  pub spaces_true : (ss ts : Spaces) → same_spaces ss ts ≡ true → ss ≡ ts
  spaces_true no_spaces no_spaces h = refl
  spaces_true no_spaces (space t ts) h = absurd (true≢false (sym h))
  spaces_true (space s ss) no_spaces h = absurd (true≢false (sym h))
  spaces_true (space s ss) (space t ts) h =
      ap₂ space (space_true s t (first_true (same_space s t) (same_spaces ss ts) h)) (spaces_true ss ts (second_true (same_space s t) (same_spaces ss ts) h))

both_true : (a b : Bool) → a ≡ true → b ≡ true → (if a then b else false) ≡ true
both_true true b h k = k
both_true false b h k = h

not_true : (b : Bool) → (b ≡ true → ⊥) → b ≡ false
not_true true h = absurd (h refl)
not_true false h = refl

mutual
  space_refl : (s : Space) → same_space s s ≡ true
  space_refl (scalar Lagrange Interval q) = eq-eqb q q refl
  space_refl (scalar Lagrange Triangle q) = eq-eqb q q refl
  space_refl (scalar Lagrange Tetrahedron q) = eq-eqb q q refl
  space_refl (scalar Dg Interval q) = eq-eqb q q refl
  space_refl (scalar Dg Triangle q) = eq-eqb q q refl
  space_refl (scalar Dg Tetrahedron q) = eq-eqb q q refl
  space_refl (scalar Real Interval q) = eq-eqb q q refl
  space_refl (scalar Real Triangle q) = eq-eqb q q refl
  space_refl (scalar Real Tetrahedron q) = eq-eqb q q refl
  space_refl (vector s n) = both_true (n == n) (same_space s s) (eq-eqb n n refl) (space_refl s)
  space_refl (tensor s m n) =
      both_true (same_sizes m n m n) (same_space s s) (both_true (m == m) (n == n) (eq-eqb m m refl) (eq-eqb n n refl)) (space_refl s)
  space_refl (mixed ss) = spaces_refl ss

  spaces_refl : (ss : Spaces) → same_spaces ss ss ≡ true
  spaces_refl no_spaces = refl
  spaces_refl (space s ss) = both_true (same_space s s) (same_spaces ss ss) (space_refl s) (spaces_refl ss)

-- ---- the comparison, node by node
pub same_vector : (t u a b p q : ElementTree) (m n : ℕ) (r : Bool) → t ≡ v.Vector p m → u ≡ v.Vector q n → m ≡ n → a ≡ p → b ≡ q
    → r ≡ same_space (space_of a) (space_of b) → r ≡ same_space (space_of t) (space_of u)
same_vector t u a b p q m n r et eu e ea eb h =
    h ∙ ap₂ (λ x y. same_space (space_of x) (space_of y)) ea eb
    ∙ ap (λ x. if x then same_space (space_of p) (space_of q) else false) (sym (eq-eqb m n e))
    ∙ sym (ap₂ same_space (ap space_of et ∙ space_of-Vector p m) (ap space_of eu ∙ space_of-Vector q n))

pub same_tensor : (t u a b p q : ElementTree) (k l m n : ℕ) (r s : Bool) → t ≡ v.Tensor p k l → u ≡ v.Tensor q m n → s ≡ same_sizes k l m n → s ≡ true → a ≡ p → b ≡ q
    → r ≡ same_space (space_of a) (space_of b) → r ≡ same_space (space_of t) (space_of u)
same_tensor t u a b p q k l m n r s et eu e holds ea eb h =
    h ∙ ap₂ (λ x y. same_space (space_of x) (space_of y)) ea eb
    ∙ ap (λ x. if x then same_space (space_of p) (space_of q) else false) (sym holds ∙ e)
    ∙ sym (ap₂ same_space (ap space_of et ∙ space_of-Tensor p k l) (ap space_of eu ∙ space_of-Tensor q m n))

some_left : (u : ElementTree) (us : List ElementTree) → length (u ∷ us) ≡ 0 → ⊥
some_left u us h = omega arith

none_left : (us : List ElementTree) → (length us == 0) ≡ same_spaces no_spaces (spaces_in us)
none_left [] = refl
none_left (u ∷ us) = not_true (length (u ∷ us) == 0) (λ e. some_left u us (eqb-true (length (u ∷ us)) 0 e))

pub same_end : (ts : List ElementTree) (k : ℕ) (us : List ElementTree) (r w : Bool) → length ts ≤ k → r ≡ (length us == 0)
    → w ≡ same_spaces (spaces_in (drop k ts)) (spaces_in us) → r ≡ w
same_end ts k us r w h a b = a ∙ none_left us ∙ sym (b ∙ ap (λ x. same_spaces (spaces_in x) (spaces_in us)) (drop_all k ts h))

-- ---- the tests hold exactly of what is equal
pub cells_equal : (c e : Cell) → (same_cell c e ≡ true) ↔ (c ≡ e)
cells_equal c e = (cell_true c e, λ h. subst (λ x. same_cell c x ≡ true) h (same_cell_itself c))

pub spaces_equal : (s t : Space) → (same_space s t ≡ true) ↔ (s ≡ t)
spaces_equal s t = (space_true s t, λ h. subst (λ x. same_space s x ≡ true) h (space_refl s))
