-- What the numbers of a monomial give of its part in an entry
use Rattle.std.proofs.Common.{◌≡◌, ℕ, suc, ◌+◌, ◌<◌, ◌≤◌, Bool, true, false, List, [], ◌∷◌, ◌++◌, length, if◌then◌else◌, refl, sym, ◌∙◌, ap, ap₂, subst, arith}
use Rattle.std.specs.List.{flat_map}
use native.Mathlib.Nat as N
use Rattle.algebra.specs.Fraction.{Fraction}
use Rattle.calculus.specs.Simplex.{Simplex, IsCell, dimension}
use Rattle.spaces.specs.declared.cell.Cell.{Cell}
use Rattle.monos.specs.declared.layout.Layout.{Layout}
use Rattle.monos.specs.declared.mono.Atom.{Atom}
use Rattle.monos.specs.declared.weight.Weight.{Weight}
use Rattle.monos.specs.Layout.{IsLawfulOn}
use Rattle.monos.specs.Monomial.{Monomial, directions, derivatives}
use Rattle.monos.proofs.LayoutLaws.{directions_count}
use Rattle.weigh.specs.Refusals.{lcd}
use Rattle.refint.specs.Reference.{items, is_argument, values_of, value_lists}
use Rattle.room.specs.declared.numbers.CellNumbers.{CellNumbers}
use Rattle.room.specs.Numbered.{AllOver}
use Rattle.room.specs.Room.{all_values}
use Rattle.room.specs.Rows.{HaveBottoms, IsWithin, entry_part}
use Rattle.room.proofs.ShareLaws.{values_over}

both_long : (xs ys : List ℕ) → length (xs ++ ys) ≡ length xs + length ys
both_long [] ys = sym (N.zero-add (length ys))
both_long (x ∷ xs) ys = ap suc (both_long xs ys) ∙ sym (N.suc-add (length xs) (length ys))

-- as many directions as derivatives
pub directions_long : (xs : List Atom) → length (flat_map directions xs) ≡ derivatives xs
directions_long [] = refl
directions_long (x ∷ xs) = both_long (directions x) (flat_map directions xs) ∙ ap₂ (λ a b. a + b) (directions_count x) (directions_long xs)

one_list : (t : Bool) (ys : List Fraction) (rest : List (List Fraction)) (n : ℕ) → length rest ≤ n → length (if t then rest else ys ∷ rest) ≤ suc n
one_list true ys rest n h = omega (arith, h)
one_list false ys rest n h = omega (arith, h)

-- at most as many lists of values as atoms
few_lists : (l : Layout) (v : Simplex) (w : List Fraction) (xs : List Atom) → length (value_lists l v w xs) ≤ length xs
few_lists l v w [] = N.le_refl 0
few_lists l v w (x ∷ xs) = one_list (is_argument x.f.role) (values_of l v w x.f.role x.component) (value_lists l v w xs) (length xs) (few_lists l v w xs)

pub part_within : (w : Weight) (c : CellNumbers) (k : Cell) (l : Layout) → IsLawfulOn k l → (v : Simplex) → IsCell v → dimension v ≡ l.d → 0 < c.dw
    → (values : List Fraction) → AllOver c.dw c.nw (all_values l v values) → (a b : ℕ) (m : Monomial)
    → length m.atoms ≤ w.f → w.rmin ≤ derivatives m.atoms → derivatives m.atoms ≤ w.rmax → HaveBottoms (lcd c.d w) (items l m a b)
    → IsWithin w c (entry_part l v values a b m)
part_within w c k l h v cell e some values all a b m functions least greatest own = record {
  items = own;
  least = subst (λ n. w.rmin ≤ n) (sym (directions_long m.atoms)) least;
  greatest = subst (λ n. n ≤ w.rmax) (sym (directions_long m.atoms)) greatest;
  functions = N.le_trans (few_lists l v values m.atoms) functions;
  values = values_over c.dw c.nw some k l h v cell e values all m.atoms;
}
