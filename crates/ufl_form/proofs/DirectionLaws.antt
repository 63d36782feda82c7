-- Elements by their numbers, read as spaces
use Rattle.std.proofs.Common.{◌≡◌, ℕ, zero, suc, false, List, [], ◌∷◌, None, Some, slice_get, refl, sym, ap}
use Rattle.spaces.specs.declared.cell.Cell.{Cell}
use Rattle.spaces.specs.declared.element_tree.ElementTree.{ElementTree}
use Rattle.spaces.specs.Reading.{space_of}
use Rattle.ufl_tree.specs.Places.{table_of}
use Rattle.ufl_form.specs.Table.{varies_on}

space_at : (es : List ElementTree) (k : ℕ) (e : ElementTree) → slice_get es k ≡ Some e → slice_get (table_of es) k ≡ Some (space_of e)
space_at [] k e h = cc
space_at (x ∷ es) zero e h = let same : x ≡ e = cc in ap (λ y. Some (space_of y)) same
space_at (x ∷ es) (suc k) e h = space_at es k e h

none_at : (es : List ElementTree) (k : ℕ) → slice_get es k ≡ None → slice_get (table_of es) k ≡ None
none_at [] k h = refl
none_at (x ∷ es) zero h = cc
none_at (x ∷ es) (suc k) h = none_at es k h

pub no_element : (es : List ElementTree) (k : ℕ) (c : Cell) → None ≡ slice_get es k → varies_on (slice_get (table_of es) k) c ≡ false
no_element es k c h = ap (λ x. varies_on x c) (none_at es k (sym h))

pub at_element : (es : List ElementTree) (k : ℕ) (e : ElementTree) (c : Cell) → Some e ≡ slice_get es k
    → varies_on (slice_get (table_of es) k) c ≡ varies_on (Some (space_of e)) c
at_element es k e c h = ap (λ x. varies_on x c) (space_at es k e (sym h))
