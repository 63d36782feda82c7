-- What the cells add, by the number of the cell and the rows that numberings list
use Rattle.std.proofs.Common.{◌≡◌, ℕ, zero, suc, List, [], ◌∷◌, ◌++◌, length, map, slice_get, slice_index_or, Option, None, Some, refl, sym, ap, ap₂, ◌∙◌}
use Rattle.algebra.specs.Fraction.{Fraction, zero_fraction}
use Rattle.spaces.specs.Space.{Space}
use Rattle.dofs.specs.Basis.{CellOf}
use Rattle.dofs.specs.Rows.{numbering}
use Rattle.dofs.proofs.Lists.{same_some, suc-moves}
use Rattle.assembly.specs.Sums.{Entry}
use Rattle.assembly.specs.Local.{local_entries}
use Rattle.assembly.specs.Assembly as A
use Rattle.assembly.specs.Assembly.{Assembly, run_entries, tensor_on}
use Rattle.form_values.specs.Assembled.{IsAssemblyOf, numbering_of, argument_numbering}
use Rattle.form_values.specs.CellLayout.{IsElementOf, argument_rows, rows_on, coefficient_space, coefficient_values}
use Rattle.form_values.specs.CellShares.{entries_from, tensor_entries}
use Rattle.form_values.specs.Problem.{Problem, IsIn, cell_of_mesh, space_in}
use Rattle.form_values.proofs.Starts.{numbered_rows}
use Rattle.form_values.proofs.TriplesLaws.{Cells, first, from_start}

pub item_at : {A : Type 0} (xs : List A) (n : ℕ) (x d : A) → slice_get xs n ≡ Some x → slice_index_or xs n d ≡ x
item_at [] n x d h = cc
item_at (y ∷ xs) zero x d h = same_some y x h
item_at (y ∷ xs) (suc n) x d h = item_at xs n x d h

pub rows_by_number : (p : Problem) (e : Option ℕ) (k : CellOf) → IsElementOf p e → IsIn k p → A.argument_rows (numbering_of p (space_in p e)) k.number ≡ argument_rows p e k
rows_by_number p None k is at = refl
rows_by_number p (Some e) k is at =
    ap (λ o. A.argument_rows (numbering_of p o) k.number) is.found
    ∙ item_at (numbering p.mesh is.space).cells k.number _ [] (numbered_rows p k is.space at)
    ∙ ap (λ o. rows_of_space o) (sym is.found)
  where
    rows_of_space : Option Space → List ℕ
    rows_of_space o = rows_on p.mesh o k

from_number : (p : Problem) (tensor : ℕ → List Fraction) → IsElementOf p p.test → IsElementOf p p.trial → (n : ℕ) (cells : List (List ℕ)) → Cells p n cells
    → A.entries_from (numbering_of p (space_in p p.test)) (numbering_of p (space_in p p.trial)) tensor n (length cells) ≡ entries_from p (λ k. tensor k.number) n cells
from_number p tensor test trial n [] are = refl
from_number p tensor test trial n (vs ∷ cells) are =
    let k = cell_of_mesh p.mesh n vs in
    ap₂ (λ es fs. es ++ fs)
    (ap₂ (λ rs cs. local_entries rs cs (tensor n)) (rows_by_number p p.test k test (first p n vs cells are)) (rows_by_number p p.trial k trial (first p n vs cells are)))
    (from_number p tensor test trial (suc n) cells (λ i. ap (slice_get p.mesh.cells) (suc-moves n i) ∙ are (suc i)))

entries_by_number : (p : Problem) (tensor : ℕ → List Fraction) → IsElementOf p p.test → IsElementOf p p.trial
    → A.entries_from (numbering_of p (space_in p p.test)) (numbering_of p (space_in p p.trial)) tensor 0 (length p.mesh.cells) ≡ tensor_entries p (λ k. tensor k.number)
entries_by_number p tensor test trial = from_number p tensor test trial 0 p.mesh.cells (from_start p)

-- what the runs add, at the rows and columns of the arguments
pub assembled : (p : Problem) (s : Assembly) → IsElementOf p p.test → IsElementOf p p.trial → IsAssemblyOf p s → run_entries s ≡ tensor_entries p (λ k. tensor_on s.runs k.number)
assembled p s test trial is =
    ap₂ (λ rows cols. A.entries_from rows cols (tensor_on s.runs) 0 (A.cell_count s.runs)) is.rows is.cols
    ∙ ap (A.entries_from (argument_numbering p p.test) (argument_numbering p p.trial) (tensor_on s.runs) 0) is.cells
    ∙ entries_by_number p (tensor_on s.runs) test trial

-- the values of a coefficient at the rows that its numbering lists
pub coefficient_by_number : (p : Problem) (n : ℕ) (k : CellOf) → IsElementOf p (slice_get p.coefficients n) → IsIn k p → (e : ℕ) → slice_get p.coefficients n ≡ Some e
    → coefficient_values p k n ≡ map (λ r. slice_index_or (p.values n) r zero_fraction) (A.argument_rows (numbering_of p (coefficient_space p n)) k.number)
coefficient_by_number p n k is at e found = ap (map (λ r. slice_index_or (p.values n) r zero_fraction)) (go (slice_get p.coefficients n) is found)
  where
    go : (o : Option ℕ) → IsElementOf p o → o ≡ Some e → rows_on p.mesh (space_in p o) k ≡ A.argument_rows (numbering_of p (space_in p o)) k.number
    go None is h = cc
    go (Some d) is h = sym (rows_by_number p (Some d) k is at)
