-- The values of a form that is prepared, their text, and why there are none
use Rattle.std.proofs.Common.{◌≡◌, ℕ, ◌≤◌, List, [], ◌++◌, length, Option, None, Some, refl, sym, ap, ap₂, ◌∙◌, subst}
use Rattle.std.specs.Prelude.{slice_get}
use Rattle.algebra.specs.Fraction.{Fraction}
use Rattle.ratio.specs.declared.reduced.Ratio.{Ratio}
use Rattle.spaces.specs.Space.{Space}
use Rattle.mesh_in.specs.MeshData.{MeshData, fractions}
use Rattle.dofs.specs.Rows.{Numbering}
use Rattle.monos.specs.declared.layout.Layout.{Layout}
use Rattle.monos.specs.declared.weight.Weight.{Weight}
use Rattle.ufl_tree.specs.Places.{table_of}
use Rattle.ufl_form.specs.Table.{form_patterns}
use Rattle.ufl_form.specs.declared.table.FormKind.{FormKind}
use Rattle.admit.specs.Admission.{rank_of}
use Rattle.assembly.specs.Assembly.{Assembly, AreGood, IsFew, Refused, RunRefused, assembly_of, row_count as rows_in, run_entries}
use Rattle.assembly.specs.Lent.{AreStarted}
use Rattle.assembly.specs.LentRows.{LentRows, lent_count, lent_entries}
use Rattle.assembly.specs.Sums.{Entry, AreSums}
use Rattle.assembly.specs.declared.funs.Funs.{Funs}
use Rattle.assembly.specs.declared.run_refusal.RunRefusal.{RunRefusal}
use Rattle.assembly.specs.declared.run_refusal.RunRefusal.TheVariants as refusal
use Rattle.form_values.specs.Assembled.{argument_numbering, numbering_of}
use Rattle.form_values.specs.CellLayout.{Occurring, IsElementOf, values_on}
use Rattle.form_values.specs.FormValue.{AreTriples}
use Rattle.form_values.specs.Problem.{Problem, labels_in, row_count}
use Rattle.form_assembly.specs.Assembled.{HasValues, IsFormAssembly, Refuses}
use Rattle.form_assembly.specs.Prepared.{HaveValues, IsPrepared, IsPreparedForm, IsUnprepared}
use Rattle.ufl_elab.specs.declared.program.Named.{Named}
use Rattle.ufl_elab.specs.declared.program.UflProgram.{UflProgram}
use Rattle.answers.specs.ValuesText.{SumRefusal, values_text}
use Rattle.ffc.specs.Assemble.{IsValuesText, text_of_values}
use Rattle.ffc.specs.Forms.{IsAdmitted, occurring_of, problem_of, term_of}

-- ---- what is prepared for a form in which no coefficient occurs
module _ (p : UflProgram) (n : Named) (m : MeshData Fraction) where
  pub prepared : (coefs : List ℕ) (k : FormKind) (w : Weight) (name : List ℕ) (l : Layout) (funs : Funs) (test trial rows cols : Option Numbering) → coefs ≡ p.coefficients
      → rows ≡ test → cols ≡ trial → IsAdmitted p n k w → IsPreparedForm (table_of p.elements) coefs (term_of n) m name l funs test trial
      → IsPrepared (problem_of p n m) (occurring_of p n) w name l funs rows cols
  prepared coefs k w name l funs test trial rows cols same e f admitted h =
      subst (λ t. IsPrepared (problem_of p n m) (occurring_of p n) w name l funs t cols) (sym e)
      (subst (λ t. IsPrepared (problem_of p n m) (occurring_of p n) w name l funs test t) (sym f)
      (subst (λ xs. IsPreparedForm (table_of p.elements) xs (term_of n) m name l funs test trial) same h k w (λ j. []) admitted (λ j x. refl)))

  pub no_values : (occurring_of p n).coefficients ≡ [] → HaveValues (problem_of p n m) (occurring_of p n) []
  no_values nothing = λ k h. sym (ap (λ ns. values_on (problem_of p n m) ns k) nothing)

-- ---- rows and columns
counted_in : (q : Problem) (found s : Option Space) (x : Space) → found ≡ s → s ≡ Some x → rows_in (numbering_of q s) ≡ length (labels_in q.mesh s)
counted_in q found None x e h = cc
counted_in q found (Some s) x e h = refl

pub counted : (q : Problem) (e : Option ℕ) → IsElementOf q e → rows_in (argument_numbering q e) ≡ row_count q e
counted q None h = refl
counted q (Some e) h = counted_in q (slice_get q.elements e) (slice_get q.elements e) h.space refl h.found

-- ---- refusals
pub unprepared : (q : Problem) (o : Occurring) (w : Weight) (e : RunRefusal) → IsUnprepared q o e → Refuses q o w e
unprepared q o w refusal.TooManyEntries h = h
unprepared q o w (refusal.Zero cell at) h = absurd h
unprepared q o w (refusal.CellPassed cell at op left right) h = absurd h
unprepared q o w (refusal.SumPassed row col) h = absurd h
unprepared q o w refusal.Memory h = tt

-- a refusal of the runs is one of the assembly
pub run_refused : (s : Assembly) (e : RunRefusal) → RunRefused s.runs e → Refused s e
run_refused s refusal.TooManyEntries r = r
run_refused s (refusal.Zero cell at) r = r
run_refused s (refusal.CellPassed cell at op left right) r = r
run_refused s (refusal.SumPassed row col) r = absurd r
run_refused s refusal.Memory r = tt

-- and so is one of the sums
sum_refused : (s : Assembly) (e : RunRefusal) → IsFew s.runs → AreGood s.runs → SumRefusal (run_entries s) e → Refused s e
sum_refused s refusal.TooManyEntries few good r = absurd r
sum_refused s (refusal.Zero cell at) few good r = absurd r
sum_refused s (refusal.CellPassed cell at op left right) few good r = absurd r
sum_refused s (refusal.SumPassed row col) few good r = (few, good, r)
sum_refused s refusal.Memory few good r = tt

-- ---- what is pushed
module _ (s : Assembly) (rows : LentRows) (started : AreStarted s rows) where
  pub pushed_sums : (entries : List Entry) → AreSums (lent_entries rows) entries → AreSums (run_entries s) entries
  pushed_sums entries sums = subst (λ vs. AreSums vs entries) started.entries sums

  pub pushed_refusal : (e : RunRefusal) → IsFew s.runs → AreGood s.runs → SumRefusal (lent_entries rows) e → Refused s e
  pushed_refusal e few good r = sum_refused s e few good (subst (λ vs. SumRefusal vs e) started.entries r)

  pub pushed_text : (q : Problem) (o : Occurring) (w : Weight) (own name : List ℕ) (l : Layout) (funs : Funs) (rank count : ℕ) (start done : List ℕ) (entries : List Entry)
      → IsPrepared q o w own l funs s.rows s.cols → rank ≡ rank_of (form_patterns q.form) → count ≡ rows_in s.cols → start ≡ []
      → done ≡ start ++ values_text name rank (lent_count rows) count entries → done ≡ text_of_values name q entries
  pushed_text q o w own name l funs rank count start done entries is ranked columns nothing e =
      let row : lent_count rows ≡ row_count q q.test =
      ap rows_in started.rows ∙ ap rows_in is.test_rows ∙ counted q q.test is.fits.test in
      let col : count ≡ row_count q q.trial = columns ∙ ap rows_in is.trial_rows ∙ counted q q.trial is.fits.trial in
      e ∙ ap (λ (b : List ℕ). b ++ values_text name rank (lent_count rows) count entries) nothing
      ∙ ap (λ r. values_text name r (lent_count rows) count entries) ranked
      ∙ ap₂ (λ a b. values_text name (rank_of (form_patterns q.form)) a b entries) row col
