-- What a builder gives
use Rattle.std.specs.Prelude.{◌≡◌, ℕ, ◌&&◌, Bool, nat_le, if◌then◌else◌, Result, Ok, Err}
use Rattle.ratio.specs.declared.reduced.Ratio.{Ratio}
use Rattle.ufl_tree.specs.declared.function.Function.{Function}
use Rattle.ufl_tree.specs.declared.function.On.{On}
use Rattle.ufl_tree.specs.declared.function.Role.{Role}
use Rattle.ufl_tree.specs.declared.tree.Tree.{Tree}
use Rattle.ufl_tree.specs.FormTerm.{FormTerm}
use Rattle.ufl_tree.specs.Places.{Table}
use Rattle.ufl_expr.specs.declared.refusal.TypeRefusal.{TypeRefusal}
use Rattle.ufl_expr.specs.declared.refusal.TypeRefusal.TheVariants.{Nodes}
use Rattle.ufl_form.specs.declared.form_tree.FormTree.{FormTree}
use Rattle.ufl_form.specs.declared.form_tree.FormTree.TheVariants as v
use Rattle.ufl_form.specs.declared.pattern_set.PatternSet.{PatternSet}
use Rattle.ufl_form.specs.declared.table.FormKind.{FormKind}
use Rattle.ufl_form.specs.Reading.{form_of}
use Rattle.ufl_form.specs.Sizes.{form_nodes, form_height}
use Rattle.ufl_form.specs.Table.{Verdict, further, turned_kind, form_kind, form_patterns, AreTyped}

-- at most 10,000 nodes and a height of at most 128
unfoldable pub fits : FormTerm → Bool
fits f = nat_le (form_nodes f) 10000 && nat_le (form_height f) 128

unfoldable pub checked : Verdict → FormTree → Result FormTree TypeRefusal
checked (Err r) t = Err r
checked (Ok k) t = if fits (form_of t) then Ok t else Err Nodes

-- the form, unless the table refuses it or it is too large
unfoldable pub formed : FormTree → Result FormTree TypeRefusal
formed t = checked (form_kind (form_of t)) t

-- f in place of the last argument, which there must be
abbrev pub acted : Result Role TypeRefusal → FormTree → Function → Result FormTree TypeRefusal
acted (Err r) t f = Err r
acted (Ok last) t f = formed (v.Action t last f)

-- the derivative by w along du, where w may vary on the form's cell
abbrev pub derived_from : Verdict → FormTree → Function → Function → Result FormTree TypeRefusal
derived_from (Err r) t w du = Err r
derived_from (Ok k) t w du = formed (v.Derivative t w du)

abbrev pub derived : Table → FormTree → Function → Function → Result FormTree TypeRefusal
derived table t w du = derived_from (further (form_kind (form_of t)) (λ a. turned_kind table a w du)) t w du

-- where I holds of an integrand and P of the operands, P holds of what a builder gives; actions and derivatives, which name functions, aren't among these
pub record BuildersKeep (I : Tree → Type 0) (P : FormTree → Type 0) : Type 0 where
  pub of_integral : (m : On) (e : Tree) (t : FormTree) → formed (v.Integral m e) ≡ Ok t → I e → P t
  pub of_sum : (f g t : FormTree) → formed (v.Sum f g) ≡ Ok t → P f → P g → P t
  pub of_scale : (c : Ratio) (f t : FormTree) → formed (v.Scale c f) ≡ Ok t → P f → P t
  pub of_left : (f t : FormTree) → formed (v.Left f) ≡ Ok t → P f → P t
  pub of_right : (f t : FormTree) → formed (v.Right f) ≡ Ok t → P f → P t
  pub of_adjoint : (f t : FormTree) → formed (v.Adjoint f) ≡ Ok t → P f → P t

-- what is known of a form
pub record IsDescribed (f : FormTerm) (k : FormKind) (p : PatternSet) (n h : ℕ) : Type 0 where
  pub typed : AreTyped f
  pub kind : form_kind f ≡ Ok k
  pub patterns : p ≡ form_patterns f
  pub count : n ≡ form_nodes f
  pub depth : h ≡ form_height f
