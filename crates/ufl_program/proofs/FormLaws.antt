-- What the builders of forms give is sound where their operands are
use Rattle.std.proofs.Common.{◌≡◌, ℕ, Bool, true, false, if◌then◌else◌, List, ◌++◌, sym, ap, ◌∙◌, subst, Result, Ok, Err}
use Rattle.ratio.specs.declared.reduced.Ratio.{Ratio}
use Rattle.ufl_tree.specs.declared.function.Function.{Function}
use Rattle.ufl_tree.specs.declared.function.On.{On}
use Rattle.ufl_tree.specs.declared.function.Role.{Role}
use Rattle.ufl_tree.specs.declared.tree.Tree.{Tree}
use Rattle.ufl_tree.specs.FormTerm.{FormTerm, integral, sum, scale, left, right, action, adjoint, derivative}
use Rattle.ufl_tree.specs.Places.{Table}
use Rattle.ufl_tree.specs.Reading.{typed_of}
use Rattle.ufl_expr.specs.declared.refusal.TypeRefusal.{TypeRefusal}
use Rattle.ufl_expr.specs.declared.refusal.TypeRefusal.TheVariants.{Nodes}
use Rattle.ufl_expr.specs.Numbered.{HasItsElement}
use Rattle.ufl_form.specs.declared.form_tree.FormTree.{FormTree}
use Rattle.ufl_form.specs.declared.form_tree.FormTree.TheVariants as v
use Rattle.ufl_form.specs.Reading.{form_of}
use Rattle.ufl_form.specs.Table.{Verdict, AreTyped, form_kind, further, turned_kind}
use Rattle.ufl_form.specs.Building.{fits, checked, formed, acted, derived_from, derived}
use Rattle.ufl_form.proofs.FitLaws.{builders_fit, builders_number}
use Rattle.ufl_form.proofs.FormReadings.{form_of-Integral, form_of-Sum, form_of-Scale, form_of-Left, form_of-Right, form_of-Action, form_of-Adjoint, form_of-Derivative}
use Rattle.ufl_program.specs.Sound.{SoundTree, SoundForm}

choice_same : (b : Bool) (s t : FormTree) → (if b then Ok s else Err Nodes) ≡ Ok t → s ≡ t
choice_same true s t h = cc
choice_same false s t h = cc

checked_same : (w : Verdict) (s t : FormTree) → checked w s ≡ Ok t → s ≡ t
unfolding checked
checked_same (Err r) s t h = cc
checked_same (Ok k) s t h = choice_same (fits (form_of s)) s t h

-- what is built is the tree that was asked for
formed_same : (s t : FormTree) → formed s ≡ Ok t → s ≡ t
unfolding formed
formed_same s t h = checked_same (form_kind (form_of s)) s t h

read_typed : (s t : FormTree) (f : FormTerm) → formed s ≡ Ok t → form_of s ≡ f → AreTyped f → AreTyped (form_of t)
read_typed s t f h e r = subst AreTyped (sym e ∙ ap form_of (formed_same s t h)) r

module _ (table : Table) (numbers : List ℕ) where
  abbrev Sound : FormTree → Type 0
  Sound = SoundForm table numbers

  pub sound_integral : (m : On) (e : Tree) (t : FormTree) → formed (v.Integral m e) ≡ Ok t → SoundTree table numbers e → Sound t
  unfolding AreTyped
  sound_integral m e t h E = record {
    typed = read_typed (v.Integral m e) t (integral m (typed_of e)) h (form_of-Integral m e) E.typed;
    fits = (builders_fit table).of_others.of_integral m e t h E.fits;
    numbered = (builders_number numbers).of_others.of_integral m e t h E.numbered;
  }

  pub sound_sum : (f g t : FormTree) → formed (v.Sum f g) ≡ Ok t → Sound f → Sound g → Sound t
  unfolding AreTyped
  sound_sum f g t h F G = record {
    typed = read_typed (v.Sum f g) t (sum (form_of f) (form_of g)) h (form_of-Sum f g) (F.typed, G.typed);
    fits = (builders_fit table).of_others.of_sum f g t h F.fits G.fits;
    numbered = (builders_number numbers).of_others.of_sum f g t h F.numbered G.numbered;
  }

  pub sound_scale : (c : Ratio) (f t : FormTree) → formed (v.Scale c f) ≡ Ok t → Sound f → Sound t
  unfolding AreTyped
  sound_scale c f t h F = record {
    typed = read_typed (v.Scale c f) t (scale c (form_of f)) h (form_of-Scale c f) F.typed;
    fits = (builders_fit table).of_others.of_scale c f t h F.fits;
    numbered = (builders_number numbers).of_others.of_scale c f t h F.numbered;
  }

  pub sound_left : (f t : FormTree) → formed (v.Left f) ≡ Ok t → Sound f → Sound t
  unfolding AreTyped
  sound_left f t h F = record {
    typed = read_typed (v.Left f) t (left (form_of f)) h (form_of-Left f) F.typed;
    fits = (builders_fit table).of_others.of_left f t h F.fits;
    numbered = (builders_number numbers).of_others.of_left f t h F.numbered;
  }

  pub sound_right : (f t : FormTree) → formed (v.Right f) ≡ Ok t → Sound f → Sound t
  unfolding AreTyped
  sound_right f t h F = record {
    typed = read_typed (v.Right f) t (right (form_of f)) h (form_of-Right f) F.typed;
    fits = (builders_fit table).of_others.of_right f t h F.fits;
    numbered = (builders_number numbers).of_others.of_right f t h F.numbered;
  }

  pub sound_adjoint : (f t : FormTree) → formed (v.Adjoint f) ≡ Ok t → Sound f → Sound t
  unfolding AreTyped
  sound_adjoint f t h F = record {
    typed = read_typed (v.Adjoint f) t (adjoint (form_of f)) h (form_of-Adjoint f) F.typed;
    fits = (builders_fit table).of_others.of_adjoint f t h F.fits;
    numbered = (builders_number numbers).of_others.of_adjoint f t h F.numbered;
  }

  pub sound_action : (r : Result Role TypeRefusal) (f : FormTree) (g : Function) (t : FormTree) → acted r f g ≡ Ok t → HasItsElement numbers g → Sound f → Sound t
  unfolding AreTyped
  sound_action (Err e) f g t h p F = cc
  sound_action (Ok last) f g t h p F = record {
    typed = read_typed (v.Action f last g) t (action (form_of f) last g) h (form_of-Action f last g) F.typed;
    fits = (builders_fit table).of_action f last g t h F.typed F.fits;
    numbered = (builders_number numbers).of_action f last g t h F.numbered p;
  }

  derived_formed : (x : Verdict) (f : FormTree) (w du : Function) (t : FormTree) → derived_from x f w du ≡ Ok t → formed (v.Derivative f w du) ≡ Ok t
  derived_formed (Err r) f w du t h = cc
  derived_formed (Ok k) f w du t h = h

  pub sound_derivative : (f : FormTree) (w du : Function) (t : FormTree) → derived table f w du ≡ Ok t
      → HasItsElement numbers w → HasItsElement numbers du → Sound f → Sound t
  unfolding AreTyped
  sound_derivative f w du t h p q F =
      let g = derived_formed (further (form_kind (form_of f)) (λ a. turned_kind table a w du)) f w du t h in
      record {
        typed = read_typed (v.Derivative f w du) t (derivative (form_of f) w du) g (form_of-Derivative f w du) F.typed;
        fits = (builders_fit table).of_derivative f w du t h F.fits;
        numbered = (builders_number numbers).of_derivative f w du t g F.numbered p q;
      }

pub form_longer : (table more : Table) (numbers others : List ℕ) (t : FormTree) → SoundForm table numbers t → SoundForm (table ++ more) (numbers ++ others) t
form_longer table more numbers others t A = record {
  typed = A.typed;
  fits = (builders_fit table).of_longer t more A.fits;
  numbered = (builders_number numbers).of_longer t others A.numbered;
}
