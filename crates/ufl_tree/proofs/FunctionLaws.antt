-- A property of all functions of a tree gives each weaker one
use Rattle.std.proofs.Common.{ℕ}
use Rattle.ufl_tree.specs.declared.function.Function.{Function}
use Rattle.ufl_tree.specs.Typed.{Kind, Typed, number, identity, function, piece, one, two, power, index, partial, tensor, list, variable, diff, TypedList, no_items, item}
use Rattle.ufl_tree.specs.FormTerm.{FormTerm, integral, sum, scale, left, right, action, adjoint, derivative}
use Rattle.ufl_tree.specs.Functions.{EachFunction, EachFunctionOfAll, Each, EachPart}

mutual
  pub each_weaker : (W V : Kind → Function → Type 0) (S T : Kind → Function → ℕ → Type 0) → ((k : Kind) (f : Function) → W k f → V k f)
      → ((k : Kind) (f : Function) (n : ℕ) → S k f n → T k f n) → (e : Typed) → EachFunction W S e → EachFunction V T e
  each_weaker W V S T w s (number k c) h = tt
  each_weaker W V S T w s (identity k n) h = tt
  each_weaker W V S T w s (function k f) h = w k f h
  each_weaker W V S T w s (piece k f n) h = s k f n h
  each_weaker W V S T w s (one k op a) h = each_weaker W V S T w s a h
  each_weaker W V S T w s (two k op a b) h = (each_weaker W V S T w s a h.0, each_weaker W V S T w s b h.1)
  each_weaker W V S T w s (power k a n) h = each_weaker W V S T w s a h
  each_weaker W V S T w s (index k a at) h = each_weaker W V S T w s a h
  each_weaker W V S T w s (partial k a i) h = each_weaker W V S T w s a h
  each_weaker W V S T w s (tensor k a by) h = each_weaker W V S T w s a h
  each_weaker W V S T w s (list k ts) h = all_weaker W V S T w s ts h
  each_weaker W V S T w s (variable k l a) h = each_weaker W V S T w s a h
  each_weaker W V S T w s (diff k l by a) h = each_weaker W V S T w s a h

  pub all_weaker : (W V : Kind → Function → Type 0) (S T : Kind → Function → ℕ → Type 0) → ((k : Kind) (f : Function) → W k f → V k f)
      → ((k : Kind) (f : Function) (n : ℕ) → S k f n → T k f n) → (ts : TypedList) → EachFunctionOfAll W S ts → EachFunctionOfAll V T ts
  all_weaker W V S T w s no_items h = tt
  all_weaker W V S T w s (item t ts) h = (each_weaker W V S T w s t h.0, all_weaker W V S T w s ts h.1)

pub weaker : (P Q : Function → Type 0) → ((f : Function) → P f → Q f) → (e : Typed) → Each P e → Each Q e
weaker P Q w e h = each_weaker (λ k f. P f) (λ k f. Q f) (λ k f n. P f) (λ k f n. Q f) (λ k f. w f) (λ k f n. w f) e h

pub part_weaker : (D E : Typed → Type 0) (M N : FormTerm → Function → Type 0) → ((e : Typed) → D e → E e) → ((f : FormTerm) (g : Function) → M f g → N f g)
    → (f : FormTerm) → EachPart D M f → EachPart E N f
part_weaker D E M N d m (integral s e) h = d e h
part_weaker D E M N d m (sum f g) h = (part_weaker D E M N d m f h.0, part_weaker D E M N d m g h.1)
part_weaker D E M N d m (scale c f) h = part_weaker D E M N d m f h
part_weaker D E M N d m (left f) h = part_weaker D E M N d m f h
part_weaker D E M N d m (right f) h = part_weaker D E M N d m f h
part_weaker D E M N d m (action f last g) h = (part_weaker D E M N d m f h.0, m f g h.1)
part_weaker D E M N d m (adjoint f) h = part_weaker D E M N d m f h
part_weaker D E M N d m (derivative f w du) h = (part_weaker D E M N d m f h.0, m f w h.1, m f du h.2)
