-- What the code makes at each node is what the definitions say there: derivatives
use Rattle.std.proofs.Common.{◌≡◌, ℕ, List, map, sym, ◌∙◌, ap, ap₂}
use Rattle.ratio.specs.declared.reduced.Ratio.{Ratio}
use Rattle.ufl_tree.specs.declared.function.Function.{Function as Fn}
use Rattle.ufl_tree.specs.declared.function.Ix.{Ix}
use Rattle.ufl_tree.specs.declared.plain.Plain.{Plain}
use Rattle.ufl_tree.specs.declared.plain.Plain.TheVariants as w
use Rattle.ufl_tree.specs.Reading.{term_of, terms_of}
use Rattle.ufl_tree.specs.Term.{Term, fun, mark, neg, sum, prod, over, dx, pick}
use Rattle.ufl_tree.proofs.ReadingLaws as r
use Rattle.lower.specs.Renaming.{zero_term}
use Rattle.derivatives.specs.Derivation.{derivative_of}
use Rattle.derivatives.specs.declared.derivation.Derivation.{Derivation}
use Rattle.derivatives.proofs.DerivationLaws as d

module _ (by : Derivation) (e : Plain) where
  abbrev slope_of : Plain → Term
  slope_of a = derivative_of by (term_of a)

  pub in_num : (c : Ratio) → e ≡ w.Num c → zero_term ≡ slope_of e
  in_num c h = sym (ap (derivative_of by) (ap term_of h ∙ r.term_of-Num c) ∙ d.of-num by c)

  pub in_fun : (f : Fn) (at own : List Ix) → e ≡ w.Fun f at → own ≡ at → derivative_of by (fun f own) ≡ slope_of e
  in_fun f at own h k = ap (λ b. derivative_of by (fun f b)) k ∙ sym (ap (derivative_of by) (ap term_of h ∙ r.term_of-Fun f at))

  pub in_mark : (l : ℕ) (at own : List Ix) (b a : Plain) → e ≡ w.Mark l at b → own ≡ at → a ≡ b → derivative_of by (mark l own (term_of a)) ≡ slope_of e
  in_mark l at own b a h k g = ap₂ (λ c x. derivative_of by (mark l c (term_of x))) k g ∙ sym (ap (derivative_of by) (ap term_of h ∙ r.term_of-Mark l at b))

  pub in_neg : (b a : Plain) (s : Term) → e ≡ w.Neg b → a ≡ b → s ≡ slope_of a → neg s ≡ slope_of e
  in_neg b a s h g k = ap neg (k ∙ ap slope_of g) ∙ sym (ap (derivative_of by) (ap term_of h ∙ r.term_of-Neg b) ∙ d.of-neg by (term_of b))

  pub in_sum : (b c a f : Plain) (s t : Term) → e ≡ w.Sum b c → a ≡ b → f ≡ c → s ≡ slope_of a → t ≡ slope_of f → sum s t ≡ slope_of e
  in_sum b c a f s t h g k p q =
      ap₂ sum (p ∙ ap slope_of g) (q ∙ ap slope_of k) ∙ sym (ap (derivative_of by) (ap term_of h ∙ r.term_of-Sum b c) ∙ d.of-sum by (term_of b) (term_of c))

  pub in_prod : (b c a f a' f' : Plain) (s t : Term) → e ≡ w.Prod b c → a ≡ b → f ≡ c → a' ≡ b → f' ≡ c → s ≡ slope_of a → t ≡ slope_of f → sum (prod s (term_of f')) (prod (term_of a') t) ≡ slope_of e
  in_prod b c a f a' f' s t h g k g' k' p q =
      ap₂ sum (ap₂ prod (p ∙ ap slope_of g) (ap term_of k')) (ap₂ prod (ap term_of g') (q ∙ ap slope_of k))
      ∙ sym (ap (derivative_of by) (ap term_of h ∙ r.term_of-Prod b c) ∙ d.of-prod by (term_of b) (term_of c))

  pub in_over : (i n : ℕ) (b a : Plain) (s : Term) → e ≡ w.Over i n b → a ≡ b → s ≡ slope_of a → over i n s ≡ slope_of e
  in_over i n b a s h g k = ap (over i n) (k ∙ ap slope_of g) ∙ sym (ap (derivative_of by) (ap term_of h ∙ r.term_of-Over i n b) ∙ d.of-over by i n (term_of b))

  pub in_dx : (i : Ix) (b a : Plain) (s : Term) → e ≡ w.Dx i b → a ≡ b → s ≡ slope_of a → dx i s ≡ slope_of e
  in_dx i b a s h g k = ap (dx i) (k ∙ ap slope_of g) ∙ sym (ap (derivative_of by) (ap term_of h ∙ r.term_of-Dx i b) ∙ d.of-dx by i (term_of b))

  pub in_delta : (i j : Ix) → e ≡ w.Delta i j → zero_term ≡ slope_of e
  in_delta i j h = sym (ap (derivative_of by) (ap term_of h ∙ r.term_of-Delta i j) ∙ d.of-delta by i j)

  pub in_pick : (i : Ix) (ps qs all : List Plain) → e ≡ w.Pick i ps → qs ≡ ps → map term_of all ≡ map slope_of qs → pick i (terms_of (map term_of all)) ≡ slope_of e
  in_pick i ps qs all h g k =
      ap (λ xs. pick i (terms_of xs)) (k ∙ ap (map slope_of) g) ∙ sym (ap (derivative_of by) (ap term_of h ∙ r.term_of-Pick i ps) ∙ d.of-pick by i ps)

  pub in_raise : (l : ℕ) (at : List Ix) (b : Plain) → e ≡ w.Raise l at b → zero_term ≡ slope_of e
  in_raise l at b h = sym (ap (derivative_of by) (ap term_of h ∙ r.term_of-Raise l at b) ∙ d.of-raise by l at (term_of b))

  pub in_turn : (f g : Fn) (b : Plain) → e ≡ w.Turn f g b → zero_term ≡ slope_of e
  in_turn f g b h = sym (ap (derivative_of by) (ap term_of h ∙ r.term_of-Turn f g b) ∙ d.of-turn by f g (term_of b))
