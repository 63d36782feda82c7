-- What the code makes at each node is what the definitions say there: trees under other names, with their derivatives carried out
use Rattle.std.proofs.Common.{◌≡◌, ℕ, suc, List, map, sym, ◌∙◌, ap, ap₂}
use Rattle.ratio.specs.declared.reduced.Ratio.{Ratio}
use Rattle.ufl_tree.specs.declared.function.Function.{Function as Fn}
use Rattle.ufl_tree.specs.declared.function.Ix.{Ix}
use Rattle.ufl_tree.specs.declared.function.Ix.TheVariants.{Named}
use Rattle.ufl_tree.specs.declared.plain.Plain.{Plain}
use Rattle.ufl_tree.specs.declared.plain.Plain.TheVariants as w
use Rattle.ufl_tree.specs.Reading.{term_of, terms_of}
use Rattle.ufl_tree.specs.Term.{Term, num, fun, mark, neg, sum, prod, over, dx, delta, pick, raise, turn}
use Rattle.ufl_tree.proofs.ReadingLaws as r
use Rattle.lower.specs.Renaming.{Renaming, with_index, renamed, all_renamed}
use Rattle.perturb.specs.Expanding.{by_variable, linear, expand}
use Rattle.derivatives.proofs.ListLaws.{each_expanded}

module _ (names : Renaming) (n : ℕ) (e : Plain) where
  abbrev expanded_of : Plain → Term
  expanded_of a = expand (term_of a) names n

  of_node : (t : Term) → term_of e ≡ t → expand t names n ≡ expanded_of e
  of_node t h = sym (ap (λ x. expand x names n) h)

  pub in_num : (c : Ratio) → e ≡ w.Num c → num c ≡ expanded_of e
  in_num c h = of_node (num c) (ap term_of h ∙ r.term_of-Num c)

  pub in_fun : (f : Fn) (at own : List Ix) → e ≡ w.Fun f at → own ≡ at → fun f (all_renamed names own) ≡ expanded_of e
  in_fun f at own h k = ap (λ b. fun f (all_renamed names b)) k ∙ of_node (fun f at) (ap term_of h ∙ r.term_of-Fun f at)

  pub in_mark : (l : ℕ) (at own : List Ix) (b a : Plain) (s : Term) → e ≡ w.Mark l at b → own ≡ at → a ≡ b → s ≡ expanded_of a → mark l (all_renamed names own) s ≡ expanded_of e
  in_mark l at own b a s h k g p =
      ap₂ (λ c x. mark l (all_renamed names c) x) k (p ∙ ap expanded_of g) ∙ of_node (mark l at (term_of b)) (ap term_of h ∙ r.term_of-Mark l at b)

  pub in_neg : (b a : Plain) (s : Term) → e ≡ w.Neg b → a ≡ b → s ≡ expanded_of a → neg s ≡ expanded_of e
  in_neg b a s h g p = ap neg (p ∙ ap expanded_of g) ∙ of_node (neg (term_of b)) (ap term_of h ∙ r.term_of-Neg b)

  pub in_sum : (b c a f : Plain) (s t : Term) → e ≡ w.Sum b c → a ≡ b → f ≡ c → s ≡ expanded_of a → t ≡ expanded_of f → sum s t ≡ expanded_of e
  in_sum b c a f s t h g k p q = ap₂ sum (p ∙ ap expanded_of g) (q ∙ ap expanded_of k) ∙ of_node (sum (term_of b) (term_of c)) (ap term_of h ∙ r.term_of-Sum b c)

  pub in_prod : (b c a f : Plain) (s t : Term) → e ≡ w.Prod b c → a ≡ b → f ≡ c → s ≡ expanded_of a → t ≡ expanded_of f → prod s t ≡ expanded_of e
  in_prod b c a f s t h g k p q = ap₂ prod (p ∙ ap expanded_of g) (q ∙ ap expanded_of k) ∙ of_node (prod (term_of b) (term_of c)) (ap term_of h ∙ r.term_of-Prod b c)

  pub in_over : (i m : ℕ) (b a : Plain) → e ≡ w.Over i m b → a ≡ b → expand (over i m (term_of a)) names n ≡ expanded_of e
  in_over i m b a h g = ap (λ x. expand (over i m (term_of x)) names n) g ∙ of_node (over i m (term_of b)) (ap term_of h ∙ r.term_of-Over i m b)

  pub in_dx : (i j : Ix) (b a : Plain) (s : Term) → e ≡ w.Dx i b → j ≡ renamed names i → a ≡ b → s ≡ expanded_of a → dx j s ≡ expanded_of e
  in_dx i j b a s h k g p = ap₂ dx k (p ∙ ap expanded_of g) ∙ of_node (dx i (term_of b)) (ap term_of h ∙ r.term_of-Dx i b)

  pub in_delta : (i j k m : Ix) → e ≡ w.Delta i j → k ≡ renamed names i → m ≡ renamed names j → delta k m ≡ expanded_of e
  in_delta i j k m h p q = ap₂ delta p q ∙ of_node (delta i j) (ap term_of h ∙ r.term_of-Delta i j)

  pub in_pick : (i j : Ix) (ps qs all : List Plain) → e ≡ w.Pick i ps → j ≡ renamed names i → qs ≡ ps → map term_of all ≡ map expanded_of qs → pick j (terms_of (map term_of all)) ≡ expanded_of e
  in_pick i j ps qs all h k g p =
      ap₂ (λ x xs. pick x (terms_of xs)) k (p ∙ ap (map expanded_of) g)
      ∙ sym (ap (pick (renamed names i)) (each_expanded ps names n))
      ∙ of_node (pick i (terms_of (map term_of ps))) (ap term_of h ∙ r.term_of-Pick i ps)

  pub in_raise : (l : ℕ) (at own : List Ix) (b a : Plain) (s : Term) → e ≡ w.Raise l at b → own ≡ at → a ≡ b → s ≡ expanded_of a
      → by_variable l (all_renamed names own) s ≡ expanded_of e
  in_raise l at own b a s h k g p =
      ap₂ (λ c x. by_variable l (all_renamed names c) x) k (p ∙ ap expanded_of g) ∙ of_node (raise l at (term_of b)) (ap term_of h ∙ r.term_of-Raise l at b)

  pub in_turn : (f g : Fn) (b a : Plain) (s : Term) → e ≡ w.Turn f g b → a ≡ b → s ≡ expanded_of a → linear f.role g.role s ≡ expanded_of e
  in_turn f g b a s h k p = ap (linear f.role g.role) (p ∙ ap expanded_of k) ∙ of_node (turn f g (term_of b)) (ap term_of h ∙ r.term_of-Turn f g b)

-- a sum takes the next name
pub in_summed : (i m n k j : ℕ) (own outer : Renaming) (b s : Term) → k ≡ n → j ≡ suc n → own ≡ with_index i (Named k) outer → s ≡ expand b own j
    → over k m s ≡ expand (over i m b) outer n
in_summed i m n k j own outer b s p q h g =
    ap (over k m) (g ∙ ap₂ (expand b) h q) ∙ ap (λ x. over x m (expand b (with_index i (Named x) outer) (suc n))) p
