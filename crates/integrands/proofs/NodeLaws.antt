-- What the code makes at each node of a tree is what a function of trees says there
use Rattle.std.proofs.Common.{◌≡◌, List, map, sym, ◌∙◌, ap, ap₂}
use Rattle.ufl_tree.specs.declared.function.Ix.{Ix}
use Rattle.ufl_tree.specs.declared.plain.Plain.{Plain}
use Rattle.ufl_tree.specs.Reading.{term_of, terms_of}
use Rattle.ufl_tree.specs.Term.{Term, pick}

module _ (h : Term → Term) (e : Plain) where
  abbrev pub value_of : Plain → Term
  value_of a = h (term_of a)

  -- e is read as t
  pub leaf : (t s : Term) → term_of e ≡ t → s ≡ h t → s ≡ value_of e
  leaf t s p q = q ∙ sym (ap h p)

  -- e is read as a node over b, which is lent as a
  pub over_one : (node build : Term → Term) (b a : Plain) (s : Term) → ((x : Term) → h (node x) ≡ build (h x))
      → term_of e ≡ node (term_of b) → a ≡ b → s ≡ value_of a → build s ≡ value_of e
  over_one node build b a s k p g q = ap build (q ∙ ap value_of g) ∙ sym (ap h p ∙ k (term_of b))

  pub over_two : (node build : Term → Term → Term) (b c a f : Plain) (s t : Term) → ((x y : Term) → h (node x y) ≡ build (h x) (h y))
      → term_of e ≡ node (term_of b) (term_of c) → a ≡ b → f ≡ c → s ≡ value_of a → t ≡ value_of f → build s t ≡ value_of e
  over_two node build b c a f s t k p g i q r = ap₂ build (q ∙ ap value_of g) (r ∙ ap value_of i) ∙ sym (ap h p ∙ k (term_of b) (term_of c))

  -- over items
  pub over_all : (i : Ix) (ps qs all : List Plain) → h (pick i (terms_of (map term_of ps))) ≡ pick i (terms_of (map value_of ps))
      → term_of e ≡ pick i (terms_of (map term_of ps)) → qs ≡ ps → map term_of all ≡ map value_of qs → pick i (terms_of (map term_of all)) ≡ value_of e
  over_all i ps qs all k p g q = ap (λ xs. pick i (terms_of xs)) (q ∙ ap (map value_of) g) ∙ sym (ap h p ∙ k)
