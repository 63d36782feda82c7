-- Items, one by one
use Rattle.std.proofs.Common.{◌≡◌, ℕ, List, [], ◌∷◌, map, ◌++◌, refl, ap}
use Rattle.ufl_tree.specs.declared.function.Ix.{Ix}
use Rattle.ufl_tree.specs.declared.plain.Plain.{Plain}
use Rattle.ufl_tree.specs.Reading.{term_of, terms_of}
use Rattle.ufl_tree.specs.Term.{term}
use Rattle.lower.specs.Renaming.{Renaming}
use Rattle.perturb.specs.Expanding.{expand, expand_all}

pub each_expanded : (ps : List Plain) (r : Renaming) (n : ℕ) → expand_all (terms_of (map term_of ps)) r n ≡ terms_of (map (λ e. expand (term_of e) r n) ps)
each_expanded [] r n = refl
each_expanded (p ∷ ps) r n = ap (term (expand (term_of p) r n)) (each_expanded ps r n)

-- nothing behind them
pub none_behind : (at : List Ix) → at ++ [] ≡ at
none_behind [] = refl
none_behind (i ∷ at) = ap (λ b. i ∷ b) (none_behind at)
