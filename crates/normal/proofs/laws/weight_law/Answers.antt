use Rattle.ufl_tree.specs.Indices.{Names}
use Rattle.ufl_tree.specs.Places.{Table}
use Rattle.ufl_tree.specs.Term.{Term}
use Rattle.std.proofs.Common.{ℕ, ◌≤◌}
use Rattle.monos.specs.declared.weight.Weight.{Weight}
use Rattle.weigh.specs.Bounds.{Bounds, IsSound}
use Rattle.weigh.specs.Terms.{term_weight}
use Rattle.weigh.proofs.TermLaws.{term_sound}
use Rattle.normal.specs.Monomials.{IsExpanded, monomials}
use Rattle.weigh.specs.Lists.{HasWeight}
use Rattle.normal.specs.Bounding.{cost_of, HasDirections}
use Rattle.weigh.proofs.NodeLaws.{bounded_list}
use Rattle.normal.proofs.BoundingLaws.{weighed, short}
use Rattle.normal.proofs.CollectedWeights.{collected_weighed}
use Rattle.normal.proofs.KeptLaws.{collected_short}
use Rattle.normal.proofs.NumberLaws.{bounded_numbers, collected_numbers}
use Rattle.normal.proofs.laws.weight_law.Goals as goal

bounded : (elements : Table) (d : ℕ) → 1 ≤ d → (w : Weight) → IsSound w → (e : Term) (v : Names) → HasDirections elements d e → IsExpanded e → Bounds w (term_weight elements e)
    → HasWeight (cost_of elements) d w (monomials elements e v)
bounded elements d p w s e v h x b = bounded_list (cost_of elements) d w (term_weight elements e) s (term_sound elements e) b (monomials elements e v) (weighed elements d p e v h x)

pub returns : goal.returns
returns c = record {
  bounded = bounded;
  collected = λ elements d p w s e v h x b ps o. collected_weighed (cost_of elements) d w.den s.den (monomials elements e v) ps _ _ o (bounded elements d p w s e v h x b);
  short = collected_short;
  atoms = short;
  numbers = bounded_numbers;
  collected_numbers = collected_numbers;
}
