-- Trees without derivatives by variables and by functions, and what they keep of the trees that they come from
use Rattle.std.specs.Prelude.{◌≡◌}
use Rattle.ufl_tree.specs.declared.function.Ix.TheVariants.{Named}
use Rattle.ufl_tree.specs.Indices.{Names}
use Rattle.ufl_tree.specs.Places.{Table}
use Rattle.ufl_tree.specs.Term.{Term}
use Rattle.ufl_meaning.specs.Prelude.{Environment, HasOnlyUsed, meaning}
use Rattle.monos.specs.declared.weight.Weight.{Weight}
use Rattle.weigh.specs.Prelude.{Bounds, term_weight}
use Rattle.perturb.specs.Expanding.{expand, IsReady}
use Rattle.derivatives.specs.Naming.{term_above}

-- free names stay; sums take names above all names of the tree
unfoldable pub expanded : Term → Term
expanded e = expand e Named (term_above e)

-- without derivatives by variables and by functions
abbrev pub IsExpanded : Term → Type 0
IsExpanded = IsReady 0

-- p means what e means, for all elements, functions and values of names
abbrev pub Means : Term → Term → Type 0
Means e p =
    (elements : Table) (env : Environment) → HasOnlyUsed env → (v : Names)
    → meaning elements p env v ≡ meaning elements e env v

-- whatever bounds the weight of e bounds that of p
abbrev pub KeepsBounds : Term → Term → Type 0
KeepsBounds e p =
    (elements : Table) (w : Weight) → Bounds w (term_weight elements e) → Bounds w (term_weight elements p)

-- what p keeps of e
pub record IsExpansion (e p : Term) : Type 0 where
  pub tree : p ≡ expanded e
  pub expanded : IsExpanded p
  pub meaning : Means e p
  pub weight : KeepsBounds e p
