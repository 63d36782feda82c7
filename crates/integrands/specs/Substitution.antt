-- Functions in place of others, in expanded trees
use Rattle.std.specs.Prelude.{List, if◌then◌else◌}
use Rattle.ufl_tree.specs.declared.function.Function.{Function}
use Rattle.ufl_tree.specs.declared.function.Ix.{Ix}
use Rattle.ufl_tree.specs.declared.function.Role.{Role}
use Rattle.ufl_tree.specs.Term.{Term, num, fun, mark, neg, sum, prod, over, dx, delta, pick, raise, turn, Terms, no_terms, term}
use Rattle.ufl_meaning.specs.Environment.{same_role, other_argument}
use Rattle.lower.specs.Renaming.{zero_term}
use Rattle.integrands.specs.declared.substitution.Substitution.{Substitution}
use Rattle.integrands.specs.declared.substitution.Substitution.TheVariants.{Without, Replaced, Exchanged}

-- a function keeps its element
abbrev pub in_role : Role → Function → List Ix → Term
in_role r f at = fun (record { role = r; element = f.element }) at

-- what stands for a component of a function
abbrev pub put : Substitution → Function → List Ix → Term
put (Without w) f at = if same_role f.role w then zero_term else fun f at
put (Replaced last by) f at = if same_role f.role last then in_role by f at else fun f at
put Exchanged f at = in_role (other_argument f.role) f at

abbrev mutual
  pub substituted : Substitution → Term → Term
  substituted s (num c) = num c
  substituted s (fun f at) = put s f at
  substituted s (mark l at e) = mark l at (substituted s e)
  substituted s (neg a) = neg (substituted s a)
  substituted s (sum a b) = sum (substituted s a) (substituted s b)
  substituted s (prod a b) = prod (substituted s a) (substituted s b)
  substituted s (over i n b) = over i n (substituted s b)
  substituted s (dx i b) = dx i (substituted s b)
  substituted s (delta i j) = delta i j
  substituted s (pick i ts) = pick i (all_substituted s ts)
  substituted s (raise l at e) = zero_term
  substituted s (turn f g e) = zero_term

  pub all_substituted : Substitution → Terms → Terms
  all_substituted s no_terms = no_terms
  all_substituted s (term t ts) = term (substituted s t) (all_substituted s ts)
