-- The sides of an equation that is linear in the trial function: of an expanded tree, the part with one factor of the
-- trial function, and minus the part with none
use Rattle.std.specs.Prelude.{if◌then◌else◌}
use Rattle.ufl_tree.specs.declared.function.Role.TheVariants.{Trial}
use Rattle.ufl_tree.specs.Term.{Term, num, fun, mark, neg, sum, prod, over, dx, delta, pick, raise, turn, Terms, no_terms, term}
use Rattle.ufl_meaning.specs.Environment.{same_role}
use Rattle.lower.specs.Renaming.{zero_term}
use Rattle.integrands.specs.declared.substitution.Substitution.TheVariants.{Without}
use Rattle.integrands.specs.Substitution.{substituted}

-- the part without the trial function
abbrev pub without_trial : Term → Term
without_trial = substituted (Without Trial)

abbrev mutual
  pub left_side : Term → Term
  left_side (num c) = zero_term
  left_side (fun f at) = if same_role f.role Trial then fun f at else zero_term
  left_side (mark l at e) = left_side e
  left_side (neg a) = neg (left_side a)
  left_side (sum a b) = sum (left_side a) (left_side b)
  left_side (prod a b) = sum (prod (left_side a) (without_trial b)) (prod (without_trial a) (left_side b))
  left_side (over i n b) = over i n (left_side b)
  left_side (dx i b) = dx i (left_side b)
  left_side (delta i j) = zero_term
  left_side (pick i ts) = pick i (left_sides ts)
  left_side (raise l at e) = zero_term
  left_side (turn f g e) = zero_term

  pub left_sides : Terms → Terms
  left_sides no_terms = no_terms
  left_sides (term t ts) = term (left_side t) (left_sides ts)

abbrev pub right_side : Term → Term
right_side e = neg (without_trial e)
