-- The elements of the test and the trial function: each has one, or there is no answer
use Rattle.std.specs.Prelude.{ℕ, ◌==◌, if◌then◌else◌, Option, None, Some}
use Rattle.ufl_tree.specs.declared.function.Function.{Function}
use Rattle.ufl_tree.specs.declared.function.Role.{Role}
use Rattle.ufl_tree.specs.declared.function.Role.TheVariants.{Test, Trial, Position, Coefficient}
use Rattle.ufl_tree.specs.Typed.{Typed, number, identity, function, piece, one, two, power, index, partial, tensor, list, variable, diff, TypedList, no_items, item}
use Rattle.ufl_form.specs.declared.arguments.Arguments.{Arguments}

abbrev pub no_arguments : Arguments
no_arguments = record { test = None; trial = None }

abbrev pub argument_in : Role → ℕ → Arguments
argument_in Test e = record { test = Some e; trial = None }
argument_in Trial e = record { test = None; trial = Some e }
argument_in Position e = no_arguments
argument_in (Coefficient n) e = no_arguments

-- a function alone
abbrev pub argument : Function → Arguments
argument f = argument_in f.role f.element

-- an argument that occurs on both sides has the same element there
abbrev pub joined_element : Option ℕ → Option ℕ → Option (Option ℕ)
joined_element None e = Some e
joined_element (Some a) None = Some (Some a)
joined_element (Some a) (Some b) = if a == b then Some (Some a) else None

abbrev pub arguments_from : Option (Option ℕ) → Option (Option ℕ) → Option Arguments
arguments_from (Some t) (Some u) = Some (record { test = t; trial = u })
arguments_from (Some t) None = None
arguments_from None u = None

abbrev pub joined : Arguments → Arguments → Option Arguments
joined a b = arguments_from (joined_element a.test b.test) (joined_element a.trial b.trial)

abbrev pub joined_both : Option Arguments → Option Arguments → Option Arguments
joined_both (Some a) (Some b) = joined a b
joined_both (Some a) None = None
joined_both None b = None

-- ---- of trees
abbrev mutual
  pub tree_arguments : Typed → Option Arguments
  tree_arguments (number k c) = Some no_arguments
  tree_arguments (identity k n) = Some no_arguments
  tree_arguments (function k f) = Some (argument f)
  tree_arguments (piece k f n) = Some (argument f)
  tree_arguments (one k op a) = tree_arguments a
  tree_arguments (two k op a b) = joined_both (tree_arguments a) (tree_arguments b)
  tree_arguments (power k a n) = tree_arguments a
  tree_arguments (index k a at) = tree_arguments a
  tree_arguments (partial k a i) = tree_arguments a
  tree_arguments (tensor k a by) = tree_arguments a
  tree_arguments (list k ts) = arguments_behind (Some no_arguments) ts
  tree_arguments (variable k l a) = tree_arguments a
  tree_arguments (diff k l by a) = tree_arguments a

  -- these and those of the items
  pub arguments_behind : Option Arguments → TypedList → Option Arguments
  arguments_behind all no_items = all
  arguments_behind all (item t ts) = arguments_behind (joined_both all (tree_arguments t)) ts
