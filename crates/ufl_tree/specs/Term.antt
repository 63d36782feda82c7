-- Plain trees as data that recursion goes over
use Rattle.std.specs.Prelude.{ℕ, List}
use Rattle.ratio.specs.declared.reduced.Ratio.{Ratio}
use Rattle.ufl_tree.specs.declared.function.Function.{Function}
use Rattle.ufl_tree.specs.declared.function.Ix.{Ix}

mutual
  pub data Term : Type 0 where
    num : Ratio → Term
    fun : Function → List Ix → Term
    mark : ℕ → List Ix → Term → Term
    neg : Term → Term
    sum : Term → Term → Term
    prod : Term → Term → Term
    over : ℕ → ℕ → Term → Term
    dx : Ix → Term → Term
    delta : Ix → Ix → Term
    pick : Ix → Terms → Term
    raise : ℕ → List Ix → Term → Term
    turn : Function → Function → Term → Term

  pub data Terms : Type 0 where
    no_terms : Terms
    term : Term → Terms → Terms
