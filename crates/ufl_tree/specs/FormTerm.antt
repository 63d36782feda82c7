-- Forms as data that recursion goes over
use Rattle.ratio.specs.declared.reduced.Ratio.{Ratio}
use Rattle.ufl_tree.specs.declared.function.Function.{Function}
use Rattle.ufl_tree.specs.declared.function.On.{On}
use Rattle.ufl_tree.specs.declared.function.Role.{Role}
use Rattle.ufl_tree.specs.Typed.{Typed}

pub data FormTerm : Type 0 where
  integral : On → Typed → FormTerm
  sum : FormTerm → FormTerm → FormTerm
  scale : Ratio → FormTerm → FormTerm
  left : FormTerm → FormTerm
  right : FormTerm → FormTerm
  action : FormTerm → Role → Function → FormTerm
  adjoint : FormTerm → FormTerm
  derivative : FormTerm → Function → Function → FormTerm
