-- What trees say of their values
use Rattle.std.proofs.Common.{◌≡◌}
use Rattle.ufl_tree.specs.declared.tree.Tree.{Tree}
use Rattle.ufl_tree.specs.Typed.{own_kind}
use Rattle.ufl_tree.specs.Reading.{typed_of, kind_of}
use Rattle.ufl_tree.proofs.KindLaws.{own_kind-typed_of}

pub kind_of_tree : (t : Tree) → own_kind (typed_of t) ≡ kind_of t
kind_of_tree = own_kind-typed_of
