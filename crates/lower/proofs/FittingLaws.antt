-- What fits the typing table is lowerable with `share_of`
use Rattle.std.proofs.Common.{◌≡◌, ℕ, List, arith}
use Rattle.ufl_tree.specs.declared.function.Ix.{Ix}
use Rattle.ufl_tree.specs.declared.function.Ix.TheVariants.{Named}
use Rattle.ufl_tree.specs.declared.tree.Op1.{Op1}
use Rattle.ufl_tree.specs.declared.tree.Op1.TheVariants.{Neg, Grad, NablaGrad, Div, NablaDiv, Curl, Transpose, Trace, Sym, Skew, Dev}
use Rattle.ufl_meaning.specs.Environment.{Environment}
use Rattle.ufl_tree.specs.Indices.{Names, index_values, first_size}
use Rattle.ufl_meaning.specs.Meaning.{meaning}
use Rattle.ufl_tree.specs.Places.{Table, IsLawfulTable}
use Rattle.ufl_tree.specs.Typed.{Kind, Typed, number, identity, function, piece, one, two, power, index, partial, tensor, list, variable, diff, TypedList, no_items, item, shape_of}
use Rattle.ufl_meaning.specs.Value.{value}
use Rattle.lower.specs.Lowering.{lower}
use Rattle.lower.specs.Fitting.{OneRank, IsFitting, AreFitting}
use Rattle.lower.specs.Keeping.{AreBelow, HasShares, IsLowerable, AreLowerable, NamesBelow, AllNamesBelow}
use Rattle.lower.specs.Shares.{share_of}
use Rattle.lower.proofs.ShareLaws.{share_is}
use Rattle.lower.proofs.TreeLaws.{named_kept}

rank_shares : (op : Op1) (s k : List ℕ) → OneRank op s k → HasShares share_of op s
rank_shares Neg s k h = tt
rank_shares Grad s k h = tt
rank_shares NablaGrad s k h = tt
rank_shares Div s k h = tt
rank_shares NablaDiv s k h = tt
rank_shares Curl s k h = h
rank_shares Transpose s k h = tt
rank_shares Trace s k h = tt
rank_shares Sym s k h = share_is 2 (omega arith) (omega arith)
rank_shares Skew s k h = share_is 2 (omega arith) (omega arith)
rank_shares Dev s k h = λ p. share_is (first_size s) p h.1

module _ (elements : Table) (m : ℕ) where
  mutual
    pub fitting_lowerable : (e : Typed) → NamesBelow m e → IsFitting elements e → IsLowerable share_of m e
    fitting_lowerable (number k c) H F = tt
    fitting_lowerable (identity k n) H F = tt
    fitting_lowerable (function k f) H F = tt
    fitting_lowerable (piece k f n) H F = tt
    fitting_lowerable (one k op a) H F = (rank_shares op (shape_of a) k.shape F.0, fitting_lowerable a H F.2)
    fitting_lowerable (two k op a d) H F = (fitting_lowerable a H.0 F.3, fitting_lowerable d H.1 F.4)
    fitting_lowerable (power k a n) H F = fitting_lowerable a H F.1
    fitting_lowerable (index k a at) H F = (fitting_lowerable a H.0 F.2, H.1)
    fitting_lowerable (partial k a i) H F = (fitting_lowerable a H.0 F.2, H.1)
    fitting_lowerable (tensor k a by) H F = fitting_lowerable a H F.1
    fitting_lowerable (list k ts) H F = fitting_all k ts H F
    fitting_lowerable (variable k l a) H F = fitting_lowerable a H F.2
    fitting_lowerable (diff k l by a) H F = fitting_lowerable a H F.1

    fitting_all : (k : Kind) (ts : TypedList) → AllNamesBelow m ts → AreFitting elements k ts → AreLowerable share_of m ts
    fitting_all k no_items H F = tt
    fitting_all k (item t ts) H F = (fitting_lowerable t H.0 F.2, fitting_all k ts H.1 F.3)

pub fitting_kept : (elements : Table) → IsLawfulTable elements → (n : ℕ) (e : Typed) → NamesBelow n e → IsFitting elements e
    → (env : Environment) (v : Names) (b : List Ix) → AreBelow n b → meaning elements (lower share_of elements e Named b n) env v ≡ value elements e env (index_values v b) v
fitting_kept elements lawful n e H F = named_kept share_of elements lawful n e (fitting_lowerable elements n e H F)
