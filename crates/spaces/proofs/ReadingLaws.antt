-- The equations of `space_of`, one for each variant
use Rattle.std.proofs.Common.{◌≡◌, ℕ, List, [], ◌∷◌, map, refl, sym, ap, ◌∙◌}
use Rattle.spaces.specs.declared.cell.Cell.{Cell}
use Rattle.spaces.specs.declared.family.Family.{Family}
use Rattle.spaces.specs.Space.{Space, scalar, vector, tensor, mixed, space}
use Rattle.spaces.specs.Reading.{space_of, spaces_of, spaces_in, layer}
use Rattle.spaces.specs.declared.element_tree.ElementTree.{ElementTree}
use Rattle.spaces.specs.declared.element_tree.ElementTree.TheOpen.{ElementTree-F}
use Rattle.spaces.specs.declared.element_tree.ElementTree.TheFolds.{fold-ElementTree, fold-roll-ElementTree}
use Rattle.spaces.specs.declared.element_tree.ElementTree.TheVariants as v

pub space_of-Scalar : (f : Family) (c : Cell) (q : ℕ) → space_of (v.Scalar f c q) ≡ scalar f c q
unfolding space_of
space_of-Scalar f c q = ap (fold-ElementTree Space layer) (sym (v.rolls-Scalar f c q)) ∙ fold-roll-ElementTree Space layer (ElementTree-F.Scalar f c q)

pub space_of-Vector : (t : ElementTree) (n : ℕ) → space_of (v.Vector t n) ≡ vector (space_of t) n
unfolding space_of
space_of-Vector t n = ap (fold-ElementTree Space layer) (sym (v.rolls-Vector t n)) ∙ fold-roll-ElementTree Space layer (ElementTree-F.Vector t n)

pub space_of-Tensor : (t : ElementTree) (m n : ℕ) → space_of (v.Tensor t m n) ≡ tensor (space_of t) m n
unfolding space_of
space_of-Tensor t m n = ap (fold-ElementTree Space layer) (sym (v.rolls-Tensor t m n)) ∙ fold-roll-ElementTree Space layer (ElementTree-F.Tensor t m n)

spaces_of-map : (ts : List ElementTree) → spaces_of (map space_of ts) ≡ spaces_in ts
spaces_of-map [] = refl
spaces_of-map (t ∷ ts) = ap (space (space_of t)) (spaces_of-map ts)

pub space_of-Mixed : (ts : List ElementTree) → space_of (v.Mixed ts) ≡ mixed (spaces_in ts)
unfolding space_of
space_of-Mixed ts =
    ap (fold-ElementTree Space layer) (sym (v.rolls-Mixed ts))
    ∙ fold-roll-ElementTree Space layer (ElementTree-F.Mixed ts)
    ∙ ap mixed (spaces_of-map ts)

pub ruleset readings = (space_of-Scalar, space_of-Vector, space_of-Tensor, space_of-Mixed)
