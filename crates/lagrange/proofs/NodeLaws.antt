-- The basis functions of nodes, of whose weights the tables have four
use Rattle.std.proofs.Common.{◌≡◌, ℕ, zero, suc, ◌-◌, List, [], ◌∷◌, ◌++◌, length, refl, sym, ap, ap₂, ◌∙◌}
use Rattle.calculus.specs.Polynomial.{Polynomial, one, times, times-one}
use Rattle.calculus.specs.Simplex.{reference}
use Rattle.calculus.specs.LocalFunction.{degree_of, local_function, vertex_factor}
use Rattle.calculus.proofs.Barycentric.{basis_coordinate}
use Rattle.calculus.proofs.LocalFunctions.{factors_of, vertex_factor_zero, reference_function}
use Rattle.spaces.specs.declared.cell.Cell.{Cell}
use Rattle.spaces.specs.declared.cell.Cell.TheVariants.{Interval, Triangle, Tetrahedron}
use Rattle.spaces.specs.Cell.{dimension}
use Rattle.spaces.specs.Nodes.{padded, zeros}
use Rattle.spaces.proofs.NodeLaws.{Node}

-- ---- zeros behind the weights change nothing
factors-zeros : (q : ℕ) (b : ℕ → Polynomial) (j n : ℕ) → factors_of q b j (zeros n) ≡ one
factors-zeros q b j zero = refl
factors-zeros q b j (suc n) = ap₂ times (vertex_factor_zero q (b j)) (factors-zeros q b (suc j) n) ∙ times-one one

factors-behind : (q : ℕ) (b : ℕ → Polynomial) (j n : ℕ) (ws : List ℕ) → factors_of q b j (ws ++ zeros n) ≡ factors_of q b j ws
factors-behind q b j n [] = factors-zeros q b j n
factors-behind q b j n (w ∷ ws) = ap (times (vertex_factor q (b j) w)) (factors-behind q b (suc j) n ws)

pub on_reference : (c : Cell) (w : List ℕ) → factors_of (degree_of w) (basis_coordinate (dimension c)) 0 w ≡ local_function (reference (dimension c)) w
on_reference Interval w = sym (reference_function (reference 1) tt w)
on_reference Triangle w = sym (reference_function (reference 2) tt w)
on_reference Tetrahedron w = sym (reference_function (reference 3) tt w)

pub basis_is : (c : Cell) (q : ℕ) (w v : List ℕ) (p : Polynomial) → Node c q w → v ≡ padded w → p ≡ factors_of q (basis_coordinate (dimension c)) 0 v
    → p ≡ local_function (reference (dimension c)) w
basis_is c q w v p n e h =
    h ∙ ap (factors_of q (basis_coordinate (dimension c)) 0) e ∙ factors-behind q (basis_coordinate (dimension c)) 0 (4 - length w) w
    ∙ ap (λ k. factors_of k (basis_coordinate (dimension c)) 0 w) (sym n.sum) ∙ on_reference c w
