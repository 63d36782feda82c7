-- Calls that give elements
use Rattle.std.specs.Prelude.{ℕ, ◌*◌, ◌==◌, if◌then◌else◌, List, [], ◌∷◌, ◌++◌, length, Option, None, Some, Result, Ok, Err}
use Rattle.ratio.specs.declared.reduced.Ratio.{Ratio}
use Rattle.spaces.specs.declared.cell.Cell.{Cell}
use Rattle.spaces.specs.declared.family.Family.{Family}
use Rattle.spaces.specs.declared.element_tree.ElementTree.{ElementTree}
use Rattle.spaces.specs.declared.element_tree.ElementTree.TheVariants as e
use Rattle.spaces.specs.declared.refusal.SpaceRefusal.{SpaceRefusal}
use Rattle.spaces.specs.Cell.{dimension}
use Rattle.spaces.specs.Family.{has_degree}
use Rattle.spaces.specs.Reading.{space_of}
use Rattle.spaces.specs.Space.{Space, scalar}
use Rattle.spaces.specs.Refusal.{block_refusal}
use Rattle.ufl_values.specs.declared.refusal.Reason.{Reason}
use Rattle.ufl_values.specs.declared.refusal.Reason.TheVariants as r
use Rattle.ufl_calls.specs.declared.element_calls.Scalar.{Scalar}
use Rattle.ufl_values.specs.declared.value.Value.{Value}
use Rattle.ufl_values.specs.declared.value.Value.TheVariants as v
use Rattle.ufl_values.specs.Answer.{and_then, reason_of_space}
use Rattle.ufl_values.specs.Numbers.{or_refusal, whole_number, part_count}
use Rattle.ufl_values.specs.Values.{tuple_of}
use Rattle.ufl_calls.specs.Arguments.{one_place, three_places, only_list}
use Rattle.ufl_values.specs.Operators.{mixed_of}

-- the cell that a value is or that its string names
abbrev pub cell_of : Value → Result Cell Reason
cell_of (v.Cell c) = Ok c
cell_of (v.Text family cell) = or_refusal r.Kind cell
cell_of _ = Err r.Kind

abbrev pub scalar_at : Option Family → Cell → Option ℕ → Option ElementTree
scalar_at (Some f) c (Some q) = if has_degree f q then Some (e.Scalar f c q) else None
scalar_at _ c _ = None

-- the family that a string names, if it names one
abbrev pub family_in : Value → Result (Option Family) Reason
family_in (v.Text family cell) = Ok family
family_in _ = Err r.Kind

abbrev pub number_in : Value → Result Ratio Reason
number_in (v.Number c) = Ok c
number_in _ = Err r.Kind

-- a family, a cell and a degree
abbrev pub scalar_of_three : Value × Value × Value → Result Scalar Reason
scalar_of_three p =
    and_then (family_in p.0) (λ family. and_then (cell_of p.1) (λ c. and_then (number_in p.2) (λ q.
    Ok (record { cell = c; element = scalar_at family c (whole_number q) }))))

abbrev pub scalar_of : List Value → Result Scalar Reason
scalar_of places = and_then (three_places places) scalar_of_three

-- the cell of a scalar element
abbrev pub scalar_cell : Space → Option Cell
scalar_cell (scalar f c q) = Some c
scalar_cell _ = None

abbrev pub scalar_on : ElementTree → Option Cell → Result Scalar Reason
scalar_on t None = Err r.Kind
scalar_on t (Some c) = Ok (record { cell = c; element = Some t })

abbrev pub scalar_given : Value → Result Scalar Reason
scalar_given (v.Element t) = scalar_on t (scalar_cell (space_of t))
scalar_given _ = Err r.Kind

-- the scalar element that is given, or that of a family, a cell and a degree
abbrev pub part_of : List Value → Result Scalar Reason
part_of places = if length places == 1 then and_then (one_place places) scalar_given else scalar_of places

abbrev pub or_unsupported : Option ElementTree → Result ElementTree Reason
or_unsupported o = or_refusal r.Unsupported o

abbrev pub finite_element : List Value → Result Value Reason
finite_element places = and_then (scalar_of places) (λ s. and_then (or_unsupported s.element) (λ t. Ok (v.Element t)))

abbrev pub block_of : Option SpaceRefusal → ElementTree → Result Value Reason
block_of None t = Ok (v.Element t)
block_of (Some e) t = Err (reason_of_space e)

abbrev pub size_or : ℕ → Option Value → Result ℕ Reason
size_or n None = Ok n
size_or n (Some a) = part_count a

-- with `dim=`
abbrev pub vector_element : List Value → Option Value → Result Value Reason
vector_element places dim =
    and_then (part_of places) (λ s. and_then (size_or (dimension s.cell) dim) (λ n.
    and_then (or_unsupported s.element) (λ t.
    block_of (block_refusal (space_of t) n) (e.Vector t n))))

abbrev pub two_sizes : List Value → Result (ℕ × ℕ) Reason
two_sizes (a ∷ (b ∷ [])) = and_then (part_count a) (λ m. and_then (part_count b) (λ n. Ok (m, n)))
two_sizes _ = Err r.Kind

abbrev pub sizes_in : Option (List Value) → Result (ℕ × ℕ) Reason
sizes_in None = Err r.Kind
sizes_in (Some items) = two_sizes items

abbrev pub sizes_or : ℕ → Option Value → Result (ℕ × ℕ) Reason
sizes_or n None = Ok (n, n)
sizes_or n (Some a) = sizes_in (tuple_of a)

-- with `shape=`
abbrev pub tensor_element : List Value → Option Value → Result Value Reason
tensor_element places shape =
    and_then (part_of places) (λ s. and_then (sizes_or (dimension s.cell) shape) (λ n.
    and_then (or_unsupported s.element) (λ t.
    block_of (block_refusal (space_of t) (n.0 * n.1)) (e.Tensor t n.0 n.1))))

abbrev pub element_in : Value → Result ElementTree Reason
element_in (v.Element t) = Ok t
element_in _ = Err r.Kind

-- the elements of several values, from the left, behind those that are found
abbrev pub elements_from : List ElementTree → List Value → Result (List ElementTree) Reason
elements_from found [] = Ok found
elements_from found (a ∷ others) = and_then (element_in a) (λ t. elements_from (found ++ t ∷ []) others)

abbrev pub elements_in : List Value → Result (List ElementTree) Reason
elements_in values = elements_from [] values

abbrev pub mixed_in : List Value → Result Value Reason
mixed_in values = and_then (elements_in values) mixed_of

-- of elements, or of one list of them
abbrev pub mixed_from : Option (List Value) → List Value → Result Value Reason
mixed_from (Some items) values = mixed_in items
mixed_from None values = mixed_in values

abbrev pub mixed_element : List Value → Result Value Reason
mixed_element places = mixed_from (only_list places) places
