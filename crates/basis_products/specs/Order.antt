-- In which order products are formed: a row of a factor with each block of the products behind it
use Rattle.std.specs.Prelude.{◌≡◌, ℕ, ◌+◌, ◌*◌, ◌^◌, ◌≤◌, ◌==◌, ◌⊎◌, if◌then◌else◌, List, map, take, drop}
use Rattle.std.specs.List.{flat_map}
use Rattle.refint.specs.Local.{numbers_below}
use Rattle.basis_products.specs.declared.factor.Source.{Source}
use Rattle.basis_products.specs.declared.factor.Source.TheVariants as source
use Rattle.basis_products.specs.declared.products.Pair.{Pair}
use Rattle.basis_products.specs.declared.products.Sizes.{Sizes}

abbrev pub own_node : ℕ → ℕ → ℕ
own_node count node = if count == 1 then 0 else node

abbrev pub start_at : Sizes → ℕ → ℕ → ℕ
start_at s t u = (own_node s.tests t * s.trials + own_node s.trials u) * s.nodes

abbrev pub first_row : Source → ℕ → ℕ → ℕ
first_row source.Test t u = t
first_row source.Trial t u = u
first_row source.Summed t u = 0

abbrev pub row_count : Source → ℕ → ℕ
row_count source.Test n = 1
row_count source.Trial n = 1
row_count source.Summed n = n

abbrev pub pairs_at : Sizes → Source → ℕ → ℕ → ℕ → List Pair
pairs_at s src n t u =
    flat_map (λ i. map (λ k. record { row = first_row src t u + i; block = start_at s t u + k }) (numbers_below s.nodes))
    (numbers_below (row_count src n))

abbrev pub with_factor : Sizes → Source → ℕ → ℕ → Sizes
with_factor s source.Test n k = record s { tests = n; directions = k * s.directions }
with_factor s source.Trial n k = record s { trials = n; directions = k * s.directions }
with_factor s source.Summed n k = record s { nodes = n * s.nodes; directions = k * s.directions }

abbrev pub pairs_of : Sizes → Source → ℕ → ℕ → List Pair
pairs_of s src n k =
    flat_map (λ t. flat_map (λ u. pairs_at s src n t u) (numbers_below (with_factor s src n k).trials))
    (numbers_below (with_factor s src n k).tests)

-- piece number i of pieces of equal length
abbrev pub piece : {A : Type 0} → ℕ → ℕ → List A → List A
piece n i xs = take n (drop (i * n) xs)

-- something of each function of each row with each polynomial of its block
abbrev pub joined : {A B C : Type 0} → (A → B → C) → ℕ → List A → ℕ → List B → List Pair → List C
joined f n rows k blocks pairs =
    flat_map (λ p. flat_map (λ x. map (f x) (piece k p.block blocks)) (piece n p.row rows)) pairs

-- a factor may stand in front of products: an argument that occurs in both has the same nodes there, and all is small
pub record Fit (s : Sizes) (src : Source) (n k : ℕ) : Type 0 where
  pub tests : src ≡ source.Test → (s.tests ≡ 1) ⊎ (s.tests ≡ n)
  pub trials : src ≡ source.Trial → (s.trials ≡ 1) ⊎ (s.trials ≡ n)
  pub few : n ≤ 20
  pub test_nodes : s.tests ≤ 20
  pub trial_nodes : s.trials ≤ 20
  pub nodes : s.nodes ≤ 2 ^ 20
  pub directions : k * s.directions ≤ 2 ^ 20
