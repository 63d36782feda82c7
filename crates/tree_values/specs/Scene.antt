-- The environment and the names that a scene is
use Rattle.std.specs.Prelude.{ℕ, zero, suc, List, [], ◌∷◌, ◌++◌, if◌then◌else◌, Option, None, Some, slice_get}
use Rattle.calculus.specs.Polynomial.{Polynomial, nil, plus}
use Rattle.ufl_tree.specs.declared.function.Free.{Free}
use Rattle.ufl_tree.specs.declared.function.Role.{Role}
use Rattle.ufl_tree.specs.Indices.{Names, with_name}
use Rattle.ufl_meaning.specs.Environment.{Environment, raised, turned, scaled, with_function, exchanged, same_role}
use Rattle.tree_values.specs.PolyValue.{value_of}
use Rattle.tree_values.specs.declared.poly.Poly.{Poly}
use Rattle.tree_values.specs.declared.environment.Given.{Given}
use Rattle.tree_values.specs.declared.environment.Change.{Change}
use Rattle.tree_values.specs.declared.environment.Change.TheVariants.{Raised, Turned, Scaled, Replaced, Exchanged}
use Rattle.tree_values.specs.declared.scene.Bound.{Bound}

-- ---- names
abbrev pub names_after : Names → List Bound → Names
names_after v [] = v
names_after v (b ∷ bs) = names_after (with_name b.index b.value v) bs

abbrev pub names_of : List Bound → Names
names_of = names_after (λ i. 0)

-- g 0 and so on to g (n - 1), one after the other
abbrev pub gathered : {A : Type 0} → ℕ → (ℕ → List A) → List A
gathered zero g = []
gathered (suc n) g = gathered n g ++ g n

-- names with each choice of values of some indices
abbrev pub assigned : List Free → List Bound → List (List Bound)
assigned [] bs = bs ∷ []
assigned (x ∷ xs) bs = gathered x.dim (λ k. assigned xs (bs ++ record { index = x.index; value = k } ∷ []))

-- a sum over them
abbrev pub sum_over : List (List Bound) → (Names → Polynomial) → Polynomial
sum_over [] f = nil
sum_over (bs ∷ rest) f = plus (f (names_of bs)) (sum_over rest f)

-- ---- environments
abbrev pub poly_or_nil : Option Poly → Polynomial
poly_or_nil None = nil
poly_or_nil (Some p) = value_of p

-- a component of the first function of a role
abbrev pub component_of : List Given → Role → ℕ → Polynomial
component_of [] r i = nil
component_of (g ∷ gs) r i = if same_role r g.role then poly_or_nil (slice_get g.components i) else component_of gs r i

abbrev pub at_rest : List Given → Environment
at_rest gs = record { cell = []; marker = 0; value = component_of gs; offset = λ l b. nil; used = 0 }

abbrev pub changed : Change → Environment → Environment
changed (Raised l c) env = raised l c env
changed (Turned w d) env = turned w d env
changed (Scaled w) env = scaled w env
changed (Replaced w f) env = with_function w f env
changed Exchanged env = exchanged env

abbrev pub changed_all : Environment → List Change → Environment
changed_all env [] = env
changed_all env (c ∷ cs) = changed_all (changed c env) cs

-- the functions, after the changes in turn
abbrev pub environment_of : List Given → List Change → Environment
environment_of gs cs = changed_all (at_rest gs) cs

-- how many parameters a change takes
abbrev pub parameters_of : Change → ℕ
parameters_of (Raised l c) = 1
parameters_of (Turned w d) = 1
parameters_of (Scaled w) = 1
parameters_of (Replaced w f) = 0
parameters_of Exchanged = 0
