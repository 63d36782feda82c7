-- What the value of a tree depends on: the cell with its marker, the functions, the offsets of variables, and the parameters in use
use Rattle.std.specs.Prelude.{◌≡◌, ℕ, suc, ◌+◌, ◌≤◌, ◌==◌, ◌&&◌, Bool, true, false, List, if◌then◌else◌, nat_eq}
use Rattle.std.specs.Cmp.Lexicographic.{pointwise}
use Rattle.calculus.specs.Simplex.{Simplex}
use Rattle.calculus.specs.Polynomial.{Polynomial, nil, plus, times, coordinate, derivative}
use Rattle.ufl_tree.specs.declared.function.Role.{Role}
use Rattle.ufl_tree.specs.declared.function.Role.TheVariants.{Test, Trial, Position, Coefficient}

pub record Environment : Type 0 where
  pub cell : Simplex
  -- that of the cell in the mesh
  pub marker : ℕ
  -- the components of the function of each role, the position's too, in the order of the flat list; a component that it doesn't have is 0
  pub value : Role → ℕ → Polynomial
  -- what is added to the value of the variable of each label, in each component
  pub offset : ℕ → List ℕ → Polynomial
  -- how many parameters are in use: those from 0 on
  pub used : ℕ

-- the variable of a polynomial that parameter k is
abbrev pub parameter_number : ℕ → ℕ
parameter_number k = 3 + k

abbrev pub parameter : ℕ → Polynomial
parameter k = coordinate (parameter_number k)

-- of the parameters at most the first ones occur in p, so many: its derivative by each other one is 0
abbrev pub HasParametersBelow : ℕ → Polynomial → Type 0
HasParametersBelow used p = (k : ℕ) → used ≤ k → derivative (parameter_number k) p ≡ nil

-- no polynomial has a parameter that isn't in use
pub record HasOnlyUsed (env : Environment) : Type 0 where
  pub values : (r : Role) (i : ℕ) → HasParametersBelow env.used (env.value r i)
  pub offsets : (l : ℕ) (b : List ℕ) → HasParametersBelow env.used (env.offset l b)

abbrev pub same_role : Role → Role → Bool
same_role Test Test = true
same_role Trial Trial = true
same_role Position Position = true
same_role (Coefficient m) (Coefficient n) = m == n
same_role _ _ = false

abbrev pub same_list : List ℕ → List ℕ → Bool
same_list = pointwise nat_eq

-- ---- other environments, with t for the next parameter
-- component c of the variable l moved by t
abbrev pub raised : ℕ → List ℕ → Environment → Environment
raised l c env = record env {
  offset = λ m b. if (m == l) && same_list b c then plus (env.offset m b) (parameter env.used) else env.offset m b;
  used = suc env.used;
}

-- the function w moved by t times the function d
abbrev pub turned : Role → Role → Environment → Environment
turned w d env = record env {
  value = λ r i. if same_role r w then plus (env.value r i) (times (parameter env.used) (env.value d i)) else env.value r i;
  used = suc env.used;
}

-- the function w multiplied by t
abbrev pub scaled : Role → Environment → Environment
scaled w env = record env {
  value = λ r i. if same_role r w then times (parameter env.used) (env.value r i) else env.value r i;
  used = suc env.used;
}

-- the function f in place of w
abbrev pub with_function : Role → Role → Environment → Environment
with_function w f env = record env { value = λ r i. if same_role r w then env.value f i else env.value r i }

abbrev pub other_argument : Role → Role
other_argument Test = Trial
other_argument Trial = Test
other_argument Position = Position
other_argument (Coefficient n) = Coefficient n

-- test and trial function exchanged
abbrev pub exchanged : Environment → Environment
exchanged env = record env { value = λ r i. env.value (other_argument r) i }
