-- Values, meanings and densities have no parameter but those in use
use Rattle.std.proofs.Common.{◌≡◌, ℕ, zero, suc, ◌≤◌, ◌<◌, List, [], ◌∷◌, ⊎_elim, ◌∙◌, subst, arith}
use Rattle.std.proofs.lemmas.Bool.{cases_lt}
use Rattle.ratio.specs.Value.{fraction_of}
use Rattle.calculus.specs.Powers.{delta, delta_sym}
use Rattle.calculus.specs.Polynomial.{Polynomial, coefficient_of}
use Rattle.calculus.proofs.PolynomialLaws.{IsFree}
use Rattle.ufl_tree.specs.Typed.{Typed, number, identity, function, piece, one, two, power, index, partial, tensor, list, variable, diff, TypedList, no_items, item, shape_of}
use Rattle.ufl_tree.specs.Term.{Term, num, fun, mark, neg, sum, prod, over, dx, delta as unit, pick, raise, turn, Terms, no_terms, term}
use Rattle.ufl_tree.specs.FormTerm.{FormTerm, integral, sum as form_sum, scale, left, right, action, adjoint, derivative}
use Rattle.ufl_tree.specs.Indices.{Names, with_name, with_names, index_value, index_values, front, back}
use Rattle.ufl_tree.specs.Places.{Table, function_place, piece_place}
use Rattle.ufl_tree.specs.declared.function.Role.TheVariants.{Trial}
use Rattle.ufl_meaning.specs.Environment.{Environment, HasOnlyUsed, HasParametersBelow, parameter_number, raised, turned, scaled, with_function, exchanged}
use Rattle.ufl_meaning.specs.Value.{value, item_value, chosen_value}
use Rattle.ufl_meaning.specs.Meaning.{meaning, item_meaning}
use Rattle.ufl_meaning.specs.Density.{density, no_names, covers}
use Rattle.ufl_meaning.proofs.FreeLaws as F
use Rattle.ufl_meaning.proofs.EnvironmentLaws.{raised_only_used, turned_only_used, scaled_only_used, with_function_only_used, exchanged_only_used, apart}

-- ---- the coefficient of the first parameter that isn't in use
other_parameter : (u k : ℕ) → u < k → delta (parameter_number k) (parameter_number u) ≡ 0
other_parameter u k h = delta_sym (parameter_number k) (parameter_number u) ∙ apart (parameter_number u) (parameter_number k) (omega arith)

module _ (n : ℕ) (own : (t : ℕ) (p : Polynomial) → IsFree t (coefficient_of t n p))
    (other : (t i : ℕ) → delta i t ≡ 0 → (p : Polynomial) → IsFree i p → IsFree i (coefficient_of t n p)) where
  taken : (u : ℕ) (p : Polynomial) → HasParametersBelow (suc u) p → HasParametersBelow u (coefficient_of (parameter_number u) n p)
  taken u p h k le =
      ⊎_elim
      (λ (above : u < k). other (parameter_number u) (parameter_number k) (other_parameter u k above) p (h k above))
      (λ (below : k ≤ u).
      let same : u ≡ k = omega arith in
      subst (λ m. IsFree (parameter_number m) (coefficient_of (parameter_number u) n p)) same (own (parameter_number u) p))
      (cases_lt u k)

taken_zero : (u : ℕ) (p : Polynomial) → HasParametersBelow (suc u) p → HasParametersBelow u (coefficient_of (parameter_number u) 0 p)
taken_zero = taken 0 F.free_zero_own F.free_zero_other

taken_one : (u : ℕ) (p : Polynomial) → HasParametersBelow (suc u) p → HasParametersBelow u (coefficient_of (parameter_number u) 1 p)
taken_one = taken 1 F.free_one_own F.free_one_other

module _ (elements : Table) where
  -- ---- typed trees
  chosen_fresh : (t : ℕ) (f : ℕ → List ℕ → Polynomial) → ((i : ℕ) (b : List ℕ) → IsFree t (f i b)) → (b : List ℕ) → IsFree t (chosen_value f b)
  chosen_fresh t f h [] = F.free_nil t
  chosen_fresh t f h (i ∷ b) = h i b

  mutual
    pub value_fresh : (e : Typed) (env : Environment) → HasOnlyUsed env → (b : List ℕ) (v : Names) → HasParametersBelow env.used (value elements e env b v)
    value_fresh (number k c) env only b v m le = F.free_constant (parameter_number m) (fraction_of c)
    value_fresh (identity k n) env only b v m le = F.free_identity (parameter_number m) b
    value_fresh (function k f) env only b v m le = F.free_place (parameter_number m) (function_place elements f b) (env.value f.role) (λ i. only.values f.role i m le)
    value_fresh (piece k f n) env only b v m le = F.free_place (parameter_number m) (piece_place elements f n b) (env.value f.role) (λ i. only.values f.role i m le)
    value_fresh (one k op a) env only b v m le = F.free_one_value (parameter_number m) op (shape_of a) _ (λ c. value_fresh a env only c v m le) b
    value_fresh (two k op a d) env only b v m le =
        F.free_names (parameter_number m) _ _
        (λ w. F.free_two_value (parameter_number m) op (shape_of a) (shape_of d) _ _ (λ c. value_fresh a env only c w m le) (λ c. value_fresh d env only c w m le) b) v
    value_fresh (power k a n) env only b v m le = F.free_power (parameter_number m) _ n (value_fresh a env only [] v m le)
    value_fresh (index k a at) env only b v m le = F.free_names (parameter_number m) _ _ (λ w. value_fresh a env only _ w m le) v
    value_fresh (partial k a i) env only b v m le =
        F.free_names (parameter_number m) _ _ (λ w. F.free_along (parameter_number m) (index_value w i) _ (value_fresh a env only b w m le)) v
    value_fresh (tensor k a by) env only b v m le = value_fresh a env only [] (with_names by b v) m le
    value_fresh (list k ts) env only b v m le = chosen_fresh (parameter_number m) _ (λ i c. item_fresh ts env only c v i m le) b
    value_fresh (variable k l a) env only b v m le = F.free_plus (parameter_number m) _ _ (value_fresh a env only b v m le) (only.offsets l b m le)
    value_fresh (diff k l by a) env only b v m le =
        taken_one env.used _
        (value_fresh a (raised l (back (shape_of a) b) env) (raised_only_used l (back (shape_of a) b) env only) (front (shape_of a) b) v) m le

    item_fresh : (ts : TypedList) (env : Environment) → HasOnlyUsed env → (b : List ℕ) (v : Names) (i : ℕ) → HasParametersBelow env.used (item_value elements ts env b v i)
    item_fresh no_items env only b v i m le = F.free_nil (parameter_number m)
    item_fresh (item t ts) env only b v zero m le = value_fresh t env only b v m le
    item_fresh (item t ts) env only b v (suc i) m le = item_fresh ts env only b v i m le

  -- ---- plain trees
  mutual
    pub meaning_fresh : (e : Term) (env : Environment) → HasOnlyUsed env → (v : Names) → HasParametersBelow env.used (meaning elements e env v)
    meaning_fresh (num c) env only v m le = F.free_constant (parameter_number m) (fraction_of c)
    meaning_fresh (fun f at) env only v m le = F.free_place (parameter_number m) (function_place elements f (index_values v at)) (env.value f.role) (λ i. only.values f.role i m le)
    meaning_fresh (mark l at b) env only v m le = F.free_plus (parameter_number m) _ _ (meaning_fresh b env only v m le) (only.offsets l (index_values v at) m le)
    meaning_fresh (neg a) env only v m le = F.free_negative (parameter_number m) _ (meaning_fresh a env only v m le)
    meaning_fresh (sum a b) env only v m le = F.free_plus (parameter_number m) _ _ (meaning_fresh a env only v m le) (meaning_fresh b env only v m le)
    meaning_fresh (prod a b) env only v m le = F.free_times (parameter_number m) _ _ (meaning_fresh a env only v m le) (meaning_fresh b env only v m le)
    meaning_fresh (over i n b) env only v m le = F.free_below (parameter_number m) n _ (λ k. meaning_fresh b env only (with_name i k v) m le)
    meaning_fresh (dx i b) env only v m le = F.free_along (parameter_number m) (index_value v i) _ (meaning_fresh b env only v m le)
    meaning_fresh (unit i j) env only v m le = F.free_unit (parameter_number m) (index_value v i) (index_value v j)
    meaning_fresh (pick i ts) env only v m le = item_meaning_fresh ts env only v (index_value v i) m le
    meaning_fresh (raise l at b) env only v m le =
        taken_one env.used _ (meaning_fresh b (raised l (index_values v at) env) (raised_only_used l (index_values v at) env only) v) m le
    meaning_fresh (turn w d b) env only v m le = taken_one env.used _ (meaning_fresh b (turned w.role d.role env) (turned_only_used w.role d.role env only) v) m le

    item_meaning_fresh : (ts : Terms) (env : Environment) → HasOnlyUsed env → (v : Names) (i : ℕ) → HasParametersBelow env.used (item_meaning elements ts env v i)
    item_meaning_fresh no_terms env only v i m le = F.free_nil (parameter_number m)
    item_meaning_fresh (term t ts) env only v zero m le = meaning_fresh t env only v m le
    item_meaning_fresh (term t ts) env only v (suc i) m le = item_meaning_fresh ts env only v i m le

  -- ---- forms
  pub density_fresh : (f : FormTerm) (env : Environment) → HasOnlyUsed env → HasParametersBelow env.used (density elements f env)
  density_fresh (integral on e) env only m le =
      F.free_either (parameter_number m) (covers on env.marker) _ _ (value_fresh e env only [] no_names m le) (F.free_nil (parameter_number m))
  density_fresh (form_sum f g) env only m le = F.free_plus (parameter_number m) _ _ (density_fresh f env only m le) (density_fresh g env only m le)
  density_fresh (scale c f) env only m le = F.free_times (parameter_number m) _ _ (F.free_constant (parameter_number m) (fraction_of c)) (density_fresh f env only m le)
  density_fresh (left f) env only m le = taken_one env.used _ (density_fresh f (scaled Trial env) (scaled_only_used Trial env only)) m le
  density_fresh (right f) env only m le =
      F.free_negative (parameter_number m) _ (taken_zero env.used _ (density_fresh f (scaled Trial env) (scaled_only_used Trial env only)) m le)
  density_fresh (action f last g) env only m le = density_fresh f (with_function last g.role env) (with_function_only_used last g.role env only) m le
  density_fresh (adjoint f) env only m le = density_fresh f (exchanged env) (exchanged_only_used env only) m le
  density_fresh (derivative f w du) env only m le =
      taken_one env.used _ (density_fresh f (turned w.role du.role env) (turned_only_used w.role du.role env only)) m le
