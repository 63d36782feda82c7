-- The integrands of a form behind others, as the code lists them
use Rattle.std.proofs.Common.{◌≡◌, ℕ, List, [], ◌∷◌, ◌++◌, map, length, refl, sym, ◌∙◌, ap, ap₂, append_assoc, arith}
use Rattle.std.proofs.lemmas.List.{map-append}
use Rattle.ufl_tree.specs.declared.function.Ix.TheVariants.{Named}
use Rattle.ufl_tree.specs.declared.function.On.{On}
use Rattle.ufl_tree.specs.FormTerm.{FormTerm, integral, sum}
use Rattle.ufl_tree.specs.Places.{Table}
use Rattle.ufl_tree.specs.Reading.{term_of}
use Rattle.ufl_tree.specs.Term.{Term}
use Rattle.ufl_tree.specs.Typed.{Typed}
use Rattle.ufl_form.specs.declared.form_tree.FormTree.{FormTree}
use Rattle.ufl_form.specs.Reading.{form_of}
use Rattle.lower.specs.Lowering.{lower}
use Rattle.lower.specs.Shares.{share_of}
use Rattle.passes.specs.Component.{first_name}
use Rattle.derivatives.specs.Expanded.{expanded}
use Rattle.integrands.specs.declared.integrand.Integrand.{Integrand}
use Rattle.integrands.specs.declared.operator.Operator.{Operator}
use Rattle.integrands.specs.Integrands.{IntegrandTerm, integrand_of, integrands_of, with_body}
use Rattle.integrands.specs.Flattening.{under, flattened}

-- ---- lists in code
pub no_items : {A : Type 0} (xs : List A) (n : ℕ) → length xs ≡ n → n ≡ 0 → [] ≡ xs
no_items [] n e z = refl
no_items (x ∷ xs) n e z = absurd (omega (arith, e, z))

-- one more behind
one_more : (all next : List Integrand) (r : Integrand) → next ≡ all ++ r ∷ [] → integrands_of next ≡ integrands_of all ++ integrand_of r ∷ []
one_more all next r e = ap integrands_of e ∙ map-append integrand_of all (r ∷ [])

pub integral_behind : (elements : Table) (on : On) (e : Typed) (component : Term) (found next : List Integrand) (r : Integrand)
    → next ≡ found ++ r ∷ [] → r.on ≡ on → term_of r.body ≡ expanded component → component ≡ lower share_of elements e Named [] (first_name e [])
    → integrands_of next ≡ integrands_of found ++ flattened elements (integral on e)
integral_behind elements on e component found next r h o b k =
    one_more found next r h
    ∙ ap₂ (λ (m : On) (t : Term). integrands_of found ++ record { on = m; body = t } ∷ []) o (b ∙ ap expanded k)

pub under_behind : (op : Operator) (found : List IntegrandTerm) (ys : List Integrand) (one r : Integrand) (all next : List Integrand)
    → next ≡ all ++ r ∷ [] → integrand_of r ≡ with_body (under op) (integrand_of one)
    → integrands_of all ≡ found ++ map (with_body (under op)) (integrands_of ys)
    → integrands_of next ≡ found ++ map (with_body (under op)) (integrands_of (ys ++ one ∷ []))
under_behind op found ys one r all next e f h =
    one_more all next r e
    ∙ ap₂ (λ (xs : List IntegrandTerm) (y : IntegrandTerm). xs ++ y ∷ []) h f
    ∙ append_assoc found (map (with_body (under op)) (integrands_of ys)) (with_body (under op) (integrand_of one) ∷ [])
    ∙ ap (λ (xs : List IntegrandTerm). found ++ xs)
    (sym (ap (map (with_body (under op))) (map-append integrand_of ys (one ∷ [])) ∙ map-append (with_body (under op)) (integrands_of ys) (integrand_of one ∷ [])))

-- ---- forms
module _ (elements : Table) (form : FormTree) (found : List IntegrandTerm) where
  -- the form's behind those found
  abbrev pub behind : FormTerm → List IntegrandTerm
  behind f = found ++ flattened elements f

  pub of_form : (f : FormTerm) → form_of form ≡ f → behind f ≡ behind (form_of form)
  of_form f h = ap behind (sym h)

  pub sum_behind : (f g : FormTerm) (first next : List IntegrandTerm) → form_of form ≡ sum f g → first ≡ behind f → next ≡ first ++ flattened elements g → next ≡ behind (form_of form)
  sum_behind f g first next h k p =
      p ∙ ap (λ (xs : List IntegrandTerm). xs ++ flattened elements g) k ∙ append_assoc found (flattened elements f) (flattened elements g) ∙ of_form (sum f g) h

  -- of a form under an operator: f is lent as g
  pub changed_behind : (op : Operator) (node : FormTerm → FormTerm) (f g : FormTree) → ((x : FormTerm) → flattened elements (node x) ≡ map (with_body (under op)) (flattened elements x))
      → form_of form ≡ node (form_of f) → g ≡ f → found ++ map (with_body (under op)) (flattened elements (form_of g)) ≡ behind (form_of form)
  changed_behind op node f g k h e =
      ap (λ (x : FormTree). found ++ map (with_body (under op)) (flattened elements (form_of x))) e
      ∙ ap (λ (xs : List IntegrandTerm). found ++ xs) (sym (k (form_of f)))
      ∙ of_form (node (form_of f)) h
