-- Products of lists of terms, one row after the other
use Rattle.std.proofs.Common.{◌≡◌, ◌+◌, ◌≤◌, max, Bool, true, false, is_none, if◌then◌else◌, Option, Some, None, option_and_then, List, [], ◌∷◌, refl, sym, ap, ◌∙◌, subst, arith, Result, Ok, Err, IsErr, IsErrAnd, true≢false}
use Rattle.algebra.specs.RingLaws as L
use Rattle.calculus.specs.Polynomial.{Polynomial, nil, plus, times, polynomials, plus_assoc, plus-nil}
use Rattle.polyalg.specs.Exponents.{total}
use Rattle.polyalg.specs.Terms.{term_value, value_of, IsTerm, AreTerms, IsPoly}
use Rattle.polyalg.specs.Range.{row_passes, sum_passes, RangeWhere}
use Rattle.polyalg.specs.Products.{row_steps, product_steps, degree_of}
use Rattle.polyalg.specs.Row.{IsRow}
use Rattle.polyalg.specs.declared.term.Term.{Term}
use Rattle.polyalg.specs.declared.fault.PolyFault.{PolyFault}
use Rattle.polyalg.specs.declared.fault.PolyFault.TheVariants.{Memory, Range}
use Rattle.polyalg.proofs.RowLaws.{row_value, row_degree, row_lawful, sums_are, agree_self, row_steps_are, row_steps_fail}

-- how far a product has come
pub record ProductSoFar (acc left all right : List Term) : Type 0 where
  pub value : plus (value_of acc) (times (value_of left) (value_of right)) ≡ times (value_of all) (value_of right)
  pub steps : product_steps (value_of acc) left right ≡ product_steps nil all right
  pub lawful : IsPoly acc
  pub degree : degree_of acc ≤ degree_of all + degree_of right
  pub small : degree_of left ≤ degree_of all
  pub remain : AreTerms left

pub product_begin : (acc all right : List Term) → acc ≡ [] → IsPoly all → ProductSoFar acc all all right
product_begin acc all right e p =
    subst (λ ts. ProductSoFar ts all all right) (sym e)
    (record {
      value = L.zero-add polynomials (times (value_of all) (value_of right));
      steps = refl;
      lawful = record { sorted = tt; terms = tt };
      degree = omega arith;
      small = omega arith;
      remain = p.terms;
    })

-- the terms of the next row
pub next_factor : (acc left all right rest : List Term) (s : Term) → left ≡ s ∷ rest → ProductSoFar acc left all right → IsTerm s
next_factor acc left all right rest s is m = let terms : AreTerms (s ∷ rest) = subst AreTerms is m.remain in terms.0

pub next_degree : (acc left all right rest : List Term) (s : Term) → left ≡ s ∷ rest → degree_of all + degree_of right ≤ 65535 → ProductSoFar acc left all right
    → total s.e + degree_of right ≤ 65535
next_degree acc left all right rest s is h m = omega (arith, m.small, ap degree_of is)

pub next_lawful : (acc left all right rest row : List Term) (s : Term) → left ≡ s ∷ rest → degree_of all + degree_of right ≤ 65535 → IsPoly right → IsRow s right row
    → ProductSoFar acc left all right → IsPoly row
next_lawful acc left all right rest row s is h p r m =
    row_lawful s right row (next_factor acc left all right rest s is m) p (next_degree acc left all right rest s is h m) r

-- the steps of the next row
row_result : (acc left all right rest row : List Term) (s : Term) → left ≡ s ∷ rest → degree_of all + degree_of right ≤ 65535 → IsPoly right → IsRow s right row
    → ProductSoFar acc left all right → row_steps (value_of acc) s right ≡ (if sum_passes acc row then None else Some (plus (value_of acc) (value_of row)))
row_result acc left all right rest row s is h p r m =
    let l = next_lawful acc left all right rest row s is h p r m in
    row_steps_are s (value_of acc) (value_of acc) right row r l.sorted (agree_self (value_of acc) row)
    ∙ ap (λ b. if b then None else Some (plus (value_of acc) (value_of row))) (sums_are acc row m.lawful.terms m.lawful.sorted l.terms)

opened : (acc left right rest : List Term) (s : Term) (q : Option Polynomial) → left ≡ s ∷ rest → row_steps (value_of acc) s right ≡ q
    → product_steps (value_of acc) left right ≡ option_and_then (λ p. product_steps p rest right) q
opened acc left right rest s q is e =
    ap (λ ts. product_steps (value_of acc) ts right) is ∙ ap (option_and_then (λ p. product_steps p rest right)) e

pub product_step : (acc left all right next rest row : List Term) (s : Term) → left ≡ s ∷ rest → degree_of all + degree_of right ≤ 65535 → IsPoly right → IsRow s right row
    → value_of next ≡ plus (value_of acc) (value_of row) → sum_passes acc row ≡ false → IsPoly next → degree_of next ≤ max (degree_of acc) (degree_of row)
    → ProductSoFar acc left all right → ProductSoFar next rest all right
product_step acc left all right next rest row s is h p r v f l d m =
    let terms : AreTerms (s ∷ rest) = subst AreTerms is m.remain in
    record {
      value =
          ap (λ x. plus x (times (value_of rest) (value_of right))) (v ∙ ap (plus (value_of acc)) (row_value s right row terms.0 p.terms r))
          ∙ plus_assoc (value_of acc) (times (term_value s) (value_of right)) (times (value_of rest) (value_of right))
          ∙ ap (plus (value_of acc)) (sym (L.add-mul polynomials (term_value s) (value_of rest) (value_of right)) ∙ ap (λ ts. times (value_of ts) (value_of right)) (sym is))
          ∙ m.value;
      steps =
          ap (λ q. product_steps q rest right) v
          ∙ sym (opened acc left right rest s (Some (plus (value_of acc) (value_of row))) is
          (row_result acc left all right rest row s is h p r m ∙ ap (λ b. if b then None else Some (plus (value_of acc) (value_of row))) f))
          ∙ m.steps;
      lawful = l;
      degree = omega (arith, d, m.degree, m.small, row_degree s right row r, ap degree_of is);
      small = omega (arith, m.small, ap degree_of is);
      remain = terms.1;
    }

no_result : (acc left all right rest : List Term) (s : Term) → left ≡ s ∷ rest → row_steps (value_of acc) s right ≡ None → ProductSoFar acc left all right
    → is_none (product_steps nil all right) ≡ true
no_result acc left all right rest s is e m = ap is_none (sym m.steps ∙ opened acc left right rest s None is e)

pub row_refused : (acc left all right rest : List Term) (s : Term) → left ≡ s ∷ rest → row_passes s right ≡ true → ProductSoFar acc left all right
    → is_none (product_steps nil all right) ≡ true
row_refused acc left all right rest s is h m = no_result acc left all right rest s is (row_steps_fail s right h (value_of acc)) m

pub sum_refused : (acc left all right rest row : List Term) (s : Term) → left ≡ s ∷ rest → degree_of all + degree_of right ≤ 65535 → IsPoly right → IsRow s right row
    → sum_passes acc row ≡ true → ProductSoFar acc left all right → is_none (product_steps nil all right) ≡ true
sum_refused acc left all right rest row s is h p r t m =
    no_result acc left all right rest s is
    (row_result acc left all right rest row s is h p r m ∙ ap (λ b. if b then None else Some (plus (value_of acc) (value_of row))) t) m

pub product_value : (acc left all right : List Term) → left ≡ [] → ProductSoFar acc left all right → value_of acc ≡ times (value_of all) (value_of right)
product_value acc left all right e m =
    sym (plus-nil (value_of acc)) ∙ ap (plus (value_of acc)) (sym (L.zero-mul polynomials (value_of right))) ∙ ap (λ ts. plus (value_of acc) (times (value_of ts) (value_of right))) (sym e) ∙ m.value

pub product_fits : (acc left all right : List Term) → left ≡ [] → ProductSoFar acc left all right → is_none (product_steps nil all right) ≡ false
product_fits acc left all right e m = ap is_none (sym m.steps ∙ ap (λ ts. product_steps (value_of acc) ts right) e)

-- a refusal that is passed on
pub range_on : (A B : Type 0) (a b : Bool) (f : PolyFault) → RangeWhere {A = A} a (Err f) → (a ≡ true → b ≡ true) → RangeWhere {A = B} b (Err f)
range_on A B a b Memory h k = tt
range_on A B a b Range h k = k h

pub range_residual : (A : Type 0) (r : Result A PolyFault) (b : Bool) (f : PolyFault) → IsErr r → IsErrAnd r (λ x. x ≡ f) → RangeWhere {A = A} b (Err f) → RangeWhere b r
range_residual A (Ok a) b f e h k = absurd (true≢false (sym e))
range_residual A (Err x) b f e h k = subst (λ y. RangeWhere {A = A} b (Err y)) (sym h) k
