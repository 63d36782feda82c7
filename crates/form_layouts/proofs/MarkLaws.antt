-- What marking the functions of trees and forms makes of the marks
use Rattle.std.proofs.Common.{◌≡◌, ℕ, zero, suc, ◌+◌, ◌<◌, ◌≤◌, ◌==◌, ◌||◌, Bool, true, false, if◌then◌else◌, List, [], ◌∷◌, ◌++◌, length, replicate, slice_set, ◌≢◌, drop, get_or, refl, sym, ap, ◌∙◌, arith, eq-eqb, add-zero, zero-add, add-one, drop-cons, append_assoc}
use Rattle.std.proofs.lemmas.Bool.Decides.{nat_tests}
use Rattle.std.proofs.lemmas.List.{append-nil, drop_all, length-replicate}
use Rattle.ratio.specs.declared.reduced.Ratio.{Ratio}
use Rattle.ufl_tree.specs.declared.function.Function.{Function}
use Rattle.ufl_tree.specs.declared.function.Ix.{Ix}
use Rattle.ufl_tree.specs.declared.function.On.{On}
use Rattle.ufl_tree.specs.declared.function.Role.{Role}
use Rattle.ufl_tree.specs.declared.function.Role.TheVariants.{Test, Trial, Position, Coefficient}
use Rattle.ufl_tree.specs.declared.tree.Op1.{Op1}
use Rattle.ufl_tree.specs.declared.tree.Op2.{Op2}
use Rattle.ufl_tree.specs.FormTerm.{FormTerm, integral, sum, scale, left, right, action, adjoint, derivative}
use Rattle.ufl_tree.specs.Typed.{Kind, Typed, number, identity, function, piece, one, two, power, index, partial, tensor, list, variable, diff, TypedList, no_items, item}
use Rattle.ufl_meaning.specs.Environment.{same_role}
use Rattle.form_layouts.specs.declared.marks.Marks.{Marks}
use Rattle.form_layouts.specs.Marks.{with_numbers, with_found, with_role, with_tree, with_trees, with_form, numbers_from}
use Rattle.form_layouts.specs.Occurring.{occurs_in, occurs_in_all, occurs, coefficients_from}

-- ---- flags
or_false : (b : Bool) → (b || false) ≡ b
or_false true = refl
or_false false = refl

or_assoc : (a b c : Bool) → (a || (b || c)) ≡ ((a || b) || c)
or_assoc true b c = refl
or_assoc false b c = refl

or_true : (b : Bool) → (b || true) ≡ true
or_true true = refl
or_true false = refl

same_number : (n : ℕ) → (n == n) ≡ true
same_number n = eq-eqb n n refl

other : (m n : ℕ) → m ≢ n → (m == n) ≡ false
other m n h = grind (arith, nat_tests)

with_none : (test : ℕ → Bool) (n : ℕ) (bs : List Bool) → ((k : ℕ) → n ≤ k → k < n + length bs → test k ≡ false) → with_numbers test n bs ≡ bs
with_none test n [] none = refl
with_none test n (b ∷ bs) none =
    let here : test n ≡ false = none n (omega arith) (omega arith) in
    let rest : with_numbers test (suc n) bs ≡ bs = with_none test (suc n) bs (λ k low high. none k (omega arith) (omega arith)) in
    ap (λ x. (b || x) ∷ with_numbers test (suc n) bs) here ∙ ap (λ x. x ∷ with_numbers test (suc n) bs) (or_false b) ∙ ap (λ xs. b ∷ xs) rest

with_both : (p q : ℕ → Bool) (n : ℕ) (bs : List Bool) → with_numbers (λ k. p k || q k) n bs ≡ with_numbers q n (with_numbers p n bs)
with_both p q n [] = refl
with_both p q n (b ∷ bs) =
    ap (λ x. x ∷ with_numbers (λ k. p k || q k) (suc n) bs) (or_assoc b (p n) (q n)) ∙ ap (λ xs. ((b || p n) || q n) ∷ xs) (with_both p q (suc n) bs)

-- the flag of number n + i
with_one_below : (n m : ℕ) (bs : List Bool) → m < n → with_numbers (λ k. m == k) n bs ≡ bs
with_one_below n m bs low = with_none (λ k. m == k) n bs (λ k least most. other m k (omega arith))

with_one : (i n : ℕ) (bs : List Bool) → i < length bs → with_numbers (λ k. (n + i) == k) n bs ≡ slice_set bs i true
with_one i n [] h = absurd (omega arith)
with_one zero n (b ∷ bs) h =
    ap (λ m. with_numbers (λ k. m == k) n (b ∷ bs)) (add-zero n)
    ∙ ap (λ x. (b || x) ∷ with_numbers (λ k. n == k) (suc n) bs) (same_number n)
    ∙ ap (λ x. x ∷ with_numbers (λ k. n == k) (suc n) bs) (or_true b)
    ∙ ap (λ xs. true ∷ xs) (with_one_below (suc n) n bs (omega arith))
with_one (suc i) n (b ∷ bs) h =
    ap (λ x. (b || x) ∷ with_numbers (λ k. (n + suc i) == k) (suc n) bs) (other (n + suc i) n (omega arith))
    ∙ ap (λ x. x ∷ with_numbers (λ k. (n + suc i) == k) (suc n) bs) (or_false b)
    ∙ ap (λ m. b ∷ with_numbers (λ k. m == k) (suc n) bs) (next n i)
    ∙ ap (λ xs. b ∷ xs) (with_one i (suc n) bs (omega arith))
  where
    next : (n i : ℕ) → n + suc i ≡ suc n + i
    next n i = omega arith

-- ---- all marks
found_none : (test : Role → Bool) (m : Marks) → ((n : ℕ) → test (Coefficient n) ≡ false) → test Position ≡ false → with_found test m ≡ m
unfolding with_found
found_none test m numbers position =
    let c : with_numbers (λ n. test (Coefficient n)) 0 m.coefficients ≡ m.coefficients = with_none (λ n. test (Coefficient n)) 0 m.coefficients (λ k low high. numbers k) in
    let p : (m.position || test Position) ≡ m.position = ap (λ x. m.position || x) position ∙ or_false m.position in
    ap (λ cs. record { coefficients = cs; position = m.position || test Position }) c ∙ ap (λ x. record { coefficients = m.coefficients; position = x }) p

found_both : (p q : Role → Bool) (m : Marks) → with_found (λ r. p r || q r) m ≡ with_found q (with_found p m)
unfolding with_found
found_both p q m =
    ap (λ cs. record { coefficients = cs; position = m.position || (p Position || q Position) })
    (with_both (λ n. p (Coefficient n)) (λ n. q (Coefficient n)) 0 m.coefficients)
    ∙ ap (λ x. record { coefficients = with_numbers (λ n. q (Coefficient n)) 0 (with_numbers (λ n. p (Coefficient n)) 0 m.coefficients); position = x })
    (or_assoc m.position (p Position) (q Position))

-- ---- roles
pub with_role-Test : (m : Marks) → with_role Test m ≡ m
unfolding with_role
with_role-Test m = found_none (same_role Test) m (λ n. refl) refl

pub with_role-Trial : (m : Marks) → with_role Trial m ≡ m
unfolding with_role
with_role-Trial m = found_none (same_role Trial) m (λ n. refl) refl

pub with_role-Position : (m : Marks) → with_role Position m ≡ record { coefficients = m.coefficients; position = true }
unfolding with_role with_found
with_role-Position m =
    ap (λ cs. record { coefficients = cs; position = m.position || true }) (with_none (λ n. false) 0 m.coefficients (λ k low high. refl))
    ∙ ap (λ x. record { coefficients = m.coefficients; position = x }) (or_true m.position)

pub with_role-Coefficient : (n : ℕ) (m : Marks) → n < length m.coefficients → with_role (Coefficient n) m ≡ record { coefficients = slice_set m.coefficients n true; position = m.position }
unfolding with_role with_found
with_role-Coefficient n m h =
    ap (λ cs. record { coefficients = cs; position = m.position || false })
    (ap (λ j. with_numbers (λ k. j == k) 0 m.coefficients) (sym (zero-add n)) ∙ with_one n 0 m.coefficients h)
    ∙ ap (λ x. record { coefficients = slice_set m.coefficients n true; position = x }) (or_false m.position)

pub with_role-beyond : (n : ℕ) (m : Marks) → length m.coefficients ≤ n → with_role (Coefficient n) m ≡ m
unfolding with_role with_found
with_role-beyond n m h =
    ap (λ cs. record { coefficients = cs; position = m.position || false })
    (with_none (λ k. n == k) 0 m.coefficients (λ k low high. other n k (omega arith)))
    ∙ ap (λ x. record { coefficients = m.coefficients; position = x }) (or_false m.position)

pub ruleset roles = (with_role-Test, with_role-Trial, with_role-Position, with_role-Coefficient, with_role-beyond)

-- ---- trees
pub with_tree-number : (k : Kind) (c : Ratio) (m : Marks) → with_tree (number k c) m ≡ m
unfolding with_tree
with_tree-number k c m = found_none (λ r. false) m (λ n. refl) refl

pub with_tree-identity : (k : Kind) (n : ℕ) (m : Marks) → with_tree (identity k n) m ≡ m
unfolding with_tree
with_tree-identity k n m = found_none (λ r. false) m (λ n. refl) refl

pub with_tree-function : (k : Kind) (f : Function) (m : Marks) → with_tree (function k f) m ≡ with_role f.role m
unfolding with_tree with_role
with_tree-function k f m = refl

pub with_tree-piece : (k : Kind) (f : Function) (n : ℕ) (m : Marks) → with_tree (piece k f n) m ≡ with_role f.role m
unfolding with_tree with_role
with_tree-piece k f n m = refl

pub with_tree-one : (k : Kind) (op : Op1) (a : Typed) (m : Marks) → with_tree (one k op a) m ≡ with_tree a m
unfolding with_tree
with_tree-one k op a m = refl

pub with_tree-two : (k : Kind) (op : Op2) (a b : Typed) (m : Marks) → with_tree (two k op a b) m ≡ with_tree b (with_tree a m)
unfolding with_tree
with_tree-two k op a b m = found_both (λ r. occurs_in r a) (λ r. occurs_in r b) m

pub with_tree-power : (k : Kind) (a : Typed) (n : ℕ) (m : Marks) → with_tree (power k a n) m ≡ with_tree a m
unfolding with_tree
with_tree-power k a n m = refl

pub with_tree-index : (k : Kind) (a : Typed) (at : List Ix) (m : Marks) → with_tree (index k a at) m ≡ with_tree a m
unfolding with_tree
with_tree-index k a at m = refl

pub with_tree-partial : (k : Kind) (a : Typed) (i : Ix) (m : Marks) → with_tree (partial k a i) m ≡ with_tree a m
unfolding with_tree
with_tree-partial k a i m = refl

pub with_tree-tensor : (k : Kind) (a : Typed) (by : List ℕ) (m : Marks) → with_tree (tensor k a by) m ≡ with_tree a m
unfolding with_tree
with_tree-tensor k a by m = refl

pub with_tree-list : (k : Kind) (ts : TypedList) (m : Marks) → with_tree (list k ts) m ≡ with_trees ts m
unfolding with_tree with_trees
with_tree-list k ts m = refl

pub with_tree-variable : (k : Kind) (l : ℕ) (a : Typed) (m : Marks) → with_tree (variable k l a) m ≡ with_tree a m
unfolding with_tree
with_tree-variable k l a m = refl

pub with_tree-diff : (k : Kind) (l : ℕ) (by : List ℕ) (a : Typed) (m : Marks) → with_tree (diff k l by a) m ≡ with_tree a m
unfolding with_tree
with_tree-diff k l by a m = refl

pub with_trees-no_items : (m : Marks) → with_trees no_items m ≡ m
unfolding with_trees
with_trees-no_items m = found_none (λ r. false) m (λ n. refl) refl

pub with_trees-item : (t : Typed) (ts : TypedList) (m : Marks) → with_trees (item t ts) m ≡ with_trees ts (with_tree t m)
unfolding with_trees with_tree
with_trees-item t ts m = found_both (λ r. occurs_in r t) (λ r. occurs_in_all r ts) m

pub ruleset trees = (with_tree-number, with_tree-identity, with_tree-function, with_tree-piece, with_tree-one, with_tree-two, with_tree-power, with_tree-index, with_tree-partial, with_tree-tensor, with_tree-list, with_tree-variable, with_tree-diff, with_trees-no_items, with_trees-item)

-- ---- forms
pub with_form-integral : (on : On) (e : Typed) (m : Marks) → with_form (integral on e) m ≡ with_tree e m
unfolding with_form with_tree
with_form-integral on e m = refl

pub with_form-sum : (f g : FormTerm) (m : Marks) → with_form (sum f g) m ≡ with_form g (with_form f m)
unfolding with_form
with_form-sum f g m = found_both (λ r. occurs r f) (λ r. occurs r g) m

pub with_form-scale : (c : Ratio) (f : FormTerm) (m : Marks) → with_form (scale c f) m ≡ with_form f m
unfolding with_form
with_form-scale c f m = refl

pub with_form-left : (f : FormTerm) (m : Marks) → with_form (left f) m ≡ with_form f m
unfolding with_form
with_form-left f m = refl

pub with_form-right : (f : FormTerm) (m : Marks) → with_form (right f) m ≡ with_form f m
unfolding with_form
with_form-right f m = refl

pub with_form-action : (f : FormTerm) (last : Role) (g : Function) (m : Marks) → with_form (action f last g) m ≡ with_role g.role (with_form f m)
unfolding with_form with_role
with_form-action f last g m = found_both (λ r. occurs r f) (same_role g.role) m

pub with_form-adjoint : (f : FormTerm) (m : Marks) → with_form (adjoint f) m ≡ with_form f m
unfolding with_form
with_form-adjoint f m = refl

pub with_form-derivative : (f : FormTerm) (w du : Function) (m : Marks) → with_form (derivative f w du) m ≡ with_role du.role (with_form f m)
unfolding with_form with_role
with_form-derivative f w du m = found_both (λ r. occurs r f) (same_role du.role) m

pub ruleset forms = (with_form-integral, with_form-sum, with_form-scale, with_form-left, with_form-right, with_form-action, with_form-adjoint, with_form-derivative)

-- ---- what is found from no marks on
numbers_found : (f : FormTerm) (n count : ℕ) → numbers_from n (with_numbers (λ k. occurs (Coefficient k) f) n (replicate count false)) ≡ coefficients_from f n count
numbers_found f n zero = refl
numbers_found f n (suc count) = ap (λ ns. if occurs (Coefficient n) f then n ∷ ns else ns) (numbers_found f (suc n) count)

abbrev pub no_marks : ℕ → Marks
no_marks count = record { coefficients = replicate count false; position = false }

pub found_coefficients : (f : FormTerm) (count : ℕ) (m : Marks) → m ≡ with_form f (no_marks count) → numbers_from 0 m.coefficients ≡ coefficients_from f 0 count
unfolding with_form with_found
found_coefficients f count m e = ap (λ (x : Marks). numbers_from 0 x.coefficients) e ∙ numbers_found f 0 count

pub found_position : (f : FormTerm) (count : ℕ) (m : Marks) → m ≡ with_form f (no_marks count) → m.position ≡ occurs Position f
unfolding with_form with_found
found_position f count m e = ap (λ (x : Marks). x.position) e

length_with : (test : ℕ → Bool) (n : ℕ) (bs : List Bool) → length (with_numbers test n bs) ≡ length bs
length_with test n [] = refl
length_with test n (b ∷ bs) = ap suc (length_with test (suc n) bs)

pub found_length : (f : FormTerm) (count : ℕ) (m : Marks) → m ≡ with_form f (no_marks count) → length m.coefficients ≡ count
unfolding with_form with_found
found_length f count m e =
    ap (λ (x : Marks). length x.coefficients) e ∙ length_with (λ k. occurs (Coefficient k) f) 0 (replicate count false) ∙ length-replicate count false

pub ruleset found = (found_coefficients, found_position, found_length)

-- ---- the numbers of the flags that are set, one after the other
numbers_next : (bs : List Bool) (i : ℕ) (b : Bool) → i < length bs → b ≡ get_or bs i b → numbers_from i (drop i bs) ≡ (if b then i ∷ numbers_from (suc i) (drop (suc i) bs) else numbers_from (suc i) (drop (suc i) bs))
numbers_next bs i b within at = ap (numbers_from i) (drop-cons bs i b within ∙ ap (λ c. c ∷ drop (suc i) bs) (sym at))

pub number_set : (all before : List ℕ) (bs : List Bool) (i : ℕ) (b : Bool) → i < length bs → b ≡ get_or bs i b → b ≡ true → all ≡ before ++ numbers_from i (drop i bs)
    → all ≡ (before ++ i ∷ []) ++ numbers_from (i + 1) (drop (i + 1) bs)
number_set all before bs i b within at is so_far =
    so_far ∙ ap (λ ns. before ++ ns) (numbers_next bs i b within at ∙ ap (λ c. if c then i ∷ numbers_from (suc i) (drop (suc i) bs) else numbers_from (suc i) (drop (suc i) bs)) is)
    ∙ sym (append_assoc before (i ∷ []) (numbers_from (suc i) (drop (suc i) bs)))
    ∙ ap (λ j. (before ++ i ∷ []) ++ numbers_from j (drop j bs)) (sym (add-one i))

pub number_unset : (all before : List ℕ) (bs : List Bool) (i : ℕ) (b : Bool) → i < length bs → b ≡ get_or bs i b → b ≡ false → all ≡ before ++ numbers_from i (drop i bs)
    → all ≡ before ++ numbers_from (i + 1) (drop (i + 1) bs)
number_unset all before bs i b within at is so_far =
    so_far ∙ ap (λ ns. before ++ ns) (numbers_next bs i b within at ∙ ap (λ c. if c then i ∷ numbers_from (suc i) (drop (suc i) bs) else numbers_from (suc i) (drop (suc i) bs)) is)
    ∙ ap (λ j. before ++ numbers_from j (drop j bs)) (sym (add-one i))

pub numbers_end : (all before : List ℕ) (bs : List Bool) (i : ℕ) → length bs ≤ i → all ≡ before ++ numbers_from i (drop i bs) → before ≡ all
numbers_end all before bs i past so_far = sym (so_far ∙ ap (λ cs. before ++ numbers_from i cs) (drop_all i bs past) ∙ append-nil before)
