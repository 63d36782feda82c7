-- A sum over all rows of a value times a function is the sum over the local labels, where no other label has a function
use Rattle.std.proofs.Common.{◌≡◌, ◌≢◌, ℕ, zero, suc, ◌<◌, ◌⊎◌, inl, inr, Bool, true, false, List, [], ◌∷◌, slice_index_or, if◌then◌else◌, refl, sym, ap, ap₂, ◌∙◌, subst, arith}
use Rattle.std.specs.declared.cmp.Ordering.{Ordering}
use Rattle.std.specs.declared.cmp.Ordering.TheVariants.{Less, Equal, Greater}
use Rattle.std.specs.Ordering.{is_eq, is_lt}
use Rattle.std.specs.List.{AllByRecursion}
use Rattle.std.specs.List.Sorted.{IsStrictlySortedBy}
use Rattle.std.proofs.lemmas.Cmp.{tied_itself}
use Rattle.std.proofs.lemmas.Map.Keys.{sorted_head, sorted_tail}
use Rattle.algebra.specs.RingLaws as L
use Rattle.algebra.specs.Solver.{at, ◌⊕◌}
use Rattle.algebra.specs.Sound as Solve
use Rattle.algebra.specs.Fraction.{Fraction, zero_fraction}
use Rattle.calculus.specs.Polynomial.{Polynomial, nil, plus, times, constant, polynomials, plus-nil}
use Rattle.calculus.specs.Integral.{sum_below}
use Rattle.calculus.proofs.PolynomialLaws.{constant-zero}
use Rattle.dofs.specs.Label.{Label}
use Rattle.dofs.specs.Order.{label_cmp, place}
use Rattle.dofs.proofs.SetLaws.{Member, greater_from_less}
use Rattle.dofs.proofs.RowLaws.{label_total, label_separates}
use Rattle.dofs.specs.Basis.{CellOf, basis_value}
use Rattle.form_values.specs.FormValue.{rows_value}
use Rattle.dofs.proofs.Lists.{IsDistinct}

-- ---- sums
-- of x 0, x 1, .. times the functions of the rows
abbrev pub sum_rows : (ℕ → Fraction) → (Label → Polynomial) → List Label → Polynomial
sum_rows x f [] = nil
sum_rows x f (l ∷ ls) = plus (times (constant (x zero)) (f l)) (sum_rows (λ n. x (suc n)) f ls)

-- with a value for each label
abbrev pub sum_labels : (Label → Fraction) → (Label → Polynomial) → List Label → Polynomial
sum_labels y f [] = nil
sum_labels y f (l ∷ ls) = plus (times (constant (y l)) (f l)) (sum_labels y f ls)

times_nil : (c : Fraction) (p : Polynomial) → p ≡ nil → times (constant c) p ≡ nil
times_nil c p e = ap (times (constant c)) e ∙ L.mul-zero polynomials (constant c)

no_value : (p : Polynomial) → times (constant zero_fraction) p ≡ nil
no_value p = ap (λ c. times c p) constant-zero ∙ L.zero-mul polynomials p

nil-plus : (p q : Polynomial) → p ≡ nil → plus p q ≡ q
nil-plus p q e = ap (λ r. plus r q) e ∙ L.zero-add polynomials q

pub sum_nil : (x : ℕ → Fraction) (f : Label → Polynomial) (ls : List Label) → AllByRecursion (λ l. f l ≡ nil) ls → sum_rows x f ls ≡ nil
sum_nil x f [] all = refl
sum_nil x f (l ∷ ls) all = nil-plus _ _ (times_nil (x zero) (f l) all.0) ∙ sum_nil (λ n. x (suc n)) f ls all.1

sum_same : (x : ℕ → Fraction) (f g : Label → Polynomial) (ls : List Label) → AllByRecursion (λ l. f l ≡ g l) ls → sum_rows x f ls ≡ sum_rows x g ls
sum_same x f g [] all = refl
sum_same x f g (l ∷ ls) all = ap₂ (λ p q. plus (times (constant (x zero)) p) q) all.0 (sum_same (λ n. x (suc n)) f g ls all.1)

labels_same : (y : Label → Fraction) (f g : Label → Polynomial) (ls : List Label) → AllByRecursion (λ l. f l ≡ g l) ls → sum_labels y f ls ≡ sum_labels y g ls
labels_same y f g [] all = refl
labels_same y f g (l ∷ ls) all = ap₂ (λ p q. plus (times (constant (y l)) p) q) all.0 (labels_same y f g ls all.1)

no_values : (ls : List Label) (f : Label → Polynomial) → nil ≡ sum_rows (λ n. zero_fraction) f ls
no_values [] f = refl
no_values (l ∷ ls) f = no_values ls f ∙ sym (nil-plus _ _ (no_value (f l)))

-- rows beyond the data count as 0
pub rows_value_is : (ls : List Label) (xs : List Fraction) (k : CellOf) (i : ℕ) → rows_value ls xs k i ≡ sum_rows (λ n. slice_index_or xs n zero_fraction) (λ l. basis_value l k i) ls
rows_value_is [] xs k i = refl
rows_value_is (l ∷ ls) [] k i = no_values (l ∷ ls) (λ m. basis_value m k i)
rows_value_is (l ∷ ls) (x ∷ xs) k i = ap (plus (times (constant x) (basis_value l k i))) (rows_value_is ls xs k i)

-- ---- one label taken out
is_equal : (o : Ordering) → is_eq o ≡ true → o ≡ Equal
is_equal Less e = cc
is_equal Equal e = refl
is_equal Greater e = cc

abbrev without : Label → (Label → Polynomial) → Label → Polynomial
without m f l = if is_eq (label_cmp l m) then nil else f l

without_same : (m : Label) (f : Label → Polynomial) → without m f m ≡ nil
without_same m f = ap (λ o. if is_eq o then nil else f m) (tied_itself label_total m)

without_other : (m : Label) (f : Label → Polynomial) (l : Label) → l ≢ m → without m f l ≡ f l
without_other m f l h = go (is_eq (label_cmp l m)) refl
  where
    go : (t : Bool) → is_eq (label_cmp l m) ≡ t → (if t then nil else f l) ≡ f l
    go true e = absurd (h (label_separates l m (is_equal (label_cmp l m) e)))
    go false e = refl

without_nil : (m : Label) (f : Label → Polynomial) (l : Label) → f l ≡ nil → without m f l ≡ nil
without_nil m f l e = go (is_eq (label_cmp l m))
  where
    go : (t : Bool) → (if t then nil else f l) ≡ nil
    go true = refl
    go false = e

apart : (l m : Label) → label_cmp l m ≡ Less → l ≢ m
apart l m lt e = less_or_tied (label_cmp l m) lt (ap (λ k. label_cmp k m) e ∙ tied_itself label_total m)
  where
    less_or_tied : (o : Ordering) → o ≡ Less → o ≡ Equal → ⊥
    less_or_tied o a b = let c : Less ≡ Equal = sym a ∙ b in cc

all_apart : (l : Label) (ls : List Label) → AllByRecursion (λ m. label_cmp l m ≡ Less) ls → AllByRecursion (λ m. l ≢ m) ls
all_apart l [] all = tt
all_apart l (m ∷ ls) all = (apart l m all.0, all_apart l ls all.1)

member_less : (l m : Label) (ls : List Label) → AllByRecursion (λ m. label_cmp l m ≡ Less) ls → Member m ls → label_cmp l m ≡ Less
member_less l m [] all h = absurd h
member_less l m (k ∷ ls) all (inl e) = ap (label_cmp l) e ∙ all.0
member_less l m (k ∷ ls) all (inr h) = member_less l m ls all.1 h

with_all : (m : Label) (f : Label → Polynomial) (ls : List Label) → AllByRecursion (λ l. m ≢ l) ls → AllByRecursion (λ l. f l ≡ without m f l) ls
with_all m f [] all = tt
with_all m f (l ∷ ls) all = (sym (without_other m f l (λ e. all.0 (sym e))), with_all m f ls all.1)

exchanged : (a b c : Polynomial) → plus a (plus b c) ≡ plus b (plus a c)
exchanged a b c = Solve.ring polynomials (a ∷ b ∷ c ∷ []) (at 0 ⊕ (at 1 ⊕ at 2)) (at 1 ⊕ (at 0 ⊕ at 2)) refl

none_before : (m : Label) (ls : List Label) → AllByRecursion (λ l. label_cmp m l ≡ Less) ls → place label_cmp m ls ≡ zero
none_before m [] all = refl
none_before m (l ∷ ls) all = ap₂ (λ o n. if is_lt o then suc n else n) (greater_from_less label_total m l all.0) (none_before m ls all.1)

one_out : (x : ℕ → Fraction) (f : Label → Polynomial) (m : Label) (ls : List Label) → IsStrictlySortedBy label_cmp ls → Member m ls
    → sum_rows x f ls ≡ plus (times (constant (x (place label_cmp m ls))) (f m)) (sum_rows x (without m f) ls)
one_out x f m [] up h = absurd h
one_out x f m (l ∷ ls) up (inl e) =
    let rest = sum_rows (λ n. x (suc n)) (without m f) ls in
    let first : place label_cmp m (l ∷ ls) ≡ zero =
    ap₂ (λ o n. if is_lt o then suc n else n) (ap (λ k. label_cmp k m) (sym e) ∙ tied_itself label_total m)
    (none_before m ls (subst (λ k. AllByRecursion (λ n. label_cmp k n ≡ Less) ls) (sym e) (sorted_head label_cmp l ls up))) in
    ap₂ (λ p q. plus (times (constant (x zero)) p) q) (ap f (sym e))
    (sum_same (λ n. x (suc n)) f (without m f) ls (subst (λ k. AllByRecursion (λ n. f n ≡ without k f n) ls) (sym e) (with_all l f ls (all_apart l ls (sorted_head label_cmp l ls up)))))
    ∙ ap₂ (λ n q. plus (times (constant (x n)) (f m)) q) (sym first)
    (sym (nil-plus (times (constant (x zero)) (without m f l)) rest (times_nil (x zero) _ (ap (without m f) (sym e) ∙ without_same m f))))
one_out x f m (l ∷ ls) up (inr h) =
    let lt = member_less l m ls (sorted_head label_cmp l ls up) h in
    let p = place label_cmp m ls in
    let behind : place label_cmp m (l ∷ ls) ≡ suc p = ap (λ o. if is_lt o then suc p else p) lt in
    ap₂ (λ q r. plus (times (constant (x zero)) q) r) (sym (without_other m f l (apart l m lt))) (one_out (λ n. x (suc n)) f m ls (sorted_tail label_cmp l ls up) h)
    ∙ exchanged _ _ _
    ∙ ap (λ n. plus (times (constant (x n)) (f m)) (sum_rows x (without m f) (l ∷ ls))) (sym behind)

-- ---- the local labels alone
abbrev pub NoOther : (Label → Polynomial) → List Label → List Label → Type 0
NoOther f ms ls = AllByRecursion (λ l. (f l ≡ nil) ⊎ Member l ms) ls

all_nil : (f : Label → Polynomial) (ls : List Label) → NoOther f [] ls → AllByRecursion (λ l. f l ≡ nil) ls
all_nil f [] all = tt
all_nil f (l ∷ ls) all = (go all.0, all_nil f ls all.1)
  where
    go : (f l ≡ nil) ⊎ ⊥ → f l ≡ nil
    go (inl e) = e
    go (inr h) = absurd h

fewer : (m : Label) (f : Label → Polynomial) (ms ls : List Label) → NoOther f (m ∷ ms) ls → NoOther (without m f) ms ls
fewer m f ms [] all = tt
fewer m f ms (l ∷ ls) all = (go all.0, fewer m f ms ls all.1)
  where
    go : (f l ≡ nil) ⊎ ((l ≡ m) ⊎ Member l ms) → (without m f l ≡ nil) ⊎ Member l ms
    go (inl e) = inl (without_nil m f l e)
    go (inr (inl e)) = inl (ap (without m f) e ∙ without_same m f)
    go (inr (inr h)) = inr h

pub sum_local : (x : ℕ → Fraction) (f : Label → Polynomial) (ms ls : List Label) → IsStrictlySortedBy label_cmp ls → IsDistinct ms → AllByRecursion (λ m. Member m ls) ms → NoOther f ms ls
    → sum_rows x f ls ≡ sum_labels (λ m. x (place label_cmp m ls)) f ms
sum_local x f [] ls up d all none = sum_nil x f ls (all_nil f ls none)
sum_local x f (m ∷ ms) ls up d all none =
    one_out x f m ls up all.0
    ∙ ap (plus (times (constant (x (place label_cmp m ls))) (f m)))
    (sum_local x (without m f) ms ls up d.1 all.1 (fewer m f ms ls none)
    ∙ sym (labels_same (λ n. x (place label_cmp n ls)) f (without m f) ms (with_all m f ms d.0)))

-- ---- a sum over a list as one over numbers
pub sum_first : (n : ℕ) (f : ℕ → Polynomial) → sum_below (suc n) f ≡ plus (f zero) (sum_below n (λ k. f (suc k)))
sum_first zero f = L.zero-add polynomials (f zero) ∙ sym (plus-nil (f zero))
sum_first (suc n) f = ap (λ p. plus p (f (suc n))) (sum_first n f) ∙ polynomials.add_assoc (f zero) (sum_below n (λ k. f (suc k))) (f (suc n))

pub below_same : (n : ℕ) (f g : ℕ → Polynomial) → ((k : ℕ) → k < n → f k ≡ g k) → sum_below n f ≡ sum_below n g
below_same zero f g h = refl
below_same (suc n) f g h = ap₂ plus (below_same n f g (λ k lt. h k (omega arith))) (h n (omega arith))

pub distinct_rows : (ls : List Label) → IsStrictlySortedBy label_cmp ls → IsDistinct ls
distinct_rows [] up = tt
distinct_rows (l ∷ ls) up = (all_apart l ls (sorted_head label_cmp l ls up), distinct_rows ls (sorted_tail label_cmp l ls up))
