-- Labels in arrays are ordered as labels are
use Rattle.std.proofs.Common.{◌≡◌, ℕ, suc, ◌-◌, ◌<◌, Option, Some, None, List, [], ◌∷◌, ◌++◌, length, map, if◌then◌else◌, refl, sym, ap, ap₂, subst, ◌∙◌, arith}
use Rattle.std.specs.declared.cmp.Ordering.{Ordering}
use Rattle.std.specs.declared.cmp.Ordering.TheVariants.{Less, Equal, Greater}
use Rattle.std.specs.Ordering.{MatchOrdering, nat_cmp, ordering_then, is_lt}
use Rattle.std.specs.Option.{option_cmp}
use Rattle.std.specs.Cmp.{IsTotalOrder}
use Rattle.std.specs.Cmp.Lexicographic.{slice_cmp, options_total}
use Rattle.std.specs.List.{AllByRecursion}
use Rattle.std.proofs.lemmas.Cmp.{nat_cmp_total, nat_list_cmp_total, on_total, then_total, tied_itself, ranked}
use Rattle.std.proofs.lemmas.List.{take_at}
use Rattle.spaces.specs.Nodes.{zeros}
use Rattle.dofs.specs.declared.support.Support.{Support}
use Rattle.dofs.specs.declared.key.Key.{Key}
use Rattle.dofs.specs.Label.{Label}
use Rattle.dofs.specs.Order.{label_cmp, included, included_by, sorted_set, place}
use Rattle.dofs.specs.Arrays.{three, key_of, label_of, IsSmall, support_cmp, key_cmp}
use Rattle.dofs.proofs.SetLaws.{Separates, all_sorted_set}

-- ---- the order of keys
support_total : IsTotalOrder support_cmp
support_total =
    then_total (on_total (λ (s : Support). s.count) nat_cmp_total)
    (then_total (on_total (λ (s : Support). s.vertices) nat_list_cmp_total) (on_total (λ (s : Support). s.weights) nat_list_cmp_total))

pub key_total : IsTotalOrder key_cmp
key_total =
    then_total (on_total (λ (k : Key). k.part) nat_cmp_total)
    (then_total (on_total (λ (k : Key). k.cell) (options_total nat_cmp_total)) (on_total (λ (k : Key). k.support) support_total))

pub then_equal : (o p : Ordering) → ordering_then o p ≡ Equal → (o ≡ Equal) × (p ≡ Equal)
then_equal Less p e = cc
then_equal Equal p e = (refl, e)
then_equal Greater p e = cc

pub nat_equal : (x y : ℕ) → nat_cmp x y ≡ Equal → x ≡ y
nat_equal x y e = subst (λ o. MatchOrdering o (x < y) (x ≡ y) (y < x)) e (ranked x y (nat_cmp x y) refl)

pub option_equal : (x y : Option ℕ) → option_cmp nat_cmp x y ≡ Equal → x ≡ y
option_equal None None e = refl
option_equal None (Some y) e = cc
option_equal (Some x) None e = cc
option_equal (Some x) (Some y) e = ap Some (nat_equal x y e)

pub list_equal : (xs ys : List ℕ) → slice_cmp nat_cmp xs ys ≡ Equal → xs ≡ ys
list_equal [] [] e = refl
list_equal [] (y ∷ ys) e = cc
list_equal (x ∷ xs) [] e = cc
list_equal (x ∷ xs) (y ∷ ys) e =
    let both = then_equal (nat_cmp x y) (slice_cmp nat_cmp xs ys) e in
    ap₂ (λ z zs. z ∷ zs) (nat_equal x y both.0) (list_equal xs ys both.1)

support_equal : (a b : Support) → support_cmp a b ≡ Equal → a ≡ b
support_equal a b e =
    let counts = then_equal (nat_cmp a.count b.count) (ordering_then (slice_cmp nat_cmp a.vertices b.vertices) (slice_cmp nat_cmp a.weights b.weights)) e in
    let lists = then_equal (slice_cmp nat_cmp a.vertices b.vertices) (slice_cmp nat_cmp a.weights b.weights) counts.1 in
    λ i. record { count = nat_equal a.count b.count counts.0 i; vertices = list_equal a.vertices b.vertices lists.0 i; weights = list_equal a.weights b.weights lists.1 i }

pub key_separates : Separates key_cmp
key_separates a b e =
    let parts = then_equal (nat_cmp a.part b.part) (ordering_then (option_cmp nat_cmp a.cell b.cell) (support_cmp a.support b.support)) e in
    let cells = then_equal (option_cmp nat_cmp a.cell b.cell) (support_cmp a.support b.support) parts.1 in
    λ i. record { part = nat_equal a.part b.part parts.0 i; cell = option_equal a.cell b.cell cells.0 i; support = support_equal a.support b.support cells.1 i }

-- ---- that of labels
then_same : (o p q : Ordering) → (o ≡ Equal → p ≡ q) → ordering_then o p ≡ ordering_then o q
then_same Less p q f = refl
then_same Equal p q f = f refl
then_same Greater p q f = refl

lists_with : (xs ys zs : List ℕ) → length xs ≡ length ys → slice_cmp nat_cmp (xs ++ zs) (ys ++ zs) ≡ slice_cmp nat_cmp xs ys
lists_with [] [] zs e = tied_itself nat_list_cmp_total zs
lists_with [] (y ∷ ys) zs e = absurd (omega arith)
lists_with (x ∷ xs) [] zs e = absurd (omega arith)
lists_with (x ∷ xs) (y ∷ ys) zs e = ap (ordering_then (nat_cmp x y)) (lists_with xs ys zs (omega arith))

three_same : (xs ys : List ℕ) → length xs ≡ length ys → slice_cmp nat_cmp (three xs) (three ys) ≡ slice_cmp nat_cmp xs ys
three_same xs ys e = ap (λ n. slice_cmp nat_cmp (xs ++ zeros (3 - length xs)) (ys ++ zeros (3 - n))) (sym e) ∙ lists_with xs ys (zeros (3 - length xs)) e

pub same_order : (l m : Label) → IsSmall l → IsSmall m → key_cmp (key_of l) (key_of m) ≡ label_cmp l m
same_order l m a b =
    ap (ordering_then (nat_cmp l.part m.part))
    (ap (ordering_then (option_cmp nat_cmp l.cell m.cell))
    (then_same (nat_cmp (length l.vertices) (length m.vertices)) _ _ (λ e.
    let size = nat_equal (length l.vertices) (length m.vertices) e in
    ap₂ ordering_then (three_same l.vertices m.vertices size) (three_same l.weights m.weights (a.weights ∙ size ∙ sym b.weights)))))

-- a label comes back from its key
pub label_back : (l : Label) → IsSmall l → label_of (key_of l) ≡ l
label_back l a = λ i. record {
  part = l.part;
  cell = l.cell;
  vertices = take_at l.vertices (zeros (3 - length l.vertices)) (length l.vertices) refl i;
  weights = take_at l.weights (zeros (3 - length l.weights)) (length l.vertices) a.weights i;
}

pub labels_back : (ls : List Label) → AllByRecursion IsSmall ls → map label_of (map key_of ls) ≡ ls
labels_back [] all = refl
labels_back (l ∷ ls) all = ap₂ (λ m ms. m ∷ ms) (label_back l all.0) (labels_back ls all.1)

keys_included_by : (l m : Label) (ms : List Label) (more : List Key) (rest : List Label) (o : Ordering) → more ≡ map key_of rest
    → included_by o (key_of l) (key_of m) (map key_of ms) more ≡ map key_of (included_by o l m ms rest)
keys_included_by l m ms more rest Less e = refl
keys_included_by l m ms more rest Equal e = refl
keys_included_by l m ms more rest Greater e = ap (λ ks. key_of m ∷ ks) e

keys_included : (l : Label) (ms : List Label) → IsSmall l → AllByRecursion IsSmall ms → included key_cmp (key_of l) (map key_of ms) ≡ map key_of (included label_cmp l ms)
keys_included l [] a all = refl
keys_included l (m ∷ ms) a all =
    ap (λ o. included_by o (key_of l) (key_of m) (map key_of ms) (included key_cmp (key_of l) (map key_of ms))) (same_order l m a all.0)
    ∙ keys_included_by l m ms (included key_cmp (key_of l) (map key_of ms)) (included label_cmp l ms) (label_cmp l m) (keys_included l ms a all.1)

pub keys_in_order : (ls : List Label) → AllByRecursion IsSmall ls → sorted_set key_cmp (map key_of ls) ≡ map key_of (sorted_set label_cmp ls)
keys_in_order [] all = refl
keys_in_order (l ∷ ls) all =
    ap (included key_cmp (key_of l)) (keys_in_order ls all.1)
    ∙ keys_included l (sorted_set label_cmp ls) all.0 (all_sorted_set IsSmall label_cmp ls all.1)

pub same_place : (l : Label) (ms : List Label) → IsSmall l → AllByRecursion IsSmall ms → place key_cmp (key_of l) (map key_of ms) ≡ place label_cmp l ms
same_place l [] a all = refl
same_place l (m ∷ ms) a all =
    ap₂ (λ o n. if is_lt o then suc n else n) (same_order m l all.0 a) (same_place l ms a all.1)

pub same_places : (ls ms : List Label) → AllByRecursion IsSmall ls → AllByRecursion IsSmall ms → map (λ k. place key_cmp k (map key_of ms)) (map key_of ls) ≡ map (λ l. place label_cmp l ms) ls
same_places [] ms all small = refl
same_places (l ∷ ls) ms all small = ap₂ (λ n ns. n ∷ ns) (same_place l ms all.0 small) (same_places ls ms all.1 small)
