-- Lists of products and of derivatives, as far as they have come
use Rattle.std.proofs.Common.{◌≡◌, ℕ, ◌+◌, ◌<◌, ◌≤◌, List, [], ◌∷◌, ◌++◌, length, get_or, take, refl, sym, ◌∙◌, ap, ap₂, subst, subst₂, append_assoc, append-nil, IsPermutation}
use Rattle.std.proofs.lemmas.List.Sorted.{IsPermutation-refl, IsPermutation-append_comm}
use Rattle.std.proofs.lemmas.List.{take_more, take_all, map-append}
use Rattle.monos.specs.Monomial.{Monomial, monomial_of, monomials_of}
use Rattle.monos.specs.declared.mono.Mono.{Mono}
use Rattle.algebra.specs.Fraction.{Fraction, negative}
use Rattle.ratio.specs.Value.{fraction_of}
use Rattle.monos.specs.declared.mono.Atom.{Atom}
use Rattle.normal.specs.Monomials.{all_negative, product, all_times, products}
use Rattle.normal.specs.Collecting.{IsReordered, AreReordered}

pub reordered_append : (ms ns xs ys : List Monomial) → AreReordered ms ns → AreReordered xs ys → AreReordered (ms ++ xs) (ns ++ ys)
reordered_append [] [] xs ys h k = k
reordered_append [] (n ∷ ns) xs ys h k = absurd h
reordered_append (m ∷ ms) [] xs ys h k = absurd h
reordered_append (m ∷ ms) (n ∷ ns) xs ys h k = (h.0, reordered_append ms ns xs ys h.1 k)

all_times_append : (m : Monomial) (xs ys : List Monomial) → all_times m (xs ++ ys) ≡ all_times m xs ++ all_times m ys
all_times_append m [] ys = refl
all_times_append m (x ∷ xs) ys = ap (λ zs. product m x ∷ zs) (all_times_append m xs ys)

products_more : (ms : List Monomial) (m : Monomial) (ns : List Monomial) → products (ms ++ m ∷ []) ns ≡ products ms ns ++ all_times m ns
products_more [] m ns = append-nil (all_times m ns)
products_more (x ∷ xs) m ns = ap (λ zs. all_times x ns ++ zs) (products_more xs m ns) ∙ sym (append_assoc (all_times x ns) (products xs ns) (all_times m ns))

-- the code's lists: one more of the first, and of the second
pub next_row : (ms : List Mono) (i : ℕ) (d : Mono) (ns : List Mono) → i < length ms
    → products (monomials_of (take (i + 1) ms)) (monomials_of ns) ≡ products (monomials_of (take i ms)) (monomials_of ns) ++ all_times (monomial_of (get_or ms i d)) (monomials_of ns)
next_row ms i d ns h =
    ap (λ xs. products (monomials_of xs) (monomials_of ns)) (take_more ms i d h)
    ∙ ap (λ xs. products xs (monomials_of ns)) (map-append monomial_of (take i ms) (get_or ms i d ∷ []))
    ∙ products_more (monomials_of (take i ms)) (monomial_of (get_or ms i d)) (monomials_of ns)

pub next_product : (m : Monomial) (ns : List Mono) (k : ℕ) (d : Mono) → k < length ns
    → all_times m (monomials_of (take (k + 1) ns)) ≡ all_times m (monomials_of (take k ns)) ++ product m (monomial_of (get_or ns k d)) ∷ []
next_product m ns k d h =
    ap (λ xs. all_times m (monomials_of xs)) (take_more ns k d h)
    ∙ ap (all_times m) (map-append monomial_of (take k ns) (get_or ns k d ∷ []))
    ∙ all_times_append m (monomials_of (take k ns)) (monomial_of (get_or ns k d) ∷ [])

-- ---- the loops
pub row_goes_on : (done : List Monomial) (m : Monomial) (ns : List Mono) (k : ℕ) (n r : Mono) (all next : List Mono) → k < length ns → n ≡ get_or ns k n
    → IsReordered (product m (monomial_of n)) (monomial_of r) → next ≡ all ++ r ∷ []
    → AreReordered (done ++ all_times m (monomials_of (take k ns))) (monomials_of all)
    → AreReordered (done ++ all_times m (monomials_of (take (k + 1) ns))) (monomials_of next)
row_goes_on done m ns k n r all next h e q en a =
    subst₂ AreReordered
    (append_assoc done _ _ ∙ ap (λ xs. done ++ xs) (ap (λ x. all_times m (monomials_of (take k ns)) ++ product m (monomial_of x) ∷ []) e ∙ sym (next_product m ns k n h)))
    (sym (ap monomials_of en ∙ map-append monomial_of all (r ∷ [])))
    (reordered_append _ _ _ _ a (q, tt))

pub row_ends : (ms ns : List Mono) (i k : ℕ) (m : Mono) (all : List Monomial) → i < length ms → m ≡ get_or ms i m → length ns ≤ k
    → AreReordered (products (monomials_of (take i ms)) (monomials_of ns) ++ all_times (monomial_of m) (monomials_of (take k ns))) all
    → AreReordered (products (monomials_of (take (i + 1) ms)) (monomials_of ns)) all
row_ends ms ns i k m all h e l a =
    subst (λ xs. AreReordered xs all)
    (ap₂ (λ x ys. products (monomials_of (take i ms)) (monomials_of ns) ++ all_times (monomial_of x) (monomials_of ys)) e (take_all k ns l) ∙ sym (next_row ms i m ns h)) a

-- ---- both lists in one
pub joined_behind : (ms ns all : List Mono) → all ≡ ms ++ ns → IsPermutation (monomials_of ms ++ monomials_of ns) (monomials_of all)
joined_behind ms ns all e = subst (IsPermutation (monomials_of ms ++ monomials_of ns)) (sym (ap monomials_of e ∙ map-append monomial_of ms ns)) (IsPermutation-refl (monomials_of ms ++ monomials_of ns))

pub joined_before : (ms ns all : List Mono) → all ≡ ns ++ ms → IsPermutation (monomials_of ms ++ monomials_of ns) (monomials_of all)
joined_before ms ns all e =
    subst (IsPermutation (monomials_of ms ++ monomials_of ns)) (sym (ap monomials_of e ∙ map-append monomial_of ns ms)) (IsPermutation-append_comm (monomials_of ms) (monomials_of ns))

-- ---- the other sign
negative_append : (xs ys : List Monomial) → all_negative (xs ++ ys) ≡ all_negative xs ++ all_negative ys
negative_append [] ys = refl
negative_append (x ∷ xs) ys = ap (λ zs. record { c = negative x.c; atoms = x.atoms } ∷ zs) (negative_append xs ys)

pub negative_goes_on : (ys : List Mono) (m r : Mono) (all next : List Mono) → next ≡ all ++ r ∷ [] → fraction_of r.c ≡ negative (fraction_of m.c) → r.atoms ≡ m.atoms
    → monomials_of all ≡ all_negative (monomials_of ys) → monomials_of next ≡ all_negative (monomials_of (ys ++ m ∷ []))
negative_goes_on ys m r all next e f g h =
    ap monomials_of e ∙ map-append monomial_of all (r ∷ [])
    ∙ ap₂ (λ (xs : List Monomial) (y : Monomial). xs ++ y ∷ []) h (ap₂ (λ (c : Fraction) (a : List Atom). record { c = c; atoms = a }) f g)
    ∙ sym (ap all_negative (map-append monomial_of ys (m ∷ [])) ∙ negative_append (monomials_of ys) (monomial_of m ∷ []))
