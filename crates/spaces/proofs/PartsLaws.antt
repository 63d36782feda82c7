-- Lists of parts, one behind the other
use Rattle.std.proofs.Common.{◌≡◌, ℕ, ◌+◌, ◌-◌, ◌^◌, ◌<◌, ◌≤◌, suc, List, [], ◌∷◌, ◌++◌, length, map, drop, get_or, refl, sym, ap, ap₂, ◌∙◌, arith, append_assoc, append-nil, add_assoc, add-one, drop-cons}
use Rattle.spaces.specs.Scalar.{Scalar, scalar_of, part_at, repeated, placed, local_size, appended, laid_out}
use Rattle.spaces.specs.declared.parts.Part.{Part}
use Rattle.spaces.specs.declared.parts.Parts.{Parts}

pub local_size-append : (xs ys : List Scalar) → local_size (xs ++ ys) ≡ local_size xs + local_size ys
local_size-append [] ys = omega arith
local_size-append (x ∷ xs) ys = omega (arith, local_size-append xs ys)

pub placed-append : (n : ℕ) (xs ys : List Scalar) → placed n (xs ++ ys) ≡ placed n xs ++ placed (n + local_size xs) ys
placed-append n [] ys = let e : n ≡ n + 0 = omega arith in ap (λ k. placed k ys) e
placed-append n (x ∷ xs) ys =
    ap (λ ps. part_at n x ∷ ps)
    (placed-append (n + x.nodes) xs ys
    ∙ ap (λ k. placed (n + x.nodes) xs ++ placed k ys) (add_assoc n x.nodes (local_size xs)))

pub appended-nil : (p : Parts) → appended p [] ≡ p
appended-nil p =
    let e : p.local + 0 ≡ p.local = omega arith in
    ap₂ (λ is n. record { items = is; local = n }) (append-nil p.items) e

pub appended-append : (p : Parts) (xs ys : List Scalar) → appended p (xs ++ ys) ≡ appended (appended p xs) ys
appended-append p xs ys =
    ap₂ (λ is n. record { items = is; local = n })
    (ap (λ ps. p.items ++ ps) (placed-append p.local xs ys) ∙ sym (append_assoc p.items (placed p.local xs) (placed (p.local + local_size xs) ys)))
    (ap (λ k. p.local + k) (local_size-append xs ys) ∙ sym (add_assoc p.local (local_size xs) (local_size ys)))

pub scalars-placed : (n : ℕ) (xs : List Scalar) → map scalar_of (placed n xs) ≡ xs
scalars-placed n [] = refl
scalars-placed n (x ∷ xs) = ap (λ ys. x ∷ ys) (scalars-placed (n + x.nodes) xs)

pub length-placed : (n : ℕ) (xs : List Scalar) → length (placed n xs) ≡ length xs
length-placed n [] = refl
length-placed n (x ∷ xs) = ap suc (length-placed (n + x.nodes) xs)

-- the first of the parts that are left
pub drop_scalars : (ps : List Part) (i : ℕ) (d : Part) → i < length ps
    → map scalar_of (drop i ps) ≡ scalar_of (get_or ps i d) ∷ map scalar_of (drop (i + 1) ps)
drop_scalars ps i d h = ap (map scalar_of) (drop-cons ps i d h) ∙ ap (λ k. scalar_of (get_or ps i d) ∷ map scalar_of (drop k ps)) (sym (add-one i))

pub appended-end : (p whole : Parts) (xs : List Scalar) → xs ≡ [] → appended p xs ≡ whole → p ≡ whole
appended-end p whole xs none e = sym (appended-nil p) ∙ ap (appended p) (sym none) ∙ e

-- one part more
pub appended-step : (p r whole : Parts) (ys xs left : List Scalar) → left ≡ ys ++ xs → r ≡ appended p ys
    → appended p left ≡ whole → appended r xs ≡ whole
appended-step p r whole ys xs left is one e =
    ap (λ s. appended s xs) one ∙ sym (appended-append p ys xs) ∙ ap (appended p) (sym is) ∙ e

pub room_left : (p q : Parts) (x : Scalar) (xs left ys : List Scalar) → left ≡ x ∷ xs → appended p left ≡ appended q ys
    → q.local + local_size ys < 2 ^ 32 → p.local + x.nodes < 2 ^ 32
room_left p q x xs left ys is e h = omega (arith, ap (λ r. r.local) (ap (appended p) (sym is) ∙ e))

pub left_over : (n i : ℕ) (xs : List Scalar) → i < n → repeated (n - i) xs ≡ xs ++ repeated (n - (i + 1)) xs
left_over n i xs h = let e : n - i ≡ suc (n - (i + 1)) = omega arith in ap (λ k. repeated k xs) e

pub none_left : (n i : ℕ) (xs : List Scalar) → n ≤ i → repeated (n - i) xs ≡ []
none_left n i xs h = let e : n - i ≡ 0 = omega arith in ap (λ k. repeated k xs) e

pub laid_out-is : (p : Parts) (xs : List Scalar) → p ≡ record { items = []; local = 0 } → appended p xs ≡ laid_out xs
laid_out-is p xs e = ap (λ q. appended q xs) e ∙ ap₂ (λ is n. record { items = is; local = n }) refl (omega arith)

pub appended-push : (p r whole : Parts) (x : Scalar) (xs left : List Scalar) → left ≡ x ∷ xs → r ≡ appended p (x ∷ [])
    → appended p left ≡ whole → appended r xs ≡ whole
appended-push p r whole x xs left is one e = appended-step p r whole (x ∷ []) xs left is one e

pub copies_left : (n : ℕ) (x : Scalar) → repeated (n - 0) (x ∷ []) ≡ repeated n (x ∷ [])
copies_left n x = let e : n - 0 ≡ n = omega arith in ap (λ k. repeated k (x ∷ [])) e
