-- The items of a group, with one more
use Rattle.std.proofs.Common.{◌≡◌, ◌⊎◌, inl, inr, ℕ, ◌+◌, ◌<◌, ◌≤◌, min, max, Bool, true, false, ◌&&◌, ◌||◌, nat_le, List, [], ◌∷◌, ◌++◌, map, Result, Ok, Err, OnOk, refl, sym, ap, ◌∙◌, arith}
use Rattle.std.proofs.lemmas.Bool.{true≢false, leb-true, leb-false, le-leb, lt-leb}
use Rattle.ufl_values.specs.declared.value.Value.{Value}
use Rattle.ufl_values.specs.Values.{total, highest, nodes_of, height_of}
use Rattle.ufl_values.specs.declared.refusal.Reason.TheVariants as r
use Rattle.ufl_calls.specs.declared.group.Group.{Group}
use Rattle.ufl_calls.specs.Groups.{is_small, IsGroup, grouped}

pub total_also : (f : Value → ℕ) (vs : List Value) (a : Value) → total (map f (vs ++ a ∷ [])) ≡ total (map f vs) + f a
total_also f [] a = omega arith
total_also f (v ∷ vs) a = let e = total_also f vs a in omega arith

pub highest_also : (f : Value → ℕ) (vs : List Value) (a : Value) → highest (map f (vs ++ a ∷ [])) ≡ max (highest (map f vs)) (f a)
highest_also f [] a = omega arith
highest_also f (v ∷ vs) a = let e = highest_also f vs a in omega arith

pub nodes_also : (vs : List Value) (a : Value) (n : ℕ) → n ≡ min (total (map nodes_of vs)) 4294967295
    → min (n + min (nodes_of a) 4294967295) 4294967295 ≡ min (total (map nodes_of (vs ++ a ∷ []))) 4294967295
nodes_also vs a n e = let g = total_also nodes_of vs a in omega arith

pub height_also : (vs : List Value) (a : Value) (h : ℕ) → h ≡ min (highest (map height_of vs)) 4294967295
    → max h (min (height_of a) 4294967295) ≡ min (highest (map height_of (vs ++ a ∷ []))) 4294967295
height_also vs a h e = let g = highest_also height_of vs a in omega arith

neither : (a b : Bool) → (a || b) ≡ false → (a ≡ false) × (b ≡ false)
neither true b e = absurd (true≢false e)
neither false b e = (refl, e)

either : (a b : Bool) → (a || b) ≡ true → (a ≡ true) ⊎ (b ≡ true)
either true b e = inl refl
either false b e = inr e

both : (a b : Bool) → a ≡ true → b ≡ true → (a && b) ≡ true
both a b e f = rw (e, f)

both_of : (a b : Bool) → (a && b) ≡ true → (a ≡ true) × (b ≡ true)
both_of true b e = (refl, e)
both_of false b e = absurd (true≢false (sym e))

first_false : (a b : Bool) → a ≡ false → (a && b) ≡ false
first_false a b e = rw e

second_false : (a b : Bool) → b ≡ false → (a && b) ≡ false
second_false true b e = e
second_false false b e = refl

-- the test of the numbers that a group keeps is that of its items
pub not_large : (n h t k : ℕ) → n ≡ min t 4294967295 → h ≡ min k 4294967295 → (nat_le 10000 n || nat_le 128 h) ≡ false
    → (nat_le t 9999 && nat_le k 127) ≡ true
not_large n h t k e g f =
    let p = neither (nat_le 10000 n) (nat_le 128 h) f in
    let few : n < 10000 = leb-false 10000 n p.0 in
    let flat : h < 128 = leb-false 128 h p.1 in
    both (nat_le t 9999) (nat_le k 127) (le-leb t 9999 (omega (arith, e, few))) (le-leb k 127 (omega (arith, g, flat)))

pub is_large : (n h t k : ℕ) → n ≡ min t 4294967295 → h ≡ min k 4294967295 → (nat_le 10000 n || nat_le 128 h) ≡ true
    → (nat_le t 9999 && nat_le k 127) ≡ false
is_large n h t k e g f = side (either (nat_le 10000 n) (nat_le 128 h) f)
  where
    side : (nat_le 10000 n ≡ true) ⊎ (nat_le 128 h ≡ true) → (nat_le t 9999 && nat_le k 127) ≡ false
    side (inl p) =
        let many : 10000 ≤ n = leb-true 10000 n p in
        first_false (nat_le t 9999) (nat_le k 127) (lt-leb t 9999 (omega (arith, e, many)))
    side (inr p) =
        let high : 128 ≤ h = leb-true 128 h p in
        second_false (nat_le t 9999) (nat_le k 127) (lt-leb k 127 (omega (arith, g, high)))

-- the front of small items is small
pub smaller : (t k n h : ℕ) → (nat_le (t + n) 9999 && nat_le (max k h) 127) ≡ true → (nat_le t 9999 && nat_le k 127) ≡ true
smaller t k n h e =
    let p = both_of (nat_le (t + n) 9999) (nat_le (max k h) 127) e in
    let few : t + n ≤ 9999 = leb-true (t + n) 9999 p.0 in
    let flat : max k h ≤ 127 = leb-true (max k h) 127 p.1 in
    both (nat_le t 9999) (nat_le k 127) (le-leb t 9999 (omega (arith, few))) (le-leb k 127 (omega (arith, flat)))

pub small_front : (vs : List Value) (a : Value) → is_small (vs ++ a ∷ []) ≡ true → is_small vs ≡ true
small_front vs a e =
    smaller (total (map nodes_of vs)) (highest (map height_of vs)) (nodes_of a) (height_of a)
    (sym (ap (λ n. nat_le n 9999 && nat_le (highest (map height_of (vs ++ a ∷ []))) 127) (total_also nodes_of vs a)
    ∙ ap (λ h. nat_le (total (map nodes_of vs) + nodes_of a) 9999 && nat_le h 127) (highest_also height_of vs a)) ∙ e)

-- a group that the item makes too large
pub pushed_large : (vs : List Value) (a : Value) (g h : Group) → IsGroup vs g
    → h.nodes ≡ min (g.nodes + min (nodes_of a) 4294967295) 4294967295 → h.height ≡ max g.height (min (height_of a) 4294967295)
    → (nat_le 10000 h.nodes || nat_le 128 h.height) ≡ true → IsGroup (vs ++ a ∷ []) h
pushed_large vs a g h is n k large =
    let nodes : h.nodes ≡ min (total (map nodes_of (vs ++ a ∷ []))) 4294967295 = n ∙ nodes_also vs a g.nodes is.0 in
    let height : h.height ≡ min (highest (map height_of (vs ++ a ∷ []))) 4294967295 = k ∙ height_also vs a g.height is.1 in
    (nodes, height, λ small. absurd (true≢false (sym small ∙ is_large h.nodes h.height _ _ nodes height large)))

-- a group with the item
pub pushed_small : (vs : List Value) (a : Value) (g h : Group) → IsGroup vs g
    → h.nodes ≡ min (g.nodes + min (nodes_of a) 4294967295) 4294967295 → h.height ≡ max g.height (min (height_of a) 4294967295)
    → h.items ≡ g.items ++ a ∷ [] → IsGroup (vs ++ a ∷ []) h
pushed_small vs a g h is n k items = (
  n ∙ nodes_also vs a g.nodes is.0,
  k ∙ height_also vs a g.height is.1,
  λ small. items ∙ ap (λ xs. xs ++ a ∷ []) (is.2 (small_front vs a small)),
)

pub finished_large : (vs : List Value) (g : Group) → IsGroup vs g → (nat_le 10000 g.nodes || nat_le 128 g.height) ≡ true
    → Err r.Nodes ≡ grouped vs
finished_large vs g is large = rw (is_large g.nodes g.height _ _ is.0 is.1 large)

pub finished_small : (vs : List Value) (g : Group) → IsGroup vs g → (nat_le 10000 g.nodes || nat_le 128 g.height) ≡ false
    → Ok g.items ≡ grouped vs
finished_small vs g is small = let e = not_large g.nodes g.height _ _ is.0 is.1 small in rw (e, is.2 e)

-- what follows from what a call promises where it succeeds
pub ok_gives : {A E : Type 0} (r : Result A E) {P Q : Type 0} → (P → Q) → OnOk r P → OnOk r Q
ok_gives (Ok a) f p = f p
ok_gives (Err e) f p = tt
