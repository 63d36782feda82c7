-- What the map that holds the names says of them
use Rattle.std.proofs.Common.{◌≡◌, ◌⊎◌, inl, inr, ℕ, ◌+◌, ◌<◌, ◌≤◌, min, nat_lt, Bool, true, false, if◌then◌else◌, List, [], ◌∷◌, Option, Some, refl, sym, ap, ◌∙◌, arith}
use Rattle.std.proofs.lemmas.Bool.{cases_lt, lt-ltb}
use Rattle.std.specs.Str.{bytes_eq}
use Rattle.std.specs.Map.{lookup}
use Rattle.indexmap.specs.IndexMap.{insert_entry}
use denote.Bor.{Bor}
use Rattle.ufl_values.specs.Values.{nodes_of}
use Rattle.ufl_elab.specs.declared.bound.Bound.{Bound}
use Rattle.ufl_elab.specs.Names.{Name, assign, get, nodes_in}
use Rattle.ufl_elab.specs.Entries.{Entry, names_of, count_of, freed_of}

abbrev pub same_name : Bor (List ℕ) → Bor (List ℕ) → Bool
same_name a b = bytes_eq a.now b.now

chosen_bound : (b : Bool) (x : Bound) (o p : Option Bound) → o ≡ p → (if b then Some x else o) ≡ (if b then Some x else p)
chosen_bound true x o p e = refl
chosen_bound false x o p e = e

-- a name is looked up among the entries
pub get-names_of : (es : List Entry) (name : List ℕ) → get (names_of es) name ≡ lookup (λ k. bytes_eq name k.now) es
get-names_of [] name = refl
get-names_of (e ∷ es) name = chosen_bound (bytes_eq name e.0.now) e.1 (get (names_of es) name) (lookup (λ k. bytes_eq name k.now) es) (get-names_of es name)

assigned_by : (b : Bool) (e : Entry) (x : Bound) (es fs : List Entry) (ns : List Name) → names_of fs ≡ ns
    → names_of (if b then (e.0, x) ∷ es else e ∷ fs)
    ≡ (if b then record { name = e.0.now; bound = x } ∷ names_of es else record { name = e.0.now; bound = e.1 } ∷ ns)
assigned_by true e x es fs ns h = refl
assigned_by false e x es fs ns h = ap (λ l. record { name = e.0.now; bound = e.1 } ∷ l) h

pub assign-names_of : (es : List Entry) (k : Bor (List ℕ)) (b : Bound) → names_of (insert_entry same_name es k b) ≡ assign (names_of es) k.now b
assign-names_of [] k b = refl
assign-names_of (e ∷ es) k b =
    assigned_by (bytes_eq k.now e.0.now) e b es (insert_entry same_name es k b) (assign (names_of es) k.now b) (assign-names_of es k b)

counted_by : (t : Bool) (e : Entry) (x : Bound) (es fs : List Entry) (o : Option Bound) (n : ℕ)
    → count_of fs + freed_of o ≡ count_of es + n → n ≡ min (nodes_of x.value) 4294967295
    → count_of (if t then (e.0, x) ∷ es else e ∷ fs) + freed_of (if t then Some e.1 else o) ≡ count_of (e ∷ es) + n
counted_by true e x es fs o n h g = omega (arith, g)
counted_by false e x es fs o n h g = omega (arith, h)

pub count-insert : (es : List Entry) (k : Bor (List ℕ)) (b : Bound)
    → count_of (insert_entry same_name es k b) + freed_of (lookup (same_name k) es) ≡ count_of es + min (nodes_of b.value) 4294967295
count-insert [] k b = omega arith
count-insert (e ∷ es) k b =
    counted_by (bytes_eq k.now e.0.now) e b es (insert_entry same_name es k b) (lookup (same_name k) es) _ (count-insert es k b) refl

-- the counted nodes are the nodes, or both are too many
close_sum : (n t c : ℕ) → (t ≡ c) ⊎ ((1000000 < t) × (1000000 < c))
    → (n + t ≡ min n 4294967295 + c) ⊎ ((1000000 < n + t) × (1000000 < min n 4294967295 + c))
close_sum n t c (inr h) = inr (omega (arith, h.0), omega (arith, h.1))
close_sum n t c (inl e) = by_size (cases_lt n 4294967296)
  where
    by_size : (n < 4294967296) ⊎ (4294967296 ≤ n)
        → (n + t ≡ min n 4294967295 + c) ⊎ ((1000000 < n + t) × (1000000 < min n 4294967295 + c))
    by_size (inl h) = inl (omega (arith, e, h))
    by_size (inr h) = inr (omega (arith, h), omega (arith, h))

close : (es : List Entry) → (nodes_in (names_of es) ≡ count_of es) ⊎ ((1000000 < nodes_in (names_of es)) × (1000000 < count_of es))
close [] = inl refl
close (e ∷ es) = close_sum (nodes_of e.1.value) (nodes_in (names_of es)) (count_of es) (close es)

same_test : (t c : ℕ) → (t ≡ c) ⊎ ((1000000 < t) × (1000000 < c)) → nat_lt 1000000 t ≡ nat_lt 1000000 c
same_test t c (inl e) = ap (λ n. nat_lt 1000000 n) e
same_test t c (inr h) = lt-ltb 1000000 t h.0 ∙ sym (lt-ltb 1000000 c h.1)

pub same_limit : (es : List Entry) → nat_lt 1000000 (count_of es) ≡ nat_lt 1000000 (nodes_in (names_of es))
same_limit es = sym (same_test (nodes_in (names_of es)) (count_of es) (close es))
