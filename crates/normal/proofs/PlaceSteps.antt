-- Places of components with none, one and two indices
use Rattle.std.proofs.Common.{◌≡◌, ℕ, ◌+◌, ◌*◌, Bool, true, false, List, [], ◌∷◌, nat_lt, if◌then◌else◌, Option, None, Some, refl, sym, ◌∙◌, ap, arith}
use Rattle.spaces.specs.Space.{Space}
use Rattle.spaces.specs.Reading.{space_of}
use Rattle.spaces.specs.declared.element_tree.ElementTree.{ElementTree}
use Rattle.ufl_tree.specs.Places.{element_shape}
use Rattle.ufl_tree.specs.Indices.{place, place_from}

-- behind the first n components
abbrev pub behind : ℕ → Option ℕ → Option ℕ
behind n None = None
behind n (Some k) = Some (n + k)

abbrev none : Option ℕ
none = None

pub one_index : (d k : ℕ) → place (d ∷ []) (k ∷ []) ≡ (if nat_lt k d then Some k else None)
one_index d k = ap (λ n. if nat_lt k d then Some n else None) (whole d k)
  where
    whole : (d k : ℕ) → 0 * d + k ≡ k
    whole d k = omega arith

pub more_than_one : (d k j : ℕ) (js : List ℕ) → place (d ∷ []) (k ∷ j ∷ js) ≡ None
more_than_one d k j js = go (nat_lt k d)
  where
    go : (b : Bool) → (if b then None else None) ≡ none
    go true = refl
    go false = refl

row_at : (n d : ℕ) (ks : List ℕ) → place_from n (d ∷ []) ks ≡ behind (n * d) (place (d ∷ []) ks)
row_at n d [] = refl
row_at n d (k ∷ []) = go (nat_lt k d)
  where
    whole : (m d k : ℕ) → m + k ≡ m + (0 * d + k)
    whole m d k = omega arith

    go : (b : Bool) → (if b then Some (n * d + k) else None) ≡ behind (n * d) (if b then Some (0 * d + k) else None)
    go true = ap Some (whole (n * d) d k)
    go false = refl
row_at n d (k ∷ j ∷ js) = go (nat_lt k d)
  where
    go : (b : Bool) → (if b then None else None) ≡ behind (n * d) (if b then None else None)
    go true = refl
    go false = refl

pub first_index : (m n k : ℕ) (ks : List ℕ) → place (m ∷ n ∷ []) (k ∷ ks) ≡ (if nat_lt k m then behind (k * n) (place (n ∷ []) ks) else None)
first_index m n k ks = ap (λ p. if nat_lt k m then p else None) (ap (λ i. place_from i (n ∷ []) ks) (whole m k) ∙ row_at k n ks)
  where
    whole : (d k : ℕ) → 0 * d + k ≡ k
    whole d k = omega arith

pub no_index : (m n : ℕ) → place (m ∷ n ∷ []) [] ≡ None
no_index m n = refl

pub shape_at : (t : ElementTree) (s : Space) (ks : List ℕ) → space_of t ≡ s → place (element_shape s) ks ≡ place (element_shape (space_of t)) ks
shape_at t s ks e = ap (λ x. place (element_shape x) ks) (sym e)
