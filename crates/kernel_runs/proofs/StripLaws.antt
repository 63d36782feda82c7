-- Items of strips and of outer products
use Rattle.std.proofs.Common.{◌≡◌, ℕ, zero, suc, ◌+◌, ◌*◌, ◌<◌, refl, sym, ◌∙◌, ap, ap₂, arith, length, map, append_assoc, List, [], ◌∷◌, ◌++◌}
use Rattle.algebra.specs.Fraction.{Fraction, one_fraction, mul, mul_comm, mul_assoc}
use Rattle.kernel_runs.specs.Strips.{item, strip, outer}
use Rattle.refint.specs.Digits.{columns}

pub strip_length : (xs : List Fraction) (base step n : ℕ) → length (strip xs base step n) ≡ n
strip_length xs base step zero = refl
strip_length xs base step (suc n) = ap suc (strip_length xs (base + step) step n)

pub strip_item : (xs : List Fraction) (base step n j : ℕ) → j < n → item (strip xs base step n) j ≡ item xs (base + step * j)
strip_item xs base step zero j h = absurd (omega arith)
strip_item xs base step (suc n) zero h = ap (item xs) (first base step)
  where
    first : (base step : ℕ) → base ≡ base + step * 0
    first base step = omega arith
strip_item xs base step (suc n) (suc j) h = strip_item xs (base + step) step n j (omega arith) ∙ ap (item xs) (later base step j)
  where
    later : (base step j : ℕ) → base + step + step * j ≡ base + step * suc j
    later base step j = omega arith

-- a strip is the list whose items stand at its places
pub strip_is : (xs : List Fraction) (base step : ℕ) (ys : List Fraction) → ((j : ℕ) → j < length ys → item xs (base + step * j) ≡ item ys j) → strip xs base step (length ys) ≡ ys
strip_is xs base step [] h = refl
strip_is xs base step (y ∷ ys) h =
    ap₂ ◌∷◌ (ap (item xs) (first base step) ∙ h 0 (some (length ys)))
    (strip_is xs (base + step) step ys (λ j l. ap (item xs) (later base step j) ∙ h (suc j) (more j (length ys) l)))
  where
    first : (base step : ℕ) → base ≡ base + step * 0
    first base step = omega arith

    some : (n : ℕ) → 0 < suc n
    some n = omega arith

    later : (base step j : ℕ) → base + step + step * j ≡ base + step * suc j
    later base step j = omega arith

    more : (j n : ℕ) → j < n → suc j < suc n
    more j n l = omega arith

pub strip_same : (xs ys : List Fraction) (base step n : ℕ) → ((j : ℕ) → j < n → item xs (base + step * j) ≡ item ys (base + step * j)) → strip xs base step n ≡ strip ys base step n
strip_same xs ys base step zero h = refl
strip_same xs ys base step (suc n) h =
    ap₂ ◌∷◌ (ap (item xs) (first base step) ∙ h 0 (some n) ∙ ap (item ys) (sym (first base step)))
    (strip_same xs ys (base + step) step n (λ j l. ap (item xs) (later base step j) ∙ h (suc j) (more j n l) ∙ ap (item ys) (sym (later base step j))))
  where
    first : (base step : ℕ) → base ≡ base + step * 0
    first base step = omega arith

    some : (n : ℕ) → 0 < suc n
    some n = omega arith

    later : (base step j : ℕ) → base + step + step * j ≡ base + step * suc j
    later base step j = omega arith

    more : (j n : ℕ) → j < n → suc j < suc n
    more j n l = omega arith

pub in_front : (xs ys : List Fraction) (b : ℕ) → b < length xs → item (xs ++ ys) b ≡ item xs b
in_front [] ys b h = absurd (omega arith)
in_front (x ∷ xs) ys zero h = refl
in_front (x ∷ xs) ys (suc b) h = in_front xs ys b (omega arith)

pub behind : (xs ys : List Fraction) (n : ℕ) → item (xs ++ ys) (length xs + n) ≡ item ys n
behind [] ys n = ap (item ys) (none n)
  where
    none : (n : ℕ) → 0 + n ≡ n
    none n = omega arith
behind (x ∷ xs) ys n = ap (item (x ∷ xs ++ ys)) (one (length xs) n) ∙ behind xs ys n
  where
    one : (m n : ℕ) → suc m + n ≡ suc (m + n)
    one m n = omega arith

mapped : (f : Fraction → Fraction) (ys : List Fraction) (b : ℕ) → b < length ys → item (map f ys) b ≡ f (item ys b)
mapped f [] b h = absurd (omega arith)
mapped f (y ∷ ys) zero h = refl
mapped f (y ∷ ys) (suc b) h = mapped f ys b (omega arith)

mapped_length : (f : Fraction → Fraction) (ys : List Fraction) → length (map f ys) ≡ length ys
mapped_length f [] = refl
mapped_length f (y ∷ ys) = ap suc (mapped_length f ys)

-- item q*a + b of an outer product
pub outer_at : (xs ys : List Fraction) (a b : ℕ) → a < length xs → b < length ys → item (outer xs ys) (length ys * a + b) ≡ mul (item xs a) (item ys b)
outer_at [] ys a b h k = absurd (omega arith)
outer_at (x ∷ xs) ys zero b h k =
    ap (λ n. item (map (mul x) ys ++ outer xs ys) n) (first (length ys) b)
    ∙ in_front (map (mul x) ys) (outer xs ys) b (let e = mapped_length (mul x) ys in omega arith)
    ∙ mapped (mul x) ys b k
  where
    first : (q b : ℕ) → q * 0 + b ≡ b
    first q b = omega arith
outer_at (x ∷ xs) ys (suc a) b h k =
    ap (λ n. item (map (mul x) ys ++ outer xs ys) n) (later (length ys) a b ∙ ap (λ n. n + (length ys * a + b)) (sym (mapped_length (mul x) ys)))
    ∙ behind (map (mul x) ys) (outer xs ys) (length ys * a + b)
    ∙ outer_at xs ys a b (omega arith) k
  where
    later : (q a b : ℕ) → q * suc a + b ≡ q + (q * a + b)
    later q a b = omega arith

pub outer_length : (xs ys : List Fraction) → length (outer xs ys) ≡ length xs * length ys
outer_length [] ys = nothing (length ys)
  where
    nothing : (n : ℕ) → 0 ≡ 0 * n
    nothing n = omega arith
outer_length (x ∷ xs) ys = joined (map (mul x) ys) (outer xs ys) ∙ ap₂ ◌+◌ (mapped_length (mul x) ys) (outer_length xs ys) ∙ one (length xs) (length ys)
  where
    joined : (us vs : List Fraction) → length (us ++ vs) ≡ length us + length vs
    joined [] vs = sym (none (length vs))
      where
        none : (n : ℕ) → 0 + n ≡ n
        none n = omega arith
    joined (u ∷ us) vs = ap suc (joined us vs) ∙ sym (more (length us) (length vs))
      where
        more : (m n : ℕ) → suc m + n ≡ suc (m + n)
        more m n = omega arith

    one : (m n : ℕ) → n + m * n ≡ suc m * n
    one m n = omega arith

pub outer_append : (xs ys g : List Fraction) → outer (xs ++ ys) g ≡ outer xs g ++ outer ys g
outer_append [] ys g = refl
outer_append (x ∷ xs) ys g = ap (λ r. map (mul x) g ++ r) (outer_append xs ys g) ∙ sym (append_assoc (map (mul x) g) (outer xs g) (outer ys g))

pub map_append : (f : Fraction → Fraction) (us vs : List Fraction) → map f (us ++ vs) ≡ map f us ++ map f vs
map_append f [] vs = refl
map_append f (u ∷ us) vs = ap (λ r. f u ∷ r) (map_append f us vs)

scaled : (c x : Fraction) (g : List Fraction) → map (mul (mul c x)) g ≡ map (mul c) (map (mul x) g)
scaled c x [] = refl
scaled c x (z ∷ g) = ap₂ ◌∷◌ (mul_assoc c x z) (scaled c x g)

-- a factor of the slow list, or of the fast one, is a factor of the products
pub outer_scaled : (c : Fraction) (xs g : List Fraction) → outer (map (mul c) xs) g ≡ map (mul c) (outer xs g)
outer_scaled c [] g = refl
outer_scaled c (x ∷ xs) g = ap₂ ◌++◌ (scaled c x g) (outer_scaled c xs g) ∙ sym (map_append (mul c) (map (mul x) g) (outer xs g))

pub scaled_outer : (c : Fraction) (g xs : List Fraction) → outer g (map (mul c) xs) ≡ map (mul c) (outer g xs)
scaled_outer c [] xs = refl
scaled_outer c (x ∷ g) xs = ap₂ ◌++◌ (turned x xs) (scaled_outer c g xs) ∙ sym (map_append (mul c) (map (mul x) xs) (outer g xs))
  where
    turned : (x : Fraction) (xs : List Fraction) → map (mul x) (map (mul c) xs) ≡ map (mul c) (map (mul x) xs)
    turned x [] = refl
    turned x (y ∷ xs) = ap₂ ◌∷◌ (sym (mul_assoc x c y) ∙ ap (λ z. mul z y) (mul_comm x c) ∙ mul_assoc c x y) (turned x xs)

-- one more factor, whose digit runs fastest
pub columns_append : (fs : List (List Fraction)) (g : List Fraction) → columns (fs ++ g ∷ []) ≡ outer (columns fs) g
columns_append [] g = whole g
  where
    whole : (g : List Fraction) → outer g (one_fraction ∷ []) ≡ map (mul one_fraction) g ++ []
    whole [] = refl
    whole (x ∷ g) = ap₂ ◌∷◌ (mul_comm x one_fraction) (whole g)
columns_append (f ∷ fs) g = ap (outer f) (columns_append fs g) ∙ rows f
  where
    rows : (f : List Fraction) → outer f (outer (columns fs) g) ≡ outer (outer f (columns fs)) g
    rows [] = refl
    rows (x ∷ f) =
        ap₂ ◌++◌ (sym (outer_scaled x (columns fs) g)) (rows f)
        ∙ sym (outer_append (map (mul x) (columns fs)) (outer f (columns fs)) g)
