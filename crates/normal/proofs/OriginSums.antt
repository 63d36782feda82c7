-- Monomials with the functions of others, after each step
use Rattle.std.proofs.Common.{◌≡◌, ℕ, zero, suc, ◌+◌, List, [], ◌∷◌, ◌++◌, ◌⊎◌, inl, inr, IsPermutation, refl, sym, ◌∙◌, ap, ap₂, arith}
use Rattle.std.specs.List.{AllByRecursion}
use Rattle.algebra.specs.Fraction.{Fraction}
use Rattle.ufl_tree.specs.declared.function.Function.{Function}
use Rattle.monos.specs.Monomial.{Monomial}
use Rattle.monos.specs.declared.mono.Atom.{Atom}
use Rattle.weigh.proofs.ListLaws.{all_append}
use Rattle.normal.specs.Bounding.{function_sum}
use Rattle.normal.specs.Collecting.{IsSortedOut, merged, nonzero}
use Rattle.normal.specs.Monomials.{all_negative, all_times, products, all_with, atoms_along, all_with_factor, all_derived, monos_along}
use Rattle.normal.specs.Origins.{HaveSameFunctions, HasOrigin, HaveOrigins}
use Rattle.normal.proofs.KeptLaws.{collected_keeps}
use Rattle.normal.proofs.OrderLaws.{in_any_order}

same_itself : (xs : List Atom) → HaveSameFunctions xs xs
same_itself xs = record { each = λ n. refl }

-- ---- more monomials to come from
pub later : (ks ls : List Monomial) (xs : List Atom) → HasOrigin ls xs → HasOrigin (ks ++ ls) xs
later [] ls xs h = h
later (k ∷ ks) ls xs h = inr (later ks ls xs h)

pub earlier : (ks ls : List Monomial) (xs : List Atom) → HasOrigin ks xs → HasOrigin (ks ++ ls) xs
earlier [] ls xs h = absurd h
earlier (k ∷ ks) ls xs (inl h) = inl h
earlier (k ∷ ks) ls xs (inr h) = inr (earlier ks ls xs h)

wider : (ks ls : List Monomial) → ((xs : List Atom) → HasOrigin ks xs → HasOrigin ls xs) → (ms : List Monomial) → HaveOrigins ks ms → HaveOrigins ls ms
wider ks ls f [] h = tt
wider ks ls f (m ∷ ms) h = (f m.atoms h.0, wider ks ls f ms h.1)

pub own_origins : (ms : List Monomial) → HaveOrigins ms ms
own_origins [] = tt
own_origins (m ∷ ms) = (inl (same_itself m.atoms), wider ms (m ∷ ms) (λ xs h. inr h) ms (own_origins ms))

pub joined_origins : (ks ls ms ns : List Monomial) → HaveOrigins ks ms → HaveOrigins ls ns → HaveOrigins (ks ++ ls) (ms ++ ns)
joined_origins ks ls ms ns g h = all_append (λ m. HasOrigin (ks ++ ls) m.atoms) ms ns (wider ks (ks ++ ls) (earlier ks ls) ms g) (wider ls (ks ++ ls) (later ks ls) ns h)

-- ---- the same functions in place of these
other_origin : (ks : List Monomial) (xs ys : List Atom) → HaveSameFunctions ys xs → HasOrigin ks xs → HasOrigin ks ys
other_origin [] xs ys e h = absurd h
other_origin (k ∷ ks) xs ys e (inl h) = inl (record { each = λ n. e.each n ∙ h.each n })
other_origin (k ∷ ks) xs ys e (inr h) = inr (other_origin ks xs ys e h)

turned : (a b c : ℕ) → a + (b + c) ≡ b + (a + c)
turned a b c = omega arith

in_other_order : (xs ys : List Atom) → IsPermutation xs ys → HaveSameFunctions ys xs
in_other_order xs ys h = record { each = λ n. in_any_order (λ (a : Atom) (k : ℕ). n a.f + k) (λ a b k. turned (n a.f) (n b.f) k) (function_sum n) (λ a more. refl) xs ys h }

pub collected_origins : (ks ms ps : List Monomial) → IsSortedOut ms ps → HaveOrigins ks ms → HaveOrigins ks (nonzero (merged ps))
collected_origins ks = collected_keeps (HasOrigin ks) (λ xs ys h k. other_origin ks xs ys (in_other_order xs ys h) k)

-- ---- the other sign
negative_origin : (ks : List Monomial) (xs : List Atom) → HasOrigin ks xs → HasOrigin (all_negative ks) xs
negative_origin [] xs h = absurd h
negative_origin (k ∷ ks) xs (inl h) = inl h
negative_origin (k ∷ ks) xs (inr h) = inr (negative_origin ks xs h)

pub negative_origins : (ks ms : List Monomial) → HaveOrigins ks ms → HaveOrigins (all_negative ks) (all_negative ms)
negative_origins ks [] h = tt
negative_origins ks (m ∷ ms) h = (negative_origin ks m.atoms h.0, negative_origins ks ms h.1)

-- ---- products
both_sums : (n : Function → ℕ) (xs ys : List Atom) → function_sum n (xs ++ ys) ≡ function_sum n xs + function_sum n ys
both_sums n [] ys = omega arith
both_sums n (x ∷ xs) ys = let h = both_sums n xs ys in omega (arith, h)

same_both : (xs ys us vs : List Atom) → HaveSameFunctions xs us → HaveSameFunctions ys vs → HaveSameFunctions (xs ++ ys) (us ++ vs)
same_both xs ys us vs g h = record { each = λ n. both_sums n xs ys ∙ ap₂ ◌+◌ (g.each n) (h.each n) ∙ sym (both_sums n us vs) }

row_origin : (k : Monomial) (ls : List Monomial) (xs ys : List Atom) → HaveSameFunctions xs k.atoms → HasOrigin ls ys → HasOrigin (all_times k ls) (xs ++ ys)
row_origin k [] xs ys g h = absurd h
row_origin k (l ∷ ls) xs ys g (inl h) = inl (same_both xs ys k.atoms l.atoms g h)
row_origin k (l ∷ ls) xs ys g (inr h) = inr (row_origin k ls xs ys g h)

product_origin : (ks ls : List Monomial) (xs ys : List Atom) → HasOrigin ks xs → HasOrigin ls ys → HasOrigin (products ks ls) (xs ++ ys)
product_origin [] ls xs ys g h = absurd g
product_origin (k ∷ ks) ls xs ys (inl g) h = earlier (all_times k ls) (products ks ls) (xs ++ ys) (row_origin k ls xs ys g h)
product_origin (k ∷ ks) ls xs ys (inr g) h = later (all_times k ls) (products ks ls) (xs ++ ys) (product_origin ks ls xs ys g h)

row_origins : (ks ls : List Monomial) (m : Monomial) (ns : List Monomial) → HasOrigin ks m.atoms → HaveOrigins ls ns → HaveOrigins (products ks ls) (all_times m ns)
row_origins ks ls m [] g h = tt
row_origins ks ls m (n ∷ ns) g h = (product_origin ks ls m.atoms n.atoms g h.0, row_origins ks ls m ns g h.1)

pub product_origins : (ks ls ms ns : List Monomial) → HaveOrigins ks ms → HaveOrigins ls ns → HaveOrigins (products ks ls) (products ms ns)
product_origins ks ls [] ns g h = tt
product_origins ks ls (m ∷ ms) ns g h =
    all_append (λ p. HasOrigin (products ks ls) p.atoms) (all_times m ns) (products ms ns) (row_origins ks ls m ns g.0 h) (product_origins ks ls ms ns g.1 h)

-- ---- derivatives
abbrev AllSame : List Atom → List (List Atom) → Type 0
AllSame xs all = AllByRecursion (λ (ys : List Atom). HaveSameFunctions ys xs) all

same_with : (a : Atom) (xs : List Atom) (all : List (List Atom)) → AllSame xs all → AllSame (a ∷ xs) (all_with a all)
same_with a xs [] h = tt
same_with a xs (y ∷ ys) h = (record { each = λ n. ap (λ k. n a.f + k) (h.0.each n) }, same_with a xs ys h.1)

same_along : (i : ℕ) (xs : List Atom) → AllSame xs (atoms_along i xs)
same_along i [] = tt
same_along i (a ∷ xs) = (record { each = λ n. refl }, same_with a xs (atoms_along i xs) (same_along i xs))

some_less_none : (n : ℕ) → suc n ≡ 0 → ⊥
some_less_none n h = omega (arith, h)

-- a product with a factor, whose functions are those of k, has a derivative with the functions of one of k
derived_here : (i : ℕ) (k : Monomial) (rest : List Monomial) (a : Atom) (xs ys : List Atom) → HaveSameFunctions (a ∷ xs) k.atoms → HaveSameFunctions ys (a ∷ xs)
    → HasOrigin (all_with_factor k.c (atoms_along i k.atoms) ++ rest) ys
derived_here i k rest a xs ys g h = go k.atoms (λ n. h.each n ∙ g.each n) (λ n. g.each n)
  where
    go : (us : List Atom) → ((n : Function → ℕ) → function_sum n ys ≡ function_sum n us) → ((n : Function → ℕ) → n a.f + function_sum n xs ≡ function_sum n us)
        → HasOrigin (all_with_factor k.c (atoms_along i us) ++ rest) ys
    go [] e f = absurd (some_less_none _ (one_more (function_sum (λ x. 1) xs) ∙ f (λ x. 1)))
      where
        one_more : (n : ℕ) → suc n ≡ 1 + n
        one_more n = omega arith
    go (u ∷ us) e f = inl (record { each = e })

derived_origin : (i : ℕ) (ks : List Monomial) (a : Atom) (xs ys : List Atom) → HaveSameFunctions ys (a ∷ xs) → HasOrigin ks (a ∷ xs) → HasOrigin (all_derived i ks) ys
derived_origin i [] a xs ys e h = absurd h
derived_origin i (k ∷ ks) a xs ys e (inl h) = derived_here i k (all_derived i ks) a xs ys h e
derived_origin i (k ∷ ks) a xs ys e (inr h) = later (all_with_factor k.c (atoms_along i k.atoms)) (all_derived i ks) ys (derived_origin i ks a xs ys e h)

factor_origins : (i : ℕ) (ks : List Monomial) (c : Fraction) (a : Atom) (xs : List Atom) (all : List (List Atom)) → AllSame (a ∷ xs) all → HasOrigin ks (a ∷ xs) → HaveOrigins (all_derived i ks) (all_with_factor c all)
factor_origins i ks c a xs [] e h = tt
factor_origins i ks c a xs (y ∷ ys) e h = (derived_origin i ks a xs y e.0 h, factor_origins i ks c a xs ys e.1 h)

mono_origins : (i : ℕ) (ks : List Monomial) (c : Fraction) (xs : List Atom) → HasOrigin ks xs → HaveOrigins (all_derived i ks) (all_with_factor c (atoms_along i xs))
mono_origins i ks c [] h = tt
mono_origins i ks c (a ∷ xs) h = factor_origins i ks c a xs (atoms_along i (a ∷ xs)) (same_along i (a ∷ xs)) h

derived_origins : (i : ℕ) (ks ms : List Monomial) → HaveOrigins ks ms → HaveOrigins (all_derived i ks) (all_derived i ms)
derived_origins i ks [] h = tt
derived_origins i ks (m ∷ ms) h =
    all_append (λ p. HasOrigin (all_derived i ks) p.atoms) (all_with_factor m.c (atoms_along i m.atoms)) (all_derived i ms) (mono_origins i ks m.c m.atoms h.0) (derived_origins i ks ms h.1)

pub along_origins : (i : ℕ) (ks ms : List Monomial) → HaveOrigins ks ms → HaveOrigins (monos_along i ks) (monos_along i ms)
along_origins zero ks ms h = derived_origins 0 ks ms h
along_origins (suc zero) ks ms h = derived_origins 1 ks ms h
along_origins (suc (suc zero)) ks ms h = derived_origins 2 ks ms h
along_origins (suc (suc (suc i))) ks ms h = tt
