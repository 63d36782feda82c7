-- The atoms from the last one on
use Rattle.std.proofs.Common.{◌≡◌, ℕ, ◌+◌, ◌-◌, ◌<◌, ◌≤◌, List, [], ◌∷◌, length, get_or, drop, map, refl, sym, ap, ◌∙◌, subst, arith, add-one, drop-cons}
use Rattle.std.proofs.Math.Nat.{pow-zero}
use Rattle.std.proofs.lemmas.List.{drop_all}
use Rattle.calculus.specs.Polynomial.{one}
use Rattle.polyalg.specs.Terms.{value_of}
use Rattle.ufl_tree.specs.declared.function.Role.{Role}
use Rattle.monos.specs.declared.layout.Layout.{Layout}
use Rattle.monos.specs.declared.mono.Atom.{Atom}
use Rattle.basis_products.specs.declared.products.Products.{Products}
use Rattle.basis_products.specs.Functions.{AreBounded}
use Rattle.basis_products.proofs.Lists.{all_drop}
use Rattle.monomial_products.specs.declared.support.Support.{Support}
use Rattle.monomial_products.specs.Supports.{AreOn}
use Rattle.monomial_products.specs.Formed.{AreProductsOf}

drop_here : {A : Type 0} (xs : List A) (i : ℕ) (d : A) → i < length xs → drop i xs ≡ get_or xs i d ∷ drop (i + 1) xs
drop_here xs i d h = rw (add-one, drop-cons xs i d) refl

pub suffix_next : {A : Type 0} (xs : List A) (k : ℕ) (d : A) → k < length xs → drop (length xs - (k + 1)) xs ≡ get_or xs (length xs - 1 - k) d ∷ drop (length xs - k) xs
suffix_next xs k d h =
    ap (λ i. drop i xs) (first (length xs) k) ∙ drop_here xs (length xs - 1 - k) d (omega arith) ∙ ap (λ i. get_or xs (length xs - 1 - k) d ∷ drop i xs) (next (length xs) k h)
  where
    first : (n k : ℕ) → n - (k + 1) ≡ n - 1 - k
    first n k = omega arith

    next : (n k : ℕ) → k < n → n - 1 - k + 1 ≡ n - k
    next n k h = omega arith

pub suffix_on : (l : Layout) (r : Role) (s : Support) (xs : List Atom) (k : ℕ) (d : Atom) → k < length xs → AreOn l r s xs → AreOn l r s (get_or xs (length xs - 1 - k) d ∷ drop (length xs - k) xs)
suffix_on l r s xs k d h on = subst (AreOn l r s) (suffix_next xs k d h) (all_drop _ (length xs - (k + 1)) xs on)

pub whole_suffix : {A : Type 0} (xs : List A) (k : ℕ) → length xs ≤ k → drop (length xs - k) xs ≡ xs
whole_suffix xs k h = ap (λ n. drop n xs) (none (length xs) k h) ∙ whole xs
  where
    none : (n k : ℕ) → n ≤ k → n - k ≡ 0
    none n k h = omega arith

    whole : {A : Type 0} (xs : List A) → drop 0 xs ≡ xs
    whole [] = refl
    whole (x ∷ xs) = refl

pub no_suffix : {A : Type 0} (xs : List A) → drop (length xs - 0) xs ≡ []
no_suffix xs = drop_all (length xs - 0) xs (omega arith)

pub start_products : (l : Layout) (tests trials : Support) (p : Products) → map value_of p.items.items ≡ one ∷ [] → p.sizes ≡ record { tests = 1; trials = 1; nodes = 1; directions = 1 }
    → AreBounded l.d 0 1 1 p.items.items → AreProductsOf l tests trials [] p
start_products l tests trials p v s b =
    record { items = v; sizes = s ∙ ap (λ d. record { tests = 1; trials = 1; nodes = 1; directions = d }) (sym (pow-zero l.d)); bounds = b }
