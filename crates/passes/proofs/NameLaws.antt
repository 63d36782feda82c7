-- Names and what stands for them, one step further
use Rattle.std.proofs.Common.{◌≡◌, ℕ, suc, ◌+◌, ◌<◌, refl, sym, ◌∙◌, ap, ap₂, List, [], ◌∷◌, ◌++◌, length, take, get_or, map, if◌then◌else◌, ◌==◌, arith, Result, Ok, Err, OnOk}
use Rattle.std.proofs.lemmas.Grind.{take_at_read}
use Rattle.ufl_tree.specs.declared.function.Free.{Free}
use Rattle.ufl_tree.specs.declared.function.Ix.{Ix}
use Rattle.ufl_tree.specs.declared.function.Ix.TheVariants.{Named}
use Rattle.ufl_tree.specs.Term.{Term, over}
use Rattle.lower.specs.Renaming.{Renaming, with_index, renamed, all_renamed}
use Rattle.lower.specs.Lowering.{Lowered, with_indices, over_names, over_components}
use Rattle.passes.specs.declared.names.Binding.{Binding}
use Rattle.passes.specs.Names.{renaming_after, renaming_of, with_names_from, names_from, sums_around}

-- ---- bindings
renaming_after-push : (r : Renaming) (bs : List Binding) (b : Binding) → renaming_after r (bs ++ b ∷ []) ≡ with_index b.name b.index (renaming_after r bs)
renaming_after-push r [] b = refl
renaming_after-push r (a ∷ bs) b = renaming_after-push (with_index a.name a.index r) bs b

pub renaming_of-push : (bs : List Binding) (b : Binding) → renaming_of (bs ++ b ∷ []) ≡ with_index b.name b.index (renaming_of bs)
renaming_of-push bs b = renaming_after-push Named bs b

pub looked : (bs : List Binding) (i : ℕ) (d : Binding) (name : ℕ) (index : Ix) → i < length bs → index ≡ renaming_of (take i bs) name
    → (if name == (get_or bs i d).name then (get_or bs i d).index else index) ≡ renaming_of (take (i + 1) bs) name
looked bs i d name index h was =
    let b = get_or bs i d in
    ap (λ x. if name == b.name then b.index else x) was ∙ sym (ap (λ r. r name) (ap renaming_of (take_at_read bs i d h).1 ∙ renaming_of-push (take i bs) b))

all_renamed-push : (r : Renaming) (at : List Ix) (i : Ix) → all_renamed r (at ++ i ∷ []) ≡ all_renamed r at ++ renamed r i ∷ []
all_renamed-push r [] i = refl
all_renamed-push r (j ∷ at) i = ap (λ ks. renamed r j ∷ ks) (all_renamed-push r at i)

pub listed : (r : Renaming) (at : List Ix) (i : ℕ) (d : Ix) (all more : List Ix) (k : Ix) → i < length at → all ≡ all_renamed r (take i at)
    → more ≡ all ++ k ∷ [] → k ≡ renamed r (get_or at i d) → more ≡ all_renamed r (take (i + 1) at)
listed r at i d all more k h was now is =
    now ∙ ap₂ (λ ks k. ks ++ k ∷ []) was is ∙ sym (ap (all_renamed r) (take_at_read at i d h).1 ∙ all_renamed-push r (take i at) (get_or at i d))

pub bound_next : (new : Renaming) (by by' : List ℕ) (at at' : List Ix) (i : ℕ) (x : Ix) (old more : List Binding) → by ≡ i ∷ by' → at ≡ x ∷ at' → more ≡ old ++ record { name = i; index = x } ∷ []
    → new ≡ with_indices by' at' (renaming_of more) → new ≡ with_indices by at (renaming_of old)
bound_next new by by' at at' i x old more hb ha hm h =
    h ∙ ap (with_indices by' at') (ap renaming_of hm ∙ renaming_of-push old (record { name = i; index = x })) ∙ sym (ap₂ (λ p q. with_indices p q (renaming_of old)) hb ha)

pub summed_next : (new : Renaming) (xs xs' : List Free) (x : Free) (n m k : ℕ) (old more : List Binding) → xs ≡ x ∷ xs' → k ≡ n → m ≡ suc n → more ≡ old ++ record { name = x.index; index = Named k } ∷ []
    → new ≡ with_names_from xs' m (renaming_of more) → new ≡ with_names_from xs n (renaming_of old)
summed_next new xs xs' x n m k old more hx hk hn hm h =
    h
    ∙ ap₂ (λ m r. with_names_from xs' m r) hn (ap renaming_of hm ∙ renaming_of-push old (record { name = x.index; index = Named k }) ∙ ap (λ j. with_index x.index (Named j) (renaming_of old)) hk)
    ∙ sym (ap (λ p. with_names_from p n (renaming_of old)) hx)

pub named_next : (new old more : List Ix) (ds ds' : List ℕ) (d n m k : ℕ) → ds ≡ d ∷ ds' → k ≡ n → m ≡ suc n → more ≡ old ++ Named k ∷ [] → new ≡ more ++ names_from ds' m → new ≡ old ++ names_from ds n
named_next new old more ds ds' d n m k hd hk hn hm h =
    h
    ∙ ap₂ (λ xs ys. xs ++ ys) (hm ∙ ap (λ j. old ++ Named j ∷ []) hk) (ap (names_from ds') hn)
    ∙ append-push old (Named n) (names_from ds' (suc n))
    ∙ sym (ap (λ p. old ++ names_from p n) hd)
  where
    append-push : (xs : List Ix) (x : Ix) (ys : List Ix) → (xs ++ x ∷ []) ++ ys ≡ xs ++ (x ∷ ys)
    append-push [] x ys = refl
    append-push (y ∷ xs) x ys = ap (λ zs. y ∷ zs) (append-push xs x ys)

-- what follows from what is said of an answer
pub on_ok : {A E : Type 0} {P Q : Type 0} (r : Result A E) → (P → Q) → OnOk r P → OnOk r Q
on_ok (Ok x) f h = f h
on_ok (Err e) f h = tt

-- ---- sums over names that are counted up
behind_none : (n : ℕ) → n ≡ n + 0
behind_none n = omega arith

behind_one : (n m : ℕ) → suc n + m ≡ n + suc m
behind_one n m = omega arith

pub sums_named : (f : Renaming → ℕ → Term) (xs : List Free) (r : Renaming) (n : ℕ)
    → over_names xs f r n ≡ sums_around (map (λ x. x.dim) xs) n (f (with_names_from xs n r) (n + length xs))
sums_named f [] r n = ap (f r) (behind_none n)
sums_named f (x ∷ xs) r n =
    ap (over n x.dim)
    (sums_named f xs (with_index x.index (Named n) r) (suc n)
    ∙ ap (λ m. sums_around (map (λ x. x.dim) xs) (suc n) (f (with_names_from xs (suc n) (with_index x.index (Named n) r)) m)) (behind_one n (length xs)))

pub sums_listed : (ds : List ℕ) (f : Lowered) (n : ℕ) → over_components ds f n ≡ sums_around ds n (f (names_from ds n) (n + length ds))
sums_listed [] f n = ap (f []) (behind_none n)
sums_listed (d ∷ ds) f n =
    ap (over n d)
    (sums_listed ds (λ c m. f (Named n ∷ c) m) (suc n) ∙ ap (λ m. sums_around ds (suc n) (f (Named n ∷ names_from ds (suc n)) m)) (behind_one n (length ds)))
