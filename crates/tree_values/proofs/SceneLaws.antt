-- Names and environments, one step further
use Rattle.std.proofs.Common.{◌≡◌, ℕ, zero, suc, ◌+◌, ◌<◌, ◌≤◌, refl, sym, ◌∙◌, ap, ap₂, List, [], ◌∷◌, ◌++◌, length, take, get_or, if◌then◌else◌, add-one, ◌==◌, ◌&&◌, Bool, true, false, arith, IfOk, Result, Ok, Err}
use Rattle.std.proofs.lemmas.Grind.{take_at_read}
use Rattle.std.proofs.lemmas.List.{take_all}
use Rattle.calculus.specs.Polynomial.{Polynomial, polynomials, plus, times, plus_assoc, plus-nil}
use Rattle.algebra.specs.RingLaws as L
use Rattle.ufl_tree.specs.declared.function.Free.{Free}
use Rattle.ufl_tree.specs.declared.function.Ix.{Ix}
use Rattle.ufl_tree.specs.declared.function.Role.{Role}
use Rattle.ufl_tree.specs.Indices.{Names, with_name, with_names, index_value, index_values}
use Rattle.ufl_meaning.specs.Environment.{Environment, parameter, same_role, same_list}
use Rattle.calculus.specs.Integral.{sum_below}
use Rattle.ufl_meaning.specs.Operators.{sum_names}
use Rattle.tree_values.specs.declared.environment.Given.{Given}
use Rattle.tree_values.specs.declared.environment.Change.{Change}
use Rattle.tree_values.specs.declared.environment.Change.TheVariants.{Raised, Turned, Scaled, Replaced, Exchanged}
use Rattle.tree_values.specs.declared.scene.Bound.{Bound}
use Rattle.tree_values.specs.Scene.{names_after, names_of, gathered, assigned, sum_over, at_rest, changed, changed_all, environment_of, parameters_of}

pub next : {A : Type 0} (xs : List A) (i : ℕ) (x : A) → i < length xs → x ≡ get_or xs i x → take (i + 1) xs ≡ take i xs ++ x ∷ []
next xs i x h e = (take_at_read xs i x h).1 ∙ ap (λ y. take i xs ++ y ∷ []) (sym e)

-- ---- names
names_after-push : (v : Names) (bs : List Bound) (b : Bound) → names_after v (bs ++ b ∷ []) ≡ with_name b.index b.value (names_after v bs)
names_after-push v [] b = refl
names_after-push v (a ∷ bs) b = names_after-push (with_name a.index a.value v) bs b

pub names_of-push : (bs : List Bound) (b : Bound) → names_of (bs ++ b ∷ []) ≡ with_name b.index b.value (names_of bs)
names_of-push bs b = names_after-push (λ i. 0) bs b

pub index_values-push : (v : Names) (at : List Ix) (i : Ix) → index_values v (at ++ i ∷ []) ≡ index_values v at ++ index_value v i ∷ []
index_values-push v [] i = refl
index_values-push v (j ∷ at) i = ap (λ ks. index_value v j ∷ ks) (index_values-push v at i)

-- ---- choices of values
sum_over-append : (xs ys : List (List Bound)) (f : Names → Polynomial) → sum_over (xs ++ ys) f ≡ plus (sum_over xs f) (sum_over ys f)
sum_over-append [] ys f = sym (L.zero-add polynomials _)
sum_over-append (x ∷ xs) ys f = ap (plus (f (names_of x))) (sum_over-append xs ys f) ∙ sym (plus_assoc _ _ _)

pub sum_over-push : (xs : List (List Bound)) (b : List Bound) (f : Names → Polynomial) → sum_over (xs ++ b ∷ []) f ≡ plus (sum_over xs f) (f (names_of b))
sum_over-push xs b f = sum_over-append xs (b ∷ []) f ∙ ap (plus (sum_over xs f)) (plus-nil _)

pub sum_over-next : (xs : List (List Bound)) (i : ℕ) (b : List Bound) (f : Names → Polynomial) → i < length xs → b ≡ get_or xs i b
    → sum_over (take (i + 1) xs) f ≡ plus (sum_over (take i xs) f) (f (names_of b))
sum_over-next xs i b f h e = ap (λ x. sum_over x f) (next xs i b h e) ∙ sum_over-push (take i xs) b f

sum_over-gathered : (n : ℕ) (g : ℕ → List (List Bound)) (f : Names → Polynomial) → sum_over (gathered n g) f ≡ sum_below n (λ k. sum_over (g k) f)
sum_over-gathered zero g f = refl
sum_over-gathered (suc n) g f = sum_over-append (gathered n g) (g n) f ∙ ap (λ p. plus p (sum_over (g n) f)) (sum_over-gathered n g f)

pub sum_same : (n : ℕ) (f g : ℕ → Polynomial) → ((k : ℕ) → f k ≡ g k) → sum_below n f ≡ sum_below n g
sum_same zero f g h = refl
sum_same (suc n) f g h = ap₂ plus (sum_same n f g h) (h n)

-- the sum over all choices is the nested sum over the indices
pub sum_over-assigned : (xs : List Free) (bs : List Bound) (f : Names → Polynomial) → sum_over (assigned xs bs) f ≡ sum_names xs f (names_of bs)
sum_over-assigned [] bs f = plus-nil _
sum_over-assigned (x ∷ xs) bs f =
    sum_over-gathered x.dim (λ k. assigned xs (bs ++ record { index = x.index; value = k } ∷ [])) f
    ∙ sum_same x.dim _ _ (λ k. sum_over-assigned xs (bs ++ record { index = x.index; value = k } ∷ []) f ∙ ap (sum_names xs f) (names_of-push bs (record { index = x.index; value = k })))

-- ---- environments
changed_all-push : (env : Environment) (cs : List Change) (c : Change) → changed_all env (cs ++ c ∷ []) ≡ changed c (changed_all env cs)
changed_all-push env [] c = refl
changed_all-push env (d ∷ cs) c = changed_all-push (changed d env) cs c

pub environment_of-push : (gs : List Given) (cs : List Change) (c : Change) → environment_of gs (cs ++ c ∷ []) ≡ changed c (environment_of gs cs)
environment_of-push gs cs c = changed_all-push (at_rest gs) cs c

-- the last change, after those before it
pub under : (gs : List Given) (cs before : List Change) (c d : Change) → cs ≡ before ++ c ∷ [] → c ≡ d → changed d (environment_of gs before) ≡ environment_of gs cs
under gs cs before c d h e = sym (ap (environment_of gs) h ∙ environment_of-push gs before c ∙ ap (λ x. changed x (environment_of gs before)) e)

used-changed : (c : Change) (env : Environment) → (changed c env).used ≡ env.used + parameters_of c
used-changed (Raised l b) env = omega arith
used-changed (Turned w d) env = omega arith
used-changed (Scaled w) env = omega arith
used-changed (Replaced w f) env = omega arith
used-changed Exchanged env = omega arith

pub used_after : (gs : List Given) (cs before : List Change) (c : Change) (m n : ℕ) → cs ≡ before ++ c ∷ [] → m ≡ (environment_of gs before).used → n ≡ parameters_of c
    → m + n ≡ (environment_of gs cs).used
used_after gs cs before c m n h was is = ap₂ ◌+◌ was is ∙ sym (used-changed c (environment_of gs before)) ∙ ap (λ env. env.used) (under gs cs before c c h refl)

-- ---- what the changes of functions and variables do
pub turned_value : (gs : List Given) (cs before : List Change) (c : Change) (w d r : Role) (i : ℕ) (is : Bool) (k : ℕ) (own slope : Polynomial) → cs ≡ before ++ c ∷ [] → c ≡ Turned w d
    → is ≡ same_role r w → k ≡ (environment_of gs before).used → own ≡ (environment_of gs before).value r i → slope ≡ (environment_of gs before).value d i
    → (if is then plus own (times (parameter k) slope) else own) ≡ (environment_of gs cs).value r i
turned_value gs cs before c w d r i is k own slope h e hi hk ho hs =
    ap₂ (λ b n. if b then plus own (times (parameter n) slope) else own) hi hk
    ∙ ap₂ (λ p q. if same_role r w then plus p (times (parameter (environment_of gs before).used) q) else p) ho hs
    ∙ ap (λ (env : Environment). env.value r i) (under gs cs before c (Turned w d) h e)

pub scaled_value : (gs : List Given) (cs before : List Change) (c : Change) (w r : Role) (i : ℕ) (is : Bool) (k : ℕ) (own : Polynomial) → cs ≡ before ++ c ∷ [] → c ≡ Scaled w
    → is ≡ same_role r w → k ≡ (environment_of gs before).used → own ≡ (environment_of gs before).value r i
    → (if is then times (parameter k) own else own) ≡ (environment_of gs cs).value r i
scaled_value gs cs before c w r i is k own h e hi hk ho =
    ap₂ (λ b n. if b then times (parameter n) own else own) hi hk
    ∙ ap (λ p. if same_role r w then times (parameter (environment_of gs before).used) p else p) ho
    ∙ ap (λ (env : Environment). env.value r i) (under gs cs before c (Scaled w) h e)

pub replaced_value : (gs : List Given) (cs before : List Change) (c : Change) (w f r s : Role) (i : ℕ) (is : Bool) → cs ≡ before ++ c ∷ [] → c ≡ Replaced w f
    → is ≡ same_role r w → s ≡ (if is then f else r) → (environment_of gs before).value s i ≡ (environment_of gs cs).value r i
replaced_value gs cs before c w f r s i is h e hi hs =
    ap (λ x. (environment_of gs before).value x i) (hs ∙ ap (λ b. if b then f else r) hi)
    ∙ go (same_role r w)
    ∙ ap (λ (env : Environment). env.value r i) (under gs cs before c (Replaced w f) h e)
  where
    go : (b : Bool) → (environment_of gs before).value (if b then f else r) i ≡ (if b then (environment_of gs before).value f i else (environment_of gs before).value r i)
    go true = refl
    go false = refl

pub offset_moved : (gs : List Given) (cs before : List Change) (c : Change) (l : ℕ) (b : List ℕ) (label : ℕ) (at slice : List ℕ) (own : Polynomial) (is : Bool) (k : ℕ)
    → cs ≡ before ++ c ∷ [] → c ≡ Raised l b → slice ≡ b → own ≡ (environment_of gs before).offset label at → is ≡ ((label == l) && same_list at slice) → k ≡ (environment_of gs before).used
    → (if is then plus own (parameter k) else own) ≡ (environment_of gs cs).offset label at
offset_moved gs cs before c l b label at slice own is k h e hb ho hi hk =
    ap₂ (λ t n. if t then plus own (parameter n) else own) (hi ∙ ap (λ x. (label == l) && same_list at x) hb) hk
    ∙ ap (λ p. if (label == l) && same_list at b then plus p (parameter (environment_of gs before).used) else p) ho
    ∙ ap (λ (env : Environment). env.offset label at) (under gs cs before c (Raised l b) h e)

-- ---- steps of loops
pub looked : (bs : List Bound) (i : ℕ) (d : Bound) (index value : ℕ) → i < length bs → value ≡ names_of (take i bs) index
    → (if index == (get_or bs i d).index then (get_or bs i d).value else value) ≡ names_of (take (i + 1) bs) index
looked bs i d index value h was =
    let b = get_or bs i d in
    ap (λ x. if index == b.index then b.value else x) was ∙ sym (ap (λ v. v index) (ap names_of (take_at_read bs i d h).1 ∙ names_of-push (take i bs) b))

pub listed : (v : Names) (at : List Ix) (i : ℕ) (d : Ix) (all more : List ℕ) (k : ℕ) → i < length at → all ≡ index_values v (take i at)
    → more ≡ all ++ k ∷ [] → k ≡ index_value v (get_or at i d) → more ≡ index_values v (take (i + 1) at)
listed v at i d all more k h was now is =
    now ∙ ap₂ (λ ks k. ks ++ k ∷ []) was is ∙ sym (ap (index_values v) (take_at_read at i d h).1 ∙ index_values-push v (take i at) (get_or at i d))

pub gathered_more : {A : Type 0} (n : ℕ) (g : ℕ → List A) (all more left : List A) → all ≡ gathered n g → left ≡ g n → more ≡ all ++ left → more ≡ gathered (n + 1) g
gathered_more n g all more left was is now = now ∙ ap₂ (λ xs ys. xs ++ ys) was is ∙ ap (λ k. gathered k g) (sym (add-one n))

pub bound_further : {E : Type 0} (r : Result (List Bound) E) (by at by' at' : List ℕ) (i k : ℕ) (names more : List Bound) → by ≡ i ∷ by' → at ≡ k ∷ at' → more ≡ names ++ record { index = i; value = k } ∷ []
    → IfOk r (λ r. names_of r ≡ with_names by' at' (names_of more)) → IfOk r (λ r. names_of r ≡ with_names by at (names_of names))
bound_further (Ok bs) by at by' at' i k names more hb ha hm h =
    h ∙ ap (with_names by' at') (ap names_of hm ∙ names_of-push names (record { index = i; value = k })) ∙ sym (ap₂ (λ x y. with_names x y (names_of names)) hb ha)
bound_further (Err e) by at by' at' i k names more hb ha hm h = tt
