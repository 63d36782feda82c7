-- What an operator combines, component by component
use Rattle.std.proofs.Common.{◌≡◌, ℕ, zero, suc, refl, sym, ◌∙◌, ap, ap₂, List, [], ◌∷◌, ◌++◌, length, map, ◌<◌, arith, Option, Some}
use Rattle.algebra.specs.RingLaws as L
use Rattle.calculus.specs.Polynomial.{Polynomial, polynomials, plus, minus, times, plus_assoc, plus-nil}
use Rattle.ufl_tree.specs.declared.tree.Op2.{Op2}
use Rattle.ufl_tree.specs.declared.tree.Op2.TheVariants.{Product, Inner}
use Rattle.ufl_tree.specs.Indices.{front, back, followed_by, last_size}
use Rattle.calculus.specs.Integral.{sum_below}
use Rattle.ufl_meaning.specs.Operators.{Components, sum_components, two_value, dot_value}
use Rattle.tree_values.specs.Scene.{gathered}
use Rattle.tree_values.specs.Component.{listed, sum_at}
use Rattle.tree_values.specs.Operands.{products_of, total_of, turned_of, combination, turned_difference, Combines, CombinesDot, CombinesTurned}
use Rattle.tree_values.proofs.ComponentLaws.{sum_at-listed}

products-push : (xs ys : List Polynomial) (x y : Polynomial) → length xs ≡ length ys → products_of (xs ++ x ∷ []) (ys ++ y ∷ []) ≡ plus (products_of xs ys) (times x y)
products-push [] [] x y h = plus-nil (times x y) ∙ sym (L.zero-add polynomials _)
products-push (a ∷ xs) [] x y h = absurd (omega arith)
products-push [] (b ∷ ys) x y h = absurd (omega arith)
products-push (a ∷ xs) (b ∷ ys) x y h = ap (plus (times a b)) (products-push xs ys x y (omega arith)) ∙ sym (plus_assoc _ _ _)

map-append : {A B : Type 0} (f : A → B) (xs ys : List A) → map f (xs ++ ys) ≡ map f xs ++ map f ys
map-append f [] ys = refl
map-append f (x ∷ xs) ys = ap (λ r. f x ∷ r) (map-append f xs ys)

pub map-push : {A B : Type 0} (f : A → B) (xs : List A) (y : A) → map f (xs ++ y ∷ []) ≡ map f xs ++ f y ∷ []
map-push f xs y = map-append f xs (y ∷ [])

length-push : {A : Type 0} (xs : List A) (y : A) → length (xs ++ y ∷ []) ≡ suc (length xs)
length-push [] y = refl
length-push (x ∷ xs) y = ap suc (length-push xs y)

map-length : {A B : Type 0} (f : A → B) (xs : List A) → length (map f xs) ≡ length xs
map-length f [] = refl
map-length f (x ∷ xs) = ap suc (map-length f xs)

singles-length : {A : Type 0} (n : ℕ) (u : ℕ → A) → length (gathered n (λ k. u k ∷ [])) ≡ n
singles-length zero u = refl
singles-length (suc n) u = length-push (gathered n (λ k. u k ∷ [])) (u n) ∙ ap suc (singles-length n u)

pub products_gathered : (n : ℕ) (u v : ℕ → List ℕ) (f g : Components)
    → products_of (map f (gathered n (λ k. u k ∷ []))) (map g (gathered n (λ k. v k ∷ []))) ≡ sum_below n (λ k. times (f (u k)) (g (v k)))
products_gathered zero u v f g = refl
products_gathered (suc n) u v f g =
    ap₂ products_of (map-push f (gathered n (λ k. u k ∷ [])) (u n)) (map-push g (gathered n (λ k. v k ∷ [])) (v n))
    ∙ products-push _ _ (f (u n)) (g (v n)) (map-length f _ ∙ singles-length n u ∙ sym (map-length g (gathered n (λ k. v k ∷ [])) ∙ singles-length n v))
    ∙ ap (λ p. plus p (times (f (u n)) (g (v n)))) (products_gathered n u v f g)

products-same : (bs : List (List ℕ)) (f g : Components) → products_of (map f bs) (map g bs) ≡ sum_at bs (λ c. times (f c) (g c))
products-same [] f g = refl
products-same (b ∷ bs) f g = ap (plus (times (f b) (g b))) (products-same bs f g)

pub products_listed : (s : List ℕ) (f g : Components) → products_of (map f (listed s)) (map g (listed s)) ≡ sum_components s (λ c. times (f c) (g c))
products_listed s f g = products-same (listed s) f g ∙ sum_at-listed s (λ c. times (f c) (g c))

pub products_one : (x y : Polynomial) → products_of (x ∷ []) (y ∷ []) ≡ times x y
products_one x y = plus-nil _

pub sum_one : (x y : Polynomial) → plus (total_of (x ∷ [])) (total_of (y ∷ [])) ≡ plus x y
sum_one x y = ap₂ plus (plus-nil x) (plus-nil y)

pub turned_two : (x y z w : Polynomial) → turned_of (x ∷ y ∷ []) (z ∷ w ∷ []) ≡ minus (times x z) (times y w)
turned_two x y z w = ap (minus (times x z)) (plus-nil _)

-- ---- whatever the operands are, and however their components were found
pub combines_pair : (op : Op2) (s t b l r : List ℕ) (left right : List (List ℕ)) → left ≡ l ∷ [] → right ≡ r ∷ []
    → ((f g : Components) → combination op (f l ∷ []) (g r ∷ []) ≡ two_value op s t f g b) → Combines op s t b left right
combines_pair op s t b l r left right e h same f g = ap₂ (λ xs ys. combination op (map f xs) (map g ys)) e h ∙ same f g

pub combines_dot : (shape outer b : List ℕ) (d : ℕ) (size : ℕ) (left right : List (List ℕ)) → shape ≡ d ∷ outer → size ≡ last_size shape
    → left ≡ gathered size (λ k. followed_by (front outer b) k ∷ []) → right ≡ gathered size (λ k. (k ∷ back outer b) ∷ []) → CombinesDot shape b left right
combines_dot shape outer b d size left right e n hl hr f g =
    ap₂ (λ xs ys. products_of (map f xs) (map g ys)) hl hr
    ∙ products_gathered size (λ k. followed_by (front outer b) k) (λ k. k ∷ back outer b) f g
    ∙ ap (λ m. sum_below m (λ k. times (f (followed_by (front outer b) k)) (g (k ∷ back outer b)))) (n ∙ ap last_size e)
    ∙ sym (ap (λ s. dot_value s f g b) e)

pub combines_inner : (s t b : List ℕ) (left right : List (List ℕ)) → left ≡ listed s → right ≡ listed s → Combines Inner s t b left right
combines_inner s t b left right hl hr f g = ap₂ (λ xs ys. products_of (map f xs) (map g ys)) hl hr ∙ products_listed s f g

pub combines_as : (op op' : Op2) (s t b : List ℕ) (left right : List (List ℕ)) → op ≡ op' → Combines op' s t b left right → Combines op s t b left right
combines_as op op' s t b left right e h f g = ap (λ o. combination o (map f left) (map g right)) e ∙ h f g ∙ sym (ap (λ o. two_value o s t f g b) e)

pub combines_turned : (axes : Option (ℕ × ℕ)) (j k : ℕ) (left right : List (List ℕ)) → axes ≡ Some (j, k) → left ≡ (j ∷ []) ∷ (k ∷ []) ∷ [] → right ≡ (k ∷ []) ∷ (j ∷ []) ∷ []
    → CombinesTurned axes left right
combines_turned axes j k left right e hl hr f g =
    ap₂ (λ xs ys. turned_of (map f xs) (map g ys)) hl hr
    ∙ turned_two (f (j ∷ [])) (f (k ∷ [])) (g (k ∷ [])) (g (j ∷ []))
    ∙ sym (ap (turned_difference (λ j k. times (f (j ∷ [])) (g (k ∷ [])))) e)

-- a product by its shapes
pub product_first : (s t b : List ℕ) (left right : List (List ℕ)) → length s ≡ 0 → left ≡ [] ∷ [] → right ≡ b ∷ [] → Combines Product s t b left right
product_first [] t b left right e hl hr = combines_pair Product [] t b [] b left right hl hr (λ f g. products_one (f []) (g b))
product_first (d ∷ s) t b left right e hl hr = absurd (omega arith)

pub product_second : (s t b : List ℕ) (left right : List (List ℕ)) → 0 < length s → length t ≡ 0 → left ≡ b ∷ [] → right ≡ [] ∷ [] → Combines Product s t b left right
product_second [] t b left right h e hl hr = absurd (omega arith)
product_second (d ∷ s) [] b left right h e hl hr = combines_pair Product (d ∷ s) [] b b [] left right hl hr (λ f g. products_one (f b) (g []))
product_second (d ∷ s) (n ∷ t) b left right h e hl hr = absurd (omega arith)

pub product_third : (s t b : List ℕ) (left right : List (List ℕ)) → 0 < length s → 0 < length t → CombinesDot s b left right → Combines Product s t b left right
product_third [] t b left right h e dot = absurd (omega arith)
product_third (d ∷ s) [] b left right h e dot = absurd (omega arith)
product_third (d ∷ s) (n ∷ t) b left right h e dot = dot

pub dot_first : (s b : List ℕ) (left right : List (List ℕ)) → length s ≡ 0 → left ≡ [] ∷ [] → right ≡ b ∷ [] → CombinesDot s b left right
dot_first [] b left right e hl hr f g = ap₂ (λ xs ys. products_of (map f xs) (map g ys)) hl hr ∙ products_one (f []) (g b)
dot_first (d ∷ s) b left right e hl hr f g = absurd (omega arith)
