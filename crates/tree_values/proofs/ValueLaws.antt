-- The value of a tree, by its node
use Rattle.std.proofs.Common.{◌≡◌, ℕ, zero, suc, refl, sym, ◌∙◌, ap, ap₂, List, [], ◌∷◌, ◌++◌, map, take, length, get_or, ◌+◌, ◌<◌, ◌≤◌, None, Some, Bool, true, false, true≢false, arith, Bor}
use Rattle.std.specs.Slice.{IsItemAt}
use Rattle.ratio.specs.Value.{fraction_of}
use Rattle.ratio.specs.declared.reduced.Ratio.{Ratio}
use Rattle.calculus.specs.Polynomial.{Polynomial, nil, plus, constant, coefficient_of, power}
use Rattle.ufl_tree.specs.declared.function.Function.{Function}
use Rattle.ufl_tree.specs.declared.function.Ix.{Ix}
use Rattle.ufl_tree.specs.declared.tree.Op1.{Op1}
use Rattle.ufl_tree.specs.declared.tree.Op2.{Op2}
use Rattle.ufl_tree.specs.declared.tree.Tree.{Tree}
use Rattle.ufl_tree.specs.declared.tree.Node.TheVariants as v
use Rattle.ufl_tree.specs.Typed.{Typed, number, identity, function, piece, one, two, power as power_of, index, partial, tensor, list, variable, diff}
use Rattle.ufl_tree.specs.Reading.{typed_of, typed_list}
use Rattle.ufl_tree.specs.Indices.{Names, index_value, index_values, with_names, front, back}
use Rattle.ufl_tree.specs.Places.{table_of, Table, function_place, piece_place}
use Rattle.ufl_meaning.specs.Environment.{Environment, raised, parameter_number}
use Rattle.ufl_meaning.specs.Operators.{Components, along, sum_names, identity_value, one_value, two_value, at_place, grad_value, curl_value}
use Rattle.ufl_meaning.specs.Value.{value, item_value, chosen_value}
use Rattle.tree_values.specs.declared.environment.Change.{Change}
use Rattle.tree_values.specs.declared.environment.Change.TheVariants.{Raised, Turned, Scaled, Replaced, Exchanged}
use Rattle.tree_values.specs.declared.scene.Bound.{Bound}
use Rattle.tree_values.specs.declared.scene.Scene.{Scene}
use Rattle.tree_values.specs.declared.component.Spot.{Spot}
use Rattle.tree_values.specs.declared.component.Spot.TheVariants.{Scalar, Vector, Matrix, Longer}
use Rattle.tree_values.specs.Component.{spot_of}
use Rattle.tree_values.specs.Scene.{names_of, changed, environment_of, sum_over, assigned}
use Rattle.tree_values.specs.Value.{summed_at, value_without_sums, at_marker, env_of, value_in, unsummed_in, item_in, chosen_in, function_component, piece_component, bound_in, diff_in, sum_in}
use Rattle.tree_values.specs.Operands.{Combines, combination}
use Rattle.std.proofs.lemmas.List.{take_all}
use Rattle.tree_values.proofs.NodeLaws as n
use Rattle.tree_values.proofs.SceneLaws.{sum_over-next, sum_over-assigned, environment_of-push}

-- ---- sums over indices
sums : (es : Table) (e : Typed) (env : Environment) (b : List ℕ) (v : Names) → sum_names (summed_at e) (λ w. value_without_sums es e env b w) v ≡ value es e env b v
sums es (number k c) env b v = refl
sums es (identity k n) env b v = refl
sums es (function k f) env b v = refl
sums es (piece k f n) env b v = refl
sums es (one k op a) env b v = refl
sums es (two k op a d) env b v = refl
sums es (power_of k a n) env b v = refl
sums es (index k a at) env b v = refl
sums es (partial k a i) env b v = refl
sums es (tensor k a by) env b v = refl
sums es (list k ts) env b v = refl
sums es (variable k l a) env b v = refl
sums es (diff k l by a) env b v = refl

pub sum_begun : (bss : List (List Bound)) (s : Scene) (t : Tree) (b : List ℕ) (p : Polynomial) → p ≡ nil → p ≡ sum_in (take 0 bss) s t b
unfolding sum_in
sum_begun bss s t b p h = h

pub sum_grown : (bss : List (List Bound)) (i : ℕ) (s here : Scene) (names : List Bound) (t : Tree) (b : List ℕ) (p q : Polynomial) → i < length bss → names ≡ get_or bss i names
    → here.elements.now ≡ s.elements.now → env_of here ≡ env_of s → here.names.now ≡ names → p ≡ sum_in (take i bss) s t b → q ≡ plus p (unsummed_in here t b) → q ≡ sum_in (take (i + 1) bss) s t b
unfolding sum_in unsummed_in
sum_grown bss i s here names t b p q less is es env ns was now =
    now
    ∙ ap₂ plus was (ap₂ (λ x y. value_without_sums (table_of x) (typed_of t) y b (names_of here.names.now)) es env ∙ ap (λ w. value_without_sums (table_of s.elements.now) (typed_of t) (env_of s) b (names_of w)) ns)
    ∙ sym (sum_over-next bss i names (λ w. value_without_sums (table_of s.elements.now) (typed_of t) (env_of s) b w) less is)

pub sum_done : (bss : List (List Bound)) (i : ℕ) (s : Scene) (t : Tree) (b : List ℕ) (p : Polynomial) → length bss ≤ i → bss ≡ assigned (summed_at (typed_of t)) s.names.now → p ≡ sum_in (take i bss) s t b → p ≡ value_in s t b
unfolding sum_in value_in
sum_done bss i s t b p done e h =
    let f : Names → Polynomial = λ w. value_without_sums (table_of s.elements.now) (typed_of t) (env_of s) b w in
    h ∙ ap (λ x. sum_over x f) (take_all i bss done ∙ e) ∙ sum_over-assigned (summed_at (typed_of t)) s.names.now f ∙ sums (table_of s.elements.now) (typed_of t) (env_of s) b (names_of s.names.now)

-- ---- nodes
read : (s : Scene) (t : Tree) (e : Typed) (b : List ℕ) → typed_of t ≡ e → value_without_sums (table_of s.elements.now) e (env_of s) b (names_of s.names.now) ≡ unsummed_in s t b
unfolding unsummed_in
read s t e b h = sym (ap (λ e. value_without_sums (table_of s.elements.now) e (env_of s) b (names_of s.names.now)) h)

pub in_number : (s : Scene) (t : Tree) (b : List ℕ) (c : Ratio) → t.node ≡ v.Number c → constant (fraction_of c) ≡ unsummed_in s t b
in_number s t b c h = read s t _ b (n.read-Number t c h)

pub in_identity : (s : Scene) (t : Tree) (b : List ℕ) (m : ℕ) → t.node ≡ v.Identity m → identity_value b ≡ unsummed_in s t b
in_identity s t b m h = read s t _ b (n.read-Identity t m h)

pub in_function : (s : Scene) (t : Tree) (b : List ℕ) (f : Function) → t.node ≡ v.Fun f → function_component s f b ≡ unsummed_in s t b
unfolding function_component
in_function s t b f h = read s t _ b (n.read-Fun t f h)

pub in_piece : (s : Scene) (t : Tree) (b : List ℕ) (f : Function) (k : ℕ) → t.node ≡ v.Piece f k → piece_component s f k b ≡ unsummed_in s t b
unfolding piece_component
in_piece s t b f k h = read s t _ b (n.read-Piece t f k h)

pub in_one : (s : Scene) (t a : Tree) (b : List ℕ) (op : Op1) → t.node ≡ v.One op a → one_value op a.shape (value_in s a) b ≡ unsummed_in s t b
unfolding value_in
in_one s t a b op h = ap (λ x. one_value op x (value_in s a) b) (sym (n.shape_read a)) ∙ read s t _ b (n.read-One t op a h)

pub in_two : (s : Scene) (t a d : Tree) (b : List ℕ) (op : Op2) → t.node ≡ v.Two op a d → two_value op a.shape d.shape (value_in s a) (value_in s d) b ≡ unsummed_in s t b
unfolding value_in
in_two s t a d b op h =
    ap₂ (λ x y. two_value op x y (value_in s a) (value_in s d) b) (sym (n.shape_read a)) (sym (n.shape_read d)) ∙ read s t _ b (n.read-Two t op a d h)

pub in_two_at : (s : Scene) (t a d x y : Tree) (b sx sy : List ℕ) (op : Op2) (left right : List (List ℕ)) (ps qs : List Polynomial) → t.node ≡ v.Two op a d → x ≡ a → y ≡ d → sx ≡ x.shape → sy ≡ y.shape
    → Combines op sx sy b left right → ps ≡ map (value_in s x) left → qs ≡ map (value_in s y) right → combination op ps qs ≡ unsummed_in s t b
in_two_at s t a d x y b sx sy op left right ps qs h hx hy hsx hsy how hp hq =
    ap₂ (combination op) hp hq ∙ how (value_in s x) (value_in s y)
    ∙ ap₂ (λ m n. two_value op m n (value_in s x) (value_in s y) b) hsx hsy
    ∙ ap₂ (λ x y. two_value op x.shape y.shape (value_in s x) (value_in s y) b) hx hy
    ∙ in_two s t a d b op h

pub in_power : (s : Scene) (t a : Tree) (b : List ℕ) (m : ℕ) → t.node ≡ v.Power a m → power (value_in s a []) m ≡ unsummed_in s t b
unfolding value_in
in_power s t a b m h = read s t _ b (n.read-Power t a m h)

pub in_index : (s : Scene) (t a : Tree) (b : List ℕ) (at : List Ix) → t.node ≡ v.Index a at → value_in s a (index_values (names_of s.names.now) at ++ b) ≡ unsummed_in s t b
unfolding value_in
in_index s t a b at h = read s t _ b (n.read-Index t a at h)

pub in_partial : (s : Scene) (t a : Tree) (b : List ℕ) (i : Ix) → t.node ≡ v.Partial a i → along (index_value (names_of s.names.now) i) (value_in s a b) ≡ unsummed_in s t b
unfolding value_in
in_partial s t a b i h = read s t _ b (n.read-Partial t a i h)

pub in_tensor : (s : Scene) (t a : Tree) (b by : List ℕ) → t.node ≡ v.Tensor a by → bound_in s a by b ≡ unsummed_in s t b
unfolding bound_in
in_tensor s t a b by h = read s t _ b (n.read-Tensor t a by h)

pub in_variable : (s : Scene) (t a : Tree) (b : List ℕ) (l : ℕ) → t.node ≡ v.Variable l a → plus (value_in s a b) ((env_of s).offset l b) ≡ unsummed_in s t b
unfolding value_in
in_variable s t a b l h = read s t _ b (n.read-Variable t l a h)

pub in_diff : (s : Scene) (t a : Tree) (b by : List ℕ) (l : ℕ) → t.node ≡ v.Diff l by a → diff_in s a l b ≡ unsummed_in s t b
unfolding diff_in
in_diff s t a b by l h =
    ap (λ x. coefficient_of (parameter_number (env_of s).used) 1 (value (table_of s.elements.now) (typed_of a) (raised l (back x b) (env_of s)) (front x b) (names_of s.names.now))) (sym (n.shape_read a))
    ∙ read s t _ b (n.read-Diff t l by a h)

items : (s : Scene) (ts : List Tree) (i : ℕ) (b : List ℕ) → item_in s ts i b ≡ item_value (table_of s.elements.now) (typed_list (map typed_of ts)) (env_of s) b (names_of s.names.now) i
unfolding value_in
items s [] i b = refl
items s (t ∷ ts) zero b = refl
items s (t ∷ ts) (suc i) b = items s ts i b

chosen : (s : Scene) (ts : List Tree) (b : List ℕ) → chosen_in s ts b ≡ chosen_value (λ i c. item_value (table_of s.elements.now) (typed_list (map typed_of ts)) (env_of s) c (names_of s.names.now) i) b
chosen s ts [] = refl
chosen s ts (i ∷ b) = items s ts i b

pub in_list : (s : Scene) (t : Tree) (b : List ℕ) (ts : List Tree) → t.node ≡ v.List ts → chosen_in s ts b ≡ unsummed_in s t b
in_list s t b ts h = chosen s ts b ∙ read s t _ b (n.read-List t ts h)

-- ---- items, functions, bindings and derivatives by variables
pub item_at : (s : Scene) (ts : List Tree) (i : ℕ) (t : Tree) (b : List ℕ) → i < length ts → t ≡ get_or ts i t → value_in s t b ≡ item_in s ts i b
item_at s [] i t b h e = absurd (omega arith)
item_at s (x ∷ ts) zero t b h e = ap (λ u. value_in s u b) e
item_at s (x ∷ ts) (suc i) t b h e = item_at s ts i t b (omega arith) e

pub no_item : (s : Scene) (ts : List Tree) (i : ℕ) (b : List ℕ) → length ts ≤ i → nil ≡ item_in s ts i b
no_item s [] i b h = refl
no_item s (x ∷ ts) zero b h = absurd (omega arith)
no_item s (x ∷ ts) (suc i) b h = no_item s ts i b (omega arith)

pub item_got : (s : Scene) (ts : List Tree) (i : ℕ) (x : Bor Tree) (b : List ℕ) → IsItemAt ts i (Some x) → value_in s x.now b ≡ item_in s ts i b
item_got s ts i x b h = item_at s ts i x.now b h.3.0 h.1

pub none_got : (s : Scene) (ts : List Tree) (i : ℕ) (b : List ℕ) → IsItemAt ts i None → nil ≡ item_in s ts i b
none_got s ts i b h = no_item s ts i b h.3

pub function_at : (s : Scene) (f : Function) (b : List ℕ) (m : ℕ) → function_place (table_of s.elements.now) f b ≡ Some m → (env_of s).value f.role m ≡ function_component s f b
unfolding function_component
function_at s f b m h = sym (ap (λ o. at_place o ((env_of s).value f.role)) h)

pub no_function : (s : Scene) (f : Function) (b : List ℕ) → function_place (table_of s.elements.now) f b ≡ None → nil ≡ function_component s f b
unfolding function_component
no_function s f b h = sym (ap (λ o. at_place o ((env_of s).value f.role)) h)

pub piece_at : (s : Scene) (f : Function) (k : ℕ) (b : List ℕ) (m : ℕ) → piece_place (table_of s.elements.now) f k b ≡ Some m → (env_of s).value f.role m ≡ piece_component s f k b
unfolding piece_component
piece_at s f k b m h = sym (ap (λ o. at_place o ((env_of s).value f.role)) h)

pub no_piece : (s : Scene) (f : Function) (k : ℕ) (b : List ℕ) → piece_place (table_of s.elements.now) f k b ≡ None → nil ≡ piece_component s f k b
unfolding piece_component
no_piece s f k b h = sym (ap (λ o. at_place o ((env_of s).value f.role)) h)

pub bound_at : (s here : Scene) (t : Tree) (by b : List ℕ) (names : List Bound) → here.elements.now ≡ s.elements.now → env_of here ≡ env_of s → here.names.now ≡ names
    → names_of names ≡ with_names by b (names_of s.names.now) → value_in here t [] ≡ bound_in s t by b
unfolding value_in bound_in
bound_at s here t by b names es env ns h =
    ap₂ (λ x y. value (table_of x) (typed_of t) y [] (names_of here.names.now)) es env
    ∙ ap (λ w. value (table_of s.elements.now) (typed_of t) (env_of s) [] w) (ap names_of ns ∙ h)

at_marker-changed : (m : ℕ) (c : Change) (env : Environment) → at_marker m (changed c env) ≡ changed c (at_marker m env)
at_marker-changed m (Raised l b) env = refl
at_marker-changed m (Turned w d) env = refl
at_marker-changed m (Scaled w) env = refl
at_marker-changed m (Replaced w f) env = refl
at_marker-changed m Exchanged env = refl

-- a scene with one more change
pub changed_scene : (s here : Scene) (c : Change) → here.functions.now ≡ s.functions.now → here.marker ≡ s.marker → here.changes.now ≡ s.changes.now ++ c ∷ [] → env_of here ≡ changed c (env_of s)
changed_scene s here c fs ms cs =
    ap₂ at_marker ms (ap₂ environment_of fs cs ∙ environment_of-push s.functions.now s.changes.now c)
    ∙ at_marker-changed s.marker c (environment_of s.functions.now s.changes.now)

pub diff_at : (s here : Scene) (t : Tree) (l k : ℕ) (b last first : List ℕ) (p : Polynomial) → k ≡ (env_of s).used → here.elements.now ≡ s.elements.now → here.functions.now ≡ s.functions.now
    → here.marker ≡ s.marker → here.changes.now ≡ s.changes.now ++ Raised l last ∷ [] → here.names.now ≡ s.names.now → last ≡ back t.shape b → first ≡ front t.shape b
    → p ≡ value_in here t first → coefficient_of (parameter_number k) 1 p ≡ diff_in s t l b
unfolding value_in diff_in
diff_at s here t l k b last first p hk es fs ms rs ns hl hf h =
    ap₂ (λ n x. coefficient_of (parameter_number n) 1 x) hk
    (h
    ∙ ap₂ (λ x y. value (table_of x) (typed_of t) y first (names_of here.names.now)) es (changed_scene s here (Raised l last) fs ms rs ∙ ap (λ c. raised l c (env_of s)) hl)
    ∙ ap₂ (λ c ns. value (table_of s.elements.now) (typed_of t) (raised l (back t.shape b) (env_of s)) c (names_of ns)) hf ns)

-- ---- operators
grad_pushed : (f : Components) (rest : List ℕ) (i : ℕ) → along i (f rest) ≡ grad_value f (rest ++ i ∷ [])
grad_pushed f [] i = refl
grad_pushed f (k ∷ []) i = refl
grad_pushed f (k ∷ j ∷ rest) i = grad_pushed (λ c. f (k ∷ c)) (j ∷ rest) i

pub grad_at : (f : Components) (b rest : List ℕ) (i : ℕ) (p : Polynomial) → b ≡ rest ++ i ∷ [] → p ≡ f rest → along i p ≡ grad_value f b
grad_at f b rest i p h e = ap (along i) e ∙ grad_pushed f rest i ∙ sym (ap (grad_value f) h)

abbrev sizes : Spot → List ℕ
sizes Scalar = []
sizes (Vector i) = i ∷ []
sizes (Matrix i j) = i ∷ j ∷ []
sizes Longer = []

abbrev is_vector : Spot → Bool
is_vector Scalar = false
is_vector (Vector i) = true
is_vector (Matrix i j) = false
is_vector Longer = false

pub curl_at : (shape : List ℕ) (n : ℕ) (f : Components) (b : List ℕ) → spot_of shape ≡ Vector n → curl_value (n ∷ []) f b ≡ curl_value shape f b
curl_at [] n f b h = absurd (true≢false (sym (ap is_vector h)))
curl_at (i ∷ []) n f b h = ap (λ s. curl_value s f b) (sym (ap sizes h))
curl_at (i ∷ j ∷ []) n f b h = absurd (true≢false (sym (ap is_vector h)))
curl_at (i ∷ j ∷ k ∷ s) n f b h = absurd (true≢false (sym (ap is_vector h)))
