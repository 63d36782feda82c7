-- Lowering, by the node
use Rattle.std.proofs.Common.{◌≡◌, ℕ, max, ◌+◌, refl, sym, ◌∙◌, ap, ap₂, List, [], ◌∷◌, ◌++◌, map, length, true, false}
use Rattle.std.proofs.lemmas.List.{nil_from_length}
use Rattle.ratio.specs.declared.reduced.Ratio.{Ratio}
use Rattle.ufl_tree.specs.declared.function.Free.{Free}
use Rattle.ufl_tree.specs.declared.function.Function.{Function}
use Rattle.ufl_tree.specs.declared.function.Ix.{Ix}
use Rattle.ufl_tree.specs.declared.function.Ix.TheVariants.{Fixed, Named}
use Rattle.ufl_tree.specs.declared.tree.Op1.{Op1}
use Rattle.ufl_tree.specs.declared.tree.Op2.{Op2}
use Rattle.ufl_tree.specs.declared.tree.Tree.{Tree}
use Rattle.ufl_tree.specs.declared.tree.Node.TheVariants as v
use Rattle.ufl_tree.specs.Typed.{Typed, number, identity, function, piece, one, two, power, index, partial, tensor, list, variable, diff}
use Rattle.ufl_tree.specs.Reading.{typed_of, typed_list, terms_of}
use Rattle.ufl_tree.specs.Term.{Term, num, fun, dx, prod, mark, raise, pick, Terms, term}
use Rattle.ufl_tree.specs.Indices.{front, back}
use Rattle.ufl_tree.specs.Places.{table_of, Table, sub_element}
use Rattle.std.specs.Prelude.{slice_get}
use Rattle.lower.specs.Renaming.{Renaming, renamed, all_renamed}
use Rattle.lower.specs.Lowering.{lower, lower_all, nothing, over_names, one_term, two_term, power_term, identity_term, piece_term, chosen_term, rotated_term, with_indices}
use Rattle.lower.specs.Shares.{share_of}
use Rattle.passes.specs.declared.names.Scope.{Scope}
use Rattle.passes.specs.Names.{renaming_of, with_names_from, sums_around}
use Rattle.lower.specs.Keeping.{names_above, all_above}
use Rattle.passes.specs.Component.{first_name, summed_at, without_sums, component_in, unsummed_in, bound_in}
use Rattle.passes.proofs.NameLaws.{sums_named}
use Rattle.ufl_tree.specs.declared.tree.Op2.TheVariants.{Cross}
use Rattle.passes.specs.Pairs.{is_cross, both, Suits}
use Rattle.passes.proofs.PairLaws.{cross_only}
use Rattle.passes.proofs.NodeLaws as n

-- ---- index sums
sums : (es : Table) (e : Typed) (r : Renaming) (b : List Ix) (m : ℕ) → over_names (summed_at e) (λ r m. without_sums es e r b m) r m ≡ lower share_of es e r b m
sums es (number k c) r b m = refl
sums es (identity k s) r b m = refl
sums es (function k f) r b m = refl
sums es (piece k f s) r b m = refl
sums es (one k op a) r b m = refl
sums es (two k op a d) r b m = refl
sums es (power k a s) r b m = refl
sums es (index k a at) r b m = refl
sums es (partial k a i) r b m = refl
sums es (tensor k a by) r b m = refl
sums es (list k ts) r b m = refl
sums es (variable k l a) r b m = refl
sums es (diff k l by a) r b m = refl

pub summed_none : (s : Scope) (t : Tree) (b : List Ix) (m : ℕ) (free : List Free) → free ≡ summed_at (typed_of t) → free ≡ [] → unsummed_in s t b m ≡ component_in s t b m
unfolding component_in unsummed_in
summed_none s t b m free is none =
    let f : Renaming → ℕ → Term = λ r m. without_sums (table_of s.elements.now) (typed_of t) r b m in
    ap (λ xs. over_names xs f (renaming_of s.names.now) m) (sym none ∙ is) ∙ sums (table_of s.elements.now) (typed_of t) (renaming_of s.names.now) b m

pub summed_some : (s here : Scope) (t : Tree) (b : List Ix) (m inner : ℕ) (free : List Free) (sizes : List ℕ) (p : Term) → free ≡ summed_at (typed_of t)
    → here.elements.now ≡ s.elements.now → renaming_of here.names.now ≡ with_names_from free m (renaming_of s.names.now) → inner ≡ m + length free → sizes ≡ map (λ x. x.dim) free
    → p ≡ unsummed_in here t b inner → sums_around sizes m p ≡ component_in s t b m
unfolding component_in unsummed_in
summed_some s here t b m inner free sizes p is es names behind dims h =
    let f : Renaming → ℕ → Term = λ r m. without_sums (table_of s.elements.now) (typed_of t) r b m in
    ap₂ (λ ds q. sums_around ds m q) dims
    (h ∙ ap (λ x. without_sums (table_of x) (typed_of t) (renaming_of here.names.now) b inner) es ∙ ap₂ f names behind)
    ∙ sym (sums_named f free (renaming_of s.names.now) m)
    ∙ ap (λ xs. over_names xs f (renaming_of s.names.now) m) is
    ∙ sums (table_of s.elements.now) (typed_of t) (renaming_of s.names.now) b m

-- ---- nodes
read : (s : Scope) (t : Tree) (e : Typed) (b : List Ix) (m : ℕ) → typed_of t ≡ e → without_sums (table_of s.elements.now) e (renaming_of s.names.now) b m ≡ unsummed_in s t b m
unfolding unsummed_in
read s t e b m h = sym (ap (λ e. without_sums (table_of s.elements.now) e (renaming_of s.names.now) b m) h)

pub in_number : (s : Scope) (t : Tree) (b : List Ix) (m : ℕ) (c : Ratio) → t.node ≡ v.Number c → num c ≡ unsummed_in s t b m
in_number s t b m c h = read s t _ b m (n.read-Number t c h)

pub in_identity : (s : Scope) (t : Tree) (b : List Ix) (m k : ℕ) → t.node ≡ v.Identity k → identity_term b ≡ unsummed_in s t b m
in_identity s t b m k h = read s t _ b m (n.read-Identity t k h)

pub in_function : (s : Scope) (t : Tree) (b : List Ix) (m : ℕ) (f : Function) → t.node ≡ v.Fun f → fun f b ≡ unsummed_in s t b m
in_function s t b m f h = read s t _ b m (n.read-Fun t f h)

pub in_piece : (s : Scope) (t : Tree) (b : List Ix) (m : ℕ) (f : Function) (k : ℕ) → t.node ≡ v.Piece f k
    → piece_term (sub_element (slice_get (table_of s.elements.now) f.element) k) f b m ≡ unsummed_in s t b m
in_piece s t b m f k h = read s t _ b m (n.read-Piece t f k h)

pub in_one : (s : Scope) (t a : Tree) (b : List Ix) (m : ℕ) (op : Op1) → t.node ≡ v.One op a → one_term share_of op a.shape (component_in s a) b m ≡ unsummed_in s t b m
unfolding component_in
in_one s t a b m op h = ap (λ x. one_term share_of op x (component_in s a) b m) (sym (n.shape_read a)) ∙ read s t _ b m (n.read-One t op a h)

pub in_two : (s : Scope) (t a d : Tree) (b : List Ix) (m : ℕ) (op : Op2) → t.node ≡ v.Two op a d → two_term op a.shape d.shape (component_in s a) (component_in s d) b m ≡ unsummed_in s t b m
unfolding component_in
in_two s t a d b m op h =
    ap₂ (λ x y. two_term op x y (component_in s a) (component_in s d) b m) (sym (n.shape_read a)) (sym (n.shape_read d)) ∙ read s t _ b m (n.read-Two t op a d h)

pub in_cross : (s : Scope) (t a d x y : Tree) (b : List Ix) (m : ℕ) (op : Op2) → t.node ≡ v.Two op a d → is_cross op ≡ true → x ≡ a → y ≡ d
    → rotated_term (λ j k. prod (component_in s x (Fixed j ∷ []) m) (component_in s y (Fixed k ∷ []) m)) b m ≡ unsummed_in s t b m
in_cross s t a d x y b m op h is hx hy =
    ap₂ (λ x y. two_term Cross x.shape y.shape (component_in s x) (component_in s y) b m) hx hy
    ∙ ap (λ o. two_term o a.shape d.shape (component_in s a) (component_in s d) b m) (sym (cross_only op is))
    ∙ in_two s t a d b m op h

pub in_pair : (s : Scope) (t a d x y : Tree) (b : List Ix) (m : ℕ) (op : Op2) (shape other : List ℕ) (left right at : List Ix) (sizes sums : List ℕ) (q : Term) → t.node ≡ v.Two op a d → is_cross op ≡ false
    → x ≡ a → y ≡ d → shape ≡ x.shape → other ≡ y.shape → Suits op shape other b m left right sizes
    → q ≡ component_in s y at (m + length sums) → at ≡ right → sums ≡ sizes → sums_around sizes m (both op (component_in s x left (m + length sizes)) q) ≡ unsummed_in s t b m
in_pair s t a d x y b m op shape other left right at sizes sums q h is hx hy hs ho how hq hr hz =
    ap (λ q. sums_around sizes m (both op (component_in s x left (m + length sizes)) q)) (hq ∙ ap₂ (λ r z. component_in s y r (m + length z)) hr hz)
    ∙ how is (component_in s x) (component_in s y)
    ∙ ap₂ (λ k l. two_term op k l (component_in s x) (component_in s y) b m) hs ho
    ∙ ap₂ (λ x y. two_term op x.shape y.shape (component_in s x) (component_in s y) b m) hx hy
    ∙ in_two s t a d b m op h

pub paired_at : (s : Scope) (a : Tree) (m : ℕ) (op : Op2) (left at : List Ix) (sizes sums : List ℕ) (p q : Term) → p ≡ component_in s a at (m + length sums) → at ≡ left → sums ≡ sizes
    → sums_around sums m (both op p q) ≡ sums_around sizes m (both op (component_in s a left (m + length sizes)) q)
paired_at s a m op left at sizes sums p q hp hl hz =
    ap (λ p. sums_around sums m (both op p q)) (hp ∙ ap (λ l. component_in s a l (m + length sums)) hl)
    ∙ ap (λ z. sums_around z m (both op (component_in s a left (m + length z)) q)) hz

pub in_power : (s : Scope) (t a : Tree) (b : List Ix) (m k : ℕ) → t.node ≡ v.Power a k → power_term (component_in s a [] m) k ≡ unsummed_in s t b m
unfolding component_in
in_power s t a b m k h = read s t _ b m (n.read-Power t a k h)

pub in_index : (s : Scope) (t a : Tree) (b : List Ix) (m : ℕ) (at : List Ix) → t.node ≡ v.Index a at → component_in s a (all_renamed (renaming_of s.names.now) at ++ b) m ≡ unsummed_in s t b m
unfolding component_in
in_index s t a b m at h = read s t _ b m (n.read-Index t a at h)

pub in_partial : (s : Scope) (t a : Tree) (b : List Ix) (m : ℕ) (i : Ix) → t.node ≡ v.Partial a i → dx (renamed (renaming_of s.names.now) i) (component_in s a b m) ≡ unsummed_in s t b m
unfolding component_in
in_partial s t a b m i h = read s t _ b m (n.read-Partial t a i h)

pub in_tensor : (s : Scope) (t a : Tree) (b : List Ix) (m : ℕ) (by : List ℕ) → t.node ≡ v.Tensor a by → bound_in s a by b m ≡ unsummed_in s t b m
unfolding bound_in
in_tensor s t a b m by h = read s t _ b m (n.read-Tensor t a by h)

pub in_variable : (s : Scope) (t a : Tree) (b : List Ix) (m l : ℕ) → t.node ≡ v.Variable l a → mark l b (component_in s a b m) ≡ unsummed_in s t b m
unfolding component_in
in_variable s t a b m l h = read s t _ b m (n.read-Variable t l a h)

pub in_diff : (s : Scope) (t a : Tree) (b : List Ix) (m l : ℕ) (by : List ℕ) → t.node ≡ v.Diff l by a
    → raise l (back a.shape b) (component_in s a (front a.shape b) m) ≡ unsummed_in s t b m
unfolding component_in
in_diff s t a b m l by h =
    ap (λ x. raise l (back x b) (component_in s a (front x b) m)) (sym (n.shape_read a)) ∙ read s t _ b m (n.read-Diff t l by a h)

items : (s : Scope) (ts : List Tree) (b : List Ix) (m : ℕ)
    → terms_of (map (λ a. component_in s a b m) ts) ≡ lower_all share_of (table_of s.elements.now) (typed_list (map typed_of ts)) (renaming_of s.names.now) b m
unfolding component_in
items s [] b m = refl
items s (t ∷ ts) b m = ap (term (lower share_of (table_of s.elements.now) (typed_of t) (renaming_of s.names.now) b m)) (items s ts b m)

chosen : (f g : List Ix → Terms) (b : List Ix) (m : ℕ) → ((c : List Ix) → f c ≡ g c) → chosen_term f b m ≡ chosen_term g b m
chosen f g [] m h = ap (λ ts. chosen_term (λ c. ts) [] m) (h [])
chosen f g (i ∷ b) m h = ap (pick i) (h b)

pub in_list : (s : Scope) (t : Tree) (b : List Ix) (m : ℕ) (ts : List Tree) → t.node ≡ v.List ts
    → chosen_term (λ c. terms_of (map (λ a. component_in s a c m) ts)) b m ≡ unsummed_in s t b m
in_list s t b m ts h = chosen _ _ b m (λ c. items s ts c m) ∙ read s t _ b m (n.read-List t ts h)

pub chosen_first : (g : List Ix → List Term) (b rest : List Ix) (i : Ix) (m : ℕ) (ts : List Term) (p : Term) → b ≡ i ∷ rest → ts ≡ g rest → p ≡ pick i (terms_of ts) → p ≡ chosen_term (λ c. terms_of (g c)) b m
chosen_first g b rest i m ts p hb e h = h ∙ ap (λ x. pick i (terms_of x)) e ∙ sym (ap (λ b. chosen_term (λ c. terms_of (g c)) b m) hb)

pub chosen_none : (g : List Ix → List Term) (b : List Ix) (m : ℕ) (ts : List Term) (q : Term) → length b ≡ 0 → ts ≡ g [] → q ≡ pick (Fixed 0) (terms_of ts) → nothing q m ≡ chosen_term (λ c. terms_of (g c)) b m
chosen_none g b m ts q hb e h = ap (λ x. nothing x m) (h ∙ ap (λ x. pick (Fixed 0) (terms_of x)) e) ∙ sym (ap (λ b. chosen_term (λ c. terms_of (g c)) b m) (nil_from_length b hb))

-- ---- bindings and whole expressions
pub bound_at : (s here : Scope) (t : Tree) (by : List ℕ) (b : List Ix) (m : ℕ) → here.elements.now ≡ s.elements.now → renaming_of here.names.now ≡ with_indices by b (renaming_of s.names.now)
    → component_in here t [] m ≡ bound_in s t by b m
unfolding component_in bound_in
bound_at s here t by b m es names = ap₂ (λ x r. lower share_of (table_of x) (typed_of t) r [] m) es names

pub whole : (s : Scope) (t u : Tree) (b : List Ix) (m x y : ℕ) → s.names.now ≡ [] → t ≡ u → x ≡ names_above (typed_of t) → y ≡ all_above b → m ≡ max x y
    → component_in s t b m ≡ lower share_of (table_of s.elements.now) (typed_of u) Named b (first_name (typed_of u) b)
unfolding component_in
whole s t u b m x y h e hx hy hm =
    ap (λ bs. lower share_of (table_of s.elements.now) (typed_of t) (renaming_of bs) b m) h
    ∙ ap (λ n. lower share_of (table_of s.elements.now) (typed_of t) Named b n) (hm ∙ ap₂ max hx hy)
    ∙ ap (λ t. lower share_of (table_of s.elements.now) (typed_of t) Named b (first_name (typed_of t) b)) e
