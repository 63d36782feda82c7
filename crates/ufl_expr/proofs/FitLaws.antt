-- The builders keep each property of all functions of a tree: to fit a table of elements, and to have the elements of a list
use Rattle.std.proofs.Common.{◌≡◌, ℕ, Bool, true, false, if◌then◌else◌, List, [], ◌∷◌, refl, sym, ap, ◌∙◌, subst, Option, None, Some, Result, Ok, Err, zero, suc, ◌++◌, slice_get}
use Rattle.spaces.specs.declared.cell.Cell.{Cell}
use Rattle.spaces.specs.Space.{Space}
use Rattle.spaces.specs.Equality.{same_space}
use Rattle.spaces.proofs.EqualityLaws.{spaces_equal}
use Rattle.ufl_tree.specs.declared.function.Function.{Function}
use Rattle.ufl_tree.specs.declared.function.Role.{Role}
use Rattle.ufl_tree.specs.declared.function.Role.TheVariants.{Test, Trial, Position, Coefficient}
use Rattle.ufl_tree.specs.declared.tree.Tree.{Tree}
use Rattle.ufl_tree.specs.declared.tree.Node.{Node}
use Rattle.ufl_tree.specs.declared.tree.Node.TheVariants as v
use Rattle.ufl_tree.specs.Places.{Table, sub_element}
use Rattle.ufl_tree.specs.Typed.{Kind, Typed, number, identity, function, piece, one, two, power, index, partial, tensor, list, variable, diff}
use Rattle.ufl_tree.specs.Reading.{typed_of, tree_with}
use Rattle.ufl_tree.specs.Functions.{EachFunction, EachFunctionOfAll}
use Rattle.ufl_tree.proofs.ReadingLaws.{typed_of-Number, typed_of-Identity, typed_of-Fun, typed_of-Piece, typed_of-One, typed_of-Two, typed_of-Power, typed_of-Index, typed_of-Partial, typed_of-Tensor, typed_of-List, typed_of-Variable, typed_of-Diff}
use Rattle.ufl_tree.proofs.FunctionLaws.{each_weaker, weaker}
use Rattle.ufl_expr.specs.declared.refusal.TypeRefusal.{TypeRefusal}
use Rattle.ufl_expr.specs.declared.refusal.TypeRefusal.TheVariants.{Nodes}
use Rattle.ufl_expr.specs.Table.{Verdict}
use Rattle.ufl_expr.specs.Elements.{space_for, function_kind, function_in, piece_kind, piece_in, position_space, position_at, position_kind, number_of}
use Rattle.ufl_expr.specs.Building.{built, positioned, fits, EachTree, BuildersKeep}
use Rattle.ufl_expr.specs.Fits.{FitsTable, Fits, BuildersFit}
use Rattle.ufl_expr.specs.Numbered.{IsElementOf, HasItsElement, IsNumbered, Numbered, BuildersNumber}
use Rattle.ufl_expr.proofs.ElementLaws.{found_at}
use Rattle.ufl_expr.proofs.ListLaws.{listed}

-- what is built is a tree of the node, with the kind of the verdict
record IsBuilt (w : Verdict) (n : Node) (t : Tree) : Type 0 where
  kind : Kind
  verdict : w ≡ Ok kind
  tree : t ≡ tree_with n kind

built_choice : (b : Bool) (k : Kind) (n : Node) (t : Tree) (r : Result Tree TypeRefusal) → r ≡ (if b then Ok (tree_with n k) else Err Nodes) → r ≡ Ok t → t ≡ tree_with n k
built_choice true k n t r e h = cc
built_choice false k n t r e h = cc

differ : (r : TypeRefusal) (n : Node) (t : Tree) → built (Err r) n ≡ Ok t → ⊥
unfolding built
differ r n t h = cc

is_built : (w : Verdict) (n : Node) (t : Tree) → built w n ≡ Ok t → IsBuilt w n t
unfolding built
is_built (Err r) n t h = absurd (differ r n t h)
is_built (Ok k) n t h = record { kind = k; verdict = refl; tree = built_choice (fits (typed_of (tree_with n k))) k n t (built (Ok k) n) refl h }

read_as : (w : Verdict) (n : Node) (t : Tree) (f : Kind → Typed) (b : IsBuilt w n t) → ((k : Kind) → typed_of (tree_with n k) ≡ f k) → typed_of t ≡ f b.kind
read_as w n t f b e = ap typed_of b.tree ∙ e b.kind

-- a property of trees that what is built has where what it is read as has it
read_keeps : (R : Typed → Type 0) (w : Verdict) (n : Node) (t : Tree) (f : Kind → Typed) → built w n ≡ Ok t → ((k : Kind) → typed_of (tree_with n k) ≡ f k)
    → ((k : Kind) → R (f k)) → R (typed_of t)
read_keeps R w n t f h e r = let b = is_built w n t h in subst R (sym (read_as w n t f b e)) (r b.kind)

-- W of whole functions and S of sub-elements
abbrev EachIn : (Kind → Function → Type 0) → (Kind → Function → ℕ → Type 0) → Tree → Type 0
EachIn W S t = EachFunction W S (typed_of t)

each_listed : (W : Kind → Function → Type 0) (S : Kind → Function → ℕ → Type 0) (ts : List Tree) → EachTree (EachIn W S) ts → EachFunctionOfAll W S (listed ts)
each_listed W S [] h = tt
each_listed W S (t ∷ ts) h = (h.0, each_listed W S ts h.1)

pub builders_keep : (W : Kind → Function → Type 0) (S : Kind → Function → ℕ → Type 0) → BuildersKeep (EachIn W S)
builders_keep W S = record {
  of_number = λ w c t h. read_keeps (EachFunction W S) w (v.Number c) t (λ k. number k c) h (typed_of-Number c) (λ k. tt);
  of_identity = λ w n t h. read_keeps (EachFunction W S) w (v.Identity n) t (λ k. identity k n) h (typed_of-Identity n) (λ k. tt);
  of_one = λ w op a t h p. read_keeps (EachFunction W S) w (v.One op a) t (λ k. one k op (typed_of a)) h (typed_of-One op a) (λ k. p);
  of_two = λ w op a b t h p q. read_keeps (EachFunction W S) w (v.Two op a b) t (λ k. two k op (typed_of a) (typed_of b)) h (typed_of-Two op a b) (λ k. (p, q));
  of_power = λ w a n t h p. read_keeps (EachFunction W S) w (v.Power a n) t (λ k. power k (typed_of a) n) h (typed_of-Power a n) (λ k. p);
  of_index = λ w a at t h p. read_keeps (EachFunction W S) w (v.Index a at) t (λ k. index k (typed_of a) at) h (typed_of-Index a at) (λ k. p);
  of_partial = λ w a i t h p. read_keeps (EachFunction W S) w (v.Partial a i) t (λ k. partial k (typed_of a) i) h (typed_of-Partial a i) (λ k. p);
  of_tensor = λ w a by t h p. read_keeps (EachFunction W S) w (v.Tensor a by) t (λ k. tensor k (typed_of a) by) h (typed_of-Tensor a by) (λ k. p);
  of_list = λ w ts t h p. read_keeps (EachFunction W S) w (v.List ts) t (λ k. list k (listed ts)) h (typed_of-List ts) (λ k. each_listed W S ts p);
  of_variable = λ w l a t h p. read_keeps (EachFunction W S) w (v.Variable l a) t (λ k. variable k l (typed_of a)) h (typed_of-Variable l a) (λ k. p);
  of_diff = λ w l by a t h p. read_keeps (EachFunction W S) w (v.Diff l by a) t (λ k. diff k l by (typed_of a)) h (typed_of-Diff l by a) (λ k. p);
}

each_function : (W : Kind → Function → Type 0) (S : Kind → Function → ℕ → Type 0) (w : Verdict) (f : Function) (t : Tree) → built w (v.Fun f) ≡ Ok t
    → ((k : Kind) → w ≡ Ok k → W k f) → EachIn W S t
each_function W S w f t h p =
    let b = is_built w (v.Fun f) t h in
    subst (EachFunction W S) (sym (read_as w (v.Fun f) t (λ (k : Kind). function k f) b (typed_of-Fun f))) (p b.kind b.verdict)

each_piece : (W : Kind → Function → Type 0) (S : Kind → Function → ℕ → Type 0) (w : Verdict) (f : Function) (n : ℕ) (t : Tree) → built w (v.Piece f n) ≡ Ok t
    → ((k : Kind) → w ≡ Ok k → S k f n) → EachIn W S t
each_piece W S w f n t h p =
    let b = is_built w (v.Piece f n) t h in
    subst (EachFunction W S) (sym (read_as w (v.Piece f n) t (λ (k : Kind). piece k f n) b (typed_of-Piece f n))) (p b.kind b.verdict)

-- ---- tables of elements
abbrev WholeIn : Table → Kind → Function → Type 0
WholeIn table k f = function_in table f ≡ Ok k

abbrev PartIn : Table → Kind → Function → ℕ → Type 0
PartIn table k f n = piece_in table f n ≡ Ok k

function_longer : (table more : Table) (r : Role) (n : ℕ) (k : Kind) → function_kind (space_for r (slice_get table n)) ≡ Ok k
    → function_kind (space_for r (slice_get (table ++ more) n)) ≡ Ok k
function_longer [] more r n k h = cc
function_longer (s ∷ table) more r zero k h = h
function_longer (s ∷ table) more r (suc n) k h = function_longer table more r n k h

abbrev piece_for : Role → Option Space → ℕ → Verdict
piece_for r s i = piece_kind (space_for r s) (sub_element (space_for r s) i)

piece_longer : (table more : Table) (r : Role) (n i : ℕ) (k : Kind) → piece_for r (slice_get table n) i ≡ Ok k → piece_for r (slice_get (table ++ more) n) i ≡ Ok k
piece_longer [] more r n i k h = cc
piece_longer (s ∷ table) more r zero i k h = h
piece_longer (s ∷ table) more r (suc n) i k h = piece_longer table more r n i k h

-- the position in a cell is a function of the element that the table has for it
position_choice : (b : Bool) (s : Space) → b ≡ true → (if b then Some s else None) ≡ Some s
position_choice true s h = refl
position_choice false s h = cc

pub position_in : (table : Table) (c : Cell) (n : ℕ) → number_of (position_space c) table ≡ Some n → function_in table (position_at n) ≡ Ok (position_kind c)
position_in table c n h =
    ap (λ s. function_kind (space_for Position s)) (found_at n (position_space c) table h)
    ∙ ap function_kind (position_choice (same_space (position_space c) (position_space c)) (position_space c) ((spaces_equal (position_space c) (position_space c)).1 refl))

pub position_built : (table : Table) (c : Cell) (n : ℕ) → Some n ≡ number_of (position_space c) table
    → built (function_in table (position_at n)) (v.Fun (position_at n)) ≡ positioned c (number_of (position_space c) table)
position_built table c n h = ap (λ x. built x (v.Fun (position_at n))) (position_in table c n (sym h)) ∙ ap (positioned c) h

fits_position : (table : Table) (c : Cell) (n : Option ℕ) (t : Tree) → number_of (position_space c) table ≡ n → positioned c n ≡ Ok t → Fits table t
unfolding FitsTable
fits_position table c None t e h = cc
fits_position table c (Some n) t e h =
    each_function (WholeIn table) (PartIn table) (Ok (position_kind c)) (position_at n) t h (λ k same. position_in table c n e ∙ same)

pub fits_longer : (table more : Table) (e : Typed) → FitsTable table e → FitsTable (table ++ more) e
unfolding FitsTable
fits_longer table more e h =
    each_weaker (WholeIn table) (WholeIn (table ++ more)) (PartIn table) (PartIn (table ++ more)) (λ k f. function_longer table more f.role f.element k)
    (λ k f n. piece_longer table more f.role f.element n k) e h

pub builders_fit : (table : Table) → BuildersFit table
unfolding FitsTable
builders_fit table = record {
  of_function = λ f t h. each_function (WholeIn table) (PartIn table) (function_in table f) f t h (λ k e. e);
  of_position = λ c t h. fits_position table c (number_of (position_space c) table) t refl h;
  of_piece = λ f n t h. each_piece (WholeIn table) (PartIn table) (piece_in table f n) f n t h (λ k e. e);
  of_others = builders_keep (WholeIn table) (PartIn table);
  of_longer = λ t more h. fits_longer table more (typed_of t) h;
}

-- ---- numbers of elements
get_longer : (xs more : List ℕ) (n e : ℕ) → slice_get xs n ≡ Some e → slice_get (xs ++ more) n ≡ Some e
get_longer [] more n e h = cc
get_longer (x ∷ xs) more zero e h = h
get_longer (x ∷ xs) more (suc n) e h = get_longer xs more n e h

pub element_longer : (numbers more : List ℕ) (r : Role) (e : ℕ) → IsElementOf numbers r e → IsElementOf (numbers ++ more) r e
element_longer numbers more Test e h = tt
element_longer numbers more Trial e h = tt
element_longer numbers more Position e h = tt
element_longer numbers more (Coefficient n) e h = get_longer numbers more n e h

pub numbered_longer : (numbers more : List ℕ) (e : Typed) → IsNumbered numbers e → IsNumbered (numbers ++ more) e
unfolding IsNumbered
numbered_longer numbers more e h =
    weaker (HasItsElement numbers) (HasItsElement (numbers ++ more)) (λ f. element_longer numbers more f.role f.element) e h

numbered_position : (numbers : List ℕ) (c : Cell) (n : Option ℕ) (t : Tree) → positioned c n ≡ Ok t → Numbered numbers t
unfolding IsNumbered
numbered_position numbers c None t h = cc
numbered_position numbers c (Some n) t h =
    each_function (λ k g. HasItsElement numbers g) (λ k g m. HasItsElement numbers g) (Ok (position_kind c)) (position_at n) t h (λ k e. tt)

pub builders_number : (numbers : List ℕ) → BuildersNumber numbers
unfolding IsNumbered
builders_number numbers = record {
  of_function = λ w f t h p. each_function (λ k g. HasItsElement numbers g) (λ k g n. HasItsElement numbers g) w f t h (λ k e. p);
  of_position = numbered_position numbers;
  of_piece = λ w f n t h p. each_piece (λ k g. HasItsElement numbers g) (λ k g m. HasItsElement numbers g) w f n t h (λ k e. p);
  of_others = builders_keep (λ k g. HasItsElement numbers g) (λ k g n. HasItsElement numbers g);
  of_longer = λ t more h. numbered_longer numbers more (typed_of t) h;
}
