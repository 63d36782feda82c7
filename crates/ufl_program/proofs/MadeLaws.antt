-- Functions and their values: what is made grows, and what is sound stays so
use Rattle.std.proofs.Common.{◌≡◌, ℕ, zero, suc, ◌+◌, List, [], ◌∷◌, ◌++◌, length, append_assoc, append-nil, Bool, true, false, if◌then◌else◌, Option, None, Some, slice_get, Result, Ok, Err, refl, sym, ap, ◌∙◌, subst}
use Rattle.std.specs.Prelude.{IfOk}
use Rattle.std.proofs.lemmas.List.{map-append}
use Rattle.spaces.specs.declared.cell.Cell.{Cell}
use Rattle.spaces.specs.declared.element_tree.ElementTree.{ElementTree}
use Rattle.spaces.specs.declared.family.Family.TheVariants.{Lagrange, Real}
use Rattle.spaces.specs.Reading.{space_of}
use Rattle.ufl_tree.specs.declared.function.Function.{Function}
use Rattle.ufl_tree.specs.declared.function.Role.{Role}
use Rattle.ufl_tree.specs.declared.function.Role.TheVariants.{Test, Trial, Position, Coefficient}
use Rattle.ufl_tree.specs.declared.tree.Tree.{Tree}
use Rattle.ufl_tree.specs.declared.tree.Node.TheVariants as n
use Rattle.ufl_tree.specs.Places.{Table, table_of}
use Rattle.ufl_tree.specs.Reading.{typed_of, kind_of}
use Rattle.ufl_expr.specs.Elements.{number_of, has_space, with_element, function_in, piece_in}
use Rattle.ufl_expr.specs.Building.{built}
use Rattle.ufl_expr.specs.Table.{variable_kind, has_argument}
use Rattle.ufl_expr.specs.Numbered.{IsElementOf, HasItsElement}
use Rattle.ufl_values.specs.declared.refusal.Reason.{Reason}
use Rattle.ufl_values.specs.declared.value.Value.{Value}
use Rattle.ufl_values.specs.declared.value.Value.TheVariants as v
use Rattle.ufl_values.specs.Answer.{and_then, typed_as}
use Rattle.ufl_values.specs.Values.{expression_of}
use Rattle.ufl_calls.specs.declared.made.Made.{Made}
use Rattle.ufl_calls.specs.Made.{Making, after, unmade, numbered_in, element_number, function_of, coefficient_of, label_of, whole_value, piece_value, pieces_from, pieces_by, pieces}
use Rattle.ufl_calls.specs.Arguments.{one_place}
use Rattle.ufl_calls.specs.Functions.{only_element, whole_of, argument_of, coefficient_in, only_cell, one_for_each, real_on, constant_of, vector_constant_of, position_of, pieces_of, arguments_of, whole_function, split_of}
use Rattle.ufl_calls.specs.Tensors.{variable}
use Rattle.ufl_program.specs.Sound.{SoundTree}
use Rattle.ufl_program.proofs.StepLaws.{anything, where_ok, then_keeps}
use Rattle.ufl_program.proofs.TreeLaws.{sound_function, sound_piece, sound_variable, tree_longer}
use Rattle.ufl_program.proofs.Parts.{SoundValue, SoundValues, of_tuple, value_longer}
use Rattle.ufl_program.proofs.OperatorLaws.{expression_keeps, tree_value}
use Rattle.ufl_program.proofs.CallLaws.{one_kept, whole_kept}

-- the table and the list are those before, with more behind
pub record Grown (m n : Made) : Type 0 where
  pub more : List ElementTree
  pub others : List ℕ
  pub elements : n.elements ≡ m.elements ++ more
  pub coefficients : n.coefficients ≡ m.coefficients ++ others

pub same : (m : Made) → Grown m m
same m = record { more = []; others = []; elements = sym (append-nil m.elements); coefficients = sym (append-nil m.coefficients) }

pub grown_again : (m n k : Made) → Grown m n → Grown n k → Grown m k
grown_again m n k G H = record {
  more = G.more ++ H.more;
  others = G.others ++ H.others;
  elements = H.elements ∙ ap (λ l. l ++ H.more) G.elements ∙ append_assoc m.elements G.more H.more;
  coefficients = H.coefficients ∙ ap (λ l. l ++ H.others) G.coefficients ∙ append_assoc m.coefficients G.others H.others;
}

abbrev pub Sound : Made → Value → Type 0
Sound m a = SoundValue (table_of m.elements) m.coefficients a

abbrev pub AllSound : Made → List Value → Type 0
AllSound m vs = SoundValues (table_of m.elements) m.coefficients vs

abbrev pub Has : Made → Function → Type 0
Has m f = HasItsElement m.coefficients f

abbrev pub TreeSound : Made → Tree → Type 0
TreeSound m t = SoundTree (table_of m.elements) m.coefficients t

table_grown : (m n : Made) (G : Grown m n) → table_of n.elements ≡ table_of m.elements ++ table_of G.more
table_grown m n G = ap table_of G.elements ∙ map-append space_of m.elements G.more

pub sound_still : (m n : Made) → Grown m n → (a : Value) → Sound m a → Sound n a
sound_still m n G a h =
    subst (λ t. SoundValue t n.coefficients a) (sym (table_grown m n G))
    (subst (λ l. SoundValue (table_of m.elements ++ table_of G.more) l a) (sym G.coefficients)
    (value_longer (table_of m.elements) (table_of G.more) m.coefficients G.others a h))

pub all_still : (m n : Made) → Grown m n → (vs : List Value) → AllSound m vs → AllSound n vs
all_still m n G [] h = tt
all_still m n G (a ∷ vs) h = (sound_still m n G a h.0, all_still m n G vs h.1)

tree_still : (m n : Made) → Grown m n → (t : Tree) → TreeSound m t → TreeSound n t
tree_still m n G t h =
    subst (λ x. SoundTree x n.coefficients t) (sym (table_grown m n G))
    (subst (λ l. SoundTree (table_of m.elements ++ table_of G.more) l t) (sym G.coefficients)
    (tree_longer (table_of m.elements) (table_of G.more) m.coefficients G.others t h))

-- what is made grows from m on, and the value has P then
abbrev pub Makes : {A : Type 0} → (Made → A → Type 0) → Made → A × Made → Type 0
Makes P m p = Grown m p.1 × P p.1 p.0

abbrev pub Nothing : {A : Type 0} → Made → A → Type 0
Nothing m x = Unit {0}

pub unmade_keeps : {A : Type 0} (r : Result A Reason) (m : Made) (P : Made → A → Type 0) → IfOk r (P m) → IfOk (unmade r m) (Makes P m)
unmade_keeps (Ok x) m P h = (same m, h)
unmade_keeps (Err e) m P h = tt

-- what grows from n on grows from before n on
pub from_before : {B E : Type 0} (m n : Made) (Q : Made → B → Type 0) (r : Result (B × Made) E) → Grown m n → IfOk r (Makes Q n) → IfOk r (Makes Q m)
from_before m n Q (Ok q) G h = (grown_again m n q.1 G h.0, h.1)
from_before m n Q (Err e) G h = tt

pub after_keeps : {A B : Type 0} (r : Making A) (next : A → Made → Making B) (m : Made) (P : Made → A → Type 0) (Q : Made → B → Type 0)
    → IfOk r (Makes P m) → ((x : A) (n : Made) → Grown m n → P n x → IfOk (next x n) (Makes Q n)) → IfOk (after r next) (Makes Q m)
after_keeps (Ok p) next m P Q h g = from_before m p.1 Q (next p.0 p.1) h.0 (g p.0 p.1 h.0 h.1)
after_keeps (Err e) next m P Q h g = tt

-- ---- elements and functions
with_grown : (b : Bool) (e : ElementTree) (m n : Made) → n.elements ≡ (if b then m.elements else m.elements ++ e ∷ []) → n.coefficients ≡ m.coefficients → Grown m n
with_grown true e m n h g = record { more = []; others = []; elements = h ∙ sym (append-nil m.elements); coefficients = g ∙ sym (append-nil m.coefficients) }
with_grown false e m n h g = record { more = e ∷ []; others = []; elements = h; coefficients = g ∙ sym (append-nil m.coefficients) }

-- with the same coefficients
abbrev Kept : Made → Made → ℕ → Type 0
Kept m n k = n.coefficients ≡ m.coefficients

numbered_keeps : (o : Option ℕ) (m n : Made) → Grown m n → n.coefficients ≡ m.coefficients → IfOk (numbered_in o n) (Makes (Kept m) m)
numbered_keeps None m n G h = tt
numbered_keeps (Some k) m n G h = (G, h)

element_keeps : (e : ElementTree) (m : Made) → IfOk (element_number e m) (Makes (Kept m) m)
element_keeps e m =
    let n : Made = record { elements = with_element e m.elements; coefficients = m.coefficients; labels = m.labels } in
    numbered_keeps (number_of (space_of e) (table_of n.elements)) m n (with_grown (has_space (space_of e) (table_of m.elements)) e m n refl refl) refl

pub function_keeps : (role : Role) (e : ElementTree) (m : Made) → ((numbers : List ℕ) (k : ℕ) → IsElementOf numbers role k)
    → IfOk (function_of role e m) (Makes Has m)
function_keeps role e m h =
    after_keeps (element_number e m) (λ k n. Ok (record { role = role; element = k }, n)) m (Kept m) Has (element_keeps e m)
    (λ k n G K. (same n, h n.coefficients k))

last_is : (ks : List ℕ) (k : ℕ) → slice_get (ks ++ k ∷ []) (length ks) ≡ Some k
last_is [] k = refl
last_is (x ∷ ks) k = last_is ks k

pub coefficient_keeps : (e : ElementTree) (m : Made) → IfOk (coefficient_of e m) (Makes Has m)
coefficient_keeps e m =
    after_keeps (element_number e m) (λ k n. Ok (
      record { role = Coefficient (length m.coefficients); element = k },
      record { elements = n.elements; coefficients = m.coefficients ++ k ∷ []; labels = m.labels },
    )) m (Kept m) Has (element_keeps e m)
    (λ k n G K. (
      record { more = []; others = k ∷ []; elements = sym (append-nil n.elements); coefficients = ap (λ l. l ++ k ∷ []) (sym K) },
      last_is m.coefficients k,
    ))

whole_value_keeps : (f : Function) (m : Made) → Has m f → IfOk (whole_value f m) (Sound m)
whole_value_keeps f m h =
    tree_value (table_of m.elements) m.coefficients _
    (where_ok (built (function_in (table_of m.elements) f) (n.Fun f)) (TreeSound m) (λ t e. sound_function (table_of m.elements) m.coefficients f t e h))

whole_keeps : (f : Function) (m : Made) → Has m f → IfOk (whole_of f m) (Makes Sound m)
whole_keeps f m h = unmade_keeps (whole_value f m) m Sound (whole_value_keeps f m h)

of_test : (numbers : List ℕ) (k : ℕ) → IsElementOf numbers Test k
of_test numbers k = tt

of_trial : (numbers : List ℕ) (k : ℕ) → IsElementOf numbers Trial k
of_trial numbers k = tt

of_position : (numbers : List ℕ) (k : ℕ) → IsElementOf numbers Position k
of_position numbers k = tt

pub argument_keeps : (role : Role) (places : List Value) (m : Made) → ((numbers : List ℕ) (k : ℕ) → IsElementOf numbers role k)
    → IfOk (argument_of role places m) (Makes Sound m)
argument_keeps role places m h =
    after_keeps (unmade (only_element places) m) (λ t m'. after (function_of role t m') whole_of) m Nothing Sound
    (unmade_keeps (only_element places) m Nothing (anything _))
    (λ t n G N. after_keeps (function_of role t n) whole_of n Has Sound (function_keeps role t n h) (λ f k H g. whole_keeps f k g))

coefficient_in_keeps : (places : List Value) (m : Made) → IfOk (coefficient_in places m) (Makes Sound m)
coefficient_in_keeps places m =
    after_keeps (unmade (only_element places) m) (λ t m'. after (coefficient_of t m') whole_of) m Nothing Sound
    (unmade_keeps (only_element places) m Nothing (anything _))
    (λ t n G N. after_keeps (coefficient_of t n) whole_of n Has Sound (coefficient_keeps t n) (λ f k H g. whole_keeps f k g))

coefficient_on_keeps : (places : List Value) (m : Made) (element : Cell → ElementTree)
    → IfOk (after (unmade (only_cell places) m) (λ c m'. after (coefficient_of (element c) m') whole_of)) (Makes Sound m)
coefficient_on_keeps places m element =
    after_keeps (unmade (only_cell places) m) (λ c m'. after (coefficient_of (element c) m') whole_of) m Nothing Sound
    (unmade_keeps (only_cell places) m Nothing (anything _))
    (λ c n G N. after_keeps (coefficient_of (element c) n) whole_of n Has Sound (coefficient_keeps (element c) n) (λ f k H g. whole_keeps f k g))

pub test_keeps : (places : List Value) (m : Made) → IfOk (argument_of Test places m) (Makes Sound m)
test_keeps places m = argument_keeps Test places m of_test

pub trial_keeps : (places : List Value) (m : Made) → IfOk (argument_of Trial places m) (Makes Sound m)
trial_keeps places m = argument_keeps Trial places m of_trial

pub call_coefficient : (places : List Value) (m : Made) → IfOk (coefficient_in places m) (Makes Sound m)
call_coefficient = coefficient_in_keeps

pub call_constant : (places : List Value) (m : Made) → IfOk (constant_of places m) (Makes Sound m)
call_constant places m = coefficient_on_keeps places m real_on

pub call_vector_constant : (places : List Value) (m : Made) → IfOk (vector_constant_of places m) (Makes Sound m)
call_vector_constant places m = coefficient_on_keeps places m (λ c. one_for_each Real c 0)

pub call_position : (places : List Value) (m : Made) → IfOk (position_of places m) (Makes Sound m)
call_position places m =
    after_keeps (unmade (only_cell places) m) (λ c m'. after (function_of Position (one_for_each Lagrange c 1) m') whole_of) m Nothing Sound
    (unmade_keeps (only_cell places) m Nothing (anything _))
    (λ c n G N. after_keeps (function_of Position (one_for_each Lagrange c 1) n) whole_of n Has Sound
    (function_keeps Position (one_for_each Lagrange c 1) n of_position) (λ f k H g. whole_keeps f k g))

-- ---- parts of mixed functions
module _ (table : Table) (numbers : List ℕ) (f : Function) (h : HasItsElement numbers f) where
  abbrev V : Value → Type 0
  V = SoundValue table numbers

  piece_keeps : (k : ℕ) → IfOk (piece_value table f k) V
  piece_keeps k =
      tree_value table numbers _
      (where_ok (built (piece_in table f k) (n.Piece f k)) (SoundTree table numbers) (λ t e. sound_piece table numbers f k t e h))

  also : (vs : List Value) (a : Value) → SoundValues table numbers vs → V a → SoundValues table numbers (vs ++ a ∷ [])
  also [] a H A = (A, tt)
  also (x ∷ vs) a H A = (H.0, also vs a H.1 A)

  from_keeps : (found : List Value) (k left : ℕ) → SoundValues table numbers found → IfOk (pieces_from table f found k left) (SoundValues table numbers)
  from_keeps found k zero H = H
  from_keeps found k (suc left) H =
      then_keeps (piece_value table f k) (λ a. pieces_from table f (found ++ a ∷ []) (k + 1) left) V (SoundValues table numbers) (piece_keeps k)
      (λ a A. from_keeps (found ++ a ∷ []) (k + 1) left (also found a H A))

  pub pieces_keep : (o : Option ℕ) → IfOk (pieces_by o table f) V
  pieces_keep None = tt
  pieces_keep (Some count) =
      then_keeps (pieces_from table f [] 0 count) (λ vs. Ok (v.Tuple vs)) (SoundValues table numbers) V (from_keeps [] 0 count tt) (of_tuple table numbers)

parts_keep : (f : Function) (m : Made) → Has m f → IfOk (pieces_of f m) (Makes Sound m)
parts_keep f m h = unmade_keeps (pieces f m) m Sound (pieces_keep (table_of m.elements) m.coefficients f h _)

pub arguments_keep : (role : Role) (places : List Value) (m : Made) → ((numbers : List ℕ) (k : ℕ) → IsElementOf numbers role k)
    → IfOk (arguments_of role places m) (Makes Sound m)
arguments_keep role places m h =
    after_keeps (unmade (only_element places) m) (λ t m'. after (function_of role t m') pieces_of) m Nothing Sound
    (unmade_keeps (only_element places) m Nothing (anything _))
    (λ t n G N. after_keeps (function_of role t n) pieces_of n Has Sound (function_keeps role t n h) (λ f k H g. parts_keep f k g))

pub tests_keep : (places : List Value) (m : Made) → IfOk (arguments_of Test places m) (Makes Sound m)
tests_keep places m = arguments_keep Test places m of_test

pub trials_keep : (places : List Value) (m : Made) → IfOk (arguments_of Trial places m) (Makes Sound m)
trials_keep places m = arguments_keep Trial places m of_trial

pub split_keeps : (places : List Value) (m : Made) → AllSound m places → IfOk (split_of places m) (Makes Sound m)
split_keeps places m h =
    after_keeps (unmade (and_then (one_place places) whole_function) m) pieces_of m Has Sound
    (unmade_keeps (and_then (one_place places) whole_function) m Has
    (then_keeps (one_place places) whole_function (Sound m) (Has m) (one_kept (table_of m.elements) m.coefficients places h)
    (whole_kept (table_of m.elements) m.coefficients)))
    (λ f n G g. parts_keep f n g)

-- ---- variables
labelled : (m : Made) → IfOk (label_of m) (Makes Nothing m)
labelled m = (record { more = []; others = []; elements = sym (append-nil m.elements); coefficients = sym (append-nil m.coefficients) }, tt)

variable_value : (l : ℕ) (x : Tree) (m : Made) → TreeSound m x
    → IfOk (typed_as v.Expr (built (variable_kind (has_argument (typed_of x)) (kind_of x)) (n.Variable l x))) (Sound m)
variable_value l x m h =
    tree_value (table_of m.elements) m.coefficients _
    (where_ok (built (variable_kind (has_argument (typed_of x)) (kind_of x)) (n.Variable l x)) (TreeSound m)
    (λ t e. sound_variable (table_of m.elements) m.coefficients l x t e h))

pub variable_keeps : (places : List Value) (m : Made) → AllSound m places → IfOk (variable places m) (Makes Sound m)
variable_keeps places m h =
    after_keeps (unmade (and_then (one_place places) expression_of) m) _ m TreeSound Sound
    (unmade_keeps (and_then (one_place places) expression_of) m TreeSound
    (then_keeps (one_place places) expression_of (Sound m) (TreeSound m) (one_kept (table_of m.elements) m.coefficients places h)
    (expression_keeps (table_of m.elements) m.coefficients)))
    (λ x k G X. after_keeps (label_of k) (λ l m2. unmade (typed_as v.Expr (built (variable_kind (has_argument (typed_of x)) (kind_of x)) (n.Variable l x))) m2) k Nothing Sound
    (labelled k)
    (λ l j H N. unmade_keeps _ j Sound (variable_value l x j (tree_still k j H x X))))
