-- The value of a tree in index notation, by its kind
use Rattle.std.proofs.Common.{◌≡◌, ℕ, zero, suc, refl, sym, ◌∙◌, ap, ap₂, List, [], ◌∷◌, ◌++◌, map, length, get_or, ◌<◌, ◌≤◌, None, Some, arith, append-nil, Bor}
use Rattle.std.specs.Slice.{IsItemAt}
use Rattle.ratio.specs.Value.{fraction_of}
use Rattle.ratio.specs.declared.reduced.Ratio.{Ratio}
use Rattle.calculus.specs.Polynomial.{Polynomial, nil, plus, times, negative, constant, coefficient_of}
use Rattle.calculus.specs.Integral.{sum_below}
use Rattle.ufl_tree.specs.declared.function.Function.{Function}
use Rattle.ufl_tree.specs.declared.function.Ix.{Ix}
use Rattle.ufl_tree.specs.declared.plain.Plain.{Plain}
use Rattle.ufl_tree.specs.declared.plain.Plain.TheVariants as w
use Rattle.ufl_tree.specs.Term.{Term}
use Rattle.ufl_tree.specs.Reading.{term_of, terms_of}
use Rattle.ufl_tree.specs.Places.{table_of}
use Rattle.ufl_tree.specs.Indices.{Names, index_value, index_values, with_name}
use Rattle.ufl_tree.proofs.ReadingLaws as r
use Rattle.ufl_meaning.specs.Environment.{Environment, parameter_number}
use Rattle.ufl_meaning.specs.Operators.{along, unit_or_nil}
use Rattle.ufl_meaning.specs.Meaning.{meaning, item_meaning}
use Rattle.tree_values.specs.declared.environment.Change.{Change}
use Rattle.tree_values.specs.declared.environment.Change.TheVariants.{Raised, Turned}
use Rattle.tree_values.specs.declared.scene.Scene.{Scene}
use Rattle.tree_values.specs.Scene.{names_of, changed}
use Rattle.tree_values.specs.Value.{env_of, function_component}
use Rattle.tree_values.specs.Meaning.{meaning_in, meaning_changed, meaning_with, picked_in}
use Rattle.tree_values.proofs.SceneLaws.{names_of-push}
use Rattle.tree_values.proofs.ValueLaws.{changed_scene}

abbrev names : Scene → Names
names s = names_of s.names.now

read : (s : Scene) (e : Plain) (x : Term) → term_of e ≡ x → meaning (table_of s.elements.now) x (env_of s) (names s) ≡ meaning_in s e
unfolding meaning_in
read s e x h = sym (ap (λ x. meaning (table_of s.elements.now) x (env_of s) (names s)) h)

-- indices with nothing behind them
alone : (s : Scene) (at : List Ix) (b : List ℕ) → b ≡ index_values (names s) at ++ [] → b ≡ index_values (names s) at
alone s at b h = h ∙ append-nil (index_values (names s) at)

pub in_num : (s : Scene) (e : Plain) (c : Ratio) → e ≡ w.Num c → constant (fraction_of c) ≡ meaning_in s e
in_num s e c h = read s e _ (ap term_of h ∙ r.term_of-Num c)

pub in_fun : (s : Scene) (e : Plain) (f : Function) (at : List Ix) (b : List ℕ) → e ≡ w.Fun f at → b ≡ index_values (names s) at ++ [] → function_component s f b ≡ meaning_in s e
unfolding function_component
in_fun s e f at b h is = ap (function_component s f) (alone s at b is) ∙ read s e _ (ap term_of h ∙ r.term_of-Fun f at)

pub in_mark : (s : Scene) (e a : Plain) (l : ℕ) (at : List Ix) (b : List ℕ) → e ≡ w.Mark l at a → b ≡ index_values (names s) at ++ []
    → plus (meaning_in s a) ((env_of s).offset l b) ≡ meaning_in s e
unfolding meaning_in
in_mark s e a l at b h is = ap (λ b. plus (meaning_in s a) ((env_of s).offset l b)) (alone s at b is) ∙ read s e _ (ap term_of h ∙ r.term_of-Mark l at a)

pub in_neg : (s : Scene) (e a : Plain) → e ≡ w.Neg a → negative (meaning_in s a) ≡ meaning_in s e
unfolding meaning_in
in_neg s e a h = read s e _ (ap term_of h ∙ r.term_of-Neg a)

pub in_sum : (s : Scene) (e a b : Plain) → e ≡ w.Sum a b → plus (meaning_in s a) (meaning_in s b) ≡ meaning_in s e
unfolding meaning_in
in_sum s e a b h = read s e _ (ap term_of h ∙ r.term_of-Sum a b)

pub in_prod : (s : Scene) (e a b : Plain) → e ≡ w.Prod a b → times (meaning_in s a) (meaning_in s b) ≡ meaning_in s e
unfolding meaning_in
in_prod s e a b h = read s e _ (ap term_of h ∙ r.term_of-Prod a b)

pub in_over : (s : Scene) (e a : Plain) (i n : ℕ) → e ≡ w.Over i n a → sum_below n (meaning_with s a i) ≡ meaning_in s e
unfolding meaning_with
in_over s e a i n h = read s e _ (ap term_of h ∙ r.term_of-Over i n a)

pub in_dx : (s : Scene) (e a : Plain) (i : Ix) → e ≡ w.Dx i a → along (index_value (names s) i) (meaning_in s a) ≡ meaning_in s e
unfolding meaning_in
in_dx s e a i h = read s e _ (ap term_of h ∙ r.term_of-Dx i a)

pub in_delta : (s : Scene) (e : Plain) (i j : Ix) → e ≡ w.Delta i j → unit_or_nil (index_value (names s) i) (index_value (names s) j) ≡ meaning_in s e
in_delta s e i j h = read s e _ (ap term_of h ∙ r.term_of-Delta i j)

picks : (s : Scene) (es : List Plain) (i : ℕ) → picked_in s es i ≡ item_meaning (table_of s.elements.now) (terms_of (map term_of es)) (env_of s) (names s) i
unfolding meaning_in
picks s [] i = refl
picks s (e ∷ es) zero = refl
picks s (e ∷ es) (suc i) = picks s es i

pub in_pick : (s : Scene) (e : Plain) (i : Ix) (es : List Plain) → e ≡ w.Pick i es → picked_in s es (index_value (names s) i) ≡ meaning_in s e
in_pick s e i es h = picks s es (index_value (names s) i) ∙ read s e _ (ap term_of h ∙ r.term_of-Pick i es)

pub in_raise : (s : Scene) (e a : Plain) (l : ℕ) (at : List Ix) (b : List ℕ) → e ≡ w.Raise l at a → b ≡ index_values (names s) at ++ []
    → coefficient_of (parameter_number (env_of s).used) 1 (meaning_changed s a (Raised l b)) ≡ meaning_in s e
unfolding meaning_changed
in_raise s e a l at b h is =
    ap (λ b. coefficient_of (parameter_number (env_of s).used) 1 (meaning_changed s a (Raised l b))) (alone s at b is) ∙ read s e _ (ap term_of h ∙ r.term_of-Raise l at a)

pub in_turn : (s : Scene) (e a : Plain) (f g : Function) → e ≡ w.Turn f g a → coefficient_of (parameter_number (env_of s).used) 1 (meaning_changed s a (Turned f.role g.role)) ≡ meaning_in s e
unfolding meaning_changed
in_turn s e a f g h = read s e _ (ap term_of h ∙ r.term_of-Turn f g a)

-- ---- other scenes
pub changed_at : (s here : Scene) (e : Plain) (c : Change) (cs : List Change) → here.elements.now ≡ s.elements.now → here.functions.now ≡ s.functions.now → here.marker ≡ s.marker → here.changes.now ≡ cs
    → here.names.now ≡ s.names.now → cs ≡ s.changes.now ++ c ∷ [] → meaning_in here e ≡ meaning_changed s e c
unfolding meaning_in meaning_changed
changed_at s here e c cs es fs ms hs ns is =
    ap₂ (λ x y. meaning (table_of x) (term_of e) y (names_of here.names.now)) es (changed_scene s here c fs ms (hs ∙ is))
    ∙ ap (λ x. meaning (table_of s.elements.now) (term_of e) (changed c (env_of s)) (names_of x)) ns

pub named_at : (s here : Scene) (e : Plain) (i k : ℕ) → here.elements.now ≡ s.elements.now → env_of here ≡ env_of s → here.names.now ≡ s.names.now ++ record { index = i; value = k } ∷ []
    → meaning_in here e ≡ meaning_with s e i k
unfolding meaning_in meaning_with
named_at s here e i k es env ns =
    ap₂ (λ x y. meaning (table_of x) (term_of e) y (names_of here.names.now)) es env
    ∙ ap (meaning (table_of s.elements.now) (term_of e) (env_of s)) (ap names_of ns ∙ names_of-push s.names.now (record { index = i; value = k }))

-- ---- items
item_at : (s : Scene) (es : List Plain) (i : ℕ) (e : Plain) → i < length es → e ≡ get_or es i e → meaning_in s e ≡ picked_in s es i
item_at s [] i e h is = absurd (omega arith)
item_at s (x ∷ es) zero e h is = ap (meaning_in s) is
item_at s (x ∷ es) (suc i) e h is = item_at s es i e (omega arith) is

no_item : (s : Scene) (es : List Plain) (i : ℕ) → length es ≤ i → nil ≡ picked_in s es i
no_item s [] i h = refl
no_item s (x ∷ es) zero h = absurd (omega arith)
no_item s (x ∷ es) (suc i) h = no_item s es i (omega arith)

pub item_got : (s : Scene) (es : List Plain) (i : ℕ) (e : Bor Plain) → IsItemAt es i (Some e) → meaning_in s e.now ≡ picked_in s es i
item_got s es i e h = item_at s es i e.now h.3.0 h.1

pub none_got : (s : Scene) (es : List Plain) (i : ℕ) → IsItemAt es i None → nil ≡ picked_in s es i
none_got s es i h = no_item s es i h.3
