-- What is written has a sound value where the values of all names are sound
use Rattle.std.proofs.Common.{◌≡◌, ℕ, List, [], ◌∷◌, ◌++◌, length, map, nat_lt, Bool, true, false, if◌then◌else◌, Option, None, Some, Result, Ok, Err, sym, subst}
use Rattle.std.specs.Prelude.{IfOk, IfSome, codes}
use Rattle.std.specs.Str.{bytes_eq}
use Rattle.ratio.specs.declared.reduced.Ratio.{Ratio}
use Rattle.ufl_syntax.specs.declared.span.Span.{Span}
use Rattle.ufl_syntax.specs.Spans.{word_at}
use Rattle.ufl_syntax.specs.declared.tree.Syn.{Syn, Syn-F, roll-Syn, map-Syn, ind-Syn}
use Rattle.ufl_syntax.specs.declared.tree.Syn.TheVariants as s
use Rattle.ufl_syntax.specs.declared.tree.Next.{Next, Next-F, roll-Next, map-Next}
use Rattle.ufl_syntax.specs.declared.tree.Post.{Post, Post-F, roll-Post, map-Post}
use Rattle.ufl_syntax.specs.declared.tree.Post.TheVariants as q
use Rattle.ufl_syntax.specs.declared.tree.Arg.{Arg, Arg-F, roll-Arg, map-Arg}
use Rattle.ufl_tree.specs.declared.tree.Op1.TheVariants.{Transpose}
use Rattle.ufl_tree.specs.Places.{table_of}
use Rattle.ufl_values.specs.declared.refusal.Reason.{Reason}
use Rattle.ufl_values.specs.declared.refusal.Reason.TheVariants as r
use Rattle.ufl_values.specs.declared.value.Value.{Value}
use Rattle.ufl_values.specs.declared.value.Value.TheVariants as v
use Rattle.ufl_values.specs.declared.words.Sign.{Sign}
use Rattle.ufl_values.specs.declared.words.Sign.TheVariants as g
use Rattle.ufl_values.specs.Refused.{refused}
use Rattle.ufl_values.specs.Words.{sign_of}
use Rattle.ufl_values.specs.Values.{light}
use Rattle.ufl_values.specs.Operators.{binary_of, indexed_of}
use Rattle.ufl_calls.specs.declared.arguments.Given.{Given}
use Rattle.ufl_calls.specs.declared.made.Made.{Made}
use Rattle.ufl_calls.specs.Arguments.{place_behind, given_also, given_keyed}
use Rattle.ufl_calls.specs.Groups.{grouped}
use Rattle.ufl_calls.specs.Made.{unmade}
use Rattle.ufl_calls.specs.Calls.{Refusable, at_word, transposed, text_value}
use Rattle.ufl_elab.specs.declared.bound.Bound.{Bound}
use Rattle.ufl_elab.specs.declared.head.Head.{Head}
use Rattle.ufl_elab.specs.declared.head.Head.TheVariants as h
use Rattle.ufl_elab.specs.Literals.{literal}
use Rattle.ufl_elab.specs.Names.{Name, get, value_or, value_in}
use Rattle.ufl_elab.specs.Evaluation.{Place, Eval, Step, Operand, Argument, step, closed, worth, whole, name_of, number_of, signed, signed_by, operated, indexed_by, attribute, applied, collected, made_of, values_from, chain_of, given_by, given_with, arguments_of, no_arguments, posts_of, eval_of, next_of, post_of, arg_of}
use Rattle.ufl_elab.proofs.Readings.{eval_of-Name, eval_of-Number, eval_of-Text, eval_of-Tuple, eval_of-List, eval_of-Sign, eval_of-Binary, eval_of-Postfix, post_of-Call, post_of-Index, post_of-Attr, next_of-right, arg_of-value}
use Rattle.ufl_program.proofs.Parts.{of_number, of_text, of_tuple, of_list, of_light}
use Rattle.ufl_program.proofs.OperatorLaws.{plus_keeps, minus_keeps, binary_keeps, indexed_keeps, one_keeps}
use Rattle.ufl_program.proofs.CallLaws.{grouped_kept}
use Rattle.ufl_program.proofs.MadeLaws.{Grown, Sound, AllSound, Makes, same, from_before, sound_still, all_still, unmade_keeps}
use Rattle.ufl_program.proofs.NameLaws.{table_keeps, at_word_keeps, called_keeps, along_keeps}

-- ---- the values of names
abbrev pub SoundNames : Made → List Name → Type 0
SoundNames m [] = Unit {0}
SoundNames m (x ∷ xs) = Sound m x.bound.value × SoundNames m xs

pub names_still : (m n : Made) → Grown m n → (xs : List Name) → SoundNames m xs → SoundNames n xs
names_still m n G [] h = tt
names_still m n G (x ∷ xs) h = (sound_still m n G x.bound.value h.0, names_still m n G xs h.1)

got : (m : Made) (b : Bool) (x : Bound) (o : Option Bound) → Sound m x.value → IfSome o (λ y. Sound m y.value)
    → IfSome (if b then Some x else o) (λ y. Sound m y.value)
got m true x o h k = h
got m false x o h k = k

pub get_keeps : (m : Made) (xs : List Name) (name : List ℕ) → SoundNames m xs → IfSome (get xs name) (λ y. Sound m y.value)
get_keeps m [] name h = tt
get_keeps m (x ∷ xs) name h = got m (bytes_eq name x.name) x.bound (get xs name) h.0 (get_keeps m xs name h.1)

value_or_keeps : (m : Made) (o : Option Bound) (name : List ℕ) → IfSome o (λ y. Sound m y.value) → IfOk (value_or o name) (Sound m)
value_or_keeps m (Some x) name h = h
value_or_keeps m None name h = table_keeps m name

pub value_in_keeps : (m : Made) (xs : List Name) (name : List ℕ) → SoundNames m xs → IfOk (value_in xs name) (Sound m)
value_in_keeps m xs name h = value_or_keeps m (get xs name) name (get_keeps m xs name h)

-- ---- steps
abbrev pub SoundHead : Made → Head → Type 0
SoundHead m (h.Whole a) = Sound m a
SoundHead m (h.Named a word) = Sound m a
SoundHead m (h.Along a word) = Sound m a

pub step_keeps : {A B : Type 0} (r : Refusable A) (next : A → Made → Refusable B) (m : Made) (P : Made → A → Type 0) (Q : Made → B → Type 0)
    → IfOk r (Makes P m) → ((x : A) (n : Made) → Grown m n → P n x → IfOk (next x n) (Makes Q n)) → IfOk (step r next) (Makes Q m)
step_keeps (Ok p) next m P Q k f = from_before m p.1 Q (next p.0 p.1) k.0 (f p.0 p.1 k.0 k.1)
step_keeps (Err e) next m P Q k f = tt

closed_keeps : (line : ℕ) (x : Head) (m : Made) → SoundHead m x → IfOk (closed line x m) (Makes Sound m)
closed_keeps line (h.Whole a) m k = (same m, k)
closed_keeps line (h.Named a word) m k = (same m, k)
closed_keeps line (h.Along a word) m k = tt

pub worth_keeps : (line : ℕ) (r : Refusable Head) (m : Made) → IfOk r (Makes SoundHead m) → IfOk (worth line r) (Makes Sound m)
worth_keeps line r m k = step_keeps r (closed line) m SoundHead Sound k (λ x n G j. closed_keeps line x n j)

whole_keeps : (r : Refusable Value) (m : Made) → IfOk r (Makes Sound m) → IfOk (whole r) (Makes SoundHead m)
whole_keeps r m k = step_keeps r (λ a n. Ok (h.Whole a, n)) m Sound SoundHead k (λ a n G j. (same n, j))

name_keeps : (p : Place) (word : Span) (r : Result Value Reason) (m : Made) → IfOk r (Sound m) → IfOk (name_of p word r m) (Makes SoundHead m)
name_keeps p word (Ok a) m k = (same m, k)
name_keeps p word (Err e) m k = tt

number_keeps : (p : Place) (word : Span) (o : Option Ratio) (m : Made) → IfOk (number_of p word o m) (Makes SoundHead m)
number_keeps p word (Some c) m = (same m, of_number (table_of m.elements) m.coefficients c)
number_keeps p word None m = tt

signed_keeps : (sign : Sign) (a : Value) (m : Made) → Sound m a → IfOk (signed sign a) (Sound m)
signed_keeps g.Plus a m k = plus_keeps (table_of m.elements) m.coefficients a k
signed_keeps g.Minus a m k = minus_keeps (table_of m.elements) m.coefficients a k
signed_keeps g.Times a m k = minus_keeps (table_of m.elements) m.coefficients a k
signed_keeps g.Over a m k = minus_keeps (table_of m.elements) m.coefficients a k
signed_keeps g.Power a m k = minus_keeps (table_of m.elements) m.coefficients a k

placed_keeps : (line : ℕ) (word : Span) (r : Result Value Reason) (m : Made) → IfOk r (Sound m) → IfOk (at_word line word (unmade r m)) (Makes Sound m)
placed_keeps line word r m k = at_word_keeps line word (unmade r m) (Makes Sound m) (unmade_keeps r m Sound k)

signed_by_keeps : (p : Place) (word : Span) (r : Refusable Head) (m : Made) → IfOk r (Makes SoundHead m) → IfOk (signed_by p word r) (Makes SoundHead m)
signed_by_keeps p word r m k =
    step_keeps (worth p.line r) (λ a n. whole (at_word p.line word (unmade (signed (sign_of (word_at p.file word)) a) n))) m Sound SoundHead
    (worth_keeps p.line r m k)
    (λ a n G j. whole_keeps _ n (placed_keeps p.line word _ n (signed_keeps (sign_of (word_at p.file word)) a n j)))

operated_keeps : (p : Place) (op : Span) (a : Value) (r : Refusable Head) (m : Made) → Sound m a → IfOk r (Makes SoundHead m)
    → IfOk (operated p op a r) (Makes Sound m)
operated_keeps p op a r m A k =
    step_keeps (worth p.line r) (λ b n. at_word p.line op (unmade (binary_of (sign_of (word_at p.file op)) a b) n)) m Sound Sound (worth_keeps p.line r m k)
    (λ b n G B. placed_keeps p.line op _ n (binary_keeps (table_of n.elements) n.coefficients (sign_of (word_at p.file op)) a b (sound_still m n G a A) B))

indexed_by_keeps : (p : Place) (bracket : Span) (a : Value) (r : Refusable Head) (m : Made) → Sound m a → IfOk r (Makes SoundHead m)
    → IfOk (indexed_by p bracket a r) (Makes SoundHead m)
indexed_by_keeps p bracket a r m A k =
    step_keeps (worth p.line r) (λ b n. whole (at_word p.line bracket (unmade (indexed_of a b) n))) m Sound SoundHead (worth_keeps p.line r m k)
    (λ b n G B. whole_keeps _ n (placed_keeps p.line bracket _ n (indexed_keeps (table_of n.elements) n.coefficients a b (sound_still m n G a A))))

transposed_keeps : (p : Place) (word : Span) (a : Value) (m : Made) → Sound m a → IfOk (whole (at_word p.line word (unmade (transposed a) m))) (Makes SoundHead m)
transposed_keeps p word a m A = whole_keeps _ m (placed_keeps p.line word (transposed a) m (one_keeps (table_of m.elements) m.coefficients Transpose a A))

attribute_by : (t d : Bool) (p : Place) (word : Span) (a : Value) (m : Made) → Sound m a
    → IfOk (if t then whole (at_word p.line word (unmade (transposed a) m)) else if d then Ok (h.Along a word, m) else Err (refused r.Unsupported p.line word))
    (Makes SoundHead m)
attribute_by true d p word a m A = transposed_keeps p word a m A
attribute_by false true p word a m A = (same m, A)
attribute_by false false p word a m A = tt

attribute_keeps : (p : Place) (word : Span) (a : Value) (m : Made) → Sound m a → IfOk (attribute p word a m) (Makes SoundHead m)
attribute_keeps p word a m A = attribute_by (bytes_eq (word_at p.file word) (codes "T")) (bytes_eq (word_at p.file word) (codes "dx")) p word a m A

applied_keeps : (line : ℕ) (x : Head) (bracket : Span) (given : Given) (m : Made) → SoundHead m x → AllSound m given.places
    → IfOk (applied line x bracket given m) (Makes Sound m)
applied_keeps line (h.Whole callee) bracket given m A k = called_keeps line callee bracket given m k
applied_keeps line (h.Named callee name) bracket given m A k = called_keeps line callee name given m k
applied_keeps line (h.Along a word) bracket given m A k = along_keeps line a word given m A

collected_keeps : (line : ℕ) (word : Span) (r : Refusable (List Value)) (m : Made) → IfOk r (Makes AllSound m) → IfOk (collected line word r) (Makes AllSound m)
collected_keeps line word r m k =
    step_keeps r (λ vs n. at_word line word (unmade (grouped vs) n)) m AllSound AllSound k
    (λ vs n G j. at_word_keeps line word (unmade (grouped vs) n) (Makes AllSound n)
    (unmade_keeps (grouped vs) n AllSound (grouped_kept (table_of n.elements) n.coefficients vs j)))

made_of_keeps : (make : List Value → Value) (r : Refusable (List Value)) (m : Made) → ((n : Made) (vs : List Value) → AllSound n vs → Sound n (make vs))
    → IfOk r (Makes AllSound m) → IfOk (made_of make r) (Makes SoundHead m)
made_of_keeps make r m f k = step_keeps r (λ vs n. Ok (h.Whole (make vs), n)) m AllSound SoundHead k (λ vs n G j. (same n, f n vs j))

-- ---- parts
abbrev pub Evaluates : Place → Eval → Type 0
Evaluates p e = (m : Made) → SoundNames m p.names → IfOk (e m) (Makes SoundHead m)

abbrev Steps : Place → Step → Type 0
Steps p s = (x : Head) (m : Made) → SoundNames m p.names → SoundHead m x → IfOk (s x m) (Makes SoundHead m)

abbrev EachEvaluates : Place → List Eval → Type 0
EachEvaluates p [] = Unit {0}
EachEvaluates p (e ∷ es) = Evaluates p e × EachEvaluates p es

abbrev EachSteps : Place → List Step → Type 0
EachSteps p [] = Unit {0}
EachSteps p (s ∷ ss) = Steps p s × EachSteps p ss

abbrev EachOperand : Place → List Operand → Type 0
EachOperand p [] = Unit {0}
EachOperand p (o ∷ os) = Evaluates p o.right × EachOperand p os

abbrev EachArgument : Place → List Argument → Type 0
EachArgument p [] = Unit {0}
EachArgument p (x ∷ xs) = Evaluates p x.value × EachArgument p xs

also : (m : Made) (vs : List Value) (a : Value) → AllSound m vs → Sound m a → AllSound m (vs ++ a ∷ [])
also m [] a k A = (A, tt)
also m (x ∷ vs) a k A = (k.0, also m vs a k.1 A)

values_keep : (p : Place) (found : List Value) (es : List Eval) (m : Made) → SoundNames m p.names → AllSound m found → EachEvaluates p es
    → IfOk (values_from p.line found es m) (Makes AllSound m)
values_keep p found [] m N k E = (same m, k)
values_keep p found (e ∷ es) m N k E =
    step_keeps (worth p.line (e m)) (λ a n. values_from p.line (found ++ a ∷ []) es n) m Sound AllSound (worth_keeps p.line (e m) m (E.0 m N))
    (λ a n G A. values_keep p (found ++ a ∷ []) es n (names_still m n G p.names N) (also n found a (all_still m n G found k) A) E.1)

chain_keeps : (p : Place) (os : List Operand) (a : Value) (m : Made) → SoundNames m p.names → Sound m a → EachOperand p os
    → IfOk (chain_of p os a m) (Makes Sound m)
chain_keeps p [] a m N A E = (same m, A)
chain_keeps p (o ∷ os) a m N A E =
    step_keeps (operated p o.op a (o.right m)) (λ b n. chain_of p os b n) m Sound Sound (operated_keeps p o.op a (o.right m) m A (E.0 m N))
    (λ b n G B. chain_keeps p os b n (names_still m n G p.names N) B E.1)

abbrev SoundGiven : Made → Given → Type 0
SoundGiven m given = AllSound m given.places

behind : (b : Bool) (a : Value) (m : Made) → Sound m a → Sound m (if b then a else light a 1)
behind true a m A = A
behind false a m A = of_light (table_of m.elements) m.coefficients a 1 A

given_keeps : (file : List ℕ) (given : Given) (o : Option Span) (a : Value) (m : Made) → SoundGiven m given → Sound m a → SoundGiven m (given_by file given o a)
unfolding given_also given_keyed
given_keeps file given None a m k A = also m given.places (place_behind (length given.places) a) k (behind (nat_lt (length given.places) 3) a m A)
given_keeps file given (Some word) a m k A = k

given_with_keeps : (p : Place) (given : Given) (o : Option Span) (r : Refusable Head) (m : Made) → SoundGiven m given → IfOk r (Makes SoundHead m)
    → IfOk (given_with p given o r) (Makes SoundGiven m)
given_with_keeps p given o r m k E =
    step_keeps (worth p.line r) (λ a n. Ok (given_by p.file given o a, n)) m Sound SoundGiven (worth_keeps p.line r m E)
    (λ a n G A. (same n, given_keeps p.file given o a n (all_still m n G given.places k) A))

arguments_keep : (p : Place) (xs : List Argument) (given : Given) (m : Made) → SoundNames m p.names → SoundGiven m given → EachArgument p xs
    → IfOk (arguments_of p xs given m) (Makes SoundGiven m)
arguments_keep p [] given m N k E = (same m, k)
arguments_keep p (x ∷ xs) given m N k E =
    step_keeps (given_with p given x.name (x.value m)) (λ g n. arguments_of p xs g n) m SoundGiven SoundGiven
    (given_with_keeps p given x.name (x.value m) m k (E.0 m N))
    (λ g n G j. arguments_keep p xs g n (names_still m n G p.names N) j E.1)

posts_keep : (p : Place) (ss : List Step) (x : Head) (m : Made) → SoundNames m p.names → SoundHead m x → EachSteps p ss
    → IfOk (posts_of ss x m) (Makes SoundHead m)
posts_keep p [] x m N k E = (same m, k)
posts_keep p (s ∷ ss) x m N k E =
    step_keeps (s x m) (λ y n. posts_of ss y n) m SoundHead SoundHead (E.0 x m N k)
    (λ y n G j. posts_keep p ss y n (names_still m n G p.names N) j E.1)

head_still : (m n : Made) → Grown m n → (x : Head) → SoundHead m x → SoundHead n x
head_still m n G (h.Whole a) k = sound_still m n G a k
head_still m n G (h.Named a word) k = sound_still m n G a k
head_still m n G (h.Along a word) k = sound_still m n G a k

-- ---- what is written
module _ (p : Place) where
  abbrev OfSyn : Syn → Type 0
  OfSyn e = Evaluates p (eval_of p e)

  abbrev OfPost : Post → Type 0
  OfPost t = Steps p (post_of p t)

  abbrev OfArg : Arg → Type 0
  OfArg a = Evaluates p (arg_of p a).value

  abbrev OfNext : Next → Type 0
  OfNext n = Evaluates p (next_of p n).right

  abbrev Syns : Type 0
  Syns = (e : Syn) × OfSyn e

  abbrev Posts : Type 0
  Posts = (t : Post) × OfPost t

  abbrev Args : Type 0
  Args = (a : Arg) × OfArg a

  abbrev Nexts : Type 0
  Nexts = (n : Next) × OfNext n

  each_syn : (es : List Syns) → EachEvaluates p (map (eval_of p) (map (λ k. k.0) es))
  each_syn [] = tt
  each_syn (e ∷ es) = (e.1, each_syn es)

  each_post : (ts : List Posts) → EachSteps p (map (post_of p) (map (λ k. k.0) ts))
  each_post [] = tt
  each_post (t ∷ ts) = (t.1, each_post ts)

  each_arg : (xs : List Args) → EachArgument p (map (arg_of p) (map (λ k. k.0) xs))
  each_arg [] = tt
  each_arg (x ∷ xs) = (x.1, each_arg xs)

  each_next : (ns : List Nexts) → EachOperand p (map (next_of p) (map (λ k. k.0) ns))
  each_next [] = tt
  each_next (n ∷ ns) = (n.1, each_next ns)

  -- an equation for what is written, and what holds of its right side
  holds_as : (e : Syn) (f : Eval) → ((m : Made) → eval_of p e m ≡ f m) → Evaluates p f → OfSyn e
  holds_as e f eq k = λ m N. subst (λ r. IfOk r (Makes SoundHead m)) (sym (eq m)) (k m N)

  as_step : (t : Post) (f : Step) → ((x : Head) (m : Made) → post_of p t x m ≡ f x m) → Steps p f → OfPost t
  as_step t f eq k = λ x m N j. subst (λ r. IfOk r (Makes SoundHead m)) (sym (eq x m)) (k x m N j)

  group_keeps : (make : List Value → Value) (word : Span) (es : List Eval) → ((n : Made) (vs : List Value) → AllSound n vs → Sound n (make vs))
      → EachEvaluates p es → Evaluates p (λ m. made_of make (collected p.line word (values_from p.line [] es m)))
  group_keeps make word es f E = λ m N.
      made_of_keeps make (collected p.line word (values_from p.line [] es m)) m f
      (collected_keeps p.line word (values_from p.line [] es m) m (values_keep p [] es m N tt E))

  binary_written : (e : Eval) (os : List Operand) → Evaluates p e → EachOperand p os
      → Evaluates p (λ m. whole (step (worth p.line (e m)) (λ a n. chain_of p os a n)))
  binary_written e os E O = λ m N.
      whole_keeps _ m (step_keeps (worth p.line (e m)) (λ a n. chain_of p os a n) m Sound Sound (worth_keeps p.line (e m) m (E m N))
      (λ a n G A. chain_keeps p os a n (names_still m n G p.names N) A O))

  postfix_written : (e : Eval) (ss : List Step) → Evaluates p e → EachSteps p ss → Evaluates p (λ m. step (e m) (λ x n. posts_of ss x n))
  postfix_written e ss E S = λ m N.
      step_keeps (e m) (λ x n. posts_of ss x n) m SoundHead SoundHead (E m N) (λ x n G k. posts_keep p ss x n (names_still m n G p.names N) k S)

  call_written : (word : Span) (xs : List Argument) → EachArgument p xs
      → Steps p (λ x m. step (arguments_of p xs no_arguments m) (λ given n. whole (applied p.line x word given n)))
  call_written word xs E = λ x m N k.
      step_keeps (arguments_of p xs no_arguments m) (λ given n. whole (applied p.line x word given n)) m SoundGiven SoundHead
      (arguments_keep p xs no_arguments m N tt E)
      (λ given n G j. whole_keeps _ n (applied_keeps p.line x word given n (head_still m n G x k) j))

  index_written : (word : Span) (e : Eval) → Evaluates p e → Steps p (λ x m. step (closed p.line x m) (λ a n. indexed_by p word a (e n)))
  index_written word e E = λ x m N k.
      step_keeps (closed p.line x m) (λ a n. indexed_by p word a (e n)) m Sound SoundHead (closed_keeps p.line x m k)
      (λ a n G A. indexed_by_keeps p word a (e n) n A (E n (names_still m n G p.names N)))

  attribute_written : (word : Span) → Steps p (λ x m. step (closed p.line x m) (λ a n. attribute p word a n))
  attribute_written word = λ x m N k.
      step_keeps (closed p.line x m) (λ a n. attribute p word a n) m Sound SoundHead (closed_keeps p.line x m k) (λ a n G A. attribute_keeps p word a n A)

  syn_step : (y : Syn-F Posts Syns Args Nexts) → OfSyn (roll-Syn (map-Syn _ _ _ _ _ _ _ _ (λ (k : Posts). k.0) (λ (k : Syns). k.0) (λ (k : Args). k.0) (λ (k : Nexts). k.0) y))
  syn_step (Syn-F.Name word) =
      subst OfSyn (sym (s.rolls-Name word)) (holds_as (s.Name word) _ (eval_of-Name p word)
      (λ m N. name_keeps p word (value_in p.names (word_at p.file word)) m (value_in_keeps m p.names (word_at p.file word) N)))
  syn_step (Syn-F.Number word) =
      subst OfSyn (sym (s.rolls-Number word)) (holds_as (s.Number word) _ (eval_of-Number p word) (λ m N. number_keeps p word (literal (word_at p.file word)) m))
  syn_step (Syn-F.Text word) =
      subst OfSyn (sym (s.rolls-Text word)) (holds_as (s.Text word) (λ m. Ok (h.Whole (text_value (word_at p.file word)), m)) (eval_of-Text p word)
      (λ m N. (same m, of_text (table_of m.elements) m.coefficients _ _)))
  syn_step (Syn-F.Tuple word es) =
      let us = map (λ (k : Syns). k.0) es in
      subst OfSyn (sym (s.rolls-Tuple word us)) (holds_as (s.Tuple word us) _ (eval_of-Tuple p word us)
      (group_keeps v.Tuple word (map (eval_of p) us) (λ n. of_tuple (table_of n.elements) n.coefficients) (each_syn es)))
  syn_step (Syn-F.List word es) =
      let us = map (λ (k : Syns). k.0) es in
      subst OfSyn (sym (s.rolls-List word us)) (holds_as (s.List word us) _ (eval_of-List p word us)
      (group_keeps v.List word (map (eval_of p) us) (λ n. of_list (table_of n.elements) n.coefficients) (each_syn es)))
  syn_step (Syn-F.Sign word e) =
      subst OfSyn (sym (s.rolls-Sign word e.0)) (holds_as (s.Sign word e.0) _ (eval_of-Sign p word e.0) (λ m N. signed_by_keeps p word (eval_of p e.0 m) m (e.1 m N)))
  syn_step (Syn-F.Binary e ns) =
      let us = map (λ (k : Nexts). k.0) ns in
      subst OfSyn (sym (s.rolls-Binary e.0 us)) (holds_as (s.Binary e.0 us) _ (eval_of-Binary p e.0 us)
      (binary_written (eval_of p e.0) (map (next_of p) us) e.1 (each_next ns)))
  syn_step (Syn-F.Postfix e ts) =
      let us = map (λ (k : Posts). k.0) ts in
      subst OfSyn (sym (s.rolls-Postfix e.0 us)) (holds_as (s.Postfix e.0 us) _ (eval_of-Postfix p e.0 us)
      (postfix_written (eval_of p e.0) (map (post_of p) us) e.1 (each_post ts)))

  post_step : (y : Post-F Posts Syns Args Nexts) → OfPost (roll-Post (map-Post _ _ _ _ _ _ _ _ (λ (k : Posts). k.0) (λ (k : Syns). k.0) (λ (k : Args). k.0) (λ (k : Nexts). k.0) y))
  post_step (Post-F.Call word xs) =
      let us = map (λ (k : Args). k.0) xs in
      subst OfPost (sym (q.rolls-Call word us)) (as_step (q.Call word us) _ (post_of-Call p word us) (call_written word (map (arg_of p) us) (each_arg xs)))
  post_step (Post-F.Index word e) =
      subst OfPost (sym (q.rolls-Index word e.0)) (as_step (q.Index word e.0) _ (post_of-Index p word e.0) (index_written word (eval_of p e.0) e.1))
  post_step (Post-F.Attr word) = subst OfPost (sym (q.rolls-Attr word)) (as_step (q.Attr word) _ (post_of-Attr p word) (attribute_written word))

  arg_step : (y : Arg-F Posts Syns Args Nexts)
      → OfArg (roll-Arg (map-Arg _ _ _ _ _ _ _ _ (λ (k : Posts). k.0) (λ (k : Syns). k.0) (λ (k : Args). k.0) (λ (k : Nexts). k.0) y))
  arg_step y = λ m N. subst (λ r. IfOk r (Makes SoundHead m)) (sym (arg_of-value p _ m)) (y.value.1 m N)

  next_step : (y : Next-F Posts Syns Args Nexts)
      → OfNext (roll-Next (map-Next _ _ _ _ _ _ _ _ (λ (k : Posts). k.0) (λ (k : Syns). k.0) (λ (k : Args). k.0) (λ (k : Nexts). k.0) y))
  next_step y = λ m N. subst (λ r. IfOk r (Makes SoundHead m)) (sym (next_of-right p _ m)) (y.right.1 m N)

  pub evaluates : (e : Syn) → OfSyn e
  evaluates =
      ind-Syn OfPost OfSyn OfArg OfNext
      (λ x y is. subst (λ z. OfPost (roll-Post z)) is (post_step y))
      (λ x y is. subst (λ z. OfSyn (roll-Syn z)) is (syn_step y))
      (λ x y is. subst (λ z. OfArg (roll-Arg z)) is (arg_step y))
      (λ x y is. subst (λ z. OfNext (roll-Next z)) is (next_step y))
