-- What is written, as a function from what was made to its value and what is made then
use Rattle.std.specs.Prelude.{ℕ, if◌then◌else◌, List, [], ◌∷◌, ◌++◌, codes, Option, None, Some, Result, Ok, Err}
use Rattle.std.specs.Str.{bytes_eq}
use Rattle.ratio.specs.declared.reduced.Ratio.{Ratio}
use Rattle.ufl_syntax.specs.declared.span.Span.{Span}
use Rattle.ufl_syntax.specs.Spans.{word_at}
use Rattle.ufl_syntax.specs.declared.tree.Syn.{Syn, Syn-F, fold-Syn}
use Rattle.ufl_syntax.specs.declared.tree.Next.{Next, Next-F, fold-Next}
use Rattle.ufl_syntax.specs.declared.tree.Post.{Post, Post-F, fold-Post}
use Rattle.ufl_syntax.specs.declared.tree.Arg.{Arg, Arg-F, fold-Arg}
use Rattle.ufl_values.specs.declared.refusal.Reason.{Reason}
use Rattle.ufl_values.specs.declared.refusal.Reason.TheVariants as r
use Rattle.ufl_values.specs.declared.value.Value.{Value}
use Rattle.ufl_values.specs.declared.value.Value.TheVariants as v
use Rattle.ufl_values.specs.declared.words.Sign.{Sign}
use Rattle.ufl_values.specs.declared.words.Sign.TheVariants as s
use Rattle.ufl_values.specs.Refused.{refused}
use Rattle.ufl_values.specs.Words.{keyword_named, sign_of}
use Rattle.ufl_values.specs.Operators.{plus_of, minus_of, binary_of, indexed_of}
use Rattle.ufl_calls.specs.declared.arguments.Given.{Given}
use Rattle.ufl_calls.specs.declared.made.Made.{Made}
use Rattle.ufl_calls.specs.Arguments.{given_also, given_keyed}
use Rattle.ufl_calls.specs.Groups.{grouped}
use Rattle.ufl_calls.specs.Made.{unmade}
use Rattle.ufl_calls.specs.Calls.{Refusable, at_word, called, along, transposed, text_value}
use Rattle.ufl_elab.specs.declared.head.Head.{Head}
use Rattle.ufl_elab.specs.declared.head.Head.TheVariants as h
use Rattle.ufl_elab.specs.Literals.{literal}
use Rattle.ufl_elab.specs.Names.{Name, value_in}

-- what stands around what is written: the file, the names, and the line on which the statement begins
pub record Place : Type 0 where
  pub file : List ℕ
  pub names : List Name
  pub line : ℕ

-- the next step, unless this one refuses
abbrev pub step : {A B : Type 0} → Refusable A → (A → Made → Refusable B) → Refusable B
step (Err e) next = Err e
step (Ok p) next = next p.0 p.1

-- ---- ends of chains
-- a `.dx` without its call is Kind
abbrev pub closed : ℕ → Head → Made → Refusable Value
closed line (h.Whole a) m = Ok (a, m)
closed line (h.Named a word) m = Ok (a, m)
closed line (h.Along a word) m = Err (refused r.Kind line word)

abbrev pub worth : ℕ → Refusable Head → Refusable Value
worth line answer = step answer (closed line)

abbrev pub whole : Refusable Value → Refusable Head
whole answer = step answer (λ a m. Ok (h.Whole a, m))

-- ---- one part
abbrev pub name_of : Place → Span → Result Value Reason → Made → Refusable Head
name_of p word (Ok a) m = Ok (h.Named a word, m)
name_of p word (Err e) m = Err (refused e p.line word)

abbrev pub number_of : Place → Span → Option Ratio → Made → Refusable Head
number_of p word (Some c) m = Ok (h.Whole (v.Number c), m)
number_of p word None m = Err (refused r.NumberRange p.line word)

abbrev pub signed : Sign → Value → Result Value Reason
signed s.Plus a = plus_of a
signed _ a = minus_of a

abbrev pub signed_by : Place → Span → Refusable Head → Refusable Head
signed_by p word operand =
    step (worth p.line operand) (λ a m.
    whole (at_word p.line word (unmade (signed (sign_of (word_at p.file word)) a) m)))

-- an operator behind its left operand
abbrev pub operated : Place → Span → Value → Refusable Head → Refusable Value
operated p op a right =
    step (worth p.line right) (λ b m. at_word p.line op (unmade (binary_of (sign_of (word_at p.file op)) a b) m))

abbrev pub indexed_by : Place → Span → Value → Refusable Head → Refusable Head
indexed_by p bracket a at =
    step (worth p.line at) (λ b m. whole (at_word p.line bracket (unmade (indexed_of a b) m)))

abbrev pub attribute : Place → Span → Value → Made → Refusable Head
attribute p word a m =
    if bytes_eq (word_at p.file word) (codes "T") then whole (at_word p.line word (unmade (transposed a) m)) else
    if bytes_eq (word_at p.file word) (codes "dx") then Ok (h.Along a word, m) else
    Err (refused r.Unsupported p.line word)

-- the word of a call is its bracket, or the name where a bare name is called
abbrev pub applied : ℕ → Head → Span → Given → Made → Refusable Value
applied line (h.Whole callee) bracket given m = called line callee bracket given m
applied line (h.Named callee name) bracket given m = called line callee name given m
applied line (h.Along a word) bracket given m = along line a word given m

-- the items of a tuple or a list, whose size is asked behind all of them
abbrev pub collected : ℕ → Span → Refusable (List Value) → Refusable (List Value)
collected line word values = step values (λ vs m. at_word line word (unmade (grouped vs) m))

abbrev pub made_of : (List Value → Value) → Refusable (List Value) → Refusable Head
made_of make values = step values (λ vs m. Ok (h.Whole (make vs), m))

-- ---- lists of parts, from the left
abbrev pub Eval : Type 0
Eval = Made → Refusable Head

abbrev pub Step : Type 0
Step = Head → Made → Refusable Head

-- what stands to the right of an operator
pub record Operand : Type 0 where
  pub op : Span
  pub right : Eval

pub record Argument : Type 0 where
  pub name : Option Span
  pub value : Eval

abbrev pub values_from : ℕ → List Value → List Eval → Made → Refusable (List Value)
values_from line found [] m = Ok (found, m)
values_from line found (e ∷ es) m = step (worth line (e m)) (λ a n. values_from line (found ++ a ∷ []) es n)

abbrev pub chain_of : Place → List Operand → Value → Made → Refusable Value
chain_of p [] a m = Ok (a, m)
chain_of p (o ∷ os) a m = step (operated p o.op a (o.right m)) (λ b n. chain_of p os b n)

abbrev pub given_by : List ℕ → Given → Option Span → Value → Given
given_by file given None a = given_also given a
given_by file given (Some word) a = given_keyed given word (keyword_named (word_at file word)) a

abbrev pub given_with : Place → Given → Option Span → Refusable Head → Refusable Given
given_with p given name value = step (worth p.line value) (λ a m. Ok (given_by p.file given name a, m))

abbrev pub arguments_of : Place → List Argument → Given → Made → Refusable Given
arguments_of p [] given m = Ok (given, m)
arguments_of p (x ∷ xs) given m = step (given_with p given x.name (x.value m)) (λ g n. arguments_of p xs g n)

abbrev pub no_arguments : Given
no_arguments = record { places = []; keyed = [] }

abbrev pub posts_of : List Step → Head → Made → Refusable Head
posts_of [] x m = Ok (x, m)
posts_of (s ∷ ss) x m = step (s x m) (λ y n. posts_of ss y n)

-- ---- layers of the syntax
abbrev pub arg_layer : Arg-F Step Eval Argument Operand → Argument
arg_layer a = record { name = a.name; value = a.value }

abbrev pub next_layer : Next-F Step Eval Argument Operand → Operand
next_layer n = record { op = n.op; right = n.right }

abbrev pub post_layer : Place → Post-F Step Eval Argument Operand → Step
post_layer p (Post-F.Call bracket xs) start m =
    step (arguments_of p xs no_arguments m) (λ given n. whole (applied p.line start bracket given n))
post_layer p (Post-F.Index bracket e) start m =
    step (closed p.line start m) (λ a n. indexed_by p bracket a (e n))
post_layer p (Post-F.Attr word) start m = step (closed p.line start m) (λ a n. attribute p word a n)

abbrev pub syn_layer : Place → Syn-F Step Eval Argument Operand → Eval
syn_layer p (Syn-F.Name word) m = name_of p word (value_in p.names (word_at p.file word)) m
syn_layer p (Syn-F.Number word) m = number_of p word (literal (word_at p.file word)) m
syn_layer p (Syn-F.Text word) m = Ok (h.Whole (text_value (word_at p.file word)), m)
syn_layer p (Syn-F.Tuple comma es) m = made_of v.Tuple (collected p.line comma (values_from p.line [] es m))
syn_layer p (Syn-F.List bracket es) m = made_of v.List (collected p.line bracket (values_from p.line [] es m))
syn_layer p (Syn-F.Sign word e) m = signed_by p word (e m)
syn_layer p (Syn-F.Binary e ns) m = whole (step (worth p.line (e m)) (λ a n. chain_of p ns a n))
syn_layer p (Syn-F.Postfix e ps) m = step (e m) (λ x n. posts_of ps x n)

unfoldable pub eval_of : Place → Syn → Eval
eval_of p = fold-Syn Step Eval Argument Operand (post_layer p) (syn_layer p) arg_layer next_layer

unfoldable pub next_of : Place → Next → Operand
next_of p = fold-Next Step Eval Argument Operand (post_layer p) (syn_layer p) arg_layer next_layer

unfoldable pub post_of : Place → Post → Step
post_of p = fold-Post Step Eval Argument Operand (post_layer p) (syn_layer p) arg_layer next_layer

unfoldable pub arg_of : Place → Arg → Argument
arg_of p = fold-Arg Step Eval Argument Operand (post_layer p) (syn_layer p) arg_layer next_layer
