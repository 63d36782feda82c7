-- The texts of tokens, and what holds of each token of a tree
use Rattle.std.specs.Prelude.{ℕ, List, [], ◌∷◌, Option, Some, None, take, drop}
use Rattle.ufl_syntax.specs.declared.span.Span.{Span}
use Rattle.ufl_syntax.specs.declared.tree.Stmt.{Stmt}
use Rattle.ufl_syntax.specs.declared.tree.Syn.{Syn}
use Rattle.ufl_syntax.specs.declared.tree.Syn.TheVariants as s
use Rattle.ufl_syntax.specs.declared.tree.Next.{Next, roll-Next}
use Rattle.ufl_syntax.specs.declared.tree.Post.{Post}
use Rattle.ufl_syntax.specs.declared.tree.Post.TheVariants as p
use Rattle.ufl_syntax.specs.declared.tree.Arg.{Arg, roll-Arg}

-- the text of a token of a file
abbrev pub word_at : List ℕ → Span → List ℕ
word_at file word = take word.len (drop word.from file)

-- an operator with its operand, and an argument, of a token
abbrev pub next_of : Span → Syn → Next
next_of t e = roll-Next (record { op = t; right = e })

abbrev pub argument_of : Option Span → Syn → Arg
argument_of name e = roll-Arg (record { name = name; value = e })

mutual
  pub data Each (P : Span → Type 0) : Syn → Type 0 where
    name : {t : Span} → P t → Each P (s.Name t)
    number : {t : Span} → P t → Each P (s.Number t)
    text : {t : Span} → P t → Each P (s.Text t)
    tuple : {t : Span} {es : List Syn} → P t → EachItem P es → Each P (s.Tuple t es)
    list : {t : Span} {es : List Syn} → P t → EachItem P es → Each P (s.List t es)
    sign : {t : Span} {e : Syn} → P t → Each P e → Each P (s.Sign t e)
    binary : {e : Syn} {ns : List Next} → Each P e → EachNext P ns → Each P (s.Binary e ns)
    postfix : {e : Syn} {ps : List Post} → Each P e → EachPost P ps → Each P (s.Postfix e ps)

  pub data EachItem (P : Span → Type 0) : List Syn → Type 0 where
    no_item : EachItem P []
    item : {e : Syn} {es : List Syn} → Each P e → EachItem P es → EachItem P (e ∷ es)

  pub data EachNext (P : Span → Type 0) : List Next → Type 0 where
    no_next : EachNext P []
    one_next : {t : Span} {e : Syn} {ns : List Next} → P t → Each P e → EachNext P ns → EachNext P (next_of t e ∷ ns)

  pub data EachPost (P : Span → Type 0) : List Post → Type 0 where
    no_post : EachPost P []
    one_post : {q : Post} {ps : List Post} → InPost P q → EachPost P ps → EachPost P (q ∷ ps)

  pub data InPost (P : Span → Type 0) : Post → Type 0 where
    call : {t : Span} {as_ : List Arg} → P t → EachArg P as_ → InPost P (p.Call t as_)
    index : {t : Span} {e : Syn} → P t → Each P e → InPost P (p.Index t e)
    attr : {t : Span} → P t → InPost P (p.Attr t)

  pub data EachArg (P : Span → Type 0) : List Arg → Type 0 where
    no_arg : EachArg P []
    one_arg : {a : Arg} {as_ : List Arg} → InArg P a → EachArg P as_ → EachArg P (a ∷ as_)

  pub data InArg (P : Span → Type 0) : Arg → Type 0 where
    positional : {e : Syn} → Each P e → InArg P (argument_of None e)
    keyed : {t : Span} {e : Syn} → P t → Each P e → InArg P (argument_of (Some t) e)

pub data EachName (P : Span → Type 0) : List Span → Type 0 where
  no_name : EachName P []
  one_name : {t : Span} {ts : List Span} → P t → EachName P ts → EachName P (t ∷ ts)

pub data InValue (P : Span → Type 0) : Option Syn → Type 0 where
  no_value : InValue P None
  value : {e : Syn} → Each P e → InValue P (Some e)

pub data EachStatement (P : Span → Type 0) : List Stmt → Type 0 where
  no_statement : EachStatement P []
  one_statement : {st : Stmt} {sts : List Stmt} → EachName P st.targets → InValue P st.value → EachStatement P sts
      → EachStatement P (st ∷ sts)
