-- The grammar of form files.
--
--     file      = { statement }
--     statement = "from" "ufl" "import" "*" END | targets "=" value END | NAME ( "+=" | "-=" ) value END
--     targets   = names | "(" names ")"
--     names     = NAME { "," NAME } [ "," ]
--     value     = sum { "," sum } [ "," ]
--     sum       = term { ( "+" | "-" ) term }
--     term      = signed { ( "*" | "/" ) signed }
--     signed    = ( "+" | "-" ) signed | power
--     power     = postfix [ "**" signed ]
--     postfix   = atom { "(" [ args ] ")" | "[" value "]" | "." NAME }
--     args      = arg { "," arg } [ "," ]
--     arg       = [ NAME "=" ] sum
--     atom      = NAME | NUMBER | STRING | "(" value ")" | "[" [ value ] "]"
--
-- Each relation says that its tokens begin with such a part, which is this tree, and what is left.
-- The number is how many brackets, signs and `**` may still be open inside.
use Rattle.std.specs.Prelude.{◌≡◌, ℕ, suc, Bool, true, false, List, [], ◌∷◌, ◌++◌, Option, Some, None}
use Rattle.ufl_syntax.specs.declared.span.Span.{Span}
use Rattle.ufl_syntax.specs.declared.class.Class.{Class}
use Rattle.ufl_syntax.specs.declared.class.Class.TheVariants as k
use Rattle.ufl_syntax.specs.declared.class.Lexeme.{Lexeme}
use Rattle.ufl_syntax.specs.declared.tree.AssignOp.{AssignOp}
use Rattle.ufl_syntax.specs.declared.tree.AssignOp.TheVariants as o
use Rattle.ufl_syntax.specs.declared.tree.Stmt.{Stmt}
use Rattle.ufl_syntax.specs.declared.tree.Syn.{Syn, Syn-F, out-Syn}
use Rattle.ufl_syntax.specs.declared.tree.Syn.TheVariants as s
use Rattle.ufl_syntax.specs.declared.tree.Next.{Next, roll-Next}
use Rattle.ufl_syntax.specs.declared.tree.Post.{Post}
use Rattle.ufl_syntax.specs.declared.tree.Post.TheVariants as p
use Rattle.ufl_syntax.specs.declared.tree.Arg.{Arg, roll-Arg}

abbrev pub is_sign : Class → Bool
is_sign k.Plus = true
is_sign k.Minus = true
is_sign _ = false

abbrev pub is_factor : Class → Bool
is_factor k.Times = true
is_factor k.Divide = true
is_factor _ = false

abbrev pub next : Lexeme → Syn → Next
next op e = roll-Next (record { op = op.span; right = e })

abbrev pub argument : Option Span → Syn → Arg
argument name e = roll-Arg (record { name = name; value = e })

-- a chain of one part is that part
abbrev pub chain : Syn → List Next → Syn
chain e [] = e
chain e (n ∷ ns) = s.Binary e (n ∷ ns)

-- the value that a chain of calls, indices and attributes begins with, which is none itself, and what stands behind it
abbrev pub base_by : Syn → Syn-F Post Syn Arg Next → Syn
base_by e (Syn-F.Postfix base ps) = base
base_by e _ = e

abbrev pub posts_by : Syn-F Post Syn Arg Next → List Post
posts_by (Syn-F.Postfix base ps) = ps
posts_by _ = []

unfoldable pub base_of : Syn → Syn
base_of e = base_by e (out-Syn e)

unfoldable pub posts_of : Syn → List Post
posts_of e = posts_by (out-Syn e)

-- behind a chain, in brackets or not, one chain goes on
abbrev pub applied : Syn → List Post → Syn
applied e [] = e
applied e (q ∷ qs) = s.Postfix (base_of e) (posts_of e ++ q ∷ qs)

abbrev pub first_line : List Lexeme → ℕ
first_line [] = 0
first_line (t ∷ ts) = t.line

-- the statement has these parts
abbrev pub HasParts : Stmt → ℕ → List Span → Bool → AssignOp → Option Syn → Type 0
HasParts st line targets unpack op value = (st.line ≡ line) × (st.targets ≡ targets) × (st.unpack ≡ unpack)
    × (st.op ≡ op) × (st.value ≡ value)

-- the signs that change a value
abbrev pub updates : Class → AssignOp → Type 0
updates k.AddAssign op = op ≡ o.Plus
updates k.SubAssign op = op ≡ o.Minus
updates _ op = ⊥

mutual
  -- sum { "," sum } [ "," ]: with a comma it is a tuple
  pub data Value : ℕ → List Lexeme → Syn → List Lexeme → Type 0 where
    single : {n : ℕ} {ts : List Lexeme} {e : Syn} {rest : List Lexeme} → Sum n ts e rest → Value n ts e rest
    tuple : {n : ℕ} {ts : List Lexeme} {e : Syn} {comma : Lexeme} {mid : List Lexeme} {es : List Syn}
        {rest : List Lexeme}
        → Sum n ts e (comma ∷ mid) → comma.class ≡ k.Comma → Later n mid es rest
        → Value n ts (s.Tuple comma.span (e ∷ es)) rest

  -- [ sum { "," sum } [ "," ] ]: what may stand after a comma, and in a list's brackets
  pub data Later : ℕ → List Lexeme → List Syn → List Lexeme → Type 0 where
    no_later : {n : ℕ} {rest : List Lexeme} → Later n rest [] rest
    last : {n : ℕ} {ts : List Lexeme} {e : Syn} {rest : List Lexeme} → Sum n ts e rest → Later n ts (e ∷ []) rest
    further : {n : ℕ} {ts : List Lexeme} {e : Syn} {comma : Lexeme} {mid : List Lexeme} {es : List Syn}
        {rest : List Lexeme}
        → Sum n ts e (comma ∷ mid) → comma.class ≡ k.Comma → Later n mid es rest → Later n ts (e ∷ es) rest

  -- term { ( "+" | "-" ) term }
  pub data Sum : ℕ → List Lexeme → Syn → List Lexeme → Type 0 where
    sum : {n : ℕ} {ts : List Lexeme} {e : Syn} {mid : List Lexeme} {ns : List Next} {rest : List Lexeme}
        → Term n ts e mid → Adds n mid ns rest → Sum n ts (chain e ns) rest

  pub data Adds : ℕ → List Lexeme → List Next → List Lexeme → Type 0 where
    no_add : {n : ℕ} {rest : List Lexeme} → Adds n rest [] rest
    add : {n : ℕ} {op : Lexeme} {ts : List Lexeme} {e : Syn} {mid : List Lexeme} {ns : List Next} {rest : List Lexeme}
        → is_sign op.class ≡ true → Term n ts e mid → Adds n mid ns rest → Adds n (op ∷ ts) (next op e ∷ ns) rest

  -- signed { ( "*" | "/" ) signed }
  pub data Term : ℕ → List Lexeme → Syn → List Lexeme → Type 0 where
    term : {n : ℕ} {ts : List Lexeme} {e : Syn} {mid : List Lexeme} {ns : List Next} {rest : List Lexeme}
        → Signed n ts e mid → Muls n mid ns rest → Term n ts (chain e ns) rest

  pub data Muls : ℕ → List Lexeme → List Next → List Lexeme → Type 0 where
    no_mul : {n : ℕ} {rest : List Lexeme} → Muls n rest [] rest
    mul : {n : ℕ} {op : Lexeme} {ts : List Lexeme} {e : Syn} {mid : List Lexeme} {ns : List Next} {rest : List Lexeme}
        → is_factor op.class ≡ true → Signed n ts e mid → Muls n mid ns rest → Muls n (op ∷ ts) (next op e ∷ ns) rest

  -- ( "+" | "-" ) signed | postfix [ "**" signed ]
  -- The operand before a `**` has the room that there is without it, since the `**` stands behind it.
  pub data Signed : ℕ → List Lexeme → Syn → List Lexeme → Type 0 where
    sign : {n : ℕ} {op : Lexeme} {ts : List Lexeme} {e : Syn} {rest : List Lexeme}
        → is_sign op.class ≡ true → Signed n ts e rest → Signed (suc n) (op ∷ ts) (s.Sign op.span e) rest
    plain : {n : ℕ} {ts : List Lexeme} {e : Syn} {rest : List Lexeme} → Postfix n ts e rest → Signed n ts e rest
    power : {n : ℕ} {ts : List Lexeme} {e : Syn} {op : Lexeme} {mid : List Lexeme} {x : Syn} {rest : List Lexeme}
        → Postfix (suc n) ts e (op ∷ mid) → op.class ≡ k.Power → Signed n mid x rest
        → Signed (suc n) ts (s.Binary e (next op x ∷ [])) rest

  -- atom { "(" [ args ] ")" | "[" value "]" | "." NAME }
  pub data Postfix : ℕ → List Lexeme → Syn → List Lexeme → Type 0 where
    postfix : {n : ℕ} {ts : List Lexeme} {e : Syn} {mid : List Lexeme} {ps : List Post} {rest : List Lexeme}
        → Atom n ts e mid → Posts n mid ps rest → Postfix n ts (applied e ps) rest

  pub data Posts : ℕ → List Lexeme → List Post → List Lexeme → Type 0 where
    no_post : {n : ℕ} {rest : List Lexeme} → Posts n rest [] rest
    one_post : {n : ℕ} {ts : List Lexeme} {q : Post} {mid : List Lexeme} {ps : List Post} {rest : List Lexeme}
        → OnePost n ts q mid → Posts n mid ps rest → Posts n ts (q ∷ ps) rest

  pub data OnePost : ℕ → List Lexeme → Post → List Lexeme → Type 0 where
    call : {n : ℕ} {open_ : Lexeme} {ts : List Lexeme} {as_ : List Arg} {close : Lexeme} {rest : List Lexeme}
        → open_.class ≡ k.Open → Args n ts as_ (close ∷ rest) → close.class ≡ k.Close
        → OnePost (suc n) (open_ ∷ ts) (p.Call open_.span as_) rest
    index : {n : ℕ} {open_ : Lexeme} {ts : List Lexeme} {e : Syn} {close : Lexeme} {rest : List Lexeme}
        → open_.class ≡ k.OpenList → Value n ts e (close ∷ rest) → close.class ≡ k.CloseList
        → OnePost (suc n) (open_ ∷ ts) (p.Index open_.span e) rest
    attr : {n : ℕ} {dot : Lexeme} {name : Lexeme} {b : Bool} {rest : List Lexeme}
        → dot.class ≡ k.Dot → name.class ≡ k.Name b → OnePost n (dot ∷ name ∷ rest) (p.Attr name.span) rest

  -- [ arg { "," arg } [ "," ] ]
  pub data Args : ℕ → List Lexeme → List Arg → List Lexeme → Type 0 where
    no_arg : {n : ℕ} {rest : List Lexeme} → Args n rest [] rest
    last_arg : {n : ℕ} {ts : List Lexeme} {a : Arg} {rest : List Lexeme} → OneArg n ts a rest → Args n ts (a ∷ []) rest
    further_arg : {n : ℕ} {ts : List Lexeme} {a : Arg} {comma : Lexeme} {mid : List Lexeme} {as_ : List Arg}
        {rest : List Lexeme}
        → OneArg n ts a (comma ∷ mid) → comma.class ≡ k.Comma → Args n mid as_ rest → Args n ts (a ∷ as_) rest

  -- [ NAME "=" ] sum
  pub data OneArg : ℕ → List Lexeme → Arg → List Lexeme → Type 0 where
    positional : {n : ℕ} {ts : List Lexeme} {e : Syn} {rest : List Lexeme} → Sum n ts e rest
        → OneArg n ts (argument None e) rest
    keyed : {n : ℕ} {name : Lexeme} {b : Bool} {eq : Lexeme} {ts : List Lexeme} {e : Syn} {rest : List Lexeme}
        → name.class ≡ k.Name b → eq.class ≡ k.Assign → Sum n ts e rest
        → OneArg n (name ∷ eq ∷ ts) (argument (Some name.span) e) rest

  -- NAME | NUMBER | STRING | "(" value ")" | "[" [ value ] "]"
  pub data Atom : ℕ → List Lexeme → Syn → List Lexeme → Type 0 where
    a_name : {n : ℕ} {t : Lexeme} {b : Bool} {rest : List Lexeme} → t.class ≡ k.Name b
        → Atom n (t ∷ rest) (s.Name t.span) rest
    a_number : {n : ℕ} {t : Lexeme} {rest : List Lexeme} → t.class ≡ k.Number → Atom n (t ∷ rest) (s.Number t.span) rest
    a_text : {n : ℕ} {t : Lexeme} {rest : List Lexeme} → t.class ≡ k.Text → Atom n (t ∷ rest) (s.Text t.span) rest
    bracketed : {n : ℕ} {open_ : Lexeme} {ts : List Lexeme} {e : Syn} {close : Lexeme} {rest : List Lexeme}
        → open_.class ≡ k.Open → Value n ts e (close ∷ rest) → close.class ≡ k.Close → Atom (suc n) (open_ ∷ ts) e rest
    a_list : {n : ℕ} {open_ : Lexeme} {ts : List Lexeme} {es : List Syn} {close : Lexeme} {rest : List Lexeme}
        → open_.class ≡ k.OpenList → Later n ts es (close ∷ rest) → close.class ≡ k.CloseList
        → Atom (suc n) (open_ ∷ ts) (s.List open_.span es) rest

-- [ NAME { "," NAME } [ "," ] ]: what may stand after a comma among targets
pub data LaterNames : List Lexeme → List Span → List Lexeme → Type 0 where
  no_name : {rest : List Lexeme} → LaterNames rest [] rest
  last_name : {t : Lexeme} {b : Bool} {rest : List Lexeme} → t.class ≡ k.Name b
      → LaterNames (t ∷ rest) (t.span ∷ []) rest
  further_name : {t : Lexeme} {b : Bool} {comma : Lexeme} {mid : List Lexeme} {names : List Span} {rest : List Lexeme}
      → t.class ≡ k.Name b → comma.class ≡ k.Comma → LaterNames mid names rest
      → LaterNames (t ∷ comma ∷ mid) (t.span ∷ names) rest

-- NAME { "," NAME } [ "," ], and whether there is a comma
pub data Names : List Lexeme → List Span → Bool → List Lexeme → Type 0 where
  one_name : {t : Lexeme} {b : Bool} {rest : List Lexeme} → t.class ≡ k.Name b
      → Names (t ∷ rest) (t.span ∷ []) false rest
  several_names : {t : Lexeme} {b : Bool} {comma : Lexeme} {mid : List Lexeme} {names : List Span} {rest : List Lexeme}
      → t.class ≡ k.Name b → comma.class ≡ k.Comma → LaterNames mid names rest
      → Names (t ∷ comma ∷ mid) (t.span ∷ names) true rest

-- names | "(" names ")"
pub data Targets : List Lexeme → List Span → Bool → List Lexeme → Type 0 where
  bare_targets : {ts : List Lexeme} {names : List Span} {unpack : Bool} {rest : List Lexeme}
      → Names ts names unpack rest → Targets ts names unpack rest
  bracketed_targets : {open_ : Lexeme} {ts : List Lexeme} {names : List Span} {unpack : Bool} {close : Lexeme}
      {rest : List Lexeme}
      → open_.class ≡ k.Open → Names ts names unpack (close ∷ rest) → close.class ≡ k.Close
      → Targets (open_ ∷ ts) names unpack rest

pub data Statement : ℕ → List Lexeme → Stmt → List Lexeme → Type 0 where
  imports : {n : ℕ} {from_ : Lexeme} {ufl : Lexeme} {import_ : Lexeme} {star : Lexeme} {end : Lexeme} {st : Stmt}
      {rest : List Lexeme}
      → from_.class ≡ k.From → ufl.class ≡ k.Name true → import_.class ≡ k.Import → star.class ≡ k.Times
      → end.class ≡ k.End
      → HasParts st from_.line [] false o.ImportAll None
      → Statement n (from_ ∷ ufl ∷ import_ ∷ star ∷ end ∷ rest) st rest
  assigns : {n : ℕ} {ts : List Lexeme} {names : List Span} {unpack : Bool} {eq : Lexeme} {us : List Lexeme} {e : Syn}
      {end : Lexeme} {st : Stmt} {rest : List Lexeme}
      → Targets ts names unpack (eq ∷ us) → eq.class ≡ k.Assign → Value n us e (end ∷ rest) → end.class ≡ k.End
      → HasParts st (first_line ts) names unpack o.Set (Some e)
      → Statement n ts st rest
  updated : {n : ℕ} {t : Lexeme} {b : Bool} {sign : Lexeme} {op : AssignOp} {us : List Lexeme} {e : Syn}
      {end : Lexeme} {st : Stmt} {rest : List Lexeme}
      → t.class ≡ k.Name b → updates sign.class op → Value n us e (end ∷ rest) → end.class ≡ k.End
      → HasParts st t.line (t.span ∷ []) false op (Some e)
      → Statement n (t ∷ sign ∷ us) st rest

pub data File : ℕ → List Lexeme → List Stmt → List Lexeme → Type 0 where
  no_statement : {n : ℕ} {rest : List Lexeme} → File n rest [] rest
  one_statement : {n : ℕ} {ts : List Lexeme} {st : Stmt} {mid : List Lexeme} {sts : List Stmt} {rest : List Lexeme}
      → Statement n ts st mid → File n mid sts rest → File n ts (st ∷ sts) rest
