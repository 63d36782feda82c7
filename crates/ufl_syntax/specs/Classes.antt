-- What a token is to the grammar, by its text
use Rattle.std.specs.Prelude.{ℕ, Bool, true, false, ◌||◌, if◌then◌else◌, List, [], ◌∷◌, length, codes}
use Rattle.std.specs.Str.{bytes_eq}
use Rattle.slices.specs.declared.toks.Tok.{Tok}
use Rattle.slices.specs.declared.toks.TokKind.{TokKind}
use Rattle.slices.specs.declared.toks.TokKind.TheVariants as t
use Rattle.ufl_syntax.specs.declared.class.Class.{Class}
use Rattle.ufl_syntax.specs.declared.class.Class.TheVariants as k
use Rattle.ufl_syntax.specs.declared.class.Lexeme.{Lexeme}

-- the keywords besides `from` and `import`, by their length
unfoldable pub is_keyword_of_two : List ℕ → Bool
is_keyword_of_two w = bytes_eq w (codes "as") || bytes_eq w (codes "if") || bytes_eq w (codes "in")
    || bytes_eq w (codes "is") || bytes_eq w (codes "or")

unfoldable pub is_keyword_of_three : List ℕ → Bool
is_keyword_of_three w = bytes_eq w (codes "and") || bytes_eq w (codes "def") || bytes_eq w (codes "del")
    || bytes_eq w (codes "for") || bytes_eq w (codes "not") || bytes_eq w (codes "try")

unfoldable pub is_keyword_of_four : List ℕ → Bool
is_keyword_of_four w = bytes_eq w (codes "elif") || bytes_eq w (codes "else") || bytes_eq w (codes "pass")
    || bytes_eq w (codes "with")

unfoldable pub is_keyword_of_five : List ℕ → Bool
is_keyword_of_five w = bytes_eq w (codes "class") || bytes_eq w (codes "raise") || bytes_eq w (codes "while")
    || bytes_eq w (codes "yield")

unfoldable pub is_longer_keyword : List ℕ → Bool
is_longer_keyword w =
    bytes_eq w (codes "assert") || bytes_eq w (codes "except") || bytes_eq w (codes "global")
    || bytes_eq w (codes "lambda") || bytes_eq w (codes "return")
    || bytes_eq w (codes "finally") || bytes_eq w (codes "nonlocal")

abbrev pub is_other_keyword : List ℕ → Bool
is_other_keyword w = is_keyword_of_two w || is_keyword_of_three w || is_keyword_of_four w || is_keyword_of_five w
    || is_longer_keyword w

unfoldable pub word_class : List ℕ → Class
word_class w =
    if bytes_eq w (codes "ufl") then k.Name true else
    if bytes_eq w (codes "from") then k.From else
    if bytes_eq w (codes "import") then k.Import else
    if is_other_keyword w then k.Foreign else
    k.Name false

unfoldable pub sign_class : List ℕ → Class
sign_class s =
    if bytes_eq s (codes "+") then k.Plus else
    if bytes_eq s (codes "-") then k.Minus else
    if bytes_eq s (codes "*") then k.Times else
    if bytes_eq s (codes "/") then k.Divide else
    if bytes_eq s (codes "**") then k.Power else
    if bytes_eq s (codes "=") then k.Assign else
    if bytes_eq s (codes "+=") then k.AddAssign else
    if bytes_eq s (codes "-=") then k.SubAssign else
    if bytes_eq s (codes "(") then k.Open else
    if bytes_eq s (codes ")") then k.Close else
    if bytes_eq s (codes "[") then k.OpenList else
    if bytes_eq s (codes "]") then k.CloseList else
    if bytes_eq s (codes ",") then k.Comma else
    if bytes_eq s (codes ".") then k.Dot else
    k.Foreign

abbrev pub class_by : TokKind → List ℕ → Class
class_by t.Word w = word_class w
class_by t.Number w = k.Number
class_by t.Text w = k.Text
class_by t.Symbol w = sign_class w
class_by t.End w = k.End

abbrev pub lexeme_of : Tok → Lexeme
lexeme_of t =
    record { span = record { from = t.from; len = length t.text.now }; line = t.line; class = class_by t.kind t.text.now }

abbrev pub lexemes : List Tok → List Lexeme
lexemes [] = []
lexemes (t ∷ ts) = lexeme_of t ∷ lexemes ts
