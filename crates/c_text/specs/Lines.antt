-- The lines of statements and functions
use Rattle.std.specs.Prelude.{◌≡◌, refl, ℕ, List, [], ◌∷◌, ◌++◌, length, drop}
use Rattle.std.proofs.Common.{ap, ◌∙◌}
use Rattle.slices.specs.Tokens.{Token}
use Rattle.c_unit.specs.declared.unit.CFun.{CFun}
use Rattle.c_unit.specs.declared.unit.CStmt.{CStmt, Set, Copy, Abs, Inv, Add, Sub, Mul, Load, For', Row_of-CStmt, end_of-CStmt, more_of-CStmt, items-the_row-CStmt, items_hidden-the_row-CStmt-0}
use Rattle.c_unit.specs.declared.unit.CStmt.TheViews as View
use Rattle.c_unit.specs.declared.unit.CStmt.TheBlock.{hidden-the_row-CStmt-0}
use Rattle.c_unit.specs.Meaning.{deeper}
use Rattle.c_text.specs.Pieces.{Piece, words_of}
use Rattle.c_text.specs.Layout.{header_pieces, one_pieces, enum_pieces, signature_pieces, slots_pieces, tables_pieces, fun_pieces}
use Rattle.c_text.specs.Statements.{line_of_first}
use Rattle.c_text.specs.Spelling.{tokens_of}
use Rattle.c_text.specs.declared.read.ReadUnit.{ReadUnit}

-- the tokens behind those of these pieces
abbrev pub behind : List Piece → List Token → List Token
behind ps ts = drop (length (words_of ps)) ts

abbrev mutual
  -- The lines of a statement, which begins with the first of these tokens: the line of that token, and for a loop those of its body.
  pub one_lines : ℕ → CStmt → List Token → List ℕ
  one_lines depth (Set to v) ts = line_of_first ts ∷ []
  one_lines depth (Copy to p) ts = line_of_first ts ∷ []
  one_lines depth (Abs to p) ts = line_of_first ts ∷ []
  one_lines depth (Inv to p) ts = line_of_first ts ∷ []
  one_lines depth (Add to p q) ts = line_of_first ts ∷ []
  one_lines depth (Sub to p q) ts = line_of_first ts ∷ []
  one_lines depth (Mul to p q) ts = line_of_first ts ∷ []
  one_lines depth (Load to k at) ts = line_of_first ts ∷ []
  one_lines depth (For' n m body) ts = line_of_first ts ∷ row_lines (deeper depth) body (behind (header_pieces depth n) ts)

  pub row_lines : ℕ → {m : _} → Row_of-CStmt m → List Token → List ℕ
  row_lines depth end_of-CStmt ts = []
  row_lines depth (more_of-CStmt c rest) ts = one_lines depth c ts ++ row_lines depth rest (behind (one_pieces depth c) ts)

abbrev pub body_lines : ℕ → List CStmt → List Token → List ℕ
body_lines depth [] ts = []
body_lines depth (c ∷ cs) ts = one_lines depth c ts ++ body_lines depth cs (behind (one_pieces depth c) ts)

rows : (depth : ℕ) (m : _) (k : Row_of-CStmt m) (ts : List Token) → row_lines depth k ts ≡ body_lines depth (items-the_row-CStmt m k) ts
rows depth m end_of-CStmt ts = refl
rows depth m (more_of-CStmt c rest) ts = ap (λ ls. one_lines depth c ts ++ ls) (rows depth _ rest (behind (one_pieces depth c) ts))

pub one_lines-For : (depth n : ℕ) (body : List CStmt) (ts : List Token) → one_lines depth (View.For n body) ts ≡ line_of_first ts ∷ body_lines (deeper depth) body (behind (header_pieces depth n) ts)
one_lines-For depth n body ts =
    ap (λ ls. line_of_first ts ∷ ls)
    (rows (deeper depth) _ (hidden-the_row-CStmt-0 body) (behind (header_pieces depth n) ts) ∙ ap (λ b. body_lines (deeper depth) b (behind (header_pieces depth n) ts)) (items_hidden-the_row-CStmt-0 body))

-- what stands before the statements of a function
abbrev pub head_pieces : CFun → List Piece
head_pieces f = enum_pieces f ++ (signature_pieces f.name ++ (slots_pieces f ++ tables_pieces 0 f.tables))

-- the line of each `enum`
abbrev pub enum_lines : List CFun → List Token → List ℕ
enum_lines [] ts = []
enum_lines (f ∷ fs) ts = line_of_first ts ∷ enum_lines fs (behind (fun_pieces f) ts)

-- the lines of the statements of each function
abbrev pub statement_lines : List CFun → List Token → List (List ℕ)
statement_lines [] ts = []
statement_lines (f ∷ fs) ts = body_lines 0 f.body (behind (head_pieces f) ts) ∷ statement_lines fs (behind (fun_pieces f) ts)

-- The lines are those of the text, whose first two tokens are `#include` and `"fr.h"`.
pub record IsLined (text : List ℕ) (r : ReadUnit) : Type 0 where
  pub enums : r.enums ≡ enum_lines r.unit.funs (drop 2 (tokens_of text).0)
  pub statements : r.lines ≡ statement_lines r.unit.funs (drop 2 (tokens_of text).0)
