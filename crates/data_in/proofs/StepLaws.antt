-- One line of a text, and what was read with what the rest says
use Rattle.std.proofs.Common.{◌≡◌, ◌≤◌, ℕ, zero, suc, ◌+◌, ◌-◌, ◌<◌, true, false, cond, eqb, List, [], ◌∷◌, ◌++◌, length, Option, Some, None, Result, Ok, Err, refl, sym, ap, subst, ◌∙◌, append_assoc, arith}
use Rattle.std.specs.Str.Lines.{lines}
use Rattle.std.proofs.lemmas.Bool.{eqb-true}
use Rattle.algebra.specs.Fraction.{Fraction}
use Rattle.mesh_in.specs.Line.{content, has_plain_bytes, is_some_word, words}
use Rattle.mesh_in.specs.Options.{◌>>=◌}
use Rattle.data_in.specs.declared.refusal.ValueKind.{ValueKind}
use Rattle.data_in.specs.declared.refusal.ValueKind.TheVariants.{Lex, Syntax}
use Rattle.data_in.specs.declared.refusal.ValueRefusal.{ValueRefusal}
use Rattle.data_in.specs.DataText.{Row, heading, value}
use Rattle.data_in.specs.DataReading.{Place, start, within, next, value_in, row_at, said, words_at, line_at, Reading, with_row, ended, after_line, refusal, reading, IsOpen}
use Rattle.data_in.specs.Reader.{behind_values}

-- ---- one line
no_word : (ws : List (List ℕ)) → is_some_word ws ≡ false → ws ≡ []
no_word [] none = refl
no_word (w ∷ ws) none = absurd cc

some_word : (p : Place) (n : ℕ) (ws : List (List ℕ)) → is_some_word ws ≡ true → words_at p n ws ≡ said (row_at p n ws)
some_word p n [] some = absurd cc
some_word p n (w ∷ ws) some = refl

line_step : (n : ℕ) (p : Place) (line : List ℕ) (more : List (List ℕ)) (r : Result (Option Row) ValueKind) → line_at p (n + 1) line ≡ r → reading n p (line ∷ more) ≡ after_line (n + 1) p r (λ q. reading (n + 1) q more)
unfolding reading
line_step n p line more r is = ap (λ r. after_line (n + 1) p r (λ q. reading (n + 1) q more)) is

plain_line : (n : ℕ) (p : Place) (line : List ℕ) → has_plain_bytes line ≡ true → line_at p n line ≡ words_at p n (words (content line))
plain_line n p line plain = ap (λ b. cond b (words_at p n (words (content line))) (Err Lex)) plain

with_none : (r : Reading) → with_row None r ≡ r
with_none (Ok s) = refl
with_none (Err e) = refl

-- without words
pub blank_line : (n : ℕ) (p : Place) (line : List ℕ) (more : List (List ℕ)) → has_plain_bytes line ≡ true → is_some_word (words (content line)) ≡ false → reading n p (line ∷ more) ≡ reading (n + 1) p more
blank_line n p line more plain none =
    line_step n p line more (Ok None) (plain_line (n + 1) p line plain ∙ ap (words_at p (n + 1)) (no_word (words (content line)) none)) ∙ with_none (reading (n + 1) p more)

-- with a byte that may not stand there
pub bad_line : (n : ℕ) (p : Place) (line : List ℕ) (more : List (List ℕ)) → has_plain_bytes line ≡ false → reading n p (line ∷ more) ≡ Err (refusal Lex (n + 1))
bad_line n p line more other = line_step n p line more (Err Lex) (ap (λ b. cond b (words_at p (n + 1) (words (content line))) (Err Lex)) other)

-- with words
pub line_of_words : (n : ℕ) (p : Place) (line : List ℕ) (more : List (List ℕ)) → has_plain_bytes line ≡ true → is_some_word (words (content line)) ≡ true
    → reading n p (line ∷ more) ≡ after_line (n + 1) p (said (row_at p (n + 1) (words (content line)))) (λ q. reading (n + 1) q more)
line_of_words n p line more plain some = line_step n p line more (said (row_at p (n + 1) (words (content line)))) (plain_line (n + 1) p line plain ∙ some_word p (n + 1) (words (content line)) some)

-- no line is left
pub no_lines : (n : ℕ) (p : Place) (rest : List ℕ) → eqb (length rest) 0 ≡ true → reading n p (lines rest) ≡ ended n p
unfolding reading
no_lines n p [] none = refl
no_lines n p (b ∷ bytes) none = absurd (omega (arith, eqb-true (length (b ∷ bytes)) 0 none))

pub open_refused : (n : ℕ) (p : Place) → IsOpen p → ended n p ≡ Err (refusal Syntax n)
open_refused n start is_open = refl
open_refused n (within low zero) is_open = absurd is_open
open_refused n (within low (suc m)) is_open = refl

-- ---- the row of a line
pub row_said : (n : ℕ) (p : Place) (o : Option Row) (row : Row) (rest : Place → Reading) → o ≡ Some row → after_line n p (said o) rest ≡ with_row (Some row) (rest (next p (Some row)))
row_said n p o row rest is = ap (λ o. after_line n p (said o) rest) is

pub row_refused : (n : ℕ) (p : Place) (o : Option Row) (rest : Place → Reading) → o ≡ None → after_line n p (said o) rest ≡ Err (refusal Syntax n)
row_refused n p o rest is = ap (λ o. after_line n p (said o) rest) is

-- ---- values
pub no_value : (ws : List (List ℕ)) → None ≡ value_in ws → (value_in ws >>= λ x. Some (value x)) ≡ None
no_value ws is = ap (λ o. o >>= λ x. Some (value x)) (sym is)

pub one_value : (ws : List (List ℕ)) (x : Fraction) → Some x ≡ value_in ws → (value_in ws >>= λ x. Some (value x)) ≡ Some (value x)
one_value ws x is = ap (λ o. o >>= λ x. Some (value x)) (sym is)

-- where i of so many values are read, one is lacking
pub some_missing : (low count i : ℕ) → i < count → within low (count - i) ≡ within low (suc (count - (i + 1)))
some_missing low count i lt = let e : count - i ≡ suc (count - (i + 1)) = omega arith in ap (within low) e

pub open_missing : (low count i : ℕ) → i < count → IsOpen (within low (count - i))
open_missing low count i lt = subst IsOpen (sym (some_missing low count i lt)) tt

pub value_row : (low count i n : ℕ) (ws : List (List ℕ)) → i < count → row_at (within low (count - i)) n ws ≡ (value_in ws >>= λ x. Some (value x))
value_row low count i n ws lt = ap (λ p. row_at p n ws) (some_missing low count i lt)

pub value_next : (low count i : ℕ) (x : Fraction) → next (within low (count - i)) (Some (value x)) ≡ within low (count - (i + 1))
value_next low count i x = let e : count - i - 1 ≡ count - (i + 1) = omega arith in ap (within low) e

pub behind_one : (xs : List Fraction) (x : Fraction) (r : Reading) → behind_values xs (with_row (Some (value x)) r) ≡ behind_values (xs ++ x ∷ []) r
behind_one xs x (Err e) = refl
behind_one xs x (Ok s) = ap (λ ys. Ok (record { lacking = ys; blocks = s.blocks })) (sym (append_assoc xs (x ∷ []) s.lacking))

pub behind_none : (r : Reading) → r ≡ behind_values [] r
behind_none (Err e) = refl
behind_none (Ok s) = refl

pub behind_err : (xs : List Fraction) (r : Reading) (e : ValueRefusal) → r ≡ Err e → behind_values xs r ≡ Err e
behind_err xs r e is = ap (behind_values xs) is

pub none_missing : (low count i : ℕ) → count ≤ i → within low (count - i) ≡ within low 0
none_missing low count i le = let e : count - i ≡ 0 = omega arith in ap (within low) e

pub with_heading : (r : Reading) → with_row (Some heading) r ≡ r
with_heading (Ok s) = refl
with_heading (Err e) = refl
