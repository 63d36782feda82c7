-- How the lines of a text are refused from a place on; and the meaning of a text is that of the grammar
use Rattle.std.proofs.Common.{◌≡◌, ℕ, zero, suc, ◌+◌, ◌<◌, ◌≤◌, Bool, true, false, cond, leb, List, [], ◌∷◌, ◌++◌, length, Option, Result, Ok, Err, inl, inr, refl, sym, ap, subst, ◌∙◌, arith}
use Rattle.std.specs.Prelude.{◌⊎◌, IfOk, IfErr}
use Rattle.std.specs.Str.Lines.{lines}
use Rattle.std.proofs.lemmas.Bool.{leb-true, leb-false, le-leb, lt-leb}
use Rattle.algebra.specs.Fraction.{Fraction}
use Rattle.ratio.specs.declared.reduced.Ratio.{Ratio}
use Rattle.data_in.specs.declared.refusal.ValueKind.{ValueKind}
use Rattle.data_in.specs.declared.refusal.ValueKind.TheVariants.{TooLong, Syntax}
use Rattle.data_in.specs.declared.refusal.ValueRefusal.{ValueRefusal}
use Rattle.data_in.specs.CoefficientValues.{CoefficientValues, fractions}
use Rattle.data_in.specs.DataText.{Row, longest, IsDataText}
use Rattle.data_in.specs.DataReading.{Place, start, within, next, line_at, IsOpen, Said, Reading, with_row, ended, after_line, refusal, out_of_memory, reading, blocks_in, meaning}
use Rattle.data_in.specs.DataRefusal.{Leads, HasBadLine, LacksLines, IsRefused}
use Rattle.data_in.specs.Reader.{Fails, Gives}
use Rattle.data_in.proofs.DataLaws.{told, again, Told}

abbrev Line : Type 0
Line = List ℕ

-- ---- a bad line, or lines that are lacking
record BadFrom (n : ℕ) (p : Place) (ls : List Line) (e : ValueRefusal) : Type 0 where
  front : List Line
  bad : Line
  after : List Line
  place : Place
  kind : ValueKind
  lines_are : ls ≡ front ++ bad ∷ after
  leads : Leads n p front place
  is_bad : line_at place (n + length front + 1) bad ≡ Err kind
  refusal_is : e ≡ refusal kind (n + length front + 1)

record LacksFrom (n : ℕ) (p : Place) (ls : List Line) (e : ValueRefusal) : Type 0 where
  place : Place
  leads : Leads n p ls place
  is_open : IsOpen place
  refusal_is : e ≡ refusal Syntax (n + length ls)

abbrev RefusedFrom : ℕ → Place → List Line → ValueRefusal → Type 0
RefusedFrom n p ls e = BadFrom n p ls e ⊎ LacksFrom n p ls e

same_refusal : (a e : ValueRefusal) → (let r : Reading = Err a in r) ≡ Err e → a ≡ e
same_refusal a e h = cc

lacks_here : (n : ℕ) (p : Place) (e : ValueRefusal) → IsOpen p → refusal Syntax n ≡ e → RefusedFrom n p [] e
lacks_here n p e is_open is =
    let same : n ≡ n + 0 = omega arith in
    inr (record { place = p; leads = refl; is_open = is_open; refusal_is = sym is ∙ ap (refusal Syntax) same })

refused_end : (n : ℕ) (p : Place) (e : ValueRefusal) → ended n p ≡ Err e → RefusedFrom n p [] e
refused_end n start e h = lacks_here n start e tt (same_refusal _ e h)
refused_end n (within low zero) e h = absurd cc
refused_end n (within low (suc m)) e h = lacks_here n (within low (suc m)) e tt (same_refusal _ e h)

shift : (n k : ℕ) → n + 1 + k + 1 ≡ n + suc k + 1
shift n k = omega arith

later_refused : (n : ℕ) (p : Place) (line : Line) (more : List Line) (e : ValueRefusal) (row : Option Row) → line_at p (n + 1) line ≡ Ok row → RefusedFrom (n + 1) (next p row) more e → RefusedFrom n p (line ∷ more) e
later_refused n p line more e row is (inl b) = inl (record {
  front = line ∷ b.front;
  bad = b.bad;
  after = b.after;
  place = b.place;
  kind = b.kind;
  lines_are = ap (λ ls. line ∷ ls) b.lines_are;
  leads = (row, is, b.leads);
  is_bad = subst (λ k. line_at b.place k b.bad ≡ Err b.kind) (shift n (length b.front)) b.is_bad;
  refusal_is = b.refusal_is ∙ ap (refusal b.kind) (shift n (length b.front));
})
later_refused n p line more e row is (inr l) =
    let same : n + 1 + length more ≡ n + suc (length more) = omega arith in
    inr (record { place = l.place; leads = (row, is, l.leads); is_open = l.is_open; refusal_is = l.refusal_is ∙ ap (refusal Syntax) same })

with_err : (row : Option Row) (rest : Reading) (e : ValueRefusal) → with_row row rest ≡ Err e → rest ≡ Err e
with_err row (Ok s) e h = absurd cc
with_err row (Err a) e h = h

refused : (n : ℕ) (p : Place) (ls : List Line) (e : ValueRefusal) → reading n p ls ≡ Err e → RefusedFrom n p ls e
unfolding reading
refused n p [] e h = refused_end n p e h
refused n p (line ∷ more) e h = at_line n p line more e (λ q r. refused (n + 1) q more e r) (line_at p (n + 1) line) refl h
  where
    at_line : (n : ℕ) (p : Place) (line : Line) (more : List Line) (e : ValueRefusal) → ((q : Place) → reading (n + 1) q more ≡ Err e → RefusedFrom (n + 1) q more e)
        → (r : Result (Option Row) ValueKind) → line_at p (n + 1) line ≡ r → after_line (n + 1) p r (λ q. reading (n + 1) q more) ≡ Err e → RefusedFrom n p (line ∷ more) e
    at_line n p line more e later (Ok row) is h = later_refused n p line more e row is (later (next p row) (with_err row (reading (n + 1) (next p row) more) e h))
    at_line n p line more e later (Err kind) is h =
        let same : n + 1 ≡ n + 0 + 1 = omega arith in
        inl (record {
          front = [];
          bad = line;
          after = more;
          place = p;
          kind = kind;
          lines_are = refl;
          leads = refl;
          is_bad = subst (λ k. line_at p k line ≡ Err kind) same is;
          refusal_is = sym (same_refusal _ e h) ∙ ap (refusal kind) same;
        })

-- ---- and again
one_line : (n : ℕ) (p : Place) (line : Line) (more : List Line) (row : Option Row) (e : ValueRefusal) → line_at p (n + 1) line ≡ Ok row → reading (n + 1) (next p row) more ≡ Err e → reading n p (line ∷ more) ≡ Err e
unfolding reading
one_line n p line more row e is rest = ap (λ r. after_line (n + 1) p r (λ q. reading (n + 1) q more)) is ∙ ap (with_row row) rest

bad_here : (n : ℕ) (p : Place) (line : Line) (more : List Line) (kind : ValueKind) → line_at p (n + 1) line ≡ Err kind → reading n p (line ∷ more) ≡ Err (refusal kind (n + 1))
unfolding reading
bad_here n p line more kind is = ap (λ r. after_line (n + 1) p r (λ q. reading (n + 1) q more)) is

bad_again : (n : ℕ) (p : Place) (front : List Line) (bad : Line) (after : List Line) (place : Place) (kind : ValueKind) → Leads n p front place → line_at place (n + length front + 1) bad ≡ Err kind
    → reading n p (front ++ bad ∷ after) ≡ Err (refusal kind (n + length front + 1))
bad_again n p [] bad after place kind leads is_bad =
    let same : n + 0 + 1 ≡ n + 1 = omega arith in
    bad_here n p bad after kind (subst (λ q. line_at q (n + 1) bad ≡ Err kind) (sym leads) (subst (λ k. line_at place k bad ≡ Err kind) same is_bad)) ∙ ap (λ k. Err (refusal kind k)) (sym same)
bad_again n p (line ∷ front) bad after place kind leads is_bad =
    let later = bad_again (n + 1) (next p leads.0) front bad after place kind leads.2 (subst (λ k. line_at place k bad ≡ Err kind) (sym (shift n (length front))) is_bad) in
    one_line n p line (front ++ bad ∷ after) leads.0 (refusal kind (n + suc (length front) + 1)) leads.1 (later ∙ ap (λ k. Err (refusal kind k)) (shift n (length front)))

open_end : (n : ℕ) (p : Place) → IsOpen p → ended n p ≡ Err (refusal Syntax n)
open_end n start is_open = refl
open_end n (within low zero) is_open = absurd is_open
open_end n (within low (suc m)) is_open = refl

no_line : (n : ℕ) (p : Place) → reading n p [] ≡ ended n p
unfolding reading
no_line n p = refl

lacks_again : (n : ℕ) (p : Place) (ls : List Line) (place : Place) → Leads n p ls place → IsOpen place → reading n p ls ≡ Err (refusal Syntax (n + length ls))
lacks_again n p [] place leads is_open =
    let same : n ≡ n + 0 = omega arith in
    no_line n p ∙ ap (ended n) leads ∙ open_end n place is_open ∙ ap (λ k. Err (refusal Syntax k)) same
lacks_again n p (line ∷ more) place leads is_open =
    let same : n + 1 + length more ≡ n + suc (length more) = omega arith in
    one_line n p line more leads.0 (refusal Syntax (n + suc (length more))) leads.1 (lacks_again (n + 1) (next p leads.0) more place leads.2 is_open ∙ ap (λ k. Err (refusal Syntax k)) same)

-- ---- the whole text
abbrev Meaning : Type 0
Meaning = Result (List (CoefficientValues Fraction)) ValueRefusal

pub long_text : (text : List ℕ) → longest < length text → meaning text ≡ Err (refusal TooLong 0)
unfolding meaning
long_text text lt = ap (λ b. cond b (blocks_in (reading 0 start (lines text))) (Err (refusal TooLong 0))) (lt-leb (length text) longest lt)

pub short_text : (text : List ℕ) → length text ≤ longest → meaning text ≡ blocks_in (reading 0 start (lines text))
unfolding meaning
short_text text le = ap (λ b. cond b (blocks_in (reading 0 start (lines text))) (Err (refusal TooLong 0))) (le-leb (length text) longest le)

record HasBlocks (r : Reading) (bs : List (CoefficientValues Fraction)) : Type 0 where
  said : Said
  is : r ≡ Ok said
  blocks : said.blocks ≡ bs

has_blocks : (r : Reading) (bs : List (CoefficientValues Fraction)) → blocks_in r ≡ Ok bs → HasBlocks r bs
has_blocks (Err e) bs h = absurd cc
has_blocks (Ok s) bs h = record { said = s; is = refl; blocks = cc }

blocks_err : (r : Reading) (e : ValueRefusal) → blocks_in r ≡ Err e → r ≡ Err e
blocks_err (Err a) e h = let same : a ≡ e = cc in ap (λ x. Err x) same
blocks_err (Ok s) e h = absurd cc

none_lack : (xs : List Fraction) → length xs ≡ 0 → xs ≡ []
none_lack [] e = refl
none_lack (x ∷ xs) e = absurd (omega arith)

text_from : (text : List ℕ) (xs : List Fraction) (bs : List (CoefficientValues Fraction)) → length text ≤ longest → xs ≡ [] → Told 0 start (lines text) (record { lacking = xs; blocks = bs }) → IsDataText text bs
text_from text [] bs short none t = record { short = short; plain = t.plain; says = t.says; rising = t.is_at.rising }
text_from text (x ∷ xs) bs short none t = absurd cc

data_from : (text : List ℕ) (bs : List (CoefficientValues Fraction)) (b : Bool) → leb (length text) longest ≡ b → cond b (blocks_in (reading 0 start (lines text))) (Err (refusal TooLong 0)) ≡ Ok bs → IsDataText text bs
data_from text bs true short h =
    let r = has_blocks (reading 0 start (lines text)) bs h in
    subst (IsDataText text) r.blocks (let t = told 0 start (lines text) r.said r.is in text_from text r.said.lacking r.said.blocks (leb-true (length text) longest short) (none_lack r.said.lacking t.is_at.lacking) t)
data_from text bs false short h = absurd cc

pub data_text : (text : List ℕ) (bs : List (CoefficientValues Fraction)) → meaning text ≡ Ok bs → IsDataText text bs
unfolding meaning
data_text text bs h = data_from text bs (leb (length text) longest) refl h

pub data_text_again : (text : List ℕ) (bs : List (CoefficientValues Fraction)) → IsDataText text bs → meaning text ≡ Ok bs
data_text_again text bs is =
    short_text text is.short ∙ ap blocks_in (again 0 start (lines text) (record { lacking = []; blocks = bs }) is.plain is.says (record { lacking = refl; rising = is.rising }))

refused_parts : (text : List ℕ) (e : ValueRefusal) → RefusedFrom 0 start (lines text) e → HasBadLine text e ⊎ LacksLines text e
refused_parts text e (inl b) =
    let same : 0 + length b.front + 1 ≡ length b.front + 1 = omega arith in
    inl (record {
      front = b.front;
      bad = b.bad;
      after = b.after;
      place = b.place;
      kind = b.kind;
      lines_are = b.lines_are;
      leads = b.leads;
      is_bad = subst (λ k. line_at b.place k b.bad ≡ Err b.kind) same b.is_bad;
      refusal_is = b.refusal_is ∙ ap (refusal b.kind) same;
    })
refused_parts text e (inr l) =
    let same : 0 + length (lines text) ≡ length (lines text) = omega arith in
    inr (record { place = l.place; leads = l.leads; is_open = l.is_open; refusal_is = l.refusal_is ∙ ap (refusal Syntax) same })

refused_from : (text : List ℕ) (e : ValueRefusal) (b : Bool) → leb (length text) longest ≡ b → cond b (blocks_in (reading 0 start (lines text))) (Err (refusal TooLong 0)) ≡ Err e → IsRefused text e
refused_from text e true short h =
    inr (leb-true (length text) longest short, refused_parts text e (refused 0 start (lines text) e (blocks_err (reading 0 start (lines text)) e h)))
refused_from text e false short h = let same : refusal TooLong 0 ≡ e = cc in inl (leb-false (length text) longest short, sym same)

pub refused_text : (text : List ℕ) (e : ValueRefusal) → meaning text ≡ Err e → IsRefused text e
unfolding meaning
refused_text text e h = refused_from text e (leb (length text) longest) refl h

pub refused_text_again : (text : List ℕ) (e : ValueRefusal) → IsRefused text e → meaning text ≡ Err e
refused_text_again text e (inl long) = long_text text long.0 ∙ ap (λ x. Err x) (sym long.1)
refused_text_again text e (inr (short, inl b)) =
    let same : length b.front + 1 ≡ 0 + length b.front + 1 = omega arith in
    short_text text short
    ∙ ap (λ ls. blocks_in (reading 0 start ls)) b.lines_are
    ∙ ap blocks_in (bad_again 0 start b.front b.bad b.after b.place b.kind b.leads (subst (λ k. line_at b.place k b.bad ≡ Err b.kind) same b.is_bad))
    ∙ ap (λ k. Err (refusal b.kind k)) (sym same) ∙ ap (λ x. Err x) (sym b.refusal_is)
refused_text_again text e (inr (short, inr l)) =
    let same : 0 + length (lines text) ≡ length (lines text) = omega arith in
    short_text text short ∙ ap blocks_in (lacks_again 0 start (lines text) l.place l.leads l.is_open) ∙ ap (λ k. Err (refusal Syntax k)) same ∙ ap (λ x. Err x) (sym l.refusal_is)

-- ---- what the code gives
pub gives_data : (text : List ℕ) (r : Result (List (CoefficientValues Ratio)) ValueRefusal) → Gives r (meaning text) → IfOk r (λ bs. IsDataText text (fractions bs))
gives_data text (Ok bs) g = data_text text (fractions bs) g
gives_data text (Err e) g = tt

gives_refusal : (text : List ℕ) (e : ValueRefusal) → Fails e (meaning text) → (e ≡ out_of_memory) ⊎ IsRefused text e
gives_refusal text e (inl memory) = inl memory
gives_refusal text e (inr is) = inr (refused_text text e is)

pub gives_refusals : (text : List ℕ) (r : Result (List (CoefficientValues Ratio)) ValueRefusal) → Gives r (meaning text) → IfErr r (λ e. (e ≡ out_of_memory) ⊎ IsRefused text e)
gives_refusals text (Ok bs) g = tt
gives_refusals text (Err e) g = gives_refusal text e g
