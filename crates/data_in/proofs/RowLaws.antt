-- What the words of a line say: the functions are the grammar's relations
use Rattle.std.proofs.Common.{◌≡◌, ◌≤◌, ℕ, Bool, true, false, cond, leb, List, [], ◌∷◌, Option, Some, None, refl, sym, ap, subst, ◌∙◌}
use Rattle.std.specs.Prelude.{codes}
use Rattle.std.specs.Str.{bytes_eq}
use Rattle.std.proofs.lemmas.Bool.{leb-true, le-leb}
use Rattle.std.proofs.lemmas.Slice.Eq.{bytes_eq-Decides}
use Rattle.algebra.specs.Fraction.{Fraction}
use Rattle.mesh_in.specs.MeshGrammar.{StandsFor}
use Rattle.mesh_in.specs.MeshText.{keyword, one, at_end}
use Rattle.mesh_in.specs.Number.{number_of}
use Rattle.mesh_in.specs.NumberReading.{coordinate_of}
use Rattle.mesh_in.specs.Options.{◌>>=◌}
use Rattle.mesh_in.proofs.GrammarLaws.{bind_some, some_is}
use Rattle.mesh_in.proofs.NumberTextLemmas.{number_again, number_is}
use Rattle.data_in.specs.DataReading.{heading_in, head_in, value_in, block_from}
use Rattle.data_in.specs.DataText.{NumberedWords, Row, heading, block, IsBlock, IsValue, Says}

if_some : {A : Type 0} (b : Bool) (o : Option A) (y : A) → cond b o None ≡ Some y → (b ≡ true) × (o ≡ Some y)
if_some true o y e = (refl, e)
if_some false o y e = absurd cc

keyword_is : (name : List ℕ) (ws rest : List (List ℕ)) → keyword name ws ≡ Some rest → ws ≡ name ∷ rest
keyword_is name [] rest e = absurd cc
keyword_is name (w ∷ ws) rest e =
    let p = if_some (bytes_eq w name) (Some ws) rest e in
    ap (λ v. v ∷ ws) ((bytes_eq-Decides w name).0 p.0) ∙ ap (λ vs. name ∷ vs) (some_is ws rest p.1)

one_is : {A : Type 0} (of : List ℕ → Option A) (ws : List (List ℕ)) (r : A × List (List ℕ)) → one of ws ≡ Some r → (w : List ℕ) × (ws ≡ w ∷ r.1) × (of w ≡ Some r.0)
one_is of [] r e = absurd cc
one_is of (w ∷ ws) r e =
    let p = bind_some (of w) (λ x. Some (x, ws)) r e in
    let q = some_is (p.0, ws) r p.2 in
    (w, ap (λ (r : _ × List (List ℕ)). w ∷ r.1) q, p.1 ∙ ap (λ (r : _ × List (List ℕ)). Some r.0) q)

end_is : {A : Type 0} (ws : List (List ℕ)) (x y : A) → at_end ws x ≡ Some y → (ws ≡ []) × (x ≡ y)
end_is [] x y e = (refl, some_is x y e)
end_is (w ∷ ws) x y e = absurd cc

-- ---- the heading
pub heading_is : (ws : List (List ℕ)) (row : Row) → heading_in ws ≡ Some row → (ws ≡ codes "data" ∷ (codes "1" ∷ [])) × (row ≡ heading)
unfolding heading_in
heading_is ws row e =
    let first = bind_some (keyword (codes "data") ws) _ row e in
    let second = bind_some (keyword (codes "1") first.0) _ row first.2 in
    let end = end_is second.0 heading row second.2 in (
      keyword_is (codes "data") ws first.0 first.1 ∙ ap (λ vs. codes "data" ∷ vs) (keyword_is (codes "1") first.0 second.0 second.1 ∙ ap (λ vs. codes "1" ∷ vs) end.0),
      sym end.1,
    )

pub heading_again : (ws : List (List ℕ)) → ws ≡ codes "data" ∷ (codes "1" ∷ []) → heading_in ws ≡ Some heading
unfolding heading_in
heading_again ws is = rw is refl

-- ---- the line that begins a block
pub record HasHead (ws : List (List ℕ)) (number count : ℕ) : Type 0 where
  pub number_word : List ℕ
  pub count_word : List ℕ
  pub words_are : ws ≡ codes "coefficient" ∷ (number_word ∷ (count_word ∷ []))
  pub is_number : number_of number_word ≡ Some number
  pub is_count : number_of count_word ≡ Some count

pub head_is : (ws : List (List ℕ)) (h : ℕ × ℕ) → head_in ws ≡ Some h → HasHead ws h.0 h.1
unfolding head_in
head_is ws h e =
    let name = bind_some (keyword (codes "coefficient") ws) _ h e in
    let number = bind_some (one number_of name.0) _ h name.2 in
    let count = bind_some (one number_of number.0.1) _ h number.2 in
    let n = one_is number_of name.0 number.0 number.1 in
    let k = one_is number_of number.0.1 count.0 count.1 in
    let end = end_is count.0.1 (number.0.0, count.0.0) h count.2 in
    subst (λ (h : ℕ × ℕ). HasHead ws h.0 h.1) end.1 (record {
      number_word = n.0;
      count_word = k.0;
      words_are = keyword_is (codes "coefficient") ws name.0 name.1
          ∙ ap (λ vs. codes "coefficient" ∷ vs) (n.1 ∙ ap (λ vs. n.0 ∷ vs) (k.1 ∙ ap (λ vs. k.0 ∷ vs) end.0));
      is_number = n.2;
      is_count = k.2;
    })

pub head_again : (ws : List (List ℕ)) (number count : ℕ) → HasHead ws number count → head_in ws ≡ Some (number, count)
unfolding head_in
head_again ws number count p = rw (p.words_are, p.is_number, p.is_count) refl

pub record IsBlockRow (low line : ℕ) (ws : List (List ℕ)) (row : Row) : Type 0 where
  pub number : ℕ
  pub count : ℕ
  pub head : HasHead ws number count
  pub rises : low ≤ number
  pub row_is : row ≡ block line number count

block_chosen : (low line : ℕ) (ws : List (List ℕ)) (row : Row) (h : ℕ × ℕ) (b : Bool) → HasHead ws h.0 h.1 → leb low h.0 ≡ b → cond b (Some (block line h.0 h.1)) None ≡ Some row → IsBlockRow low line ws row
block_chosen low line ws row h true head rises e = record { number = h.0; count = h.1; head = head; rises = leb-true low h.0 rises; row_is = sym (some_is (block line h.0 h.1) row e) }
block_chosen low line ws row h false head rises e = absurd cc

pub block_is : (low line : ℕ) (ws : List (List ℕ)) (row : Row) → (head_in ws >>= block_from low line) ≡ Some row → IsBlockRow low line ws row
block_is low line ws row e =
    let h = bind_some (head_in ws) (block_from low line) row e in
    block_chosen low line ws row h.0 (leb low h.0.0) (head_is ws h.0 h.1) refl h.2

pub block_again : (low line : ℕ) (ws : List (List ℕ)) (number count : ℕ) → HasHead ws number count → low ≤ number → (head_in ws >>= block_from low line) ≡ Some (block line number count)
block_again low line ws number count head rises =
    ap (λ o. o >>= block_from low line) (head_again ws number count head) ∙ ap (λ b. cond b (Some (block line number count)) None) (le-leb low number rises)

pub says_head : (w : NumberedWords) (line number count : ℕ) → IsBlock w line number count → HasHead w.words number count
says_head w line number count is = record { number_word = is.number_word; count_word = is.count_word; words_are = is.words_are; is_number = is.is_number; is_count = is.is_count }

pub head_says : (n : ℕ) (ws : List (List ℕ)) (number count : ℕ) → HasHead ws number count → Says (record { line = n; words = ws }) (block n number count)
head_says n ws number count h = record { number_word = h.number_word; count_word = h.count_word; words_are = h.words_are; is_number = h.is_number; is_count = h.is_count; line_is = refl }

-- ---- one value
stands_for : (word : List ℕ) (x : Fraction) → coordinate_of word ≡ Some x → StandsFor word x
stands_for word x e = let n = number_is word x e in record { below_zero = n.0; magnitude = n.1; is_number = n.2; value = sym (number_again word n.0 n.1 n.2) ∙ e }

pub value_is : (w : NumberedWords) (x : Fraction) → value_in w.words ≡ Some x → IsValue w x
unfolding value_in
value_is w x e =
    let first = bind_some (one coordinate_of w.words) _ x e in
    let word = one_is coordinate_of w.words first.0 first.1 in
    let end = end_is first.0.1 first.0.0 x first.2 in
    record { word = word.0; words_are = word.1 ∙ ap (λ vs. word.0 ∷ vs) end.0; stands_for = stands_for word.0 x (word.2 ∙ ap (λ y. Some y) end.1) }

pub value_again : (w : NumberedWords) (x : Fraction) → IsValue w x → value_in w.words ≡ Some x
unfolding value_in
value_again w x is =
    let number : coordinate_of is.word ≡ Some x = number_again is.word is.stands_for.below_zero is.stands_for.magnitude is.stands_for.is_number ∙ is.stands_for.value in
    rw (is.words_are, number) refl
