-- Pieces that stay apart: none of them runs on into the next
use Rattle.std.proofs.Common.{◌≡◌, refl, sym, ◌∙◌, ap, subst, ℕ, Bool, true, false, ◌&&◌, ◌||◌, not, ◌==◌, if◌then◌else◌, List, [], ◌∷◌, ◌++◌, codes, arith, inl, inr, ◌⊎◌}
use Rattle.std.proofs.lemmas.Bool.{eqb-true, true≢false}
use Rattle.slices.specs.CTable.{is_digit, is_inside_word, is_letter}
use Rattle.c_text.specs.Lowest.{first, second}
use Rattle.c_text.specs.Pieces.{Piece, Gap, Solid, Sign, text_of, words_of}
use Rattle.c_text.specs.Lawful.{is_name, all_inside}
use Rattle.c_text.proofs.Lexing.{Lexes, lex_end, lex_gap, lex_name, lex_digits, lex_half, lex_sign, lex_plus, lex_increment, all_white, all_digits, outside_word, is_plain, or_cases, or_second}

-- ---- words

abbrev pub is_empty : List ℕ → Bool
is_empty [] = true
is_empty (b ∷ bs) = false

-- digits, with `u` behind them or without
abbrev pub count_ends : List ℕ → Bool
count_ends [] = true
count_ends (b ∷ bs) = if is_digit b then count_ends bs else (b == 117 && is_empty bs)

abbrev pub is_count : List ℕ → Bool
is_count [] = false
is_count (b ∷ bs) = is_digit b && count_ends bs

abbrev pub is_solid : List ℕ → Bool
is_solid w = is_name w || is_count w

abbrev Shape : List ℕ → Type 0
Shape bs = (all_digits bs ≡ true) ⊎ ((ds : List ℕ) × (all_digits ds ≡ true) × (bs ≡ ds ++ codes "u"))

shape_more : (b : ℕ) (bs : List ℕ) → is_digit b ≡ true → Shape bs → Shape (b ∷ bs)
shape_more b bs h (inl a) = inl (rw h a)
shape_more b bs h (inr p) = inr (b ∷ p.0, rw h p.1, ap (λ xs. b ∷ xs) p.2)

shape_last : (b : ℕ) (bs : List ℕ) → (b == 117 && is_empty bs) ≡ true → Shape (b ∷ bs)
shape_last b [] h = inr ([], refl, ap (λ x. x ∷ []) (eqb-true b 117 (first (b == 117) _ h)))
shape_last b (c ∷ cs) h = absurd (true≢false (sym (second (b == 117) false h)))

shape_by : (t : Bool) (b : ℕ) (bs : List ℕ) → is_digit b ≡ t → count_ends (b ∷ bs) ≡ true → (count_ends bs ≡ true → Shape bs) → Shape (b ∷ bs)
shape_by true b bs e h more = shape_more b bs e (more (rw e at h))
shape_by false b bs e h more = shape_last b bs (rw e at h)

shape : (bs : List ℕ) → count_ends bs ≡ true → Shape bs
shape [] h = inl refl
shape (b ∷ bs) h = shape_by (is_digit b) b bs refl h (shape bs)

lex_count : (w rest : List ℕ) (ws : List (List ℕ)) → is_count w ≡ true → outside_word rest ≡ true → Lexes rest ws → Lexes (w ++ rest) (w ∷ ws)
lex_count [] rest ws h o l = cc
lex_count (b ∷ bs) rest ws h o l = lex_shape b bs rest ws (first (is_digit b) _ h) (shape bs (second (is_digit b) _ h)) o l
  where
    lex_shape : (b : ℕ) (bs rest : List ℕ) (ws : List (List ℕ)) → is_digit b ≡ true → Shape bs → outside_word rest ≡ true → Lexes rest ws → Lexes (b ∷ (bs ++ rest)) ((b ∷ bs) ∷ ws)
    lex_shape b bs rest ws d (inl a) o l = lex_digits (b ∷ bs) rest ws (omega arith) (rw d a) o l
    lex_shape b bs rest ws d (inr p) o l = subst (λ xs. Lexes (b ∷ (xs ++ rest)) ((b ∷ xs) ∷ ws)) (sym p.2) (lex_half (b ∷ p.0) rest ws (omega arith) (rw d p.1) l)

lex_solid : (w rest : List ℕ) (ws : List (List ℕ)) → is_solid w ≡ true → outside_word rest ≡ true → Lexes rest ws → Lexes (w ++ rest) (w ∷ ws)
lex_solid w rest ws h o l = or_cases (is_name w) (is_count w) (Lexes (w ++ rest) (w ∷ ws)) (λ n. lex_name w rest ws n o l) (λ n. lex_count w rest ws n o l) h

-- ---- pieces

abbrev outer : List ℕ → Bool
outer [] = false
outer (b ∷ bs) = not (is_inside_word b)

-- no word runs on into these pieces
abbrev pub stops : List Piece → Bool
stops [] = true
stops (Gap bs ∷ ps) = outer bs
stops (Solid bs ∷ ps) = false
stops (Sign bs ∷ ps) = outer bs

abbrev starts_solid : List Piece → Bool
starts_solid [] = false
starts_solid (Gap bs ∷ ps) = false
starts_solid (Solid bs ∷ ps) = true
starts_solid (Sign bs ∷ ps) = false

abbrev sign_ends : List ℕ → List Piece → Bool
sign_ends [] ps = false
sign_ends (b ∷ []) ps = is_plain b || (b == 43 && starts_solid ps)
sign_ends (b ∷ c ∷ []) ps = b == 43 && c == 43
sign_ends (b ∷ c ∷ d ∷ bs) ps = false

abbrev pub apart : List Piece → Bool
apart [] = true
apart (Gap bs ∷ ps) = all_white bs && apart ps
apart (Solid w ∷ ps) = is_solid w && (stops ps && apart ps)
apart (Sign w ∷ ps) = sign_ends w ps && apart ps

outer_front : (bs rest : List ℕ) → outer bs ≡ true → outside_word (bs ++ rest) ≡ true
outer_front [] rest h = cc
outer_front (b ∷ bs) rest h = h

stops_text : (ps : List Piece) → stops ps ≡ true → outside_word (text_of ps) ≡ true
stops_text [] h = refl
stops_text (Gap bs ∷ ps) h = outer_front bs (text_of ps) h
stops_text (Solid bs ∷ ps) h = cc
stops_text (Sign bs ∷ ps) h = outer_front bs (text_of ps) h

or_first : (a b : Bool) → a ≡ true → (a || b) ≡ true
or_first a b h = cc

pub both : (a b : Bool) → a ≡ true → b ≡ true → (a && b) ≡ true
both a b h k = cc

solid_front : (w : List ℕ) → is_solid w ≡ true → (b : ℕ) × (bs : List ℕ) × (w ≡ b ∷ bs) × (is_inside_word b ≡ true)
solid_front [] h = cc
solid_front (b ∷ bs) h =
    (b, bs, refl, or_cases (is_letter b && all_inside bs) (is_digit b && count_ends bs) (is_inside_word b ≡ true) (λ x. or_first (is_letter b) (is_digit b) (first (is_letter b) _ x)) (λ x. or_second (is_letter b) (is_digit b) (first (is_digit b) _ x)) h)

plus_lexes : (ps : List Piece) → starts_solid ps ≡ true → apart ps ≡ true → Lexes (text_of ps) (words_of ps) → Lexes (43 ∷ text_of ps) ((43 ∷ []) ∷ words_of ps)
plus_lexes [] h a l = cc
plus_lexes (Gap bs ∷ ps) h a l = cc
plus_lexes (Sign bs ∷ ps) h a l = cc
plus_lexes (Solid w ∷ ps) h a l =
    let f = solid_front w (first (is_solid w) _ a) in
    let e : text_of (Solid w ∷ ps) ≡ f.0 ∷ (f.1 ++ text_of ps) = ap (λ x. x ++ text_of ps) f.2 in
    subst (λ t. Lexes (43 ∷ t) ((43 ∷ []) ∷ w ∷ words_of ps)) (sym e) (lex_plus f.0 (f.1 ++ text_of ps) (w ∷ words_of ps) f.3 (subst (λ t. Lexes t (w ∷ words_of ps)) e l))

sign_lexes : (w : List ℕ) (ps : List Piece) → sign_ends w ps ≡ true → apart ps ≡ true → Lexes (text_of ps) (words_of ps) → Lexes (w ++ text_of ps) (w ∷ words_of ps)
sign_lexes [] ps h a l = cc
sign_lexes (b ∷ []) ps h a l =
    or_cases (is_plain b) (b == 43 && starts_solid ps) (Lexes (b ∷ text_of ps) ((b ∷ []) ∷ words_of ps)) (λ x. lex_sign b (text_of ps) (words_of ps) x l)
    (λ x. subst (λ b. Lexes (b ∷ text_of ps) ((b ∷ []) ∷ words_of ps)) (sym (eqb-true b 43 (first (b == 43) _ x))) (plus_lexes ps (second (b == 43) _ x) a l)) h
sign_lexes (b ∷ c ∷ []) ps h a l =
    let e = eqb-true b 43 (first (b == 43) _ h) in
    let f = eqb-true c 43 (second (b == 43) _ h) in
    subst (λ b. Lexes (b ∷ c ∷ text_of ps) ((b ∷ c ∷ []) ∷ words_of ps)) (sym e) (subst (λ c. Lexes (43 ∷ c ∷ text_of ps) ((43 ∷ c ∷ []) ∷ words_of ps)) (sym f) (lex_increment (text_of ps) (words_of ps) l))
sign_lexes (b ∷ c ∷ d ∷ bs) ps h a l = cc

-- the tokens of pieces that stay apart are their words and signs
pub lexes : (ps : List Piece) → apart ps ≡ true → Lexes (text_of ps) (words_of ps)
lexes [] h = lex_end
lexes (Gap bs ∷ ps) h = lex_gap bs (text_of ps) (words_of ps) (first (all_white bs) _ h) (lexes ps (second (all_white bs) _ h))
lexes (Solid w ∷ ps) h =
    let more = second (is_solid w) _ h in
    lex_solid w (text_of ps) (words_of ps) (first (is_solid w) _ h) (stops_text ps (first (stops ps) _ more)) (lexes ps (second (stops ps) _ more))
lexes (Sign w ∷ ps) h =
    let more = second (sign_ends w ps) _ h in
    sign_lexes w ps (first (sign_ends w ps) _ h) more (lexes ps more)

-- ---- pieces one after the other

stops_more : (p : Piece) (ps qs : List Piece) → stops (p ∷ ps) ≡ stops ((p ∷ ps) ++ qs)
stops_more (Gap bs) ps qs = refl
stops_more (Solid bs) ps qs = refl
stops_more (Sign bs) ps qs = refl

pub stops_then : (ps qs : List Piece) → stops ps ≡ true → stops qs ≡ true → stops (ps ++ qs) ≡ true
stops_then [] qs h k = k
stops_then (p ∷ ps) qs h k = sym (stops_more p ps qs) ∙ h

solid_then : (ps qs : List Piece) → starts_solid ps ≡ true → starts_solid (ps ++ qs) ≡ true
solid_then [] qs h = cc
solid_then (Gap bs ∷ ps) qs h = h
solid_then (Solid bs ∷ ps) qs h = h
solid_then (Sign bs ∷ ps) qs h = h

sign_then : (w : List ℕ) (ps qs : List Piece) → sign_ends w ps ≡ true → sign_ends w (ps ++ qs) ≡ true
sign_then [] ps qs h = h
sign_then (b ∷ []) ps qs h =
    or_cases (is_plain b) (b == 43 && starts_solid ps) (sign_ends (b ∷ []) (ps ++ qs) ≡ true) (λ x. or_first (is_plain b) _ x)
    (λ x. or_second (is_plain b) (b == 43 && starts_solid (ps ++ qs)) (both (b == 43) _ (first (b == 43) _ x) (solid_then ps qs (second (b == 43) _ x)))) h
sign_then (b ∷ c ∷ []) ps qs h = h
sign_then (b ∷ c ∷ d ∷ bs) ps qs h = h

-- pieces before others into which no word runs on
pub apart_then : (ps qs : List Piece) → apart ps ≡ true → stops qs ≡ true → apart qs ≡ true → apart (ps ++ qs) ≡ true
apart_then [] qs h s k = k
apart_then (Gap bs ∷ ps) qs h s k = both (all_white bs) _ (first (all_white bs) _ h) (apart_then ps qs (second (all_white bs) _ h) s k)
apart_then (Solid w ∷ ps) qs h s k =
    let more = second (is_solid w) _ h in
    both (is_solid w) _ (first (is_solid w) _ h) (both (stops (ps ++ qs)) _ (stops_then ps qs (first (stops ps) _ more) s) (apart_then ps qs (second (stops ps) _ more) s k))
apart_then (Sign w ∷ ps) qs h s k =
    both (sign_ends w (ps ++ qs)) _ (sign_then w ps qs (first (sign_ends w ps) _ h)) (apart_then ps qs (second (sign_ends w ps) _ h) s k)
