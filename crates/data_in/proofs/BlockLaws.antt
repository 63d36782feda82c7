-- Blocks as the code appends them, and as it finds them
use Rattle.std.proofs.Common.{◌≡◌, ◌≤◌, ◌<◌, ◌≢◌, ℕ, zero, suc, ◌+◌, cond, List, [], ◌∷◌, ◌++◌, length, map, drop, get_or, Option, Some, None, Ok, Err, inl, inr, refl, sym, ap, ◌∙◌, append_assoc, arith, eq-eqb, add-one, drop-cons}
use Rattle.std.specs.Prelude.{◌⊎◌}
use Rattle.std.proofs.lemmas.Bool.{cases_lt, ne_eqb, le-leb, lt-leb, lt-ltb, le-ltb}
use Rattle.std.proofs.lemmas.List.{append-nil, drop_all, length-map, map_push}
use Rattle.algebra.specs.Fraction.{Fraction}
use Rattle.ratio.specs.declared.reduced.Ratio.{Ratio}
use Rattle.mesh_in.specs.Options.{◌>>=◌}
use Rattle.data_in.specs.declared.refusal.ValueKind.TheVariants.{Syntax, Extra}
use Rattle.data_in.specs.declared.refusal.ValueRefusal.{ValueRefusal}
use Rattle.data_in.specs.declared.values.Block.{Block}
use Rattle.data_in.specs.declared.values.Need.{Need}
use Rattle.data_in.specs.CoefficientValues.{CoefficientValues, AreRising, block_of, fractions, fractions_in, values_in}
use Rattle.data_in.specs.DataText.{block}
use Rattle.data_in.specs.DataReading.{Place, within, head_in, block_from, row_at, said, Reading, with_row, ended, after_line, refusal, reading, blocks_in}
use Rattle.data_in.specs.Needs.{first_extra, first_unmet, unmet, or_else}
use Rattle.data_in.specs.Reader.{Fails, behind_values, behind_blocks, RiseTo}
use Rattle.data_in.proofs.DataLaws.{told, no_values}

abbrev Held : Type 0
Held = CoefficientValues Ratio

abbrev Values : Type 0
Values = CoefficientValues Fraction

-- ---- rising numbers
pub rise_end : {A : Type 0} (low : ℕ) (bs : List (CoefficientValues A)) (b : CoefficientValues A) (to : ℕ) → RiseTo low bs to → to ≤ b.number → RiseTo low (bs ++ b ∷ []) (b.number + 1)
rise_end low [] b to h at = (omega arith, omega arith)
rise_end low (c ∷ bs) b to h at = (h.0, rise_end (c.number + 1) bs b to h.1 at)

pub rise_all : {A : Type 0} (low : ℕ) (bs : List (CoefficientValues A)) (to : ℕ) → RiseTo low bs to → AreRising low bs
rise_all low [] to h = tt
rise_all low (b ∷ bs) to h = (h.0, rise_all (b.number + 1) bs to h.1)

-- ---- what is read with what the rest says
abbrev HasNone : Reading → Type 0
HasNone (Err e) = Unit {0}
HasNone (Ok s) = s.lacking ≡ []

none_by : (n low : ℕ) (ls : List (List ℕ)) (r : Reading) → reading n (within low 0) ls ≡ r → HasNone r
none_by n low ls (Err e) is = tt
none_by n low ls (Ok s) is = no_values s.lacking (told n (within low 0) ls s is).is_at.lacking

pub none_lacking : (n low : ℕ) (ls : List (List ℕ)) → HasNone (reading n (within low 0) ls)
none_lacking n low ls = none_by n low ls (reading n (within low 0) ls) refl

put_block : (line number count : ℕ) (xs : List Fraction) (r : Reading) → HasNone r
    → with_row (Some (block line number count)) (behind_values xs r) ≡ behind_blocks (record { number = number; line = line; values = xs } ∷ []) r
put_block line number count xs (Err e) none = refl
put_block line number count xs (Ok s) none =
    ap (λ ys. Ok (record { lacking = []; blocks = record { number = number; line = line; values = xs ++ ys } ∷ s.blocks })) none
    ∙ ap (λ ys. Ok (record { lacking = []; blocks = record { number = number; line = line; values = ys } ∷ s.blocks })) (append-nil xs)
    ∙ ap (λ ys. Ok (record { lacking = ys; blocks = record { number = number; line = line; values = xs } ∷ s.blocks })) (sym none)

chosen_block : (low line : ℕ) (h : ℕ × ℕ) → low ≤ h.0 → block_from low line h ≡ Some (block line h.0 h.1)
chosen_block low line h le = ap (λ b. cond b (Some (block line h.0 h.1)) None) (le-leb low h.0 le)

other_block : (low line : ℕ) (h : ℕ × ℕ) → h.0 < low → block_from low line h ≡ None
other_block low line h lt = ap (λ b. cond b (Some (block line h.0 h.1)) None) (lt-leb low h.0 lt)

-- a block is read
pub block_read : (low line : ℕ) (ws : List (List ℕ)) (number count : ℕ) (xs : List Fraction) (rest : Place → Reading) (after : Reading) → Some (number, count) ≡ head_in ws → low ≤ number
    → rest (within (number + 1) count) ≡ behind_values xs after → HasNone after
    → after_line line (within low 0) (said (row_at (within low 0) line ws)) rest ≡ behind_blocks (record { number = number; line = line; values = xs } ∷ []) after
block_read low line ws number count xs rest after head rises is none =
    ap (λ o. after_line line (within low 0) (said (o >>= block_from low line)) rest) (sym head)
    ∙ ap (λ o. after_line line (within low 0) (said o) rest) (chosen_block low line (number, count) rises)
    ∙ ap (with_row (Some (block line number count))) is
    ∙ put_block line number count xs after none

pub block_fails : (low line : ℕ) (ws : List (List ℕ)) (number count : ℕ) (rest : Place → Reading) (e : ValueRefusal) → Some (number, count) ≡ head_in ws → low ≤ number
    → Fails e (rest (within (number + 1) count)) → Fails e (after_line line (within low 0) (said (row_at (within low 0) line ws)) rest)
block_fails low line ws number count rest e head rises (inl memory) = inl memory
block_fails low line ws number count rest e head rises (inr is) = inr (
    ap (λ o. after_line line (within low 0) (said (o >>= block_from low line)) rest) (sym head)
    ∙ ap (λ o. after_line line (within low 0) (said o) rest) (chosen_block low line (number, count) rises)
    ∙ ap (with_row (Some (block line number count))) is
    )

pub block_below : (low line : ℕ) (ws : List (List ℕ)) (number count : ℕ) (rest : Place → Reading) → Some (number, count) ≡ head_in ws → number < low
    → after_line line (within low 0) (said (row_at (within low 0) line ws)) rest ≡ Err (refusal Syntax line)
block_below low line ws number count rest head lt =
    ap (λ o. after_line line (within low 0) (said (o >>= block_from low line)) rest) (sym head)
    ∙ ap (λ o. after_line line (within low 0) (said o) rest) (other_block low line (number, count) lt)

pub no_block : (low line : ℕ) (ws : List (List ℕ)) (rest : Place → Reading) → None ≡ head_in ws → after_line line (within low 0) (said (row_at (within low 0) line ws)) rest ≡ Err (refusal Syntax line)
no_block low line ws rest head = ap (λ o. after_line line (within low 0) (said (o >>= block_from low line)) rest) (sym head)

pub behind_more : (bs cs : List Values) (r : Reading) → behind_blocks bs (behind_blocks cs r) ≡ behind_blocks (bs ++ cs) r
behind_more bs cs (Err e) = refl
behind_more bs cs (Ok s) = ap (λ ds. Ok (record { lacking = s.lacking; blocks = ds })) (sym (append_assoc bs cs s.blocks))

pub behind_nothing : (r : Reading) → r ≡ behind_blocks [] r
behind_nothing (Err e) = refl
behind_nothing (Ok s) = refl

pub behind_end : (bs : List Values) (n low : ℕ) → blocks_in (behind_blocks bs (ended n (within low 0))) ≡ Ok bs
behind_end bs n low = ap (λ x. Ok x) (append-nil bs)

pub behind_fails : (bs : List Values) (r : Reading) (e : ValueRefusal) → Fails e r → Fails e (behind_blocks bs r)
behind_fails bs r e (inl memory) = inl memory
behind_fails bs r e (inr is) = inr (ap (behind_blocks bs) is)

pub block_pushed : (bs : List Block) (b : Block) → fractions (map values_in (bs ++ b ∷ [])) ≡ fractions (map values_in bs) ++ fractions_in (values_in b) ∷ []
block_pushed bs b = ap fractions (map_push values_in bs b) ∙ map_push fractions_in (map values_in bs) (values_in b)

pub fails_blocks : (r : Reading) (e : ValueRefusal) → Fails e r → Fails e (blocks_in r)
fails_blocks r e (inl memory) = inl memory
fails_blocks r e (inr is) = inr (ap blocks_in is)

-- ---- the block of a number
abbrev pub number_at : List Held → ℕ → ℕ
number_at [] k = 0
number_at (b ∷ bs) zero = b.number
number_at (b ∷ bs) (suc k) = number_at bs k

least : (low : ℕ) (bs : List Held) → AreRising low bs → (k : ℕ) → k < length bs → low ≤ number_at bs k
least low [] h k lt = absurd (omega arith)
least low (b ∷ bs) h zero lt = h.0
least low (b ∷ bs) h (suc k) lt = omega (arith, least (b.number + 1) bs h.1 k (omega arith), h.0)

between : (low : ℕ) (bs : List Held) → AreRising low bs → (j k : ℕ) → j < k → k < length bs → number_at bs j < number_at bs k
between low [] h j k lt inside = absurd (omega arith)
between low (b ∷ bs) h j zero lt inside = absurd (omega arith)
between low (b ∷ bs) h zero (suc k) lt inside = omega (arith, least (b.number + 1) bs h.1 k (omega arith))
between low (b ∷ bs) h (suc j) (suc k) lt inside = between (b.number + 1) bs h.1 j k (omega arith) (omega arith)

missing_in : (bs : List Held) (n : ℕ) → ((k : ℕ) → k < length bs → number_at bs k ≢ n) → block_of bs n ≡ None
missing_in [] n none = refl
missing_in (b ∷ bs) n none =
    ap (λ t. cond t (Some b) (block_of bs n)) (ne_eqb b.number n (none zero (omega arith))) ∙ missing_in bs n (λ k lt. none (suc k) (omega arith))

-- block k of the code's
pub record IsAtPlace (bs : List Block) (k : ℕ) (b : Block) : Type 0 where
  pub within : k < length bs
  pub is : b ≡ get_or bs k b

number_here : (bs : List Block) (k : ℕ) (b : Block) → k < length bs → b ≡ get_or bs k b → number_at (map values_in bs) k ≡ b.number
number_here [] k b lt is = absurd (omega arith)
number_here (c ∷ bs) zero b lt is = ap (λ (x : Block). x.number) (sym is)
number_here (c ∷ bs) (suc k) b lt is = number_here bs k b (omega arith) is

found_from : (low : ℕ) (bs : List Block) (k : ℕ) (b : Block) → AreRising low (map values_in bs) → k < length bs → b ≡ get_or bs k b → block_of (map values_in bs) b.number ≡ Some (values_in b)
found_from low [] k b h lt is = absurd (omega arith)
found_from low (c ∷ bs) zero b h lt is =
    ap (λ t. cond t (Some (values_in c)) (block_of (map values_in bs) b.number)) (eq-eqb c.number b.number (ap (λ (x : Block). x.number) (sym is))) ∙ ap (λ (x : Block). Some (values_in x)) (sym is)
found_from low (c ∷ bs) (suc k) b h lt is =
    let inside : k < length bs = omega arith in
    let few : c.number + 1 ≤ number_at (map values_in bs) k = least (c.number + 1) (map values_in bs) h.1 k (omega (arith, length-map bs values_in)) in
    ap (λ t. cond t (Some (values_in c)) (block_of (map values_in bs) b.number)) (ne_eqb c.number b.number (λ e. omega (arith, few, number_here bs k b inside is)))
    ∙ found_from (c.number + 1) bs k b h.1 inside is

pub found_at : (bs : List Block) (k : ℕ) (b : Block) (n : ℕ) → AreRising 0 (map values_in bs) → IsAtPlace bs k b → b.number ≡ n → Some (values_in b) ≡ block_of (map values_in bs) n
found_at bs k b n h at same = sym (found_from 0 bs k b h at.within at.is) ∙ ap (block_of (map values_in bs)) same

-- the blocks before low have lesser numbers, and those from high on have greater ones
pub record IsBetween (bs : List Block) (n low high : ℕ) : Type 0 where
  pub within : high ≤ length bs
  pub below : (k : ℕ) → k < low → number_at (map values_in bs) k < n
  pub above : (k : ℕ) → high ≤ k → k < length bs → n < number_at (map values_in bs) k

pub all_between : (bs : List Block) (n : ℕ) → IsBetween bs n 0 (length bs)
all_between bs n = record { within = omega arith; below = λ k lt. absurd (omega arith); above = λ k le lt. absurd (omega arith) }

pub none_between : (bs : List Block) (n low high : ℕ) → high ≤ low → IsBetween bs n low high → None ≡ block_of (map values_in bs) n
none_between bs n low high le h = sym (missing_in (map values_in bs) n (λ k lt e. apart k (omega (arith, length-map bs values_in)) e (cases_lt k low)))
  where
    apart : (k : ℕ) → k < length bs → number_at (map values_in bs) k ≡ n → (k < low) ⊎ (low ≤ k) → ⊥
    apart k lt e (inl less) = omega (arith, h.below k less)
    apart k lt e (inr more) = omega (arith, h.above k (omega arith) lt)

pub lower_half : (bs : List Block) (n low high k : ℕ) (b : Block) → AreRising 0 (map values_in bs) → IsAtPlace bs k b → b.number < n → IsBetween bs n low high → IsBetween bs n (k + 1) high
lower_half bs n low high k b rising at less h = record { within = h.within; below = λ j lt. here j (cases_lt j k) lt; above = h.above }
  where
    here : (j : ℕ) → (j < k) ⊎ (k ≤ j) → j < k + 1 → number_at (map values_in bs) j < n
    here j (inl lt) inside =
        omega (arith, between 0 (map values_in bs) rising j k lt (omega (arith, length-map bs values_in, at.within)), number_here bs k b at.within at.is)
    here j (inr le) inside =
        let same : j ≡ k = omega arith in
        omega (arith, number_here bs k b at.within at.is, ap (number_at (map values_in bs)) same)

pub upper_half : (bs : List Block) (n low high k : ℕ) (b : Block) → AreRising 0 (map values_in bs) → IsAtPlace bs k b → n < b.number → IsBetween bs n low high → IsBetween bs n low k
upper_half bs n low high k b rising at more h = record { within = omega (arith, at.within); below = h.below; above = λ j le lt. here j (cases_lt k j) le lt }
  where
    here : (j : ℕ) → (k < j) ⊎ (j ≤ k) → k ≤ j → j < length bs → n < number_at (map values_in bs) j
    here j (inl after) le lt =
        omega (arith, between 0 (map values_in bs) rising k j after (omega (arith, length-map bs values_in)), number_here bs k b at.within at.is)
    here j (inr before) le lt =
        let same : j ≡ k = omega arith in
        omega (arith, number_here bs k b at.within at.is, ap (number_at (map values_in bs)) same)

-- ---- the first refusal
abbrev pub extra_from : ℕ → List Block → ℕ → Option ValueRefusal
extra_from known bs i = first_extra known (map values_in (drop i bs))

block_next : (bs : List Block) (i : ℕ) (b : Block) → IsAtPlace bs i b → drop i bs ≡ b ∷ drop (i + 1) bs
block_next bs i b at = drop-cons bs i b at.within ∙ ap (λ c. c ∷ drop (suc i) bs) (sym at.is) ∙ ap (λ j. b ∷ drop j bs) (sym (add-one i))

pub extra_here : (known : ℕ) (bs : List Block) (i : ℕ) (b : Block) → IsAtPlace bs i b → known ≤ b.number → extra_from known bs i ≡ Some (refusal Extra b.line)
extra_here known bs i b at le =
    ap (λ cs. first_extra known (map values_in cs)) (block_next bs i b at)
    ∙ ap (λ t. cond t (extra_from known bs (i + 1)) (Some (refusal Extra b.line))) (le-ltb b.number known le)

pub extra_later : (known : ℕ) (bs : List Block) (i : ℕ) (b : Block) → IsAtPlace bs i b → b.number < known → extra_from known bs i ≡ extra_from known bs (i + 1)
extra_later known bs i b at lt =
    ap (λ cs. first_extra known (map values_in cs)) (block_next bs i b at)
    ∙ ap (λ t. cond t (extra_from known bs (i + 1)) (Some (refusal Extra b.line))) (lt-ltb b.number known lt)

pub extra_none : (known : ℕ) (bs : List Block) (i : ℕ) → length bs ≤ i → extra_from known bs i ≡ None
extra_none known bs i le = ap (λ cs. first_extra known (map values_in cs)) (drop_all i bs le)

pub need_next : (bs : List Held) (needs : List Need) (i : ℕ) (n : Need) → i < length needs → n ≡ get_or needs i n
    → first_unmet bs (drop i needs) ≡ or_else (unmet (block_of bs n.number) n.count) (first_unmet bs (drop (i + 1) needs))
need_next bs needs i n lt is =
    ap (first_unmet bs) (drop-cons needs i n lt ∙ ap (λ m. m ∷ drop (suc i) needs) (sym is) ∙ ap (λ j. n ∷ drop j needs) (sym (add-one i)))

pub needs_end : (bs : List Held) (needs : List Need) (i : ℕ) → length needs ≤ i → first_unmet bs (drop i needs) ≡ None
needs_end bs needs i le = ap (first_unmet bs) (drop_all i needs le)
