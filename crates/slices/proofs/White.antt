-- What lies before the next token is white, and behind it nothing more is
use Rattle.std.proofs.Common.{◌≡◌, refl, sym, ℕ, zero, suc, ◌+◌, ◌-◌, ◌≤◌, ◌<◌, Bool, true, false, ◌==◌, if◌then◌else◌, List, [], ◌∷◌, length, take, get_or, IsTrue, subst, arith}
use Rattle.slices.specs.White.{is_white, Rest, after_white}

abbrev IsBehind : List ℕ → ℕ → ℕ → Type 0
IsBehind bs from line = after_white (after_white bs from line).bytes (after_white bs from line).from (after_white bs from line).line ≡ after_white bs from line

behind_by : (t : Bool) (b : ℕ) (bs : List ℕ) (from line : ℕ) → is_white b ≡ t → ((f l : ℕ) → IsBehind bs f l) → IsBehind (b ∷ bs) from line
behind_by true b bs from line e more = rw e (more (from + 1) (if b == 10 then line + 1 else line))
behind_by false b bs from line e more = rw e (rw e refl)

pub behind_white : (bs : List ℕ) (from line : ℕ) → IsBehind bs from line
behind_white [] from line = refl
behind_white (b ∷ bs) from line = behind_by (is_white b) b bs from line refl (λ f l. behind_white bs f l)

abbrev Rises : List ℕ → ℕ → ℕ → Type 0
Rises bs from line = from ≤ (after_white bs from line).from

rises_by : (t : Bool) (b : ℕ) (bs : List ℕ) (from line : ℕ) → is_white b ≡ t → ((f l : ℕ) → Rises bs f l) → Rises (b ∷ bs) from line
rises_by true b bs from line e more = rw e (let h : Rises bs (from + 1) (if b == 10 then line + 1 else line) = more (from + 1) (if b == 10 then line + 1 else line) in omega (arith, h))
rises_by false b bs from line e more = rw e (omega arith)

pub rises : (bs : List ℕ) (from line : ℕ) → Rises bs from line
rises [] from line = omega arith
rises (b ∷ bs) from line = rises_by (is_white b) b bs from line refl (λ f l. rises bs f l)

abbrev IsGap : ℕ → List ℕ → Type 0
IsGap n bs = (k d : ℕ) → k < length (take n bs) → IsTrue (is_white (get_or (take n bs) k d))

one_more : (n b : ℕ) (bs : List ℕ) → is_white b ≡ true → IsGap n bs → IsGap (suc n) (b ∷ bs)
one_more n b bs e g zero d h = e
one_more n b bs e g (suc k) d h = g k d (omega (arith, h))

none : (bs : List ℕ) → IsGap 0 bs
none bs k d h = absurd (omega (arith, h))

no_bytes : (n : ℕ) → IsGap n []
no_bytes zero k d h = absurd (omega (arith, h))
no_bytes (suc n) k d h = absurd (omega (arith, h))

gap_by : (t : Bool) (b : ℕ) (bs : List ℕ) (from line : ℕ) → is_white b ≡ t → ((f l : ℕ) → IsGap ((after_white bs f l).from - f) bs)
    → IsGap ((after_white (b ∷ bs) from line).from - from) (b ∷ bs)
gap_by true b bs from line e more =
    let l : ℕ = if b == 10 then line + 1 else line in
    let r : Rises bs (from + 1) l = rises bs (from + 1) l in
    let n : (after_white bs (from + 1) l).from - from ≡ suc ((after_white bs (from + 1) l).from - (from + 1)) = omega (arith, r) in
    rw e (subst (λ m. IsGap m (b ∷ bs)) (sym n) (one_more ((after_white bs (from + 1) l).from - (from + 1)) b bs e (more (from + 1) l)))
gap_by false b bs from line e more =
    let n : from - from ≡ 0 = omega arith in
    rw e (subst (λ m. IsGap m (b ∷ bs)) (sym n) (none (b ∷ bs)))

-- what is gone over is white
pub white_gap : (bs : List ℕ) (from line : ℕ) → IsGap ((after_white bs from line).from - from) bs
white_gap [] from line = no_bytes (from - from)
white_gap (b ∷ bs) from line = gap_by (is_white b) b bs from line refl (λ f l. white_gap bs f l)

pub white_gap_at : (bs : List ℕ) (from line : ℕ) (q : Rest) → after_white bs from line ≡ q → (k d : ℕ) → k < length (take (q.from - from) bs) → IsTrue (is_white (get_or (take (q.from - from) bs) k d))
white_gap_at bs from line q e = subst (λ r. IsGap (r.from - from) bs) e (white_gap bs from line)
