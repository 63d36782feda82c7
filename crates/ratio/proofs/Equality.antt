-- Two ratios are equal exactly where their values are
use Rattle.std.proofs.Common.{◌≡◌, ℕ, ℤ, ◌<◌, ◌^◌, sym, ◌∙◌, ap, subst, unsigned_abs}
use native.Mathlib.Nat.{ℕ_set}
use Rattle.std.proofs.Math.Bridge.{le_prop}
use Rattle.algebra.specs.Gcd.{gcd}
use Rattle.algebra.specs.LowestTerms.{top, bottom}
use Rattle.ratio.specs.declared.reduced.Ratio.{Ratio}
use Rattle.ratio.specs.Value.{fraction_of}
use Rattle.ratio.proofs.Reading.{top_reads, bottom_reads}

below_prop : {a b : ℕ} → IsProp (a < b)
below_prop = le_prop

-- what makes a pair a ratio has one proof
same_proofs : (n : ℤ) (d : ℕ) (p p' : 0 < d) (s s' : d < 2 ^ 127) (f f' : unsigned_abs n < 2 ^ 127) (l l' : gcd (unsigned_abs n) d ≡ 1)
    → ◌≡◌ {A = Ratio} (record { n = n; d = d; positive = p; small = s; fits = f; lowest = l }) (record { n = n; d = d; positive = p'; small = s'; fits = f'; lowest = l' })
same_proofs n d p p' s s' f f' l l' =
    ap (λ x. record { n = n; d = d; positive = x; small = s; fits = f; lowest = l }) (below_prop p p')
    ∙ ap (λ x. record { n = n; d = d; positive = p'; small = x; fits = f; lowest = l }) (below_prop s s')
    ∙ ap (λ x. record { n = n; d = d; positive = p'; small = s'; fits = x; lowest = l }) (below_prop f f')
    ∙ ap (λ x. record { n = n; d = d; positive = p'; small = s'; fits = f'; lowest = x }) (ℕ_set _ _ l l')

same_tops : (n m : ℤ) (d : ℕ) (p p' : 0 < d) (s s' : d < 2 ^ 127) (f : unsigned_abs n < 2 ^ 127) (l : gcd (unsigned_abs n) d ≡ 1) → n ≡ m → (f' : unsigned_abs m < 2 ^ 127) (l' : gcd (unsigned_abs m) d ≡ 1)
    → ◌≡◌ {A = Ratio} (record { n = n; d = d; positive = p; small = s; fits = f; lowest = l }) (record { n = m; d = d; positive = p'; small = s'; fits = f'; lowest = l' })
same_tops n m d p p' s s' f l e =
    let P : ℤ → Type 0 = λ z. (f' : unsigned_abs z < 2 ^ 127) (l' : gcd (unsigned_abs z) d ≡ 1)
    → ◌≡◌ {A = Ratio} (record { n = n; d = d; positive = p; small = s; fits = f; lowest = l }) (record { n = z; d = d; positive = p'; small = s'; fits = f'; lowest = l' }) in
    subst P e (λ f' l'. same_proofs n d p p' s s' f f' l l')

pub same_parts : (a b : Ratio) → a.n ≡ b.n → a.d ≡ b.d → a ≡ b
same_parts a b e g =
    let P : ℕ → Type 0 = λ d. (p' : 0 < d) (s' : d < 2 ^ 127) (l' : gcd (unsigned_abs b.n) d ≡ 1)
    → ◌≡◌ {A = Ratio} (record { n = a.n; d = a.d; positive = a.positive; small = a.small; fits = a.fits; lowest = a.lowest }) (record { n = b.n; d = d; positive = p'; small = s'; fits = b.fits; lowest = l' }) in
    subst P g (λ p' s' l'. same_tops a.n b.n a.d a.positive p' a.small s' a.fits a.lowest e b.fits l') b.positive b.small b.lowest

pub same_ratio : (a b : Ratio) → fraction_of a ≡ fraction_of b → a ≡ b
same_ratio a b e = same_parts a b (sym (top_reads a) ∙ ap top e ∙ top_reads b) (sym (bottom_reads a) ∙ ap bottom e ∙ bottom_reads b)

pub same_value : (a b : Ratio) → a ≡ b → fraction_of a ≡ fraction_of b
same_value a b e = ap fraction_of e
