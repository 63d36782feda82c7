-- The fraction of two parts in lowest terms
use Rattle.std.specs.Prelude.{◌≡◌, refl, ℕ, ◌<◌, ◌^◌, Bool, true, false, ◌&&◌, ◌||◌, not, ◌==◌, nat_lt, nat_le, Option, Some, None}
use Rattle.std.proofs.Common.{ap, sym, ◌∙◌, subst, ltb-true}
use Rattle.std.proofs.lemmas.Bool.{eqb-true}
use Rattle.algebra.specs.Gcd.{gcd}
use Rattle.algebra.specs.Sign.{signed}
use Rattle.algebra.proofs.Signs.{size_of_signed}
use Rattle.ratio.specs.declared.reduced.Ratio.{Ratio}

-- both parts are below 2^127, the second is not 0, they have no common divisor, and it is no negative zero
abbrev pub is_lowest : Bool → ℕ → ℕ → Bool
is_lowest negative n d = nat_lt 0 d && (nat_lt n (2 ^ 127) && (nat_lt d (2 ^ 127) && (gcd n d == 1 && not (negative && n == 0))))

-- one of the tests fails, the one on a common divisor aside
unfoldable pub is_out : Bool → ℕ → ℕ → Bool
is_out negative n d = d == 0 || (nat_le (2 ^ 127) n || (nat_le (2 ^ 127) d || (negative && n == 0)))

pub first : (a b : Bool) → (a && b) ≡ true → a ≡ true
first true b e = refl
first false b e = e

pub second : (a b : Bool) → (a && b) ≡ true → b ≡ true
second true b e = e
second false true e = refl
second false false e = e

-- each part keeps what a ratio promises
abbrev pub lowest_ratio : (negative : Bool) (n d : ℕ) → is_lowest negative n d ≡ true → Ratio
lowest_ratio negative n d e =
    let rest = second _ _ e in
    let more = second _ _ rest in
    record {
      n = signed negative n;
      d = d;
      positive = ltb-true 0 d (first _ _ e);
      small = ltb-true d (2 ^ 127) (first _ _ more);
      fits = subst (λ k. k < 2 ^ 127) (sym (size_of_signed negative n)) (ltb-true n (2 ^ 127) (first _ _ rest));
      lowest = ap (λ k. gcd k d) (size_of_signed negative n) ∙ eqb-true (gcd n d) 1 (first _ _ (second _ _ more));
    }

unfoldable pub lowest_by : (negative : Bool) (n d : ℕ) (t : Bool) → is_lowest negative n d ≡ t → Option Ratio
lowest_by negative n d false e = None
lowest_by negative n d true e = Some (lowest_ratio negative n d e)

unfoldable pub fraction_from : Bool → ℕ → ℕ → Option Ratio
fraction_from negative n d = lowest_by negative n d (is_lowest negative n d) refl
