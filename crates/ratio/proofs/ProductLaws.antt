-- How the reduced product is found
use Rattle.std.proofs.Common.{◌≡◌, ℕ, ℤ, pos, negsuc, suc, ◌*◌, ◌/◌, ◌<◌, ◌^◌, ◌*ℤ◌, neg_ℤ, refl, sym, ◌∙◌, ap, ap₂, subst, subst₂, arith, unsigned_abs, ◌↔◌, Option, None, Some, IsSome, IfSome, Bool, is_some, true, false, to_z, of_z, to_z-of_z, SFits, [], ◌∷◌}
use Rattle.std.specs.Int.{w128}
use Rattle.std.proofs.lemmas.Int.{unsigned_abs-mul, fits_signed_from_abs}
use native.Mathlib.Nat as N
use Rattle.algebra.specs.Gcd.{gcd}
use Rattle.ratio.specs.Value.{pair_of, fraction_of}
use Rattle.ratio.specs.Parts.{Fits}
use Rattle.algebra.specs.Sign.{signed, signs_differ}
use Rattle.algebra.proofs.Signs.{signed-mul}
use Rattle.ratio.specs.declared.reduced.Ratio.{Ratio}
use Rattle.algebra.specs.Integers.{integers}
use Rattle.algebra.specs.Solver.{at, ◌⊗◌, minus}
use Rattle.algebra.specs.Sound.{ring}
use Rattle.algebra.specs.Fraction.{same, pair_product, mul as times}
use Rattle.algebra.specs.GcdLaws.{IsCoprime, coprime_from_gcd, gcd_from_coprime, gcd_of_product, gcd_of_multiples, coprime_parts, gcd_positive_right, part_left, part_right, positive_part}

-- the product of a/b and c/e in lowest terms, each by its parts
pub record Product (a b c e : ℕ) : Type 0 where
  pub positive : 0 < b / gcd c b * (e / gcd a e)
  pub lowest : gcd (a / gcd a e * (c / gcd c b)) (b / gcd c b * (e / gcd a e)) ≡ 1
  pub top : a * c / gcd (a * c) (b * e) ≡ a / gcd a e * (c / gcd c b)
  pub bottom : b * e / gcd (a * c) (b * e) ≡ b / gcd c b * (e / gcd a e)
  pub cross : a / gcd a e * (c / gcd c b) * (b * e) ≡ a * c * (b / gcd c b * (e / gcd a e))

parts : (a b c e g h x y u v : ℕ) → 0 < g → 0 < h → a ≡ g * x → e ≡ g * y → c ≡ h * u → b ≡ h * v → IsCoprime (x * u) (v * y)
    → (gcd (a * c) (b * e) ≡ g * h) × (a * c ≡ g * h * (x * u)) × (b * e ≡ g * h * (v * y))
parts a b c e g h x y u v sg sh pa pe pc pb k =
    let top : a * c ≡ g * h * (x * u) = ap₂ ◌*◌ pa pc ∙ turn g x h u in
    let bottom : b * e ≡ g * h * (v * y) = ap₂ ◌*◌ pb pe ∙ turn h v g y ∙ ap (λ n. n * (v * y)) (N.mul_comm h g) in
    (ap₂ gcd top bottom ∙ gcd_of_multiples (g * h) (x * u) (v * y) k, top, bottom)
  where
    turn : (g x h u : ℕ) → g * x * (h * u) ≡ g * h * (x * u)
    turn g x h u = omega arith

pub quotient : (n g k : ℕ) → 0 < g → n ≡ g * k → n / g ≡ k
quotient n g k h e = ap (λ m. m / g) e ∙ N.mul-div_cancel_left k h

pub product_reduced : (a b c e : ℕ) → 0 < b → 0 < e → gcd a b ≡ 1 → gcd c e ≡ 1 → Product a b c e
product_reduced a b c e sb se hab hce =
    let sg = gcd_positive_right a e se in
    let sh = gcd_positive_right c b sb in
    let k = gcd_of_product a b c e (a / gcd a e) (e / gcd a e) (c / gcd c b) (b / gcd c b) (coprime_from_gcd a b hab) (coprime_from_gcd c e hce) sg sh (part_left a e) (part_right a e) (part_left c b) (part_right c b) in
    let p = parts a b c e (gcd a e) (gcd c b) (a / gcd a e) (e / gcd a e) (c / gcd c b) (b / gcd c b) sg sh (part_left a e) (part_right a e) (part_left c b) (part_right c b) k in
    record {
      positive = N.mul-pos (positive_part (gcd c b) (b / gcd c b) b sb (part_right c b)) (positive_part (gcd a e) (e / gcd a e) e se (part_right a e));
      lowest = gcd_from_coprime _ _ k;
      top = quotient (a * c) (gcd (a * c) (b * e)) (a / gcd a e * (c / gcd c b)) (subst (λ n. 0 < n) (sym p.0) (N.mul-pos sg sh)) (p.1 ∙ ap (λ n. n * (a / gcd a e * (c / gcd c b))) (sym p.0));
      bottom = quotient (b * e) (gcd (a * c) (b * e)) (b / gcd c b * (e / gcd a e)) (subst (λ n. 0 < n) (sym p.0) (N.mul-pos sg sh)) (p.2 ∙ ap (λ n. n * (b / gcd c b * (e / gcd a e))) (sym p.0));
      cross = across (a / gcd a e * (c / gcd c b)) (b / gcd c b * (e / gcd a e)) (gcd a e * gcd c b) (a * c) (b * e) p.1 p.2;
    }
  where
    across : (x y k n m : ℕ) → n ≡ k * x → m ≡ k * y → x * m ≡ n * y
    across x y k n m p q = ap (λ j. x * j) q ∙ turn x y k ∙ ap (λ j. j * y) (sym p)
      where
        turn : (x y k : ℕ) → x * (k * y) ≡ k * x * y
        turn x y k = omega arith

-- what the code's numbers say: a and c are the sizes of n and m, g and h the common divisors across
pub record Found (n m : ℤ) (b e : ℕ) (top bottom : ℕ) : Type 0 where
  pub positive : 0 < bottom
  pub lowest : gcd top bottom ≡ 1
  pub fits : Fits (unsigned_abs (n *ℤ m)) (b * e) ↔ ((top < 2 ^ 127) × (bottom < 2 ^ 127))
  pub cross : top * (b * e) ≡ unsigned_abs n * unsigned_abs m * bottom

pub found : (n m : ℤ) (b e a c g h : ℕ) → 0 < b → 0 < e → gcd (unsigned_abs n) b ≡ 1 → gcd (unsigned_abs m) e ≡ 1
    → a ≡ unsigned_abs n → c ≡ unsigned_abs m → g ≡ gcd a e → h ≡ gcd c b → Found n m b e (a / g * (c / h)) (b / h * (e / g))
found n m b e a c g h sb se hn hm ea ec eg eh =
    let eg' : g ≡ gcd (unsigned_abs n) e = eg ∙ ap (λ k. gcd k e) ea in
    let eh' : h ≡ gcd (unsigned_abs m) b = eh ∙ ap (λ k. gcd k b) ec in
    let top : unsigned_abs n / gcd (unsigned_abs n) e * (unsigned_abs m / gcd (unsigned_abs m) b) ≡ a / g * (c / h) = sym (ap₂ ◌*◌ (ap₂ ◌/◌ ea eg') (ap₂ ◌/◌ ec eh')) in
    let bottom : b / gcd (unsigned_abs m) b * (e / gcd (unsigned_abs n) e) ≡ b / h * (e / g) = sym (ap₂ ◌*◌ (ap (λ k. b / k) eh') (ap (λ k. e / k) eg')) in
    subst₂ (Found n m b e) top bottom (plain n m b e sb se hn hm)
  where
    plain : (n m : ℤ) (b e : ℕ) → 0 < b → 0 < e → gcd (unsigned_abs n) b ≡ 1 → gcd (unsigned_abs m) e ≡ 1
        → Found n m b e (unsigned_abs n / gcd (unsigned_abs n) e * (unsigned_abs m / gcd (unsigned_abs m) b)) (b / gcd (unsigned_abs m) b * (e / gcd (unsigned_abs n) e))
    plain n m b e sb se hn hm =
        let p = product_reduced (unsigned_abs n) b (unsigned_abs m) e sb se hn hm in
        let t = ap (λ k. k / gcd k (b * e)) (unsigned_abs-mul n m) ∙ p.top in
        let u = ap (λ k. b * e / gcd k (b * e)) (unsigned_abs-mul n m) ∙ p.bottom in
        record {
          positive = p.positive;
          lowest = p.lowest;
          fits = (λ f. (subst (λ k. k < 2 ^ 127) t f.0, subst (λ k. k < 2 ^ 127) u f.1), λ f. (subst (λ k. k < 2 ^ 127) (sym t) f.0, subst (λ k. k < 2 ^ 127) (sym u) f.1));
          cross = p.cross;
        }

-- None, where what is asked cannot hold
pub none_where : {A : Type 0} {P : Type 0} (r : Option A) → r ≡ None → ¬ P → IsSome r ↔ P
none_where r e n = (λ s. absurd (no_value (sym s ∙ ap is_some e)), λ p. absurd (n p))
  where
    no_value : true ≡ false → ⊥
    no_value s = cc

-- a size that was taken of a number as it is passed
pub plain_size : (n : ℤ) (a : ℕ) → unsigned_abs n < 2 ^ 127 → a ≡ unsigned_abs (to_z w128 (of_z w128 n)) → a ≡ unsigned_abs n
plain_size n a h e = e ∙ ap unsigned_abs (to_z-of_z (fits_signed_from_abs w128 n h))

pub below_limit : (n : ℕ) → n < 2 ^ 127 → n < 2 ^ 128
below_limit n h = omega arith

pub plain_integer : (n : ℤ) → unsigned_abs n < 2 ^ 127 → to_z w128 (of_z w128 n) ≡ n
plain_integer n h = to_z-of_z (fits_signed_from_abs w128 n h)

product_sign : (n m : ℤ) → n *ℤ m ≡ signed (signs_differ n m) (unsigned_abs n * unsigned_abs m)
product_sign (pos a) (pos b) = refl
product_sign (pos a) (negsuc b) = refl
product_sign (negsuc a) (pos b) = refl
product_sign (negsuc a) (negsuc b) = refl

-- what was built has the product's value
pub built_product : (r x y : Ratio) (s : Bool) (top bottom : ℕ) → s ≡ signs_differ x.n y.n → (r.n ≡ signed s top) × (r.d ≡ bottom)
    → top * (x.d * y.d) ≡ unsigned_abs x.n * unsigned_abs y.n * bottom → fraction_of r ≡ times (fraction_of x) (fraction_of y)
unfolding fraction_of times
built_product r x y s top bottom es (en, ed) h =
    same (pair_of r) (pair_product (pair_of x) (pair_of y))
    (ap (λ z. z *ℤ pos (x.d * y.d)) en
    ∙ signed-mul s top (x.d * y.d)
    ∙ ap (signed s) h
    ∙ sym (signed-mul s (unsigned_abs x.n * unsigned_abs y.n) bottom)
    ∙ ap₂ (λ z k. z *ℤ pos k) (ap (λ t. signed t (unsigned_abs x.n * unsigned_abs y.n)) es ∙ sym (product_sign x.n y.n)) (sym ed))

pub value_where : {A : Type 0} (r : Option A) (P Q : A → Type 0) → IfSome r P → ((x : A) → P x → Q x) → IfSome r Q
value_where None P Q p f = p
value_where (Some x) P Q p f = f x p

-- ---- a pair in lowest terms
pub record Lowest (a b g : ℕ) : Type 0 where
  pub positive : 0 < b / g
  pub lowest : gcd (a / g) (b / g) ≡ 1
  pub cross : a / g * b ≡ a * (b / g)

pub lowest_terms : (a b g : ℕ) → 0 < b → g ≡ gcd a b → Lowest a b g
lowest_terms a b g sb e =
    let sg : 0 < gcd a b = gcd_positive_right a b sb in
    subst (Lowest a b) (sym e) (record {
      positive = positive_part (gcd a b) (b / gcd a b) b sb (part_right a b);
      lowest = gcd_from_coprime _ _ (coprime_parts a b (a / gcd a b) (b / gcd a b) sg (part_left a b) (part_right a b));
      cross = across (a / gcd a b) (b / gcd a b) (gcd a b) a b (part_left a b) (part_right a b);
    })
  where
    across : (x y k n m : ℕ) → n ≡ k * x → m ≡ k * y → x * m ≡ n * y
    across x y k n m p q = ap (λ j. x * j) q ∙ turn x y k ∙ ap (λ j. j * y) (sym p)
      where
        turn : (x y k : ℕ) → x * (k * y) ≡ k * x * y
        turn x y k = omega arith

pub signed_cross : (n d : ℤ) (x y : ℕ) → x * unsigned_abs d ≡ unsigned_abs n * y → signed (signs_differ n d) x *ℤ d ≡ n *ℤ pos y
signed_cross (pos a) (pos b) x y h = ap pos h
signed_cross (pos a) (negsuc b) x y h = ring integers (pos x ∷ pos (suc b) ∷ []) (minus (at 0) ⊗ minus (at 1)) (at 0 ⊗ at 1) refl ∙ ap pos h
signed_cross (negsuc a) (pos b) x y h = signed-mul true x b ∙ ap (signed true) h ∙ sym (signed-mul true (suc a) y)
signed_cross (negsuc a) (negsuc b) x y h = ap (λ k. neg_ℤ (pos k)) h

pub plain_number : (n : ℤ) (a : ℕ) → SFits w128 n → a ≡ unsigned_abs (to_z w128 (of_z w128 n)) → a ≡ unsigned_abs n
plain_number n a h e = e ∙ ap unsigned_abs (to_z-of_z h)
