-- Greater numbers have a greater room, and bounds on all numbers of a mesh and its data bound those of each cell
use Rattle.std.proofs.Common.{◌≡◌, ℕ, zero, suc, ◌+◌, ◌-◌, ◌*◌, ◌/◌, ◌<◌, ◌≤◌, max, refl, sym, ◌∙◌, ap, subst, arith, unsigned_abs, List, [], ◌∷◌, map}
use Rattle.std.specs.List.{AllByRecursion}
use Prim.Native.Nat.{◌∣◌}
use Rattle.std.proofs.lemmas.Nat.{le-div}
use native.Mathlib.Nat as N
use Rattle.algebra.specs.Fraction.{Fraction, add, negative}
use Rattle.algebra.specs.Gcd.{gcd}
use Rattle.algebra.specs.GcdLaws.{divides_other, coprime_parts, gcd_positive_left, part_left, part_right}
use Rattle.algebra.specs.LowestTerms.{top, bottom}
use Rattle.algebra.proofs.LowestLaws.{bottom_positive}
use Rattle.calculus.specs.Simplex.{Simplex, along_axis}
use Rattle.calculus.specs.Jacobian.{vertex_at}
use Rattle.algebra.specs.Over.{Over}
use Rattle.weigh.specs.Refusals.{lcd, size}
use Rattle.monos.specs.declared.weight.Weight.{Weight}
use Rattle.room.specs.Room.{common_bottom, greatest_top, coordinates, differences, differences_from, numbers_of, numbers_at, cofactor_at, volume_at, geometric, greatest, depth, room}
use Rattle.room.specs.declared.numbers.CellNumbers.{CellNumbers}
use Rattle.refint.specs.Local.{numbers_below}
use Rattle.weigh.specs.Numerators.{size_over}
use Rattle.weigh.specs.Steps.{lcm}
use Rattle.room.specs.Numbered.{AllOver}
use Rattle.algebra.proofs.OverLaws.{over_difference, over_same}
use Rattle.room.proofs.WeightLaws.{all_bottoms}
use Rattle.weigh.proofs.NumeratorLaws.{over_size}
use Rattle.room.proofs.Lists.{all_of_vertices, all_below, all_vertices}

-- each number at most the other's
pub record AreAtMost (a b : CellNumbers) : Type 0 where
  pub d : a.d ≡ b.d
  pub dd : a.dd ≤ b.dd
  pub j : a.j ≤ b.j
  pub m : a.m ≤ b.m
  pub nw : a.nw ≤ b.nw
  pub dw : a.dw ≤ b.dw

cofactor_grows : (d i j : ℕ) → i ≤ j → cofactor_at i d ≤ cofactor_at j d
cofactor_grows zero i j h = N.le_refl 1
cofactor_grows (suc zero) i j h = N.le_refl 1
cofactor_grows (suc (suc zero)) i j h = h
cofactor_grows (suc (suc (suc d))) i j h = N.mul-le-mul (N.mul-le-mul_left 2 h) h

volume_grows : (d i j : ℕ) → i ≤ j → volume_at i d ≤ volume_at j d
volume_grows zero i j h = N.le_refl 1
volume_grows (suc zero) i j h = h
volume_grows (suc (suc zero)) i j h = N.mul-le-mul (N.mul-le-mul_left 2 h) h
volume_grows (suc (suc (suc d))) i j h = N.mul-le-mul (N.mul-le-mul (N.mul-le-mul_left 6 h) h) h

greatest_grows : (f g : ℕ → ℕ) → ((k : ℕ) → f k ≤ g k) → (r n : ℕ) → greatest f r n ≤ greatest g r n
greatest_grows f g h r zero = h r
greatest_grows f g h r (suc n) = both (f r) (g r) (greatest f (suc r) n) (greatest g (suc r) n) (h r) (greatest_grows f g h (suc r) n)
  where
    both : (a b c e : ℕ) → a ≤ b → c ≤ e → max a c ≤ max b e
    both a b c e h g = omega arith

room_at : Weight → ℕ → ℕ → ℕ → ℕ → ℕ → ℕ → ℕ
room_at w d dd j m nw dw = room w (record { d = d; dd = dd; j = j; m = m; nw = nw; dw = dw })

grows : (w : Weight) (d dd j m nw dw dd' j' m' nw' dw' : ℕ) → dd ≤ dd' → j ≤ j' → m ≤ m' → nw ≤ nw' → dw ≤ dw' → room_at w d dd j m nw dw ≤ room_at w d dd' j' m' nw' dw'
unfolding room room_at
grows w d dd j m nw dw dd' j' m' nw' dw' hdd hj hm hnw hdw =
    together _ _ _ _ _ _ _ _
    (N.mul-le-mul
    (N.mul-le-mul_left (size d w) (N.pow-le-pow_left (N.mul-le-mul hnw hdw) w.f))
    (greatest_grows (geometric (cofactor_at j d) (volume_at j d) dd (depth w)) (geometric (cofactor_at j' d) (volume_at j' d) dd' (depth w))
    (λ r. N.mul-le-mul (N.mul-le-mul (N.pow-le-pow_left (cofactor_grows d j j' hj) r) (N.pow-le-pow_left (volume_grows d j j' hj) (depth w - r))) (N.pow-le-pow_left hdd r)) w.rmin (w.rmax - w.rmin)))
    (N.mul-le-mul (N.mul-le-mul (N.mul-le-mul_left (lcd d w) (N.pow-le-pow_left (volume_grows d j j' hj) (depth w - 1))) (N.pow-le-pow_left hdd d)) (N.pow-le-pow_left hdw w.f))
    (N.mul-le-mul (volume_grows d j j' hj) (N.pow-le-pow_left hdd d))
    hm
  where
    together : (p q s m p' q' s' m' : ℕ) → p ≤ p' → q ≤ q' → s ≤ s' → m ≤ m' → 1024 * max (max p q) (max s m) ≤ 1024 * max (max p' q') (max s' m')
    together p q s m p' q' s' m' a b c e = omega arith

pub room_grows : (w : Weight) (a b : CellNumbers) → AreAtMost a b → room w a ≤ room w b
unfolding room_at
room_grows w a b h =
    subst (λ d. room_at w a.d a.dd a.j a.m a.nw a.dw ≤ room_at w d b.dd b.j b.m b.nw b.dw) h.d
    (grows w a.d a.dd a.j a.m a.nw a.dw b.dd b.j b.m b.nw b.dw h.dd h.j h.m h.nw h.dw)

-- ---- the least common multiple divides each common multiple
pub lcm_least : (a b n : ℕ) → 0 < a → a ∣ n → b ∣ n → lcm a b ∣ n
lcm_least a b n s h g =
    let q = n / b in
    let whole : b * q ≡ n = N.mul-div_cancel' b g in
    let step : a / gcd a b ∣ b / gcd a b * q =
    N.dvd_of_mul-dvd-mul_left (a / gcd a b) (gcd_positive_left a b s)
    (subst (λ k. k ∣ gcd a b * (b / gcd a b * q)) (part_left a b)
    (subst (λ k. a ∣ k) (sym whole ∙ ap (λ k. k * q) (part_right a b) ∙ N.mul_assoc (gcd a b) (b / gcd a b) q) h)) in
    subst (λ k. k ∣ n) (N.mul_comm b (a / gcd a b))
    (subst (λ k. b * (a / gcd a b) ∣ k) whole
    (N.mul-dvd-mul_left (a / gcd a b) b
    (divides_other (a / gcd a b) (b / gcd a b) q (coprime_parts a b (a / gcd a b) (b / gcd a b) (gcd_positive_left a b s) (part_left a b) (part_right a b)) step)))

common_least : (n : ℕ) (xs : List Fraction) → AllByRecursion (λ x. bottom x ∣ n) xs → common_bottom xs ∣ n
common_least n [] h = N.one-dvd n
common_least n (x ∷ xs) h = lcm_least (bottom x) (common_bottom xs) n (bottom_positive x) h.0 (common_least n xs h.1)

quotient_grows : (k l n : ℕ) → 0 < k → l ≤ n → l / k ≤ n / k
quotient_grows k l n s h = le-div (l / k) n k s (N.le_trans (N.div-mul-le_self l k) h)

top_below : (l n b : ℕ) (xs : List Fraction) → l ≤ n → 0 < b → AllOver n b xs → greatest_top l xs ≤ b
top_below l n b [] h s o = s
top_below l n b (x ∷ xs) h s o =
    both (size_over l x) (greatest_top l xs) b (N.le_trans (N.mul-le-mul_left (unsigned_abs (top x)) (quotient_grows (bottom x) l n (bottom_positive x) h)) (over_size n b x o.0)) (top_below l n b xs h s o.1)
  where
    both : (x y b : ℕ) → x ≤ b → y ≤ b → max x y ≤ b
    both x y b h g = omega arith

common_below : (n b : ℕ) (xs : List Fraction) → 0 < n → AllOver n b xs → common_bottom xs ≤ n
common_below n b xs s o = N.le_of_dvd s (common_least n xs (all_bottoms n b xs o))

all_differences : (d : ℕ) (v : Simplex) (n b : ℕ) → AllOver n b (coordinates d v) → AllOver n (2 * b) (differences d v)
all_differences d v n b o =
    all_vertices (Over n (2 * b)) (differences_from d v) v
    (λ k h. all_vertices (Over n (2 * b)) (λ q. map (λ i. add (along_axis i (vertex_at v k)) (negative (along_axis i q))) (numbers_below d)) v
    (λ l g. all_below (Over n (2 * b)) (λ i. add (along_axis i (vertex_at v k)) (negative (along_axis i (vertex_at v l)))) d
    (λ i f. over_same n (b + b) n (2 * b) (add (along_axis i (vertex_at v k)) (negative (along_axis i (vertex_at v l)))) refl (twice b)
    (over_difference n b b (along_axis i (vertex_at v k)) (along_axis i (vertex_at v l)) (all_of_vertices (Over n b) d v (λ p i. along_axis i p) k i h f o) (all_of_vertices (Over n b) d v (λ p i. along_axis i p) l i g f o)))))
  where
    twice : (b : ℕ) → b + b ≡ 2 * b
    twice b = omega arith

-- multiples of 1/den, of absolute value at most m/den: no cell has greater numbers
pub numbers_below_all : (d den m : ℕ) (v : Simplex) (w : List Fraction) → 0 < den → 0 < m → AllOver den m (coordinates d v) → AllOver den m w → AreAtMost (numbers_of d v w) (numbers_at d den m)
numbers_below_all d den m v w s g o p =
    let n = common_bottom (coordinates d v) in
    let below : n ≤ den = common_below den m (coordinates d v) s o in
    record {
      d = refl;
      dd = below;
      j = top_below n den (2 * m) (differences d v) below (N.mul-pos (N.zero-lt-suc 1) g) (all_differences d v den m o);
      m = top_below n den m (coordinates d v) below g o;
      nw = top_below (common_bottom w) den m w (common_below den m w s p) g p;
      dw = common_below den m w s p;
    }

pub room_of_all : (w : Weight) (d den m : ℕ) (v : Simplex) (values : List Fraction) → 0 < den → 0 < m → AllOver den m (coordinates d v) → AllOver den m values
    → room w (numbers_of d v values) ≤ room w (numbers_at d den m)
room_of_all w d den m v values s g o p = room_grows w (numbers_of d v values) (numbers_at d den m) (numbers_below_all d den m v values s g o p)
