-- A product has the sums of two pairs, and no more: it is the least set that has them
use Rattle.std.proofs.Common.{◌≡◌, ℕ, zero, suc, ◌+◌, Bool, true, false, refl, sym, ap, ◌∙◌, subst, arith}
use Rattle.ufl_form.specs.declared.pattern_set.Numbers.{Numbers}
use Rattle.ufl_form.specs.declared.pattern_set.PatternSet.{PatternSet}
use Rattle.ufl_form.specs.Patterns.{or, no_numbers, either, one_more, chosen, sums, united, test_added, trials_added, product}
use Rattle.ufl_form.specs.Pairs.{has_number, row, has_pair}

or_left : (a b : Bool) → a ≡ true → or a b ≡ true
or_left true b h = refl
or_left false b h = cc

or_right : (a b : Bool) → b ≡ true → or a b ≡ true
or_right true b h = refl
or_right false b h = h

or_least : (a b d : Bool) → or a b ≡ true → (a ≡ true → d ≡ true) → (b ≡ true → d ≡ true) → d ≡ true
or_least true b d h f g = f refl
or_least false b d h f g = g h

-- ---- numbers
has_left : (a b : Numbers) (k : ℕ) → has_number a k ≡ true → has_number (either a b) k ≡ true
has_left a b zero h = or_left a.zero b.zero h
has_left a b (suc zero) h = or_left a.one b.one h
has_left a b (suc (suc k)) h = or_left a.more b.more h

has_right : (a b : Numbers) (k : ℕ) → has_number b k ≡ true → has_number (either a b) k ≡ true
has_right a b zero h = or_right a.zero b.zero h
has_right a b (suc zero) h = or_right a.one b.one h
has_right a b (suc (suc k)) h = or_right a.more b.more h

either_least : (a b : Numbers) (k : ℕ) (d : Bool) → has_number (either a b) k ≡ true → (has_number a k ≡ true → d ≡ true) → (has_number b k ≡ true → d ≡ true) → d ≡ true
either_least a b zero d h f g = or_least a.zero b.zero d h f g
either_least a b (suc zero) d h f g = or_least a.one b.one d h f g
either_least a b (suc (suc k)) d h f g = or_least a.more b.more d h f g

has_more : (a : Numbers) (k : ℕ) → has_number a k ≡ true → has_number (one_more a) (suc k) ≡ true
has_more a zero h = h
has_more a (suc zero) h = or_left a.one a.more h
has_more a (suc (suc k)) h = or_right a.one a.more h

more_least : (a c : Numbers) → ((j : ℕ) → has_number a j ≡ true → has_number c (suc j) ≡ true) → (k : ℕ) → has_number (one_more a) k ≡ true → has_number c k ≡ true
more_least a c f zero h = cc
more_least a c f (suc zero) h = f 0 h
more_least a c f (suc (suc k)) h = or_least a.one a.more c.more h (f 1) (f 2)

has_chosen : (b : Bool) (a : Numbers) (k : ℕ) → b ≡ true → has_number a k ≡ true → has_number (chosen b a) k ≡ true
has_chosen true a k e h = h
has_chosen false a k e h = cc

chosen_least : (b : Bool) (a : Numbers) (k : ℕ) (d : Bool) → has_number (chosen b a) k ≡ true → (b ≡ true → has_number a k ≡ true → d ≡ true) → d ≡ true
chosen_least true a k d h f = f refl h
chosen_least false a zero d h f = cc
chosen_least false a (suc zero) d h f = cc
chosen_least false a (suc (suc k)) d h f = cc

-- the numbers one less, of which 2 and more come from 2 and more
one_less : Numbers → Numbers
one_less c = record { zero = c.one; one = c.more; more = c.more }

less_is : (c : Numbers) (j : ℕ) → has_number (one_less c) j ≡ has_number c (suc j)
unfolding one_less
less_is c zero = refl
less_is c (suc zero) = refl
less_is c (suc (suc j)) = refl

pub sums_has : (a b : Numbers) (m n k : ℕ) → k ≡ m + n → has_number a m ≡ true → has_number b n ≡ true → has_number (sums a b) k ≡ true
sums_has a b zero n k e h g =
    let is : n ≡ k = omega arith in
    subst (λ x. has_number (sums a b) x ≡ true) is (has_left (chosen a.zero b) (either (chosen a.one (one_more b)) (chosen a.more (one_more (one_more b)))) n (has_chosen a.zero b n h g))
sums_has a b (suc zero) n k e h g =
    let is : suc n ≡ k = omega arith in
    subst (λ x. has_number (sums a b) x ≡ true) is
    (has_right (chosen a.zero b) (either (chosen a.one (one_more b)) (chosen a.more (one_more (one_more b)))) (suc n) (has_left (chosen a.one (one_more b)) (chosen a.more (one_more (one_more b))) (suc n) (has_chosen a.one (one_more b) (suc n) h (has_more b n g))))
sums_has a b (suc (suc m)) n k e h g =
    let is : suc (suc (m + n)) ≡ k = omega arith in
    subst (λ x. has_number (sums a b) x ≡ true) is
    (has_right (chosen a.zero b) (either (chosen a.one (one_more b)) (chosen a.more (one_more (one_more b)))) (suc (suc n))
    (has_right (chosen a.one (one_more b)) (chosen a.more (one_more (one_more b))) (suc (suc n)) (has_chosen a.more (one_more (one_more b)) (suc (suc n)) h (has_more (one_more b) (suc n) (has_more b n g)))))

pub sums_least : (a b c : Numbers) → ((m n k : ℕ) → k ≡ m + n → has_number a m ≡ true → has_number b n ≡ true → has_number c k ≡ true)
    → (k : ℕ) → has_number (sums a b) k ≡ true → has_number c k ≡ true
sums_least a b c f k h =
    either_least (chosen a.zero b) _ k (has_number c k) h
    (λ x. chosen_least a.zero b k (has_number c k) x (λ p q. f 0 k k (omega arith) p q))
    (λ y. either_least (chosen a.one (one_more b)) _ k (has_number c k) y
    (λ x. chosen_least a.one (one_more b) k (has_number c k) x (λ p q. more_least b c (λ j r. f 1 j (suc j) (omega arith) p r) k q))
    (λ x. chosen_least a.more (one_more (one_more b)) k (has_number c k) x
    (λ p q. more_least (one_more b) c
    (λ i s. sym (less_is c i) ∙ more_least b (one_less c) (λ j r. less_is c (suc j) ∙ f 2 j (suc (suc j)) (omega arith) p r) i s) k q)))

-- ---- pairs
row_united : (a b : PatternSet) (m : ℕ) → row (united a b) m ≡ either (row a m) (row b m)
row_united a b zero = refl
row_united a b (suc zero) = refl
row_united a b (suc (suc m)) = refl

row_trials : (s : Numbers) (a : PatternSet) (m : ℕ) → row (trials_added s a) m ≡ sums s (row a m)
row_trials s a zero = refl
row_trials s a (suc zero) = refl
row_trials s a (suc (suc m)) = refl

pub pair_left : (a b : PatternSet) (m n : ℕ) → has_pair a m n ≡ true → has_pair (united a b) m n ≡ true
pair_left a b m n h = ap (λ r. has_number r n) (row_united a b m) ∙ has_left (row a m) (row b m) n h

pub pair_right : (a b : PatternSet) (m n : ℕ) → has_pair b m n ≡ true → has_pair (united a b) m n ≡ true
pair_right a b m n h = ap (λ r. has_number r n) (row_united a b m) ∙ has_right (row a m) (row b m) n h

pub united_least : (a b : PatternSet) (m n : ℕ) (d : Bool) → has_pair (united a b) m n ≡ true → (has_pair a m n ≡ true → d ≡ true) → (has_pair b m n ≡ true → d ≡ true) → d ≡ true
united_least a b m n d h f g = either_least (row a m) (row b m) n d (sym (ap (λ r. has_number r n) (row_united a b m)) ∙ h) f g

test_has : (a : PatternSet) (m n : ℕ) → has_pair a m n ≡ true → has_pair (test_added a) (suc m) n ≡ true
test_has a zero n h = h
test_has a (suc zero) n h = has_left a.one a.more n h
test_has a (suc (suc m)) n h = has_right a.one a.more n h

no_number : (n : ℕ) (d : Bool) → has_number no_numbers n ≡ true → d ≡ true
no_number zero d h = cc
no_number (suc zero) d h = cc
no_number (suc (suc n)) d h = cc

test_least : (a c : PatternSet) (n : ℕ) → ((i : ℕ) → has_pair a i n ≡ true → has_pair c (suc i) n ≡ true) → (m : ℕ) → has_pair (test_added a) m n ≡ true → has_pair c m n ≡ true
test_least a c n f zero h = no_number n _ h
test_least a c n f (suc zero) h = f 0 h
test_least a c n f (suc (suc m)) h = either_least a.one a.more n (has_number c.more n) h (f 1) (f 2)

trials_has : (s : Numbers) (a : PatternSet) (m j l n : ℕ) → n ≡ j + l → has_number s j ≡ true → has_pair a m l ≡ true → has_pair (trials_added s a) m n ≡ true
trials_has s a m j l n e h g = ap (λ r. has_number r n) (row_trials s a m) ∙ sums_has s (row a m) j l n e h g

trials_least : (s : Numbers) (a : PatternSet) (c : Numbers) (m : ℕ) → ((j l n : ℕ) → n ≡ j + l → has_number s j ≡ true → has_pair a m l ≡ true → has_number c n ≡ true)
    → (n : ℕ) → has_pair (trials_added s a) m n ≡ true → has_number c n ≡ true
trials_least s a c m f n h = sums_least s (row a m) c f n (sym (ap (λ r. has_number r n) (row_trials s a m)) ∙ h)

-- the pairs with one test function less
fewer : PatternSet → PatternSet
fewer c = record { zero = c.one; one = c.more; more = c.more }

fewer_is : (c : PatternSet) (k n : ℕ) → has_pair (fewer c) k n ≡ has_pair c (suc k) n
unfolding fewer
fewer_is c zero n = refl
fewer_is c (suc zero) n = refl
fewer_is c (suc (suc k)) n = refl

twice : (c : PatternSet) (k n : ℕ) (s : Numbers) (b : PatternSet) → ((i : ℕ) → has_pair (trials_added s b) i n ≡ true → has_pair c (suc (suc i)) n ≡ true)
    → has_pair (test_added (trials_added s b)) k n ≡ true → has_pair c (suc k) n ≡ true
twice c k n s b f h = sym (fewer_is c k n) ∙ test_least (trials_added s b) (fewer c) n (λ i r. fewer_is c (suc i) n ∙ f i r) k h

-- each sum of two pairs is in the product
pub product_has : (a b : PatternSet) (i j k l m n : ℕ) → m ≡ i + k → n ≡ j + l → has_pair a i j ≡ true → has_pair b k l ≡ true → has_pair (product a b) m n ≡ true
unfolding product
product_has a b zero j k l m n e d h g =
    let is : k ≡ m = omega arith in
    subst (λ x. has_pair (product a b) x n ≡ true) is (pair_left (trials_added a.zero b) (united (test_added (trials_added a.one b)) (test_added (test_added (trials_added a.more b)))) k n (trials_has a.zero b k j l n d h g))
product_has a b (suc zero) j k l m n e d h g =
    let is : suc k ≡ m = omega arith in
    subst (λ x. has_pair (product a b) x n ≡ true) is
    (pair_right (trials_added a.zero b) (united (test_added (trials_added a.one b)) (test_added (test_added (trials_added a.more b)))) (suc k) n (pair_left (test_added (trials_added a.one b)) (test_added (test_added (trials_added a.more b))) (suc k) n (test_has (trials_added a.one b) k n (trials_has a.one b k j l n d h g))))
product_has a b (suc (suc i)) j k l m n e d h g =
    let is : suc (suc (i + k)) ≡ m = omega arith in
    subst (λ x. has_pair (product a b) x n ≡ true) is
    (pair_right (trials_added a.zero b) (united (test_added (trials_added a.one b)) (test_added (test_added (trials_added a.more b)))) (suc (suc k)) n
    (pair_right (test_added (trials_added a.one b)) (test_added (test_added (trials_added a.more b))) (suc (suc k)) n
    (test_has (test_added (trials_added a.more b)) (suc k) n (test_has (trials_added a.more b) k n (trials_has a.more b k j l n d h g)))))

-- a set that has each sum of two pairs has all of the product
pub product_least : (a b c : PatternSet) → ((i j k l m n : ℕ) → m ≡ i + k → n ≡ j + l → has_pair a i j ≡ true → has_pair b k l ≡ true → has_pair c m n ≡ true)
    → (m n : ℕ) → has_pair (product a b) m n ≡ true → has_pair c m n ≡ true
unfolding product
product_least a b c f m n h =
    united_least (trials_added a.zero b) _ m n (has_pair c m n) h
    (λ x. trials_least a.zero b (row c m) m (λ j l o e p q. f 0 j m l m o (omega arith) e p q) n x)
    (λ y. united_least (test_added (trials_added a.one b)) _ m n (has_pair c m n) y
    (λ x. test_least (trials_added a.one b) c n (λ k r. trials_least a.one b (row c (suc k)) k (λ j l o e p q. f 1 j k l (suc k) o (omega arith) e p q) n r) m x)
    (λ x. test_least (test_added (trials_added a.more b)) c n (λ k r. twice c k n a.more b (λ i s. trials_least a.more b (row c (suc (suc i))) i (λ j l o e p q. f 2 j i l (suc (suc i)) o (omega arith) e p q) n s) r) m x))
