use Rattle.std.proofs.Common.{◌≡◌, ℕ, ◌∙◌, sym, subst}
use Prim.Native.Nat.{◌∣◌}
use Rattle.algebra.specs.Gcd.{gcd}
use Rattle.algebra.specs.GcdLaws.{gcd_of_rest, gcd_from_coprime}
use Rattle.ratio.proofs.Twos.{gcd_comm}
use Rattle.ratio.proofs.gcd.greatest_common_divisor.Goals as goal

one_left : (a b : ℕ) → a ≡ 1 → 1 ≡ gcd a b
one_left a b e = sym (gcd_from_coprime a b (λ k p q. subst (λ n. k ∣ n) e p))

pub returns-then-a-eq1 : goal.returns-then-a-eq1
returns-then-a-eq1 c = one_left c.args.a c.args.b c.if-a-eq1.true

pub returns-then-b-eq1 : goal.returns-then-b-eq1
returns-then-b-eq1 c = one_left c.args.b c.args.a c.if-b-eq1.true ∙ gcd_comm c.args.b c.args.a

pub returns-then-a-gt-WORD : goal.returns-then-a-gt-WORD
returns-then-a-gt-WORD c = c.binary_divisor.ensures ∙ gcd_of_rest c.args.a c.args.b

pub returns-then-b-gt-WORD : goal.returns-then-b-gt-WORD
returns-then-b-gt-WORD c = c.binary_divisor-then-b-gt-WORD.ensures ∙ gcd_of_rest c.args.b c.args.a ∙ gcd_comm c.args.b c.args.a
