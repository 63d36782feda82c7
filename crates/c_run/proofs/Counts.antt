-- How many statements are written and counted
use Rattle.std.proofs.Common.{◌≡◌, ℕ, zero, suc, ◌+◌, ◌<◌, min, refl, sym, ◌∙◌, ap, arith, add_assoc, length, take, get_or, List, [], ◌∷◌, ◌++◌, false}
use Rattle.std.proofs.lemmas.List.{take_more}
use Rattle.c_unit.specs.declared.unit.CStmt.{CStmt, Set, Copy, Abs, Inv, Add, Sub, Mul, Load, For'}
use Rattle.c_unit.specs.declared.unit.CStmt.TheViews as View
use Rattle.c_unit.specs.Meaning.{counted, written, written-For, written_list}
use Rattle.c_run.specs.Answer.{is_loop, number}

pub one_written : (c : CStmt) → is_loop c ≡ false → written c ≡ 1
one_written (Set to v) h = refl
one_written (Copy to p) h = refl
one_written (Abs to p) h = refl
one_written (Inv to p) h = refl
one_written (Add to p q) h = refl
one_written (Sub to p q) h = refl
one_written (Mul to p q) h = refl
one_written (Load to k at) h = refl
one_written (For' n m body) h = cc

pub one_counted : (c : CStmt) → is_loop c ≡ false → counted c ≡ 1
one_counted (Set to v) h = refl
one_counted (Copy to p) h = refl
one_counted (Abs to p) h = refl
one_counted (Inv to p) h = refl
one_counted (Add to p q) h = refl
one_counted (Sub to p q) h = refl
one_counted (Mul to p q) h = refl
one_counted (Load to k at) h = refl
one_counted (For' n m body) h = cc

from_none : (n : ℕ) → n ≡ 0 + n
from_none n = omega arith

no_more : (n : ℕ) → n + 0 ≡ n
no_more n = omega arith

written_append : (bs cs : List CStmt) → written_list (bs ++ cs) ≡ written_list bs + written_list cs
written_append [] cs = from_none (written_list cs)
written_append (b ∷ bs) cs = ap (λ n. written b + n) (written_append bs cs) ∙ sym (add_assoc (written b) (written_list bs) (written_list cs))

pub one_more_written : (body : List CStmt) (k : ℕ) (c : CStmt) → k < length body → c ≡ get_or body k c → written_list (take (k + 1) body) ≡ written_list (take k body) + written c
one_more_written body k c h e =
    ap written_list (take_more body k c h ∙ ap (λ x. take k body ++ x ∷ []) (sym e))
    ∙ written_append (take k body) (c ∷ [])
    ∙ ap (λ n. written_list (take k body) + n) (no_more (written c))

capped_sum : (m n : ℕ) → min (number m + number n) 4294967295 ≡ number (m + n)
capped_sum m n = grind arith

pub count_more : (body : List CStmt) (k : ℕ) (c : CStmt) (count more sum : ℕ) → k < length body → c ≡ get_or body k c → count ≡ number (written_list (take k body)) → more ≡ number (written c) → sum ≡ min (count + more) 4294967295
    → sum ≡ number (written_list (take (k + 1) body))
count_more body k c count more sum h e f g r =
    r ∙ ap (λ n. min (n + more) 4294967295) f ∙ ap (λ n. min (number (written_list (take k body)) + n) 4294967295) g
    ∙ capped_sum (written_list (take k body)) (written c)
    ∙ ap number (sym (one_more_written body k c h e))

pub loop_written : (c : CStmt) (n : ℕ) (inner : List CStmt) (count sum : ℕ) → c ≡ View.For n inner → count ≡ number (written_list inner) → sum ≡ min (count + 1) 4294967295 → sum ≡ number (written c)
loop_written c n inner count sum e f g =
    g ∙ ap (λ n. min (n + 1) 4294967295) f ∙ next (written_list inner) ∙ ap number (sym (ap written e ∙ written-For n inner))
  where
    next : (n : ℕ) → min (number n + 1) 4294967295 ≡ number (1 + n)
    next n = grind arith
