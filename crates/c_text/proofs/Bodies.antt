-- Statements and loops
use Rattle.std.proofs.Common.{◌≡◌, refl, sym, ◌∙◌, ap, ℕ, zero, suc, ◌-◌, ◌<◌, Bool, true, false, ◌&&◌, ◌||◌, nat_lt, if◌then◌else◌, List, length, codes, subst, arith}
use Rattle.std.proofs.lemmas.Bool.{lt-ltb}
use Rattle.std.proofs.Common.{ltb-true}
use Rattle.ratio.specs.declared.reduced.Ratio.{Ratio}
use Rattle.c_text.specs.declared.place.Scope.{Scope}
use Rattle.c_text.specs.Stream.{Stream, repeat, is_ahead}
use Rattle.c_text.specs.Statements.{is_statement, is_call, add_line, line_at, line_by, body_at, loop_by, call_line_at, line_ahead, no_body}
use Rattle.c_text.proofs.Repeats.{some_ahead}

line_loop : (k : ℕ) (scope : Scope) (tables : List (List Ratio)) (s : Stream) → is_ahead (codes "for") s ≡ true → line_at (suc k) scope tables s ≡ loop_by (body_at k) (line_ahead s) scope tables s
unfolding line_at line_by
line_loop k scope tables s e = ap (λ b. if b then loop_by (body_at k) (line_ahead s) scope tables s else call_line_at (line_ahead s) scope tables s) e

second_true : (a b : Bool) → (a && b) ≡ true → b ≡ true
second_true true b e = e
second_true false b e = cc

first_true : (a b : Bool) → (a && b) ≡ true → a ≡ true
first_true true b e = refl
first_true false b e = cc

line_loop_by : (r k : ℕ) (scope : Scope) (tables : List (List Ratio)) (s : Stream) → r ≡ suc k → is_ahead (codes "for") s ≡ true → line_at r scope tables s ≡ loop_by (body_at k) (line_ahead s) scope tables s
line_loop_by r k scope tables s h e = ap (λ n. line_at n scope tables s) h ∙ line_loop k scope tables s e

pub line_loop_at : (room : ℕ) (scope : Scope) (tables : List (List Ratio)) (s : Stream) → (nat_lt 0 room && is_ahead (codes "for") s) ≡ true
    → line_at room scope tables s ≡ loop_by (body_at (room - 1)) (line_ahead s) scope tables s
line_loop_at room scope tables s e =
    let h : 0 < room = ltb-true 0 room (first_true _ (is_ahead (codes "for") s) e) in
    line_loop_by room (room - 1) scope tables s (omega (arith, h)) (second_true (nat_lt 0 room) _ e)

line_call : (k : ℕ) (scope : Scope) (tables : List (List Ratio)) (s : Stream) → is_ahead (codes "for") s ≡ false → line_at (suc k) scope tables s ≡ call_line_at (line_ahead s) scope tables s
unfolding line_at line_by
line_call k scope tables s e = ap (λ b. if b then loop_by (body_at k) (line_ahead s) scope tables s else call_line_at (line_ahead s) scope tables s) e

line_without : (scope : Scope) (tables : List (List Ratio)) (s : Stream) → line_at 0 scope tables s ≡ call_line_at (line_ahead s) scope tables s
unfolding line_at line_by
line_without scope tables s = refl

pub line_call_at : (room : ℕ) (scope : Scope) (tables : List (List Ratio)) (s : Stream) → (nat_lt 0 room && is_ahead (codes "for") s) ≡ false
    → line_at room scope tables s ≡ call_line_at (line_ahead s) scope tables s
line_call_at zero scope tables s e = line_without scope tables s
line_call_at (suc k) scope tables s e = line_call k scope tables s (sym (ap (λ b. b && is_ahead (codes "for") s) (lt-ltb 0 (suc k) (omega arith))) ∙ e)

abbrev Repeats : Bool → ℕ → Scope → List (List Ratio) → Stream → Type 0
Repeats loops room scope tables s = body_at room scope tables s ≡ repeat (is_statement loops) (add_line (line_at room) scope tables) (length s.tokens) no_body s

body_without : (scope : Scope) (tables : List (List Ratio)) (s : Stream) → Repeats false 0 scope tables s
unfolding body_at line_at
body_without scope tables s = refl

body_with : (k : ℕ) (scope : Scope) (tables : List (List Ratio)) (s : Stream) → Repeats true (suc k) scope tables s
unfolding body_at line_at
body_with k scope tables s = refl

pub body_from : (room : ℕ) (scope : Scope) (tables : List (List Ratio)) (s : Stream) → Repeats (nat_lt 0 room) room scope tables s
body_from zero scope tables s = body_without scope tables s
body_from (suc k) scope tables s = subst (λ b. Repeats b (suc k) scope tables s) (sym (lt-ltb 0 (suc k) (omega arith))) (body_with k scope tables s)

-- where a statement begins a token is left
some_call : (a b c d e : Bool) (s : Stream) → is_ahead (codes "fr_set") s ≡ a → is_ahead (codes "fr_copy") s ≡ b → is_ahead (codes "fr_abs") s ≡ c → is_ahead (codes "fr_load") s ≡ d → is_ahead (codes "if") s ≡ e
    → (a || (b || (c || (d || e)))) ≡ true → 0 < length s.tokens
some_call true b c d e s p q r t u h = some_ahead s _ _ p
some_call false true c d e s p q r t u h = some_ahead s _ _ q
some_call false false true d e s p q r t u h = some_ahead s _ _ r
some_call false false false true e s p q r t u h = some_ahead s _ _ t
some_call false false false false true s p q r t u h = some_ahead s _ _ u
some_call false false false false false s p q r t u h = cc

call_some : (s : Stream) → is_call s ≡ true → 0 < length s.tokens
unfolding is_call
call_some s h = some_call _ _ _ _ _ s refl refl refl refl refl h

some_by : (c : Bool) (l : Bool) (s : Stream) → is_call s ≡ c → (c || (l && is_ahead (codes "for") s)) ≡ true → 0 < length s.tokens
some_by true l s e h = call_some s e
some_by false l s e h = some_ahead s _ _ (second_true l _ h)

pub some_statement : (l : Bool) (s : Stream) → is_statement l s ≡ true → 0 < length s.tokens
some_statement l s h = some_by (is_call s) l s refl h
