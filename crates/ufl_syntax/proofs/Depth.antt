-- The room that is left is the limit less what is open.
use Rattle.std.proofs.Common.{[], ◌∷◌, ◌++◌, ◌≡◌, ◌≤◌, ◌+◌, true, false, Bool, List, ℕ, zero, suc, length, refl, sym, ap, subst, ◌∙◌, append_assoc, arith}
use Rattle.std.proofs.lemmas.List.{length-append}
use Rattle.ufl_syntax.specs.declared.class.Class.{Class}
use Rattle.ufl_syntax.specs.declared.class.Class.TheVariants as k
use Rattle.ufl_syntax.specs.declared.class.Lexeme.{Lexeme}
use Rattle.ufl_syntax.specs.Depth.{Nest, nest, outside, open_around, depth, nest_on, nest_behind}
use Rattle.ufl_syntax.specs.Refusal.{is_opening}
use Rattle.ufl_syntax.specs.Machine as m
use Rattle.ufl_syntax.specs.Machine.{Part, Step, takes, skips, wrong, deep, then_, part_on, step, step_by, run, resume, goes_on, is_wrong, is_deep, Outcome, ended, stopped, sank, all_may, statements, after_first, later_names, after_target, a_value, a_later, after_sum, a_sum, adds, a_term, muls, a_signed, a_power, posts, args, after_arg, after_name, a_word, token}
use Rattle.ufl_syntax.proofs.Steps.{moves, moves_signed, moves_term, moves_sum}
use Rattle.ufl_syntax.proofs.Viable.{left_of}
use Rattle.ufl_syntax.proofs.Room.{too_long, stops_later}

mutual
  -- What is still to be read behind all that stands in the same brackets, or in the line: n is the room there, and around are the signs and `**` before each bracket.
  pub data Rest : ℕ → ℕ → List Part → List ℕ → Type 0 where
    on_line : {limit : ℕ} → Rest limit limit (token k.End ∷ statements limit ∷ []) []
    in_round : {limit : ℕ} {n : ℕ} {c : ℕ} {b : ℕ} {tail : List Part} {around : List ℕ} → suc n + c ≡ b → Behind limit b tail around
        → Rest limit n (token k.Close ∷ posts (suc n) ∷ a_power (suc n) ∷ muls b ∷ adds b ∷ tail) (c ∷ around)
    in_square : {limit : ℕ} {n : ℕ} {c : ℕ} {b : ℕ} {tail : List Part} {around : List ℕ} → suc n + c ≡ b → Behind limit b tail around
        → Rest limit n (token k.CloseList ∷ posts (suc n) ∷ a_power (suc n) ∷ muls b ∷ adds b ∷ tail) (c ∷ around)

  -- the same behind a sum
  pub data Behind : ℕ → ℕ → List Part → List ℕ → Type 0 where
    behind_sum : {limit : ℕ} {n : ℕ} {rest : List Part} {around : List ℕ} → Rest limit n rest around → Behind limit n (after_sum n ∷ rest) around
    behind_arg : {limit : ℕ} {n : ℕ} {rest : List Part} {around : List ℕ} → Rest limit n rest around → Behind limit n (after_arg n ∷ rest) around

-- What is still to be read where so much is open: m is the room there, n that behind the signs and `**`.
pub data Fits : ℕ → List Part → Nest → Type 0 where
  at_start : {limit : ℕ} → Fits limit (statements limit ∷ []) (nest 0 [] false)
  at_first : {limit : ℕ} → Fits limit (after_first limit ∷ statements limit ∷ []) (nest 0 [] true)
  at_names : {limit : ℕ} → Fits limit (later_names ∷ token k.Assign ∷ a_value limit ∷ token k.End ∷ statements limit ∷ []) (nest 0 [] false)
  at_target : {limit : ℕ} → Fits limit (after_target ∷ token k.Assign ∷ a_value limit ∷ token k.End ∷ statements limit ∷ []) (nest 0 [] true)
  at_inner_word : {limit : ℕ} → Fits limit (a_word limit ∷ after_target ∷ token k.Close ∷ token k.Assign ∷ a_value limit ∷ token k.End ∷ statements limit ∷ []) (nest 0 (0 ∷ []) false)
  at_inner_names : {limit : ℕ} → Fits limit (later_names ∷ token k.Close ∷ token k.Assign ∷ a_value limit ∷ token k.End ∷ statements limit ∷ []) (nest 0 (0 ∷ []) false)
  at_inner_target : {limit : ℕ} → Fits limit (after_target ∷ token k.Close ∷ token k.Assign ∷ a_value limit ∷ token k.End ∷ statements limit ∷ []) (nest 0 (0 ∷ []) true)
  at_assign : {limit : ℕ} → Fits limit (token k.Assign ∷ a_value limit ∷ token k.End ∷ statements limit ∷ []) (nest 0 [] true)
  at_ufl : {limit : ℕ} → Fits limit (token (k.Name true) ∷ token k.Import ∷ token k.Times ∷ token k.End ∷ statements limit ∷ []) (nest 0 [] false)
  at_import : {limit : ℕ} → Fits limit (token k.Import ∷ token k.Times ∷ token k.End ∷ statements limit ∷ []) (nest 0 [] true)
  at_star : {limit : ℕ} → Fits limit (token k.Times ∷ token k.End ∷ statements limit ∷ []) (nest 0 [] false)
  at_end : {limit : ℕ} → Fits limit (token k.End ∷ statements limit ∷ []) (nest 0 [] false)
  at_value : {limit : ℕ} {n : ℕ} {rest : List Part} {around : List ℕ} → Rest limit n rest around → Fits limit (a_value n ∷ rest) (nest 0 around false)
  at_later : {limit : ℕ} {n : ℕ} {rest : List Part} {around : List ℕ} → Rest limit n rest around → Fits limit (a_later n ∷ rest) (nest 0 around false)
  at_args : {limit : ℕ} {n : ℕ} {rest : List Part} {around : List ℕ} → Rest limit n rest around → Fits limit (args n ∷ rest) (nest 0 around false)
  at_sum : {limit : ℕ} {n : ℕ} {tail : List Part} {around : List ℕ} → Behind limit n tail around → Fits limit (a_sum n ∷ tail) (nest 0 around false)
  at_term : {limit : ℕ} {n : ℕ} {tail : List Part} {around : List ℕ} → Behind limit n tail around → Fits limit (a_term n ∷ adds n ∷ tail) (nest 0 around false)
  at_name : {limit : ℕ} {n : ℕ} {tail : List Part} {around : List ℕ} → Behind limit n tail around → Fits limit (after_name n ∷ tail) (nest 0 around true)
  at_signed : {limit : ℕ} {m : ℕ} {n : ℕ} {c : ℕ} {tail : List Part} {around : List ℕ} → m + c ≡ n → Behind limit n tail around
      → Fits limit (a_signed m ∷ muls n ∷ adds n ∷ tail) (nest c around false)
  at_posts : {limit : ℕ} {m : ℕ} {n : ℕ} {c : ℕ} {tail : List Part} {around : List ℕ} → m + c ≡ n → Behind limit n tail around
      → Fits limit (posts m ∷ a_power m ∷ muls n ∷ adds n ∷ tail) (nest c around true)
  at_word : {limit : ℕ} {m : ℕ} {n : ℕ} {c : ℕ} {tail : List Part} {around : List ℕ} → m + c ≡ n → Behind limit n tail around
      → Fits limit (a_word m ∷ posts m ∷ a_power m ∷ muls n ∷ adds n ∷ tail) (nest c around true)

mutual
  rest_room : {limit : ℕ} {n : ℕ} {rest : List Part} {around : List ℕ} → Rest limit n rest around → n + open_around around ≡ limit
  rest_room (on_line {limit = limit}) = omega arith
  rest_room (in_round {around = around} e d) = omega (arith, e, behind_room d)
  rest_room (in_square {around = around} e d) = omega (arith, e, behind_room d)

  behind_room : {limit : ℕ} {n : ℕ} {tail : List Part} {around : List ℕ} → Behind limit n tail around → n + open_around around ≡ limit
  behind_room (behind_sum d) = rest_room d
  behind_room (behind_arg d) = rest_room d

-- What comes of a token fits. Where it is too deep, one more is open than may be, and an opening bracket that is wrong isn't too deep.
abbrev Good : ℕ → Class → Nest → m.Next → Type 0
Good limit j s (goes_on stack) = Fits limit stack (nest_on j s)
Good limit j s is_wrong = is_opening j ≡ true → depth (nest_on j s) ≤ limit
Good limit j s is_deep = depth (nest_on j s) ≡ suc limit

rest_good : {limit : ℕ} {n : ℕ} {rest : List Part} {around : List ℕ} → (j : Class) → is_opening j ≡ false → (c : ℕ) (v : Bool) → Rest limit n rest around → Good limit j (nest c around v) (step rest j)
unfolding step
rest_good k.End h c v on_line = at_start
rest_good k.Close h c v (in_round e d) = at_posts e d
rest_good k.CloseList h c v (in_square e d) = at_posts e d
rest_good (k.Name true) h c v on_line = λ x. cc
rest_good (k.Name true) h c v (in_round e d) = λ x. cc
rest_good (k.Name true) h c v (in_square e d) = λ x. cc
rest_good (k.Name false) h c v on_line = λ x. cc
rest_good (k.Name false) h c v (in_round e d) = λ x. cc
rest_good (k.Name false) h c v (in_square e d) = λ x. cc
rest_good _ h c v on_line = λ x. cc
rest_good _ h c v (in_round e d) = λ x. cc
rest_good _ h c v (in_square e d) = λ x. cc

behind_good : {limit : ℕ} {n : ℕ} {tail : List Part} {around : List ℕ} → (j : Class) → is_opening j ≡ false → (c : ℕ) (v : Bool) → Behind limit n tail around → Good limit j (nest c around v) (step tail j)
unfolding step
behind_good k.Comma h c v (behind_sum d) = at_later d
behind_good k.Comma h c v (behind_arg d) = at_args d
behind_good j h c v (behind_sum d) = rest_good j h c v d
behind_good j h c v (behind_arg d) = rest_good j h c v d

-- one more bracket, or one more sign or `**`, where no room is left
deep_bracket : {limit : ℕ} {n : ℕ} (c : ℕ) {tail : List Part} {around : List ℕ} → 0 + c ≡ n → Behind limit n tail around → 0 + (suc c + open_around around) ≡ suc limit
deep_bracket c e d = omega (arith, e, behind_room d)

deep_sign : {limit : ℕ} {n : ℕ} (c : ℕ) {tail : List Part} {around : List ℕ} → 0 + c ≡ n → Behind limit n tail around → suc c + open_around around ≡ suc limit
deep_sign c e d = omega (arith, e, behind_room d)

shallow_bracket : {limit : ℕ} (m : ℕ) {n : ℕ} (c : ℕ) {tail : List Part} {around : List ℕ} → suc m + c ≡ n → Behind limit n tail around → 0 + (suc c + open_around around) ≤ limit
shallow_bracket m c e d = omega (arith, e, behind_room d)

one_sign : (m c n : ℕ) → suc m + c ≡ n → m + suc c ≡ n
one_sign m c n e = omega (arith, e)

no_sign : (n : ℕ) → n + 0 ≡ n
no_sign n = omega arith

posts_good : {limit : ℕ} (m : ℕ) {n : ℕ} (c : ℕ) {tail : List Part} {around : List ℕ} (j : Class) → m + c ≡ n → Behind limit n tail around
    → Good limit j (nest c around true) (step (posts m ∷ a_power m ∷ muls n ∷ adds n ∷ tail) j)
unfolding step
posts_good zero c k.Open e d = deep_bracket c e d
posts_good (suc m) c k.Open e d = at_args (in_round e d)
posts_good zero c k.OpenList e d = deep_bracket c e d
posts_good (suc m) c k.OpenList e d = at_value (in_square e d)
posts_good m c k.Dot e d = at_word e d
posts_good zero c k.Power e d = deep_sign c e d
posts_good (suc m) {n = n} c k.Power e d = at_signed (one_sign m c n e) d
posts_good m {n = n} c k.Times e d = at_signed (no_sign n) d
posts_good m {n = n} c k.Divide e d = at_signed (no_sign n) d
posts_good m c k.Plus e d = at_term d
posts_good m c k.Minus e d = at_term d
posts_good m c j e d = behind_good j refl c true d

signed_good : {limit : ℕ} (m : ℕ) {n : ℕ} (c : ℕ) {tail : List Part} {around : List ℕ} (j : Class) → m + c ≡ n → Behind limit n tail around
    → Good limit j (nest c around false) (step (a_signed m ∷ muls n ∷ adds n ∷ tail) j)
unfolding step
signed_good m c (k.Name b) e d = at_posts e d
signed_good m c k.Number e d = at_posts e d
signed_good m c k.Text e d = at_posts e d
signed_good zero c k.Open e d = deep_bracket c e d
signed_good (suc m) c k.Open e d = at_value (in_round e d)
signed_good zero c k.OpenList e d = deep_bracket c e d
signed_good (suc m) c k.OpenList e d = at_later (in_square e d)
signed_good zero c k.Plus e d = deep_sign c e d
signed_good (suc m) {n = n} c k.Plus e d = at_signed (one_sign m c n e) d
signed_good zero c k.Minus e d = deep_sign c e d
signed_good (suc m) {n = n} c k.Minus e d = at_signed (one_sign m c n e) d
signed_good m c _ e d = λ x. cc

-- At a token p is q and then qs.
begins_by : (x : Step) (qs stack : List Part) (below : m.Next) (other : m.Next) → moves x ≡ true → step_by (then_ x qs) stack below ≡ step_by x (qs ++ stack) other
begins_by (takes ps) qs stack below other h = ap goes_on (append_assoc ps qs stack)
begins_by skips qs stack below other h = cc
begins_by wrong qs stack below other h = refl
begins_by deep qs stack below other h = refl

term_step : (n : ℕ) (stack : List Part) (j : Class) → step (a_term n ∷ stack) j ≡ step (a_signed n ∷ muls n ∷ stack) j
unfolding step
term_step n stack j = begins_by (part_on (a_signed n) j) (muls n ∷ []) stack _ _ (moves_signed n j)

sum_step : (n : ℕ) (stack : List Part) (j : Class) → step (a_sum n ∷ stack) j ≡ step (a_term n ∷ adds n ∷ stack) j
unfolding step
sum_step n stack j = begins_by (part_on (a_term n) j) (adds n ∷ []) stack _ _ (moves_term n j)

value_step : (n : ℕ) (stack : List Part) (j : Class) → step (a_value n ∷ stack) j ≡ step (a_sum n ∷ after_sum n ∷ stack) j
unfolding step
value_step n stack j = begins_by (part_on (a_sum n) j) (after_sum n ∷ []) stack _ _ (moves_sum n j)

term_good : {limit : ℕ} {n : ℕ} {tail : List Part} {around : List ℕ} → (j : Class) → Behind limit n tail around → Good limit j (nest 0 around false) (step (a_term n ∷ adds n ∷ tail) j)
term_good {limit = limit} {n = n} {tail = tail} {around = around} j d =
    subst (Good limit j (nest 0 around false)) (sym (term_step n (adds n ∷ tail) j)) (signed_good n 0 j (no_sign n) d)

sum_good : {limit : ℕ} {n : ℕ} {tail : List Part} {around : List ℕ} → (j : Class) → Behind limit n tail around → Good limit j (nest 0 around false) (step (a_sum n ∷ tail) j)
sum_good {limit = limit} {n = n} {tail = tail} {around = around} j d =
    subst (Good limit j (nest 0 around false)) (sym (sum_step n tail j)) (term_good j d)

value_good : {limit : ℕ} {n : ℕ} {rest : List Part} {around : List ℕ} → (j : Class) → Rest limit n rest around → Good limit j (nest 0 around false) (step (a_value n ∷ rest) j)
value_good {limit = limit} {n = n} {rest = rest} {around = around} j d =
    subst (Good limit j (nest 0 around false)) (sym (value_step n rest j)) (sum_good j (behind_sum d))

later_good : {limit : ℕ} {n : ℕ} {rest : List Part} {around : List ℕ} → (j : Class) → Rest limit n rest around → Good limit j (nest 0 around false) (step (a_later n ∷ rest) j)
unfolding step
later_good (k.Name b) d = value_good (k.Name b) d
later_good k.Number d = value_good k.Number d
later_good k.Text d = value_good k.Text d
later_good {n = zero} k.Open d = value_good k.Open d
later_good {n = suc n} k.Open d = value_good k.Open d
later_good {n = zero} k.OpenList d = value_good k.OpenList d
later_good {n = suc n} k.OpenList d = value_good k.OpenList d
later_good {n = zero} k.Plus d = value_good k.Plus d
later_good {n = suc n} k.Plus d = value_good k.Plus d
later_good {n = zero} k.Minus d = value_good k.Minus d
later_good {n = suc n} k.Minus d = value_good k.Minus d
later_good j d = rest_good j refl 0 false d

args_good : {limit : ℕ} {n : ℕ} {rest : List Part} {around : List ℕ} → (j : Class) → Rest limit n rest around → Good limit j (nest 0 around false) (step (args n ∷ rest) j)
unfolding step
args_good (k.Name b) d = at_name (behind_arg d)
args_good k.Number d = sum_good k.Number (behind_arg d)
args_good k.Text d = sum_good k.Text (behind_arg d)
args_good {n = zero} k.Open d = sum_good k.Open (behind_arg d)
args_good {n = suc n} k.Open d = sum_good k.Open (behind_arg d)
args_good {n = zero} k.OpenList d = sum_good k.OpenList (behind_arg d)
args_good {n = suc n} k.OpenList d = sum_good k.OpenList (behind_arg d)
args_good {n = zero} k.Plus d = sum_good k.Plus (behind_arg d)
args_good {n = suc n} k.Plus d = sum_good k.Plus (behind_arg d)
args_good {n = zero} k.Minus d = sum_good k.Minus (behind_arg d)
args_good {n = suc n} k.Minus d = sum_good k.Minus (behind_arg d)
args_good j d = rest_good j refl 0 false d

name_good : {limit : ℕ} {n : ℕ} {tail : List Part} {around : List ℕ} → (j : Class) → Behind limit n tail around → Good limit j (nest 0 around true) (step (after_name n ∷ tail) j)
unfolding step
name_good k.Assign d = at_sum d
name_good {n = zero} k.Open d = deep_bracket 0 refl d
name_good {n = suc n} k.Open d = at_args (in_round (no_sign (suc n)) d)
name_good {n = zero} k.OpenList d = deep_bracket 0 refl d
name_good {n = suc n} k.OpenList d = at_value (in_square (no_sign (suc n)) d)
name_good {n = n} k.Dot d = at_word (no_sign n) d
name_good {n = zero} k.Power d = deep_sign 0 refl d
name_good {n = suc n} k.Power d = at_signed (one_sign n 0 (suc n) (no_sign (suc n))) d
name_good {n = n} k.Times d = at_signed (no_sign n) d
name_good {n = n} k.Divide d = at_signed (no_sign n) d
name_good k.Plus d = at_term d
name_good k.Minus d = at_term d
name_good j d = behind_good j refl 0 true d

word_good : {limit : ℕ} (m : ℕ) {n : ℕ} (c : ℕ) {tail : List Part} {around : List ℕ} (j : Class) → m + c ≡ n → Behind limit n tail around
    → Good limit j (nest c around true) (step (a_word m ∷ posts m ∷ a_power m ∷ muls n ∷ adds n ∷ tail) j)
unfolding step
word_good m c (k.Name b) e d = at_posts e d
word_good zero c k.Open e d = deep_bracket c e d
word_good (suc m) c k.Open e d = λ x. shallow_bracket m c e d
word_good zero c k.OpenList e d = deep_bracket c e d
word_good (suc m) c k.OpenList e d = λ x. shallow_bracket m c e d
word_good m c _ e d = λ x. cc

-- the tokens that are no value
start_good : (limit : ℕ) (j : Class) → 2 ≤ limit → Good limit j (nest 0 [] false) (step (statements limit ∷ []) j)
unfolding step
start_good limit (k.Name b) h = at_first
start_good limit k.Open h = at_inner_word
start_good limit k.From h = at_ufl
start_good limit k.OpenList h = λ x. omega (arith, h)
start_good limit _ h = λ x. cc

first_good : (limit : ℕ) (j : Class) → 2 ≤ limit → Good limit j (nest 0 [] true) (step (after_first limit ∷ statements limit ∷ []) j)
unfolding step
first_good limit k.Assign h = at_value on_line
first_good limit k.AddAssign h = at_value on_line
first_good limit k.SubAssign h = at_value on_line
first_good limit k.Comma h = at_names
first_good limit k.Open h = λ x. omega (arith, h)
first_good limit k.OpenList h = λ x. omega (arith, h)
first_good limit _ h = λ x. cc

assign_good : (limit : ℕ) (j : Class) (v : Bool) → 2 ≤ limit → Good limit j (nest 0 [] v) (step (token k.Assign ∷ a_value limit ∷ token k.End ∷ statements limit ∷ []) j)
unfolding step
assign_good limit k.Assign v h = at_value on_line
assign_good limit k.Open v h = λ x. omega (arith, h)
assign_good limit k.OpenList v h = λ x. omega (arith, h)
assign_good limit (k.Name true) v h = λ x. cc
assign_good limit (k.Name false) v h = λ x. cc
assign_good limit _ v h = λ x. cc

names_good : (limit : ℕ) (j : Class) → 2 ≤ limit → Good limit j (nest 0 [] false) (step (later_names ∷ token k.Assign ∷ a_value limit ∷ token k.End ∷ statements limit ∷ []) j)
unfolding step
names_good limit (k.Name b) h = at_target
names_good limit j h = assign_good limit j false h

target_good : (limit : ℕ) (j : Class) → 2 ≤ limit → Good limit j (nest 0 [] true) (step (after_target ∷ token k.Assign ∷ a_value limit ∷ token k.End ∷ statements limit ∷ []) j)
unfolding step
target_good limit k.Comma h = at_names
target_good limit j h = assign_good limit j true h

close_good : (limit : ℕ) (j : Class) (v : Bool) → 2 ≤ limit → Good limit j (nest 0 (0 ∷ []) v) (step (token k.Close ∷ token k.Assign ∷ a_value limit ∷ token k.End ∷ statements limit ∷ []) j)
unfolding step
close_good limit k.Close v h = at_assign
close_good limit k.Open v h = λ x. omega (arith, h)
close_good limit k.OpenList v h = λ x. omega (arith, h)
close_good limit (k.Name true) v h = λ x. cc
close_good limit (k.Name false) v h = λ x. cc
close_good limit _ v h = λ x. cc

inner_word_good : (limit : ℕ) (j : Class) → 2 ≤ limit
    → Good limit j (nest 0 (0 ∷ []) false) (step (a_word limit ∷ after_target ∷ token k.Close ∷ token k.Assign ∷ a_value limit ∷ token k.End ∷ statements limit ∷ []) j)
unfolding step
inner_word_good limit (k.Name b) h = at_inner_target
inner_word_good zero k.Open h = absurd (omega (arith, h))
inner_word_good (suc n) k.Open h = λ x. omega (arith, h)
inner_word_good zero k.OpenList h = absurd (omega (arith, h))
inner_word_good (suc n) k.OpenList h = λ x. omega (arith, h)
inner_word_good limit _ h = λ x. cc

inner_names_good : (limit : ℕ) (j : Class) → 2 ≤ limit
    → Good limit j (nest 0 (0 ∷ []) false) (step (later_names ∷ token k.Close ∷ token k.Assign ∷ a_value limit ∷ token k.End ∷ statements limit ∷ []) j)
unfolding step
inner_names_good limit (k.Name b) h = at_inner_target
inner_names_good limit j h = close_good limit j false h

inner_target_good : (limit : ℕ) (j : Class) → 2 ≤ limit
    → Good limit j (nest 0 (0 ∷ []) true) (step (after_target ∷ token k.Close ∷ token k.Assign ∷ a_value limit ∷ token k.End ∷ statements limit ∷ []) j)
unfolding step
inner_target_good limit k.Comma h = at_inner_names
inner_target_good limit j h = close_good limit j true h

ufl_good : (limit : ℕ) (j : Class) → 2 ≤ limit → Good limit j (nest 0 [] false) (step (token (k.Name true) ∷ token k.Import ∷ token k.Times ∷ token k.End ∷ statements limit ∷ []) j)
unfolding step
ufl_good limit (k.Name true) h = at_import
ufl_good limit (k.Name false) h = λ x. cc
ufl_good limit k.Open h = λ x. omega (arith, h)
ufl_good limit k.OpenList h = λ x. omega (arith, h)
ufl_good limit _ h = λ x. cc

import_good : (limit : ℕ) (j : Class) → 2 ≤ limit → Good limit j (nest 0 [] true) (step (token k.Import ∷ token k.Times ∷ token k.End ∷ statements limit ∷ []) j)
unfolding step
import_good limit k.Import h = at_star
import_good limit (k.Name true) h = λ x. cc
import_good limit (k.Name false) h = λ x. cc
import_good limit k.Open h = λ x. omega (arith, h)
import_good limit k.OpenList h = λ x. omega (arith, h)
import_good limit _ h = λ x. cc

star_good : (limit : ℕ) (j : Class) → 2 ≤ limit → Good limit j (nest 0 [] false) (step (token k.Times ∷ token k.End ∷ statements limit ∷ []) j)
unfolding step
star_good limit k.Times h = at_end
star_good limit (k.Name true) h = λ x. cc
star_good limit (k.Name false) h = λ x. cc
star_good limit k.Open h = λ x. omega (arith, h)
star_good limit k.OpenList h = λ x. omega (arith, h)
star_good limit _ h = λ x. cc

end_good : (limit : ℕ) (j : Class) → 2 ≤ limit → Good limit j (nest 0 [] false) (step (token k.End ∷ statements limit ∷ []) j)
unfolding step
end_good limit k.End h = at_start
end_good limit (k.Name true) h = λ x. cc
end_good limit (k.Name false) h = λ x. cc
end_good limit k.Open h = λ x. omega (arith, h)
end_good limit k.OpenList h = λ x. omega (arith, h)
end_good limit _ h = λ x. cc

good : {limit : ℕ} {stack : List Part} {s : Nest} → 2 ≤ limit → (j : Class) → Fits limit stack s → Good limit j s (step stack j)
good h j (at_start {limit = l}) = start_good l j h
good h j (at_first {limit = l}) = first_good l j h
good h j (at_names {limit = l}) = names_good l j h
good h j (at_target {limit = l}) = target_good l j h
good h j (at_inner_word {limit = l}) = inner_word_good l j h
good h j (at_inner_names {limit = l}) = inner_names_good l j h
good h j (at_inner_target {limit = l}) = inner_target_good l j h
good h j (at_assign {limit = l}) = assign_good l j true h
good h j (at_ufl {limit = l}) = ufl_good l j h
good h j (at_import {limit = l}) = import_good l j h
good h j (at_star {limit = l}) = star_good l j h
good h j (at_end {limit = l}) = end_good l j h
good h j (at_value d) = value_good j d
good h j (at_later d) = later_good j d
good h j (at_args d) = args_good j d
good h j (at_sum d) = sum_good j d
good h j (at_term d) = term_good j d
good h j (at_name d) = name_good j d
good h j (at_signed {m = m} {c = c} e d) = signed_good m c j e d
good h j (at_posts {m = m} {c = c} e d) = posts_good m c j e d
good h j (at_word {m = m} {c = c} e d) = word_good m c j e d

fits_room : {limit : ℕ} {stack : List Part} {s : Nest} → 2 ≤ limit → Fits limit stack s → depth s ≤ limit
fits_room h at_start = omega (arith, h)
fits_room h at_first = omega (arith, h)
fits_room h at_names = omega (arith, h)
fits_room h at_target = omega (arith, h)
fits_room h at_inner_word = omega (arith, h)
fits_room h at_inner_names = omega (arith, h)
fits_room h at_inner_target = omega (arith, h)
fits_room h at_assign = omega (arith, h)
fits_room h at_ufl = omega (arith, h)
fits_room h at_import = omega (arith, h)
fits_room h at_star = omega (arith, h)
fits_room h at_end = omega (arith, h)
fits_room h (at_value d) = omega (arith, rest_room d)
fits_room h (at_later d) = omega (arith, rest_room d)
fits_room h (at_args d) = omega (arith, rest_room d)
fits_room h (at_sum d) = omega (arith, behind_room d)
fits_room h (at_term d) = omega (arith, behind_room d)
fits_room h (at_name d) = omega (arith, behind_room d)
fits_room h (at_signed e d) = omega (arith, e, behind_room d)
fits_room h (at_posts e d) = omega (arith, e, behind_room d)
fits_room h (at_word e d) = omega (arith, e, behind_room d)

-- ---- whole runs

more_left : (t : Lexeme) (front : List Lexeme) (bad : Lexeme) (after : List Lexeme) → length (t ∷ (front ++ bad ∷ after)) ≡ length (bad ∷ after) → ⊥
more_left t front bad after e = absurd (omega (arith, e, length-append front (bad ∷ after)))

sunk_here : (limit : ℕ) (s : Nest) (bad : Lexeme) (after : List Lexeme) (x : m.Next) → Good limit bad.class s x → resume (λ z. run z after) (bad ∷ after) x ≡ sank (bad ∷ after)
    → depth (nest_on bad.class s) ≡ suc limit
sunk_here limit s bad after (goes_on z) g e = absurd (too_long bad after z e)
sunk_here limit s bad after is_wrong g e = cc
sunk_here limit s bad after is_deep g e = g

sunk_later : (limit : ℕ) (s : Nest) (t : Lexeme) (front : List Lexeme) (bad : Lexeme) (after : List Lexeme) (x : m.Next) → Good limit t.class s x
    → ((z : List Part) → Fits limit z (nest_on t.class s) → run z (front ++ bad ∷ after) ≡ sank (bad ∷ after) → depth (nest_behind (nest_on t.class s) (front ++ bad ∷ [])) ≡ suc limit)
    → resume (λ z. run z (front ++ bad ∷ after)) (t ∷ (front ++ bad ∷ after)) x ≡ sank (bad ∷ after) → depth (nest_behind (nest_on t.class s) (front ++ bad ∷ [])) ≡ suc limit
sunk_later limit s t front bad after (goes_on z) g below e = below z g e
sunk_later limit s t front bad after is_wrong g below e = cc
sunk_later limit s t front bad after is_deep g below e = absurd (more_left t front bad after (ap (λ o. length (left_of o)) e))

-- what is too deep is one more than may be open
pub depth_sunk : {limit : ℕ} → 2 ≤ limit → (front : List Lexeme) (bad : Lexeme) (after : List Lexeme) (stack : List Part) (s : Nest) → Fits limit stack s
    → run stack (front ++ bad ∷ after) ≡ sank (bad ∷ after) → depth (nest_behind s (front ++ bad ∷ [])) ≡ suc limit
unfolding run
depth_sunk {limit = limit} h [] bad after stack s f e = sunk_here limit s bad after (step stack bad.class) (good h bad.class f) e
depth_sunk {limit = limit} h (t ∷ front) bad after stack s f e =
    sunk_later limit s t front bad after (step stack t.class) (good h t.class f) (λ z g. depth_sunk h front bad after z (nest_on t.class s) g) e

wrong_here : (limit : ℕ) (s : Nest) (bad : Lexeme) (after : List Lexeme) (x : m.Next) → Good limit bad.class s x → resume (λ z. run z after) (bad ∷ after) x ≡ stopped (bad ∷ after)
    → is_opening bad.class ≡ true → depth (nest_on bad.class s) ≤ limit
wrong_here limit s bad after (goes_on z) g e = absurd (stops_later bad after z e)
wrong_here limit s bad after is_wrong g e = g
wrong_here limit s bad after is_deep g e = cc

wrong_later : (limit : ℕ) (s : Nest) (t : Lexeme) (front : List Lexeme) (bad : Lexeme) (after : List Lexeme) (x : m.Next) → Good limit t.class s x
    → ((z : List Part) → Fits limit z (nest_on t.class s) → run z (front ++ bad ∷ after) ≡ stopped (bad ∷ after) → is_opening bad.class ≡ true → depth (nest_behind (nest_on t.class s) (front ++ bad ∷ [])) ≤ limit)
    → resume (λ z. run z (front ++ bad ∷ after)) (t ∷ (front ++ bad ∷ after)) x ≡ stopped (bad ∷ after) → is_opening bad.class ≡ true → depth (nest_behind (nest_on t.class s) (front ++ bad ∷ [])) ≤ limit
wrong_later limit s t front bad after (goes_on z) g below e = below z g e
wrong_later limit s t front bad after is_wrong g below e = absurd (more_left t front bad after (ap (λ o. length (left_of o)) e))
wrong_later limit s t front bad after is_deep g below e = cc

-- an opening bracket that can't come isn't too deep
pub depth_wrong : {limit : ℕ} → 2 ≤ limit → (front : List Lexeme) (bad : Lexeme) (after : List Lexeme) (stack : List Part) (s : Nest) → Fits limit stack s
    → run stack (front ++ bad ∷ after) ≡ stopped (bad ∷ after) → is_opening bad.class ≡ true → depth (nest_behind s (front ++ bad ∷ [])) ≤ limit
unfolding run
depth_wrong {limit = limit} h [] bad after stack s f e = wrong_here limit s bad after (step stack bad.class) (good h bad.class f) e
depth_wrong {limit = limit} h (t ∷ front) bad after stack s f e =
    wrong_later limit s t front bad after (step stack t.class) (good h t.class f) (λ z g. depth_wrong h front bad after z (nest_on t.class s) g) e

held_by : (limit : ℕ) (s : Nest) (t : Lexeme) (ts : List Lexeme) (b : Bool) (x : m.Next) → Good limit t.class s x
    → ((z : List Part) → Fits limit z (nest_on t.class s) → run z ts ≡ ended b → depth (nest_behind (nest_on t.class s) ts) ≤ limit)
    → resume (λ z. run z ts) (t ∷ ts) x ≡ ended b → depth (nest_behind (nest_on t.class s) ts) ≤ limit
held_by limit s t ts b (goes_on z) g below e = below z g e
held_by limit s t ts b is_wrong g below e = cc
held_by limit s t ts b is_deep g below e = cc

-- what is read isn't too deep
pub depth_held : {limit : ℕ} → 2 ≤ limit → (ts : List Lexeme) (stack : List Part) (s : Nest) (b : Bool) → Fits limit stack s → run stack ts ≡ ended b → depth (nest_behind s ts) ≤ limit
unfolding run
depth_held h [] stack s b f e = fits_room h f
depth_held {limit = limit} h (t ∷ ts) stack s b f e =
    held_by limit s t ts b (step stack t.class) (good h t.class f) (λ z g. depth_held h ts z (nest_on t.class s) b g) e

-- ---- the end of a line, behind which a statement begins

abbrev Closes : ℕ → m.Next → Type 0
Closes limit (goes_on stack) = stack ≡ statements limit ∷ []
Closes limit is_wrong = Unit {0}
Closes limit is_deep = Unit {0}

rest_closes : {limit : ℕ} {n : ℕ} {rest : List Part} {around : List ℕ} → Rest limit n rest around → Closes limit (step rest k.End)
unfolding step
rest_closes on_line = refl
rest_closes (in_round e d) = tt
rest_closes (in_square e d) = tt

behind_closes : {limit : ℕ} {n : ℕ} {tail : List Part} {around : List ℕ} → Behind limit n tail around → Closes limit (step tail k.End)
unfolding step
behind_closes (behind_sum d) = rest_closes d
behind_closes (behind_arg d) = rest_closes d

closes : {limit : ℕ} {stack : List Part} {s : Nest} → Fits limit stack s → Closes limit (step stack k.End)
unfolding step
closes at_start = tt
closes at_first = tt
closes at_names = tt
closes at_target = tt
closes at_inner_word = tt
closes at_inner_names = tt
closes at_inner_target = tt
closes at_assign = tt
closes at_ufl = tt
closes at_import = tt
closes at_star = tt
closes at_end = refl
closes (at_value d) = tt
closes (at_later d) = rest_closes d
closes (at_args d) = rest_closes d
closes (at_sum d) = tt
closes (at_term d) = tt
closes (at_name d) = behind_closes d
closes (at_signed e d) = tt
closes (at_posts e d) = behind_closes d
closes (at_word e d) = tt

ended_is : (a b : Bool) → ended a ≡ ended b → a ≡ b
ended_is a b e = cc

closed_here : (limit : ℕ) (t : Lexeme) (b : Bool) (x : m.Next) → Closes limit x → resume (λ z. run z []) (t ∷ []) x ≡ ended b → b ≡ true
unfolding run
closed_here limit t b (goes_on z) g e = sym (ended_is (all_may z) b e) ∙ ap all_may g
closed_here limit t b is_wrong g e = cc
closed_here limit t b is_deep g e = cc

closed_later : (limit : ℕ) (s : Nest) (t : Lexeme) (ts : List Lexeme) (b : Bool) (x : m.Next) → Good limit t.class s x
    → ((z : List Part) → Fits limit z (nest_on t.class s) → run z ts ≡ ended b → b ≡ true) → resume (λ z. run z ts) (t ∷ ts) x ≡ ended b → b ≡ true
closed_later limit s t ts b (goes_on z) g below e = below z g e
closed_later limit s t ts b is_wrong g below e = cc
closed_later limit s t ts b is_deep g below e = cc

-- behind the end of a line nothing more is wanted
pub line_closed : {limit : ℕ} → 2 ≤ limit → (front : List Lexeme) (end : Lexeme) (stack : List Part) (s : Nest) (b : Bool) → Fits limit stack s → end.class ≡ k.End
    → run stack (front ++ end ∷ []) ≡ ended b → b ≡ true
unfolding run
line_closed {limit = limit} h [] end stack s b f i e = closed_here limit end b (step stack end.class) (subst (λ j. Closes limit (step stack j)) (sym i) (closes f)) e
line_closed {limit = limit} h (t ∷ front) end stack s b f i e =
    closed_later limit s t (front ++ end ∷ []) b (step stack t.class) (good h t.class f) (λ z g. line_closed h front end z (nest_on t.class s) b g i) e

pub fits_start : (limit : ℕ) → Fits limit (statements limit ∷ []) outside
fits_start limit = at_start
