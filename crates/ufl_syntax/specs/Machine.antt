-- What may come next, class after class: a machine over the parts that are still to be read.
-- The proofs of the reader go by it, and no public contract cites it.
use Rattle.std.specs.Prelude.{ℕ, zero, suc, ◌==◌, Bool, true, false, List, [], ◌∷◌, ◌++◌, if◌then◌else◌}
use Rattle.ufl_syntax.specs.declared.class.Class.{Class}
use Rattle.ufl_syntax.specs.declared.class.Class.TheVariants as k
use Rattle.ufl_syntax.specs.declared.class.Lexeme.{Lexeme}

-- What is still to be read. The number is as in the grammar.
pub data Part : Type 0 where
  statements : ℕ → Part
  a_statement : ℕ → Part
  -- after a name that begins a statement
  after_first : ℕ → Part
  later_names : Part
  after_target : Part
  a_value : ℕ → Part
  a_later : ℕ → Part
  after_sum : ℕ → Part
  a_sum : ℕ → Part
  adds : ℕ → Part
  a_term : ℕ → Part
  muls : ℕ → Part
  a_signed : ℕ → Part
  a_power : ℕ → Part
  a_postfix : ℕ → Part
  an_atom : ℕ → Part
  posts : ℕ → Part
  a_post : ℕ → Part
  args : ℕ → Part
  an_arg : ℕ → Part
  after_arg : ℕ → Part
  -- after a name that begins an argument
  after_name : ℕ → Part
  -- a name, where an opening bracket is too deep before it is wrong
  a_word : ℕ → Part
  token : Class → Part

pub data Step : Type 0 where
  -- takes the token, and these parts are to be read in its place
  takes : List Part → Step
  -- may be empty, and the token isn't of it
  skips : Step
  wrong : Step
  deep : Step

abbrev pub then_ : Step → List Part → Step
then_ (takes ps) qs = takes (ps ++ qs)
then_ skips qs = skips
then_ wrong qs = wrong
then_ deep qs = deep

abbrev pub maybe : Step → Step
maybe (takes ps) = takes ps
maybe skips = skips
maybe wrong = skips
maybe deep = deep

-- inside one more bracket, sign or `**`
abbrev pub inside : ℕ → (ℕ → List Part) → Step
inside zero f = deep
inside (suc n) f = takes (f n)

-- an opening bracket where none may stand
abbrev pub opening : ℕ → Step
opening zero = deep
opening (suc n) = wrong

abbrev pub word_on : ℕ → Class → Step
word_on n (k.Name b) = takes []
word_on n k.Open = opening n
word_on n k.OpenList = opening n
word_on n _ = wrong

abbrev pub atom_on : ℕ → Class → Step
atom_on n (k.Name b) = takes []
atom_on n k.Number = takes []
atom_on n k.Text = takes []
atom_on n k.Open = inside n (λ m. a_value m ∷ token k.Close ∷ [])
atom_on n k.OpenList = inside n (λ m. a_later m ∷ token k.CloseList ∷ [])
atom_on n _ = wrong

abbrev pub signed_on : ℕ → Class → Step
signed_on n k.Plus = inside n (λ m. a_signed m ∷ [])
signed_on n k.Minus = inside n (λ m. a_signed m ∷ [])
signed_on n k = then_ (then_ (atom_on n k) (posts n ∷ [])) (a_power n ∷ [])

abbrev pub term_on : ℕ → Class → Step
term_on n k = then_ (signed_on n k) (muls n ∷ [])

abbrev pub sum_on : ℕ → Class → Step
sum_on n k = then_ (term_on n k) (adds n ∷ [])

abbrev pub post_on : ℕ → Class → Step
post_on n k.Open = inside n (λ m. args m ∷ token k.Close ∷ [])
post_on n k.OpenList = inside n (λ m. a_value m ∷ token k.CloseList ∷ [])
post_on n k.Dot = takes (a_word n ∷ [])
post_on n _ = wrong

abbrev pub posts_on : ℕ → Class → Step
posts_on n k = maybe (then_ (post_on n k) (posts n ∷ []))

abbrev pub power_on : ℕ → Class → Step
power_on n k.Power = inside n (λ m. a_signed m ∷ [])
power_on n _ = skips

abbrev pub muls_on : ℕ → Class → Step
muls_on n k.Times = takes (a_signed n ∷ muls n ∷ [])
muls_on n k.Divide = takes (a_signed n ∷ muls n ∷ [])
muls_on n _ = skips

abbrev pub adds_on : ℕ → Class → Step
adds_on n k.Plus = takes (a_term n ∷ adds n ∷ [])
adds_on n k.Minus = takes (a_term n ∷ adds n ∷ [])
adds_on n _ = skips

abbrev pub comma_on : Part → Class → Step
comma_on next k.Comma = takes (next ∷ [])
comma_on next _ = skips

abbrev pub arg_on : ℕ → Class → Step
arg_on n (k.Name b) = takes (after_name n ∷ [])
arg_on n k = sum_on n k

abbrev pub args_on : ℕ → Class → Step
args_on n k = maybe (then_ (arg_on n k) (after_arg n ∷ []))

abbrev pub name_on : ℕ → Class → Step
name_on n k.Assign = takes (a_sum n ∷ [])
name_on n k.Power = then_ (power_on n k.Power) (muls n ∷ adds n ∷ [])
name_on n k.Times = then_ (muls_on n k.Times) (adds n ∷ [])
name_on n k.Divide = then_ (muls_on n k.Divide) (adds n ∷ [])
name_on n k.Plus = adds_on n k.Plus
name_on n k.Minus = adds_on n k.Minus
name_on n k = then_ (posts_on n k) (a_power n ∷ muls n ∷ adds n ∷ [])

abbrev pub names_on : Class → Step
names_on (k.Name b) = takes (after_target ∷ [])
names_on _ = skips

abbrev pub first_on : ℕ → Class → Step
first_on n k.Assign = takes (a_value n ∷ token k.End ∷ [])
first_on n k.AddAssign = takes (a_value n ∷ token k.End ∷ [])
first_on n k.SubAssign = takes (a_value n ∷ token k.End ∷ [])
first_on n k.Comma = takes (later_names ∷ token k.Assign ∷ a_value n ∷ token k.End ∷ [])
first_on n _ = wrong

abbrev pub statement_on : ℕ → Class → Step
statement_on n (k.Name b) = takes (after_first n ∷ [])
statement_on n k.Open = takes (a_word n ∷ after_target ∷ token k.Close ∷ token k.Assign ∷ a_value n ∷ token k.End ∷ [])
statement_on n k.From = takes (token (k.Name true) ∷ token k.Import ∷ token k.Times ∷ token k.End ∷ [])
statement_on n _ = wrong

-- a number for each class
abbrev pub number_of : Class → ℕ
number_of (k.Name true) = 0
number_of (k.Name false) = 1
number_of k.Number = 2
number_of k.Text = 3
number_of k.From = 4
number_of k.Import = 5
number_of k.Foreign = 6
number_of k.Plus = 7
number_of k.Minus = 8
number_of k.Times = 9
number_of k.Divide = 10
number_of k.Power = 11
number_of k.Assign = 12
number_of k.AddAssign = 13
number_of k.SubAssign = 14
number_of k.Open = 15
number_of k.Close = 16
number_of k.OpenList = 17
number_of k.CloseList = 18
number_of k.Comma = 19
number_of k.Dot = 20
number_of k.End = 21

abbrev pub same : Class → Class → Bool
same i j = number_of i == number_of j

abbrev pub if_same : Bool → Step
if_same true = takes []
if_same false = wrong

abbrev pub part_on : Part → Class → Step
part_on (statements n) k = maybe (then_ (statement_on n k) (statements n ∷ []))
part_on (a_statement n) k = statement_on n k
part_on (after_first n) k = first_on n k
part_on later_names k = names_on k
part_on after_target k = comma_on later_names k
part_on (a_value n) k = then_ (sum_on n k) (after_sum n ∷ [])
part_on (a_later n) k = maybe (then_ (sum_on n k) (after_sum n ∷ []))
part_on (after_sum n) k = comma_on (a_later n) k
part_on (a_sum n) k = sum_on n k
part_on (adds n) k = adds_on n k
part_on (a_term n) k = term_on n k
part_on (muls n) k = muls_on n k
part_on (a_signed n) k = signed_on n k
part_on (a_power n) k = power_on n k
part_on (an_atom n) k = atom_on n k
part_on (a_postfix n) k = then_ (atom_on n k) (posts n ∷ [])
part_on (a_post n) k = post_on n k
part_on (posts n) k = posts_on n k
part_on (args n) k = args_on n k
part_on (an_arg n) k = arg_on n k
part_on (after_arg n) k = comma_on (args n) k
part_on (after_name n) k = name_on n k
part_on (a_word n) k = word_on n k
part_on (token j) k = if_same (same j k)

pub data Next : Type 0 where
  goes_on : List Part → Next
  is_wrong : Next
  is_deep : Next

-- one token
abbrev pub step_by : Step → List Part → Next → Next
step_by (takes ps) stack below = goes_on (ps ++ stack)
step_by skips stack below = below
step_by wrong stack below = is_wrong
step_by deep stack below = is_deep

unfoldable pub step : List Part → Class → Next
step [] k = is_wrong
step (p ∷ stack) k = step_by (part_on p k) stack (step stack k)

abbrev pub may_be_empty : Part → Bool
may_be_empty (statements n) = true
may_be_empty later_names = true
may_be_empty after_target = true
may_be_empty (a_later n) = true
may_be_empty (after_sum n) = true
may_be_empty (adds n) = true
may_be_empty (muls n) = true
may_be_empty (a_power n) = true
may_be_empty (posts n) = true
may_be_empty (args n) = true
may_be_empty (after_arg n) = true
may_be_empty (after_name n) = true
may_be_empty _ = false

abbrev pub all_may : List Part → Bool
all_may [] = true
all_may (p ∷ ps) = if may_be_empty p then all_may ps else false

pub data Outcome : Type 0 where
  -- all the tokens are read, and nothing more is wanted, or something is
  ended : Bool → Outcome
  -- the first of the tokens from here on can't come, or is too deep
  stopped : List Lexeme → Outcome
  sank : List Lexeme → Outcome

abbrev pub resume : (List Part → Outcome) → List Lexeme → Next → Outcome
resume go ts (goes_on stack) = go stack
resume go ts is_wrong = stopped ts
resume go ts is_deep = sank ts

unfoldable pub run : List Part → List Lexeme → Outcome
run stack [] = ended (all_may stack)
run stack (t ∷ ts) = resume (λ s. run s ts) (t ∷ ts) (step stack t.class)

-- a name and then `=`
abbrev pub both_are : Class → Class → Bool
both_are (k.Name b) k.Assign = true
both_are _ _ = false

-- what begins a sum
abbrev pub is_first : Class → Bool
is_first (k.Name b) = true
is_first k.Number = true
is_first k.Text = true
is_first k.Open = true
is_first k.OpenList = true
is_first k.Plus = true
is_first k.Minus = true
is_first _ = false

abbrev pub is_post : Class → Bool
is_post k.Open = true
is_post k.OpenList = true
is_post k.Dot = true
is_post _ = false

-- what begins a statement
abbrev pub begins_statement : Class → Bool
begins_statement (k.Name b) = true
begins_statement k.Open = true
begins_statement k.From = true
begins_statement _ = false
