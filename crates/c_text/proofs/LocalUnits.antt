-- Places, fractions, statements, functions and units are read by the tokens in their order
use Rattle.std.proofs.Common.{◌≡◌, refl, sym, ◌∙◌, ap, ap₂, ℕ, zero, suc, ◌&&◌, ◌||◌, ◌==◌, nat_lt, Bool, true, false, if◌then◌else◌, List, [], ◌∷◌, ◌++◌, length, ◌*◌, Option, Some, None, Ok, Err, codes, bytes_eq}
use Rattle.slices.specs.Tokens.{Token}
use Rattle.c_unit.specs.declared.unit.Array.{Array}
use Rattle.c_unit.specs.declared.unit.Array.TheVariants.{T}
use Rattle.c_unit.specs.declared.unit.CFun.{CFun}
use Rattle.c_unit.specs.declared.unit.CStmt.{CStmt, Set, Copy, Abs, Inv, Add, Sub, Mul, Load}
use Rattle.c_unit.specs.declared.unit.CStmt.TheViews as View
use Rattle.c_unit.specs.declared.unit.Place.{Place}
use Rattle.ratio.specs.declared.reduced.Ratio.{Ratio}
use Rattle.c_text.specs.declared.refusal.KernelRefusal.{KernelRefusal}
use Rattle.c_text.specs.declared.refusal.KernelKind.TheVariants as kinds
use Rattle.c_text.specs.declared.place.Scope.{Scope}
use Rattle.c_text.specs.declared.statement.Body.{Body}
use Rattle.c_text.specs.declared.read.ReadUnit.{ReadUnit}
use Rattle.c_text.specs.Stream.{Stream, Read, ◌>>=◌, refusal, shift, expect, expects, repeat, text_ahead, is_ahead}
use Rattle.c_text.specs.Places.{size_in, slot_of, written, target_at, source_at}
use Rattle.c_text.specs.Numbers.{table_value, counter_value}
use Rattle.c_text.specs.Lowest.{fraction_from}
use Rattle.c_text.specs.Fractions.{sign_at, half_at, part_at, bound_by, fraction_at, item_at, further_item_at, add_item, further_items_at, items_at, is_number, table_name_at, is_miscounted, table_at, add_table, tables_at}
use Rattle.c_text.specs.Statements.{set_at, pair_at, copy_at, abs_at, inverse_at, triple_at, add_at, sub_at, mul_at, step_call_at, test_at, table_by, table_of, table_used_at, load_at, call_at, own_counter_at, turns_at, header_at, inside, capped, Bodies, line_of_first, line_ahead, loop_by, call_line_at, line_by, is_call, is_statement, no_body, with_line, add_line, body_by, no_bodies, body_at}
use Rattle.c_text.specs.Units.{without_suffix, is_among, new_name, name_at, size_at, is_name, named_size_at, repeated_at, parameters, signature_at, clear_at, slots_at, end_at, one_turn_each, sizes_at, function_at, is_more_by, is_more, with_function, add_function, no_functions, functions_at}
use Rattle.c_text.proofs.Local.{at, SameHead, Local, Firm, AnyLine, Follows, gives, refuses, goes_on, follows_choice, local_of, firm_shift, bind_local, local_then, firm_then, firm_test, firm_gives, local_ok, OfHead, head_ahead, local_if, firm_if, firm_ahead, local_repeat}
use Rattle.c_text.proofs.LocalReads.{firm_expect, firm_expects, InLine, follows_required, firm_number, firm_array}
use Rattle.c_text.proofs.LocalSlot.{local_slot}

-- ---- places

firm_slot_of : (scope : Scope) (array : Array) → Firm AnyLine (λ s. slot_of scope array s)
unfolding slot_of
firm_slot_of scope array =
    firm_then (firm_expect (codes "[")) _ (λ o. local_then (local_slot scope (size_in scope array)) _ (λ r. firm_gives (firm_expect (codes "]")) (λ c. record { array = array; slot = r })))

firm_target : (scope : Scope) → Firm AnyLine (λ s. target_at scope s)
unfolding target_at
firm_target scope =
    firm_then (firm_expect (codes "&")) _ (λ p. firm_test firm_array _ (λ a line h. follows_choice (written a.0) (goes_on (firm_slot_of scope a.0)) (refuses (refusal kinds.Syntax a.1) h refl (λ s. refl))))

firm_source : (scope : Scope) → Firm AnyLine (λ s. source_at scope s)
unfolding source_at
firm_source scope = firm_then (firm_expect (codes "&")) _ (λ p. firm_then firm_array _ (λ a. firm_slot_of scope a.0))

-- ---- fractions and tables

firm_sign : Firm AnyLine (λ s. sign_at s)
unfolding sign_at
firm_sign =
    firm_test firm_shift _
    (λ t line h.
    follows_choice (bytes_eq t.text (codes "0")) (gives false tt (λ s. refl)) (follows_choice (bytes_eq t.text (codes "1")) (gives true tt (λ s. refl)) (refuses (refusal kinds.Syntax t.line) h refl (λ s. refl))))

firm_half : Firm InLine (λ s. half_at s)
unfolding half_at
firm_half = firm_then (firm_expect (codes ",")) _ (λ c. firm_test firm_shift _ (λ t line h. follows_required _ t.line line h))

firm_part : Firm InLine (λ s. part_at s)
unfolding part_at
firm_part = firm_then firm_half _ (λ h. firm_test firm_half _ (λ l line k. gives _ k (λ s. refl)))

follows_bound : (o : Option Ratio) (l line : ℕ) → l ≡ line → Follows AnyLine line (λ s. bound_by o l s)
follows_bound None l line h = refuses (refusal kinds.Bound l) h refl (λ s. refl)
follows_bound (Some v) l line h = gives v tt (λ s. refl)

firm_fraction : Firm AnyLine (λ s. fraction_at s)
unfolding fraction_at
firm_fraction = firm_then firm_sign _ (λ n. firm_then firm_part _ (λ p. firm_test firm_part _ (λ q line h. follows_bound (fraction_from n p.0 q.0) q.1 line h)))

firm_item : Firm AnyLine (λ s. item_at s)
unfolding item_at
firm_item = firm_then (firm_expect (codes "{")) _ (λ o. firm_then firm_fraction _ (λ v. firm_gives (firm_expect (codes "}")) (λ c. v)))

firm_further_item : Firm AnyLine (λ s. further_item_at s)
unfolding further_item_at
firm_further_item = firm_then (firm_expect (codes ",")) _ (λ c. firm_item)

no_word_ahead : (w : List ℕ) (x : KernelRefusal) → bytes_eq [] w ≡ false → is_ahead w (at [] x) ≡ false
unfolding text_ahead
no_word_ahead w x h = h

local_further_items : (vs : List Ratio) → Local (λ s. further_items_at vs s)
unfolding further_items_at
local_further_items vs =
    local_repeat (λ _ s. is_ahead (codes ",") s) add_item (λ _. head_ahead (codes ",")) (λ _ x. no_word_ahead (codes ",") x refl) (λ vs. firm_gives firm_further_item (λ v. vs ++ v ∷ [])) vs

local_items : Local (λ s. items_at s)
unfolding items_at
local_items = local_if (λ s. is_ahead (codes "}") s) (head_ahead (codes "}")) (local_ok []) (bind_local (local_of _ firm_item) _ (λ v. local_further_items (v ∷ [])))

firm_table_name : (k : ℕ) → Firm AnyLine (λ s. table_name_at k s)
unfolding table_name_at
firm_table_name k = firm_test firm_shift _ (λ t line h. follows_choice (is_number k (table_value t.text)) (gives tt tt (λ s. refl)) (refuses (refusal kinds.Syntax t.line) h refl (λ s. refl)))

firm_table : (k : ℕ) → Firm AnyLine (λ s. table_at k s)
unfolding table_at
firm_table k =
    firm_then (firm_expects (codes "static") (codes "const" ∷ codes "fr_lit" ∷ [])) _
    (λ o. firm_then (firm_table_name k) _
    (λ n. firm_then (firm_expect (codes "[")) _
    (λ b. firm_then firm_number _
    (λ c. firm_then (firm_expects (codes "]") (codes "=" ∷ codes "{" ∷ [])) _
    (λ e. local_then local_items _
    (λ v. firm_test (firm_expect (codes "}")) _
    (λ z line h. follows_choice (is_miscounted (length v) c.0) (refuses (refusal kinds.Bound z) h refl (λ s. refl)) (goes_on (firm_gives (firm_expect (codes ";")) (λ x. v))))))))))

local_tables : Local (λ s. tables_at s)
unfolding tables_at
local_tables = local_repeat (λ _ s. is_ahead (codes "static") s) add_table (λ _. head_ahead (codes "static")) (λ _ x. no_word_ahead (codes "static") x refl) (λ ts. firm_gives (firm_table (length ts)) (λ t. ts ++ t ∷ [])) []

-- ---- calls

firm_set : (scope : Scope) → Firm AnyLine (λ s. set_at scope s)
unfolding set_at
firm_set scope =
    firm_then (firm_expects (codes "fr_set") (codes "(" ∷ [])) _
    (λ o. firm_then (firm_target scope) _ (λ to. firm_then (firm_expect (codes ",")) _ (λ c. firm_then firm_fraction _ (λ v. firm_gives (firm_expects (codes ")") (codes ";" ∷ [])) (λ z. Set to v)))))

firm_pair : (word : List ℕ) (scope : Scope) → Firm AnyLine (λ s. pair_at word scope s)
unfolding pair_at
firm_pair word scope =
    firm_then (firm_expects word (codes "(" ∷ [])) _ (λ o. firm_then (firm_target scope) _ (λ to. firm_then (firm_expect (codes ",")) _ (λ c. firm_gives (firm_source scope) (λ p. (to, p)))))

firm_copy : (scope : Scope) → Firm AnyLine (λ s. copy_at scope s)
unfolding copy_at
firm_copy scope = firm_then (firm_pair (codes "fr_copy") scope) _ (λ p. firm_gives (firm_expects (codes ")") (codes ";" ∷ [])) (λ z. Copy p.0 p.1))

firm_abs : (scope : Scope) → Firm AnyLine (λ s. abs_at scope s)
unfolding abs_at
firm_abs scope = firm_then (firm_pair (codes "fr_abs") scope) _ (λ p. firm_gives (firm_expects (codes ")") (codes ";" ∷ [])) (λ z. Abs p.0 p.1))

firm_inverse : (scope : Scope) → Firm AnyLine (λ s. inverse_at scope s)
unfolding inverse_at
firm_inverse scope = firm_then (firm_pair (codes "fr_inv") scope) _ (λ p. firm_gives (firm_expects (codes ")") (codes ")" ∷ codes "return" ∷ codes "2" ∷ codes ";" ∷ [])) (λ z. Inv p.0 p.1))

firm_triple : (word : List ℕ) (scope : Scope) → Firm AnyLine (λ s. triple_at word scope s)
unfolding triple_at
firm_triple word scope =
    firm_then (firm_pair word scope) _
    (λ p. firm_then (firm_expect (codes ",")) _
    (λ c. firm_then (firm_source scope) _ (λ q. firm_gives (firm_expects (codes ")") (codes ")" ∷ codes "return" ∷ codes "1" ∷ codes ";" ∷ [])) (λ z. (p.0, p.1, q)))))

firm_add : (scope : Scope) → Firm AnyLine (λ s. add_at scope s)
unfolding add_at
firm_add scope = firm_gives (firm_triple (codes "fr_add") scope) (λ t. Add t.0 t.1 t.2)

firm_sub : (scope : Scope) → Firm AnyLine (λ s. sub_at scope s)
unfolding sub_at
firm_sub scope = firm_gives (firm_triple (codes "fr_sub") scope) (λ t. Sub t.0 t.1 t.2)

firm_mul : (scope : Scope) → Firm AnyLine (λ s. mul_at scope s)
unfolding mul_at
firm_mul scope = firm_gives (firm_triple (codes "fr_mul") scope) (λ t. Mul t.0 t.1 t.2)

firm_step_call : (scope : Scope) → Firm AnyLine (λ s. step_call_at scope s)
unfolding step_call_at
firm_step_call scope =
    firm_if (λ s. is_ahead (codes "fr_add") s) (head_ahead (codes "fr_add")) (firm_add scope)
    (firm_if (λ s. is_ahead (codes "fr_sub") s) (head_ahead (codes "fr_sub")) (firm_sub scope)
    (firm_if (λ s. is_ahead (codes "fr_mul") s) (head_ahead (codes "fr_mul")) (firm_mul scope) (firm_inverse scope)))

firm_test_call : (scope : Scope) → Firm AnyLine (λ s. test_at scope s)
unfolding test_at
firm_test_call scope = firm_then (firm_expects (codes "if") (codes "(" ∷ [])) _ (λ o. firm_step_call scope)

follows_table : (o : Option (ℕ × ℕ)) (l line : ℕ) → l ≡ line → Follows AnyLine line (λ s. table_by o l s)
follows_table None l line h = refuses (refusal kinds.Syntax l) h refl (λ s. refl)
follows_table (Some k) l line h = gives k tt (λ s. refl)

firm_table_used : (tables : List (List Ratio)) → Firm AnyLine (λ s. table_used_at tables s)
unfolding table_used_at
firm_table_used tables = firm_test firm_shift _ (λ t line h. follows_table _ t.line line h)

firm_load : (scope : Scope) (tables : List (List Ratio)) → Firm AnyLine (λ s. load_at scope tables s)
unfolding load_at
firm_load scope tables =
    firm_then (firm_expects (codes "fr_load") (codes "(" ∷ codes "&" ∷ codes "T" ∷ codes "[" ∷ [])) _
    (λ o. local_then (local_slot scope scope.t) _
    (λ to. firm_then (firm_expects (codes "]") (codes "," ∷ codes "&" ∷ [])) _
    (λ m. firm_then (firm_table_used tables) _
    (λ k. firm_then (firm_expect (codes "[")) _
    (λ b. local_then (local_slot scope k.1) _ (λ item. firm_gives (firm_expects (codes "]") (codes ")" ∷ codes ";" ∷ [])) (λ z. Load (record { array = T; slot = to }) k.0 item)))))))

firm_call : (scope : Scope) (tables : List (List Ratio)) → Firm AnyLine (λ s. call_at scope tables s)
unfolding call_at
firm_call scope tables =
    firm_if (λ s. is_ahead (codes "fr_set") s) (head_ahead (codes "fr_set")) (firm_set scope)
    (firm_if (λ s. is_ahead (codes "fr_copy") s) (head_ahead (codes "fr_copy")) (firm_copy scope)
    (firm_if (λ s. is_ahead (codes "fr_abs") s) (head_ahead (codes "fr_abs")) (firm_abs scope)
    (firm_if (λ s. is_ahead (codes "fr_load") s) (head_ahead (codes "fr_load")) (firm_load scope tables) (firm_test_call scope))))

-- ---- loops

firm_own_counter : (depth : ℕ) → Firm AnyLine (λ s. own_counter_at depth s)
unfolding own_counter_at
firm_own_counter depth = firm_test firm_shift _ (λ t line h. follows_choice (is_number depth (counter_value t.text)) (gives tt tt (λ s. refl)) (refuses (refusal kinds.Syntax t.line) h refl (λ s. refl)))

firm_turns : Firm AnyLine (λ s. turns_at s)
unfolding turns_at
firm_turns = firm_test firm_number _ (λ n line h. follows_choice (n.0 == 0) (refuses (refusal kinds.Bound n.1) h refl (λ s. refl)) (gives n.0 tt (λ s. refl)))

firm_header : (depth : ℕ) → Firm AnyLine (λ s. header_at depth s)
unfolding header_at
firm_header depth =
    firm_then (firm_expects (codes "for") (codes "(" ∷ codes "int" ∷ [])) _
    (λ o. firm_then (firm_own_counter depth) _
    (λ i. firm_then (firm_expects (codes "=") (codes "0" ∷ codes ";" ∷ [])) _
    (λ e. firm_then (firm_own_counter depth) _
    (λ j. firm_then (firm_expect (codes "<")) _
    (λ l. firm_then firm_turns _
    (λ n. firm_then (firm_expect (codes ";")) _ (λ m. firm_then (firm_own_counter depth) _ (λ k. firm_gives (firm_expects (codes "++") (codes ")" ∷ codes "{" ∷ [])) (λ z. n)))))))))

abbrev AreLocal : Bodies → Type 0
AreLocal bodies = (scope : Scope) (tables : List (List Ratio)) → Local (λ s. bodies scope tables s)

firm_loop : (bodies : Bodies) → AreLocal bodies → (line : ℕ) (scope : Scope) (tables : List (List Ratio)) → Firm AnyLine (λ s. loop_by bodies line scope tables s)
unfolding loop_by
firm_loop bodies h line scope tables =
    firm_then (firm_header scope.depth) _
    (λ n. local_then (h (inside scope n) tables) _
    (λ b. firm_gives (firm_expect (codes "}")) (λ c. record { statement = View.For n b.statements; lines = line ∷ b.lines; count = capped (b.count * n) })))

firm_call_line : (line : ℕ) (scope : Scope) (tables : List (List Ratio)) → Firm AnyLine (λ s. call_line_at line scope tables s)
unfolding call_line_at
firm_call_line line scope tables = firm_gives (firm_call scope tables) (λ c. record { statement = c; lines = line ∷ []; count = 1 })

head_line : OfHead (λ s. line_ahead s)
unfolding line_ahead
head_line [] [] x y h = refl
head_line [] (u ∷ us) x y h = absurd h
head_line (t ∷ ts) [] x y h = absurd h
head_line (t ∷ ts) (u ∷ us) x y h = ap (λ v. v.line) h

head_both : (b : Bool) (w : List ℕ) → OfHead (λ s. b && is_ahead w s)
head_both b w ts us x y h = ap (λ v. b && v) (head_ahead w ts us x y h)

firm_line : (loops : Bool) (bodies : Bodies) → AreLocal bodies → (scope : Scope) (tables : List (List Ratio)) → Firm AnyLine (λ s. line_by loops bodies scope tables s)
unfolding line_by
firm_line loops bodies h scope tables =
    firm_ahead (λ s. line_ahead s) (λ l s. if loops && is_ahead (codes "for") s then loop_by bodies l scope tables s else call_line_at l scope tables s) head_line
    (λ l. firm_if (λ s. loops && is_ahead (codes "for") s) (head_both loops (codes "for")) (firm_loop bodies h l scope tables) (firm_call_line l scope tables))

head_either : (f g : Stream → Bool) → OfHead f → OfHead g → OfHead (λ s. f s || g s)
head_either f g k l ts us x y h = ap₂ (λ a b. a || b) (k ts us x y h) (l ts us x y h)

abbrev ahead : List ℕ → Stream → Bool
ahead w s = is_ahead w s

head_call : OfHead (λ s. is_call s)
unfolding is_call
head_call =
    head_either (ahead (codes "fr_set")) (λ s. ahead (codes "fr_copy") s || (ahead (codes "fr_abs") s || (ahead (codes "fr_load") s || ahead (codes "if") s))) (head_ahead (codes "fr_set"))
    (head_either (ahead (codes "fr_copy")) (λ s. ahead (codes "fr_abs") s || (ahead (codes "fr_load") s || ahead (codes "if") s)) (head_ahead (codes "fr_copy"))
    (head_either (ahead (codes "fr_abs")) (λ s. ahead (codes "fr_load") s || ahead (codes "if") s) (head_ahead (codes "fr_abs"))
    (head_either (ahead (codes "fr_load")) (ahead (codes "if")) (head_ahead (codes "fr_load")) (head_ahead (codes "if")))))

head_statement : (loops : Bool) → OfHead (λ s. is_statement loops s)
head_statement loops = head_either (λ s. is_call s) (λ s. loops && is_ahead (codes "for") s) head_call (head_both loops (codes "for"))

no_statement : (loops : Bool) (x : KernelRefusal) → is_statement loops (at [] x) ≡ false
unfolding is_call text_ahead
no_statement true x = refl
no_statement false x = refl

local_body_by : (loops : Bool) (bodies : Bodies) → AreLocal bodies → (scope : Scope) (tables : List (List Ratio)) → Local (λ s. body_by loops bodies scope tables s)
local_body_by loops bodies h scope tables =
    local_repeat (λ _ s. is_statement loops s) (add_line (line_by loops bodies) scope tables) (λ _. head_statement loops) (λ _ x. no_statement loops x)
    (λ b. firm_gives (firm_line loops bodies h scope tables) (λ l. with_line b l)) no_body

local_body : (room : ℕ) → AreLocal (body_at room)
unfolding body_at
local_body zero scope tables = local_body_by false no_bodies (λ _ _. local_ok no_body) scope tables
local_body (suc room) scope tables = local_body_by true (body_at room) (local_body room) scope tables

-- ---- functions and units

follows_name : (funs : List CFun) (o : Option (List ℕ)) (l line : ℕ) → l ≡ line → Follows AnyLine line (λ s. new_name funs o l s)
follows_name funs None l line h = refuses (refusal kinds.Syntax l) h refl (λ s. refl)
follows_name funs (Some name) l line h =
    follows_choice (length name == 0) (refuses (refusal kinds.Syntax l) h refl (λ s. refl)) (follows_choice (is_among funs name) (refuses (refusal kinds.Bound l) h refl (λ s. refl)) (gives name tt (λ s. refl)))

firm_name : (funs : List CFun) → Firm AnyLine (λ s. name_at funs s)
unfolding name_at
firm_name funs = firm_test firm_shift _ (λ t line h. follows_name funs (without_suffix t.text (codes "_X")) t.line line h)

firm_size : (least : ℕ) → Firm AnyLine (λ s. size_at least s)
unfolding size_at
firm_size least =
    firm_then (firm_expect (codes "=")) _
    (λ e. firm_test firm_number _ (λ n line h. follows_choice (nat_lt n.0 least || nat_lt 16777216 n.0) (refuses (refusal kinds.Bound n.1) h refl (λ s. refl)) (gives n.0 tt (λ s. refl))))

firm_named_size : (name suffix : List ℕ) (least : ℕ) → Firm AnyLine (λ s. named_size_at name suffix least s)
unfolding named_size_at
firm_named_size name suffix least =
    firm_then (firm_expect (codes ",")) _
    (λ c. firm_test firm_shift _ (λ t line h. follows_choice (is_name name (without_suffix t.text suffix)) (goes_on (firm_size least)) (refuses (refusal kinds.Syntax t.line) h refl (λ s. refl))))

firm_repeated : (size : ℕ) → Firm AnyLine (λ s. repeated_at size s)
unfolding repeated_at
firm_repeated size = firm_test firm_number _ (λ n line h. follows_choice (n.0 == size) (gives tt tt (λ s. refl)) (refuses (refusal kinds.Bound n.1) h refl (λ s. refl)))

firm_signature : (name : List ℕ) → Firm AnyLine (λ s. signature_at name s)
unfolding signature_at
firm_signature name = firm_then (firm_expect (codes "int")) _ (λ i. firm_then (firm_expect name) _ (λ n. firm_expects _ _))

firm_clear : (array : List ℕ) (size : ℕ) → Firm AnyLine (λ s. clear_at array size s)
unfolding clear_at
firm_clear array size =
    firm_then (firm_expects (codes "fr_clear") (codes "(" ∷ array ∷ codes "," ∷ [])) _ (λ o. firm_then (firm_repeated size) _ (λ n. firm_expects (codes ")") (codes ";" ∷ [])))

firm_slots : (t a : ℕ) → Firm AnyLine (λ s. slots_at t a s)
unfolding slots_at
firm_slots t a =
    firm_then (firm_expects (codes "{") (codes "fr" ∷ codes "T" ∷ codes "[" ∷ [])) _
    (λ o. firm_then (firm_repeated t) _ (λ n. firm_then (firm_expects (codes "]") (codes ";" ∷ [])) _ (λ c. firm_then (firm_clear (codes "T") t) _ (λ m. firm_clear (codes "A") a))))

firm_end : (count : ℕ) → Firm AnyLine (λ s. end_at count s)
unfolding end_at
firm_end count =
    firm_then (firm_expects (codes "return") (codes "0" ∷ codes ";" ∷ [])) _
    (λ r. firm_test (firm_expect (codes "}")) _ (λ z line h. follows_choice (nat_lt 67108864 count) (refuses (refusal kinds.Bound z) h refl (λ s. refl)) (gives tt tt (λ s. refl))))

firm_sizes : (funs : List CFun) → Firm AnyLine (λ s. sizes_at funs s)
unfolding sizes_at
firm_sizes funs =
    firm_then (firm_expect (codes "{")) _
    (λ o. firm_then (firm_name funs) _
    (λ n. firm_then (firm_size 0) _
    (λ x. firm_then (firm_named_size n (codes "_W") 0) _
    (λ w. firm_then (firm_named_size n (codes "_T") 1) _
    (λ t. firm_then (firm_named_size n (codes "_A") 0) _
    (λ a. firm_gives (firm_expects (codes "}") (codes ";" ∷ [])) (λ z. (n, record { x = x; w = w; t = t; a = a; turns = one_turn_each; depth = 0 }))))))))

firm_function : (funs : List CFun) → Firm AnyLine (λ s. function_at funs s)
unfolding function_at
firm_function funs =
    firm_then (firm_expect (codes "enum")) _
    (λ e. firm_then (firm_sizes funs) _
    (λ z. firm_then (firm_signature z.0) _
    (λ g. firm_then (firm_slots z.1.t z.1.a) _
    (λ o. local_then local_tables _
    (λ k. local_then (local_body 4 z.1 k) _
    (λ b. firm_gives (firm_end b.count)
    (λ r. record { fun = record { name = z.0; x = z.1.x; w = z.1.w; t = z.1.t; a = z.1.a; tables = k; body = b.statements }; line = e; lines = b.lines })))))))

head_is_more : OfHead (λ s. is_more s)
unfolding is_more
head_is_more [] [] x y h = refl
head_is_more [] (u ∷ us) x y h = absurd h
head_is_more (t ∷ ts) [] x y h = absurd h
head_is_more (t ∷ ts) (u ∷ us) x y h = refl

none_is_more : (x : KernelRefusal) → is_more (at [] x) ≡ false
unfolding is_more
none_is_more x = refl

local_functions : Local (λ s. functions_at s)
unfolding functions_at
local_functions = local_repeat (λ _ s. is_more s) add_function (λ _. head_is_more) (λ _ x. none_is_more x) (λ u. firm_gives (firm_function u.unit.funs) (λ f. with_function u f)) no_functions

-- the two first words, and the functions
abbrev pub whole_at : Stream → Read ReadUnit
whole_at s = expects (codes "#include" ∷ codes "\"fr.h\"" ∷ []) s >>= λ h. functions_at h.1

pub local_whole : Local (λ s. whole_at s)
local_whole = bind_local (local_of _ (firm_expects (codes "#include") (codes "\"fr.h\"" ∷ []))) _ (λ h. local_functions)
