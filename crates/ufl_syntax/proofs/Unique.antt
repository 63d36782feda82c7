-- One list of tokens is one list of statements.
use Rattle.std.proofs.Common.{[], ◌∷◌, ◌≡◌, true, false, Bool, List, ℕ, suc, Some, None, refl, sym, ap, subst, ◌∙◌}
use Rattle.ufl_syntax.specs.declared.span.Span.{Span}
use Rattle.ufl_syntax.specs.declared.class.Class.{Class}
use Rattle.ufl_syntax.specs.declared.class.Class.TheVariants as k
use Rattle.ufl_syntax.specs.declared.class.Lexeme.{Lexeme}
use Rattle.ufl_syntax.specs.declared.tree.AssignOp.{AssignOp}
use Rattle.ufl_syntax.specs.declared.tree.AssignOp.TheVariants as o
use Rattle.ufl_syntax.specs.declared.tree.Stmt.{Stmt}
use Rattle.ufl_syntax.specs.declared.tree.Syn.{Syn}
use Rattle.ufl_syntax.specs.declared.tree.Syn.TheVariants as s
use Rattle.ufl_syntax.specs.declared.tree.Next.{Next}
use Rattle.ufl_syntax.specs.declared.tree.Post.{Post}
use Rattle.ufl_syntax.specs.declared.tree.Post.TheVariants as p
use Rattle.ufl_syntax.specs.declared.tree.Arg.{Arg}
use Rattle.ufl_syntax.specs.Grammar.{is_sign, is_factor, updates, first_line, next, chain, applied, argument, Value, single, tuple, Later, no_later, last, further, Sum, sum, Adds, no_add, add, Term, term, Muls, no_mul, mul, Signed, sign, plain, power, Postfix, postfix, Posts, no_post, one_post, OnePost, call, index, attr, Args, no_arg, last_arg, further_arg, OneArg, positional, keyed, Atom, a_name, a_number, a_text, bracketed, a_list, LaterNames, no_name, last_name, further_name, Names, one_name, several_names, Targets, bare_targets, bracketed_targets, Statement, imports, assigns, updated, File, no_statement, one_statement}
use Rattle.ufl_syntax.specs.Machine.{run, Outcome, is_first, is_post, begins_statement, a_sum, a_term, a_signed, a_postfix, an_atom, a_post, an_arg, a_word, after_target, a_statement}
use Rattle.ufl_syntax.proofs.Viable.{left_of}
use Rattle.ufl_syntax.proofs.Statements.{same_statement}
use Rattle.ufl_syntax.proofs.Complete.{Ends, Heads, more, more_arg, more_sum, more_term, more_signed, more_names, ends_by, more_more_arg, more_more_sum, arg_sum, signed_post, adds_end, muls_end, postfix_plain, sum_first, arg_first, post_first, statement_first, rest_not_assign, run_none, run_nothing, c_sum, c_term, c_signed, c_postfix, c_post, c_arg, c_atom, c_names, c_statement}

all_left : (ts : List Lexeme) → left_of (run [] ts) ≡ ts
all_left [] = ap left_of run_nothing
all_left (t ∷ ts) = ap left_of (run_none t ts)

-- what is left is the same
one_rest : (o : Outcome) (rest others : List Lexeme) → o ≡ run [] rest → o ≡ run [] others → rest ≡ others
one_rest o rest others h i = sym (all_left rest) ∙ ap left_of (sym h ∙ i) ∙ all_left others

first_more : (j : Class) → is_first j ≡ true → more j ≡ false → ⊥
first_more (k.Name b) h e = cc
first_more k.Number h e = cc
first_more k.Text h e = cc
first_more k.Open h e = cc
first_more k.OpenList h e = cc
first_more k.Plus h e = cc
first_more k.Minus h e = cc
first_more _ h e = cc

clash_first : (ts : List Lexeme) → Heads is_first true ts → Ends more ts → ⊥
clash_first [] h e = h
clash_first (t ∷ ts) h e = first_more t.class h e

clash_post : (ts : List Lexeme) → Heads is_post true ts → Ends is_post ts → ⊥
clash_post [] h e = h
clash_post (t ∷ ts) h e = let x : true ≡ false = sym h ∙ e in cc

sign_more : (j : Class) → is_sign j ≡ true → more_sum j ≡ false → ⊥
sign_more k.Plus h e = cc
sign_more k.Minus h e = cc
sign_more _ h e = cc

factor_more : (j : Class) → is_factor j ≡ true → more_term j ≡ false → ⊥
factor_more k.Times h e = cc
factor_more k.Divide h e = cc
factor_more _ h e = cc

begins_clash : (ts : List Lexeme) → Heads begins_statement true ts → Ends begins_statement ts → ⊥
begins_clash [] h e = h
begins_clash (t ∷ ts) h e = let x : true ≡ false = sym h ∙ e in cc

-- what can't go on begins with this token
clash_at : (f : Class → Bool) (rest : List Lexeme) (c : Lexeme) (mid : List Lexeme) (j : Class) → Ends f rest → rest ≡ c ∷ mid → c.class ≡ j → f j ≡ true → ⊥
clash_at f rest c mid j e h i x =
    let y : f c.class ≡ false = subst (Ends f) h e in
    let z : true ≡ false = sym x ∙ ap f (sym i) ∙ y in
    cc

pub tails : (t u : Lexeme) (ts us : List Lexeme) → t ∷ ts ≡ u ∷ us → (t ≡ u) × (ts ≡ us)
tails t u ts us h = (cc, cc)

abbrev is_open : Class → Bool
is_open k.Open = true
is_open _ = false

abbrev is_from : Class → Bool
is_from k.From = true
is_from _ = false

mutual
  pub u_value : {n : ℕ} {ts : List Lexeme} {e : Syn} {rest : List Lexeme} → Value n ts e rest → Ends more rest → (x : Syn) (others : List Lexeme) → Value n ts x others → Ends more others → e ≡ x
  u_value {rest = rest} (single d) end x others (single d') end' = u_sum d (ends_by more more_sum more_more_sum rest end) x others d' (ends_by more more_sum more_more_sum others end')
  u_value {n = n} {ts = ts} {rest = rest} (single d) end x others (tuple {comma = c} {mid = m} d' h' l') end' =
      absurd (clash_at more rest c m k.Comma end
      (one_rest (run (a_sum n ∷ []) ts) rest (c ∷ m) (c_sum d (ends_by more more_sum more_more_sum rest end) []) (c_sum d' (ap more_sum h') [])) h' refl)
  u_value {n = n} {ts = ts} (tuple {comma = c} {mid = m} d h l) end x others (single d') end' =
      absurd (clash_at more others c m k.Comma end'
      (one_rest (run (a_sum n ∷ []) ts) others (c ∷ m) (c_sum d' (ends_by more more_sum more_more_sum others end') []) (c_sum d (ap more_sum h) [])) h refl)
  u_value {n = n} {ts = ts} (tuple {e = e} {comma = c} {mid = m} {es = es} d h l) end x others (tuple {e = e'} {comma = c'} {mid = m'} {es = es'} d' h' l') end' =
      let r = tails c c' m m' (one_rest (run (a_sum n ∷ []) ts) (c ∷ m) (c' ∷ m') (c_sum d (ap more_sum h) []) (c_sum d' (ap more_sum h') [])) in
      let a = u_sum d (ap more_sum h) e' (c' ∷ m') d' (ap more_sum h') in
      let b = u_later l end es' others (subst (λ us. Later n us es' others) (sym r.1) l') end' in
      ap (λ t. s.Tuple t.span (e ∷ es)) r.0 ∙ ap (λ v. s.Tuple c'.span (v ∷ es)) a ∙ ap (λ v. s.Tuple c'.span (e' ∷ v)) b

  pub u_later : {n : ℕ} {ts : List Lexeme} {es : List Syn} {rest : List Lexeme} → Later n ts es rest → Ends more rest → (xs : List Syn) (others : List Lexeme) → Later n ts xs others → Ends more others → es ≡ xs
  u_later no_later end xs others no_later end' = refl
  u_later {ts = ts} no_later end xs others (last d') end' = absurd (clash_first ts (sum_first d') end)
  u_later {ts = ts} no_later end xs others (further d' h' l') end' = absurd (clash_first ts (sum_first d') end)
  u_later {ts = ts} (last d) end xs others no_later end' = absurd (clash_first ts (sum_first d) end')
  u_later {rest = rest} (last d) end xs others (last {e = e'} d') end' = ap (λ v. v ∷ []) (u_sum d (ends_by more more_sum more_more_sum rest end) e' others d' (ends_by more more_sum more_more_sum others end'))
  u_later {n = n} {ts = ts} {rest = rest} (last d) end xs others (further {comma = c} {mid = m} d' h' l') end' =
      absurd (clash_at more rest c m k.Comma end
      (one_rest (run (a_sum n ∷ []) ts) rest (c ∷ m) (c_sum d (ends_by more more_sum more_more_sum rest end) []) (c_sum d' (ap more_sum h') [])) h' refl)
  u_later {ts = ts} (further d h l) end xs others no_later end' = absurd (clash_first ts (sum_first d) end')
  u_later {n = n} {ts = ts} (further {comma = c} {mid = m} d h l) end xs others (last d') end' =
      absurd (clash_at more others c m k.Comma end'
      (one_rest (run (a_sum n ∷ []) ts) others (c ∷ m) (c_sum d' (ends_by more more_sum more_more_sum others end') []) (c_sum d (ap more_sum h) [])) h refl)
  u_later {n = n} {ts = ts} (further {e = e} {comma = c} {mid = m} {es = es} d h l) end xs others (further {e = e'} {comma = c'} {mid = m'} {es = es'} d' h' l') end' =
      let r = tails c c' m m' (one_rest (run (a_sum n ∷ []) ts) (c ∷ m) (c' ∷ m') (c_sum d (ap more_sum h) []) (c_sum d' (ap more_sum h') [])) in
      let a = u_sum d (ap more_sum h) e' (c' ∷ m') d' (ap more_sum h') in
      let b = u_later l end es' others (subst (λ us. Later n us es' others) (sym r.1) l') end' in
      ap (λ v. v ∷ es) a ∙ ap (λ v. e' ∷ v) b

  pub u_sum : {n : ℕ} {ts : List Lexeme} {e : Syn} {rest : List Lexeme} → Sum n ts e rest → Ends more_sum rest → (x : Syn) (others : List Lexeme) → Sum n ts x others → Ends more_sum others → e ≡ x
  u_sum {n = n} {ts = ts} (sum {e = e} {mid = m} {ns = ns} a b) end x others (sum {e = e'} {mid = m'} {ns = ns'} a' b') end' =
      let r = one_rest (run (a_term n ∷ []) ts) m m' (c_term a (adds_end b end) []) (c_term a' (adds_end b' end') []) in
      let u = u_term a (adds_end b end) e' m' a' (adds_end b' end') in
      let v = u_adds b end ns' others (subst (λ us. Adds n us ns' others) (sym r) b') end' in
      ap (λ y. chain y ns) u ∙ ap (chain e') v

  pub u_adds : {n : ℕ} {ts : List Lexeme} {ns : List Next} {rest : List Lexeme} → Adds n ts ns rest → Ends more_sum rest → (xs : List Next) (others : List Lexeme) → Adds n ts xs others → Ends more_sum others → ns ≡ xs
  u_adds no_add end xs others no_add end' = refl
  u_adds no_add end xs others (add {op = op} h' a' b') end' = absurd (sign_more op.class h' end)
  u_adds (add {op = op} h a b) end xs others no_add end' = absurd (sign_more op.class h end')
  u_adds {n = n} (add {op = op} {ts = us} {e = e} {mid = m} {ns = ns} h a b) end xs others (add {e = e'} {mid = m'} {ns = ns'} h' a' b') end' =
      let r = one_rest (run (a_term n ∷ []) us) m m' (c_term a (adds_end b end) []) (c_term a' (adds_end b' end') []) in
      let u = u_term a (adds_end b end) e' m' a' (adds_end b' end') in
      let v = u_adds b end ns' others (subst (λ us. Adds n us ns' others) (sym r) b') end' in
      ap (λ y. next op y ∷ ns) u ∙ ap (λ y. next op e' ∷ y) v

  pub u_term : {n : ℕ} {ts : List Lexeme} {e : Syn} {rest : List Lexeme} → Term n ts e rest → Ends more_term rest → (x : Syn) (others : List Lexeme) → Term n ts x others → Ends more_term others → e ≡ x
  u_term {n = n} {ts = ts} (term {e = e} {mid = m} {ns = ns} a b) end x others (term {e = e'} {mid = m'} {ns = ns'} a' b') end' =
      let r = one_rest (run (a_signed n ∷ []) ts) m m' (c_signed a (muls_end b end) []) (c_signed a' (muls_end b' end') []) in
      let u = u_signed a (muls_end b end) e' m' a' (muls_end b' end') in
      let v = u_muls b end ns' others (subst (λ us. Muls n us ns' others) (sym r) b') end' in
      ap (λ y. chain y ns) u ∙ ap (chain e') v

  pub u_muls : {n : ℕ} {ts : List Lexeme} {ns : List Next} {rest : List Lexeme} → Muls n ts ns rest → Ends more_term rest → (xs : List Next) (others : List Lexeme) → Muls n ts xs others → Ends more_term others → ns ≡ xs
  u_muls no_mul end xs others no_mul end' = refl
  u_muls no_mul end xs others (mul {op = op} h' a' b') end' = absurd (factor_more op.class h' end)
  u_muls (mul {op = op} h a b) end xs others no_mul end' = absurd (factor_more op.class h end')
  u_muls {n = n} (mul {op = op} {ts = us} {e = e} {mid = m} {ns = ns} h a b) end xs others (mul {e = e'} {mid = m'} {ns = ns'} h' a' b') end' =
      let r = one_rest (run (a_signed n ∷ []) us) m m' (c_signed a (muls_end b end) []) (c_signed a' (muls_end b' end') []) in
      let u = u_signed a (muls_end b end) e' m' a' (muls_end b' end') in
      let v = u_muls b end ns' others (subst (λ us. Muls n us ns' others) (sym r) b') end' in
      ap (λ y. next op y ∷ ns) u ∙ ap (λ y. next op e' ∷ y) v

  pub u_signed : {n : ℕ} {ts : List Lexeme} {e : Syn} {rest : List Lexeme} → Signed n ts e rest → Ends more_signed rest → (x : Syn) (others : List Lexeme) → Signed n ts x others → Ends more_signed others → e ≡ x
  u_signed (sign {op = op} h a) end x others (sign {e = e'} h' a') end' = ap (s.Sign op.span) (u_signed a end e' others a' end')
  u_signed (sign {op = op} h a) end x others (plain a') end' = let y : true ≡ false = sym h ∙ postfix_plain a' in cc
  u_signed (sign {op = op} h a) end x others (power a' h' b') end' = let y : true ≡ false = sym h ∙ postfix_plain a' in cc
  u_signed (plain a) end x others (sign h' a') end' = let y : true ≡ false = sym h' ∙ postfix_plain a in cc
  u_signed {rest = rest} (plain a) end x others (plain a') end' = u_postfix a (ends_by more_signed is_post signed_post rest end) x others a' (ends_by more_signed is_post signed_post others end')
  u_signed {n = n} {ts = ts} {rest = rest} (plain a) end x others (power {op = op} {mid = m} a' h' b') end' =
      absurd (clash_at more_signed rest op m k.Power end
      (one_rest (run (a_postfix _ ∷ []) ts) rest (op ∷ m) (c_postfix a (ends_by more_signed is_post signed_post rest end) []) (c_postfix a' (ap is_post h') [])) h' refl)
  u_signed (power a h b) end x others (sign h' a') end' = let y : true ≡ false = sym h' ∙ postfix_plain a in cc
  u_signed {ts = ts} (power {op = op} {mid = m} a h b) end x others (plain a') end' =
      absurd (clash_at more_signed others op m k.Power end'
      (one_rest (run (a_postfix _ ∷ []) ts) others (op ∷ m) (c_postfix a' (ends_by more_signed is_post signed_post others end') []) (c_postfix a (ap is_post h) [])) h refl)
  u_signed {ts = ts} (power {n = n} {e = e} {op = op} {mid = m} {x = y} a h b) end x others (power {e = e'} {op = op'} {mid = m'} {x = y'} a' h' b') end' =
      let r = tails op op' m m' (one_rest (run (a_postfix (suc n) ∷ []) ts) (op ∷ m) (op' ∷ m') (c_postfix a (ap is_post h) []) (c_postfix a' (ap is_post h') [])) in
      let u = u_postfix a (ap is_post h) e' (op' ∷ m') a' (ap is_post h') in
      let v = u_signed b end y' others (subst (λ us. Signed n us y' others) (sym r.1) b') end' in
      ap (λ z. s.Binary z (next op y ∷ [])) u ∙ ap (λ z. s.Binary e' (next z y ∷ [])) r.0 ∙ ap (λ z. s.Binary e' (next op' z ∷ [])) v

  pub u_postfix : {n : ℕ} {ts : List Lexeme} {e : Syn} {rest : List Lexeme} → Postfix n ts e rest → Ends is_post rest → (x : Syn) (others : List Lexeme) → Postfix n ts x others → Ends is_post others → e ≡ x
  u_postfix {n = n} {ts = ts} (postfix {e = e} {mid = m} {ps = ps} a b) end x others (postfix {e = e'} {mid = m'} {ps = ps'} a' b') end' =
      let r = one_rest (run (an_atom n ∷ []) ts) m m' (c_atom a []) (c_atom a' []) in
      let u = u_atom a e' m' a' in
      let v = u_posts b end ps' others (subst (λ us. Posts n us ps' others) (sym r) b') end' in
      ap (λ y. applied y ps) u ∙ ap (applied e') v

  pub u_posts : {n : ℕ} {ts : List Lexeme} {ps : List Post} {rest : List Lexeme} → Posts n ts ps rest → Ends is_post rest → (xs : List Post) (others : List Lexeme) → Posts n ts xs others → Ends is_post others → ps ≡ xs
  u_posts no_post end xs others no_post end' = refl
  u_posts {ts = ts} no_post end xs others (one_post a' b') end' = absurd (clash_post ts (post_first a') end)
  u_posts {ts = ts} (one_post a b) end xs others no_post end' = absurd (clash_post ts (post_first a) end')
  u_posts {n = n} {ts = ts} (one_post {q = q} {mid = m} {ps = ps} a b) end xs others (one_post {q = q'} {mid = m'} {ps = ps'} a' b') end' =
      let r = one_rest (run (a_post n ∷ []) ts) m m' (c_post a []) (c_post a' []) in
      let u = u_post a q' m' a' in
      let v = u_posts b end ps' others (subst (λ us. Posts n us ps' others) (sym r) b') end' in
      ap (λ y. y ∷ ps) u ∙ ap (λ y. q' ∷ y) v

  pub u_post : {n : ℕ} {ts : List Lexeme} {q : Post} {rest : List Lexeme} → OnePost n ts q rest → (x : Post) (others : List Lexeme) → OnePost n ts x others → q ≡ x
  u_post (call {open_ = t} h a i) x others (call {as_ = as_} {close = c} h' a' i') = ap (p.Call t.span) (u_args a (ap more i) as_ (c ∷ others) a' (ap more i'))
  u_post (call h a i) x others (index h' a' i') = let y : k.Open ≡ k.OpenList = sym h ∙ h' in cc
  u_post (call h a i) x others (attr h' i') = let y : k.Open ≡ k.Dot = sym h ∙ h' in cc
  u_post (index h a i) x others (call h' a' i') = let y : k.OpenList ≡ k.Open = sym h ∙ h' in cc
  u_post (index {open_ = t} h a i) x others (index {e = e} {close = c} h' a' i') = ap (p.Index t.span) (u_value a (ap more i) e (c ∷ others) a' (ap more i'))
  u_post (index h a i) x others (attr h' i') = let y : k.OpenList ≡ k.Dot = sym h ∙ h' in cc
  u_post (attr h i) x others (call h' a' i') = let y : k.Dot ≡ k.Open = sym h ∙ h' in cc
  u_post (attr h i) x others (index h' a' i') = let y : k.Dot ≡ k.OpenList = sym h ∙ h' in cc
  u_post (attr h i) x others (attr h' i') = refl

  pub u_args : {n : ℕ} {ts : List Lexeme} {as_ : List Arg} {rest : List Lexeme} → Args n ts as_ rest → Ends more rest → (xs : List Arg) (others : List Lexeme) → Args n ts xs others → Ends more others → as_ ≡ xs
  u_args no_arg end xs others no_arg end' = refl
  u_args {ts = ts} no_arg end xs others (last_arg d') end' = absurd (clash_first ts (arg_first d') end)
  u_args {ts = ts} no_arg end xs others (further_arg d' h' l') end' = absurd (clash_first ts (arg_first d') end)
  u_args {ts = ts} (last_arg d) end xs others no_arg end' = absurd (clash_first ts (arg_first d) end')
  u_args {rest = rest} (last_arg d) end xs others (last_arg {a = a'} d') end' = ap (λ v. v ∷ []) (u_arg d (ends_by more more_arg more_more_arg rest end) a' others d' (ends_by more more_arg more_more_arg others end'))
  u_args {n = n} {ts = ts} {rest = rest} (last_arg d) end xs others (further_arg {comma = c} {mid = m} d' h' l') end' =
      absurd (clash_at more rest c m k.Comma end
      (one_rest (run (an_arg n ∷ []) ts) rest (c ∷ m) (c_arg d (ends_by more more_arg more_more_arg rest end) []) (c_arg d' (ap more_arg h') [])) h' refl)
  u_args {ts = ts} (further_arg d h l) end xs others no_arg end' = absurd (clash_first ts (arg_first d) end')
  u_args {n = n} {ts = ts} (further_arg {comma = c} {mid = m} d h l) end xs others (last_arg d') end' =
      absurd (clash_at more others c m k.Comma end'
      (one_rest (run (an_arg n ∷ []) ts) others (c ∷ m) (c_arg d' (ends_by more more_arg more_more_arg others end') []) (c_arg d (ap more_arg h) [])) h refl)
  u_args {n = n} {ts = ts} (further_arg {a = a} {comma = c} {mid = m} {as_ = as_} d h l) end xs others (further_arg {a = a'} {comma = c'} {mid = m'} {as_ = bs} d' h' l') end' =
      let r = tails c c' m m' (one_rest (run (an_arg n ∷ []) ts) (c ∷ m) (c' ∷ m') (c_arg d (ap more_arg h) []) (c_arg d' (ap more_arg h') [])) in
      let u = u_arg d (ap more_arg h) a' (c' ∷ m') d' (ap more_arg h') in
      let v = u_args l end bs others (subst (λ us. Args n us bs others) (sym r.1) l') end' in
      ap (λ y. y ∷ as_) u ∙ ap (λ y. a' ∷ y) v

  pub u_arg : {n : ℕ} {ts : List Lexeme} {a : Arg} {rest : List Lexeme} → OneArg n ts a rest → Ends more_arg rest → (x : Arg) (others : List Lexeme) → OneArg n ts x others → Ends more_arg others → a ≡ x
  u_arg {rest = rest} (positional d) end x others (positional {e = e'} d') end' = ap (argument None) (u_sum d (ends_by more_arg more_sum arg_sum rest end) e' others d' (ends_by more_arg more_sum arg_sum others end'))
  u_arg {n = n} {rest = rest} (positional d) end x others (keyed {name = t} {b = b} {eq = u} {ts = us} h' i' d') end' =
      absurd (rest_not_assign n t (u ∷ us) rest b h' end (c_sum d (ends_by more_arg more_sum arg_sum rest end) []) i')
  u_arg {n = n} (keyed {name = t} {b = b} {eq = u} {ts = us} h i d) end x others (positional d') end' =
      absurd (rest_not_assign n t (u ∷ us) others b h end' (c_sum d' (ends_by more_arg more_sum arg_sum others end') []) i)
  u_arg {rest = rest} (keyed {name = t} h i d) end x others (keyed {e = e'} h' i' d') end' =
      ap (argument (Some t.span)) (u_sum d (ends_by more_arg more_sum arg_sum rest end) e' others d' (ends_by more_arg more_sum arg_sum others end'))

  pub u_atom : {n : ℕ} {ts : List Lexeme} {e : Syn} {rest : List Lexeme} → Atom n ts e rest → (x : Syn) (others : List Lexeme) → Atom n ts x others → e ≡ x
  u_atom (a_name {b = b} h) x others (a_name {b = b'} h') = refl
  u_atom (a_name {b = b} h) x others (a_number h') = let y : k.Name b ≡ k.Number = sym h ∙ h' in cc
  u_atom (a_name {b = b} h) x others (a_text h') = let y : k.Name b ≡ k.Text = sym h ∙ h' in cc
  u_atom (a_name {b = b} h) x others (bracketed h' a' i') = let y : k.Name b ≡ k.Open = sym h ∙ h' in cc
  u_atom (a_name {b = b} h) x others (a_list h' a' i') = let y : k.Name b ≡ k.OpenList = sym h ∙ h' in cc
  u_atom (a_number h) x others (a_name {b = b'} h') = let y : k.Number ≡ k.Name b' = sym h ∙ h' in cc
  u_atom (a_number h) x others (a_number h') = refl
  u_atom (a_number h) x others (a_text h') = let y : k.Number ≡ k.Text = sym h ∙ h' in cc
  u_atom (a_number h) x others (bracketed h' a' i') = let y : k.Number ≡ k.Open = sym h ∙ h' in cc
  u_atom (a_number h) x others (a_list h' a' i') = let y : k.Number ≡ k.OpenList = sym h ∙ h' in cc
  u_atom (a_text h) x others (a_name {b = b'} h') = let y : k.Text ≡ k.Name b' = sym h ∙ h' in cc
  u_atom (a_text h) x others (a_number h') = let y : k.Text ≡ k.Number = sym h ∙ h' in cc
  u_atom (a_text h) x others (a_text h') = refl
  u_atom (a_text h) x others (bracketed h' a' i') = let y : k.Text ≡ k.Open = sym h ∙ h' in cc
  u_atom (a_text h) x others (a_list h' a' i') = let y : k.Text ≡ k.OpenList = sym h ∙ h' in cc
  u_atom (bracketed h a i) x others (a_name {b = b'} h') = let y : k.Open ≡ k.Name b' = sym h ∙ h' in cc
  u_atom (bracketed h a i) x others (a_number h') = let y : k.Open ≡ k.Number = sym h ∙ h' in cc
  u_atom (bracketed h a i) x others (a_text h') = let y : k.Open ≡ k.Text = sym h ∙ h' in cc
  u_atom (bracketed h a i) x others (bracketed {close = c} h' a' i') = u_value a (ap more i) x (c ∷ others) a' (ap more i')
  u_atom (bracketed h a i) x others (a_list h' a' i') = let y : k.Open ≡ k.OpenList = sym h ∙ h' in cc
  u_atom (a_list h a i) x others (a_name {b = b'} h') = let y : k.OpenList ≡ k.Name b' = sym h ∙ h' in cc
  u_atom (a_list h a i) x others (a_number h') = let y : k.OpenList ≡ k.Number = sym h ∙ h' in cc
  u_atom (a_list h a i) x others (a_text h') = let y : k.OpenList ≡ k.Text = sym h ∙ h' in cc
  u_atom (a_list h a i) x others (bracketed h' a' i') = let y : k.OpenList ≡ k.Open = sym h ∙ h' in cc
  u_atom (a_list {open_ = t} h a i) x others (a_list {es = es} {close = c} h' a' i') = ap (s.List t.span) (u_later a (ap more i) es (c ∷ others) a' (ap more i'))

-- a class that no name has next
name_more : (t : Lexeme) (b : Bool) (f : Class → Bool) → t.class ≡ k.Name b → f (k.Name b) ≡ true → f t.class ≡ false → ⊥
name_more t b f h x e = let y : true ≡ false = sym x ∙ ap f (sym h) ∙ e in cc

pub u_later_names : {ts : List Lexeme} {names : List Span} {rest : List Lexeme} → LaterNames ts names rest → Ends more_names rest
    → (xs : List Span) (others : List Lexeme) → LaterNames ts xs others → Ends more_names others → names ≡ xs
u_later_names no_name end xs others no_name end' = refl
u_later_names no_name end xs others (last_name {t = t} {b = b} h') end' = absurd (name_more t b more_names h' refl end)
u_later_names no_name end xs others (further_name {t = t} {b = b} h' i' l') end' = absurd (name_more t b more_names h' refl end)
u_later_names (last_name {t = t} {b = b} h) end xs others no_name end' = absurd (name_more t b more_names h refl end')
u_later_names (last_name h) end xs others (last_name h') end' = refl
u_later_names (last_name h) end xs others (further_name {comma = c} h' i' l') end' = let y : true ≡ false = sym (ap more_names i') ∙ end in cc
u_later_names (further_name {t = t} {b = b} h i l) end xs others no_name end' = absurd (name_more t b more_names h refl end')
u_later_names (further_name {comma = c} h i l) end xs others (last_name h') end' = let y : true ≡ false = sym (ap more_names i) ∙ end' in cc
u_later_names (further_name {t = t} h i l) end xs others (further_name {names = ys} h' i' l') end' = ap (λ v. t.span ∷ v) (u_later_names l end ys others l' end')

pub u_names : {ts : List Lexeme} {names : List Span} {unpack : Bool} {rest : List Lexeme} → Names ts names unpack rest → Ends more_names rest
    → (xs : List Span) (b : Bool) (others : List Lexeme) → Names ts xs b others → Ends more_names others → (names ≡ xs) × (unpack ≡ b)
u_names (one_name h) end xs b others (one_name h') end' = (refl, refl)
u_names (one_name h) end xs b others (several_names h' i' l') end' = let y : true ≡ false = sym (ap more_names i') ∙ end in (cc, cc)
u_names (several_names h i l) end xs b others (one_name h') end' = let y : true ≡ false = sym (ap more_names i) ∙ end' in (cc, cc)
u_names (several_names {t = t} h i l) end xs b others (several_names {names = ys} h' i' l') end' = (ap (λ v. t.span ∷ v) (u_later_names l end ys others l' end'), refl)

-- names at the head of a statement begin with a name, and not with a bracket
names_name : {ts : List Lexeme} {names : List Span} {unpack : Bool} {rest : List Lexeme} → Names ts names unpack rest → Heads is_open false ts
names_name (one_name h) = ap is_open h
names_name (several_names h i l) = ap is_open h

clash_open : (t : Lexeme) → t.class ≡ k.Open → is_open t.class ≡ false → ⊥
clash_open t h e = let y : true ≡ false = sym (ap is_open h) ∙ e in cc

pub u_targets : {ts : List Lexeme} {names : List Span} {unpack : Bool} {rest : List Lexeme} → Targets ts names unpack rest → Ends more_names rest
    → (xs : List Span) (b : Bool) (others : List Lexeme) → Targets ts xs b others → Ends more_names others → (names ≡ xs) × (unpack ≡ b)
u_targets (bare_targets a) end xs b others (bare_targets a') end' = u_names a end xs b others a' end'
u_targets (bare_targets a) end xs b others (bracketed_targets {open_ = t} h' a' i') end' = absurd (clash_open t h' (names_name a))
u_targets (bracketed_targets {open_ = t} h a i) end xs b others (bare_targets a') end' = absurd (clash_open t h (names_name a'))
u_targets (bracketed_targets h a i) end xs b others (bracketed_targets {close = c} h' a' i') end' = u_names a (ap more_names i) xs b (c ∷ others) a' (ap more_names i')

-- what is left after targets is the same
targets_rest : {ts : List Lexeme} {names : List Span} {unpack : Bool} {rest : List Lexeme} → Targets ts names unpack rest → Ends more_names rest
    → (xs : List Span) (b : Bool) (others : List Lexeme) → Targets ts xs b others → Ends more_names others → rest ≡ others
targets_rest {ts = ts} {rest = rest} (bare_targets a) end xs b others (bare_targets a') end' =
    one_rest (run (a_word 0 ∷ after_target ∷ []) ts) rest others (c_names a end 0 []) (c_names a' end' 0 [])
targets_rest (bare_targets a) end xs b others (bracketed_targets {open_ = t} h' a' i') end' = absurd (clash_open t h' (names_name a))
targets_rest (bracketed_targets {open_ = t} h a i) end xs b others (bare_targets a') end' = absurd (clash_open t h (names_name a'))
targets_rest {rest = rest} (bracketed_targets {ts = ts} {close = c} h a i) end xs b others (bracketed_targets {close = d} h' a' i') end' =
    (tails c d rest others (one_rest (run (a_word 0 ∷ after_target ∷ []) ts) (c ∷ rest) (d ∷ others) (c_names a (ap more_names i) 0 []) (c_names a' (ap more_names i') 0 []))).1

op_one : (j : Class) (op x : AssignOp) → updates j op → updates j x → op ≡ x
op_one k.AddAssign op x h i = h ∙ sym i
op_one k.SubAssign op x h i = h ∙ sym i
op_one _ op x h i = absurd h

update_not : (j : Class) (op : AssignOp) → updates j op → (j ≡ k.Assign → ⊥) × (more_names j ≡ false)
update_not k.AddAssign op h = (λ e. cc, refl)
update_not k.SubAssign op h = (λ e. cc, refl)
update_not _ op h = absurd h

-- after one name stands the sign
only_name : (t : Lexeme) (us rest : List Lexeme) (b : Bool) (names : List Span) (unpack : Bool) (u : Lexeme) → t.class ≡ k.Name b → more_names u.class ≡ false
    → Targets (t ∷ u ∷ us) names unpack rest → Ends more_names rest → rest ≡ u ∷ us
only_name t us rest b names unpack u h e a end = targets_rest a end (t.span ∷ []) false (u ∷ us) (bare_targets (one_name h)) e

import_name : (t : Lexeme) (b : Bool) → t.class ≡ k.From → t.class ≡ k.Name b → ⊥
import_name t b h e = let y : k.From ≡ k.Name b = sym h ∙ e in cc

import_open : (ts : List Lexeme) → Heads is_from true ts → Heads is_from false ts → ⊥
import_open [] h e = h
import_open (t ∷ ts) h e = let y : true ≡ false = sym h ∙ e in cc

names_from : {ts : List Lexeme} {names : List Span} {unpack : Bool} {rest : List Lexeme} → Names ts names unpack rest → Heads is_from false ts
names_from (one_name h) = ap is_from h
names_from (several_names h i l) = ap is_from h

targets_from : {ts : List Lexeme} {names : List Span} {unpack : Bool} {rest : List Lexeme} → Targets ts names unpack rest → Heads is_from false ts
targets_from (bare_targets a) = names_from a
targets_from (bracketed_targets h a i) = ap is_from h

clash_update : (t u : Lexeme) (us vs : List Lexeme) (b : Bool) (names : List Span) (unpack : Bool) (op : AssignOp) (eq : Lexeme) → t.class ≡ k.Name b → updates u.class op
    → Targets (t ∷ u ∷ us) names unpack (eq ∷ vs) → eq.class ≡ k.Assign → ⊥
clash_update t u us vs b names unpack op eq h x a i =
    let n = update_not u.class op x in
    let r = tails eq u vs us (only_name t us (eq ∷ vs) b names unpack u h n.1 a (ap more_names i)) in
    n.0 (sym (ap (λ y. y.class) r.0) ∙ i)

-- the same value and the same end of the line
ended_one : {n : ℕ} {us : List Lexeme} {e : Syn} {end : Lexeme} {rest : List Lexeme} → Value n us e (end ∷ rest) → end.class ≡ k.End
    → (x : Syn) (c : Lexeme) (others : List Lexeme) → Value n us x (c ∷ others) → c.class ≡ k.End → e ≡ x
ended_one v h x c others w i = u_value v (ap more h) x (c ∷ others) w (ap more i)

pub u_statement : {n : ℕ} {ts : List Lexeme} {st : Stmt} {rest : List Lexeme} → Statement n ts st rest → (x : Stmt) (others : List Lexeme) → Statement n ts x others → st ≡ x
u_statement {st = a} (imports {from_ = f} hf hu hi hs he p) x others (imports hf' hu' hi' hs' he' p') = same_statement a x f.line [] false o.ImportAll None p p'
u_statement {ts = ts} (imports hf hu hi hs he p) x others (assigns a' h' v' e' p') = absurd (import_open ts (ap is_from hf) (targets_from a'))
u_statement (imports {from_ = f} hf hu hi hs he p) x others (updated {b = b} h' x' v' e' p') = absurd (import_name f b hf h')
u_statement {ts = ts} (assigns a h v e p) x others (imports hf' hu' hi' hs' he' p') = absurd (import_open ts (ap is_from hf') (targets_from a))
u_statement {n = n} {ts = ts} {st = st} (assigns {names = names} {unpack = unpack} {eq = q} {us = us} {e = y} a h v e p) x others (assigns {names = names'} {unpack = unpack'} {eq = q'} {us = us'} {e = y'} {end = c} a' h' v' e' p') =
    let r = tails q q' us us' (targets_rest a (ap more_names h) names' unpack' (q' ∷ us') a' (ap more_names h')) in
    let t = u_targets a (ap more_names h) names' unpack' (q' ∷ us') a' (ap more_names h') in
    let w = ended_one v e y' c others (subst (λ l. Value n l y' (c ∷ others)) (sym r.1) v') e' in
    same_statement st x (first_line ts) names' unpack' o.Set (Some y') (p.0, p.1 ∙ t.0, p.2 ∙ t.1, p.3, p.4 ∙ ap Some w) p'
u_statement (assigns {names = names} {unpack = unpack} {eq = q} {us = us} a h v e p) x others (updated {t = t} {b = b} {sign = u} {op = op} {us = vs} h' x' v' e' p') =
    absurd (clash_update t u vs us b names unpack op q h' x' a h)
u_statement (updated {b = b} h x v e p) y others (imports {from_ = f} hf' hu' hi' hs' he' p') = absurd (import_name f b hf' h)
u_statement (updated {t = t} {b = b} {sign = u} {op = op} {us = vs} h x v e p) y others (assigns {names = names} {unpack = unpack} {eq = q} {us = us} a' h' v' e' p') =
    absurd (clash_update t u vs us b names unpack op q h x a' h')
u_statement {st = st} (updated {t = t} {sign = u} {op = op} {e = y} h x v e p) z others (updated {op = op'} {e = y'} {end = c} h' x' v' e' p') =
    same_statement st z t.line (t.span ∷ []) false op' (Some y') (p.0, p.1, p.2, p.3 ∙ op_one u.class op op' x x', p.4 ∙ ap Some (ended_one v e y' c others v' e')) p'

pub u_file : {n : ℕ} {ts : List Lexeme} {sts : List Stmt} {rest : List Lexeme} → File n ts sts rest → Ends begins_statement rest
    → (xs : List Stmt) (others : List Lexeme) → File n ts xs others → Ends begins_statement others → sts ≡ xs
u_file no_statement end xs others no_statement end' = refl
u_file {ts = ts} no_statement end xs others (one_statement a' b') end' = absurd (begins_clash ts (statement_first a') end)
u_file {ts = ts} (one_statement a b) end xs others no_statement end' = absurd (begins_clash ts (statement_first a) end')
u_file {n = n} {ts = ts} (one_statement {st = st} {mid = m} {sts = sts} a b) end xs others (one_statement {st = st'} {mid = m'} {sts = sts'} a' b') end' =
    let r = one_rest (run (a_statement n ∷ []) ts) m m' (c_statement a []) (c_statement a' []) in
    let u = u_statement a st' m' a' in
    let v = u_file b end sts' others (subst (λ us. File n us sts' others) (sym r) b') end' in
    ap (λ y. y ∷ sts) u ∙ ap (λ y. st' ∷ y) v

-- The grammar is unambiguous: one list of tokens is at most one list of statements.
pub one_reading : (n : ℕ) (ts : List Lexeme) (sts xs : List Stmt) → File n ts sts [] → File n ts xs [] → sts ≡ xs
one_reading n ts sts xs d e = u_file d tt xs [] e tt
