-- What holds of the places of tokens holds of the trees that they are read as.
use Rattle.std.proofs.Common.{[], ◌∷◌, ◌++◌, ◌≡◌, List, ℕ, Bool, Option, Some, None, sym, subst}
use Rattle.ufl_syntax.specs.declared.class.Lexeme.{Lexeme}
use Rattle.ufl_syntax.specs.declared.span.Span.{Span}
use Rattle.ufl_syntax.specs.declared.tree.Stmt.{Stmt}
use Rattle.ufl_syntax.specs.declared.tree.Syn.{Syn}
use Rattle.ufl_syntax.specs.declared.tree.Syn.TheVariants as s
use Rattle.ufl_syntax.specs.declared.tree.Next.{Next}
use Rattle.ufl_syntax.specs.declared.tree.Post.{Post}
use Rattle.ufl_syntax.specs.declared.tree.Arg.{Arg}
use Rattle.ufl_syntax.specs.Grammar as g
use Rattle.ufl_syntax.specs.Spans as l
use Rattle.ufl_syntax.proofs.Chains.{Bare, base_chain, posts_chain, bare_name, bare_number, bare_text, bare_tuple, bare_list, bare_sign, bare_binary}

abbrev About : Type 1
About = Span → Type 0

-- ---- chains

chain_each : {P : About} {e : Syn} {ns : List Next} → l.Each P e → l.EachNext P ns → l.Each P (g.chain e ns)
chain_each a l.no_next = a
chain_each a (l.one_next r b c) = l.binary a (l.one_next r b c)

append_each : {P : About} {ps xs : List Post} → l.EachPost P ps → l.EachPost P xs → l.EachPost P (ps ++ xs)
append_each l.no_post r = r
append_each (l.one_post a b) r = l.one_post a (append_each b r)

abbrev Parts : About → Syn → Type 0
Parts P e = l.Each P (g.base_of e) × l.EachPost P (g.posts_of e)

bare_parts : {P : About} (e : Syn) → Bare e → l.Each P e → Parts P e
bare_parts {P} e b a = (subst (λ x. l.Each P x) (sym b.0) a, subst (λ x. l.EachPost P x) (sym b.1) l.no_post)

each_part : {P : About} {e : Syn} → l.Each P e → Parts P e
each_part (l.name {t = t} r) = bare_parts (s.Name t) (bare_name t) (l.name r)
each_part (l.number {t = t} r) = bare_parts (s.Number t) (bare_number t) (l.number r)
each_part (l.text {t = t} r) = bare_parts (s.Text t) (bare_text t) (l.text r)
each_part (l.tuple {t = t} {es = es} r a) = bare_parts (s.Tuple t es) (bare_tuple t es) (l.tuple r a)
each_part (l.list {t = t} {es = es} r a) = bare_parts (s.List t es) (bare_list t es) (l.list r a)
each_part (l.sign {t = t} {e = e} r a) = bare_parts (s.Sign t e) (bare_sign t e) (l.sign r a)
each_part (l.binary {e = e} {ns = ns} a b) = bare_parts (s.Binary e ns) (bare_binary e ns) (l.binary a b)
each_part {P} (l.postfix {e = e} {ps = ps} a b) = (subst (λ x. l.Each P x) (sym (base_chain e ps)) a, subst (λ x. l.EachPost P x) (sym (posts_chain e ps)) b)

applied_each : {P : About} {e : Syn} {ps : List Post} → l.Each P e → l.EachPost P ps → l.Each P (g.applied e ps)
applied_each a l.no_post = a
applied_each a (l.one_post x r) = let b = each_part a in l.postfix b.0 (append_each b.1 (l.one_post x r))

-- ---- readings

pub data EachLexeme (P : Span → Type 0) : List Lexeme → Type 0 where
  no_lexeme : EachLexeme P []
  lexeme : {t : Lexeme} {ts : List Lexeme} → P t.span → EachLexeme P ts → EachLexeme P (t ∷ ts)

first : {P : About} {t : Lexeme} {ts : List Lexeme} → EachLexeme P (t ∷ ts) → P t.span
first (lexeme h r) = h

others : {P : About} {t : Lexeme} {ts : List Lexeme} → EachLexeme P (t ∷ ts) → EachLexeme P ts
others (lexeme h r) = r

mutual
  m_value : {P : About} {n : ℕ} {ts : List Lexeme} {e : Syn} {rest : List Lexeme} → g.Value n ts e rest → EachLexeme P ts → l.Each P e × EachLexeme P rest
  m_value (g.single d) p = m_sum d p
  m_value (g.tuple d h r) p = let x = m_sum d p in let y = m_later r (others x.1) in (l.tuple (first x.1) (l.item x.0 y.0), y.1)

  m_later : {P : About} {n : ℕ} {ts : List Lexeme} {es : List Syn} {rest : List Lexeme} → g.Later n ts es rest → EachLexeme P ts → l.EachItem P es × EachLexeme P rest
  m_later g.no_later p = (l.no_item, p)
  m_later (g.last d) p = let x = m_sum d p in (l.item x.0 l.no_item, x.1)
  m_later (g.further d h r) p = let x = m_sum d p in let y = m_later r (others x.1) in (l.item x.0 y.0, y.1)

  m_sum : {P : About} {n : ℕ} {ts : List Lexeme} {e : Syn} {rest : List Lexeme} → g.Sum n ts e rest → EachLexeme P ts → l.Each P e × EachLexeme P rest
  m_sum (g.sum d r) p = let x = m_term d p in let y = m_adds r x.1 in (chain_each x.0 y.0, y.1)

  m_adds : {P : About} {n : ℕ} {ts : List Lexeme} {ns : List Next} {rest : List Lexeme} → g.Adds n ts ns rest → EachLexeme P ts → l.EachNext P ns × EachLexeme P rest
  m_adds g.no_add p = (l.no_next, p)
  m_adds (g.add h d r) p = let x = m_term d (others p) in let y = m_adds r x.1 in (l.one_next (first p) x.0 y.0, y.1)

  m_term : {P : About} {n : ℕ} {ts : List Lexeme} {e : Syn} {rest : List Lexeme} → g.Term n ts e rest → EachLexeme P ts → l.Each P e × EachLexeme P rest
  m_term (g.term d r) p = let x = m_signed d p in let y = m_muls r x.1 in (chain_each x.0 y.0, y.1)

  m_muls : {P : About} {n : ℕ} {ts : List Lexeme} {ns : List Next} {rest : List Lexeme} → g.Muls n ts ns rest → EachLexeme P ts → l.EachNext P ns × EachLexeme P rest
  m_muls g.no_mul p = (l.no_next, p)
  m_muls (g.mul h d r) p = let x = m_signed d (others p) in let y = m_muls r x.1 in (l.one_next (first p) x.0 y.0, y.1)

  m_signed : {P : About} {n : ℕ} {ts : List Lexeme} {e : Syn} {rest : List Lexeme} → g.Signed n ts e rest → EachLexeme P ts → l.Each P e × EachLexeme P rest
  m_signed (g.sign h d) p = let x = m_signed d (others p) in (l.sign (first p) x.0, x.1)
  m_signed (g.plain d) p = m_postfix d p
  m_signed (g.power d h r) p = let x = m_postfix d p in let y = m_signed r (others x.1) in (l.binary x.0 (l.one_next (first x.1) y.0 l.no_next), y.1)

  m_postfix : {P : About} {n : ℕ} {ts : List Lexeme} {e : Syn} {rest : List Lexeme} → g.Postfix n ts e rest → EachLexeme P ts → l.Each P e × EachLexeme P rest
  m_postfix (g.postfix d r) p = let x = m_atom d p in let y = m_posts r x.1 in (applied_each x.0 y.0, y.1)

  m_posts : {P : About} {n : ℕ} {ts : List Lexeme} {ps : List Post} {rest : List Lexeme} → g.Posts n ts ps rest → EachLexeme P ts → l.EachPost P ps × EachLexeme P rest
  m_posts g.no_post p = (l.no_post, p)
  m_posts (g.one_post d r) p = let x = m_post d p in let y = m_posts r x.1 in (l.one_post x.0 y.0, y.1)

  m_post : {P : About} {n : ℕ} {ts : List Lexeme} {q : Post} {rest : List Lexeme} → g.OnePost n ts q rest → EachLexeme P ts → l.InPost P q × EachLexeme P rest
  m_post (g.call h d i) p = let x = m_args d (others p) in (l.call (first p) x.0, others x.1)
  m_post (g.index h d i) p = let x = m_value d (others p) in (l.index (first p) x.0, others x.1)
  m_post (g.attr h i) p = (l.attr (first (others p)), others (others p))

  m_args : {P : About} {n : ℕ} {ts : List Lexeme} {as_ : List Arg} {rest : List Lexeme} → g.Args n ts as_ rest → EachLexeme P ts → l.EachArg P as_ × EachLexeme P rest
  m_args g.no_arg p = (l.no_arg, p)
  m_args (g.last_arg d) p = let x = m_arg d p in (l.one_arg x.0 l.no_arg, x.1)
  m_args (g.further_arg d h r) p = let x = m_arg d p in let y = m_args r (others x.1) in (l.one_arg x.0 y.0, y.1)

  m_arg : {P : About} {n : ℕ} {ts : List Lexeme} {a : Arg} {rest : List Lexeme} → g.OneArg n ts a rest → EachLexeme P ts → l.InArg P a × EachLexeme P rest
  m_arg (g.positional d) p = let x = m_sum d p in (l.positional x.0, x.1)
  m_arg (g.keyed h i d) p = let x = m_sum d (others (others p)) in (l.keyed (first p) x.0, x.1)

  m_atom : {P : About} {n : ℕ} {ts : List Lexeme} {e : Syn} {rest : List Lexeme} → g.Atom n ts e rest → EachLexeme P ts → l.Each P e × EachLexeme P rest
  m_atom (g.a_name h) p = (l.name (first p), others p)
  m_atom (g.a_number h) p = (l.number (first p), others p)
  m_atom (g.a_text h) p = (l.text (first p), others p)
  m_atom (g.bracketed h d i) p = let x = m_value d (others p) in (x.0, others x.1)
  m_atom (g.a_list h d i) p = let x = m_later d (others p) in (l.list (first p) x.0, others x.1)

m_later_names : {P : About} {ts : List Lexeme} {names : List Span} {rest : List Lexeme} → g.LaterNames ts names rest → EachLexeme P ts → l.EachName P names × EachLexeme P rest
m_later_names g.no_name p = (l.no_name, p)
m_later_names (g.last_name h) p = (l.one_name (first p) l.no_name, others p)
m_later_names (g.further_name h i r) p = let x = m_later_names r (others (others p)) in (l.one_name (first p) x.0, x.1)

m_names : {P : About} {ts : List Lexeme} {names : List Span} {unpack : Bool} {rest : List Lexeme} → g.Names ts names unpack rest → EachLexeme P ts → l.EachName P names × EachLexeme P rest
m_names (g.one_name h) p = (l.one_name (first p) l.no_name, others p)
m_names (g.several_names h i r) p = let x = m_later_names r (others (others p)) in (l.one_name (first p) x.0, x.1)

m_targets : {P : About} {ts : List Lexeme} {names : List Span} {unpack : Bool} {rest : List Lexeme} → g.Targets ts names unpack rest → EachLexeme P ts → l.EachName P names × EachLexeme P rest
m_targets (g.bare_targets d) p = m_names d p
m_targets (g.bracketed_targets h d i) p = let x = m_names d (others p) in (x.0, others x.1)

abbrev InStatement : About → Stmt → Type 0
InStatement P st = l.EachName P st.targets × l.InValue P st.value

in_statement : {P : About} (st : Stmt) (names : List Span) (v : Option Syn) → st.targets ≡ names → st.value ≡ v → l.EachName P names → l.InValue P v → InStatement P st
in_statement {P} st names v h i a b = (subst (λ x. l.EachName P x) (sym h) a, subst (λ x. l.InValue P x) (sym i) b)

m_statement : {P : About} {n : ℕ} {ts : List Lexeme} {st : Stmt} {rest : List Lexeme} → g.Statement n ts st rest → EachLexeme P ts → InStatement P st × EachLexeme P rest
m_statement {st = st} (g.imports a b c d e z) p = (in_statement st [] None z.1 z.4 l.no_name l.no_value, others (others (others (others (others p)))))
m_statement {st = st} (g.assigns {names = names} {e = e} d h v i z) p =
    let x = m_targets d p in
    let y = m_value v (others x.1) in
    (in_statement st names (Some e) z.1 z.4 x.0 (l.value y.0), others y.1)
m_statement {st = st} (g.updated {t = t} {e = e} h i v j z) p =
    let y = m_value v (others (others p)) in
    (in_statement st (t.span ∷ []) (Some e) z.1 z.4 (l.one_name (first p) l.no_name) (l.value y.0), others y.1)

pub each_file : {P : About} (n : ℕ) {ts : List Lexeme} {sts : List Stmt} {rest : List Lexeme} → g.File n ts sts rest → EachLexeme P ts → l.EachStatement P sts × EachLexeme P rest
each_file n g.no_statement p = (l.no_statement, p)
each_file n (g.one_statement d r) p = let x = m_statement d p in let y = each_file n r x.1 in (l.one_statement x.0.0 x.0.1 y.0, y.1)
