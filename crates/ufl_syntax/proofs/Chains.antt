-- A chain of calls, indices and attributes begins with no chain.
use Rattle.std.proofs.Common.{[], ◌∷◌, ◌++◌, ◌≡◌, List, ℕ, refl, sym, ap, ◌∙◌, append_assoc, append-nil}
use Rattle.ufl_syntax.specs.declared.span.Span.{Span}
use Rattle.ufl_syntax.specs.declared.class.Lexeme.{Lexeme}
use Rattle.ufl_syntax.specs.declared.tree.Syn.{Syn, Syn-F, out-Syn, roll-Syn, roll-out-Syn}
use Rattle.ufl_syntax.specs.declared.tree.Syn.TheVariants as s
use Rattle.ufl_syntax.specs.declared.tree.Next.{Next}
use Rattle.ufl_syntax.specs.declared.tree.Post.{Post}
use Rattle.ufl_syntax.specs.declared.tree.Arg.{Arg}
use Rattle.ufl_syntax.specs.Grammar.{base_by, posts_by, base_of, posts_of, applied, chain, Value, single, tuple, Sum, sum, Term, term, Signed, sign, plain, power, Postfix, postfix, Atom, a_name, a_number, a_text, bracketed, a_list}

pub base_at : (e : Syn) (l : Syn-F Post Syn Arg Next) → out-Syn e ≡ l → base_of e ≡ base_by e l
unfolding base_of
base_at e l h = ap (base_by e) h

pub posts_at : (e : Syn) (l : Syn-F Post Syn Arg Next) → out-Syn e ≡ l → posts_of e ≡ posts_by l
unfolding posts_of
posts_at e l h = ap posts_by h

pub base_chain : (b : Syn) (ps : List Post) → base_of (s.Postfix b ps) ≡ b
base_chain b ps = base_at (s.Postfix b ps) (Syn-F.Postfix b ps) (s.outs-Postfix b ps)

pub posts_chain : (b : Syn) (ps : List Post) → posts_of (s.Postfix b ps) ≡ ps
posts_chain b ps = posts_at (s.Postfix b ps) (Syn-F.Postfix b ps) (s.outs-Postfix b ps)

-- a value that is no chain is its own base
abbrev pub Bare : Syn → Type 0
Bare e = (base_of e ≡ e) × (posts_of e ≡ [])

pub bare_name : (t : Span) → Bare (s.Name t)
bare_name t = (base_at (s.Name t) (Syn-F.Name t) (s.outs-Name t), posts_at (s.Name t) (Syn-F.Name t) (s.outs-Name t))

pub bare_number : (t : Span) → Bare (s.Number t)
bare_number t = (base_at (s.Number t) (Syn-F.Number t) (s.outs-Number t), posts_at (s.Number t) (Syn-F.Number t) (s.outs-Number t))

pub bare_text : (t : Span) → Bare (s.Text t)
bare_text t = (base_at (s.Text t) (Syn-F.Text t) (s.outs-Text t), posts_at (s.Text t) (Syn-F.Text t) (s.outs-Text t))

pub bare_tuple : (t : Span) (es : List Syn) → Bare (s.Tuple t es)
bare_tuple t es = (base_at (s.Tuple t es) (Syn-F.Tuple t es) (s.outs-Tuple t es), posts_at (s.Tuple t es) (Syn-F.Tuple t es) (s.outs-Tuple t es))

pub bare_list : (t : Span) (es : List Syn) → Bare (s.List t es)
bare_list t es = (base_at (s.List t es) (Syn-F.List t es) (s.outs-List t es), posts_at (s.List t es) (Syn-F.List t es) (s.outs-List t es))

pub bare_sign : (t : Span) (e : Syn) → Bare (s.Sign t e)
bare_sign t e = (base_at (s.Sign t e) (Syn-F.Sign t e) (s.outs-Sign t e), posts_at (s.Sign t e) (Syn-F.Sign t e) (s.outs-Sign t e))

pub bare_binary : (e : Syn) (ns : List Next) → Bare (s.Binary e ns)
bare_binary e ns = (base_at (s.Binary e ns) (Syn-F.Binary e ns) (s.outs-Binary e ns), posts_at (s.Binary e ns) (Syn-F.Binary e ns) (s.outs-Binary e ns))

-- the same of a value that is none of them
other_by : (e : Syn) (l : Syn-F Post Syn Arg Next) → ((b : Syn) (ps : List Post) → e ≡ s.Postfix b ps → ⊥) → roll-Syn l ≡ e → (base_by e l ≡ e) × (posts_by l ≡ [])
other_by e (Syn-F.Postfix b ps) h r = absurd (h b ps (sym r ∙ s.rolls-Postfix b ps))
other_by e _ h r = (refl, refl)

pub bare_other : (e : Syn) → ((b : Syn) (ps : List Post) → e ≡ s.Postfix b ps → ⊥) → Bare e
unfolding base_of posts_of
bare_other e h = other_by e (out-Syn e) h (roll-out-Syn e)

-- what the reader makes of a value and what stands behind it
some_posts : (all : List Post) → (all ≡ [] → ⊥) → (e b : Syn) (before : List Post) → base_of e ≡ b → posts_of e ≡ before → s.Postfix b (before ++ all) ≡ applied e all
some_posts [] n e b before h i = absurd (n refl)
some_posts (p ∷ ps) n e b before h i = ap (λ x. s.Postfix x (before ++ p ∷ ps)) (sym h) ∙ ap (λ l. s.Postfix (base_of e) (l ++ p ∷ ps)) (sym i)

pub chain_goes_on : (e b : Syn) (before after all : List Post) → e ≡ s.Postfix b before → (after ≡ [] → ⊥) → all ≡ before ++ after → s.Postfix b all ≡ applied e after
chain_goes_on e b before after all h n i =
    ap (s.Postfix b) i ∙ some_posts after n e b before (ap base_of h ∙ base_chain b before) (ap posts_of h ∙ posts_chain b before)

pub chain_begins : (e : Syn) (all : List Post) → ((b : Syn) (ps : List Post) → e ≡ s.Postfix b ps → ⊥) → (all ≡ [] → ⊥) → s.Postfix e all ≡ applied e all
chain_begins e all h n = let b = bare_other e h in some_posts all n e e [] b.0 b.1

-- two chains, one behind the other, are one
pub one_chain : (e : Syn) (ps qs : List Post) → applied (applied e ps) qs ≡ applied e (ps ++ qs)
one_chain e [] qs = refl
one_chain e (p ∷ ps) [] = ap (λ l. s.Postfix (base_of e) (posts_of e ++ l)) (sym (append-nil (p ∷ ps)))
one_chain e (p ∷ ps) (q ∷ qs) =
    let whole = posts_of e ++ p ∷ ps in
    ap (λ x. s.Postfix x (posts_of (s.Postfix (base_of e) whole) ++ q ∷ qs)) (base_chain (base_of e) whole)
    ∙ ap (λ l. s.Postfix (base_of e) (l ++ q ∷ qs)) (posts_chain (base_of e) whole)
    ∙ ap (s.Postfix (base_of e)) (append_assoc (posts_of e) (p ∷ ps) (q ∷ qs))

-- the value that a chain begins with is no chain
abbrev pub Flat : Syn → Type 0
Flat e = posts_of (base_of e) ≡ []

flat_bare : (e : Syn) → Bare e → Flat e
flat_bare e b = ap posts_of b.0 ∙ b.1

flat_chain : (e : Syn) (ns : List Next) → Flat e → Flat (chain e ns)
flat_chain e [] h = h
flat_chain e (n ∷ ns) h = flat_bare _ (bare_binary e (n ∷ ns))

flat_applied : (e : Syn) (ps : List Post) → Flat e → Flat (applied e ps)
flat_applied e [] h = h
flat_applied e (p ∷ ps) h = ap posts_of (base_chain (base_of e) (posts_of e ++ p ∷ ps)) ∙ h

mutual
  pub flat_value : {n : ℕ} {ts : List Lexeme} {e : Syn} {rest : List Lexeme} → Value n ts e rest → Flat e
  flat_value (single d) = flat_sum d
  flat_value (tuple {e = e} {comma = c} {es = es} d h l) = flat_bare _ (bare_tuple c.span (e ∷ es))

  pub flat_sum : {n : ℕ} {ts : List Lexeme} {e : Syn} {rest : List Lexeme} → Sum n ts e rest → Flat e
  flat_sum (sum {e = e} {ns = ns} a b) = flat_chain e ns (flat_term a)

  flat_term : {n : ℕ} {ts : List Lexeme} {e : Syn} {rest : List Lexeme} → Term n ts e rest → Flat e
  flat_term (term {e = e} {ns = ns} a b) = flat_chain e ns (flat_signed a)

  flat_signed : {n : ℕ} {ts : List Lexeme} {e : Syn} {rest : List Lexeme} → Signed n ts e rest → Flat e
  flat_signed (sign {op = op} {e = e} h a) = flat_bare _ (bare_sign op.span e)
  flat_signed (plain a) = flat_postfix a
  flat_signed (power {e = e} a h b) = flat_bare _ (bare_binary e _)

  flat_postfix : {n : ℕ} {ts : List Lexeme} {e : Syn} {rest : List Lexeme} → Postfix n ts e rest → Flat e
  flat_postfix (postfix {e = e} {ps = ps} a b) = flat_applied e ps (flat_atom a)

  flat_atom : {n : ℕ} {ts : List Lexeme} {e : Syn} {rest : List Lexeme} → Atom n ts e rest → Flat e
  flat_atom (a_name {t = t} h) = flat_bare _ (bare_name t.span)
  flat_atom (a_number {t = t} h) = flat_bare _ (bare_number t.span)
  flat_atom (a_text {t = t} h) = flat_bare _ (bare_text t.span)
  flat_atom (bracketed h a i) = flat_value a
  flat_atom (a_list {open_ = t} {es = es} h a i) = flat_bare _ (bare_list t.span es)
