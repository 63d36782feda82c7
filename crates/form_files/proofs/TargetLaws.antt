-- The targets of a file's statements are names among its tokens
use Rattle.std.proofs.Common.{◌≡◌, ℕ, Bool, List, sym, subst}
use Rattle.std.specs.List.{AllByRecursion}
use Rattle.ufl_syntax.specs.declared.class.Class.TheVariants as k
use Rattle.ufl_syntax.specs.declared.class.Lexeme.{Lexeme}
use Rattle.ufl_syntax.specs.declared.span.Span.{Span}
use Rattle.ufl_syntax.specs.declared.tree.Arg.{Arg}
use Rattle.ufl_syntax.specs.declared.tree.Next.{Next}
use Rattle.ufl_syntax.specs.declared.tree.Post.{Post}
use Rattle.ufl_syntax.specs.declared.tree.Stmt.{Stmt}
use Rattle.ufl_syntax.specs.declared.tree.Syn.{Syn}
use Rattle.ufl_syntax.specs.Grammar as g

-- ---- what holds of each token holds of each that is left behind a part
module _ (P : Lexeme → Type 0) where
  abbrev Each : List Lexeme → Type 0
  Each = AllByRecursion P

  mutual
    r_value : {n : ℕ} {ts : List Lexeme} {e : Syn} {rest : List Lexeme} → g.Value n ts e rest → Each ts → Each rest
    r_value (g.single d) p = r_sum d p
    r_value (g.tuple d h r) p = r_later r (r_sum d p).1

    r_later : {n : ℕ} {ts : List Lexeme} {es : List Syn} {rest : List Lexeme} → g.Later n ts es rest → Each ts → Each rest
    r_later g.no_later p = p
    r_later (g.last d) p = r_sum d p
    r_later (g.further d h r) p = r_later r (r_sum d p).1

    r_sum : {n : ℕ} {ts : List Lexeme} {e : Syn} {rest : List Lexeme} → g.Sum n ts e rest → Each ts → Each rest
    r_sum (g.sum d r) p = r_adds r (r_term d p)

    r_adds : {n : ℕ} {ts : List Lexeme} {ns : List Next} {rest : List Lexeme} → g.Adds n ts ns rest → Each ts → Each rest
    r_adds g.no_add p = p
    r_adds (g.add h d r) p = r_adds r (r_term d p.1)

    r_term : {n : ℕ} {ts : List Lexeme} {e : Syn} {rest : List Lexeme} → g.Term n ts e rest → Each ts → Each rest
    r_term (g.term d r) p = r_muls r (r_signed d p)

    r_muls : {n : ℕ} {ts : List Lexeme} {ns : List Next} {rest : List Lexeme} → g.Muls n ts ns rest → Each ts → Each rest
    r_muls g.no_mul p = p
    r_muls (g.mul h d r) p = r_muls r (r_signed d p.1)

    r_signed : {n : ℕ} {ts : List Lexeme} {e : Syn} {rest : List Lexeme} → g.Signed n ts e rest → Each ts → Each rest
    r_signed (g.sign h d) p = r_signed d p.1
    r_signed (g.plain d) p = r_postfix d p
    r_signed (g.power d h r) p = r_signed r (r_postfix d p).1

    r_postfix : {n : ℕ} {ts : List Lexeme} {e : Syn} {rest : List Lexeme} → g.Postfix n ts e rest → Each ts → Each rest
    r_postfix (g.postfix d r) p = r_posts r (r_atom d p)

    r_posts : {n : ℕ} {ts : List Lexeme} {ps : List Post} {rest : List Lexeme} → g.Posts n ts ps rest → Each ts → Each rest
    r_posts g.no_post p = p
    r_posts (g.one_post d r) p = r_posts r (r_post d p)

    r_post : {n : ℕ} {ts : List Lexeme} {q : Post} {rest : List Lexeme} → g.OnePost n ts q rest → Each ts → Each rest
    r_post (g.call h d i) p = (r_args d p.1).1
    r_post (g.index h d i) p = (r_value d p.1).1
    r_post (g.attr h i) p = p.1.1

    r_args : {n : ℕ} {ts : List Lexeme} {as_ : List Arg} {rest : List Lexeme} → g.Args n ts as_ rest → Each ts → Each rest
    r_args g.no_arg p = p
    r_args (g.last_arg d) p = r_arg d p
    r_args (g.further_arg d h r) p = r_args r (r_arg d p).1

    r_arg : {n : ℕ} {ts : List Lexeme} {a : Arg} {rest : List Lexeme} → g.OneArg n ts a rest → Each ts → Each rest
    r_arg (g.positional d) p = r_sum d p
    r_arg (g.keyed h i d) p = r_sum d p.1.1

    r_atom : {n : ℕ} {ts : List Lexeme} {e : Syn} {rest : List Lexeme} → g.Atom n ts e rest → Each ts → Each rest
    r_atom (g.a_name h) p = p.1
    r_atom (g.a_number h) p = p.1
    r_atom (g.a_text h) p = p.1
    r_atom (g.bracketed h d i) p = (r_value d p.1).1
    r_atom (g.a_list h d i) p = (r_later d p.1).1

-- ---- targets
module _ (P : Span → Type 0) where
  abbrev OfName : Lexeme → Type 0
  OfName t = (b : Bool) → t.class ≡ k.Name b → P t.span

  abbrev Names : List Lexeme → Type 0
  Names = AllByRecursion OfName

  later_names : {ts : List Lexeme} {names : List Span} {rest : List Lexeme} → g.LaterNames ts names rest → Names ts → AllByRecursion P names × Names rest
  later_names g.no_name p = (tt, p)
  later_names (g.last_name {b = b} h) p = ((p.0 b h, tt), p.1)
  later_names (g.further_name {b = b} h i r) p = let x = later_names r p.1.1 in ((p.0 b h, x.0), x.1)

  names_of : {ts : List Lexeme} {names : List Span} {unpack : Bool} {rest : List Lexeme} → g.Names ts names unpack rest → Names ts
      → AllByRecursion P names × Names rest
  names_of (g.one_name {b = b} h) p = ((p.0 b h, tt), p.1)
  names_of (g.several_names {b = b} h i r) p = let x = later_names r p.1.1 in ((p.0 b h, x.0), x.1)

  targets_of : {ts : List Lexeme} {names : List Span} {unpack : Bool} {rest : List Lexeme} → g.Targets ts names unpack rest → Names ts
      → AllByRecursion P names × Names rest
  targets_of (g.bare_targets d) p = names_of d p
  targets_of (g.bracketed_targets h d i) p = let x = names_of d p.1 in (x.0, x.1.1)

  statement_targets : {n : ℕ} {ts : List Lexeme} {st : Stmt} {rest : List Lexeme} → g.Statement n ts st rest → Names ts
      → AllByRecursion P st.targets × Names rest
  statement_targets (g.imports a b c d e z) p = (subst (AllByRecursion P) (sym z.1) tt, p.1.1.1.1.1)
  statement_targets (g.assigns d h v i z) p =
      let x = targets_of d p in
      (subst (AllByRecursion P) (sym z.1) x.0, (r_value OfName v x.1.1).1)
  statement_targets (g.updated {b = b} h i v j z) p = (subst (AllByRecursion P) (sym z.1) (p.0 b h, tt), (r_value OfName v p.1.1).1)

  pub file_targets : (n : ℕ) {ts : List Lexeme} {sts : List Stmt} {rest : List Lexeme} → g.File n ts sts rest → Names ts
      → AllByRecursion (λ st. AllByRecursion P st.targets) sts
  file_targets n g.no_statement p = tt
  file_targets n (g.one_statement d r) p = let x = statement_targets d p in (x.0, file_targets n r x.1)
