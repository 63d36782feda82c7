-- The forms that a file exports, from what its names are bound to at its end
use Rattle.std.specs.Prelude.{ℕ, not, ◌&&◌, Bool, true, false, if◌then◌else◌, List, [], ◌∷◌, ◌++◌, codes, Option, None, Some, Result, Ok, Err}
use Rattle.std.specs.Str.{bytes_eq}
use Rattle.ufl_syntax.specs.declared.span.Span.{Span}
use Rattle.ufl_syntax.specs.Spans.{word_at}
use Rattle.ufl_syntax.specs.declared.tree.AssignOp.{AssignOp}
use Rattle.ufl_syntax.specs.declared.tree.AssignOp.TheVariants as o
use Rattle.ufl_syntax.specs.declared.tree.Arg.{Arg}
use Rattle.ufl_syntax.specs.declared.tree.Next.{Next}
use Rattle.ufl_syntax.specs.declared.tree.Post.{Post}
use Rattle.ufl_syntax.specs.declared.tree.Stmt.{Stmt}
use Rattle.ufl_syntax.specs.declared.tree.Syn.{Syn, Syn-F, out-Syn}
use Rattle.ufl_read.specs.declared.refusal.FormRefusal.{FormRefusal}
use Rattle.ufl_values.specs.declared.refusal.Reason.TheVariants as r
use Rattle.ufl_values.specs.declared.value.Value.{Value}
use Rattle.ufl_values.specs.declared.value.Value.TheVariants as v
use Rattle.ufl_values.specs.Refused.{refused}
use Rattle.ufl_elab.specs.declared.bound.Bound.{Bound}
use Rattle.ufl_elab.specs.declared.program.Named.{Named}
use Rattle.ufl_elab.specs.Names.{Name, get}

-- the list of a statement that names the forms
pub record Exports : Type 0 where
  pub line : ℕ
  pub target : Span
  pub items : List Syn

abbrev pub listed : Syn-F Post Syn Arg Next → Option (List Syn)
listed (Syn-F.List bracket items) = Some items
listed _ = None

abbrev pub list_in : Option Syn → Option (List Syn)
list_in None = None
list_in (Some e) = listed (out-Syn e)

abbrev pub is_set : AssignOp → Bool
is_set o.Set = true
is_set _ = false

-- its only target is `forms`, without a comma; its sign is `=`, and its value a list in brackets
abbrev pub exports_by : List ℕ → Stmt → List Span → Option (List Syn) → Option Exports
exports_by file st (target ∷ []) (Some items) =
    if is_set st.op && (not st.unpack && bytes_eq (word_at file target) (codes "forms"))
    then Some (record { line = st.line; target = target; items = items }) else None
exports_by file st targets items = None

unfoldable pub exports_of : List ℕ → Stmt → Option Exports
exports_of file st = exports_by file st st.targets (list_in st.value)

abbrev pub later : Option Exports → Option Exports → Option Exports
later before None = before
later before (Some x) = Some x

-- the last such statement
abbrev pub last_exports : List ℕ → Option Exports → List Stmt → Option Exports
last_exports file found [] = found
last_exports file found (st ∷ sts) = last_exports file (later found (exports_of file st)) sts

-- a name that is bound to a form
abbrev pub form_bound : Bound → Value → Option Named
form_bound b (v.Form t) = Some (record { line = b.line; from = b.from; len = b.len; form = t })
form_bound b _ = None

abbrev pub named_by : Option Bound → Option Named
named_by None = None
named_by (Some b) = form_bound b b.value

abbrev pub form_named : List Name → List ℕ → Option Named
form_named names name = named_by (get names name)

abbrev pub bare_name : List ℕ → Syn-F Post Syn Arg Next → Option (List ℕ)
bare_name file (Syn-F.Name word) = Some (word_at file word)
bare_name file _ = None

unfoldable pub name_in : List ℕ → Syn → Option (List ℕ)
name_in file e = bare_name file (out-Syn e)

abbrev pub is_among : List ℕ → List (List ℕ) → Bool
is_among name [] = false
is_among name (x ∷ xs) = if bytes_eq x name then true else is_among name xs

-- one more form behind those that are found: a bare name that isn't among those before it, and is bound to a form
abbrev pub choice : List Name → List (List ℕ) → List ℕ → Option Named
choice names before name = if is_among name before then None else form_named names name

abbrev pub Chosen : Type 0
Chosen = Result (List Named) FormRefusal

abbrev pub with_form : Exports → Option Named → (Named → Chosen) → Chosen
with_form x None next = Err (refused r.Kind x.line x.target)
with_form x (Some form) next = next form

abbrev pub with_name : Exports → Option (List ℕ) → (List ℕ → Chosen) → Chosen
with_name x None next = Err (refused r.Kind x.line x.target)
with_name x (Some name) next = next name

abbrev pub chosen : List ℕ → List Name → Exports → List (List ℕ) → List Named → List Syn → Chosen
chosen file names x before found [] = Ok found
chosen file names x before found (e ∷ es) =
    with_name x (name_in file e) (λ name.
    with_form x (choice names before name) (λ form. chosen file names x (name ∷ before) (found ++ form ∷ []) es))

abbrev pub optional : Option Named → List Named
optional None = []
optional (Some form) = form ∷ []

-- the forms of `a`, `L` and `M`, as far as these are bound to forms
abbrev pub usual : List Name → List Named
usual names =
    optional (form_named names (codes "a")) ++ optional (form_named names (codes "L"))
    ++ optional (form_named names (codes "M"))

abbrev pub exported_by : List ℕ → Option Exports → List Name → Result (List Named) FormRefusal
exported_by file None names = Ok (usual names)
exported_by file (Some x) names = chosen file names x [] [] x.items

unfoldable pub exported : List ℕ → List Stmt → List Name → Result (List Named) FormRefusal
exported file sts names = exported_by file (last_exports file None sts) names
