-- Statements are known by their parts.
use Rattle.std.proofs.Common.{[], ◌≡◌, ◌≢◌, ◌<◌, true, false, Bool, List, ℕ, Option, Some, None, is_some, length, refl, sym, ap, subst, ◌∙◌, arith}
use Rattle.std.specs.Coded.{×_prop, →_prop, le_prop}
use mathlib.Core.Bool.{Bool-set}
use Rattle.ufl_syntax.specs.declared.span.Span.{Span}
use Rattle.ufl_syntax.specs.declared.class.Lexeme.{Lexeme}
use Rattle.ufl_syntax.specs.declared.tree.AssignOp.{AssignOp}
use Rattle.ufl_syntax.specs.declared.tree.AssignOp.TheVariants as o
use Rattle.ufl_syntax.specs.declared.tree.Stmt.{Stmt}
use Rattle.ufl_syntax.specs.declared.tree.Syn.{Syn}
use Rattle.ufl_syntax.specs.Grammar.{HasParts, Names, one_name, several_names, Targets, bare_targets, bracketed_targets}

-- what each statement says of its targets and its value
abbrev pub Assigned : AssignOp → List Span → Option Syn → Type 0
Assigned op targets value = op ≢ o.ImportAll → (0 < length targets) × (is_some value ≡ true)

one_proof : (op : AssignOp) (targets : List Span) (value : Option Syn) → IsProp (Assigned op targets value)
one_proof op targets value = →_prop (×_prop le_prop (Bool-set (is_some value) true))

abbrev pub of_parts : (line : ℕ) (targets : List Span) (unpack : Bool) (op : AssignOp) (value : Option Syn) → Assigned op targets value → Stmt
of_parts line targets unpack op value h = record { line = line; targets = targets; unpack = unpack; op = op; value = value; assigned = h }

abbrev Made : Stmt → ℕ → List Span → Bool → AssignOp → Option Syn → Type 0
Made a line targets unpack op value = (h : Assigned op targets value) → a ≡ of_parts line targets unpack op value h

pub made_of : (a : Stmt) (line : ℕ) (targets : List Span) (unpack : Bool) (op : AssignOp) (value : Option Syn) → HasParts a line targets unpack op value → Made a line targets unpack op value
made_of a line targets unpack op value p =
    let own : Made a a.line a.targets a.unpack a.op a.value = λ h. ap (of_parts a.line a.targets a.unpack a.op a.value) (one_proof a.op a.targets a.value a.assigned h) in
    let with_value = subst (λ x. Made a a.line a.targets a.unpack a.op x) p.4 own in
    let with_op = subst (λ x. Made a a.line a.targets a.unpack x value) p.3 with_value in
    let with_unpack = subst (λ x. Made a a.line a.targets x op value) p.2 with_op in
    let with_targets = subst (λ x. Made a a.line x unpack op value) p.1 with_unpack in
    subst (λ x. Made a x targets unpack op value) p.0 with_targets

-- a statement with the parts of another is that one
pub same_statement : (a b : Stmt) (line : ℕ) (targets : List Span) (unpack : Bool) (op : AssignOp) (value : Option Syn) → HasParts a line targets unpack op value → HasParts b line targets unpack op value → a ≡ b
same_statement a b line targets unpack op value p q =
    made_of a b.line b.targets b.unpack b.op b.value (p.0 ∙ sym q.0, p.1 ∙ sym q.1, p.2 ∙ sym q.2, p.3 ∙ sym q.3, p.4 ∙ sym q.4) b.assigned

abbrev pub import_of : ℕ → Stmt
import_of line = of_parts line [] false o.ImportAll None (λ h. absurd (h refl))

abbrev pub assignment_of : (line : ℕ) (targets : List Span) → Bool → AssignOp → Syn → 0 < length targets → Stmt
assignment_of line targets unpack op e h = of_parts line targets unpack op (Some e) (λ _. (h, refl))

pub some_names : {ts : List Lexeme} {names : List Span} {unpack : Bool} {rest : List Lexeme} → Names ts names unpack rest → 0 < length names
some_names (one_name h) = omega arith
some_names (several_names h i l) = omega arith

pub some_targets : {ts : List Lexeme} {names : List Span} {unpack : Bool} {rest : List Lexeme} → Targets ts names unpack rest → 0 < length names
some_targets (bare_targets a) = some_names a
some_targets (bracketed_targets h a i) = some_names a
