-- The forms of a list of names, one behind the other
use Rattle.std.proofs.Common.{◌≡◌, ◌<◌, ◌+◌, ℕ, List, [], ◌∷◌, ◌++◌, length, get_or, drop, Bool, true, false, if◌then◌else◌, Option, None, Some, refl, sym, ap, ◌∙◌}
use Rattle.std.specs.Str.{bytes_eq}
use Rattle.ufl_syntax.specs.declared.tree.Syn.{Syn}
use Rattle.ufl_elab.specs.declared.bound.Bound.{Bound}
use Rattle.ufl_elab.specs.declared.program.Named.{Named}
use Rattle.ufl_elab.specs.Names.{Name, get}
use Rattle.ufl_elab.specs.Exports.{Exports, Chosen, named_by, form_named, is_among, choice, with_form, with_name, name_in, chosen}
use Rattle.ufl_elab.proofs.StepLaws.{next_dropped}

without_both : (b c : Bool) (o : Option Bound) → (if b then None else if c then None else o) ≡ (if (if b then true else c) then None else o)
without_both true c o = refl
without_both false true o = refl
without_both false false o = refl

named_without : (b : Bool) (o : Option Bound) → named_by (if b then None else o) ≡ (if b then None else named_by o)
named_without true o = refl
named_without false o = refl

-- what the names are bound to once one more is taken
pub left_after : (before : List (List ℕ)) (name other : List ℕ) (old new all : List Name)
    → get new other ≡ (if bytes_eq name other then None else get old other)
    → get old other ≡ (if is_among other before then None else get all other)
    → get new other ≡ (if is_among other (name ∷ before) then None else get all other)
left_after before name other old new all taken is =
    taken ∙ ap (λ o. if bytes_eq name other then None else o) is ∙ without_both (bytes_eq name other) (is_among other before) (get all other)

-- one more form
pub chosen_next : (file : List ℕ) (all old : List Name) (x : Exports) (before : List (List ℕ)) (found : List Named) (es : List Syn) (i : ℕ) (e : Syn)
    (name : List ℕ) (form : Named) (want : Chosen)
    → i < length es → e ≡ get_or es i e → name_in file e ≡ Some name → form_named old name ≡ Some form
    → get old name ≡ (if is_among name before then None else get all name)
    → want ≡ chosen file all x before found (drop i es) → want ≡ chosen file all x (name ∷ before) (found ++ form ∷ []) (drop (i + 1) es)
chosen_next file all old x before found es i e name form want h here bare is left w =
    let rest = drop (i + 1) es in
    let choose = sym (named_without (is_among name before) (get all name)) ∙ ap named_by (sym left) ∙ is in
    w ∙ ap (λ l. chosen file all x before found l) (next_dropped es i e h here)
    ∙ ap (λ o. with_name x o (λ n. with_form x (choice all before n) (λ f. chosen file all x (n ∷ before) (found ++ f ∷ []) rest))) bare
    ∙ ap (λ o. with_form x o (λ f. chosen file all x (name ∷ before) (found ++ f ∷ []) rest)) choose
