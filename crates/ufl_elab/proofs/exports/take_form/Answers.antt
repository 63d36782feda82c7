use Rattle.std.proofs.Common.{◌≡◌, ℕ, List, Option, None, if◌then◌else◌, IfOk, ap, sym, ◌∙◌, subst}
use Rattle.std.specs.Str.{bytes_eq}
use denote.Bor.{Bor}
use Rattle.ufl_elab.specs.declared.bound.Bound.{Bound}
use Rattle.ufl_elab.specs.declared.program.Named.{Named}
use Rattle.ufl_elab.specs.Exports.{named_by}
use Rattle.ufl_elab.proofs.EntryLaws.{get-names_of}
use Rattle.ufl_elab.proofs.exports.take_form.Goals as goal

pub returns-in-Some-clause-form : goal.returns-in-Some-clause-form
returns-in-Some-clause-form c =
    let got = get-names_of c.args.names.now.entries c.args.name.now ∙ sym c.in-Some.ensures.value in
    let P : Option Named → Type 0 = λ x. IfOk c.form_bound.result (λ r. r ≡ x) in
    subst P (sym (ap named_by got)) c.form_bound.ensures

pub returns-in-Some-clause-rest : goal.returns-in-Some-clause-rest
returns-in-Some-clause-rest c = λ other.
    let q : Bor (List ℕ) = record { ref_ptr = c.args.name.ref_ptr; now = other } in
    get-names_of c.swap_remove.new.self.entries other ∙ c.in-Some.ensures.updates.0 q
    ∙ ap (λ (o : Option Bound). if bytes_eq c.args.name.now other then None else o) (sym (get-names_of c.args.names.now.entries other))

pub returns-in-None-clause-form : goal.returns-in-None-clause-form
returns-in-None-clause-form c = ap named_by (c.in-None.ensures.value ∙ sym (get-names_of c.args.names.now.entries c.args.name.now))

pub returns-in-None-clause-rest : goal.returns-in-None-clause-rest
returns-in-None-clause-rest c = λ other.
    let q : Bor (List ℕ) = record { ref_ptr = c.args.name.ref_ptr; now = other } in
    get-names_of c.swap_remove.new.self.entries other ∙ c.in-None.ensures.updates.0 q
    ∙ ap (λ (o : Option Bound). if bytes_eq c.args.name.now other then None else o) (sym (get-names_of c.args.names.now.entries other))
