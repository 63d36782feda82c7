use Rattle.std.proofs.Common.{◌+◌, ap, ap₂, ◌∙◌, arith}
use Rattle.indexmap.specs.IndexMap.{insert_entry}
use Rattle.ufl_elab.specs.Names.{bound_by, assign}
use Rattle.ufl_elab.specs.Entries.{count_of, freed_of, names_of}
use Rattle.ufl_elab.proofs.EntryLaws.{same_name, count-insert, assign-names_of}
use Rattle.ufl_elab.proofs.names.Names.assign.Goals as goal

pub overflow_sub-self : goal.overflow_sub-self
overflow_sub-self c =
    let b = bound_by c.args.target c.args.line c.args.value in
    let es = c.args.self.now.bound.entries in
    let into = c.in-Ok.ensures.entries ∙ ap (λ x. insert_entry same_name es c.text-name.result x) c.new.ensures in
    let e = ap₂ (λ m n. m + n) (ap count_of into) (c.freed.ensures ∙ ap freed_of c.in-Ok.ensures.old) ∙ count-insert es c.text-name.result b in
    omega (arith, e, c.in-Some.ensures, c.nodes.ensures, c.args.self.now.counted)

pub invariant_of-self : goal.invariant_of-self
invariant_of-self c =
    let b = bound_by c.args.target c.args.line c.args.value in
    let es = c.args.self.now.bound.entries in
    let into = c.in-Ok.ensures.entries ∙ ap (λ x. insert_entry same_name es c.text-name.result x) c.new.ensures in
    let e = ap₂ (λ m n. m + n) (ap count_of into) (c.freed.ensures ∙ ap freed_of c.in-Ok.ensures.old) ∙ count-insert es c.text-name.result b in
    record { counted = omega (arith, e, c.in-Some.ensures, c.nodes.ensures, c.args.self.now.counted) }

pub returns-in-Ok-clause-names : goal.returns-in-Ok-clause-names
returns-in-Ok-clause-names c =
    let b = bound_by c.args.target c.args.line c.args.value in
    let es = c.args.self.now.bound.entries in
    ap names_of (c.in-Ok.ensures.entries ∙ ap (λ x. insert_entry same_name es c.text-name.result x) c.new.ensures)
    ∙ assign-names_of es c.text-name.result b ∙ ap (λ w. assign (names_of es) w b) c.text-name.ensures
