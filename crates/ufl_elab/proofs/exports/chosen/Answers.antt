use Rattle.std.proofs.Common.{◌+◌, ◌∷◌, drop, sym, ap, ◌∙◌}
use Rattle.ufl_elab.specs.Entries.{names_of}
use Rattle.ufl_elab.specs.Exports.{chosen}
use Rattle.ufl_elab.specs.Answers.{exports_seen}
use Rattle.ufl_elab.proofs.ExportLaws.{left_after, chosen_next}
use Rattle.ufl_elab.proofs.exports.chosen.Goals as goal

pub loop-item-preserved : goal.loop-item-preserved
loop-item-preserved c =
    let l = c.loop-item in
    let file = c.args.file.now in
    let x = exports_seen c.args.exports in
    let es = c.args.exports.items.now in
    let name = c.in-Some.name.now in
    let before = l.invariant.0 in
    let all = names_of c.args.names.now.entries in
    let old = names_of l.names.entries in (
      name ∷ before,
      (
        λ other. left_after before name other old (names_of c.take_form.new.names.entries) all (c.take_form.ensures.rest other) (l.invariant.1.0 other),
        chosen_next file all old x before l.all es l.item-index c.item-item.result name c.in-Some-2.form _ c.loop-item-test.true c.item-item.is
            (sym c.in-Some.ensures) (sym c.in_ok-form.ensures.form ∙ c.in-Some-2.is) (l.invariant.1.0 name) l.invariant.1.1
            ∙ ap (λ found. chosen file all x (name ∷ before) found (drop (l.item-index + 1) es)) (sym c.in_ok-push-in-Some-2.ensures.ok),
      ),
    )
