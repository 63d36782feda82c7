use Rattle.std.proofs.Common.{sym, ◌∙◌}
use Rattle.mesh_in.specs.declared.header.Header.{Header}
use Rattle.mesh_in.specs.Line.{words}
use Rattle.mesh_in.proofs.HeaderLemmas.{header_steps, words_left, none_left}
use Rattle.mesh_in.proofs.header.read_header.Goals as goal

pub returns-then-has_words : goal.returns-then-has_words
returns-then-has_words c =
    let left = words c.in_ok-cells.rest.now in
    let h : Header = record { kind = c.in_ok-kind.kind; version = c.in_ok-version.version; vertices = c.in_ok-vertices.vertices; cells = c.in_ok-cells.cells } in
    sym (header_steps (words c.args.line.now) (words c.in_ok-rest.rest.now) (words c.in_ok-version.rest.now) (words c.in_ok-kind.rest.now) (words c.in_ok-vertices.rest.now) left h.version h.kind h.vertices h.cells
    (sym c.in_ok-rest.ensures) (sym c.in_ok-version.ensures) (sym c.in_ok-kind.ensures) (sym c.in_ok-vertices.ensures) (sym c.in_ok-cells.ensures) ∙ words_left left h (sym c.has_words.ensures ∙ c.if-has_words.true))

pub returns : goal.returns
returns c =
    let left = words c.in_ok-cells.rest.now in
    let h : Header = record { kind = c.in_ok-kind.kind; version = c.in_ok-version.version; vertices = c.in_ok-vertices.vertices; cells = c.in_ok-cells.cells } in
    sym (header_steps (words c.args.line.now) (words c.in_ok-rest.rest.now) (words c.in_ok-version.rest.now) (words c.in_ok-kind.rest.now) (words c.in_ok-vertices.rest.now) left h.version h.kind h.vertices h.cells
    (sym c.in_ok-rest.ensures) (sym c.in_ok-version.ensures) (sym c.in_ok-kind.ensures) (sym c.in_ok-vertices.ensures) (sym c.in_ok-cells.ensures) ∙ none_left left h (sym c.has_words.ensures ∙ c.if-has_words.false))
