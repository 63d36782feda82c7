use Rattle.std.proofs.Common.{◌*◌, length, map, ap₂, ◌∙◌}
use Rattle.spaces.specs.Scalar.{scalar_of}
use Rattle.dofs.proofs.TableLaws.{few_keys, few_rows, few_places, labels_made, ranks_made, ranks_size, rows_made}
use Rattle.dofs.proofs.table.row_table.Goals as goal

pub ranked-requires : goal.ranked-requires
ranked-requires c = few_keys c.args.mesh.now.kind c.args.parts.now c.args.mesh.now.cells c.deref.result.now c.requires.degrees c.requires.few c.occurring.ensures.mesh.few_cells (c.deref.ensures.value ∙ c.in_ok-keys.ensures.keys)

pub returns-clause-labels : goal.returns-clause-labels
returns-clause-labels c = labels_made c.args.mesh.now.kind (map scalar_of c.args.parts.now) c.args.mesh.now.cells c.deref.result.now c.in_ok-table.table.labels.items c.requires.degrees (c.deref.ensures.value ∙ c.in_ok-keys.ensures.keys) c.in_ok-table.ensures.labels

pub returns-clause-few : goal.returns-clause-few
returns-clause-few c =
    few_rows c.args.mesh.now.kind c.args.parts.now c.args.mesh.now.cells c.in_ok-table.table.labels.items c.requires.degrees c.requires.few c.occurring.ensures.mesh.few_cells
    (labels_made c.args.mesh.now.kind (map scalar_of c.args.parts.now) c.args.mesh.now.cells c.deref.result.now c.in_ok-table.table.labels.items c.requires.degrees (c.deref.ensures.value ∙ c.in_ok-keys.ensures.keys) c.in_ok-table.ensures.labels)

pub returns-clause-size : goal.returns-clause-size
returns-clause-size c =
    ranks_size c.args.mesh.now.kind (map scalar_of c.args.parts.now) c.args.mesh.now.cells c.truncate.new.self.items c.requires.degrees
    (ranks_made c.args.mesh.now.kind (map scalar_of c.args.parts.now) c.args.mesh.now.cells c.deref.result.now (c.cells.result * c.args.local) c.in_ok-table.table.ranks.items c.truncate.new.self.items c.requires.degrees
    (c.deref.ensures.value ∙ c.in_ok-keys.ensures.keys) c.in_ok-table.ensures.ranks (ap₂ (λ a b. a * b) c.cells.ensures c.requires.local) c.truncate.ensures.items)

pub returns-clause-fit : goal.returns-clause-fit
returns-clause-fit c =
    few_places c.args.mesh.now.kind c.args.parts.now (length c.args.mesh.now.cells) (length c.truncate.new.self.items) c.requires.degrees c.requires.few c.occurring.ensures.mesh.few_cells
    (ranks_size c.args.mesh.now.kind (map scalar_of c.args.parts.now) c.args.mesh.now.cells c.truncate.new.self.items c.requires.degrees
    (ranks_made c.args.mesh.now.kind (map scalar_of c.args.parts.now) c.args.mesh.now.cells c.deref.result.now (c.cells.result * c.args.local) c.in_ok-table.table.ranks.items c.truncate.new.self.items c.requires.degrees
    (c.deref.ensures.value ∙ c.in_ok-keys.ensures.keys) c.in_ok-table.ensures.ranks (ap₂ (λ a b. a * b) c.cells.ensures c.requires.local) c.truncate.ensures.items))

pub returns-clause-rows : goal.returns-clause-rows
returns-clause-rows c =
    rows_made c.args.mesh.now.kind (map scalar_of c.args.parts.now) c.args.mesh.now.cells c.truncate.new.self.items c.requires.degrees
    (ranks_made c.args.mesh.now.kind (map scalar_of c.args.parts.now) c.args.mesh.now.cells c.deref.result.now (c.cells.result * c.args.local) c.in_ok-table.table.ranks.items c.truncate.new.self.items c.requires.degrees
    (c.deref.ensures.value ∙ c.in_ok-keys.ensures.keys) c.in_ok-table.ensures.ranks (ap₂ (λ a b. a * b) c.cells.ensures c.requires.local) c.truncate.ensures.items)
