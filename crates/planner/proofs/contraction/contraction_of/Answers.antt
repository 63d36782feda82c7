use Rattle.std.proofs.Common.{◌≡◌, ◌-◌, ◌*◌, length, refl, sym, ap, ◌∙◌, subst, lit<}
use Rattle.std.specs.List.{AllByRecursion}
use native.Mathlib.Nat as N
use Rattle.ufl_tree.specs.declared.function.Role.TheVariants.{Test, Trial}
use Rattle.monos.specs.Monomial.{directions, monomial_of}
use Rattle.std.specs.List.{flat_map}
use Rattle.monomial_products.specs.Supports.{support_of}
use Rattle.monomial_weights.specs.Columns.{column_count}
use Rattle.tensors.specs.Rows.{fractions_of as row_fractions}
use Rattle.kernel_statements.specs.Counted.{counted_rows}
use Rattle.kernel_statements.specs.Digits.{coefficient_digits, end_node, first_node}
use Rattle.planner.specs.Contractions.{IsOnNodes}
use Rattle.planner.proofs.FormedLaws.{contraction_is, leading_few, no_columns, no_rows, nodes_few, rows_bounded, tensor_columns, tensor_few, tensor_width}
use Rattle.planner.proofs.NodeLaws.{nodes_spread, on_nodes}
use Rattle.planner.proofs.QuotientLaws.{all_quotients}
use Rattle.planner.proofs.contraction.contraction_of.Goals as goal

pub returns-then-columns-eq0-clause-contraction : goal.returns-then-columns-eq0-clause-contraction
returns-then-columns-eq0-clause-contraction c =
    let l = c.args.l.now in
    let m = monomial_of c.args.m.now in
    let rows = c.in_ok-tensor.tensor in
    let same = c.in_ok-tensor.ensures.rows in
    let columns : c.columns-columns.result ≡ column_count l m.atoms = tensor_columns l m rows same c.requires.layout c.columns-columns.result c.columns-columns.ensures in
    no_columns l m (sym columns ∙ c.if-columns-eq0.true)

pub returns-then-columns-eq0-clause-bounds : goal.returns-then-columns-eq0-clause-bounds
returns-then-columns-eq0-clause-bounds c = rows_bounded c.args.l.now c.args.w.now (monomial_of c.args.m.now) c.in_ok-tensor.tensor c.in_ok-tensor.ensures.rows c.in_ok-tensor.ensures.bounds

pub find_rows-requires-clause-nodes : goal.find_rows-requires-clause-nodes
find_rows-requires-clause-nodes c =
    let l = c.args.l.now in
    let m = monomial_of c.args.m.now in
    let rows = c.in_ok-tensor.tensor in
    let same = c.in_ok-tensor.ensures.rows in
    let columns : c.columns-columns.result ≡ column_count l m.atoms = tensor_columns l m rows same c.requires.layout c.columns-columns.result c.columns-columns.ensures in
    let tests = c.test_nodes-tests.result in
    let trials = c.trial_nodes-trials.result in
    let test_from : tests.from ≡ first_node (support_of l Test m.atoms) = c.test_nodes-tests.ensures.from ∙ ap (λ xs. first_node (support_of l Test xs)) c.as_slice-atoms.ensures in
    let test_to : tests.to ≡ end_node l.rows (support_of l Test m.atoms) = c.test_nodes-tests.ensures.to ∙ ap (λ xs. end_node l.rows (support_of l Test xs)) c.as_slice-atoms.ensures in
    let trial_from : trials.from ≡ first_node (support_of l Trial m.atoms) = c.trial_nodes-trials.ensures.from ∙ ap (λ xs. first_node (support_of l Trial xs)) c.as_slice-atoms.ensures in
    let trial_to : trials.to ≡ end_node l.cols (support_of l Trial m.atoms) = c.trial_nodes-trials.ensures.to ∙ ap (λ xs. end_node l.cols (support_of l Trial xs)) c.as_slice-atoms.ensures in
    let spread = nodes_spread l m c.requires.arguments tests trials test_from test_to trial_from trial_to in
    let few = nodes_few l c.args.w.now m ((tests.to - tests.from) * (trials.to - trials.from)) (column_count l m.atoms) c.requires.admitted c.requires.within spread (λ e. c.if-columns-eq0.false (columns ∙ e)) in
    subst (λ k. IsOnNodes rows k tests trials) (sym c.entry_count-cols.ensures) (on_nodes l c.requires.layout m rows same tests trials test_from test_to trial_from trial_to few)

pub find_rows-requires-clause-quotients : goal.find_rows-requires-clause-quotients
find_rows-requires-clause-quotients c = all_quotients c.args.l.now c.requires.layout c.args.w.now (monomial_of c.args.m.now) c.requires.admitted c.requires.within c.in_ok-tensor.tensor c.in_ok-tensor.ensures.bounds

pub find_rows-requires-clause-width : goal.find_rows-requires-clause-width
find_rows-requires-clause-width c =
    let l = c.args.l.now in
    let m = monomial_of c.args.m.now in
    let rows = c.in_ok-tensor.tensor in
    let same = c.in_ok-tensor.ensures.rows in
    let columns : c.columns-columns.result ≡ column_count l m.atoms = tensor_columns l m rows same c.requires.layout c.columns-columns.result c.columns-columns.ensures in
    subst (λ n. AllByRecursion (λ row. length row ≡ n) rows) (sym (c.new-counted.ensures.width ∙ columns)) (tensor_width l m rows same)

pub find_rows-requires-clause-range : goal.find_rows-requires-clause-range
find_rows-requires-clause-range c = N.lt_of_le_of_lt (tensor_few c.args.l.now (monomial_of c.args.m.now) c.in_ok-tensor.tensor c.in_ok-tensor.ensures.rows c.requires.layout) (lit< tt)

pub count-rows-requires : goal.count-rows-requires
count-rows-requires c =
    let l = c.args.l.now in
    let m = monomial_of c.args.m.now in
    let rows = c.in_ok-tensor.tensor in
    let same = c.in_ok-tensor.ensures.rows in
    let columns : c.columns-columns.result ≡ column_count l m.atoms = tensor_columns l m rows same c.requires.layout c.columns-columns.result c.columns-columns.ensures in
    let tests = c.test_nodes-tests.result in
    let trials = c.trial_nodes-trials.result in
    let test_from : tests.from ≡ first_node (support_of l Test m.atoms) = c.test_nodes-tests.ensures.from ∙ ap (λ xs. first_node (support_of l Test xs)) c.as_slice-atoms.ensures in
    let test_to : tests.to ≡ end_node l.rows (support_of l Test m.atoms) = c.test_nodes-tests.ensures.to ∙ ap (λ xs. end_node l.rows (support_of l Test xs)) c.as_slice-atoms.ensures in
    let trial_from : trials.from ≡ first_node (support_of l Trial m.atoms) = c.trial_nodes-trials.ensures.from ∙ ap (λ xs. first_node (support_of l Trial xs)) c.as_slice-atoms.ensures in
    let trial_to : trials.to ≡ end_node l.cols (support_of l Trial m.atoms) = c.trial_nodes-trials.ensures.to ∙ ap (λ xs. end_node l.cols (support_of l Trial xs)) c.as_slice-atoms.ensures in
    let spread = nodes_spread l m c.requires.arguments tests trials test_from test_to trial_from trial_to in
    let few = nodes_few l c.args.w.now m ((tests.to - tests.from) * (trials.to - trials.from)) (column_count l m.atoms) c.requires.admitted c.requires.within spread (λ e. c.if-columns-eq0.false (columns ∙ e)) in
    leading_few (row_fractions rows) c.in_ok-entries.entries.items c.find_rows.new.counted ((tests.to - tests.from) * (trials.to - trials.from)) 4294967296
    c.in_ok-entries.ensures.entries c.in_ok-entries.ensures.rows c.in_ok-entries.ensures.few (N.lt_of_le_of_lt few (lit< tt))

pub returns-then-rows-eq0-clause-contraction : goal.returns-then-rows-eq0-clause-contraction
returns-then-rows-eq0-clause-contraction c =
    ap counted_rows (sym c.in_ok-tensor.ensures.rows)
    ∙ no_rows (row_fractions c.in_ok-tensor.tensor) c.find_rows.new.counted c.in_ok-entries.ensures.rows (sym c.count-rows.ensures ∙ c.if-rows-eq0.true)

pub returns-then-rows-eq0-clause-bounds : goal.returns-then-rows-eq0-clause-bounds
returns-then-rows-eq0-clause-bounds c = rows_bounded c.args.l.now c.args.w.now (monomial_of c.args.m.now) c.in_ok-tensor.tensor c.in_ok-tensor.ensures.rows c.in_ok-tensor.ensures.bounds

pub returns-clause-contraction : goal.returns-clause-contraction
returns-clause-contraction c =
    let l = c.args.l.now in
    let m = monomial_of c.args.m.now in
    let rows = c.in_ok-tensor.tensor in
    let same = c.in_ok-tensor.ensures.rows in
    let columns : c.columns-columns.result ≡ column_count l m.atoms = tensor_columns l m rows same c.requires.layout c.columns-columns.result c.columns-columns.ensures in
    let tests = c.test_nodes-tests.result in
    let trials = c.trial_nodes-trials.result in
    let test_from : tests.from ≡ first_node (support_of l Test m.atoms) = c.test_nodes-tests.ensures.from ∙ ap (λ xs. first_node (support_of l Test xs)) c.as_slice-atoms.ensures in
    let test_to : tests.to ≡ end_node l.rows (support_of l Test m.atoms) = c.test_nodes-tests.ensures.to ∙ ap (λ xs. end_node l.rows (support_of l Test xs)) c.as_slice-atoms.ensures in
    let trial_from : trials.from ≡ first_node (support_of l Trial m.atoms) = c.trial_nodes-trials.ensures.from ∙ ap (λ xs. first_node (support_of l Trial xs)) c.as_slice-atoms.ensures in
    let trial_to : trials.to ≡ end_node l.cols (support_of l Trial m.atoms) = c.trial_nodes-trials.ensures.to ∙ ap (λ xs. end_node l.cols (support_of l Trial xs)) c.as_slice-atoms.ensures in
    let spread = nodes_spread l m c.requires.arguments tests trials test_from test_to trial_from trial_to in
    contraction_is l m rows same _ c.find_rows.new.counted ((tests.to - tests.from) * (trials.to - trials.from))
    (c.in_ok-coefficients.ensures ∙ ap (coefficient_digits l) c.as_slice-atoms.ensures) (c.in_ok-directions.ensures ∙ ap (flat_map directions) c.as_slice-atoms.ensures)
    columns c.count-rows.ensures c.if-rows-eq0.false c.in_ok-entries.ensures.rows refl c.in_ok-entries.ensures.entries c.in_ok-entries.ensures.few spread

pub returns-clause-bounds : goal.returns-clause-bounds
returns-clause-bounds c = rows_bounded c.args.l.now c.args.w.now (monomial_of c.args.m.now) c.in_ok-tensor.tensor c.in_ok-tensor.ensures.rows c.in_ok-tensor.ensures.bounds
