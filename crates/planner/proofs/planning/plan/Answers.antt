use Rattle.std.proofs.lemmas.Result.{IfOk-weaker}
use Rattle.planner.proofs.BodyLaws.{bound, columns_few, few_tables, fit, has_sizes, keeps, loaded, rows_few, statements, tables_named, written}
use Rattle.planner.proofs.FitLaws.{fitting}
use Rattle.planner.proofs.RoomLaws.{in_room}
use Rattle.planner.proofs.ShareLaws.{share}
use Rattle.planner.proofs.planning.plan.Goals as goal

pub kernel_of-requires-clause-tables : goal.kernel_of-requires-clause-tables
kernel_of-requires-clause-tables c = few_tables c.args.l.now c.requires.layout c.args.w.now c.requires.weight c.in_ok-contractions.ensures.contractions

pub kernel_of-requires-clause-columns : goal.kernel_of-requires-clause-columns
kernel_of-requires-clause-columns c = columns_few c.args.l.now c.requires.layout c.args.w.now c.requires.weight c.in_ok-contractions.ensures.contractions

pub kernel_of-requires-clause-rows : goal.kernel_of-requires-clause-rows
kernel_of-requires-clause-rows c = rows_few c.args.l.now c.requires.layout c.args.w.now c.requires.weight c.in_ok-contractions.ensures.contractions

pub kernel_of-requires-clause-buffers : goal.kernel_of-requires-clause-buffers
kernel_of-requires-clause-buffers c = fit c.args.l.now c.requires.layout c.args.w.now c.requires.weight c.in_ok-contractions.ensures.contractions

pub returns-clause-sizes : goal.returns-clause-sizes
returns-clause-sizes c =
    IfOk-weaker c.kernel_of.result _ _ (has_sizes c.args.l.now c.requires.layout c.args.w.now c.requires.weight c.in_ok-contractions.ensures.contractions) c.kernel_of.ensures.kernel

pub returns-clause-lawful : goal.returns-clause-lawful
returns-clause-lawful c =
    IfOk-weaker c.kernel_of.result _ _ (keeps c.args.l.now c.requires.layout c.args.w.now c.requires.weight c.in_ok-contractions.ensures.contractions) c.kernel_of.ensures.kernel

pub returns-clause-tables : goal.returns-clause-tables
returns-clause-tables c =
    IfOk-weaker c.kernel_of.result _ _ (tables_named c.args.l.now c.requires.layout c.args.w.now c.requires.weight c.in_ok-contractions.ensures.contractions) c.kernel_of.ensures.kernel

pub returns-clause-loaded : goal.returns-clause-loaded
returns-clause-loaded c =
    IfOk-weaker c.kernel_of.result _ _ (loaded c.args.l.now c.requires.layout c.args.w.now c.requires.weight c.in_ok-contractions.ensures.contractions) c.kernel_of.ensures.kernel

pub returns-clause-bound : goal.returns-clause-bound
returns-clause-bound c =
    IfOk-weaker c.kernel_of.result _ _ (bound c.args.l.now c.requires.layout c.args.w.now c.requires.weight c.in_ok-contractions.ensures.contractions) c.kernel_of.ensures.kernel

pub returns-clause-statements : goal.returns-clause-statements
returns-clause-statements c =
    IfOk-weaker c.kernel_of.result _ _ (statements c.args.l.now c.requires.layout c.args.w.now c.requires.weight c.in_ok-contractions.ensures.contractions) c.kernel_of.ensures.kernel

pub returns-clause-written : goal.returns-clause-written
returns-clause-written c =
    IfOk-weaker c.kernel_of.result _ _ (written c.args.l.now c.requires.layout c.args.w.now c.requires.weight c.in_ok-contractions.ensures.contractions) c.kernel_of.ensures.kernel

pub returns-clause-share : goal.returns-clause-share
returns-clause-share c =
    IfOk-weaker c.kernel_of.result _ _ (share c.args.l.now c.requires.layout c.args.w.now c.requires.weight c.in_ok-contractions.ensures.contractions) c.kernel_of.ensures.kernel

pub returns-clause-fits : goal.returns-clause-fits
returns-clause-fits c =
    IfOk-weaker c.kernel_of.result _ _ (fitting c.args.l.now c.requires.layout c.args.w.now c.requires.weight c.in_ok-contractions.ensures.contractions) c.kernel_of.ensures.kernel

pub returns-clause-room : goal.returns-clause-room
returns-clause-room c =
    IfOk-weaker c.kernel_of.result _ _
    (in_room c.parts.ensures c.args.l.now c.requires.layout c.args.w.now c.requires.weight c.in_ok-contractions.ensures.bounds c.in_ok-contractions.ensures.contractions)
    c.kernel_of.ensures.kernel
