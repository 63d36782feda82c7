use Rattle.std.proofs.Common.{◌≡◌, ◌*◌, ◌≤◌, ap₂, arith}
use native.Mathlib.Nat as N
use Rattle.refint.specs.Local.{entries_of}
use Rattle.tensors.proofs.EntryLaws.{entries_few}
use Rattle.planner.proofs.planning.kernel_of.Goals as goal

pub overflow_mul-a : goal.overflow_mul-a
overflow_mul-a c =
    let l = c.args.l.now in
    let cell = c.requires.layout.0 in
    let lawful = c.requires.layout.1 in
    let test = entries_few cell l.rows lawful.rows in
    let trial = entries_few cell l.cols lawful.cols in
    let lines : entries_of l.rows * entries_of l.cols ≤ 1280 * entries_of l.cols = N.mul-le-mul_right (entries_of l.cols) test in
    let same : c.entry_count.result * c.entry_count-2.result ≡ entries_of l.rows * entries_of l.cols = ap₂ ◌*◌ c.entry_count.ensures c.entry_count-2.ensures in
    omega (arith, same, lines, trial)
