use Rattle.std.proofs.Common.{◌≡◌, ◌≤◌, ◌||◌, ℕ, true, nat_le, refl, le-leb, arith}
use Rattle.ufl_calls.proofs.GroupLaws.{pushed_large}
use Rattle.ufl_elab.proofs.evaluation.overfull.Goals as goal

either_large : (n h : ℕ) → 10000 ≤ n → (nat_le 10000 n || nat_le 128 h) ≡ true
either_large n h large = rw (le-leb 10000 n large) refl

pub returns : goal.returns
returns c = λ vs is.
    pushed_large vs c.args.item.now c.args.group.now
    (record { alloc = c.args.alloc; items = c.new.result; nodes = c.saturating_add-nodes.result; height = c.max.result })
    is (omega (arith, c.saturating_add-nodes.ensures, c.nodes.ensures)) (omega (arith, c.max.ensures, c.height.ensures))
    (either_large c.saturating_add-nodes.result c.max.result (omega (arith, c.if-nodes-lt-MOST_NODES.false)))
