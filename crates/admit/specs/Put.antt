-- How the costs and the numerators of two operands are put together
use Rattle.std.specs.Prelude.{ℕ, ◌+◌, max}
use Rattle.admit.specs.declared.steps.Put.{Put}
use Rattle.admit.specs.declared.steps.Put.TheVariants.{Either, Both}

abbrev pub put_by : Put → ℕ → ℕ → ℕ
put_by Either = max
put_by Both = λ m n. m + n
