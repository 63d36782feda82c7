use Rattle.ufl_program.proofs.ProgramLaws.{program_sound}
use Rattle.ufl_program.proofs.laws.soundness.Goals as goal

pub returns : goal.returns
returns c = program_sound
