use Rattle.refint.proofs.Vertices.{coordinate_is, position_is}
use Rattle.refint.proofs.laws.coordinates.Goals as goal

pub returns : goal.returns
returns c = record { sum = coordinate_is; position = λ c l h ps e v k g a i p w m n. position_is c l h ps e v k g a i p }
