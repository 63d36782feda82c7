use Rattle.form_assembly.proofs.Preparing.{assembly_fits, assembly_is}
use Rattle.form_assembly.proofs.laws.prepared.Goals as goal

pub returns : goal.returns
returns c = record {
  fits = λ p o w name l funs test trial is m mesh coefs fit. assembly_fits p o w name l funs test trial is m mesh coefs fit;
  assembly = λ p o w name l funs test trial is m mesh coefs values. assembly_is p o w name l funs test trial is m mesh coefs values;
}
