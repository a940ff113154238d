use Rattle.dvg_make.proofs.Common.{refl}
use Rattle.dvg_make.proofs.account.out_of_memory.Goals as goal

pub returns : goal.returns
returns c = λ rom roots frames. record { refuse = record { list = tt; root = tt; frame = tt }; why = refl; chain = tt }
