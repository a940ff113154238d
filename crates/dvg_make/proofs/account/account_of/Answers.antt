use Rattle.dvg_make.proofs.account.account_of.Goals as goal

pub returns-in-Err : goal.returns-in-Err
returns-in-Err c = λ rom roots frames refused. c.out_of_memory.ensures rom roots frames
