use Rattle.std.proofs.Common.{arith, take, ℕ, List}
use Rattle.std.proofs.lemmas.Grind.{common_steps}
use Rattle.dvg_cmd.specs.Private.Reading.{IsPrefix, limited}
use Rattle.dvg_cmd.proofs.Answers.{read_from}
use Rattle.dvg_cmd.proofs.frame_run.read_started.Goals as goal

pub returns-clause-bytes : goal.returns-clause-bytes
unfolding limited
returns-clause-bytes g c =
    let read : List ℕ = take c.in_ok-len.len c.read_prefix.new.buf in
    let first : IsPrefix 2049 (g.R.Read.remaining c.args.frame.now) read =
    record { first = rw c.told-buffer at c.in_ok-len.ensures.prefix } in
    record {
      read = read;
      from = read_from (g.R.Read.remaining c.args.frame.now) read first;
      is = grind (arith, common_steps, c.start_at.ensures.bytes, c.start_at.ensures.len, c.in_ok-len.ensures.within);
    }
