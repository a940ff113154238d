use Rattle.dvg_cmd.proofs.Common.{ap}
use Rattle.dvg_cmd.proofs.LineByLine.{cut_in, then}
use Rattle.dvg_cmd.proofs.Writing.{same_texts}
use Rattle.dvg_cmd.specs.Most.{lines_of}
use Rattle.dvg_cmd.proofs.most.MostTaken.write.Goals as goal

pub returns-in_err-write_taken : goal.returns-in_err-write_taken
returns-in_err-write_taken g c =
    same_texts (ap lines_of c.self.view_is)
    (cut_in (rw (c.from-most_words.ensures, c.at.ensures) at c.in_err-write_taken.ensures) _ c.from_residual.ensures.0)

pub returns-in_err-write_taken-2 : goal.returns-in_err-write_taken-2
returns-in_err-write_taken-2 g c =
    same_texts (ap lines_of c.self.view_is)
    (then (rw (c.from-most_words.ensures, c.at.ensures) at c.in_ok-write_taken.ensures)
    (cut_in (rw (c.from-most_depth.ensures, c.at-2.ensures) at c.in_err-write_taken-2.ensures) _
    c.from_residual-in_err-write_taken-2.ensures.0))

pub returns : goal.returns
returns g c =
    same_texts (ap lines_of c.self.view_is)
    (then (rw (c.from-most_words.ensures, c.at.ensures) at c.in_ok-write_taken.ensures)
    (then (rw (c.from-most_depth.ensures, c.at-2.ensures) at c.in_ok-write_taken-2.ensures)
    (rw (c.clocks_label.ensures.text, c.at-name.ensures) at c.write_taken-3.ensures)))
