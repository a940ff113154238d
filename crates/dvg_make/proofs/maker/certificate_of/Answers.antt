use Rattle.dvg_make.proofs.Finishing.{is_made, is_certificate}
use Rattle.dvg_make.proofs.maker.certificate_of.Goals as goal

pub certificate_unchecked-requires : goal.certificate_unchecked-requires
certificate_unchecked-requires c =
    rw (c.in_ok-entries.ensures, ← c.requires.done.1)
    (is_certificate c.requires.done.0 c.requires.done.2 c.requires.done.3 c.args.done c.sort.new.self c.requires.done.4
    c.in_ok-sort.ensures.rising c.in_ok-sort.ensures.same c.in_ok-sort.ensures.len (rw c.requires.done.1 c.requires.map))

pub returns-clause-made : goal.returns-clause-made
returns-clause-made c =
    λ rom roots frames m h. rw (c.certificate_unchecked.ensures, c.in_ok-entries.ensures)
    (is_made rom roots frames c.args.done c.sort.new.self h c.in_ok-sort.ensures.rising c.in_ok-sort.ensures.same
    c.in_ok-sort.ensures.len (rw m c.requires.map))
