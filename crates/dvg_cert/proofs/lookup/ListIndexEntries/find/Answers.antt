use Rattle.dvg_cert.proofs.Common.{sym, subst, IfSome, IsClaim, IsCertificate}
use Rattle.dvg_cert.proofs.ListParts.{found_claim}
use Rattle.dvg_cert.proofs.lookup.ListIndexEntries.find.Goals as goal

pub returns-clause-claim : goal.returns-clause-claim
returns-clause-claim c =
    subst (λ o. IfSome o IsClaim) (sym c.find_in.ensures)
    (found_claim c.self.inside.cert.now.map c.entries.result.now c.args.addr c.args.key
    (subst (IsCertificate c.self.inside.cert.now.map) (sym c.entries.ensures.value) c.entries.ensures.certificate))
