use Rattle.dvg_cert.proofs.Common.{◌∙◌, sym, ap, arith, subst, IsCertificate}
use Rattle.std.proofs.lemmas.List.{length-map}
use Rattle.dvg_cert.proofs.ListParts.{claim_there}
use Rattle.dvg_cert.proofs.Hashing.{none_there}
use Rattle.std.specs.Option.{option_copied}
use Rattle.dvg_cert.proofs.hash_index.HashIndex.entry_of.Goals as goal

pub returns-in_err-index-clause-entry : goal.returns-in_err-index-clause-entry
returns-in_err-index-clause-entry c =
    rw (← c.self.view_is) (ap option_copied c.from_residual.ensures
    ∙ none_there c.args.addr c.args.key c.self.inside.cert.now.entries c.self.inside.keys.keys c.self.invariant
    (sym c.in_err-index.ensures.found))

pub returns-clause-claim : goal.returns-clause-claim
returns-clause-claim c =
    claim_there c.self.inside.cert.now.map c.entries.result.now c.in_ok-index.index _
    (subst (IsCertificate c.self.inside.cert.now.map) (sym c.entries.ensures.value) c.entries.ensures.certificate) (grind (arith, length-map))
