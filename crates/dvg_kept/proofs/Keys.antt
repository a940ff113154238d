-- The keys of entries at their positions.
use Rattle.std.specs.Prelude.{◌≡◌, ℕ, List, Some, slice_get}
use Rattle.dvg_cert.specs.Entry.{IsClaim, IsKey}
use Rattle.dvg_items.specs.Bounds.{IsSomeCertificate}
use Rattle.dvg_items.proofs.Listed.{listed_claim}
use Rattle.dvg_make.proofs.Common.{Entry}
use Rattle.dvg_kept.proofs.Picking.{contains_at}

pub key_at : (list : List Entry) → IsSomeCertificate list → (q : ℕ) (e : Entry) → slice_get list q ≡ Some e → IsKey e.key
key_at list some q e h = let claim : IsClaim e = listed_claim list e some (contains_at list q e h) in claim.key
