-- Reading one piece after another, of known bytes.
use Rattle.dvg_cmd.proofs.Common.{◌≡◌, ℕ, ◌+◌, ◌-◌, ◌<◌, ◌≤◌, List, Option, ◌++◌, length, length-append, take, arith, common_steps, take-append-le, Consumes, Ok, Err, CertFault, ReadsText, rules, take-append-add, IsAtEnd, ShortText, Stream, Open, FeedsTo}
use borrow.Rule.Slice.PartMut.{put_mid, post_of}

pub take_filled : (filled n k : ℕ) (buf sub : List ℕ) → filled ≤ length buf → n ≤ length sub
    → take (filled + n) (put_mid filled k buf sub) ≡ take filled buf ++ take n sub
take_filled filled n k buf sub h e =
    grind (
      arith,
      rules,
      common_steps,
      (take-append-add (take filled buf) (sub ++ post_of filled k buf) n),
      (take-append-le n sub (post_of filled k buf) e),
      take-append-add,
      take-append-le,
    )

-- what was skipped where so many bytes are left to skip, or none since the end was met
pub record Skipped (most left : ℕ) (old now : Option (List ℕ)) : Type 0 where
  pub bytes : List ℕ
  pub read : Consumes old now bytes
  pub few : length bytes + left ≤ most
  pub full : 0 < left → length bytes + left ≡ most
  pub end : length bytes < most → left ≡ 0 → IsAtEnd now

pub piece_skipped : (most left room : ℕ) (old mid new : Option (List ℕ)) (piece : List ℕ) → Skipped most left old mid → 0 < left
    → room ≤ left → length piece ≡ room → Consumes mid new piece → Skipped most (left - room) old new
piece_skipped most left room old mid new piece before some within long read =
    grind (arith, rules, common_steps, (length-append before.bytes piece), length-append)

pub last_skipped : (most left room : ℕ) (old mid new : Option (List ℕ)) (piece : List ℕ) → Skipped most left old mid → room ≤ left
    → length piece ≤ room → Consumes mid new piece → IsAtEnd new → Skipped most 0 old new
last_skipped most left room old mid new piece before within long read end =
    grind (arith, rules, common_steps, (length-append before.bytes piece), length-append)

-- ---- pieces that are fed to a reader of certificates

-- a text that was fed is short
pub fed_on : ShortText → (text piece : List ℕ) (stream new : Stream) (u : Unit {0}) → stream ≡ Open text
    → FeedsTo stream piece new (Ok u) → (new ≡ Open (text ++ piece)) × (length (text ++ piece) ≤ 819800)
fed_on short_text text piece stream new u is fed = grind (arith)

pub fed_refused : (old mid new : Option (List ℕ)) (text piece : List ℕ) (stream next : Stream) (f : CertFault) → stream ≡ Open text
    → Consumes old mid text → length text ≤ 819800 → Consumes mid new piece → length piece ≤ 4096 → FeedsTo stream piece next (Err f)
    → ReadsText old new (Err f)
fed_refused old mid new text piece stream next f is before few read long fed =
    grind (arith, rules, common_steps, (length-append text piece), length-append)
