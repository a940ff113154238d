-- Reading in pieces: what each call makes of the stream of the pieces so far.
use Rattle.std.specs.Prelude.{◌≡◌, ℕ, List, ◌++◌, Result, Ok, Err}
use Rattle.dvg_cert.specs.declared.fault.CertWhy.TheVariants.{Unended, Memory}
use Rattle.dvg_cert.specs.declared.fault.CertFault.{CertFault}
use Rattle.dvg_cert.specs.Order.{Certificate}
use Rattle.dvg_text.specs.Reading.{MayStand, ReadAnswer}

-- what a reader of pieces holds: the bytes so far, or the refusal of some earlier call (profile)
pub data Stream : Type 0 where
  Open : List ℕ → Stream
  Refused : CertFault → Stream

-- a piece is taken exactly where the whole lines of the bytes so far and the piece can be taken, running out of memory aside;
-- else the answer is that to the two together, and each later call has it too (profile)
abbrev pub FeedsTo : Stream → List ℕ → Stream → Result (Unit {0}) CertFault → Type 0
FeedsTo (Refused f) piece new result = (new ≡ Refused f) × (result ≡ Err f)
FeedsTo (Open text) piece new (Ok u) = MayStand (text ++ piece) × (new ≡ Open (text ++ piece))
FeedsTo (Open text) piece new (Err f) =
    ReadAnswer (text ++ piece) (Err f) × (MayStand (text ++ piece) → f.why ≡ Memory) × (new ≡ Refused f)

-- the end: the answer to all bytes, whose only refusal left is that they are not ended (profile)
abbrev pub FinishesTo : Stream → Result Certificate CertFault → Type 0
FinishesTo (Refused f) result = result ≡ Err f
FinishesTo (Open text) (Ok c) = ReadAnswer text (Ok c)
FinishesTo (Open text) (Err f) = ReadAnswer text (Err f) × (f.why ≡ Unended)
