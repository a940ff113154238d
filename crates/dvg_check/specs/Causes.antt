-- Why a frame or a certificate's shapes are refused, in numbers. All of it is this project's own.
use Rattle.std.specs.Prelude.{◌≡◌, ◌≢◌, ℕ, ◌-◌, ◌<◌, Some, None, List, Result, Ok, Err}
use Rattle.dvg_words.specs.Values.{Window}
use Rattle.dvg_words.specs.Memory.{Rom}
use Rattle.dvg_words.specs.declared.image.ImageFault.TheVariants as image
use Rattle.dvg_words.specs.declared.instruction.Instr.TheVariants.{Jmpl}
use Rattle.dvg_cert.specs.declared.entry.Entry.{Entry}
use Rattle.dvg_cert.specs.declared.entry.Key.{Key}
use Rattle.dvg_items.specs.declared.item.Kind.{Kind}
use Rattle.dvg_items.specs.declared.item.Kind.TheVariants.{Shape, Frame}
use Rattle.dvg_items.specs.declared.seen.Seen.{Seen as SeenItem}
use Rattle.dvg_items.specs.Known.{target, depth_under}
use Rattle.dvg_items.specs.Lit.{relative_corners}
use Rattle.dvg_check.specs.Rules.{Mode, FrameWhy, ShapeWhy}
use Rattle.dvg_check.specs.Finding.{FrameFinding, ShapeFinding, FirstFrameFound, FirstShapeFound}
use Rattle.dvg_check.specs.Leaving.{Leaving, LeavesFrom, LeavesBox}
use Rattle.dvg_check.specs.declared.fault.Found.{Found}
use Rattle.dvg_check.specs.declared.fault.Found.TheVariants.{Seen}
use Rattle.dvg_check.specs.declared.fault.FrameWhy.TheVariants as frame
use Rattle.dvg_check.specs.declared.fault.ShapeWhy.TheVariants as shape
use Rattle.dvg_check.specs.declared.verdict.Yes.{Yes}
use Rattle.dvg_check.specs.declared.verdict.Refusal.{Refusal}
use Rattle.dvg_check.specs.declared.verdict.Refusal.TheVariants as refusal
pub use Rattle.dvg_check.specs.declared.cause.FrameCause.{FrameCause}
pub use Rattle.dvg_check.specs.declared.cause.FrameCause.TheVariants as cause
pub use Rattle.dvg_check.specs.declared.cause.ShapeCause.{ShapeCause}
pub use Rattle.dvg_check.specs.declared.cause.ShapeCause.TheVariants as shape_cause
pub use Rattle.dvg_check.specs.declared.finding.Finding.{Finding}
pub use Rattle.dvg_check.specs.declared.finding.Finding.TheVariants as finding

-- what was found is an item, and this holds of it
abbrev pub OfSeen : Found → (SeenItem → Type 0) → Type 0
OfSeen (Seen v) P = P v
OfSeen found P = ⊥

-- a corner of what the item lights leaves the window
abbrev pub LeavesWindow : Window → Leaving → SeenItem → Type 0
LeavesWindow w leaving v = LeavesFrom w v.extent v.place leaving

-- the item calls or, in a shape, tail jumps to this address, and no entry is named by it at the scale that is known there
abbrev pub NamesNoEntry : Kind → ℕ → SeenItem → Type 0
NamesNoEntry kind to v = (target kind v.item.instr ≡ Some to) × (v.callee ≡ None)

-- what a cause says of the rule that is broken in a frame, of the known scale there, and of what was found
abbrev pub FrameCauseOf : Window → ℕ → FrameWhy → Key → Found → FrameCause → Type 0
FrameCauseOf w budget why known found cause.Unmapped = why ≡ frame.Unmapped
FrameCauseOf w budget why known found cause.Odd = why ≡ frame.Odd
FrameCauseOf w budget why known found cause.ReturnInFrame = why ≡ frame.ReturnInFrame
-- the item jumps to this address
FrameCauseOf w budget why known found (cause.BackJump to) = (why ≡ frame.BackJump) × OfSeen found (λ v. v.item.instr ≡ Jmpl to)
FrameCauseOf w budget why known found cause.BeamUnknown = why ≡ frame.BeamUnknown
FrameCauseOf w budget why known found cause.ScaleUnknown = why ≡ frame.ScaleUnknown
FrameCauseOf w budget why known found (cause.OffScreen leaving) = (why ≡ frame.OffScreen) × OfSeen found (LeavesWindow w leaving)
FrameCauseOf w budget why known found (cause.NoEntry to scale) =
    (why ≡ frame.NoEntry) × OfSeen found (NamesNoEntry Frame to) × (scale ≡ known)
-- the words past the item are this many more than the budget
FrameCauseOf w budget why known found (cause.Budget by) =
    (why ≡ frame.Budget) × OfSeen found (λ v. (budget < v.after.words) × (by ≡ v.after.words - budget))

-- the cause of a frame's first fault
abbrev pub CauseOf : Window → ℕ → FrameFinding → Type 0
CauseOf w budget f = FrameCauseOf w budget f.fault.why f.before.scale f.found f.cause

-- what a cause says of the rule that is broken in an entry's shape, of the known scale there, and of what was found
abbrev pub ClaimCauseOf : Window → Entry → ShapeWhy → Key → Found → ShapeCause → Type 0
ClaimCauseOf w e why known found shape_cause.Unmapped = why ≡ shape.Unmapped
ClaimCauseOf w e why known found shape_cause.Odd = why ≡ shape.Odd
ClaimCauseOf w e why known found shape_cause.HaltInShape = why ≡ shape.HaltInShape
ClaimCauseOf w e why known found shape_cause.BeamUnknown = why ≡ shape.BeamUnknown
ClaimCauseOf w e why known found shape_cause.ScaleUnknown = why ≡ shape.ScaleUnknown
ClaimCauseOf w e why known found (shape_cause.OffScreen leaving) = (why ≡ shape.OffScreen) × OfSeen found (LeavesWindow w leaving)
ClaimCauseOf w e why known found (shape_cause.NoEntry to scale) =
    (why ≡ shape.NoEntry) × OfSeen found (NamesNoEntry Shape to) × (scale ≡ known)
-- this many return places are stored at once under the item, more than the entry claims
ClaimCauseOf w e why known found (shape_cause.TooDeep depth) =
    (why ≡ shape.TooDeep) × OfSeen found (λ v. depth ≡ depth_under v.item.instr v.callee) × (e.depth < depth)
-- the words past the item are this many more than the entry claims
ClaimCauseOf w e why known found (shape_cause.TooManyWords by) =
    (why ≡ shape.TooManyWords) × OfSeen found (λ v. (e.words < v.after.words) × (by ≡ v.after.words - e.words))
-- what is known past the last item is this, and the entry claims another
ClaimCauseOf w e why known found (shape_cause.EndDiffers place) =
    (why ≡ shape.EndDiffers) × OfSeen found (λ v. place ≡ v.after.place) × (place ≢ e.stop)
ClaimCauseOf w e why known found (shape_cause.ScaleDiffers scale) =
    (why ≡ shape.ScaleDiffers) × OfSeen found (λ v. scale ≡ v.after.scale) × (scale ≢ e.scale)
-- a corner leaves the claimed box
ClaimCauseOf w e why known found (shape_cause.BoxTooSmall leaving) =
    (why ≡ shape.BoxTooSmall) × OfSeen found (λ v. LeavesBox e.lit (relative_corners v.extent v.place) leaving)
ClaimCauseOf w e why known found (shape_cause.WordsDiffer words) =
    (why ≡ shape.WordsDiffer) × OfSeen found (λ v. words ≡ v.after.words) × (words ≢ e.words)
ClaimCauseOf w e why known found (shape_cause.DepthDiffers depth) =
    (why ≡ shape.DepthDiffers) × OfSeen found (λ v. depth ≡ v.after.depth) × (depth ≢ e.depth)

-- the cause of the first fault of a certificate's shapes
abbrev pub ShapeCauseOf : Window → ShapeFinding → Type 0
ShapeCauseOf w f = ClaimCauseOf w f.entry f.fault.why f.before.scale f.found f.cause

-- the refusal that a finding tells of (profile)
abbrev pub refusal_of : Finding → Refusal
refusal_of finding.RomLength = refusal.Image image.RomLength
refusal_of finding.IndexMemory = refusal.IndexMemory
refusal_of (finding.Shape f) = refusal.Shape f.fault
refusal_of (finding.Frame f) = refusal.Frame f.fault

-- the verdict, with a refusal in the place of its finding (profile)
abbrev pub verdict_of : Result Yes Finding → Result Yes Refusal
verdict_of (Ok y) = Ok y
verdict_of (Err f) = Err (refusal_of f)

-- the finding of an item says what is known where the first fault is, and the rule's own numbers (profile)
abbrev pub TellsOf : Mode → Window → Rom → List Entry → List ℕ → ℕ → Finding → Type 0
TellsOf mode w rom list words budget (finding.Shape f) = FirstShapeFound mode w rom list f × ShapeCauseOf w f
TellsOf mode w rom list words budget (finding.Frame f) = FirstFrameFound w rom.machine words list budget f × CauseOf w budget f
TellsOf mode w rom list words budget f = Unit {0}
