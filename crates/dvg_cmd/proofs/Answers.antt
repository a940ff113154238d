-- The answer to a frame, over plain values.
use Rattle.dvg_cmd.proofs.Common.{◌≡◌, ℕ, List, ◌++◌, length, Option, Result, IfErr, IfSome, words_of, IsFrameLength, Means, HasCallCause, Yes, FrameRefusal, IsReadTo, arith, MOST_FRAME_READ, Judged, Judging, ReadsFrame, AnswersFrame, started, take, drop, subst, sym, refl, ap, Ok, Err, FrameAnswer, common_steps, Rom, IsPrefix, IsJudged, IsReadFrom, AreImages, InRange, RangeRefusal, limited}
use Rattle.dvg_cmd.specs.declared.timed_judge.ClockOptions.{ClockOptions}
use Rattle.dvg_cmd.specs.declared.timed_judge.LineClocks.{LineClocks}
use Rattle.dvg_cmd.specs.declared.timed_judge.LineClocks.TheVariants as line
use Rattle.dvg_clocks.specs.declared.judging.TimedRefusal.{TimedRefusal}
use Rattle.dvg_clocks.specs.declared.judging.TimedRefusal.TheVariants as timed
use Rattle.dvg_clocks.specs.declared.judging.TimedYes.{TimedYes}
use Rattle.dvg_check.specs.declared.verdict.Refusal.{Refusal}
use Rattle.dvg_spelling.specs.declared.answer.ItemPlace.TheVariants as place
use Rattle.dvg_spelling.specs.declared.answer.Answer.TheVariants.{NoMemory}
use Rattle.dvg_make.specs.declared.judging.FrameRefusal.TheVariants.{Check}
use Rattle.dvg_cmd.specs.Frames.{Slow, Timed, TimedAnswer, Unread, VerdictBy, judged_timed, refusal_in, rom_of, timed_answer, told_with, yes_in}
use Rattle.dvg_cmd.specs.declared.frame_judge.OwnCertificates.{OwnCertificates}
use Rattle.dvg_cmd.specs.Kept.{IsKeptFor, IsTimedFor}
use Rattle.dvg_cmd.specs.Private.Judging.{IsAnswerOf}
use Rattle.dvg_clocks.specs.Judging.{IsTimed}
use Rattle.dvg_kept.specs.Timed.{TimedKept}
use Rattle.dvg_kept.specs.Kept.{Kept}
use Rattle.dvg_cmd.proofs.Whole.{frame_same}

-- what holds of the bytes that were judged holds of all that the reader held
of_all : (P : List ℕ → Type 0) (reader : Option (List ℕ)) (start : Option ℕ) (bytes : List ℕ) → ReadsFrame reader start bytes
    → IsFrameLength (length bytes) → P bytes
    → IfSome reader (λ held. P (started start held))
of_all P reader start bytes reads long holds = grind (arith)

module _ (j : Judging) (start : Option ℕ) (reader left : Option (List ℕ)) where
  -- what a judge says of bytes that were read is an answer to all that the reader held
  pub answers_judged : (a : FrameAnswer) (bytes slice : List ℕ) → IsReadTo MOST_FRAME_READ reader left → ReadsFrame reader start bytes
      → slice ≡ bytes → j.is_answer slice a
      → IfSome (yes_in a) (λ yes. IsFrameLength (length slice))
      → IfSome (yes_in a) (λ yes. Means j.mode (record { frame = words_of slice; rom = j.rom }) j.window yes.words yes.depth)
      → IfSome (refusal_in a) (j.is_told slice)
      → AnswersFrame j start reader left a
  answers_judged a bytes slice read reads same answer long means told = by a answer long means told
    where
      of : ReadsFrame reader start slice
      of = subst (ReadsFrame reader start) (sym same) reads

      by : (a : FrameAnswer) → j.is_answer slice a → IfSome (yes_in a) (λ yes. IsFrameLength (length slice))
          → IfSome (yes_in a) (λ yes. Means j.mode (record { frame = words_of slice; rom = j.rom }) j.window yes.words yes.depth)
          → IfSome (refusal_in a) (j.is_told slice) → AnswersFrame j start reader left a
      by (Judged (Ok y)) answer long means told =
          record {
            bytes = slice;
            answers = (read, of, answer);
            told = tt;
            means =
                of_all (λ b. Means j.mode (record { frame = words_of b; rom = j.rom }) j.window y.words y.depth) reader start slice of long
                means;
          }
      by (Judged (Err r)) answer long means told = record { bytes = slice; answers = (read, of, answer); told = told; means = tt }
      by (Timed t) answer long means told =
          record {
            bytes = slice;
            answers = (read, of, answer);
            told = tt;
            means =
                of_all (λ b. Means j.mode (record { frame = words_of b; rom = j.rom }) j.window t.yes.words t.yes.depth) reader start slice of
                long means;
          }
      by (Slow at) answer long means told = record { bytes = slice; answers = (read, of, answer); told = tt; means = tt }
      by Unread answer long means told = record { bytes = slice; answers = tt; told = tt; means = tt }
      by NoMemory answer long means told = record { bytes = slice; answers = (read, of, answer); told = tt; means = tt }

-- ---- what a frame comes to

pub read_from : (reader : Option (List ℕ)) (bytes : List ℕ) → IsPrefix 2049 reader bytes → IsReadFrom reader bytes
unfolding limited
read_from reader bytes read = record { first = read.first; whole = λ h. grind (arith, (frame_same reader bytes read h)) }

pub reads_frame : (reader : Option (List ℕ)) (start : Option ℕ) (items slice new : List ℕ) → IsPrefix 2049 reader items → slice ≡ items
    → new ≡ started start slice → length new ≡ length slice
    → ReadsFrame reader start (take (length items) (new ++ drop (length new) items))
reads_frame reader start items slice new read same is len = grind (arith, (read_from reader items read), common_steps)

-- what the judge says of the images of these bytes
module _ (own : OwnCertificates) (bytes words : List ℕ) (image : Rom) (a : AreImages own bytes words image) (v : Result Yes FrameRefusal)
    (said : IsJudged image words own.window own.budget v) where
  on_bytes : IsJudged (rom_of own) (words_of bytes) own.window own.budget v
  on_bytes = subst (λ x. IsJudged (rom_of own) x own.window own.budget v) a.words_are
      (subst (λ y. IsJudged y words own.window own.budget v) a.rom_is said)

  pub own_verdict : VerdictBy own bytes v
  own_verdict = grind (arith, on_bytes)

  pub own_told : IfErr v (HasCallCause (rom_of own) (words_of bytes))
  own_told = on_bytes.told

-- what is said over kept shapes
module _ (own : OwnCertificates) (bytes words : List ℕ) (kept : Kept)
    (is : IsKeptFor own.machine own.rom.now own.map own.window kept) (range : InRange bytes own.budget)
    (words_are : words ≡ words_of bytes) (v : Result Yes FrameRefusal) (said : IsJudged kept.rom words kept.window own.budget v) where
  images : AreImages own bytes words kept.rom
  images = record { in_range = range; rom_length = is.rom_length; words_are = words_are; rom_is = is.rom_is }

  in_window : IsJudged kept.rom words own.window own.budget v
  in_window = rw is.window_is at said

  pub kept_verdict : VerdictBy own bytes v
  kept_verdict = own_verdict own bytes words kept.rom images v in_window

  pub kept_told : IfErr v (HasCallCause (rom_of own) (words_of bytes))
  kept_told = own_told own bytes words kept.rom images v in_window

-- what is said with clocks of the images of these bytes
module _ (asked : ClockOptions) (own : OwnCertificates) (bytes : List ℕ) where
  abbrev Says : FrameAnswer → Type 0
  Says answer = (l : LineClocks) → asked.line ≡ l → IsAnswerOf (judged_timed asked own) bytes (told_with l answer)

  accepted : (t : TimedYes) → TimedAnswer asked.timing own bytes (Timed t) → Says (Timed t)
  accepted t said line.Told is =
      record {
        answer = (Timed t, said, ap (λ l. told_with l (Timed t)) (sym is));
        judged = refl;
        whole = said.0.in_range.frame_length;
        means = said.0.means;
        told = tt;
      }
  accepted t said line.LeftOut is =
      record {
        answer = (Timed t, said, ap (λ l. told_with l (Timed t)) (sym is));
        judged = refl;
        whole = said.0.in_range.frame_length;
        means = said.0.means;
        told = tt;
      }

  slow : (at : ℕ) → TimedAnswer asked.timing own bytes (Slow (place.Frame at)) → Says (Slow (place.Frame at))
  slow at said line.Told is =
      record {
        answer = (Slow (place.Frame at), said, ap (λ l. told_with l (Slow (place.Frame at))) (sym is));
        judged = refl;
        whole = tt;
        means = tt;
        told = tt;
      }
  slow at said line.LeftOut is =
      record {
        answer = (Slow (place.Frame at), said, ap (λ l. told_with l (Slow (place.Frame at))) (sym is));
        judged = refl;
        whole = tt;
        means = tt;
        told = tt;
      }

  refused : (r : FrameRefusal) → VerdictBy own bytes (Err r) → HasCallCause (rom_of own) (words_of bytes) r → Says (Judged (Err r))
  refused r said cause line.Told is =
      record {
        answer = (Judged (Err r), said, ap (λ l. told_with l (Judged (Err r))) (sym is));
        judged = refl;
        whole = tt;
        means = tt;
        told = cause;
      }
  refused r said cause line.LeftOut is =
      record {
        answer = (Judged (Err r), said, ap (λ l. told_with l (Judged (Err r))) (sym is));
        judged = refl;
        whole = tt;
        means = tt;
        told = cause;
      }

  -- a refusal before anything is judged
  pub plain_answers : (r : Refusal) → VerdictBy own bytes (Err (Check r))
      → IsAnswerOf (judged_timed asked own) bytes (Judged (Err (Check r)))
  plain_answers r said = by asked.line refl
    where
      by : (l : LineClocks) → asked.line ≡ l → IsAnswerOf (judged_timed asked own) bytes (Judged (Err (Check r)))
      by line.Told is = refused (Check r) said tt line.Told is
      by line.LeftOut is = refused (Check r) said tt line.LeftOut is

  -- such a one is 2 or 49
  pub range_answers : (r : Refusal) → RangeRefusal bytes own.budget r → IsAnswerOf (judged_timed asked own) bytes (Judged (Err (Check r)))
  range_answers r h = plain_answers r (grind (arith))

  module _ (words : List ℕ) (image : Rom) (a : AreImages own bytes words image) where
    pub timed_answers : (v : Result TimedYes TimedRefusal) → IsTimed asked.timing image words own.window own.budget v
        → IsAnswerOf (judged_timed asked own) bytes (told_with asked.line (timed_answer v))
    timed_answers v said =
        by v (subst (λ x. IsTimed asked.timing (rom_of own) x own.window own.budget v) a.words_are
        (subst (λ y. IsTimed asked.timing y words own.window own.budget v) a.rom_is said)) asked.line refl
      where
        by : (v : Result TimedYes TimedRefusal) → IsTimed asked.timing (rom_of own) (words_of bytes) own.window own.budget v
            → Says (timed_answer v)
        by (Ok t) on =
            accepted t (
              record { in_range = a.in_range; rom_length = a.rom_length; means = on.means; least = on.least; by_own = on.verdict.0 },
              record { sum = on.verdict.1; within = on.verdict.2; runs = on.clocks },
            )
        by (Err (timed.Judged r)) on =
            refused r (own_verdict own bytes (words_of bytes) (rom_of own)
            (record { in_range = a.in_range; rom_length = a.rom_length; words_are = refl; rom_is = refl }) (Err r)
            (record { verdict = on.verdict; means = tt; least = tt; refused = on.refused.0; told = on.refused.1 })) on.refused.1
        by (Err (timed.Slow at)) on = slow at (a.in_range, a.rom_length, on.verdict)

  -- and over kept shapes
  pub kept_answers : (words : List ℕ) (kept : TimedKept) → IsTimedFor asked.timing own.machine own.rom.now own.map own.window kept
      → InRange bytes own.budget → words ≡ words_of bytes → (v : Result TimedYes TimedRefusal)
      → IsTimed (record { states = kept.states; limit = asked.timing.limit }) kept.kept.rom words kept.kept.window own.budget v
      → IsAnswerOf (judged_timed asked own) bytes (told_with asked.line (timed_answer v))
  kept_answers words kept is range words_are v said =
      timed_answers words kept.kept.rom
      (record { in_range = range; rom_length = is.kept.rom_length; words_are = words_are; rom_is = is.kept.rom_is }) v
      (rw (is.kept.window_is, is.states) at said)
