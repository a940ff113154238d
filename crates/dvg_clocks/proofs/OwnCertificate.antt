-- A frame that is accepted by its own certificate is one whose clocks are added up.
use Rattle.dvg_clocks.proofs.Common.{◌≡◌, ℕ, ◌≤◌, List, [], ◌∷◌, subst, Entry, Window, Rom, Good, GoodFrame}
use Rattle.std.specs.Prelude.{Ok}
use Rattle.dvg_cert.specs.declared.limits.TheConstants.{MOST_WORDS}
use Rattle.dvg_check.specs.declared.fault.Mode.TheVariants.{Exact}
use Rattle.dvg_check.specs.declared.verdict.Yes.{Yes}
use Rattle.dvg_make.specs.Frames.{FrameMade}
use Rattle.dvg_make.specs.Judging.{VerdictByMade}
use Rattle.dvg_make.proofs.OneFrame.{one_frames_made}
use Rattle.dvg_clocks.specs.Judging.{IsAccepted}

module _ (rom : Rom) (words : List ℕ) (w : Window) (budget : ℕ) (few : budget ≤ MOST_WORDS) (yes : Yes) (list : List Entry)
    (made : FrameMade rom words list) where
  abbrev pub accepted : VerdictByMade rom words w budget (Ok yes) → IsAccepted (record { frame = words; rom = rom }) list
  accepted v =
      let same : v.list ≡ list = one_frames_made rom [] (words ∷ []) v.list list v.made made in
      record {
        shapes = record { mode = Exact; window = w; good = subst (Good Exact w rom) same v.verdict.0 };
        words = yes.words;
        frame = record {
          window = w;
          budget = budget;
          depth = yes.depth;
          few = few;
          good =
              subst (λ (l : List Entry). GoodFrame w rom.machine words l budget yes.words yes.depth) same v.verdict.1;
        };
      }
