-- The entries of a frame's own certificate, of those that are kept. No rule stands here.
use Rattle.std.specs.Prelude.{List, [], length, ℕ, ◌≡◌}
use Rattle.dvg_words.specs.Memory.{Rom}
use Rattle.dvg_cert.specs.declared.entry.Entry.{Entry}
use Rattle.dvg_check.specs.Rules.{Good}
use Rattle.dvg_check.specs.declared.fault.Mode.TheVariants.{Exact}
use Rattle.dvg_make.specs.Frames.{FrameMade}
use Rattle.dvg_make.specs.Private.Partial.{Extends}
use Rattle.dvg_kept.specs.Kept.{Kept}
use Rattle.dvg_kept.specs.Private.Marks.{IsMarking, Marks}

-- the marked entries are those that the frame calls, and all that these call
pub record AreOwn (rom : Rom) (words : List ℕ) (list : List Entry) (m : Marks) : Type 0 where
  pub marking : IsMarking rom words list m
  pub all : m.waiting ≡ []

-- so many of the kept entries are the list that is made for a frame, and their shapes are good
pub record HasOwn (k : Kept) (words : List ℕ) (n : ℕ) : Type 0 where
  pub list : List Entry
  pub made : FrameMade k.rom words list
  pub good : Good Exact k.window k.rom list
  pub extends : Extends list k.list
  pub count : length list ≡ n
