-- Walks over shapes, each of which stops where an earlier one came by.
use Rattle.std.specs.Prelude.{List, Bool, Contains, ◌⊎◌}
use Rattle.std.specs.List.{AllByRecursion}
use Rattle.dvg_words.specs.Memory.{Rom, rom_word}
use Rattle.dvg_cert.specs.declared.entry.Entry.{Entry}
use Rattle.dvg_survey.specs.Calls.{Call}
use Rattle.dvg_survey.specs.Chains.{Calls, IsShapeCall}
use Rattle.dvg_words.specs.declared.machine.Machine.{Machine}
use Rattle.dvg_cert.specs.declared.entry.Key.{Key}
use Rattle.dvg_items.specs.declared.item.Kind.TheVariants.{Shape}
use Rattle.dvg_items.specs.Known.{Context}
use Rattle.dvg_survey.specs.Private.KeyedWords.{KeyedWord, HasWord}

-- the context of the items of a shape that starts at this key
abbrev pub keyed : Machine → List Entry → Key → Context
keyed machine list key = record { kind = Shape; machine = machine; list = list; scale = key }

-- a shape that starts at this word and key has the call, by the entries of a list
abbrev pub CallsFrom : Rom → List Entry → KeyedWord → Call → Type 0
CallsFrom rom list place call = Calls (keyed rom.machine list place.1) (rom_word rom) place.0 call

-- the call is one of these, or one from a word that was visited before
abbrev pub IsMet : Rom → List Entry → List Bool → List Call → Call → Type 0
IsMet rom list visited calls call = Contains calls call ⊎ ((place : KeyedWord) × HasWord visited place × CallsFrom rom list place call)

-- so is each call from this word
abbrev pub AllMet : Rom → List Entry → List Bool → List Call → KeyedWord → Type 0
AllMet rom list visited calls place = (call : Call) → CallsFrom rom list place call → IsMet rom list visited calls call

-- the calls of a shape that were not met before, by a walk that changes what was visited from `old` to `new`
pub record AreNewCalls (rom : Rom) (list : List Entry) (e : Entry) (old new : List Bool) (calls : List Call) : Type 0 where
  pub own : AllByRecursion (IsShapeCall rom list e) calls
  pub all : AllMet rom list old calls (e.addr, e.key)
  pub visited : (place : KeyedWord) → HasWord new place → AllMet rom list old calls place
