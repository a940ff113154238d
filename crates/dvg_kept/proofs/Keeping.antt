-- What is merged of kept entries and of made ones is kept again.
use Rattle.std.specs.Prelude.{◌≡◌, ℕ, ◌+◌, ◌≤◌, List, [], ◌∷◌, length, Option, Some, None, Ok, Contains, refl}
use Rattle.std.specs.Option.{option_or}
use Rattle.dvg_words.specs.Memory.{IsRom, Rom, rom_word}
use Rattle.dvg_words.specs.Values.{Window}
use Rattle.dvg_words.specs.declared.instruction.Cell.{Cell}
use Rattle.dvg_words.specs.declared.instruction.Cell.TheVariants.{Missing, Odd}
use Rattle.dvg_check.specs.Rules.{Good, GoodShape, ShapeKeeps}
use Rattle.dvg_check.specs.declared.fault.Mode.TheVariants.{Exact}
use Rattle.dvg_make.proofs.Common.{arith, sym, ap, subst, ◌∙◌, Entry, Item, Shape, LeadsTo, Holds, cell_at, target, MadeEntry, Extends, entry_at, MOST_ENTRIES, all_listed}
use Rattle.dvg_make.proofs.Matching.{Matched, seen_matched, found_listed}
use Rattle.dvg_make.proofs.Merging.{made_grows}
use Rattle.dvg_make.proofs.Agreeing.{agree}
use Rattle.dvg_make.proofs.OneFrame.{one_frames_made}
use Rattle.dvg_make.specs.Frames.{FrameMade}
use Rattle.dvg_make.specs.Judging.{VerdictByMade}
use Rattle.dvg_check.specs.declared.verdict.Yes.{Yes}
use Rattle.dvg_make.proofs.Onward.{same_if, listed_entry}
use Rattle.dvg_items.proofs.Listed.{listed_at}
use Rattle.dvg_cert.specs.Entry.{IsEntry}
use Rattle.dvg_kept.specs.Kept.{Kept, IsKept}
use Rattle.dvg_make.specs.Merged.{IsMerged}
use Rattle.dvg_kept.proofs.OwnList.{KeepsAt}

-- a made entry that is good by a list is so by each that has more
module _ (w : Window) (rom : Rom) (a b : List Entry) (ext : Extends a b) (e : Entry) (made : MadeEntry rom a e) where
  matched : (items : List Item) (p : ℕ) → LeadsTo Shape (rom_word rom) e.addr items p → Matched rom.machine a b e.key items
  matched [] p lead = tt
  matched (i ∷ earlier) p lead =
      (matched earlier i.at lead.0, same_if a b _ ext (target Shape i.instr) (made.keyed earlier i lead.0 lead.1))

  good_grows : GoodShape Exact w rom a e → GoodShape Exact w rom b e
  good_grows good earlier p lead why = by_cell (cell_at (rom_word rom) p) refl (good earlier p lead why)
    where
      by_cell : (cell : Cell) → cell_at (rom_word rom) p ≡ cell → KeepsAt w rom.machine a e earlier p why cell
          → KeepsAt w rom.machine b e earlier p why cell
      by_cell Missing is h = h
      by_cell Odd is h = h
      by_cell (Holds format i) is h =
          let j : Item = record { at = p; format = format; instr = i } in
          subst (λ v. ShapeKeeps Exact w e v why)
          (seen_matched rom.machine a b e.key earlier j
          (matched earlier p lead, same_if a b _ ext (target Shape i) (made.keyed earlier j lead is))) h

module _ (k : Kept) (kept : IsKept k) (made : List Entry) (also : IsKept (record { rom = k.rom; window = k.window; list = made }))
    (merged : List Entry) (is : IsMerged k.list made merged) (few : length k.list + length made ≤ MOST_ENTRIES) where
  first : Extends k.list merged
  first addr key e h = is.found addr key ∙ ap (λ o. option_or o (entry_at made addr key)) h

  second : Extends made merged
  second addr key e h = is.found addr key ∙ by (entry_at k.list addr key) refl
    where
      by : (o : Option Entry) → entry_at k.list addr key ≡ o → option_or o (entry_at made addr key) ≡ Some e
      by None none = h
      by (Some f) some = ap Some (agree k.rom k.list made kept.are.each also.are.each addr key f e some h)

  -- an entry of it is one of the first or of the second list
  record From (e : Entry) : Type 0 where
    made_is : MadeEntry k.rom merged e
    good_is : GoodShape Exact k.window k.rom merged e

  from : (e : Entry) → Contains merged e → From e
  from e c = by (entry_at k.list e.addr e.key) refl
    where
      by : (o : Option Entry) → entry_at k.list e.addr e.key ≡ o → From e
      by None none =
          let there : entry_at made e.addr e.key ≡ Some e =
          sym (ap (λ o. option_or o (entry_at made e.addr e.key)) none) ∙ sym (is.found e.addr e.key)
          ∙ found_listed merged e is.rising c in
          let l = listed_at made e.addr e.key e there in
          record {
            made_is = made_grows k.rom made merged e second (also.are.each e l.listed);
            good_is =
                good_grows k.window k.rom made merged second e (also.are.each e l.listed) (also.good e l.listed);
          }
      by (Some f) some =
          let same : Some f ≡ Some e =
          sym (ap (λ o. option_or o (entry_at made e.addr e.key)) some) ∙ sym (is.found e.addr e.key)
          ∙ found_listed merged e is.rising c in
          let there : entry_at k.list e.addr e.key ≡ Some e = some ∙ same in
          let l = listed_at k.list e.addr e.key e there in
          record {
            made_is = made_grows k.rom k.list merged e first (kept.are.each e l.listed);
            good_is =
                good_grows k.window k.rom k.list merged first e (kept.are.each e l.listed) (kept.good e l.listed);
          }

  entry_is : (e : Entry) → Contains merged e → IsEntry k.rom.map.rom_first k.rom.map.rom_last e
  entry_is e c = by (entry_at k.list e.addr e.key) refl
    where
      by : (o : Option Entry) → entry_at k.list e.addr e.key ≡ o → IsEntry k.rom.map.rom_first k.rom.map.rom_last e
      by None none =
          let there : entry_at made e.addr e.key ≡ Some e =
          sym (ap (λ o. option_or o (entry_at made e.addr e.key)) none) ∙ sym (is.found e.addr e.key)
          ∙ found_listed merged e is.rising c in
          listed_entry k.rom.map.rom_first k.rom.map.rom_last made e also.are.certificate.each (listed_at made e.addr e.key e there).listed
      by (Some f) some =
          let same : Some f ≡ Some e =
          sym (ap (λ o. option_or o (entry_at made e.addr e.key)) some) ∙ sym (is.found e.addr e.key)
          ∙ found_listed merged e is.rising c in
          listed_entry k.rom.map.rom_first k.rom.map.rom_last k.list e kept.are.certificate.each
          (listed_at k.list e.addr e.key e (some ∙ same)).listed

  pub kept_again : IsKept (record { rom = k.rom; window = k.window; list = merged })
  kept_again =
      record {
        rom_is = kept.rom_is;
        are =
            record {
              certificate =
                  record {
                    map_is = kept.are.certificate.map_is;
                    each =
                        all_listed (IsEntry k.rom.map.rom_first k.rom.map.rom_last) merged entry_is;
                    rising =
                        is.rising;
                    few = omega (arith, is.few, few);
                  };
              each = λ e c. (from e c).made_is;
            };
        good = λ e c. (from e c).good_is;
      }

-- the list that is made for a frame which is accepted by it can be kept
pub kept_made : (rom : Rom) (w : Window) (words : List ℕ) (list : List Entry) → IsRom rom → FrameMade rom words list
    → (budget : ℕ) (y : Yes) → VerdictByMade rom words w budget (Ok y) → IsKept (record { rom = rom; window = w; list = list })
kept_made rom w words list rom_is made budget y v =
    let same : v.list ≡ list = one_frames_made rom [] (words ∷ []) v.list list v.made made in
    record {
      rom_is = rom_is;
      are = record { certificate = made.certificate; each = made.each };
      good =
          subst (λ (l : List Entry). Good Exact w rom l) same v.verdict.0;
    }
