-- What the loop over items keeps, and what follows where it stops.
use Rattle.dvg_check.proofs.Common.{Source, arith, ◌<◌, refl, List, ap, ◌≡◌, ◌∷◌, ℕ, cell_at, Cell, Missing, Odd, Holds, Format, Instr, Entry, Key, IsFound, LeadsTo, Context, known_before, seen_at, PlaceKeeps, CellKeeps, Item, Kind, Known, Seen, rules, AllBefore, FaultFound, seen_by, WalksTo, KeepsAll, BreaksFirst, IsSoundCursor, Found}
use Rattle.dvg_check.specs.declared.fault.Found.TheVariants as found
use Rattle.dvg_items.specs.declared.cursor.Cursor.{Cursor}
use Rattle.dvg_items.specs.declared.cursor.Step.{Step}
use Rattle.dvg_items.specs.declared.cursor.Step.TheVariants.{Onward, Last}
use Rattle.dvg_items.proofs.Stepping.{leads_on, ends_at}
use Rattle.dvg_check.proofs.Faults.{all_kept}

-- ---- the loop

-- the items so far: they lead to the cursor, their places keep all rules, and what is known is known of them
pub record Walked {Why : Type 0} (c : Context) (word : Source) (first : ℕ) (keeps : List Item → ℕ → Why → Type 0)
    (cursor : Cursor) : Type 0 where
  pub items : List Item
  pub leads : LeadsTo c.kind word first items cursor.at
  pub kept : AllBefore keeps items
  pub knows : cursor.known ≡ known_before c items
  pub sound : IsSoundCursor cursor

module _ (Why : Type 0) (order : Why → ℕ) (missing odd : Why) (Keeps : Seen → Why → Type 0) (kind : Kind) (list : List Entry)
    (scale : Key) (word : Source) (first : ℕ) where
  abbrev context : Context
  context = record { kind = kind; machine = word.machine; list = list; scale = scale }

  abbrev keeps : List Item → ℕ → Why → Type 0
  keeps = PlaceKeeps missing odd Keeps context word

  -- how the loop stands: the calls' entries are those of the list, and the items so far keep all rules
  abbrev pub Going : List Entry → Cursor → Type 0
  Going entries cursor = (entries ≡ list) × Walked context word first keeps cursor

  -- a fault at the cursor, by what stands there
  fault_here : (cursor : Cursor) (cell : Cell) (why : Why) (found : Found) (k : Walked context word first keeps cursor)
      → cell_at word cursor.at ≡ cell → (CellKeeps missing odd (λ i. Keeps (seen_at context k.items i)) cursor.at cell why → ⊥)
      → ((other : Why) → order other < order why → CellKeeps missing odd (λ i. Keeps (seen_at context k.items i)) cursor.at cell other)
      → IsFound context word k.items cursor.at found → FaultFound order context word first keeps cursor.at why cursor.known found
  fault_here cursor cell why found k is breaks lowest stands = record { fault = search (rules, k.kept); known = k.knows; stands = stands }

  pub found_missing : (cursor : Cursor) → Walked context word first keeps cursor → cell_at word cursor.at ≡ Missing
      → FaultFound order context word first keeps cursor.at missing cursor.known found.Missing
  found_missing cursor k is =
      fault_here cursor Missing missing found.Missing k is (λ h. h refl) (λ other lt e. omega (arith, lt, ap order e)) is

  pub found_odd : (cursor : Cursor) → Walked context word first keeps cursor → cell_at word cursor.at ≡ Odd
      → FaultFound order context word first keeps cursor.at odd cursor.known found.Odd
  found_odd cursor k is = fault_here cursor Odd odd found.Odd k is (λ h. h refl) (λ other lt e. omega (arith, lt, ap order e)) is

  module _ (cursor : Cursor) (format : Format) (instr : Instr) (k : Walked context word first keeps cursor)
      (is : cell_at word cursor.at ≡ Holds format instr) (es : List Entry) where
    abbrev item : Item
    item = record { at = cursor.at; format = format; instr = instr }

    -- an item, as the code sees it, by a list of entries that is this one, and as the rules do
    same : es ≡ list → seen_by word.machine es kind cursor.known item ≡ seen_at context k.items item
    same es_are = cc (es_are, k.knows)

    pub found_broken : (why : Why) (s : Seen) → es ≡ list → BreaksFirst order Keeps (seen_by word.machine es kind cursor.known item) why
        → s ≡ seen_by word.machine es kind cursor.known item
        → FaultFound order context word first keeps cursor.at why cursor.known (found.Seen s)
    found_broken why s es_are breaks s_is =
        let b = rw (same es_are) at breaks in
        fault_here cursor (Holds format instr) why (found.Seen s) k is b.broken b.lowest (rw (s_is, same es_are) (refl, is, refl))

    pub onward : (step : Step) (next : Cursor) → es ≡ list → step ≡ Onward next
        → KeepsAll Keeps kind (seen_by word.machine es kind cursor.known item) step → Walked context word first keeps next
    onward step next es_are step_is keeps_all =
        let h = rw (same es_are) at keeps_all in
        let on = leads_on kind (seen_at context k.items item) step next step_is h.leads in
        record {
          items = item ∷ k.items;
          leads = (k.leads, is, on.0);
          kept = (k.kept, λ why. rw is (h.kept why));
          knows = on.1;
          sound =
              rw step_is at h.sound;
        }

    pub done : (step : Step) (known : Known) → es ≡ list → step ≡ Last known
        → KeepsAll Keeps kind (seen_by word.machine es kind cursor.known item) step → WalksTo context word first keeps known
    done step known es_are step_is keeps_all =
        let h = rw (same es_are) at keeps_all in
        let end = ends_at kind (seen_at context k.items item) step known step_is h.leads in
        let all = all_kept kind word first Why keeps k.items item k.leads is end.0 (k.kept, λ why. rw is (h.kept why)) in
        record { keeps_all = all; items = k.items; last = item; leads = k.leads; stands = is; ends = end.0; knows = end.1 }
