-- The rule of a fault is broken by what was found.
use Rattle.std.specs.Prelude.{◌≡◌}
use Rattle.dvg_items.specs.declared.seen.Seen.{Seen as SeenItem}
use Rattle.dvg_check.specs.declared.fault.Found.{Found}
use Rattle.dvg_check.specs.declared.fault.Found.TheVariants.{Missing, Odd, Seen}

-- a missing word and an odd LABS have a rule each, and an item does not keep the rule
abbrev pub Breaks : {Why : Type 0} → Why → Why → (SeenItem → Why → Type 0) → Why → Found → Type 0
Breaks unmapped odd keeps why Missing = why ≡ unmapped
Breaks unmapped odd keeps why Odd = why ≡ odd
Breaks unmapped odd keeps why (Seen v) = keeps v why → ⊥
