-- What a recipe's acceptance means. All of it is this project's own.
use Rattle.std.specs.Prelude.{ℕ, List, ◌≤◌}
use Rattle.dvg_words.specs.Memory.{Rom}
use Rattle.dvg_words.specs.Values.{Window}
use Rattle.dvg_check.specs.declared.fault.Mode.TheVariants.{Exact}
use Rattle.dvg_check.specs.Means.{Means}
use Rattle.dvg_clocks.specs.Clocks.{TakenOnCircuit, clocks_of_instr}
use Rattle.dvg_clocks.specs.declared.clocks.ClockRange.{ClockRange}
use Rattle.dvg_clocks.specs.declared.clocks.States.{States}
use Rattle.dvg_recipe.specs.Recipes.{Recipe, Belongs}
use Rattle.dvg_recipe.specs.Members.{IsMember}

-- what a yes on a recipe over this ROM says (profile)
pub record AllMean (rom : Rom) (recipe : Recipe) (w : Window) (words depth : ℕ) : Type 0 where
  -- each frame of the recipe is all that a yes on a frame says, with counts of its own that are no greater than these
  pub each : (frame : List ℕ) → Belongs rom recipe frame
      → (n d : ℕ) × (n ≤ words) × (d ≤ depth) × Means Exact (record { frame = frame; rom = rom }) w n d
  -- a frame of the recipe by what is known of its items is one by what its runs do
  pub members : (frame : List ℕ) → IsMember rom recipe frame → Belongs rom recipe frame

-- each frame of the recipe over this ROM takes so much on the circuit, by the table of states: what a range of its own says, of which
-- neither end is past that of this one (profile)
abbrev pub AllTake : States → Rom → Recipe → ClockRange → Type 0
AllTake t rom recipe clocks =
    (frame : List ℕ) → Belongs rom recipe frame
    → (own : ClockRange) × (own.least ≤ clocks.least) × (own.most ≤ clocks.most)
    × TakenOnCircuit (clocks_of_instr t) (record { frame = frame; rom = rom }) own
