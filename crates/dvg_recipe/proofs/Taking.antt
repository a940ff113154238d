-- What the frames of a recipe take on the circuit, by what its lists take.
use Rattle.dvg_recipe.proofs.Common.{◌≡◌, ◌≤◌, ◌∙◌, ℕ, List, ◌∷◌, sym, ap, subst, arith}
use Rattle.std.specs.Prelude.{unwrap_or}
use Rattle.dvg_check.proofs.Common.{Window, Entry, Item, Halt, GoodFrame, Machine, frame_context, listed_claim}
use Rattle.dvg_check.specs.declared.fault.Mode.TheVariants.{Exact}
use Rattle.dvg_words.specs.declared.machine.Machine.TheVariants.{Board}
use Rattle.dvg_words.specs.Memory.{Rom, IsRom}
use Rattle.dvg_clocks.specs.declared.clocks.States.{States}
use Rattle.dvg_clocks.specs.declared.clocks.ClockRange.{ClockRange}
use Rattle.dvg_clocks.specs.Clocks.{TakenOnCircuit, clocks_of_instr}
use Rattle.dvg_clocks.specs.Forecasts.{just, clocks_known, taken_before}
use Rattle.dvg_clocks.specs.Sums.{sum_of}
use Rattle.dvg_clocks.specs.Kept.{Kept, AreTold, clocks_in}
use Rattle.dvg_clocks.specs.Private.Taking.{frame_taken}
use Rattle.dvg_clocks.proofs.Entries.{same_taken}
use Rattle.dvg_clocks.proofs.Existing.{entries_sum}
use Rattle.dvg_clocks.proofs.Forecasts.{forecasts_are_right}
use Rattle.dvg_clocks.proofs.CircuitRuns.{circuit_takes}
use Rattle.dvg_recipe.specs.Recipes.{Recipe, IsFrameOf}
use Rattle.dvg_recipe.specs.Means.{AllTake}
use Rattle.dvg_recipe.specs.Private.Judging.{AreGoodFrames, KnownInto}
use Rattle.dvg_recipe.specs.Private.Clocks.{Anywhere, AreListsUnder}
use Rattle.dvg_recipe.proofs.Members.{of_runs}
use Rattle.dvg_recipe.proofs.Spelled.{list_as}

module _ (t : States) (rom : Rom) (recipe : Recipe) (w : Window) (list : List Entry) (budget : ℕ) (kept : Kept) (most : ClockRange)
    (board : rom.machine ≡ Board) (good : AreGoodFrames rom recipe w list budget)
    (told : AreTold t rom list kept) (under : AreListsUnder t list (clocks_in kept) recipe most) where
  -- the shapes take what is said of them
  as_told : (items : List Item) → taken_before (clocks_known t) (clocks_in kept) (frame_context Board list) items
      ≡ taken_before (clocks_known t) (sum_of (clocks_known t) rom list) (frame_context Board list) items
  as_told items =
      same_taken (clocks_known t) (clocks_in kept) (sum_of (clocks_known t) rom list) (frame_context Board list) items
      (λ e listed less. ap (λ o. unwrap_or o (just 0)) (told e listed).told)

  takes : (is : IsRom rom) (frame : List ℕ) → IsFrameOf (KnownInto w list budget frame) recipe frame
      → (own : ClockRange) × (own.least ≤ most.least) × (own.most ≤ most.most)
      × TakenOnCircuit (clocks_of_instr t) (record { frame = frame; rom = rom }) own
  takes is frame b =
      let g = good.frames frame b in
      let p = subst (λ k. (gf : GoodFrame w k frame list budget g.words g.depth) × (gf.items ≡ b.items)) (sym board) (g.good, g.are) in
      let halt : Item = record { at = p.0.at; format = p.0.format; instr = Halt } in
      let same = ap (λ items. taken_before (clocks_known t) (sum_of (clocks_known t) rom list) (frame_context rom.machine list)
      (halt ∷ items)) p.1
      ∙ ap (λ (k : Machine). taken_before (clocks_known t) (sum_of (clocks_known t) rom list) (frame_context k list) (halt ∷ b.items)) board
      ∙ sym (as_told (halt ∷ b.items)) in
      let fits = under.each b.items p.0.at p.0.format
      (list_as (KnownInto w list budget frame) Anywhere (λ to items h. tt) recipe b.items b.spelled) in (
        frame_taken (clocks_known t) (sum_of (clocks_known t) rom list) p.0,
        omega (arith, fits.0, ap (λ (r : ClockRange). r.least) same),
        omega (arith, fits.1, ap (λ (r : ClockRange). r.most) same),
        circuit_takes (clocks_of_instr t) (clocks_known t) (sum_of (clocks_known t) rom list) Exact (record { frame = frame; rom = rom })
            w w list budget g.words g.depth (forecasts_are_right.clocks t) (record { frame = b.frame; rom = is }) board
            (λ e listed. (listed_claim list e good.certificate listed).depth) good.shapes
            (entries_sum (clocks_known t) Exact w rom list good.shapes) p.0,
      )

  pub all_take : IsRom rom → AllTake t rom recipe most
  all_take is frame b = takes is frame (of_runs rom list w budget recipe board is good.certificate good.made good.shapes frame b)
