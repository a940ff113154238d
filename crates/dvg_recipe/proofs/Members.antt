-- Every frame of a recipe is good where its items lead to good fronts.
use Rattle.dvg_recipe.proofs.Common.{◌≡◌, ◌≤◌, ◌+◌, ◌∙◌, ℕ, List, Contains, refl, sym, subst, ap, arith}
use Rattle.dvg_check.proofs.Common.{Window, Entry, Item, Halt, Holds, Cell, Format, Short, FrameKeeps, CellKeeps, GoodFrame, Frame, frame_word, frame_context, Context, seen_at, Source}
unfoldable use Rattle.dvg_check.proofs.Common.{cell_at}
use Rattle.std.proofs.Common.{Result, Ok}
use Rattle.dvg_items.specs.Known.{known_before}
use Rattle.dvg_items.proofs.Leading.{everywhere}
use Rattle.dvg_items.specs.Items.{AtEveryPlace}
use Rattle.dvg_check.specs.declared.fault.FrameWhy.{FrameWhy}
use Rattle.dvg_check.specs.declared.fault.FrameWhy.TheVariants as rule
use Rattle.dvg_check.specs.declared.frames.Accepted.{Accepted}
use Rattle.dvg_check.specs.Rules.{FramePlaceKeeps}
use Rattle.dvg_check.specs.Judged.{IsJudged}
use Rattle.dvg_check.specs.declared.fault.Mode.TheVariants.{Exact}
use Rattle.dvg_words.specs.Memory.{Rom, IsRom, IsFrame}
use Rattle.dvg_check.proofs.Accepting.{accepted}
use Rattle.dvg_words.specs.Values.{IsWindowOrZone}
use Rattle.dvg_words.specs.declared.machine.Machine.TheVariants.{Board}
use Rattle.dvg_recipe.specs.Recipes.{Recipe, Belongs, IsFrameOf, RunsInto, Spells, SpellsJumps}
use Rattle.dvg_recipe.specs.Members.{IsMember, LeadsInto}
use Rattle.dvg_recipe.specs.Means.{AllMean}
use Rattle.dvg_recipe.specs.Private.Hulls.{Hull}
use Rattle.dvg_make.specs.Made.{AllMade}
use Rattle.dvg_recipe.specs.Private.Judging.{Carries, IsKnownAlike, KnownInto, AreListStarts, AreGoodMembers, IsCounted, AreGoodFrames}
use Rattle.dvg_check.specs.Rules.{Good}
use Rattle.dvg_items.specs.Bounds.{IsSomeCertificate}
use Rattle.dvg_recipe.proofs.Past.{format_there}
use Rattle.dvg_recipe.proofs.Judging.{extends_part, extends_jumps}
use Rattle.dvg_recipe.proofs.Spelled.{frame_as}
use Rattle.dvg_recipe.proofs.Standing.{known_by_runs, known_by_entries, runs_by_known}
use Rattle.dvg_check.specs.Means.{Means}
use Rattle.dvg_check.proofs.Common.{listed_claim}

halt_keeps : (w : Window) (budget : ℕ) (list : List Entry) (words : List ℕ) (earlier : List Item) (at : ℕ)
    → 1 + (known_before (frame_context Board list) earlier).words ≤ budget → (why : FrameWhy)
    → FrameKeeps w budget (seen_at (frame_context Board list) earlier (record { at = at; format = Short; instr = Halt })) why
halt_keeps w budget list words earlier at le why = grind (arith)

-- all items of a recipe's lists are good fronts where each of its parts leads to good fronts
pub every_front : (w : Window) (list : List Entry) (budget : ℕ) (recipe : Recipe) (start between ends : List Hull)
    → AreListStarts w list budget recipe.lists start → Carries w list budget (Spells recipe.body) start between
    → Carries w list budget (SpellsJumps recipe.jumps) between ends → AreGoodMembers w list budget recipe ends
every_front w list budget recipe start between ends lists body jumps = record {
  each = λ words items s all.
      let middle = (extends_jumps recipe.jumps).front (KnownInto w list budget words) words s.between items s.jumped all in
      let first = (extends_part recipe.body).front (KnownInto w list budget words) words s.start s.between s.spelled middle in
      let g0 = lists.each words s.start (s.area, s.listed, s.begins) first in
      let g1 = body.each words s.start s.between s.spelled middle g0 in
      jumps.each words s.between items s.jumped all g1;
}

module _ (w : Window) (list : List Entry) (budget : ℕ) (recipe : Recipe) (words depth : ℕ) where
  -- a frame of the recipe keeps all rules, with no more words and no more depth
  pub record IsGoodMember (words_of : List ℕ) : Type 0 where
    pub n : ℕ
    pub d : ℕ
    pub few : n ≤ words
    pub shallow : d ≤ depth
    pub good : GoodFrame w Board words_of list budget n d

  -- a frame of the recipe keeps all rules, with all that is known of its items
  pub record IsCountedList (frame : List ℕ) (items : List Item) : Type 0 where
    pub member : IsGoodMember frame
    pub are : member.good.items ≡ items

  pub every_list : (ends : List Hull) → AreGoodMembers w list budget recipe ends
      → ((h : Hull) → Contains ends h → IsCounted words depth h) → words ≤ budget → (frame : List ℕ)
      → (b : IsFrameOf (KnownInto w list budget frame) recipe frame) → IsCountedList frame b.items
  every_list ends members last within frame b =
      let c : Context = frame_context Board list in
      let source : Source = frame_word Board frame in
      let g2 = members.each frame b.items b.spelled (b.at, b.leads) in
      let end = last g2.covered.hull g2.covered.listed in
      let inside = g2.covered.inside in
      let short : b.format ≡ Short = format_there source b.at b.format Halt b.halts in
      let halts : cell_at source b.at ≡ Holds Short Halt = b.halts ∙ ap (λ (f : Format). Holds f Halt) short in
      let i : Item = record { at = b.at; format = Short; instr = Halt } in
      let rules = halt_keeps w budget list frame b.items b.at (omega (arith, inside.words, end.count, within)) in
      let kept : (why : FrameWhy) → FramePlaceKeeps w Board frame list budget b.items b.at why =
      λ why. subst (λ (cell : Cell). CellKeeps rule.Unmapped rule.Odd (λ j. FrameKeeps w budget (seen_at c b.items j)) b.at cell why)
      (sym halts) (rules why) in
      record {
        member = record {
          n = 1 + (known_before c b.items).words;
          d = (known_before c b.items).depth;
          few = omega (arith, inside.words, end.count);
          shallow = omega (arith, inside.depth, end.shallow);
          good = record {
            keeps = everywhere Frame source 0 (λ earlier p. (why : FrameWhy) → FramePlaceKeeps w Board frame list budget earlier p why)
                b.items i b.leads halts refl (g2.kept, kept);
            items = b.items;
            at = b.at;
            format = Short;
            leads = b.leads;
            halts = halts;
            count_is = omega arith;
            depth_is = refl;
          };
        };
        are = refl;
      }

  pub every_good : (ends : List Hull) → AreGoodMembers w list budget recipe ends
      → ((h : Hull) → Contains ends h → IsCounted words depth h) → words ≤ budget → (frame : List ℕ)
      → IsFrameOf (KnownInto w list budget frame) recipe frame → IsGoodMember frame
  every_good ends members last within frame b = (every_list ends members last within frame b).member

  -- what is known before each of its items is known by each list of made entries
  pub every_known : (ends : List Hull) → AreGoodMembers w list budget recipe ends → (frame : List ℕ)
      → (b : IsFrameOf (KnownInto w list budget frame) recipe frame)
      → AtEveryPlace Frame (frame_word Board frame) 0 (λ earlier p. IsKnownAlike list earlier)
  every_known ends members frame b =
      let g = members.each frame b.items b.spelled (b.at, b.leads) in
      everywhere Frame (frame_word Board frame) 0 (λ earlier p. IsKnownAlike list earlier) b.items
      (record { at = b.at; format = b.format; instr = Halt }) b.leads b.halts refl (g.each, g.comes)

-- so the frames of a recipe are good over good shapes
pub good_frames : (rom : Rom) (list : List Entry) (w : Window) (budget : ℕ) (recipe : Recipe) (words depth : ℕ) → IsSomeCertificate list
    → AllMade rom list → Good Exact w rom list
    → ((frame : List ℕ) (b : IsFrameOf (KnownInto w list budget frame) recipe frame)
    → IsCountedList w list budget recipe words depth frame b.items)
    → AreGoodFrames rom recipe w list budget
good_frames rom list w budget recipe words depth certificate made shapes each = record {
  certificate = certificate;
  made = made;
  shapes = shapes;
  frames = λ frame b. let t = each frame b in record { words = t.member.n; depth = t.member.d; good = t.member.good; are = t.are };
}

-- so each of them is all that a yes means
pub every_means : (rom : Rom) (list : List Entry) (w : Window) (budget : ℕ) (recipe : Recipe) (words depth : ℕ)
    → IsJudged (record { rom = rom; list = list; window = w; mode = Exact }) → IsWindowOrZone w → rom.machine ≡ Board
    → ((frame : List ℕ) → Belongs rom recipe frame → IsGoodMember w list budget recipe words depth frame)
    → ((frame : List ℕ) → IsMember rom recipe frame → Belongs rom recipe frame) → AllMean rom recipe w words depth
every_means rom list w budget recipe words depth judged fits board belong members =
    record { each = λ frame b. means frame b.frame (belong frame b); members = members }
  where
    means : (frame : List ℕ) → IsFrame frame → IsGoodMember w list budget recipe words depth frame
        → (n d : ℕ) × (n ≤ words) × (d ≤ depth) × Means Exact (record { frame = frame; rom = rom }) w n d
    means frame is t =
        let yes : Accepted = record { words = t.n; depth = t.d } in
        let ok : Result Accepted (Unit {0}) = Ok yes in (
          t.n,
          t.d,
          t.few,
          t.shallow,
          accepted (record { rom = rom; list = list; window = w; mode = Exact }) frame budget ok judged is
              fits (subst (λ m. GoodFrame w m frame list budget t.n t.d) (sym board) t.good),
        )

-- a frame that belongs by its runs, or by what is known, leads nowhere that is known to be beside where it has to
module _ (rom : Rom) (list : List Entry) (w : Window) (budget : ℕ) (recipe : Recipe) (board : rom.machine ≡ Board) (is : IsRom rom)
    (certificate : IsSomeCertificate list) (made : AllMade rom list) (good : Good Exact w rom list) (frame : List ℕ) where
  pub of_runs : Belongs rom recipe frame → IsFrameOf (KnownInto w list budget frame) recipe frame
  of_runs b =
      frame_as (RunsInto (record { frame = frame; rom = rom })) (KnownInto w list budget frame)
      (known_by_runs rom board w list budget good (λ e listed. (listed_claim list e certificate listed).depth) frame
      (record { frame = b.frame; rom = is })) recipe frame b

  pub of_entries : IsMember rom recipe frame → IsFrameOf (KnownInto w list budget frame) recipe frame
  of_entries b = frame_as (LeadsInto rom) (KnownInto w list budget frame) (known_by_entries rom w list budget frame made) recipe frame b

  -- where it is good, a frame by what is known is one by its runs
  pub by_runs : (b : IsMember rom recipe frame) → (words depth : ℕ) → GoodFrame w Board frame list budget words depth
      → AtEveryPlace Frame (frame_word Board frame) 0 (λ earlier p. IsKnownAlike list earlier) → Belongs rom recipe frame
  by_runs b words depth gf known =
      frame_as (LeadsInto rom) (RunsInto (record { frame = frame; rom = rom }))
      (runs_by_known rom board w list budget good (λ e listed. (listed_claim list e certificate listed).depth) frame
      (record { frame = b.frame; rom = is }) gf.keeps known made) recipe frame b
