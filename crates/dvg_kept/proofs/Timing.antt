-- What made shapes, and a frame that calls them, take is the same by each list that has more entries.
use Rattle.std.specs.Prelude.{◌≡◌, ℕ, ◌<◌, ◌≤◌, List, [], ◌∷◌, Option, Some, None, Ok, Err, Contains, refl}
use Rattle.dvg_words.specs.Values.{Window}
use Rattle.dvg_words.specs.Memory.{Memory}
use Rattle.dvg_words.specs.declared.instruction.Instr.TheVariants.{Halt}
use Rattle.dvg_words.specs.declared.machine.Machine.TheVariants.{Board}
use Rattle.dvg_cert.specs.declared.limits.TheConstants.{MOST_WORDS}
use Rattle.dvg_check.specs.Rules.{Good, GoodFrame}
use Rattle.dvg_check.specs.declared.fault.Mode.TheVariants.{Exact}
use Rattle.dvg_check.specs.declared.verdict.Yes.{Yes}
use Rattle.dvg_items.specs.Known.{Context}
use Rattle.dvg_items.proofs.Listed.{listed_at}
use Rattle.dvg_make.proofs.Common.{arith, sym, ap, ◌∙◌, Rom, rom_word, frame_word, Entry, Key, Item, Shape, Frame, LeadsTo, Holds, cell_at, subst, target, callee_at, scale_before, known_before, known_past, shape_context, frame_context, Known, HasCalls, MadeEntry, Extends}
use Rattle.dvg_make.proofs.Matching.{SameAt, exact_named, found_listed}
use Rattle.dvg_make.proofs.Merging.{keyed_item}
use Rattle.dvg_make.proofs.Onward.{same_if}
use Rattle.dvg_make.specs.Private.Judged.{IsJudged}
use Rattle.dvg_clocks.specs.Clocks.{TakenOnCircuit, clocks_of_instr}
use Rattle.dvg_clocks.specs.Forecasts.{Forecast, callee_taken, clocks_known, plus, taken_before}
use Rattle.dvg_clocks.specs.declared.judging.TimedRefusal.TheVariants.{Slow}
use Rattle.dvg_clocks.specs.Sums.{IsAcceptedFrame, IsFirstOver, frame_sum, sum_of}
use Rattle.dvg_clocks.specs.declared.frames.Timing.{Timing}
use Rattle.dvg_clocks.specs.declared.clocks.ClockRange.{ClockRange}
use Rattle.dvg_clocks.proofs.Entries.{same_taken, up_to, walk}
use Rattle.dvg_clocks.proofs.Existing.{entries_sum, frames_sum}
use Rattle.dvg_kept.specs.Kept.{Kept, IsKept}
use Rattle.dvg_kept.specs.Private.Own.{HasOwn}
use Rattle.dvg_clocks.specs.Judging.{IsTimed}
use Rattle.dvg_kept.proofs.Verdict.{calls, own_items}

-- in a context, and in the same one over another list
module _ (c : Context) (b : List Entry) where
  abbrev pub onto : Context
  onto = record { kind = c.kind; machine = c.machine; list = b; scale = c.scale }

  -- what each item calls has the same entry in both lists
  abbrev pub MatchedIn : List Item → Type 0
  MatchedIn [] = Unit {0}
  MatchedIn (i ∷ earlier) = MatchedIn earlier × SameAt c.list b (target c.kind i.instr) (scale_before c earlier)

  same_called : (o : Option ℕ) (scale : Key) → SameAt c.list b o scale → callee_at b o scale ≡ callee_at c.list o scale
  same_called None scale h = refl
  same_called (Some to) scale h = exact_named b to scale h.0 h.2 ∙ sym (exact_named c.list to scale h.0 h.1)

  same_known : (items : List Item) → MatchedIn items → known_before onto items ≡ known_before c items
  same_known [] h = refl
  same_known (i ∷ earlier) h =
      let rest = same_known earlier h.0 in
      ap (λ (k : Known). known_past c.machine i (callee_at b (target c.kind i.instr) k.scale) k) rest
      ∙ ap (λ o. known_past c.machine i o (known_before c earlier)) (same_called (target c.kind i.instr) (scale_before c earlier) h.1)

  pub same_items : (forecast : Forecast) (by_entry : Entry → ClockRange) (items : List Item) → MatchedIn items
      → taken_before forecast by_entry c items ≡ taken_before forecast by_entry onto items
  same_items forecast by_entry [] h = refl
  same_items forecast by_entry (i ∷ earlier) h =
      ap (λ o. plus (plus (forecast i.format i.instr (scale_before c earlier)) (callee_taken by_entry o))
      (taken_before forecast by_entry c earlier)) (sym (same_called (target c.kind i.instr) (scale_before c earlier) h.1))
      ∙ ap (λ (k : Known). plus (plus (forecast i.format i.instr k.scale)
      (callee_taken by_entry (callee_at b (target c.kind i.instr) k.scale))) (taken_before forecast by_entry c earlier))
      (sym (same_known earlier h.0))
      ∙ ap (λ r. plus (plus (forecast i.format i.instr (scale_before onto earlier))
      (callee_taken by_entry (callee_at b (target c.kind i.instr) (scale_before onto earlier)))) r)
      (same_items forecast by_entry earlier h.0)

module _ (forecast : Forecast) (w : Window) (rom : Rom) (a b : List Entry) (ext : Extends a b)
    (each : (e : Entry) → Contains a e → MadeEntry rom a e) (good : Good Exact w rom a)
    (more : (e : Entry) → Contains a e → Contains b e) (good_b : Good Exact w rom b) where
  shape_matched : (e : Entry) → Contains a e → (items : List Item) (p : ℕ) → LeadsTo Shape (rom_word rom) e.addr items p
      → MatchedIn (shape_context rom.machine a e) b items
  shape_matched e c [] p lead = tt
  shape_matched e c (i ∷ earlier) p lead =
      (shape_matched e c earlier i.at lead.0, same_if a b _ ext (target Shape i.instr) ((each e c).keyed earlier i lead.0 lead.1))

  -- what a shape takes
  pub shapes_same : (e : Entry) → Contains a e → sum_of forecast rom a e ≡ sum_of forecast rom b e
  shapes_same e c = up_to (λ f. sum_of forecast rom a f ≡ sum_of forecast rom b f) a next e.words e c (omega arith)
    where
      next : (f : Entry) → Contains a f
          → ((g : Entry) → Contains a g → g.words < f.words → sum_of forecast rom a g ≡ sum_of forecast rom b g)
          → sum_of forecast rom a f ≡ sum_of forecast rom b f
      next f there smaller =
          let k = walk Exact w rom a good f there in
          let in_a = shape_context rom.machine a f in
          entries_sum forecast Exact w rom a good f there k.items k.i k.lead k.is k.last
          ∙ same_taken forecast (sum_of forecast rom a) (sum_of forecast rom b) in_a (k.i ∷ k.items)
          (λ g l lt. smaller g l (omega (arith, lt, k.few)))
          ∙ same_items in_a b forecast (sum_of forecast rom b) (k.i ∷ k.items) (
            shape_matched f there k.items k.i.at k.lead,
            same_if a b _ ext (target Shape k.i.instr) ((each f there).keyed k.items k.i k.lead k.is),
          )
          ∙ sym (entries_sum forecast Exact w rom b good_b f (more f there) k.items k.i k.lead k.is k.last)

  module _ (words : List ℕ) (calls : HasCalls rom.machine words a) where
    frame_matched : (items : List Item) (p : ℕ) → LeadsTo Frame (frame_word rom.machine words) 0 items p
        → MatchedIn (frame_context rom.machine a) b items
    frame_matched [] p lead = tt
    frame_matched (i ∷ earlier) p lead = (
      frame_matched earlier i.at lead.0,
      same_if a b _ ext (target Frame i.instr) (keyed_item rom.machine words a calls earlier i lead.0 lead.1),
    )

    -- what items of a frame take
    items_same : (items : List Item) → MatchedIn (frame_context rom.machine a) b items
        → taken_before forecast (sum_of forecast rom a) (frame_context rom.machine a) items
        ≡ taken_before forecast (sum_of forecast rom b) (frame_context rom.machine b) items
    items_same items matched =
        same_taken forecast (sum_of forecast rom a) (sum_of forecast rom b) (frame_context rom.machine a) items (λ g l lt. shapes_same g l)
        ∙ same_items (frame_context rom.machine a) b forecast (sum_of forecast rom b) items matched

    pub before_same : (items : List Item) (p : ℕ) → LeadsTo Frame (frame_word rom.machine words) 0 items p
        → taken_before forecast (sum_of forecast rom a) (frame_context rom.machine a) items
        ≡ taken_before forecast (sum_of forecast rom b) (frame_context rom.machine b) items
    before_same items p lead = items_same items (frame_matched items p lead)

    pub through_same : (items : List Item) (i : Item) → LeadsTo Frame (frame_word rom.machine words) 0 items i.at
        → cell_at (frame_word rom.machine words) i.at ≡ Holds i.format i.instr
        → taken_before forecast (sum_of forecast rom a) (frame_context rom.machine a) (i ∷ items)
        ≡ taken_before forecast (sum_of forecast rom b) (frame_context rom.machine b) (i ∷ items)
    through_same items i lead is =
        items_same (i ∷ items) (
          frame_matched items i.at lead,
          same_if a b _ ext (target Frame i.instr) (keyed_item rom.machine words a calls items i lead is),
        )

    -- what a frame takes that is good over both
    pub frame_takes_same : (v : Window) (budget n d : ℕ) → (gf : GoodFrame v rom.machine words b budget n d)
        → frame_sum forecast (record { frame = words; rom = rom }) a n ≡ frame_sum forecast (record { frame = words; rom = rom }) b n
    frame_takes_same v budget n d gf =
        let own = own_items rom.machine words a b ext calls v budget n d gf in
        let i : Item = record { at = gf.at; format = gf.format; instr = Halt } in
        frames_sum forecast (record { frame = words; rom = rom }) v a budget n d own.own
        ∙ ap (taken_before forecast (sum_of forecast rom a) (frame_context rom.machine a)) own.items
        ∙ items_same (i ∷ gf.items) (frame_matched gf.items gf.at gf.leads, tt)
        ∙ sym (frames_sum forecast (record { frame = words; rom = rom }) v b budget n d gf)

-- a frame that is accepted over kept entries, with its clocks over them
module _ (k : Kept) (kept : IsKept k) (timing : Timing) (words : List ℕ) (budget : ℕ) (few : budget ≤ MOST_WORDS) (yes : Yes)
    (judged : IsJudged k.rom words k.window budget (Ok yes)) (own : HasOwn k words yes.shapes)
    (good : GoodFrame k.window k.rom.machine words k.list budget yes.words yes.depth) where
  abbrev m : Memory
  m = record { frame = words; rom = k.rom }

  pub accepted : IsAcceptedFrame m k.list yes.words
  accepted = record { window = k.window; budget = budget; depth = yes.depth; few = few; good = good }

  in_kept : (e : Entry) → Contains own.list e → Contains k.list e
  in_kept e c =
      (listed_at k.list e.addr e.key e (own.extends e.addr e.key e (found_listed own.list e own.made.certificate.rising c))).listed

  asked : HasCalls k.rom.machine words own.list
  asked = calls k words yes.shapes own budget yes.words yes.depth good judged.means

  pub timed_ok : (clocks : ClockRange) → clocks ≡ frame_sum (clocks_known timing.states) m k.list yes.words → clocks.most ≤ timing.limit
      → (k.rom.machine ≡ Board → TakenOnCircuit (clocks_of_instr timing.states) m clocks)
      → IsTimed timing k.rom words k.window budget (Ok (record { yes = yes; clocks = clocks }))
  timed_ok clocks sum within circuit =
      let same = frame_takes_same (clocks_known timing.states) k.window k.rom own.list k.list own.extends own.made.each own.good in_kept
      kept.good words asked k.window budget yes.words yes.depth good in
      record {
        verdict = (judged.verdict, record { list = own.list; made = own.made; sum = sum ∙ sym same }, within);
        means = judged.means;
        least = judged.least;
        clocks = circuit;
        refused = tt;
      }

  pub timed_slow : (at : ℕ) → IsFirstOver timing.states m k.list timing.limit at
      → IsTimed timing k.rom words k.window budget (Err (Slow at))
  timed_slow at over =
      let before =
      before_same (clocks_known timing.states) k.window k.rom own.list k.list own.extends own.made.each own.good in_kept kept.good
      words asked over.items over.item.at over.leads in
      let through =
      through_same (clocks_known timing.states) k.window k.rom own.list k.list own.extends own.made.each own.good in_kept kept.good
      words asked over.items over.item over.leads over.stands in
      record {
        verdict = record {
          yes = yes;
          verdict = judged.verdict;
          list = own.list;
          made = own.made;
          over = record {
            items = over.items;
            item = over.item;
            at_is = over.at_is;
            leads = over.leads;
            stands = over.stands;
            before = subst (λ (r : ClockRange). r.most ≤ timing.limit) (sym before) over.before;
            over = subst (λ (r : ClockRange). timing.limit < r.most) (sym through) over.over;
          };
        };
        means = tt;
        least = tt;
        clocks = λ board. tt;
        refused = tt;
      }
