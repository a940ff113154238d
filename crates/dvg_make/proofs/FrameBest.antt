-- No certificate does better for a frame than the list that is made for it.
use Rattle.dvg_make.proofs.Common.{◌≡◌, ℕ, ◌+◌, List, [], ◌∷◌, refl, sym, subst, arith, inr, ⊎_elim, Contains, cell_at, Rom, rom_word, frame_word, Window, Holds, IsCertificate, Entry, Key, LeadsTo, Context, shape_context, frame_context, target, callee_at, callee, scale_before, place_before, words_before, depth_before, known_before, extent, seen_at, Item, Shape, CellKeeps, Good, GoodFrame, Bound, in_bound, MadeFor, AllMade, IsAskedFor, KnowsMore, rules, word_count, Frame, FrameKeeps, FramePlaceKeeps, AllKeep, FrameWhy, AllInWindow, NoneBetter, AllKeyed, FrameAsksFor, Loosens, HasCover, Upholds, HasCalls, KeyedCall, Format, Instr}
use Rattle.dvg_make.specs.Frames.{IsKeyed}
use Rattle.dvg_check.specs.declared.fault.FrameWhy.TheVariants as frame
use Rattle.dvg_make.proofs.Ends.{has_callee, other_window, in_window, in_exact}
use Rattle.dvg_make.proofs.Onward.{listed_entry}
use Rattle.dvg_make.proofs.OneFrame.{needs_at, made_all, by_need}
use Rattle.dvg_make.proofs.Knowing.{CalleeRefines, more_after, LightsLess, lights_less}
use Rattle.dvg_make.proofs.Bettering.{callee_refines, Call, call_of, called, lights, refined, made_refines, tracks}
use Rattle.dvg_make.proofs.Merging.{keyed_item, keyed_all, keyed_call, only_listed}

-- ---- a good list is upheld

pub upheld : (rom : Rom) (list : List Entry) (w : Window) → IsCertificate rom.map list → Good Bound w rom list → Upholds rom list
upheld rom list w cert good e c = (
  listed_entry rom.map.rom_first rom.map.rom_last list e cert.each c,
  λ earlier p lead why v not. other_window Bound rom list e w v earlier p why not (good e c earlier p lead why),
)

-- ---- a made list whose roots are covered

module _ (rom : Rom) (list : List Entry) (up : Upholds rom list) (IsAsked : ℕ → Key → Type 0) (made : List Entry)
    (m : MadeFor rom IsAsked made) (roots : (addr : ℕ) (key : Key) → IsAsked addr key → HasCover list addr key) where
  covered : (f : Entry) → Contains made f → HasCover list f.addr f.key
  covered = by_need rom IsAsked made m (λ f. HasCover list f.addr f.key) (λ f in_made a. roots f.addr f.key a) (λ e f in_e in_f n cover.
      let lead : LeadsTo Shape (rom_word rom) cover.0.addr n.earlier n.item.at =
      subst (λ a. LeadsTo Shape (rom_word rom) a n.earlier n.item.at) (sym cover.2.addr) n.leads in
      let tracked = tracks rom list up made (made_all rom IsAsked made m) e in_e cover.0 cover.1 cover.2 n.earlier n.item.at lead in
      let at = needs_at rom IsAsked made m e f in_e n in
      let call = called rom list up cover.0 cover.1 n.earlier n.item lead n.stands f.addr at.0 f.key
      (subst (Loosens (scale_before (shape_context rom.machine list cover.0) n.earlier)) at.1 tracked.knows.scale) in
      (call.g, call.listed, call.covers))

  made_in_window : (w : Window) → Good Bound w rom list → AllInWindow w rom made
  made_in_window w good f in_made earlier i lead is =
      let cover = covered f in_made in
      let there : LeadsTo Shape (rom_word rom) cover.0.addr earlier i.at =
      subst (λ a. LeadsTo Shape (rom_word rom) a earlier i.at) (sym cover.2.addr) lead in
      let tracked = tracks rom list up made (made_all rom IsAsked made m) f in_made cover.0 cover.1 cover.2 earlier i.at there in
      (lights rom list up cover.0 cover.1 f.key made earlier i there is tracked
      (made_refines rom list up made (made_all rom IsAsked made m) f in_made cover.0 cover.1 cover.2 earlier i there is
      tracked)).shown w (in_window rom list w Bound good cover.0 cover.1 earlier i there is)

-- ---- along the items of a frame

module _ (rom : Rom) (list : List Entry) (up : Upholds rom list) (words : List ℕ) (w : Window) (budget : ℕ)
    (keeps : AllKeep Frame (frame_word rom.machine words) 0 (FramePlaceKeeps w rom.machine words list budget)) where
  abbrev c : Context
  c = frame_context rom.machine list

  frame_rule : (earlier : List Item) (i : Item) → LeadsTo Frame (frame_word rom.machine words) 0 earlier i.at
      → cell_at (frame_word rom.machine words) i.at ≡ Holds i.format i.instr → (why : FrameWhy)
      → FrameKeeps w budget (seen_at c earlier i) why
  frame_rule earlier i lead is why =
      subst (λ cell. CellKeeps frame.Unmapped frame.Odd (λ j. FrameKeeps w budget (seen_at c earlier j)) i.at cell why) is
      (keeps earlier i.at lead why)

  -- what a list of made entries knows along them
  module _ (made : List Entry) (all : AllMade rom made) where
    abbrev d : Context
    d = frame_context rom.machine made

    abbrev Tracks : List Item → Type 0
    Tracks items = KnowsMore (known_before c items) (known_before d items)

    frame_refines : (earlier : List Item) (i : Item) → LeadsTo Frame (frame_word rom.machine words) 0 earlier i.at
        → cell_at (frame_word rom.machine words) i.at ≡ Holds i.format i.instr → Tracks earlier → IsKeyed rom.machine made earlier i
        → CalleeRefines (callee c earlier i.instr) (callee d earlier i.instr)
    frame_refines earlier i lead is k keyed =
        callee_refines rom list made all (target Frame i.instr) (scale_before c earlier) (scale_before d earlier) k.scale
        (frame_rule earlier i lead is frame.NoEntry) keyed (λ to f g there named l v. refined rom list up made all to _ f g there l v)

    track_on : (earlier : List Item) (i : Item) → LeadsTo Frame (frame_word rom.machine words) 0 earlier i.at
        → cell_at (frame_word rom.machine words) i.at ≡ Holds i.format i.instr → Tracks earlier → IsKeyed rom.machine made earlier i
        → Tracks (i ∷ earlier)
    track_on earlier i lead is k keyed =
        more_after rom.machine i (callee c earlier i.instr) (callee d earlier i.instr) (known_before c earlier) (known_before d earlier)
        k (frame_refines earlier i lead is k keyed)

    frame_tracks : (items : List Item) (p : ℕ) → LeadsTo Frame (frame_word rom.machine words) 0 items p → AllKeyed rom.machine made items
        → Tracks items
    frame_tracks [] p lead keyed = record { place = tt; scale = tt; words = omega arith; depth = omega arith }
    frame_tracks (i ∷ earlier) p lead keyed = track_on earlier i lead.0 lead.1 (frame_tracks earlier i.at lead.0 keyed.0) keyed.1

    -- what a frame calls, the list has an entry for
    pub frame_cover : (to : ℕ) (key : Key) → KeyedCall rom.machine words made to key → HasCover list to key
    frame_cover to key k =
        let tracked = frame_tracks k.calls.earlier k.calls.item.at k.calls.leads k.keyed in
        let call : Call list to (scale_before c k.calls.earlier) key =
        grind (arith, call_of, callee_at, (frame_rule k.calls.earlier k.calls.item k.calls.leads k.calls.stands frame.NoEntry)) in
        (call.g, call.listed, call.covers)

    -- ---- the frame is good by them, where they have an entry for each call

    module _ (has : HasCalls rom.machine words made) where
      -- no more is lit by them
      item_less : (earlier : List Item) (i : Item) → LeadsTo Frame (frame_word rom.machine words) 0 earlier i.at
          → cell_at (frame_word rom.machine words) i.at ≡ Holds i.format i.instr
          → LightsLess (extent c earlier i.instr) (extent d earlier i.instr) (place_before c earlier) (place_before d earlier)
      item_less earlier i lead is =
          let before = frame_tracks earlier i.at lead (keyed_all rom.machine words made has earlier i.at lead) in
          lights_less rom.machine i.instr (callee c earlier i.instr) (callee d earlier i.instr) (known_before c earlier)
          (known_before d earlier) before
          (frame_refines earlier i lead is before (keyed_item rom.machine words made has earlier i lead is))
          (frame_rule earlier i lead is frame.BeamUnknown) (frame_rule earlier i lead is frame.ScaleUnknown)

      item_kept : (earlier : List Item) (i : Item) → LeadsTo Frame (frame_word rom.machine words) 0 earlier i.at
          → cell_at (frame_word rom.machine words) i.at ≡ Holds i.format i.instr → (why : FrameWhy)
          → FrameKeeps w budget (seen_at d earlier i) why
      item_kept earlier i lead is frame.OffScreen = (item_less earlier i lead is).shown w (frame_rule earlier i lead is frame.OffScreen)
      item_kept earlier i lead is why =
          grind (
            arith,
            (frame_rule earlier i lead is why),
            (item_less earlier i lead is),
            (track_on earlier i lead is (frame_tracks earlier i.at lead (keyed_all rom.machine words made has earlier i.at lead))
                (keyed_item rom.machine words made has earlier i lead is)),
            (has_callee made (target Frame i.instr) (scale_before d earlier) (keyed_item rom.machine words made has earlier i lead is)),
          )

      frame_kept : AllKeep Frame (frame_word rom.machine words) 0 (FramePlaceKeeps w rom.machine words made budget)
      frame_kept earlier p lead why =
          grind (
            arith,
            seen_at,
            (keeps earlier p lead why),
            (λ (f : Format) (j : Instr) (q : cell_at (frame_word rom.machine words) p ≡ Holds f j). item_kept earlier
                (record { at = p; format = f; instr = j }) lead q why),
          )

-- ---- the law

pub none_better : NoneBetter
none_better rom words w mode list made budget count depth accepted m =
    let gf = accepted.frame in
    let bound : Good Bound w rom list = in_bound w rom list mode accepted.good in
    let up : Upholds rom list = upheld rom list w accepted.certificate bound in
    let IsAsked : ℕ → Key → Type 0 = IsAskedFor rom.machine [] (words ∷ []) made in
    let all : AllMade rom made = made_all rom IsAsked made m in
    let has : HasCalls rom.machine words made = λ to scale calls. m.rooted to scale (inr (words, (0, omega arith, refl), calls)) in
    let roots : (addr : ℕ) (key : Key) → IsAsked addr key → HasCover list addr key = λ addr key. ⊎_elim (λ x. absurd (omega (arith, x.1)))
    (λ x. frame_cover rom list up words w budget gf.keeps made all addr key
    (keyed_call rom.machine words made has addr key
    (subst (λ z. FrameAsksFor rom.machine z made addr key) (sym (only_listed words x.0 x.1)) x.2))) in
    let end = frame_tracks rom list up words w budget gf.keeps made all gf.items gf.at gf.leads
    (keyed_all rom.machine words made has gf.items gf.at gf.leads) in
    let framed : GoodFrame w rom.machine words made budget
    (words_before (frame_context rom.machine made) gf.items + word_count gf.format)
    (depth_before (frame_context rom.machine made) gf.items) =
    search (rules, frame_kept rom list up words w budget gf.keeps made all has) in (
      words_before (frame_context rom.machine made) gf.items + word_count gf.format,
      depth_before (frame_context rom.machine made) gf.items,
      omega (arith, end.words, gf.count_is),
      omega (arith, end.depth, gf.depth_is),
      search (in_exact rom made w m.each (made_in_window rom list up IsAsked made m roots w bound), framed),
    )
