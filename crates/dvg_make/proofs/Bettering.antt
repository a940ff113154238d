-- For what an entry of any list claims of a shape there is a made entry that claims all of it, and counts and lights no more.
use Rattle.dvg_make.proofs.Common.{◌≡◌, ◌≢◌, ℕ, zero, suc, ◌<◌, ◌≤◌, List, [], ◌∷◌, ◌++◌, Option, Some, None, refl, sym, ap, ◌∙◌, subst, arith, ⊎_elim, ints, Contains, option_or, screen, cell_at, Rom, rom_word, Point, Holds, entry_at, Entry, Key, LitBox, Empty, Span, at_holds, LeadsTo, Context, shape_context, target, callee_at, callee, callee_words, scale_before, place_before, depth_before, known_before, InBox, IsInside, relative_corners, extent, seen_at, HasCallee, Item, Shape, listed_at, all_append, word_count-some, ShapeKeeps, Bound, ShapeWhy, lit_points, HoldsAll, IsLeast, HasEntry, MadeEntry, IsMade, AllMade, keyed_context, entry_of, AllFine, Extends, KnowsMore, Contains-append_cases, clamps, named_entry, in_wider, all_map, Loosens, Refines, Covers, Upholds}
use Rattle.std.specs.Int.{int_min, int_max}
use Rattle.dvg_check.specs.declared.fault.ShapeWhy.TheVariants as shape
use Rattle.dvg_make.proofs.Matching.{Gathered, gathered_same, exact_named, entry_at-append, none_or_some}
use Rattle.dvg_make.proofs.Ends.{known_of, rule_at, stands_at, made_ends, ends_made, Stops, stops}
use Rattle.dvg_make.proofs.Onward.{matched_fine}
use Rattle.dvg_make.proofs.Knowing.{IsOrdered, CalleeRefines, more_after, LightsLess, lights_less}
use Rattle.dvg_make.proofs.Merging.{scale_grows, fine_grows, same_made, only_listed, extends_more, is_made_grows, same_found, extends_second, all_merged}

-- ---- least boxes

-- with one more point
widened : (box : LitBox) (p : Point) → (new : LitBox) × IsInside box new × InBox new p
    × ((other : LitBox) → IsInside box other → InBox other p → IsInside new other)
widened Empty p = (Span p.x p.x p.y p.y, tt, grind (arith, ints), λ other h i. grind (arith, ints, h, i))
widened (Span a b c d) p = (
  Span (int_min a p.x) (int_max b p.x) (int_min c p.y) (int_max d p.y),
  grind (arith, ints, clamps),
  grind (arith, ints, clamps),
  λ other h i. grind (arith, clamps, h, i),
)

least_box : (ps : List Point) → (box : LitBox) × IsLeast ps box
least_box [] = (Empty, record { holds = tt; least = λ other h. tt })
least_box (p ∷ ps) =
    let r = least_box ps in
    let w = widened r.0 p in (
      w.0,
      record {
        holds = (w.2, all_map (InBox r.0) (InBox w.0) ps (λ q. in_wider r.0 w.0 q w.1) r.1.holds);
        least =
            λ other h. w.3 other (r.1.least other h.1) h.0;
      },
    )

least_ordered : (ps : List Point) (box : LitBox) → IsLeast ps box → IsOrdered box
least_ordered [] box h = grind (arith, (h.least Empty tt))
least_ordered (p ∷ ps) box h = grind (arith, ints, h.holds.0)

pub made_ordered : (rom : Rom) (list : List Entry) (f : Entry) → MadeEntry rom list f → IsOrdered f.lit
made_ordered rom list f made =
    let h = made_ends rom list f made in
    least_ordered (lit_points (shape_context rom.machine list f) (h.stops.i ∷ h.stops.items)) f.lit h.sums.box

-- ---- the entry that a list names for a call

-- it stands for the call at each scale that the known one loosens
pub record Call (list : List Entry) (to : ℕ) (scale key : Key) : Type 0 where
  pub g : Entry
  pub is : named_entry list to scale ≡ Some g
  pub listed : Contains list g
  pub covers : Covers g to key

pub call_of : (list : List Entry) (to : ℕ) (scale key : Key) → Loosens scale key → HasCallee (Some to) (named_entry list to scale)
    → Call list to scale key
call_of list to scale key loose named = grind (arith, entry_at, listed_at, option_or)

-- where the made entry that a list has for a call refines the one that this list names, the calls refine
pub callee_refines : (rom : Rom) (list made : List Entry) → AllMade rom made → (o : Option ℕ) (s t : Key) → Loosens s t
    → HasCallee o (callee_at list o s) → ((to : ℕ) → o ≡ Some to → HasEntry made to t)
    → ((to : ℕ) (f g : Entry) → entry_at made to t ≡ Some f → callee_at list o s ≡ Some g → Contains list g → Covers g to t
    → Refines f g) → CalleeRefines (callee_at list o s) (callee_at made o t)
callee_refines rom list made all None s t loose has keyed fits = tt
callee_refines rom list made all (Some to) s t loose has keyed fits =
    let call = call_of list to s t loose has in
    let f = keyed to refl in
    subst (λ o. CalleeRefines o (callee_at made (Some to) t)) (sym call.is)
    (subst (λ o. CalleeRefines (Some call.g) o) (sym (exact_named made to t f.0 f.1)) (
      fits to f.0 call.g f.1 call.is call.listed call.covers,
      made_ordered rom made f.0 (all f.0 (listed_at made to t f.0 f.1).listed).made,
    ))

-- ---- a shape of an upheld list

-- a made entry, among others, that claims all that this one claims
pub record Better (rom : Rom) (addr : ℕ) (key : Key) (e : Entry) : Type 0 where
  pub list : List Entry
  pub all : AllMade rom list
  pub f : Entry
  pub found_it : entry_at list addr key ≡ Some f
  pub refines : Refines f e

-- each made list has such an entry there
refined_by : (rom : Rom) (made : List Entry) → AllMade rom made → (addr : ℕ) (key : Key) (f e : Entry) → entry_at made addr key ≡ Some f
    → e.addr ≡ addr → Better rom e.addr key e → Refines f e
refined_by rom made all addr key f e is at b =
    subst (λ x. Refines x e) (sym (same_found rom made b.list all b.all addr key f b.f is
    (subst (λ a. entry_at b.list a key ≡ Some b.f) at b.found_it))) b.refines

module _ (rom : Rom) (list : List Entry) (up : Upholds rom list) where
  module _ (e : Entry) (listed : Contains list e) where
    abbrev c : Context
    c = shape_context rom.machine list e

    rule : (earlier : List Item) (i : Item) → LeadsTo Shape (rom_word rom) e.addr earlier i.at
        → cell_at (rom_word rom) i.at ≡ Holds i.format i.instr → (why : ShapeWhy) → why ≢ shape.OffScreen
        → ShapeKeeps Bound screen e (seen_at c earlier i) why
    rule earlier i lead is why not = rule_at Bound rom list e (up e listed).1 earlier i lead is screen why not

    held_depth : (items : List Item) (p : ℕ) → LeadsTo Shape (rom_word rom) e.addr items p → depth_before c items ≤ e.depth
    held_depth [] p lead = omega arith
    held_depth (i ∷ earlier) p lead = omega (arith, rule earlier i lead.0 lead.1 shape.TooDeep (λ q. cc q), held_depth earlier i.at lead.0)

    -- the entry that is called has fewer words
    fewer : (earlier : List Item) (i : Item) → LeadsTo Shape (rom_word rom) e.addr earlier i.at
        → cell_at (rom_word rom) i.at ≡ Holds i.format i.instr → (g : Entry) → callee c earlier i.instr ≡ Some g → g.words < e.words
    fewer earlier i lead is g n =
        omega (arith, rule earlier i lead is shape.TooManyWords (λ q. cc q), ap callee_words n, word_count-some i.format)

    pub called : (earlier : List Item) (i : Item) → LeadsTo Shape (rom_word rom) e.addr earlier i.at
        → cell_at (rom_word rom) i.at ≡ Holds i.format i.instr → (to : ℕ) → target Shape i.instr ≡ Some to → (key : Key)
        → Loosens (scale_before c earlier) key → Call list to (scale_before c earlier) key
    called earlier i lead is to t key loose =
        call_of list to (scale_before c earlier) key loose
        (subst (λ o. HasCallee o (callee_at list o (scale_before c earlier))) t (rule earlier i lead is shape.NoEntry (λ q. cc q)))

    -- along the items of this shape, what is known by the other list
    module _ (key : Key) where
      pub record Tracked (made : List Entry) (items : List Item) : Type 0 where
        pub fine : AllFine (keyed_context rom.machine made key) items
        pub knows : KnowsMore (known_before c items) (known_before (keyed_context rom.machine made key) items)
        pub holds : HoldsAll e.lit (lit_points (keyed_context rom.machine made key) items)

      pub lights : (made : List Entry) (earlier : List Item) (i : Item) → LeadsTo Shape (rom_word rom) e.addr earlier i.at
          → cell_at (rom_word rom) i.at ≡ Holds i.format i.instr → Tracked made earlier
          → CalleeRefines (callee c earlier i.instr) (callee (keyed_context rom.machine made key) earlier i.instr)
          → LightsLess (extent c earlier i.instr) (extent (keyed_context rom.machine made key) earlier i.instr) (place_before c earlier)
          (place_before (keyed_context rom.machine made key) earlier)
      lights made earlier i lead is t refines =
          lights_less rom.machine i.instr (callee c earlier i.instr) (callee (keyed_context rom.machine made key) earlier i.instr)
          (known_before c earlier) (known_before (keyed_context rom.machine made key) earlier) t.knows refines
          (rule earlier i lead is shape.BeamUnknown (λ q. cc q)) (rule earlier i lead is shape.ScaleUnknown (λ q. cc q))

      track_on : (made : List Entry) (earlier : List Item) (i : Item) → LeadsTo Shape (rom_word rom) e.addr earlier i.at
          → cell_at (rom_word rom) i.at ≡ Holds i.format i.instr → Tracked made earlier
          → ((to : ℕ) → target Shape i.instr ≡ Some to → HasEntry made to (scale_before (keyed_context rom.machine made key) earlier))
          → CalleeRefines (callee c earlier i.instr) (callee (keyed_context rom.machine made key) earlier i.instr)
          → Tracked made (i ∷ earlier)
      track_on made earlier i lead is t keyed refines =
          let less = lights made earlier i lead is t refines in
          record {
            fine = (
              t.fine,
              record {
                straight =
                    record { no_halt = rule earlier i lead is shape.HaltInShape (λ q. cc q); place = less.known; scale = less.scale_known };
                keyed = keyed;
              },
            );
            knows = more_after rom.machine i (callee c earlier i.instr) (callee (keyed_context rom.machine made key) earlier i.instr)
                (known_before c earlier) (known_before (keyed_context rom.machine made key) earlier) t.knows refines;
            holds = all_append (InBox e.lit)
                (relative_corners (extent (keyed_context rom.machine made key) earlier i.instr)
                (place_before (keyed_context rom.machine made key) earlier)) (lit_points (keyed_context rom.machine made key) earlier)
                (less.boxed e.lit (rule earlier i lead is shape.BoxTooSmall (λ q. cc q))) t.holds;
          }

      grow_tracked : (a b : List Entry) (items : List Item) → Extends a b → Tracked a items → Tracked b items
      grow_tracked a b items ext t =
          let same = gathered_same rom.machine a b key items (matched_fine rom.machine a b key ext items t.fine) in
          search (
            fine_grows rom.machine a b key ext items t.fine,
            subst (λ (g : Gathered). KnowsMore (known_before c items) g.known) same t.knows,
            subst (λ (g : Gathered). HoldsAll e.lit g.lit) same t.holds,
          )

      refines_at : (made : List Entry) → AllMade rom made → (earlier : List Item) (i : Item)
          → LeadsTo Shape (rom_word rom) e.addr earlier i.at → cell_at (rom_word rom) i.at ≡ Holds i.format i.instr
          → Tracked made earlier → ((to : ℕ) → target Shape i.instr ≡ Some to
          → HasEntry made to (scale_before (keyed_context rom.machine made key) earlier))
          → ((to : ℕ) (f g : Entry) → entry_at made to (scale_before (keyed_context rom.machine made key) earlier) ≡ Some f
          → callee c earlier i.instr ≡ Some g → Contains list g
          → Covers g to (scale_before (keyed_context rom.machine made key) earlier) → Refines f g)
          → CalleeRefines (callee c earlier i.instr) (callee (keyed_context rom.machine made key) earlier i.instr)
      refines_at made all earlier i lead is t keyed fits =
          callee_refines rom list made all (target Shape i.instr) (scale_before c earlier)
          (scale_before (keyed_context rom.machine made key) earlier) t.knows.scale (rule earlier i lead is shape.NoEntry (λ q. cc q))
          keyed fits

      -- ---- the made entry of this shape

      module _ (loose : Loosens e.key key)
          (smaller : (g : Entry) → Contains list g → (k : Key) → Loosens g.key k → g.words < e.words → Better rom g.addr k g) where
        record Walked (items : List Item) : Type 0 where
          made : List Entry
          all : AllMade rom made
          tracked : Tracked made items

        walk_on : (earlier : List Item) (i : Item) → LeadsTo Shape (rom_word rom) e.addr earlier i.at
            → cell_at (rom_word rom) i.at ≡ Holds i.format i.instr → Walked earlier → Walked (i ∷ earlier)
        walk_on earlier i lead is w =
            ⊎_elim (λ t. further w.made w.all (λ a s x q. q) (λ to q. let no : None ≡ Some to = sym t ∙ q in cc no)) call
            (none_or_some (target Shape i.instr))
          where
            k : Key
            k = scale_before (keyed_context rom.machine w.made key) earlier

            -- by a list that has more, and an entry for the call
            further : (new : List Entry) → AllMade rom new → Extends w.made new
                → ((to : ℕ) → target Shape i.instr ≡ Some to → HasEntry new to k) → Walked (i ∷ earlier)
            further new all ext has =
                let scale = scale_grows rom.machine w.made new key ext earlier w.tracked.fine in
                let tracked = grow_tracked w.made new earlier ext w.tracked in
                let keyed : (to : ℕ) → target Shape i.instr ≡ Some to
                → HasEntry new to (scale_before (keyed_context rom.machine new key) earlier) =
                λ to t. subst (λ (z : Key). HasEntry new to z) scale (has to t) in
                record {
                  made = new;
                  all = all;
                  tracked =
                      track_on new earlier i lead is tracked keyed
                      (refines_at new all earlier i lead is tracked keyed
                      (λ to f x there named l v. refined_by rom new all to _ f x there v.addr
                      (smaller x l _ v.key (fewer earlier i lead is x named))));
                }

            call : (to : ℕ) × (target Shape i.instr ≡ Some to) → Walked (i ∷ earlier)
            call (to, t) =
                let call = called earlier i lead is to t k w.tracked.knows.scale in
                let b = smaller call.g call.listed k call.covers.key
                (fewer earlier i lead is call.g (ap (λ o. callee_at list o (scale_before c earlier)) t ∙ call.is)) in
                let there = extends_second rom w.made b.list w.all b.all to k b.f
                (subst (λ a. entry_at b.list a k ≡ Some b.f) call.covers.addr b.found_it) in
                further (w.made ++ b.list) (all_merged rom w.made b.list w.all b.all) (extends_more w.made b.list)
                (λ other q. (
                  b.f,
                  subst (λ a. entry_at (w.made ++ b.list) a k ≡ Some b.f) (let same : to ≡ other = cc (t, q) in same)
                      there,
                ))

        walked : (items : List Item) (p : ℕ) → LeadsTo Shape (rom_word rom) e.addr items p → Walked items
        walked [] p lead =
            record {
              made = [];
              all = λ x h. absurd (omega (arith, h.1));
              tracked =
                  record { fine = tt; knows = record { place = refl; scale = loose; words = omega arith; depth = omega arith }; holds = tt };
            }
        walked (i ∷ earlier) p lead = walk_on earlier i lead.0 lead.1 (walked earlier i.at lead.0)

        module _ (h : Stops rom e.addr) (w : Walked (h.i ∷ h.items)) where
          box : (b : LitBox) × IsLeast (lit_points (keyed_context rom.machine w.made key) (h.i ∷ h.items)) b
          box = least_box (lit_points (keyed_context rom.machine w.made key) (h.i ∷ h.items))

          abbrev f : Entry
          f = entry_of e.addr key (known_before (keyed_context rom.machine w.made key) (h.i ∷ h.items)) box.0

          made_f : MadeEntry rom w.made f
          made_f = ends_made rom w.made f (record { stops = h; sums = record { known = refl; box = box.1 }; fine = w.tracked.fine })

          refines : Refines f e
          refines =
              let keeps = rule h.items h.i h.leads h.is in
              let known : KnowsMore (known_of e) (known_of f) =
              grind (
                arith,
                h.last,
                w.tracked.knows,
                (keeps shape.EndDiffers (λ q. cc q)),
                (keeps shape.ScaleDiffers (λ q. cc q)),
                (keeps shape.TooManyWords (λ q. cc q)),
                (keeps shape.TooDeep (λ q. cc q)),
                (held_depth h.items h.i.at h.leads),
              ) in
              record { known = known; lit = box.1.least e.lit w.tracked.holds }

          found_last : (o : Option Entry) → entry_at w.made e.addr key ≡ o → entry_at (w.made ++ f ∷ []) e.addr key ≡ Some f
          found_last None q = grind (arith, entry_at, f, at_holds, entry_at-append, option_or)
          found_last (Some x) q =
              let l = listed_at w.made e.addr key x q in
              let same : x ≡ f = same_made rom w.made w.made x f (λ a k y z. z) (w.all x l.listed).made made_f l.addr_is l.key_is in
              extends_more w.made (f ∷ []) e.addr key x q ∙ ap Some same

          finish : Better rom e.addr key e
          finish =
              let is_made : IsMade rom w.made f =
              record {
                made = made_f;
                words = omega (arith, refines.known.words, (up e listed).0.words_high);
                depth =
                    omega (arith, refines.known.depth, (up e listed).0.depth);
              } in
              record {
                list = w.made ++ f ∷ [];
                all = λ x m. ⊎_elim (λ a. is_made_grows rom w.made (w.made ++ f ∷ []) x (extends_more w.made (f ∷ [])) (w.all x a))
                    (λ a. subst (IsMade rom (w.made ++ f ∷ [])) (only_listed f x a)
                    (is_made_grows rom w.made (w.made ++ f ∷ []) f (extends_more w.made (f ∷ [])) is_made))
                    (Contains-append_cases w.made (f ∷ []) x m);
                f = f;
                found_it = found_last (entry_at w.made e.addr key) refl;
                refines = refines;
              }

        better_here : Better rom e.addr key e
        better_here =
            let s = stops rom c e.addr e.words (stands_at Bound rom list e (up e listed).1)
            (λ earlier i lead is. rule earlier i lead is shape.TooManyWords (λ q. cc q)) in
            finish s (walk_on s.items s.i s.leads s.is (walked s.items s.i.at s.leads))

  -- ---- every entry

  pub better : (e : Entry) → Contains list e → (key : Key) → Loosens e.key key → Better rom e.addr key e
  better e listed key loose = up_to e.words e listed key loose (omega arith)
    where
      up_to : (n : ℕ) (e : Entry) → Contains list e → (key : Key) → Loosens e.key key → e.words ≤ n → Better rom e.addr key e
      up_to zero e listed key loose le = absurd (omega (arith, le, (up e listed).0.words_low))
      up_to (suc n) e listed key loose le = better_here e listed key loose (λ g l k lk lt. up_to n g l k lk (omega (arith, le, lt)))

  -- what is made for a shape claims all that an entry of any list claims of it
  pub refined : (made : List Entry) → AllMade rom made → (addr : ℕ) (key : Key) (f e : Entry) → entry_at made addr key ≡ Some f
      → Contains list e → Covers e addr key → Refines f e
  refined made all addr key f e is listed covers = refined_by rom made all addr key f e is covers.addr (better e listed key covers.key)

  pub made_refines : (made : List Entry) → AllMade rom made → (f : Entry) → Contains made f → (e : Entry) → (listed : Contains list e)
      → Covers e f.addr f.key → (earlier : List Item) (i : Item) → LeadsTo Shape (rom_word rom) e.addr earlier i.at
      → cell_at (rom_word rom) i.at ≡ Holds i.format i.instr → Tracked e listed f.key made earlier
      → CalleeRefines (callee (shape_context rom.machine list e) earlier i.instr)
      (callee (keyed_context rom.machine made f.key) earlier i.instr)
  made_refines made all f in_made e listed covers earlier i lead is t =
      refines_at e listed f.key made all earlier i lead is t
      ((all f in_made).made.keyed earlier i (subst (λ a. LeadsTo Shape (rom_word rom) a earlier i.at) covers.addr lead) is)
      (λ to x g there named l v. refined made all to _ x g there l v)

  -- along the items of a made entry
  pub tracks : (made : List Entry) → AllMade rom made → (f : Entry) → Contains made f → (e : Entry) → (listed : Contains list e)
      → Covers e f.addr f.key → (items : List Item) (p : ℕ) → LeadsTo Shape (rom_word rom) e.addr items p
      → Tracked e listed f.key made items
  tracks made all f in_made e listed covers [] p lead =
      record { fine = tt; knows = record { place = refl; scale = covers.key; words = omega arith; depth = omega arith }; holds = tt }
  tracks made all f in_made e listed covers (i ∷ earlier) p lead =
      let t = tracks made all f in_made e listed covers earlier i.at lead.0 in
      track_on e listed f.key made earlier i lead.0 lead.1 t
      ((all f in_made).made.keyed earlier i (subst (λ a. LeadsTo Shape (rom_word rom) a earlier i.at) covers.addr lead.0) lead.1)
      (made_refines made all f in_made e listed covers earlier i lead.0 lead.1 t)
