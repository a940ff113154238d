-- A shape in the making, item by item.
use Rattle.dvg_make.proofs.Common.{Machine, ◌≡◌, ℕ, ◌≤◌, List, [], ◌∷◌, Option, Some, None, refl, sym, ap, ◌∙◌, subst, arith, Contains, IfSome, AllByRecursion, cell_at, InstrFits, Rom, rom_word, Holds, Format, Instr, IsEntry, Entry, Key, MOST_DEPTH, MOST_WORDS, next_address, LeadsTo, Context, shape_context, target, callee_at, callee, scale_before, words_before, depth_before, known_before, seen_at, seen_with, IsClaim, Item, Shape, Known, Seen, LitBox, Last, step_past, relative_corners, PartialEntry, lit_points, HasEntry, Obstacle, ShapeAt, EntryCause, Reaches, keyed_context, entry_of, shape_of, Passes, AllFine, IsPartial, Extends, IsFinished, IsWaiting, IsStopped, listed_at, Exact, rules, IsSoundStep, at_place, Cursor, Step, Onward, AllTaken, SaysOf, CauseAt, IsAsked, KnowsAt, NeverAt, IsCallee, LacksCallee, IsAbsent, IsDone, IsKey, scale_set, unwrap_or}
use Rattle.dvg_items.proofs.Stepping.{leads_on, ends_at}
use Rattle.dvg_make.proofs.Matching.{SameAt, Matched, seen_matched}
use Rattle.dvg_make.proofs.Ends.{Allows, allows_at, stands_at, ends_made}
use Rattle.dvg_make.proofs.Small.{made_is_entry}

-- ---- one item further

seen_same : (c : Context) (items : List Item) (i : Item) (o : Option Entry) (known : Known) → o ≡ callee c items i.instr
    → known ≡ known_before c items → seen_with c.machine o known i ≡ seen_at c items i
seen_same c items i o known e k =
    ap (λ x. seen_with c.machine x known i) e ∙ ap (λ (x : Known). seen_with c.machine (callee c items i.instr) x i) k

-- ---- a made list with the entries of this one knows the same

pub same_if : (a b : List Entry) (scale : Key) → Extends a b → (o : Option ℕ) → ((to : ℕ) → o ≡ Some to → HasEntry a to scale)
    → SameAt a b o scale
same_if a b scale ext to h = grind (arith)

pub matched_fine : (machine : Machine) (a b : List Entry) (key : Key) → Extends a b → (items : List Item)
    → AllFine (keyed_context machine a key) items → Matched machine a b key items
matched_fine machine a b key ext [] h = tt
matched_fine machine a b key ext (i ∷ items) h =
    (matched_fine machine a b key ext items h.0, same_if a b _ ext (target Shape i.instr) h.1.keyed)

pub listed_entry : (first last : ℕ) (list : List Entry) (e : Entry) → AllByRecursion (IsEntry first last) list → Contains list e
    → IsEntry first last e
listed_entry first last list e all c = at_place (IsEntry first last) list e all c

module _ (rom : Rom) (list : List Entry) (w : PartialEntry) where
  -- nothing stands where the shape in the making stands
  none_there : (items : List Item) → LeadsTo Shape (rom_word rom) w.addr items w.cursor.at
      → ((format : Format) (i : Instr) → cell_at (rom_word rom) w.cursor.at ≡ Holds format i → ⊥) → NeverAt rom list w.addr w.key
  none_there items lead not made all ext has =
      let t = listed_at made w.addr w.key has.0 has.1 in
      let h = stands_at Exact rom made has.0 (all has.0 t.listed).made.keeps items w.cursor.at
      (subst (λ a. LeadsTo Shape (rom_word rom) a items w.cursor.at) (sym t.addr_is) lead) in
      not h.0 h.1 h.2

  -- the item is not as it is asked
  none_asked : (items : List Item) (i : Item) (o : Option Entry) → LeadsTo Shape (rom_word rom) w.addr items i.at
      → cell_at (rom_word rom) i.at ≡ Holds i.format i.instr → KnowsAt (keyed_context rom.machine list w.key) items w.cursor.known w.lit
      → IsCallee list i.instr (scale_before (keyed_context rom.machine list w.key) items) o
      → (IsAsked (seen_with rom.machine o w.cursor.known i) → ⊥)
      → NeverAt rom list w.addr w.key
  none_asked items i o lead is k n not made all ext has =
      let t = listed_at made w.addr w.key has.0 has.1 in
      let its = all has.0 t.listed in
      let allows =
      allows_at rom made has.0 its.made items i (subst (λ a. LeadsTo Shape (rom_word rom) a items i.at) (sym t.addr_is) lead) is in
      let match : Matched rom.machine list made w.key (i ∷ items) =
      (matched_fine rom.machine list made w.key ext items k.fine, same_if list made _ ext (target Shape i.instr) n.keyed) in
      let v : seen_at (shape_context rom.machine made has.0) items i ≡ seen_with rom.machine o w.cursor.known i =
      ap (λ (x : Key). seen_at (keyed_context rom.machine made x) items i) t.key_is
      ∙ sym (seen_matched rom.machine list made w.key items i match)
      ∙ sym (seen_same (keyed_context rom.machine list w.key) items i o w.cursor.known n.value k.known_is) in
      let here : Allows has.0 (seen_with rom.machine o w.cursor.known i) = subst (Allows has.0) v allows in
      not (record { straight = here.straight; deep = omega (arith, here.deep, its.depth); many = omega (arith, here.many, its.words) })

-- ---- why it stops

-- what a cause says of the item at a place
said_at : (rom : Rom) (list : List Entry) (chain : List ShapeAt) (at : ℕ) (before : Known) (i : Item) (o : Option Entry)
    (why : EntryCause) → i.at ≡ at → cell_at (rom_word rom) i.at ≡ Holds i.format i.instr → IsCallee list i.instr before.scale o
    → SaysOf before.scale (seen_with rom.machine o before i) why → CauseAt rom list chain at before why
said_at rom list chain at before i o why here is nm says = grind (arith, seen_with, callee_at, target)

-- ---- items at which the making does not stop

pub fine_taken : (c : Context) (items : List Item) → AllTaken c items → AllFine c items
fine_taken c [] h = tt
fine_taken c (i ∷ earlier) h = (fine_taken c earlier h.0, record { straight = h.1.asked.straight; keyed = h.1.keyed })

-- the depth before an item is the greatest, and the words before it are the most
all_taken : (machine : Machine) (list : List Entry) (key : Key) (items : List Item) → AllFine (keyed_context machine list key) items
    → depth_before (keyed_context machine list key) items ≤ MOST_DEPTH → words_before (keyed_context machine list key) items ≤ MOST_WORDS
    → AllTaken (keyed_context machine list key) items
all_taken machine list key [] fine deep many = tt
all_taken machine list key (i ∷ earlier) fine deep many =
    grind (arith, (all_taken machine list key earlier fine.0 (omega (arith, deep)) (omega (arith, many))))

-- where a shape in the making stands
pub reached : (rom : Rom) (list : List Entry) (w : PartialEntry) → IsPartial rom list w
    → Reaches rom list (shape_of w) w.cursor.at w.cursor.known
reached rom list w h = grind (arith, all_taken)

-- the entry of items of which the last ends the shape
pub finished : (rom : Rom) (list : List Entry) → IsDone rom list
    → (w : PartialEntry) (items : List Item) (i : Item) (known : Known) (lit : LitBox) → LeadsTo Shape (rom_word rom) w.addr items i.at
    → cell_at (rom_word rom) i.at ≡ Holds i.format i.instr → next_address Shape i ≡ None
    → KnowsAt (keyed_context rom.machine list w.key) (i ∷ items) known lit
    → known.words ≤ MOST_WORDS → known.depth ≤ MOST_DEPTH → IsKey w.key → IsKey known.scale
    → IsFinished rom list w (entry_of w.addr w.key known lit)
finished rom list done w items i known lit leads is last k words depth key scale =
    let entry = made_is_entry rom list done.made w.addr w.key items i lit leads is k.fine k.least
    (subst (λ (x : Known). x.words ≤ MOST_WORDS) k.known_is words) (subst (λ (x : Known). x.depth ≤ MOST_DEPTH) k.known_is depth) key
    (subst (λ (x : Known). IsKey x.scale) k.known_is scale) in
    search (
      subst (λ (x : Known). IsEntry rom.map.rom_first rom.map.rom_last (entry_of w.addr w.key x lit)) (sym k.known_is) entry,
      ends_made rom list (entry_of w.addr w.key known lit)
          (record {
            stops = record { items = items; i = i; leads = leads; is = is; last = last };
            sums =
                record { known = sym k.known_is; box = k.least };
            fine = k.fine;
          }),
    )

-- ---- the walk

-- the shape so far
pub record Walking (rom : Rom) (list : List Entry) (from w : PartialEntry) : Type 0 where
  pub addr : w.addr ≡ from.addr
  pub key : w.key ≡ from.key
  pub partial : IsPartial rom list w

module _ (rom : Rom) (list : List Entry) (from w : PartialEntry) (h : Walking rom list from w) where
  stops_here : (obstacle : Obstacle) → obstacle.cursor ≡ w.cursor → NeverAt rom list w.addr w.key
      → CauseAt rom list [] w.cursor.at w.cursor.known obstacle.cause → IsStopped rom list from obstacle
  stops_here obstacle here n why =
      let never : NeverAt rom list from.addr from.key =
      subst (NeverAt rom list from.addr) h.key (subst (λ a. NeverAt rom list a w.key) h.addr n) in
      grind (arith, shape_of, reached)

  pub stops_absent : (obstacle : Obstacle) → obstacle.cursor ≡ w.cursor
      → ((format : Format) (i : Instr) → cell_at (rom_word rom) w.cursor.at ≡ Holds format i → ⊥)
      → IsAbsent rom w.cursor.at obstacle.cause → IsStopped rom list from obstacle
  stops_absent obstacle here not why = stops_here obstacle here (none_there rom list w h.partial.items h.partial.leads not) (grind (arith))

  module _ (format : Format) (instr : Instr) (is : cell_at (rom_word rom) w.cursor.at ≡ Holds format instr) where
    abbrev i : Item
    i = record { at = w.cursor.at; format = format; instr = instr }

    pub waits : (addr : ℕ) → InstrFits instr → LacksCallee list instr w.cursor.known.scale addr → IsWaiting rom list from w addr
    waits addr fits m =
        record {
          same_addr = h.addr;
          same_key = h.key;
          partial = h.partial;
          item = i;
          at = refl;
          stands = is;
          target_is = m.target_is;
          none = m.none;
          near = grind (arith, m.target_is);
          scale = h.partial.sound.scale;
        }

    module _ (o : Option Entry) (nm : IsCallee list instr w.cursor.known.scale o) where
      known : IsCallee list instr (scale_before (keyed_context rom.machine list w.key) h.partial.items) o
      known = subst (λ (s : Key). IsCallee list instr s o) (ap (λ (k : Known). k.scale) h.partial.knows.known_is) nm

      pub stops_said : (obstacle : Obstacle) → obstacle.cursor ≡ w.cursor
          → SaysOf w.cursor.known.scale (seen_with rom.machine o w.cursor.known i) obstacle.cause → IsStopped rom list from obstacle
      stops_said obstacle here says =
          let not : IsAsked (seen_with rom.machine o w.cursor.known i) → ⊥ = λ a. grind (arith, says, a) in
          stops_here obstacle here (none_asked rom list w h.partial.items i o h.partial.leads is h.partial.knows known not)
          (said_at rom list [] w.cursor.at w.cursor.known i o obstacle.cause refl is nm says)

      -- what the rules see of the instruction here
      abbrev seen : Seen
      seen = seen_with rom.machine o w.cursor.known i

      module _ (lit : LitBox) (s : Passes seen w.lit lit) where
        knows_next : KnowsAt (keyed_context rom.machine list w.key) (i ∷ h.partial.items) seen.after lit
        knows_next = grind (arith, seen_same, relative_corners, lit_points, known)

        pub onward : (step : Step) (next : Cursor) → step ≡ Onward next → step ≡ step_past Shape seen → IsSoundStep step
            → Walking rom list from (record { addr = w.addr; key = w.key; cursor = next; lit = lit })
        onward step next step_is goes sound =
            let on = leads_on Shape seen step next step_is goes in
            record {
              addr = h.addr;
              key = h.key;
              partial = record {
                items = i ∷ h.partial.items;
                leads = (h.partial.leads, is, on.0);
                knows = subst (λ (k : Known). KnowsAt (keyed_context rom.machine list w.key) (i ∷ h.partial.items) k lit) (sym on.1)
                    knows_next;
                sound = subst IsSoundStep step_is sound;
                shallow = omega (arith, ap (λ (k : Known). k.depth) on.1, s.asked.deep, h.partial.shallow);
                few = omega (arith, ap (λ (k : Known). k.words) on.1, s.asked.many);
                keyed = h.partial.keyed;
              };
            }

        -- the entry of the shape
        pub ended : (step : Step) (last : Known) → step ≡ Last last → step ≡ step_past Shape seen → IsDone rom list → InstrFits instr
            → IfSome o IsClaim → IsFinished rom list from (entry_of w.addr w.key last lit)
        ended step last step_is goes done fits claim =
            let end = ends_at Shape seen step last step_is goes in
            let knows = subst (λ (k : Known). KnowsAt (keyed_context rom.machine list w.key) (i ∷ h.partial.items) k lit) (sym end.1)
            knows_next in
            let key : IsKey (unwrap_or (scale_set instr o) w.cursor.known.scale) = grind (arith, fits, claim, h.partial.sound.scale) in
            let f = finished rom list done w h.partial.items i last lit h.partial.leads is end.0 knows
            (omega (arith, ap (λ (k : Known). k.words) end.1, s.asked.many))
            (omega (arith, ap (λ (k : Known). k.depth) end.1, s.asked.deep, h.partial.shallow)) h.partial.keyed
            (subst (λ (k : Known). IsKey k.scale) (sym end.1) key) in
            search (rules, f.entry, f.made, h.addr, h.key)
