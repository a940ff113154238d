-- What is known by a list is known by each that has more entries, and two lists of made entries are one such list.
use Rattle.dvg_make.proofs.Common.{Machine, ◌≡◌, List, [], ◌∷◌, sym, ap, ◌∙◌, subst, Rom, rom_word, LeadsTo, entry_at, Entry, Key, target, scale_before, known_before, Item, Shape, LitBox, Known, PartialEntry, MadeEntry, keyed_context, AllFine, IsPartial, Extends, arith, AllTaken, KnowsAt, ℕ, ◌++◌, Some, refl, cell_at, Holds, Frame, frame_word, frame_context, callee_at, known_past, AllKeyed, KeyedCall, HasCalls, FrameAsksFor, ⊎_elim, Contains, option_or, IsMade, AllMade, Contains-append_cases}
use Rattle.dvg_make.specs.Frames.{IsKeyed}
use Rattle.dvg_make.proofs.Matching.{Gathered, gathered_same, seen_matched, exact_named, entry_at-append}
use Rattle.dvg_make.proofs.Ends.{known_of, made_ends, ends_made, same_sums, sums_of}
use Rattle.dvg_make.proofs.Onward.{matched_fine, fine_taken}
use Rattle.dvg_make.proofs.Agreeing.{agree}

module _ (machine : Machine) (a b : List Entry) (key : Key) (ext : Extends a b) where
  pub scale_grows : (items : List Item) → AllFine (keyed_context machine a key) items
      → scale_before (keyed_context machine a key) items ≡ scale_before (keyed_context machine b key) items
  scale_grows items h =
      ap (λ (x : Gathered). x.known.scale) (gathered_same machine a b key items (matched_fine machine a b key ext items h))

  pub known_grows : (items : List Item) → AllFine (keyed_context machine a key) items
      → known_before (keyed_context machine a key) items ≡ known_before (keyed_context machine b key) items
  known_grows items h = ap (λ (x : Gathered). x.known) (gathered_same machine a b key items (matched_fine machine a b key ext items h))

  pub fine_grows : (items : List Item) → AllFine (keyed_context machine a key) items → AllFine (keyed_context machine b key) items
  fine_grows [] h = tt
  fine_grows (i ∷ earlier) h = (
    fine_grows earlier h.0,
    grind
        (arith, (seen_matched machine a b key earlier i (matched_fine machine a b key ext (i ∷ earlier) h)), (scale_grows earlier h.0), ext),
  )

  pub taken_grows : (items : List Item) → AllTaken (keyed_context machine a key) items → AllTaken (keyed_context machine b key) items
  taken_grows [] h = tt
  taken_grows (i ∷ earlier) h =
      let f = fine_taken (keyed_context machine a key) (i ∷ earlier) h in (
        taken_grows earlier h.0,
        grind
            (arith, (seen_matched machine a b key earlier i (matched_fine machine a b key ext (i ∷ earlier) f)), (fine_grows (i ∷ earlier) f)),
      )

  knows_grows : (items : List Item) (known : Known) (lit : LitBox) → KnowsAt (keyed_context machine a key) items known lit
      → KnowsAt (keyed_context machine b key) items known lit
  knows_grows items known lit k =
      grind (
        arith,
        (gathered_same machine a b key items (matched_fine machine a b key ext items k.fine)),
        (matched_fine machine a b key ext items k.fine),
        (fine_grows items k.fine),
      )

pub walk_grows : (rom : Rom) (a b : List Entry) (w : PartialEntry) → Extends a b → IsPartial rom a w → IsPartial rom b w
walk_grows rom a b w ext h =
    record {
      items = h.items;
      leads = h.leads;
      knows = knows_grows rom.machine a b w.key ext h.items w.cursor.known w.lit h.knows;
      sound = h.sound;
      shallow = h.shallow;
      few = h.few;
      keyed = h.keyed;
    }

pub made_grows : (rom : Rom) (a b : List Entry) (e : Entry) → Extends a b → MadeEntry rom a e → MadeEntry rom b e
made_grows rom a b e ext made =
    let h = made_ends rom a e made in
    let k = knows_grows rom.machine a b e.key ext (h.stops.i ∷ h.stops.items) (known_of e) e.lit
    (record { known_is = sym h.sums.known; least = h.sums.box; fine = h.fine }) in
    ends_made rom b e (record { stops = h.stops; sums = record { known = sym k.known_is; box = k.least }; fine = k.fine })

-- two made entries of a shape
pub same_made : (rom : Rom) (a b : List Entry) (e f : Entry) → Extends a b → MadeEntry rom a e → MadeEntry rom b f → e.addr ≡ f.addr
    → e.key ≡ f.key → e ≡ f
same_made rom a b e f ext made other addr key =
    let h = made_ends rom a e made in
    same_sums rom.machine a b (h.stops.i ∷ h.stops.items) e f addr key
    (matched_fine rom.machine a b e.key ext (h.stops.i ∷ h.stops.items) h.fine) h.sums
    (sums_of rom b f other h.stops.items h.stops.i
    (subst (λ x. LeadsTo Shape (rom_word rom) x h.stops.items h.stops.i.at) addr h.stops.leads) h.stops.is h.stops.last)

-- ---- frames

-- items of a frame, each call of which has its entry, that lead to a place where this scale is known
pub record Path (machine : Machine) (words : List ℕ) (list : List Entry) (at : ℕ) (scale : Key) : Type 0 where
  pub items : List Item
  pub leads : LeadsTo Frame (frame_word machine words) 0 items at
  pub keyed : AllKeyed machine list items
  pub scale_is : scale_before (frame_context machine list) items ≡ scale

-- what is known along them by a list is known by each that has more
known_same : (machine : Machine) (a b : List Entry) → Extends a b → (items : List Item) → AllKeyed machine a items
    → (known_before (frame_context machine a) items ≡ known_before (frame_context machine b) items) × AllKeyed machine b items
known_same machine a b ext [] h = (refl, tt)
known_same machine a b ext (i ∷ earlier) h =
    grind (
      arith,
      (known_same machine a b ext earlier h.0),
      target,
      scale_before,
      frame_context,
      callee_at,
      known_before,
      known_past,
      entry_at,
      exact_named,
    )

pub path_grows : (machine : Machine) (words : List ℕ) (a b : List Entry) → Extends a b → (at : ℕ) (scale : Key)
    → Path machine words a at scale → Path machine words b at scale
path_grows machine words a b ext at scale p =
    let g = known_same machine a b ext p.items p.keyed in
    record { items = p.items; leads = p.leads; keyed = g.1; scale_is = ap (λ (k : Known). k.scale) (sym g.0) ∙ p.scale_is }

-- the call of an item there
abbrev pub call_of_path : (machine : Machine) (words : List ℕ) (list : List Entry) (i : Item) (to : ℕ) (scale : Key)
    → Path machine words list i.at scale → cell_at (frame_word machine words) i.at ≡ Holds i.format i.instr
    → target Frame i.instr ≡ Some to → KeyedCall machine words list to scale
call_of_path machine words list i to scale p is t =
    record {
      calls = record { earlier = p.items; item = i; leads = p.leads; stands = is; target_is = t; scale_is = p.scale_is };
      keyed =
          p.keyed;
    }

pub call_grows : (machine : Machine) (words : List ℕ) (a b : List Entry) → Extends a b → (to : ℕ) (scale : Key)
    → KeyedCall machine words a to scale → KeyedCall machine words b to scale
call_grows machine words a b ext to scale c =
    let p : Path machine words a c.calls.item.at scale =
    record { items = c.calls.earlier; leads = c.calls.leads; keyed = c.keyed; scale_is = c.calls.scale_is } in
    call_of_path machine words b c.calls.item to scale (path_grows machine words a b ext c.calls.item.at scale p) c.calls.stands
    c.calls.target_is

-- where each call of a frame has its entry
module _ (machine : Machine) (words : List ℕ) (list : List Entry) (has : HasCalls machine words list) where
  pub keyed_item : (earlier : List Item) (i : Item) → LeadsTo Frame (frame_word machine words) 0 earlier i.at
      → cell_at (frame_word machine words) i.at ≡ Holds i.format i.instr → IsKeyed machine list earlier i
  keyed_item earlier i lead is to t =
      has to (scale_before (frame_context machine list) earlier)
      (record { earlier = earlier; item = i; leads = lead; stands = is; target_is = t; scale_is = refl })

  pub keyed_all : (items : List Item) (p : ℕ) → LeadsTo Frame (frame_word machine words) 0 items p → AllKeyed machine list items
  keyed_all [] p lead = tt
  keyed_all (i ∷ earlier) p lead = (keyed_all earlier i.at lead.0, keyed_item earlier i lead.0 lead.1)

  pub keyed_call : (to : ℕ) (scale : Key) → FrameAsksFor machine words list to scale → KeyedCall machine words list to scale
  keyed_call to scale c = record { calls = c; keyed = keyed_all c.earlier c.item.at c.leads }

pub calls_grow : (machine : Machine) (words : List ℕ) (a b : List Entry) → Extends a b → HasCalls machine words a
    → (to : ℕ) (scale : Key) → FrameAsksFor machine words a to scale → FrameAsksFor machine words b to scale
calls_grow machine words a b ext has to scale c =
    (call_grows machine words a b ext to scale (keyed_call machine words a has to scale c)).calls

-- and the other way round
pub calls_shrink : (machine : Machine) (words : List ℕ) (a b : List Entry) → Extends a b → HasCalls machine words a
    → (to : ℕ) (scale : Key) → FrameAsksFor machine words b to scale → FrameAsksFor machine words a to scale
calls_shrink machine words a b ext has to scale c =
    grind (arith, (known_same machine a b ext c.earlier (keyed_all machine words a has c.earlier c.item.at c.leads)))

pub has_calls_grow : (machine : Machine) (words : List ℕ) (a b : List Entry) → Extends a b → HasCalls machine words a
    → HasCalls machine words b
has_calls_grow machine words a b ext has to scale c =
    let f = has to scale (calls_shrink machine words a b ext has to scale c) in (f.0, ext to scale f.0 f.1)

-- ---- two lists

pub extends_more : (done more : List Entry) → Extends done (done ++ more)
extends_more done more addr key f e = entry_at-append done more addr key ∙ ap (λ o. option_or o (entry_at more addr key)) e

-- a list of one has no other element
pub only_listed : {A : Type 0} (x y : A) → Contains (x ∷ []) y → x ≡ y
only_listed x y h2 = grind (arith)

-- a made entry is one in each list that has more
pub is_made_grows : (rom : Rom) (a b : List Entry) (e : Entry) → Extends a b → IsMade rom a e → IsMade rom b e
is_made_grows rom a b e ext h = record { made = made_grows rom a b e ext h.made; words = h.words; depth = h.depth }

module _ (rom : Rom) (a b : List Entry) (all_a : AllMade rom a) (all_b : AllMade rom b) where
  pub same_found : (addr : ℕ) (key : Key) (e f : Entry) → entry_at a addr key ≡ Some e → entry_at b addr key ≡ Some f → e ≡ f
  same_found addr key e f p q = agree rom a b (λ x c. (all_a x c).made) (λ x c. (all_b x c).made) addr key e f p q

  pub extends_second : Extends b (a ++ b)
  extends_second addr key e q = grind (arith, entry_at, entry_at-append, option_or, same_found)

  pub all_merged : AllMade rom (a ++ b)
  all_merged e c =
      ⊎_elim (λ h. is_made_grows rom a (a ++ b) e (extends_more a b) (all_a e h))
      (λ h. is_made_grows rom b (a ++ b) e extends_second (all_b e h)) (Contains-append_cases a b e c)
