-- What the shapes of a list light at absolute places: where one leads to another, the other lights the same from there on.
use Rattle.dvg_survey.proofs.Common.{stand_before, ◌≡◌, ℕ, ◌+◌, ◌<◌, ◌≤◌, List, [], ◌∷◌, ◌++◌, length, get_or, ◌∙◌, refl, sym, ap, subst, arith, inl, inr, ⊎_elim, cases_lt, Contains, Option, Some, None, IfSome, IsNearPlace, Rom, rom_word, cell_at, Holds, Machine, Entry, Key, End, Rel, Abs, Lost, LitBox, Empty, LitExtent, Shape, Item, AreAll, Stand, LeadsTo, Context, Known, shape_context, target, callee_at, scale_set, unwrap_or, known_before, place_before, HoldsAll, absolute_corners, absolute_points, IsLeast, get_or_default, IsInside, InBox, Point, all_append, all_right, all_map, in_wider, IsJoined, HoldsShape, HoldsShapes, same_lead, ADDRESS_END, IsSomeCertificate, listed_claim, append_assoc, pos, suc, zero, next_further, next_near, next_address, ITEM_REACH, IsSoundCursor, ℤ, ◌+ℤ◌, Cursor, first_cursor, Seen, seen_with}
use Rattle.dvg_items.specs.declared.known.Effect.{Effect}
use Rattle.dvg_items.specs.declared.known.Effect.TheVariants.{Sets, Loses, Moves}
use Rattle.dvg_words.specs.Decoding.{InstrFits}
use Rattle.dvg_items.specs.Known.{effect_of, known_past, place_past}
use Rattle.dvg_items.proofs.Reached.{place_more}
use Rattle.dvg_items.specs.Lit.{extent_of}
use Rattle.dvg_survey.specs.Calls.{IsShapesExtent}
use Rattle.dvg_survey.specs.Private.Extents.{ArePlacesAlike, GoesOn, IsAlike, IsNotAbsolute, IsOwnExtent, IsPassed, IsPlaceSet, IsSoundKnown}
use Rattle.dvg_survey.proofs.AllItems.{one_all}

-- what one box has, a wider one has
wider : (a b : LitBox) (ps : List Point) → IsInside a b → HoldsAll a ps → HoldsAll b ps
wider a b ps inside h = all_map (InBox a) (InBox b) ps (λ p. in_wider a b p inside) h

-- ---- places that are alike for what is lit at absolute ones

alike_past : (effect : Effect) (a b : End) → ArePlacesAlike a b → ArePlacesAlike (place_past effect a) (place_past effect b)
alike_past (Sets p) a b h = (refl, refl)
alike_past Loses a b h = tt
alike_past (Moves d) (Abs x y) (Abs u v) h = (ap (λ (n : ℤ). n +ℤ d.x) h.0, ap (λ (n : ℤ). n +ℤ d.y) h.1)
alike_past (Moves d) (Abs x y) (Rel u v) h = elim h [ ]
alike_past (Moves d) (Abs x y) Lost h = elim h [ ]
alike_past (Moves d) (Rel x y) (Abs u v) h = elim h [ ]
alike_past (Moves d) Lost (Abs u v) h = elim h [ ]
alike_past (Moves d) (Rel x y) (Rel u v) h = tt
alike_past (Moves d) (Rel x y) Lost h = tt
alike_past (Moves d) Lost (Rel u v) h = tt
alike_past (Moves d) Lost Lost h = tt

alike_corners : (lit : LitExtent) (a b : End) → ArePlacesAlike a b → absolute_corners lit a ≡ absolute_corners lit b
alike_corners lit (Abs x y) (Abs u v) h = grind (arith)
alike_corners lit (Rel x y) (Rel u v) h = refl
alike_corners lit (Rel x y) Lost h = refl
alike_corners lit Lost (Rel u v) h = refl
alike_corners lit Lost Lost h = refl
alike_corners lit (Abs x y) (Rel u v) h = elim h [ ]
alike_corners lit (Abs x y) Lost h = elim h [ ]
alike_corners lit (Rel x y) (Abs u v) h = elim h [ ]
alike_corners lit Lost (Abs u v) h = elim h [ ]

alike_start : (place : End) → IsNotAbsolute place → ArePlacesAlike place (Rel (pos 0) (pos 0))
alike_start (Rel x y) h = tt
alike_start (Abs x y) h = elim h [ ]
alike_start Lost h = tt

elsewhere_too : (a b : End) → ArePlacesAlike a b → IsNotAbsolute b → IsNotAbsolute a
elsewhere_too (Rel x y) b h k = tt
elsewhere_too (Abs x y) (Rel u v) h k = elim h [ ]
elsewhere_too (Abs x y) (Abs u v) h k = elim k [ ]
elsewhere_too (Abs x y) Lost h k = elim h [ ]
elsewhere_too Lost b h k = tt

-- past a place that is not absolute is the one that is set, or none that is absolute
set_past : (effect : Effect) (place here : End) (set : Option End) → IsPlaceSet effect set → IsNotAbsolute place → IsNotAbsolute here
    → ArePlacesAlike (place_past effect place) (unwrap_or set here)
set_past (Sets p) place here set h k l =
    subst (λ (o : Option End). ArePlacesAlike (Abs p.x p.y) (unwrap_or o here)) (sym h) (refl, refl)
set_past Loses place here set h k l = subst (λ (o : Option End). ArePlacesAlike Lost (unwrap_or o here)) (sym h) l
set_past (Moves d) (Rel x y) here set h k l =
    subst (λ (o : Option End). ArePlacesAlike (place_past (Moves d) (Rel x y)) (unwrap_or o here)) (sym h) l
set_past (Moves d) (Abs x y) here set h k l = elim k [ ]
set_past (Moves d) Lost here set h k l = subst (λ (o : Option End). ArePlacesAlike Lost (unwrap_or o here)) (sym h) l

pub near_set : (n : ℕ) (place : End) (set : Option End) → IfSome set (IsNearPlace 1) → IsNearPlace n place → IsNearPlace (n + 1) (unwrap_or set place)
near_set n place None h k = place_more ITEM_REACH n (n + 1) place (omega arith) k
near_set n place (Some set) h k = place_more ITEM_REACH 1 (n + 1) set (omega arith) h

-- ---- past an item

-- numbers within the limits stay so
pub sound_later : (here : Cursor) → IsSoundCursor here → IsSoundKnown (here.at + 1) here.known
sound_later here s =
    record {
      place = place_more ITEM_REACH here.at (here.at + 1) here.known.place (omega arith) s.place;
      scale = s.scale;
      words = omega (arith, s.words);
      depth = s.depth;
    }

sound_on : (i : Item) (next : ℕ) (after : Known) → i.at < ADDRESS_END → InstrFits i.instr → next_address Shape i ≡ Some next
    → IsSoundKnown (i.at + 1) after → IsSoundCursor (record { at = next; known = after })
sound_on i next after lt fits goes s =
    let further = next_further Shape i next goes in
    record {
      at = next_near Shape i.at i.format i.instr next lt fits goes;
      place = place_more ITEM_REACH (i.at + 1) next after.place further s.place;
      scale = s.scale;
      words = omega (arith, s.words, further);
      depth = s.depth;
    }

module _ (machine : Machine) (list : List Entry) where
  abbrev named : Item → Key → Option Entry
  named i scale = callee_at list (target Shape i.instr) scale

  abbrev seen_past : Item → Known → Seen
  seen_past i known = seen_with machine (named i known.scale) known i

  abbrev past : Item → Known → Known
  past i known = known_past machine i (named i known.scale) known

  abbrev lit_by : Item → Known → List Point
  lit_by i known = absolute_corners (extent_of machine i.instr known.scale (named i known.scale)) known.place

  module _ (i : Item) (known other : Known) (h : IsAlike known other) where
    alike_on : IsAlike (past i known) (past i other)
    alike_on =
        record {
          scale = ap (λ (k : Key). unwrap_or (scale_set i.instr (named i k)) k) h.scale;
          place = subst (λ (k : Key). ArePlacesAlike (past i known).place (place_past (effect_of machine i.instr k (named i k)) other.place))
              h.scale (alike_past (effect_of machine i.instr known.scale (named i known.scale)) known.place other.place h.place);
        }

    lit_alike : lit_by i known ≡ lit_by i other
    lit_alike =
        alike_corners (extent_of machine i.instr known.scale (named i known.scale)) known.place other.place h.place
        ∙ ap (λ (k : Key). absolute_corners (extent_of machine i.instr k (named i k)) other.place) h.scale

  -- past an item that is seen, or that is passed at a place that is not absolute
  module _ (i : Item) (known here : Known) (alike : IsAlike known here) where
    pub passed_seen : (old new : LitBox) (v : Seen) → v ≡ seen_past i here
        → ((ps : List Point) → IsLeast ps old → IsLeast (absolute_corners v.extent v.place ++ ps) new)
        → IsPassed (seen_past i known) old new v.after
    passed_seen old new v is grows =
        record {
          alike = subst (λ (x : Seen). IsAlike (past i known) x.after) (sym is) (alike_on i known here alike);
          lit = λ ps h. subst (λ (x : List Point). IsLeast (x ++ ps) new)
              (ap (λ (x : Seen). absolute_corners x.extent x.place) is ∙ sym (lit_alike i known here alike)) (grows ps h);
        }

    module _ (other : IsNotAbsolute here.place) where
      elsewhere : IsNotAbsolute known.place
      elsewhere = elsewhere_too known.place here.place alike.place other

      pub set_alike : (set : Option End) → IsPlaceSet (effect_of machine i.instr here.scale (named i here.scale)) set
          → (after : Known) → after.place ≡ unwrap_or set here.place → after.scale ≡ (past i here).scale → IsAlike (past i known) after
      set_alike set is after place scale =
          record {
            scale = (alike_on i known here alike).scale ∙ sym scale;
            place = subst (ArePlacesAlike (past i known).place) (sym place)
                (set_past (effect_of machine i.instr known.scale (named i known.scale)) known.place here.place set
                (subst (λ (k : Key). IsPlaceSet (effect_of machine i.instr k (named i k)) set) (sym alike.scale) is) elsewhere other);
          }

module _ (rom : Rom) (list : List Entry) where
  abbrev of : Entry → Context
  of e = shape_context rom.machine list e

  -- ---- where the shape of an entry goes on as another one

  module _ (e other : Entry) (before : List Item) (g : GoesOn rom list e before other) where
    leads_too : (items : List Item) (p : ℕ) → LeadsTo Shape (rom_word rom) other.addr items p
        → LeadsTo Shape (rom_word rom) e.addr (items ++ before) p
    leads_too [] p h = subst (λ q. LeadsTo Shape (rom_word rom) e.addr before q) (sym h) g.leads
    leads_too (i ∷ items) p h = (leads_too items i.at h.0, h.1, h.2)

    leads_back : (items : List Item) (p : ℕ) → LeadsTo Shape (rom_word rom) e.addr (items ++ before) p
        → LeadsTo Shape (rom_word rom) other.addr items p
    leads_back [] p h = (same_lead Shape (rom_word rom) e.addr before before p other.addr h g.leads refl).place
    leads_back (i ∷ items) p h = (leads_back items i.at h.0, h.1, h.2)

    stand_too : (items : List Item) → Stand Shape (rom_word rom) other.addr items
        → Stand Shape (rom_word rom) e.addr (items ++ before)
    stand_too [] h = stand_before Shape (rom_word rom) e.addr before other.addr g.leads
    stand_too (i ∷ items) h = (leads_too items i.at h.0, h.1)

    all_too : (items : List Item) → AreAll Shape (rom_word rom) other.addr items → AreAll Shape (rom_word rom) e.addr (items ++ before)
    all_too items all =
        record { stand = stand_too items all.stand; last = λ next h. all.last next (leads_back items next.at h.0, h.1) }

    -- what is known after any items behind is alike
    same : (items : List Item) → IsAlike (known_before (of e) (items ++ before)) (known_before (of other) items)
    same [] = record { scale = g.scale; place = alike_start (place_before (of e) before) g.place }
    same (i ∷ items) = alike_on rom.machine list i (known_before (of e) (items ++ before)) (known_before (of other) items) (same items)

    -- so they light the same
    lit_too : (items : List Item)
        → absolute_points (of e) (items ++ before) ≡ absolute_points (of other) items ++ absolute_points (of e) before
    lit_too [] = refl
    lit_too (i ∷ items) =
        ap (λ (ps : List Point). ps ++ absolute_points (of e) (items ++ before))
        (lit_alike rom.machine list i (known_before (of e) (items ++ before)) (known_before (of other) items) (same items))
        ∙ ap (λ (ps : List Point). lit_by rom.machine list i (known_before (of other) items) ++ ps) (lit_too items)
        ∙ sym (append_assoc (lit_by rom.machine list i (known_before (of other) items)) (absolute_points (of other) items) (absolute_points (of e) before))

  -- ---- the walk over an entry's shape

  leads_from : (first : ℕ) (items : List Item) (p : ℕ) → LeadsTo Shape (rom_word rom) first items p → first ≤ p
  leads_from first [] p h = omega (arith, h)
  leads_from first (i ∷ items) p h = omega (arith, leads_from first items i.at h.0, next_further Shape i p h.2)

  module _ (e : Entry) where
    -- items of the shape that lead to where the walk stands, what is known there as far as it counts, and the least box of what they light
    pub record Came (box : LitBox) (here : Cursor) : Type 0 where
      pub items : List Item
      pub leads : LeadsTo Shape (rom_word rom) e.addr items here.at
      pub alike : IsAlike (known_before (of e) items) here.known
      pub sound : IsSoundCursor here
      pub least : IsLeast (absolute_points (of e) items) box

    pub none_came : (here : Cursor) → here ≡ first_cursor Shape e.addr e.key → IsSoundCursor here → Came Empty here
    none_came here is sound =
        record {
          items = [];
          leads = ap (λ (x : Cursor). x.at) is;
          alike = subst (λ (x : Cursor). IsAlike (known_before (of e) []) x.known) (sym is) (record { scale = refl; place = tt });
          sound = sound;
          least = record { holds = tt; least = λ other h. tt };
        }

    -- past an item
    module _ (old new : LitBox) (here : Cursor) (came : Came old here) (i : Item) (at : i.at ≡ here.at)
        (stands : cell_at (rom_word rom) here.at ≡ Holds i.format i.instr) (after : Known)
        (passed : (known : Known) → IsAlike known here.known → IsPassed (seen_past rom.machine list i known) old new after) where
      here_leads : LeadsTo Shape (rom_word rom) e.addr came.items i.at
      here_leads = subst (LeadsTo Shape (rom_word rom) e.addr came.items) (sym at) came.leads

      here_stands : cell_at (rom_word rom) i.at ≡ Holds i.format i.instr
      here_stands = ap (cell_at (rom_word rom)) at ∙ stands

      least : IsLeast (absolute_points (of e) (i ∷ came.items)) new
      least = (passed (known_before (of e) came.items) came.alike).lit (absolute_points (of e) came.items) came.least

      pub own_last : next_address Shape i ≡ None → IsOwnExtent rom list e new
      own_last ends =
          let all : AreAll Shape (rom_word rom) e.addr (i ∷ came.items) =
          record {
            stand = (here_leads, here_stands);
            last = λ j k. let no : None ≡ Some j.at = sym ends ∙ k.0.2 in cc no;
          } in
          record { items = i ∷ came.items; least = least; end = inl all }

      module _ (next : ℕ) (goes : next_address Shape i ≡ Some next) where
        pub came_on : i.at < ADDRESS_END → InstrFits i.instr → IsSoundKnown (i.at + 1) after
            → Came new (record { at = next; known = after })
        came_on lt fits s =
            record {
              items = i ∷ came.items;
              leads = (here_leads, here_stands, goes);
              alike = (passed (known_before (of e) came.items) came.alike).alike;
              sound = sound_on i next after lt fits goes s;
              least = least;
            }

        -- to where another one goes on
        pub own_to_other : (other : Entry) → Contains list other → other.addr ≡ next → other.key ≡ after.scale → IsNotAbsolute after.place
            → IsOwnExtent rom list e new
        own_to_other other listed there key place =
            let alike = (passed (known_before (of e) came.items) came.alike).alike in
            record {
              items = i ∷ came.items;
              least = least;
              end = inr (
                other,
                record {
                  listed = listed;
                  leads = subst (λ p. LeadsTo Shape (rom_word rom) e.addr (i ∷ came.items) p) (sym there)
                      (here_leads, here_stands, goes);
                  further = omega (arith, leads_from e.addr came.items here.at came.leads, at, next_further Shape i next goes, there);
                  scale = alike.scale ∙ sym key;
                  place = elsewhere_too (past rom.machine list i (known_before (of e) came.items)).place after.place alike.place place;
                },
              );
            }

  -- ---- entry after entry

  -- the box has what an entry's shape lights up to where another one goes on
  pub record Owns (box : LitBox) (e : Entry) : Type 0 where
    pub one : LitBox
    pub own : IsOwnExtent rom list e one
    pub holds : HoldsAll box (absolute_points (of e) own.items)

  -- the box has it of the first entries, and is part of each that has it of all
  pub record Boxed (n : ℕ) (box : LitBox) : Type 0 where
    pub owns : (k : ℕ) (past : Entry) → k < n → k < length list → Owns box (get_or list k past)
    pub least : (other : LitBox)
        → ((e : Entry) (one : LitBox) → Contains list e → IsOwnExtent rom list e one → IsInside one other) → IsInside box other

  -- with one entry more
  pub one_more : (n : ℕ) (past : Entry) (old one new : LitBox) → n < length list → IsOwnExtent rom list (get_or list n past) one
      → IsJoined old one new → Boxed n old → Boxed (n + 1) new
  one_more n past old one new lt own j b =
      record {
        owns = λ k d le less.
            ⊎_elim
            (λ (before : k < n). let o = b.owns k d before less in
            record {
              one = o.one;
              own = o.own;
              holds = wider old new (absolute_points (of (get_or list k d)) o.own.items) j.first o.holds;
            })
            (λ (here : n ≤ k). subst (Owns new)
            (get_or_default list n past d lt ∙ ap (λ (n : ℕ). get_or list n d) (omega (arith, le, here)))
            (record {
              one = one;
              own = own;
              holds = wider one new (absolute_points (of (get_or list n past)) own.items) j.second own.least.holds;
            }))
            (cases_lt k n);
        least = λ other h. j.least other (b.least other h)
            (h (get_or list n past) one (n, lt, get_or_default list n (get_or list n past) past lt) own);
      }

  -- ---- in the end

  -- the box has what all items of an entry's shape light
  record Lit (box : LitBox) (e : Entry) : Type 0 where
    items : List Item
    all : AreAll Shape (rom_word rom) e.addr items
    holds : HoldsAll box (absolute_points (of e) items)

  module _ (certificate : IsSomeCertificate list) (box : LitBox) (boxed : Boxed (length list) box) where
    owns : (e : Entry) → Contains list e → Owns box e
    owns e listed = subst (Owns box) listed.2 (boxed.owns listed.0 e listed.1 listed.1)

    lit : (n : ℕ) (e : Entry) → Contains list e → ADDRESS_END ≤ n + e.addr → Lit box e
    lit zero e listed few = absurd (omega (arith, few, (listed_claim list e certificate listed).addr))
    lit (suc n) e listed few =
        let o = owns e listed in
        ⊎_elim
        (λ (all : AreAll Shape (rom_word rom) e.addr o.own.items). record { items = o.own.items; all = all; holds = o.holds })
        (λ (more : (other : Entry) × GoesOn rom list e o.own.items other).
        let rest = lit n more.0 more.1.listed (omega (arith, few, more.1.further)) in
        record {
          items = rest.items ++ o.own.items;
          all = all_too e more.0 o.own.items more.1 rest.items rest.all;
          holds = subst (HoldsAll box) (sym (lit_too e more.0 o.own.items more.1 rest.items))
              (all_append (InBox box) (absolute_points (of more.0) rest.items) (absolute_points (of e) o.own.items) rest.holds o.holds);
        })
        o.own.end

    holds_shape : (e : Entry) → Contains list e → HoldsShape rom list box e
    holds_shape e listed items all =
        let l = lit ADDRESS_END e listed (omega arith) in
        subst (λ x. HoldsAll box (absolute_points (of e) x)) (one_all Shape (rom_word rom) e.addr l.items items l.all all) l.holds

    -- a box that has what all shapes light has what each lights up to where another one goes on
    own_inside : (other : LitBox) → HoldsShapes rom list other → (e : Entry) (one : LitBox) → Contains list e
        → IsOwnExtent rom list e one → IsInside one other
    own_inside other h e one listed own = own.least.least other (⊎_elim
        (λ (all : AreAll Shape (rom_word rom) e.addr own.items). h e listed own.items all)
        (λ (more : (next : Entry) × GoesOn rom list e own.items next).
        let rest = lit ADDRESS_END more.0 more.1.listed (omega arith) in
        all_right (InBox other) (absolute_points (of more.0) rest.items) (absolute_points (of e) own.items)
        (subst (HoldsAll other) (lit_too e more.0 own.items more.1 rest.items)
        (h e listed (rest.items ++ own.items) (all_too e more.0 own.items more.1 rest.items rest.all))))
        own.end)

    pub is_extent : IsShapesExtent rom list box
    is_extent = record { holds = holds_shape; least = λ other h. boxed.least other (own_inside other h) }
