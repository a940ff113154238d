-- The items of a shape or of a frame are determined: so a walk to the last one has met them all, and there is one first
-- fault at most.
use Rattle.dvg_check.proofs.Common.{◌⊎◌, inl, inr, Source, List, length, refl, sym, arith, ap, None, subst, ◌≡◌, ◌<◌, ◌∷◌, ◌++◌, ◌∙◌, ℕ, ⊎_elim, [], cases_lt, AllByRecursion, Contains, if◌then◌else◌, cell_at, frame_word, rom_word, Holds, Halt, Entry, frame_number, LeadsTo, next_address, AllKeep, FramePlaceKeeps, ShapePlaceKeeps, GoodShape, FrameWhy, ShapeWhy, Item, Kind, Frame, Shape, ◌==◌, Same, same_lead, too_long, shorter, everywhere, AllBefore, FaultAt, shape_number, ShapeFaultAt, OneFault, NoFault, OneCount, NoShapeFault, OneShapeFault}
use Rattle.std.proofs.lemmas.List.Elements.{Contains-append_right}
use Rattle.dvg_check.specs.declared.fault.FrameWhy.TheVariants as frame
use Rattle.dvg_check.specs.declared.fault.ShapeWhy.TheVariants as shape

-- two numbers of which neither is less are one
pub neither_less : (a b : ℕ) → (a < b → ⊥) → (b < a → ⊥) → a ≡ b
neither_less a b first second =
    ⊎_elim (λ less. absurd (first less)) (λ le. ⊎_elim (λ more. absurd (second more)) (λ ge. omega (arith, le, ge)) (cases_lt b a))
    (cases_lt a b)

module _ (kind : Kind) (word : Source) (first : ℕ) (Why : Type 0) (keeps : List Item → ℕ → Why → Type 0) where
  -- what each rule says of a place
  abbrev AllKept : List Item → ℕ → Type 0
  AllKept earlier p = (why : Why) → keeps earlier p why

  -- what a walk to the last item keeps, every place keeps
  pub all_kept : (items : List Item) (i : Item) → LeadsTo kind word first items i.at → cell_at word i.at ≡ Holds i.format i.instr
      → next_address kind i ≡ None → AllBefore keeps (i ∷ items) → AllKeep kind word first keeps
  all_kept items i lead is last kept = everywhere kind word first AllKept items i lead is last kept

  module _ (order : Why → ℕ) where
    -- the fault after fewer items comes first
    not_before : (p q : ℕ) (u v : Why) → (f : FaultAt order kind word first keeps p u) → (g : FaultAt order kind word first keeps q v)
        → length f.items < length g.items → ⊥
    not_before p q u v f g less = f.breaks (shorter kind word first AllKept g.items q g.leads g.before f.items p f.leads less u)

    pub same_items : (p q : ℕ) (u v : Why) → (f : FaultAt order kind word first keeps p u)
        → (g : FaultAt order kind word first keeps q v) → Same f.items g.items p q
    same_items p q u v f g =
        same_lead kind word first f.items g.items p q f.leads g.leads
        (neither_less (length f.items) (length g.items) (not_before p q u v f g) (not_before q p v u g f))

    not_lower : (p q : ℕ) (u v : Why) → (f : FaultAt order kind word first keeps p u) → (g : FaultAt order kind word first keeps q v)
        → order u < order v → ⊥
    not_lower p q u v f g less =
        let s = same_items p q u v f g in
        f.breaks (subst (λ x. keeps x p u) (sym s.items) (subst (λ x. keeps g.items x u) (sym s.place) (g.lowest u less)))

    -- so there is one fault, where the order of a rule tells it
    one_place : (rule : ℕ → Why) → ((why : Why) → rule (order why) ≡ why) → (p q : ℕ) (u v : Why)
        → FaultAt order kind word first keeps p u → FaultAt order kind word first keeps q v → (p ≡ q) × (u ≡ v)
    one_place rule back p q u v f g = (
      (same_items p q u v f g).place,
      sym (back u) ∙ ap rule (neither_less (order u) (order v) (not_lower p q u v f g) (not_lower q p v u g f)) ∙ back v,
    )

-- ---- frames

-- the rule of an order
abbrev pub rule_of : ℕ → FrameWhy
rule_of n =
    if n == 40 then frame.Unmapped else if n == 41 then frame.Odd else if n == 42 then frame.ReturnInFrame else if n == 43 then
    frame.BackJump else if n == 44 then frame.BeamUnknown else if n == 45 then frame.ScaleUnknown else if n == 46 then
    frame.OffScreen else if n == 47 then frame.NoEntry else frame.Budget

pub rule_of-number : (why : FrameWhy) → rule_of (frame_number why) ≡ why
rule_of-number =
    elim [
      | frame.Unmapped ↦ refl
      | frame.Odd ↦ refl
      | frame.ReturnInFrame ↦ refl
      | frame.BackJump ↦ refl
      | frame.BeamUnknown ↦ refl
      | frame.ScaleUnknown ↦ refl
      | frame.OffScreen ↦ refl
      | frame.NoEntry ↦ refl
      | frame.Budget ↦ refl
    ]

pub one_fault : OneFault
one_fault w machine words list budget f g a b =
    let s = one_place Frame (frame_word machine words) 0 FrameWhy (FramePlaceKeeps w machine words list budget) frame_number rule_of
    rule_of-number f.word g.word f.why g.why a b in
    λ x. record { word = s.0 x; why = s.1 x }

pub no_fault : NoFault
no_fault w machine words list budget count depth f good fault = fault.breaks (good.keeps fault.items f.word fault.leads f.why)

pub one_count : OneCount
one_count w machine words list budget count depth count' depth' a b =
    let i : Item = record { at = a.at; format = a.format; instr = Halt } in
    let j : Item = record { at = b.at; format = b.format; instr = Halt } in
    -- the last items of two walks are one
    let s = same_lead Frame (frame_word machine words) 0 a.items b.items a.at b.at a.leads b.leads
    (neither_less (length a.items) (length b.items)
    (too_long Frame (frame_word machine words) 0 a.items i a.leads a.halts refl b.items b.at b.leads)
    (too_long Frame (frame_word machine words) 0 b.items j b.leads b.halts refl a.items a.at a.leads)) in
    grind (arith, s)

-- ---- shapes

-- the rule of a number
abbrev pub shape_rule_of : ℕ → ShapeWhy
shape_rule_of n =
    if n == 20 then shape.Unmapped else if n == 21 then shape.Odd else if n == 22 then shape.HaltInShape else if n == 23 then
    shape.BeamUnknown else if n == 24 then shape.ScaleUnknown else if n == 25 then shape.OffScreen else if n == 26 then shape.NoEntry
    else if n == 27 then shape.TooDeep else if n == 28 then shape.TooManyWords else if n == 29 then shape.EndDiffers else if n == 30 then
    shape.ScaleDiffers else if n == 31 then shape.BoxTooSmall else if n == 32 then shape.WordsDiffer else shape.DepthDiffers

pub shape_rule_of-number : (why : ShapeWhy) → shape_rule_of (shape_number why) ≡ why
shape_rule_of-number =
    elim [
      | shape.Unmapped ↦ refl
      | shape.Odd ↦ refl
      | shape.HaltInShape ↦ refl
      | shape.BeamUnknown ↦ refl
      | shape.ScaleUnknown ↦ refl
      | shape.OffScreen ↦ refl
      | shape.NoEntry ↦ refl
      | shape.TooDeep ↦ refl
      | shape.TooManyWords ↦ refl
      | shape.EndDiffers ↦ refl
      | shape.ScaleDiffers ↦ refl
      | shape.BoxTooSmall ↦ refl
      | shape.WordsDiffer ↦ refl
      | shape.DepthDiffers ↦ refl
    ]

pub no_shape_fault : NoShapeFault
no_shape_fault mode w rom list f good s =
    let listed : Contains list s.entry =
    subst (λ (l : List Entry). Contains l s.entry) (sym s.order_is)
    (Contains-append_right s.before (s.entry ∷ s.after) s.entry (0, omega arith, refl)) in
    s.fault.breaks (good s.entry listed s.fault.items f.word s.fault.leads f.why)

-- of two ways to cut a list at an entry, one cuts earlier, or both are the same
cuts : (P : Entry → Type 0) (a b c d : List Entry) (e f : Entry) → a ++ e ∷ b ≡ c ++ f ∷ d → AllByRecursion P a → AllByRecursion P c
    → (P e ⊎ P f) ⊎ (e ≡ f)
cuts P [] b [] d e f is p q = inr (cc)
cuts P [] b (x ∷ c) d e f is p q = let same : x ≡ e = cc in inl (inl (subst P same q.0))
cuts P (x ∷ a) b [] d e f is p q = let same : x ≡ f = cc in inl (inr (subst P same p.0))
cuts P (x ∷ a) b (y ∷ c) d e f is p q = let rest : a ++ e ∷ b ≡ c ++ f ∷ d = cc in cuts P a b c d e f rest p.1 q.1

pub one_shape_fault : OneShapeFault
one_shape_fault mode w rom list f g s t =
    by_cuts (cuts (GoodShape mode w rom list) s.before s.after t.before t.after s.entry t.entry (sym s.order_is ∙ t.order_is) s.good t.good)
  where
    by_cuts : (GoodShape mode w rom list s.entry ⊎ GoodShape mode w rom list t.entry) ⊎ (s.entry ≡ t.entry) → f ≡ g
    by_cuts (inl (inl good)) = absurd (s.fault.breaks (good s.fault.items f.word s.fault.leads f.why))
    by_cuts (inl (inr good)) = absurd (t.fault.breaks (good t.fault.items g.word t.fault.leads g.why))
    by_cuts (inr same) =
        let there = subst (λ (e : Entry). ShapeFaultAt mode w rom list e g.word g.why) (sym same) t.fault in
        let one = one_place Shape (rom_word rom) s.entry.addr ShapeWhy (ShapePlaceKeeps mode w rom list s.entry) shape_number
        shape_rule_of shape_rule_of-number f.word g.word f.why g.why s.fault there in
        grind (arith, one)
