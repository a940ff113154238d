-- What is computed of what the rules see of all items; where no items lead.
use Rattle.dvg_survey.proofs.Common.{Source, ◌≡◌, ℕ, List, [], ◌∷◌, ◌++◌, Option, Some, arith, AllByRecursion, Item, Key, Seen, next_address, sym, seen_at, Context, scale_before, AreAll, call_of, calls_among, IfNone, FrameSurvey, IsSurveyAmong, place_loss, place_lost_by, scale_loss, scale_lost_by, NoneLead, Comes, comes_on}
use Rattle.dvg_survey.specs.Losses.{Losses}
use Rattle.dvg_survey.specs.Private.Surveying.{IsSurveyPast}
use Rattle.dvg_survey.proofs.AllItems.{up_to}

-- it holds of all items
abbrev pub HoldsOfAll : Context → Source → ℕ → (List Item → Type 0) → Type 0
HoldsOfAll c word first P = (items : List Item) × AreAll c.kind word first items × P items

-- what these items come to, and the known scale after them
abbrev pub Surveys : Context → FrameSurvey → Key → List Item → Type 0
Surveys c survey scale items = IsSurveyAmong c items survey × (scale ≡ scale_before c items)

-- by which of these items the place and the scale were lost, and the known scale after them; none of them leads to this word address
abbrev pub Loses : Context → ℕ → Losses → Key → List Item → Type 0
Loses c at losses scale items =
    (losses.place ≡ place_lost_by c items) × (losses.scale ≡ scale_lost_by c items) × (scale ≡ scale_before c items)
    × AllByRecursion (λ i. next_address c.kind i ≡ Some at → ⊥) items

module _ (c : Context) (given : List Seen) (v : Seen) where
  pub survey_on : (old new : FrameSurvey) (scale : Key) → Comes c (Surveys c old scale) given → IsSurveyPast old v scale new
      → Comes c (Surveys c new v.after.scale) (given ++ v ∷ [])
  survey_on old new scale h past = comes_on c _ _ given v h (λ items i is p. grind (arith, is, call_of, calls_among))

  module _ (at : ℕ) (old new : Losses) (scale : Key)
      (place : new.place ≡ place_loss v.item v.place v.after.place old.place)
      (scale_is : new.scale ≡ scale_loss v.item scale v.after.scale old.scale) where
    pub lost_by : (items : List Item) (i : Item) → v ≡ seen_at c items i → Loses c at old scale items
        → (new.place ≡ place_lost_by c (i ∷ items)) × (new.scale ≡ scale_lost_by c (i ∷ items))
    lost_by items i is p = grind (arith, is)

    pub losses_on : Comes c (Loses c at old scale) given → (next_address c.kind v.item ≡ Some at → ⊥)
        → Comes c (Loses c at new v.after.scale) (given ++ v ∷ [])
    losses_on h other = comes_on c _ _ given v h (λ items i is p. grind (arith, is))

-- where none of all items leads to a word address
pub none_lead : (c : Context) (word : Source) (first at : ℕ) (losses : Losses) (scale : Key) → (first ≡ at → ⊥)
    → HoldsOfAll c word first (Loses c at losses scale) → NoneLead c.kind word first at
none_lead c word first at losses scale other (all, are, h) [] leads = other (sym leads)
none_lead c word first at losses scale other (all, are, h) (i ∷ earlier) leads =
    (up_to c.kind word first (AllByRecursion (λ j. next_address c.kind j ≡ Some at → ⊥)) (λ j rest p. p.1) all are h.3 (i ∷ earlier)
    (leads.0, leads.1)).0 leads.2

-- what is said of none
pub where_none : {A : Type 0} {P : Type 0} (o : Option A) → ((x : A) → o ≡ Some x → ⊥) → IfNone o P → P
where_none o h p = grind (arith)
