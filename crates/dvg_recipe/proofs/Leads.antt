-- What leads on from one hull after another.
use Rattle.std.specs.Prelude.{true}
use Rattle.dvg_recipe.proofs.Common.{◌≡◌, ◌<◌, ◌≤◌, ℕ, suc, zero, Bool, false, Option, Some, None, IfSome, ap, ◌∙◌, List, [], ◌∷◌, length, take, get_or, take-suc, take_all, cases_lt, refl, sym, subst, ⊎_elim, arith, Contains, Contains-append_cases}
use Rattle.dvg_check.proofs.Common.{Window, Entry, Known, Item, Instr, Draws, Labs, Halt, Jsrl, Rtsl, Jmpl, Format, Key, Any, Frame, target}
use Rattle.dvg_cert.specs.declared.limits.TheConstants.{MOST_WORDS}
use Rattle.dvg_items.specs.Known.{callee_at}
use Rattle.dvg_recipe.specs.Private.Hulls.{Hull, Change, PlaceAct, CallAct, IsAct, places_of, Covers, AreUnder, IsInHull, IsChange, HasFormat, HullKeeps, GoesOn, IsKeyed, IsInto, LeadOn, hull_past, IsSoundHull, AreNearPlaces}
use Rattle.dvg_recipe.specs.Recipes.{PlaceRange, Place, TakesPlace, TakesCall}
use Rattle.dvg_recipe.specs.Private.Judging.{IsTaken}
use Rattle.dvg_recipe.proofs.Doing.{place_is, call_is, call_into}
use Rattle.std.proofs.Math.ListN.{get_or-eq_default}
use Rattle.dvg_recipe.proofs.Common.{nat_tests}
use Rattle.std.specs.Option.{option_or}
use Rattle.dvg_cert.specs.Lookup.{named_entry, entry_at}
use Rattle.dvg_items.specs.Seen.{HasCallee}
use Rattle.dvg_make.specs.Made.{HasEntry}
use Rattle.dvg_check.proofs.Common.{listed_at}
use Rattle.dvg_recipe.proofs.Past.{keeps_others, inside_past, more_near_places}
use Rattle.dvg_recipe.proofs.Sounds.{listed_alone, next_listed}

pub near_most : (h : Hull) → IsSoundHull h → AreNearPlaces MOST_WORDS h.places
near_most h sound = more_near_places h.words MOST_WORDS h.places sound.words sound.places

-- ---- the very scale

-- an entry that is named, and has the very scale as key, is there
named_there : (list : List Entry) (to : ℕ) (scale : Key) (named : Option Entry) → named_entry list to scale ≡ named
    → HasCallee (Some to) named → IfSome named (λ e. e.key ≡ scale) → HasEntry list to scale
named_there list to scale None is has key = absurd has
named_there list to scale (Some e) is has key = there (entry_at list to scale) (entry_at list to Any) refl refl
  where
    there : (a b : Option Entry) → entry_at list to scale ≡ a → entry_at list to Any ≡ b → HasEntry list to scale
    there (Some f) b here any = (f, here)
    there None (Some f) here any =
        let same : f ≡ e = named_any f e (sym (ap (λ (o : Option Entry). option_or o (entry_at list to Any)) here ∙ any) ∙ is) in
        let at_any = listed_at list to Any f any in
        (f, subst (λ (s : Key). entry_at list to s ≡ Some f) (sym at_any.key_is ∙ ap (λ (x : Entry). x.key) same ∙ key) any)
      where
        named_any : (x y : Entry) → Some x ≡ Some y → x ≡ y
        named_any x y eq = grind (arith, eq)
    there None None here any =
        absurd (not_both (named_entry list to scale) (ap (λ (o : Option Entry). option_or o (entry_at list to Any)) here ∙ any) is)
      where
        not_both : (o : Option Entry) → o ≡ None → o ≡ Some e → ⊥
        not_both o none some = grind (arith, none, some)

keyed_there : (list : List Entry) (to : Option ℕ) (scale : Key) → HasCallee to (callee_at list to scale)
    → IfSome (callee_at list to scale) (λ e. e.key ≡ scale) → IsKeyed list to scale
keyed_there list None scale has key = tt
keyed_there list (Some to) scale has key = named_there list to scale (named_entry list to scale) refl has key

-- a change that is another does what that one does
pub does_so : (list : List Entry) (change other : Change) (scale : Key) (k : Known) (i : Item) → change ≡ other
    → IsChange (callee_at list (target Frame i.instr) scale) scale other i → IsInto other.into k i
    → IsChange (callee_at list (target Frame i.instr) scale) scale change i × IsInto change.into k i
does_so list change other scale k i is does into =
    subst (λ (x : Change). IsChange (callee_at list (target Frame i.instr) scale) scale x i × IsInto x.into k i) (sym is) (does, into)

-- ---- hulls, one after another

module _ (w : Window) (list : List Entry) (budget : ℕ) (P : Known → Item → Type 0) where
  goes_under : (next more : List Hull) (k : Known) (i : Item) → AreUnder next more → GoesOn w list budget next k i
      → GoesOn w list budget more k i
  goes_under next more k i under g = record { keeps = g.keeps; keyed = g.keyed; covered = under.each _ g.covered }

  goes : (hull : Hull) (change : Change) (next : List Hull) (k : Known) (i : Item)
      → IsChange (callee_at list (target Frame i.instr) hull.scale) hull.scale change i → IsInto change.into k i
      → HullKeeps w budget hull change → AreUnder (hull_past change hull ∷ []) next → IsInHull hull k → GoesOn w list budget next k i
  goes hull change next k i does into keeps added inside =
      let is : IsChange (callee_at list (target Frame i.instr) k.scale) k.scale change i =
      subst (λ (s : Key). IsChange (callee_at list (target Frame i.instr) s) s change i) (sym inside.scale) does in
      record {
        keeps = keeps_others w budget hull change _ k i inside is into keeps;
        keyed = keyed_there list (target Frame i.instr) k.scale (is.named_one keeps.named) (is.keyed keeps.named);
        covered = added.each _ (record {
          hull = hull_past change hull;
          listed = (zero, omega arith, refl);
          inside =
              inside_past w budget hull change _ k i inside is into;
        });
      }

  pub lead_next : (here : List Hull) (i n : ℕ) (d : Hull) (change : Change) (next more : List Hull) → n ≡ suc i → i < length here
      → d ≡ get_or here i d → LeadOn w list budget P (take i here) next → AreUnder next more
      → ((k : Known) (j : Item) → P k j → HasFormat j.format j.instr
      → IsChange (callee_at list (target Frame j.instr) d.scale) d.scale change j × IsInto change.into k j)
      → HullKeeps w budget d change → AreUnder (hull_past change d ∷ []) more → LeadOn w list budget P (take n here) more
  lead_next here i n d change next more is lt at h under does keeps added = record {
    each = λ k j c p format. ⊎_elim
        (λ old. goes_under next more k j under (h.each k j (record { hull = c.hull; listed = old; inside = c.inside }) p format))
        (λ last. let does_so = does k j p format in
        goes d change more k j does_so.0 does_so.1 keeps added
        (subst (λ (x : Hull). IsInHull x k) (sym (listed_alone d c.hull last)) c.inside))
        (Contains-append_cases (take i here) (d ∷ []) c.hull (next_listed here i n d c.hull is lt at c.listed));
  }

  pub lead_more : (here next more : List Hull) → AreUnder next more → LeadOn w list budget P here next → LeadOn w list budget P here more
  lead_more here next more under h = record { each = λ k i c p format. goes_under next more k i under (h.each k i c p format) }

  pub lead_whole : (here next : List Hull) (i : ℕ) → length here ≤ i → LeadOn w list budget P (take i here) next
      → LeadOn w list budget P here next
  lead_whole here next i le h = subst (λ (l : List Hull). LeadOn w list budget P l next) (take_all i here le) h

-- ---- items of fewer kinds, and of more

module _ (w : Window) (list : List Entry) (budget : ℕ) (here next : List Hull) where
  -- what leads on from a LABS at each scale of a range leads on from all of the range
  pub lead_places : (r : PlaceRange)
      → ((s : ℕ) → get_or r.scales s false ≡ true → LeadOn w list budget (IsAct list (PlaceAct (places_of r) s)) here next)
      → LeadOn w list budget (IsTaken (Place r)) here next
  lead_places r led = record { each = λ k i c taken format. each k c i.at i.format i.instr taken.0 format }
    where
      each : (k : Known) → Covers here k → (at : ℕ) (format : Format) (instr : Instr) → TakesPlace r instr → HasFormat format instr
          → GoesOn w list budget next k (record { at = at; format = format; instr = instr })
      each k c at format (Labs x y s) taken is =
          (led s taken.2).each k _ c (record { each = λ scale long. place_is r x y s scale at format taken long; into = λ scale. tt }) is
      each k c at format (Draws d) taken is = absurd taken
      each k c at format Halt taken is = absurd taken
      each k c at format (Jsrl to) taken is = absurd taken
      each k c at format Rtsl taken is = absurd taken
      each k c at format (Jmpl to) taken is = absurd taken

  -- and so from a call of each of some word addresses
  pub lead_calls : (targets : List ℕ) → ((to : ℕ) → Contains targets to → LeadOn w list budget (IsAct list (CallAct to)) here next)
      → LeadOn w list budget (λ k i. TakesCall targets i.instr) here next
  lead_calls targets led = record { each = λ k i c taken format. each k c i.at i.format i.instr taken format }
    where
      each : (k : Known) → Covers here k → (at : ℕ) (format : Format) (instr : Instr) → TakesCall targets instr → HasFormat format instr
          → GoesOn w list budget next k (record { at = at; format = format; instr = instr })
      each k c at format (Jsrl to) taken is =
          (led to taken).each k _ c (record {
            each = λ scale short. call_is (callee_at list (Some to) scale) to scale at format short;
            into = λ scale. call_into (callee_at list (Some to) scale) scale k _;
          }) is
      each k c at format (Draws d) taken is = absurd taken
      each k c at format Halt taken is = absurd taken
      each k c at format (Labs x y s) taken is = absurd taken
      each k c at format Rtsl taken is = absurd taken
      each k c at format (Jmpl to) taken is = absurd taken

-- ---- numbers, one after another

only_number : (m n : ℕ) → Contains (m ∷ []) n → m ≡ n
only_number m n (zero, lt, is) = is
only_number m n (suc k, lt, is) = absurd (omega (arith, lt))

-- what holds of the first of some numbers, and of one more
pub each_next : (F : ℕ → Type 0) (xs : List ℕ) (i n d : ℕ) → n ≡ suc i → i < length xs → ((x : ℕ) → Contains (take i xs) x → F x)
    → F (get_or xs i d) → (x : ℕ) → Contains (take n xs) x → F x
each_next F xs i n d is lt h new x there = ⊎_elim (h x) (λ last. subst F (only_number (get_or xs i d) x last) new)
    (Contains-append_cases (take i xs) (get_or xs i d ∷ []) x
    (subst (λ (l : List ℕ). Contains l x) (take-suc xs i d lt) (subst (λ m. Contains (take m xs) x) is there)))

-- what holds of those below a number in a set, and of that number if it is in the set
pub scales_next : (F : ℕ → Type 0) (scales : List Bool) (n m : ℕ) → m ≡ suc n → (get_or scales n false ≡ true → F n)
    → ((s : ℕ) → s < n → get_or scales s false ≡ true → F s) → (s : ℕ) → s < m → get_or scales s false ≡ true → F s
scales_next F scales n m is new h s lt there =
    ⊎_elim (λ less. h s less there)
    (λ last. let same : n ≡ s = omega (arith, is, lt, last) in
    subst F same (new (subst (λ k. get_or scales k false ≡ true) (sym same) there))) (cases_lt s n)

-- a number that is in a set is below its length
pub in_scales : (scales : List Bool) (s n : ℕ) → length scales ≤ n → get_or scales s false ≡ true → s < n
in_scales scales s n few there =
    ⊎_elim (λ less. less) (λ past. absurd
    (clash (get_or scales s false) there (get_or-eq_default scales false (omega (arith, few, past))))) (cases_lt s n)
  where
    clash : (b : Bool) → b ≡ true → b ≡ false → ⊥
    clash b holds not_so = grind (arith, nat_tests, holds, not_so)
