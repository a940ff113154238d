-- By made entries just one thing is known behind the items of a frame.
use Rattle.dvg_recipe.proofs.Common.{◌≡◌, ◌<◌, ◌++◌, ◌∙◌, ℕ, zero, suc, List, [], ◌∷◌, Option, Some, None, length, take, get_or, reverse, reverse-append, take-suc, refl, sym, ap, subst, ⊎_elim, cases_lt, arith, nat_tests, Contains, Contains-append_cases}
use Rattle.dvg_check.proofs.Common.{Entry, Key, Item, Known, Frame, target}
use Rattle.dvg_words.specs.Memory.{Rom}
use Rattle.dvg_words.specs.declared.machine.Machine.TheVariants.{Board}
use Rattle.dvg_items.specs.Known.{known_past}
use Rattle.dvg_make.specs.Made.{Made, AllMade}
use Rattle.dvg_make.proofs.Agreeing.{agree}
use Rattle.dvg_check.proofs.Common.{listed_claim}
use Rattle.std.proofs.lemmas.List.{get_or_append_left, get_or_push, length_push}
use Rattle.dvg_check.proofs.Common.{IsSoundCursor, ADDRESS_END, next_address}
use Rattle.dvg_words.specs.Decoding.{InstrFits}
use Rattle.dvg_recipe.specs.Members.{NamesMade, Names, ComesTo}
use Rattle.dvg_recipe.specs.Private.KnownPlaces.{AreFramesItems, AreKnownTo}

made_once : (rom : Rom) (to : ℕ) (scale : Key) (a b : Option Entry) → NamesMade rom to scale a → NamesMade rom to scale b → a ≡ b
made_once rom to scale None None h k = refl
made_once rom to scale None (Some f) h (list, made, there) = absurd (h list made (f, there))
made_once rom to scale (Some e) None (list, made, there) k = absurd (k list made (e, there))
made_once rom to scale (Some e) (Some f) (list, made, there) (other, made_too, there_too) =
    ap (λ (x : Entry). Some x) (agree rom list other (λ x c. (made x c).made) (λ x c. (made_too x c).made) to scale e f there there_too)

named_once : (rom : Rom) (to : Option ℕ) (scale : Key) (a b : Option Entry) → Names rom to scale a → Names rom to scale b → a ≡ b
named_once rom None scale a b h k = h ∙ sym k
named_once rom (Some to) scale a b h k = made_once rom to scale a b h k

pub known_once : (rom : Rom) (items : List Item) (k l : Known) → ComesTo rom items k → ComesTo rom items l → k ≡ l
known_once rom [] k l h t = h ∙ sym t
known_once rom (i ∷ earlier) k l (a, named, came, names, past) (b, other, came_too, names_too, past_too) =
    let same : a ≡ b = known_once rom earlier a b came came_too in
    let one : named ≡ other =
    named_once rom (target Frame i.instr) b.scale named other
    (subst (λ (x : Known). Names rom (target Frame i.instr) x.scale named) same names) names_too in
    past ∙ ap (λ (x : Known). known_past Board i named x) same ∙ ap (λ (o : Option Entry). known_past Board i o b) one ∙ sym past_too

-- ---- the items of a frame

pub further : (i : Item) (p : ℕ) → next_address Frame i ≡ Some p → i.at < p
further i p next = grind (arith, nat_tests)

only_item : (x y : Item) → Contains (x ∷ []) y → x ≡ y
only_item x y (zero, lt, is) = is
only_item x y (suc k, lt, is) = absurd (omega (arith, lt))

-- one item more
pub frames_push : (items more : List Item) (item : Item) → more ≡ items ++ item ∷ [] → AreFramesItems items → length items < ADDRESS_END
    → InstrFits item.instr → AreFramesItems more
frames_push items more item is h few fits = record {
  few = omega (arith, ap (λ (l : List Item). length l) is, length_push items item, few);
  fits = λ i there. ⊎_elim (h.fits i) (λ last. subst (λ (x : Item). InstrFits x.instr) (only_item item i last) fits)
      (Contains-append_cases items (item ∷ []) i (subst (λ (l : List Item). Contains l i) is there));
}

-- ---- what is known behind one item after another

-- this is known before the first items, and behind the last of them
pub record IsKnownSoFar (rom : Rom) (items : List Item) (n : ℕ) (known : List Known) (here : Known) : Type 0 where
  pub count : length known ≡ suc n
  pub to : AreKnownTo rom items known
  pub comes : ComesTo rom (reverse (take n items)) here
  pub sound : IsSoundCursor (record { at = n; known = here })

module _ (rom : Rom) (items : List Item) (n m : ℕ) (d : Item) (known more : List Known) (here next : Known) (is : m ≡ suc n)
    (lt : n < length items) (h : IsKnownSoFar rom items n known here) (grown : more ≡ known ++ next ∷ [])
    (past : (earlier : List Item) → ComesTo rom earlier here → ComesTo rom (get_or items n d ∷ earlier) next) where
  one_on : ComesTo rom (reverse (take m items)) next
  one_on =
      subst (λ k. ComesTo rom (reverse (take k items)) next) (sym is)
      (subst (λ (l : List Item). ComesTo rom l next)
      (sym (ap (λ (l : List Item). reverse l) (take-suc items n d lt) ∙ reverse-append (take n items) (get_or items n d ∷ [])))
      (past (reverse (take n items)) h.comes))

  each_on : (i : ℕ) (e : Known) → i < length (known ++ next ∷ []) → ComesTo rom (reverse (take i items)) (get_or (known ++ next ∷ []) i e)
  each_on i e less = ⊎_elim
      (λ old. subst (λ (k : Known). ComesTo rom (reverse (take i items)) k) (sym (get_or_append_left known (next ∷ []) e i old))
      (h.to.each i e old))
      (λ new. let same : m ≡ i = omega (arith, is, new, less, length_push known next, h.count) in
      subst (λ (k : Known). ComesTo rom (reverse (take i items)) k) (sym (get_or_push known next e i (omega (arith, is, same, h.count))))
      (subst (λ k. ComesTo rom (reverse (take k items)) next) same one_on))
      (cases_lt i (length known))

  pub known_next : IsSoundCursor (record { at = m; known = next }) → IsKnownSoFar rom items m more next
  known_next sound = record {
    count = ap (λ (l : List Known). length l) grown ∙ length_push known next ∙ omega (arith, is, h.count);
    to = record {
      each = λ i e less. subst (λ (l : List Known). ComesTo rom (reverse (take i items)) (get_or l i e)) (sym grown)
          (each_on i e (subst (λ (l : List Known). i < length l) grown less));
    };
    comes = one_on;
    sound = sound;
  }

-- ---- the entries of a made certificate

-- each is made, and its counts are within the limits
pub all_made : (rom : Rom) (roots : List (ℕ × Key)) (list : List Entry) → Made rom roots list → AllMade rom list
all_made rom roots list made e there =
    let claim = listed_claim list e (rom.map, made.certificate) there in
    record { made = made.each e there; words = claim.words; depth = claim.depth }
