-- What the iterator over what the rules see has given: it is what they see of the items that lead to where it stands.
use Rattle.dvg_items.proofs.Common.{arith, length, List, [], ◌∷◌, ◌++◌, ◌≡◌, ◌∙◌, ℕ, Option, Some, None, ap, refl, subst, cell_at, Item, LeadsTo, Seen}
use Rattle.std.specs.Iterator.{Yields, Drains}
use Rattle.std.proofs.Common.{length-append, append_assoc}
use Rattle.std.proofs.lemmas.List.{append-nil, same_from_push}
use Rattle.dvg_words.specs.Values.{Source}
use Rattle.dvg_words.specs.declared.instruction.Cell.TheVariants.{Holds}
use Rattle.dvg_items.specs.Items.{AreAll}
use Rattle.dvg_items.specs.Known.{Context, known_before}
use Rattle.dvg_items.specs.Seen.{seen_at}
use Rattle.dvg_items.specs.Cursor.{Step, Onward, Last, first_cursor}
use Rattle.dvg_items.specs.Iterating.{Standing, GivesSeen}
use Rattle.dvg_items.proofs.Leading.{stand_before}

-- what the rules see of these items, in their order
abbrev pub sights : Context → List Item → List Seen
sights c [] = []
sights c (i ∷ earlier) = sights c earlier ++ seen_at c earlier i ∷ []

module _ (c : Context) where
  -- this holds of the items whose sights were given
  abbrev pub Comes : (List Item → Type 0) → List Seen → Type 0
  Comes P given = (items : List Item) → given ≡ sights c items → P items

  pub comes_first : (P : List Item → Type 0) → P [] → Comes P []
  comes_first P p [] is = p
  comes_first P p (i ∷ items) is = absurd (omega (arith, ap length is, length-append (sights c items) (seen_at c items i ∷ [])))

  pub comes_on : (P Q : List Item → Type 0) (given : List Seen) (v : Seen) → Comes P given
      → ((items : List Item) (i : Item) → v ≡ seen_at c items i → P items → Q (i ∷ items)) → Comes Q (given ++ v ∷ [])
  comes_on P Q given v h on [] is = absurd (omega (arith, ap length is, length-append given (v ∷ [])))
  comes_on P Q given v h on (i ∷ items) is =
      let same = same_from_push given (sights c items) v (seen_at c items i) is in on items i same.1 (h items same.0)

module _ (c : Context) (word : Source) (first : ℕ) where
  -- the item that stands behind these, as the rules see it
  pub record IsNext (items : List Item) (v : Seen) : Type 0 where
    pub leads : LeadsTo c.kind word first items v.item.at
    pub stands : cell_at word v.item.at ≡ Holds v.item.format v.item.instr
    pub seen : v ≡ seen_at c items v.item

  abbrev IsBehind : List Item → Step → Type 0
  IsBehind items (Onward here) = LeadsTo c.kind word first items here.at × (here.known ≡ known_before c items)
  IsBehind items (Last known) = AreAll c.kind word first items

  -- the iterator stands behind these items
  pub record Stands (items : List Item) (s : Standing) : Type 0 where
    pub machine : c.machine ≡ word.machine
    pub by : s ≡ record { list = c.list; kind = c.kind; word = word; here = s.here }
    pub behind : IsBehind items s.here

  starts : (s : Standing) → c.machine ≡ word.machine
      → s ≡ record { list = c.list; kind = c.kind; word = word; here = Onward (first_cursor c.kind first c.scale) } → Stands [] s
  starts s machine is = grind (arith)

  is_next : (items : List Item) (s t : Standing) (v : Seen) → Stands items s → GivesSeen s (Some v) t → IsNext items v
  is_next items s t v st g = grind (arith)

  one_on : (items : List Item) (s t : Standing) (v : Seen) → Stands items s → GivesSeen s (Some v) t → Stands (v.item ∷ items) t
  one_on items s t v st g = grind (arith, (is_next items s t v st g))

  ends : (items : List Item) (s t : Standing) → Stands items s → GivesSeen s None t → AreAll c.kind word first items
  ends items s t st g = grind (arith, cell_at, (stand_before c.kind word first))

  -- these are the items whose sights were given
  record Given (given : List Seen) (s : Standing) : Type 0 where
    items : List Item
    are : given ≡ sights c items
    stands : Stands items s

  module _ {S : Type 0} (view : S → Standing) where
    abbrev Steps : S → Option Seen → S → Type 0
    Steps s r t = GivesSeen (view s) r (view t)

    gives : (items : List Item) (before given : List Seen) (s t : S) → before ≡ sights c items → Stands items (view s)
        → Yields Steps s given t → Given (before ++ given) (view t)
    gives items before [] s t are st y =
        record { items = items; are = append-nil before ∙ are; stands = subst (λ u. Stands items (view u)) y st }
    gives items before (v ∷ given) s t are st (u, step, y) =
        let next = is_next items (view s) (view u) v st step in
        subst (λ all. Given all (view t)) (append_assoc before (v ∷ []) given)
        (gives (v.item ∷ items) (before ++ v ∷ []) given u t (λ k. are k ++ next.seen k ∷ []) (one_on items (view s) (view u) v st step) y)

    module _ (s : S) (machine : c.machine ≡ word.machine)
        (is : view s ≡ record { list = c.list; kind = c.kind; word = word; here = Onward (first_cursor c.kind first c.scale) })
        (given : List Seen) (P : List Item → Type 0) (h : Comes c P given) where
      given_by : (t : S) → Yields Steps s given t → Given given (view t)
      given_by t y = gives [] [] given s t refl (starts (view s) machine is) y

      -- what it gives next is what is seen of the item behind these
      pub next_is : (t u : S) (v : Seen) → Yields Steps s given t → Steps t (Some v) u → (items : List Item) × IsNext items v × P items
      next_is t u v y step =
          let g = given_by t y in
          (g.items, is_next g.items (view t) (view u) v g.stands step, h g.items g.are)

      -- where it gives no more, these are all items
      pub all_given : Drains Steps s given → (items : List Item) × AreAll c.kind word first items × P items
      all_given (u, (t, y, step)) =
          let g = given_by t y in (g.items, ends g.items (view t) (view u) g.stands step, h g.items g.are)
