-- A shape that reads no word in which two ROMs differ has the same items over both.
use Rattle.dvg_survey.proofs.Common.{◌≡◌, ◌≢◌, ℕ, ◌+◌, ◌∙◌, List, [], ◌∷◌, Option, Some, Contains, refl, sym, subst, arith, nat_tests, Format, Long, format_of, cell_of_words, cell_at, places, fetches, Rom, word_of_rom, rom_word, Item, Shape, LeadsTo, AreAlike, taken_at, IsTouched}
use Rattle.dvg_words.specs.declared.machine.Machine.{Machine}

-- words that don't differ are the same
pub same_word : (a b : Option ℕ) → (a ≢ b → ⊥) → a ≡ b
same_word a b h = grind (arith, nat_tests)

-- ---- the words that are taken

pub takes_first : (first : Option ℕ) (p : ℕ) → Contains (fetches first p) p
takes_first first p = grind (arith)

pub takes_second : (x p : ℕ) → format_of x ≡ Long → Contains (fetches (Some x) p) (p + 1)
takes_second x p e = subst (λ (l : Format). Contains (places l p) (p + 1)) (sym e) (0, omega arith, refl)

words_same : (machine : Machine) (first a b : Option ℕ) → ((x : ℕ) → first ≡ Some x → format_of x ≡ Long → a ≡ b)
    → cell_of_words machine first a ≡ cell_of_words machine first b
words_same machine first a b h = grind (arith)

-- ---- the items

-- the ROM with other words
abbrev pub with_words : Rom → List ℕ → Rom
with_words rom others = record { map = rom.map; machine = rom.machine; words = others }

pub alike_is : (rom other : Rom) → AreAlike rom other → with_words rom other.words ≡ other
alike_is rom other a = λ i. record { map = a.map i; machine = a.machine i; words = other.words }

module _ (rom : Rom) (others : List ℕ) (addr : ℕ) (untouched : IsTouched rom (with_words rom others) addr → ⊥) where
  abbrev other : Rom
  other = with_words rom others

  pub word_there : (earlier : List Item) (at : ℕ) → LeadsTo Shape (rom_word rom) addr earlier at → (p : ℕ) → Contains (taken_at rom at) p
      → word_of_rom rom p ≡ word_of_rom other p
  word_there earlier at lead p taken = grind (arith, same_word)

  pub cell_there : (earlier : List Item) (at : ℕ) → LeadsTo Shape (rom_word rom) addr earlier at
      → cell_at (rom_word rom) at ≡ cell_at (rom_word other) at
  unfolding cell_at
  cell_there earlier at lead = grind (arith, word_there, takes_first, takes_second, words_same)

  pub forth : (earlier : List Item) (p : ℕ) → LeadsTo Shape (rom_word rom) addr earlier p → LeadsTo Shape (rom_word other) addr earlier p
  forth [] p lead = lead
  forth (i ∷ earlier) p lead = (forth earlier i.at lead.0, sym (cell_there earlier i.at lead.0) ∙ lead.1, lead.2)

  pub back : (earlier : List Item) (p : ℕ) → LeadsTo Shape (rom_word other) addr earlier p → LeadsTo Shape (rom_word rom) addr earlier p
  back [] p lead = lead
  back (i ∷ earlier) p lead = let l = back earlier i.at lead.0 in (l, cell_there earlier i.at l ∙ lead.1, lead.2)

  -- neither does it read one over the other ROM
  pub untouched_back : IsTouched other rom addr → ⊥
  untouched_back t =
      let r = t.1.reads in
      let lead = back r.earlier r.at r.leads in
      let first : word_of_rom rom r.at ≡ word_of_rom other r.at =
      word_there r.earlier r.at lead r.at (takes_first (word_of_rom rom r.at) r.at) in
      let taken : Contains (taken_at rom r.at) t.0 = subst (λ (o : Option ℕ). Contains (fetches o r.at) t.0) (sym first) r.taken in
      t.1.differs (sym (word_there r.earlier r.at lead t.0 taken))
