-- A ROM, roots and frames have one made list at most.
use Rattle.dvg_make.proofs.Common.{◌≡◌, ℕ, zero, suc, ◌+◌, ◌<◌, ◌≤◌, List, [], ◌∷◌, Some, refl, sym, ap, ◌∙◌, subst, arith, ⊎_elim, Contains, Rom, IsRising, entry_at, Entry, Key, MOST_WORDS, shape_context, target, scale_before, Shape, HasEntry, Needs, MadeFor, listed_at, not_before, before_next, before_later, rising_tail, first_or_later, later, AllMade, ◌++◌, inl, inr, IsAskedFor, FramesMade, OneFramesMade}
use Rattle.dvg_make.proofs.Matching.{Gathered, gathered_same, exact_named, found_listed}
use Rattle.dvg_make.proofs.Ends.{callee_less}
use Rattle.dvg_make.proofs.Agreeing.{agree, matched_made}
use Rattle.dvg_make.proofs.Onward.{listed_entry}
use Rattle.dvg_make.proofs.Merging.{extends_more, extends_second, calls_grow, calls_shrink}

-- ---- rising lists with the same entries are one

in_rest : (x y : Entry) (a b : List Entry) → x ≡ y → IsRising (x ∷ a) → ((e : Entry) → Contains (x ∷ a) e → Contains (y ∷ b) e)
    → (e : Entry) → Contains a e → Contains b e
in_rest x y a b same rises h e c =
    grind (arith, not_before, (before_later x a e rises c), (first_or_later y b e (h e (later x a e c))), (later x a e c))

same_first : (x y : Entry) (a b : List Entry) → IsRising (x ∷ a) → IsRising (y ∷ b) → Contains (y ∷ b) x → Contains (x ∷ a) y → x ≡ y
same_first x y a b rises rises' h k =
    ⊎_elim (λ same. same) (λ d. ⊎_elim (λ same. sym same)
    (λ d'. absurd (grind (arith, not_before, before_next, (before_later x a y rises d'), (before_later y b x rises' d))))
    (first_or_later x a y k)) (first_or_later y b x h)

same_rising : (a b : List Entry) → IsRising a → IsRising b → ((e : Entry) → Contains a e → Contains b e)
    → ((e : Entry) → Contains b e → Contains a e) → a ≡ b
same_rising [] [] rises rises' h k = refl
same_rising [] (y ∷ b) rises rises' h k = let c = k y (zero, omega arith, refl) in absurd (omega (arith, c.1))
same_rising (x ∷ a) [] rises rises' h k = let c = h x (zero, omega arith, refl) in absurd (omega (arith, c.1))
same_rising (x ∷ a) (y ∷ b) rises rises' h k =
    let first : x ≡ y = same_first x y a b rises rises' (h x (zero, omega arith, refl)) (k y (zero, omega arith, refl)) in
    let rest : a ≡ b =
    same_rising a b (rising_tail x a rises) (rising_tail y b rises') (in_rest x y a b first rises h)
    (in_rest y x b a (sym first) rises' k) in
    λ i. first i ∷ rest i

-- ---- each entry of the one list is in the other

-- what an entry needs is called at its address and key, and has fewer words
pub needs_at : (rom : Rom) (P : ℕ → Key → Type 0) (list : List Entry) → MadeFor rom P list → (e f : Entry) → Contains list e
    → (n : Needs rom list e f) → (target Shape n.item.instr ≡ Some f.addr)
    × (scale_before (shape_context rom.machine list e) n.earlier ≡ f.key) × (f.words < e.words)
needs_at rom P list m e f c n =
    let made = m.each e c in
    let scale : Key = scale_before (shape_context rom.machine list e) n.earlier in
    let t : (to : ℕ) × (target Shape n.item.instr ≡ Some to) × (entry_at list to scale ≡ Some f) =
    grind (arith, exact_named, (made.keyed n.earlier n.item n.leads n.stands), n.callee_is) in
    let l = listed_at list t.0 scale f t.2 in
    (t.1 ∙ ap Some (sym l.addr_is), sym l.key_is, callee_less rom list e made n.earlier n.item n.leads n.stands t.0 f t.1 t.2)

pub made_all : (rom : Rom) (P : ℕ → Key → Type 0) (list : List Entry) → MadeFor rom P list → AllMade rom list
made_all rom P list m e c =
    let is = listed_entry rom.map.rom_first rom.map.rom_last list e m.certificate.each c in
    record { made = m.each e c; words = is.words_high; depth = is.depth }

-- what holds of all that is asked for, and of what is needed by an entry of which it holds, holds of each entry
pub by_need : (rom : Rom) (P : ℕ → Key → Type 0) (list : List Entry) → MadeFor rom P list → (Q : Entry → Type 0)
    → ((f : Entry) → Contains list f → P f.addr f.key → Q f)
    → ((e f : Entry) → Contains list e → Contains list f → Needs rom list e f → Q e → Q f) → (f : Entry) → Contains list f → Q f
by_need rom P list m Q asked needs f in_list = up_to (MOST_WORDS + 1) f in_list (omega arith)
  where
    up_to : (n : ℕ) (f : Entry) → Contains list f → MOST_WORDS + 1 ≤ f.words + n → Q f
    up_to zero f c le = absurd (omega (arith, le, (made_all rom P list m f c).words))
    up_to (suc n) f c le =
        ⊎_elim (λ a. asked f c a) (λ e. let less = (needs_at rom P list m e.0 f e.1 e.2).2 in
        needs e.0 f e.1 c e.2 (up_to n e.0 e.1 (omega (arith, less, le)))) (m.needed f c)

module _ (rom : Rom) (P Q : ℕ → Key → Type 0) (a b : List Entry) (made_a : MadeFor rom P a) (made_b : MadeFor rom Q b)
    (asked : (addr : ℕ) (key : Key) → P addr key → HasEntry b addr key) where
  -- what an entry of both needs in the one list, the other has
  needed_there : (e f : Entry) → Contains a e → Contains b e → Needs rom a e f → HasEntry b f.addr f.key
  needed_there e f in_a in_b n =
      let e_b = made_b.each e in_b in
      let at = needs_at rom P a made_a e f in_a n in
      let same : f.key ≡ scale_before (shape_context rom.machine b e) n.earlier =
      sym at.1 ∙ ap (λ (x : Gathered). x.known.scale)
      (gathered_same rom.machine a b e.key n.earlier
      (matched_made rom a b made_a.each made_b.each e (made_a.each e in_a) e_b n.earlier n.item.at n.leads)) in
      subst (λ (k : Key). HasEntry b f.addr k) (sym same) (e_b.keyed n.earlier n.item n.leads n.stands f.addr at.0)

  in_both : (f : Entry) → Contains a f → HasEntry b f.addr f.key → Contains b f
  in_both f in_a has =
      grind (
        arith,
        (agree rom a b made_a.each made_b.each f.addr f.key f has.0 (found_listed a f made_a.certificate.rising in_a) has.1),
        (found_listed a f made_a.certificate.rising in_a),
        (listed_at b f.addr f.key has.0 has.1),
      )

  all_there : (f : Entry) → Contains a f → Contains b f
  all_there = by_need rom P a made_a (λ f. Contains b f) (λ f in_a root. in_both f in_a (asked f.addr f.key root))
      (λ e f in_a c n in_b. in_both f c (needed_there e f in_a in_b n))

-- lists that are made for the same are one
pub one_made_for : (rom : Rom) (P Q : ℕ → Key → Type 0) (a b : List Entry) → MadeFor rom P a → MadeFor rom Q b
    → ((addr : ℕ) (key : Key) → P addr key → HasEntry b addr key) → ((addr : ℕ) (key : Key) → Q addr key → HasEntry a addr key) → a ≡ b
one_made_for rom P Q a b made_a made_b to_b to_a =
    grind (
      arith,
      (same_rising a b made_a.certificate.rising made_b.certificate.rising (all_there rom P Q a b made_a made_b to_b)
          (all_there rom Q P b a made_b made_a to_a)),
    )

-- ---- with frames

module _ (rom : Rom) (roots : List (ℕ × Key)) (frames : List (List ℕ)) (a b : List Entry) (made_a : FramesMade rom roots frames a)
    (made_b : FramesMade rom roots frames b) where
  -- what is asked for by the one list is asked for by the other
  asked : (addr : ℕ) (key : Key) → IsAskedFor rom.machine roots frames a addr key → HasEntry b addr key
  asked addr key (inl r) = made_b.rooted addr key (inl r)
  asked addr key (inr c) =
      let all_a = made_all rom (IsAskedFor rom.machine roots frames a) a made_a in
      let all_b = made_all rom (IsAskedFor rom.machine roots frames b) b made_b in
      let both = calls_grow rom.machine c.0 a (a ++ b) (extends_more a b)
      (λ to scale calls. made_a.rooted to scale (inr (c.0, c.1, calls))) addr key c.2 in
      made_b.rooted addr key (inr (
        c.0,
        c.1,
        calls_shrink rom.machine c.0 b (a ++ b) (extends_second rom a b all_a all_b)
            (λ to scale calls. made_b.rooted to scale (inr (c.0, c.1, calls))) addr key both,
      ))

pub one_frames_made : OneFramesMade
one_frames_made rom roots frames a b made_a made_b =
    grind (
      arith,
      (one_made_for rom (IsAskedFor rom.machine roots frames a) (IsAskedFor rom.machine roots frames b) a b made_a made_b
          (asked rom roots frames a b made_a made_b) (asked rom roots frames b a made_b made_a)),
    )
