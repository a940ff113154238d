-- The verdict on the first bytes of inputs is the verdict on all of them.
use Rattle.dvg_cmd.proofs.Common.{inl, inr, ◌⊎◌, ◌∙◌, ap, Rom, Key, MakeFaultMeans, limited, append-nil, List, length, Option, None, Some, arith, subst, sym, ◌≡◌, ◌+◌, ◌≤◌, ◌++◌, ℕ, IfSome, Result}
use Rattle.dvg_cmd.proofs.Common.{Err, Machine, IsRomLength, IsFrameLength, rom_on, MemoryMap, IsMap, Window, Certificate, CertFault, CertWhy, InRange, RomVerdict, Mode, Refusal, Yes, IsPrefix, ReadsText, rules, common_steps, PrefixRefusal, IsRefusal, ReadAnswer, RangeRefusal, PartsVerdict, NeedsEnd}
use Rattle.dvg_cert.specs.declared.fault.CertWhy.TheVariants.{Unended}
use Rattle.dvg_spelling.specs.declared.fault.MakeRunFault.TheVariants as fault

-- all that a reader held, or what was read where it does not tell
abbrev pub held_bytes : Option (List ℕ) → List ℕ → List ℕ
held_bytes None prefix = prefix
held_bytes (Some held) prefix = held

pub held_told : (remaining : Option (List ℕ)) (prefix : List ℕ) → IfSome remaining (λ held. held_bytes remaining prefix ≡ held)
held_told remaining prefix = grind (arith)

-- what was read of an input is all of it where it or the input stays below the limit
pub read_short : (n : ℕ) (reader : Option (List ℕ)) (prefix : List ℕ) → IsPrefix n reader prefix → length prefix + 1 ≤ n
    ⊎ length (held_bytes reader prefix) + 1 ≤ n → prefix ≡ held_bytes reader prefix
unfolding limited
read_short n reader prefix read below = grind (arith, common_steps)

module _ (frame : Option (List ℕ)) (fb : List ℕ) (read : IsPrefix 2049 frame fb) where
  pub frame_same : IsFrameLength (length fb) → fb ≡ held_bytes frame fb
  frame_same h = read_short 2049 frame fb read (inl (omega (arith, h.few)))

  pub frame_back : IsFrameLength (length (held_bytes frame fb)) → IsFrameLength (length fb)
  frame_back h = subst (λ (x : List ℕ). IsFrameLength (length x)) (sym (read_short 2049 frame fb read (inr (omega (arith, h.few))))) h

  pub in_range : (budget : ℕ) → InRange fb budget → InRange (held_bytes frame fb) budget
  in_range budget h = subst (λ (x : List ℕ). InRange x budget) (frame_same h.frame_length) h

  pub range_whole : (budget : ℕ) (refused : Refusal) → RangeRefusal fb budget refused → RangeRefusal (held_bytes frame fb) budget refused
  range_whole budget refused h = grind (arith, frame_back, frame_same)

module _ (map : MemoryMap) (is : IsMap map) (rom : Option (List ℕ)) (rb : List ℕ) (read : IsPrefix 4097 rom rb) where
  pub rom_same : IsRomLength map (length rb) → rb ≡ held_bytes rom rb
  rom_same h = read_short 4097 rom rb read (inl (omega (arith, h, is.past_frames, is.inside)))

  pub rom_back : IsRomLength map (length (held_bytes rom rb)) → IsRomLength map (length rb)
  rom_back h =
      subst (λ (x : List ℕ). IsRomLength map (length x))
      (sym (read_short 4097 rom rb read (inr (omega (arith, h, is.past_frames, is.inside))))) h

  pub whole_length : IsRomLength map (length rb) → IsRomLength map (length (held_bytes rom rb))
  whole_length h = subst (λ (x : List ℕ). IsRomLength map (length x)) (rom_same h) h

  -- and then the image is that of all
  pub whole_image : (machine : Machine) (image : Rom) → IsRomLength map (length rb) × (image ≡ rom_on machine map rb)
      → image ≡ rom_on machine map (held_bytes rom rb)
  whole_image machine image h = h.1 ∙ ap (λ (x : List ℕ). rom_on machine map x) (rom_same h.0)

  pub wrong_length : (machine : Machine) (roots : List (ℕ × Key)) → (IsRomLength map (length rb) → ⊥)
      → MakeFaultMeans machine rom map roots fault.RomLength
  wrong_length machine roots wrong = grind (arith, (held_bytes rom rb), (held_told rom rb), rom_back)

-- what the first bytes of a ROM come to by a certificate, all come to
module _ (machine : Machine) (c : Certificate) (rb r : List ℕ) (same : IsRomLength c.map (length rb) → rb ≡ r)
    (back : IsRomLength c.map (length r) → IsRomLength c.map (length rb)) (mode : Mode) (w : Window) (words : List ℕ) (budget : ℕ) where
  parts_on : (v : Result Yes Refusal) → IsRomLength c.map (length rb)
      × PartsVerdict mode w (rom_on machine c.map rb) c.entries words budget v → IsRomLength c.map (length r)
      × PartsVerdict mode w (rom_on machine c.map r) c.entries words budget v
  parts_on v h =
      subst (λ (x : List ℕ). IsRomLength c.map (length x) × PartsVerdict mode w (rom_on machine c.map x) c.entries words budget v)
      (same h.0) h

  pub rom_whole : (v : Result Yes Refusal) → RomVerdict machine mode w rb c words budget v → RomVerdict machine mode w r c words budget v
  rom_whole v h = grind (arith, back, parts_on)

-- ---- what was read of a text

-- what follows what was read of it
pub record TextOf (prefix held : List ℕ) (answer : Result Certificate CertFault) : Type 0 where
  pub rest : List ℕ
  pub parts : held ≡ prefix ++ rest
  pub whole : NeedsEnd answer → prefix ≡ held

pub text_of_held : (old new : Option (List ℕ)) (answer : Result Certificate CertFault) (text : ReadsText old new answer)
    → TextOf text.bytes (held_bytes old text.bytes) answer
text_of_held old new answer text = grind (arith, append-nil)

module _ (prefix_refusal : PrefixRefusal) (cb c : List ℕ) where
  -- what refuses the prefix, its end aside, refuses all
  goes_on : (g : CertFault) → TextOf cb c (Err g) → ReadAnswer cb (Err g) → (g.why ≡ Unended → ⊥) → ReadAnswer c (Err g)
  goes_on g text h other = subst (λ (x : List ℕ). ReadAnswer x (Err g)) (sym text.parts) (prefix_refusal cb text.rest g h other)

  pub refused_whole : (line : ℕ) (why : CertWhy) → TextOf cb c (Err (record { line = line; why = why })) → IsRefusal cb line why
      → IsRefusal c line why
  refused_whole line why text h = grind (arith, rules, common_steps, goes_on)
