-- What a run of the maker for frames answers, over plain values.
use Rattle.dvg_cmd.proofs.Common.{Ok, Err, OnOk, blames_a_frame, EachHeld, FirstWrong, true, ◌++◌, count_after, FailedAfter, blames_frames_rom, ComparesFor, IsPrefix, ◌≡◌, ◌<◌, ℕ, List, [], ◌∷◌, length, Option, None, Some, refl, ap, ◌∙◌, subst, arith, Result, IfErr, Machine, Appends, AppendsPrefix, WritesMade, Rom, IsRomLength, rom_on, words_of, MemoryMap, IsMap, Window, Key, of_each, AreFrames, MakesForFrames, FramesFaultMeans, ArePrefixes, rules, common_steps, IsErrAnd, text_of, WritesMadePrefix, Entry, AreAllPlaces, FramesMade, FramesRefuse, HasCause, EntryFault, told_fault, RefusesInputs, RefusesMemory, MakeRunFault, AreRead, AreInputImages, RefusesLengths, make_fault_of, Makes, MakeFaultMeans}
use Rattle.dvg_survey.specs.declared.places.EntryPlaces.{EntryPlaces}
use Rattle.dvg_make.specs.declared.fault.FrameCall.{FrameCall}
use Rattle.dvg_make.specs.declared.fault.FramesFault.{FramesFault}
use Rattle.dvg_cmd.specs.Placing.{PlacesFor}
use Rattle.dvg_survey.specs.Comparing.{IsComparison}
use Rattle.dvg_survey.specs.declared.comparing.Comparison.{Comparison}
use Rattle.dvg_cmd.proofs.Whole.{held_bytes, held_told, whole_length, whole_image}
use Rattle.dvg_cmd.proofs.SeveralFrames.{held_each, each_held, each_same, first_wrong}
use Rattle.dvg_make.proofs.Collecting.{as_make_fault}
use Rattle.dvg_make.proofs.Finishing.{made_roots}
use Rattle.dvg_make.specs.declared.fault.EntryFault.TheVariants as entry
use Rattle.dvg_spelling.specs.declared.fault.MakeRunFault.TheVariants as fault
use Rattle.dvg_make.specs.declared.fault.MakeFault.TheVariants as making

-- what holds of the fault that is told holds of the answer
pub told_err : {A : Type 0} (r : Result A MakeRunFault) (f : MakeRunFault) (P : MakeRunFault → Type 0) → IsErrAnd r (λ x. x ≡ f)
    → P f → IfErr r P
told_err r f P is h = grind (arith)

-- where there are readers, that memory was out says nothing
memory_refused : (machine : Machine) (rom : Option (List ℕ)) (map : MemoryMap) (roots : List (ℕ × Key))
    (readers : List (Option (List ℕ))) (frames : List (List ℕ)) → ArePrefixes readers frames → 0 < length frames
    → RefusesMemory machine rom map roots readers
memory_refused machine rom map roots readers frames h some = grind (arith, rules, common_steps)

-- what was read of a ROM of the right length
module _ {rom : Option (List ℕ)} {readers : List (Option (List ℕ))} {rb : List ℕ} {frames : List (List ℕ)}
    (read : AreRead rom readers rb frames) (machine : Machine) (map : MemoryMap) (is : IsMap map) (image : Rom)
    (h : IsRomLength map (length rb) × (image ≡ rom_on machine map rb)) where
  pub images_read : AreFrames frames → (words : List (List ℕ)) → words ≡ of_each words_of frames
      → AreInputImages machine rom map readers image words
  images_read lengths words same =
      let whole : frames ≡ held_each readers frames = each_same readers frames read.frame_prefixes lengths in
      record {
        all = search (
          held_bytes rom rb,
          held_each readers frames,
          held_told rom rb,
          each_held readers frames read.frame_prefixes,
          whole_length map is rom rb read.rom_prefix h.0,
          subst AreFrames whole lengths,
        );
        rom_is = whole_image map is rom rb read.rom_prefix machine image h;
        words_are = same ∙ ap (λ l. of_each words_of l) whole;
      }

  pub lengths_refused : (roots : List (ℕ × Key)) (f : MakeRunFault) → RefusesLengths frames f
      → FramesFaultMeans machine rom map roots readers f
  lengths_refused roots f wrong =
      grind (
        arith,
        (held_bytes rom rb),
        (held_each readers frames),
        (held_told rom rb),
        (each_held readers frames read.frame_prefixes),
        (whole_length map is rom rb read.rom_prefix h.0),
        first_wrong,
        memory_refused,
      )

-- the images of what was read, of whatever readers held it
module _ {rb : List ℕ} {fb : List (List ℕ)} {machine : Machine} {map : MemoryMap} {image : Rom} {words : List (List ℕ)}
    (images : (held : Option (List ℕ)) (readers : List (Option (List ℕ))) → AreRead held readers rb fb
    → AreInputImages machine held map readers image words)
    {rom : Option (List ℕ)} {readers : List (Option (List ℕ))} (read : AreRead rom readers rb fb) {ws : List (List ℕ)}
    (same : ws ≡ words) where
  given : AreInputImages machine rom map readers image words
  given = images rom readers read

  pub own_map : image.map ≡ map
  own_map = ap (λ r. r.map) given.rom_is

  on_all : (P : Rom → List (List ℕ) → Type 0) → P image ws
      → P (rom_on machine map given.all.rom_bytes) (of_each words_of given.all.frame_bytes)
  on_all P p = subst (λ x. P x (of_each words_of given.all.frame_bytes)) given.rom_is (subst (λ ws. P image ws) (same ∙ given.words_are) p)

  pub frames_made : (roots : List (ℕ × Key)) (list : List Entry) → FramesMade image roots ws list
      → MakesForFrames machine rom map roots readers list
  frames_made roots list made = (given.all, on_all (λ x ws. FramesMade x roots ws list) made)

  pub places_made : (roots : List (ℕ × Key)) (w : Window) (list : List Entry) (places : List EntryPlaces)
      → FramesMade image roots ws list → AreAllPlaces w image list list places
      → PlacesFor machine w rom map roots readers places
  places_made roots w list places made are =
      search (list, on_all (λ x ws. FramesMade x roots ws list) made, subst (λ x. AreAllPlaces w x list list places) given.rom_is are)

  pub compared : (is : IsMap map) (other : Option (List ℕ)) (other_image : Rom) (ob : List ℕ) → IsPrefix 4097 other ob
      → IsRomLength map (length ob) × (other_image ≡ rom_on machine map ob) → (roots : List (ℕ × Key)) (c : Comparison)
      → IsComparison image other_image roots ws c
      → ComparesFor machine rom other map roots readers c
  compared is other other_image ob read h roots c comparison =
      search (
        held_told other ob,
        whole_length map is other ob read h.0,
        on_all (λ x ws. IsComparison x (rom_on machine map (held_bytes other ob)) roots ws c)
            (subst (λ x. IsComparison image x roots ws c) (whole_image map is other ob read machine other_image h) comparison),
      )

  module _ (roots : List (ℕ × Key)) where
    told_memory : (rs : List (Option (List ℕ))) → RefusesInputs machine rom map roots rs (record { call = None; why = entry.Memory })
        → RefusesMemory machine rom map roots rs
    told_memory [] refuses = refuses
    told_memory (r ∷ rs) refuses = tt

    told_at : (call : Option FrameCall) (why : EntryFault)
        → RefusesInputs machine rom map roots readers (record { call = call; why = why })
        → FramesFaultMeans machine rom map roots readers (told_fault call why)
    told_at (Some call) why refuses = refuses
    told_at None entry.Memory refuses = told_memory readers refuses
    told_at None why refuses = (why, refl, refuses)

    pub frames_refused : (f : FramesFault) → FramesRefuse image roots ws f → HasCause image roots ws f
        → FramesFaultMeans machine rom map roots readers (told_fault f.call f.why)
    frames_refused f refuses told =
        told_at f.call f.why (given.all, on_all (λ x ws. FramesRefuse x roots ws f) refuses, on_all (λ x ws. HasCause x roots ws f) told)

-- which ROM's reader failed
pub rom_failed : {A : Type 0} (r : Result A MakeRunFault) (f : MakeRunFault) → IsErrAnd r (λ x. x ≡ f)
    → f ≡ fault.ReadRom → (olds news after : List ℕ) → news ≡ olds
    → (old new : ℕ) → new ≡ count_after true old → FailedAfter (blames_frames_rom r) (olds ++ old ∷ after) (news ++ new ∷ after)
rom_failed r f e is olds news after same old new failed = grind (arith)

-- ---- what is written

module _ (IsMade : List Entry → Type 0) (map own : MemoryMap) (list : List Entry) (old new : Option (List ℕ)) (made : IsMade list)
    (same : own ≡ map) where
  pub writes_prefix : AppendsPrefix old new (text_of own list) → WritesMadePrefix IsMade map old new
  writes_prefix written = record { list = list; made = made; written = subst (λ m. AppendsPrefix old new (text_of m list)) same written }

  pub writes : Appends old new (text_of own list) → WritesMade IsMade map old new
  writes written = record { list = list; made = made; written = subst (λ m. Appends old new (text_of m list)) same written }

-- ---- where there are no frames

module _ (machine : Machine) (rom : Option (List ℕ)) (map : MemoryMap) (roots : List (ℕ × Key)) where
  -- what is made for no frames is what is made for the roots
  roots_made : (list : List Entry) → MakesForFrames machine rom map roots [] list → Makes machine rom map roots list
  roots_made list made =
      let all = made.0 in
      let none : all.frame_bytes ≡ [] = grind (arith) in
      search (
        all.rom_held,
        made_roots (rom_on machine map all.rom_bytes) roots list
            (subst (λ l. FramesMade (rom_on machine map all.rom_bytes) roots (of_each words_of l) list) none made.1),
      )

  pub roots_written : (r : Result (Unit {0}) MakeRunFault) (old new : Option (List ℕ))
      → OnOk r (WritesMade (MakesForFrames machine rom map roots []) map old new)
      → OnOk r (WritesMade (Makes machine rom map roots) map old new)
  roots_written (Ok u) old new h = record { list = h.list; made = roots_made h.list h.made; written = h.written }
  roots_written (Err f) old new h = tt

  pub roots_cut : (old new : Option (List ℕ)) → WritesMadePrefix (MakesForFrames machine rom map roots []) map old new
      → WritesMadePrefix (Makes machine rom map roots) map old new
  roots_cut old new h = record { list = h.list; made = roots_made h.list h.made; written = h.written }

  -- and what is refused for no frames is refused for the roots
  roots_refused : (why : EntryFault) → RefusesInputs machine rom map roots [] (record { call = None; why = why })
      → MakeFaultMeans machine rom map roots (fault.Make (make_fault_of why))
  roots_refused why h = grind (arith, as_make_fault, rom_on, of_each, words_of)

  -- no frame is to blame
  none_wrong : (bytes : List (List ℕ)) (n : ℕ) → EachHeld [] bytes → FirstWrong bytes n → ⊥
  none_wrong [] n held wrong = wrong
  none_wrong (first ∷ rest) n held wrong = held

  none_failed : (before after : List ℕ) (count : ℕ) → [] ≡ before ++ count ∷ after → ⊥
  none_failed [] after count is = grind (arith)
  none_failed (first ∷ before) after count is = grind (arith)

  fault_of_roots : (f : MakeRunFault) → FramesFaultMeans machine rom map roots [] f
      → (news : List ℕ) → FailedAfter (blames_a_frame {A = Unit {0}} (Err f)) [] news → MakeFaultMeans machine rom map roots f
  fault_of_roots fault.RomLength h news failed = h
  fault_of_roots fault.ReadRom h news failed = tt
  fault_of_roots fault.Write h news failed = tt
  fault_of_roots (fault.Make making.Memory) h news failed = roots_refused entry.Memory h
  fault_of_roots (fault.Make f) h news failed = subst (λ f. MakeFaultMeans machine rom map roots (fault.Make f)) h.1 (roots_refused h.0 h.2)
  fault_of_roots (fault.FrameLength n) h news failed = none_wrong h.frame_bytes n h.frames_held h.wrong
  fault_of_roots (fault.Call call why) h news failed = grind (arith)
  fault_of_roots fault.ReadFrame h news failed = none_failed failed.before failed.after failed.count failed.old_is

  pub roots_fault : (r : Result (Unit {0}) MakeRunFault) → IfErr r (FramesFaultMeans machine rom map roots [])
      → (news : List ℕ) → FailedAfter (blames_a_frame r) [] news → IfErr r (MakeFaultMeans machine rom map roots)
  roots_fault (Ok u) h news failed = tt
  roots_fault (Err f) h news failed = fault_of_roots f h news failed
