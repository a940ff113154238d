-- Runs of the maker, over values that stand for those of C's arguments.
use Rattle.dvg_c.proofs.Common.{◌≡◌, ◌≤◌, ℕ, List, [], ◌∷◌, Option, Result, refl, ap, Machine, MemoryMap, IsMap, Key, of_each, WritesMade, MakesForFrames, FramesFaultMeans, machine_of, MakeVerdict, RunVerdict}
use Rattle.dvg_spelling.specs.declared.fault.MakeRunFault.{MakeRunFault}
use Rattle.dvg_c.specs.declared.passed.TheConstants.{BOARD}
use Rattle.dvg_c.specs.declared.text.TextAnswer.{TextAnswer}
use Rattle.std.proofs.Common.{inr}

-- what holds of each thing's told value, told again
pub of_each_twice : {A B C : Type 0} (f : A → B) (g : B → C) (xs : List A) → of_each (λ x. g (f x)) xs ≡ of_each g (of_each f xs)
of_each_twice f g [] = refl
of_each_twice f g (x ∷ xs) = ap (λ l. g (f x) ∷ l) (of_each_twice f g xs)

module _ (machine : Machine) (map : MemoryMap) {rom rom2 : Option (List ℕ)} {roots roots2 : List (ℕ × Key)}
    {frames frames2 : List (Option (List ℕ))}
    (rom_is : rom ≡ rom2) (roots_are : roots ≡ roots2) (frames_are : frames ≡ frames2) where
  pub written_as : {old old2 new new2 : Option (List ℕ)} → old ≡ old2 → new ≡ new2
      → WritesMade (MakesForFrames machine rom map roots frames) map old new
      → WritesMade (MakesForFrames machine rom2 map roots2 frames2) map old2 new2
  written_as old_is new_is h =
      coe 0 1 (i. WritesMade (MakesForFrames machine (rom_is i) map (roots_are i) (frames_are i)) map (old_is i) (new_is i)) h

  pub refused_as : (f : MakeRunFault) → FramesFaultMeans machine rom map roots frames f
      → FramesFaultMeans machine rom2 map roots2 frames2 f
  refused_as f h = coe 0 1 (i. FramesFaultMeans machine (rom_is i) map (roots_are i) (frames_are i) f) h

-- what comes of a run on the machine and at the map that stand for what C passes
pub verdict_of : {number : ℕ} {machine : Machine} {map map2 : MemoryMap} (rom : List ℕ) (roots : List (ℕ × Key)) (bytes lengths : List ℕ)
    → (machine ≡ machine_of number) × (number ≤ BOARD) → (map ≡ map2) × IsMap map2 → (v : Result (List ℕ) TextAnswer)
    → RunVerdict machine rom map roots bytes lengths v → MakeVerdict number rom map2 roots bytes lengths v
verdict_of rom roots bytes lengths machine_is map_is v h =
    inr (inr (machine_is.1, map_is.1, coe 0 1 (i. RunVerdict (machine_is.0 i) rom (map_is.0 i) roots bytes lengths v) h))
