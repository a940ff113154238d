-- Frame after frame, and a want of memory.
use Rattle.dvg_survey.proofs.Common.{◌≡◌, ℕ, ◌+◌, ◌<◌, ◌++◌, List, [], ◌∷◌, length, take, get_or, Bool, None, refl, sym, subst, arith, rules, common_steps, take-suc, Rom, Key, start, Shape, HasCause, Memory, FrameReaches, EachReaches}
use Rattle.dvg_cert.specs.declared.entry.Key.TheVariants.{Any}
use Rattle.dvg_make.specs.declared.account.EntryCause.TheVariants as cause
use Rattle.dvg_make.specs.declared.fault.FramesFault.{FramesFault}

pub memory_told : (rom : Rom) (roots : List (ℕ × Key)) (frames : List (List ℕ)) (f : FramesFault)
    → f ≡ record { call = None; why = Memory } → HasCause rom roots frames f
memory_told rom roots frames f is =
    subst (HasCause rom roots frames) (sym is)
    (record { chain = []; at = 0; before = start Shape Any; cause = cause.Memory; why_is = refl; told = tt })

module _ (rom other : Rom) where
  one_more : (frames : List (List ℕ)) (reaching : List Bool) (words : List ℕ) (reaches : Bool) → EachReaches rom other frames reaching
      → FrameReaches rom other words reaches
      → EachReaches rom other (frames ++ words ∷ []) (reaching ++ reaches ∷ [])
  one_more [] [] words reaches h r = (r, tt)
  one_more (w ∷ frames) (b ∷ reaching) words reaches h r = (h.0, one_more frames reaching words reaches h.1 r)
  one_more frames reaching words reaches h r = absurd h

  module _ (frames : List (List ℕ)) (i : ℕ) (d : List ℕ) (lt : i < length frames) where
    pub next_frame : (reaching : List Bool) → EachReaches rom other (take i frames) reaching → (words : List ℕ) → words ≡ get_or frames i d
        → (reaches : Bool) → FrameReaches rom other words reaches → (more : List Bool) → more ≡ reaching ++ reaches ∷ []
        → EachReaches rom other (take (i + 1) frames) more
    next_frame reaching h words same reaches r more grown = grind (arith, rules, common_steps, (take-suc frames i d lt), one_more, take-suc)
