-- A chain followed back from a link to the frame.
use Rattle.dvg_survey.proofs.Common.{◌≡◌, ℕ, ◌+◌, ◌<◌, List, [], ◌∷◌, ◌++◌, Option, None, Some, refl, sym, ap, ◌∙◌, subst, slice_get, Rom, Entry, Call, LeadsOn, IsChain, Link, AllSteps, IsStep, reverse, reverse-append, IsTrace, IsBackward, IfSome, length, arith, slice_get_within}

-- these calls lead from the link at an index, or where there is none from the frame, to the goal
abbrev pub Leads : Rom → List ℕ → List Entry → List Link → Option ℕ → List Call → Entry → Type 0
Leads rom words list links None calls goal = IsChain rom words list calls goal
Leads rom words list links (Some at) calls goal = (f : Link) → slice_get links at ≡ Some f → LeadsOn rom list f.call.entry calls goal

-- these calls, the last of them first
pub record Traced (links : List Link) (last : ℕ) (next : Option ℕ) (calls : List Call) : Type 0 where
  pub within : IfSome next (λ at. at < length links)
  pub leads : (rom : Rom) (words : List ℕ) (list : List Entry) → AllSteps rom words list links
      → (l : Link) → slice_get links last ≡ Some l → Leads rom words list links next (reverse calls) l.call.entry

abbrev pub steps_left : Option ℕ → ℕ
steps_left None = 0
steps_left (Some at) = at + 1

pub goes_down : (links : List Link) (next : Option ℕ) (at : ℕ) (f : Link) → IsBackward links → next ≡ Some at
    → slice_get links at ≡ Some f → steps_left f.from < steps_left next
goes_down links next at f back is f_is = grind (arith, (back at f f_is))

-- from there on
pub goes_back : (links : List Link) (last : ℕ) (next : Option ℕ) (at : ℕ) (f : Link) (old new : List Call) → IsBackward links
    → next ≡ Some at → slice_get links at ≡ Some f → new ≡ old ++ f.call ∷ []
    → Traced links last next old → Traced links last f.from new
goes_back links last next at f old new back is f_is e t =
    record { within = grind (arith, (back at f f_is), (slice_get_within links at f f_is)); leads = leads }
  where
    leads : (rom : Rom) (words : List ℕ) (list : List Entry) → AllSteps rom words list links → (l : Link) → slice_get links last ≡ Some l
        → Leads rom words list links f.from (reverse new) l.call.entry
    leads rom words list steps l l_is =
        subst (λ cs. Leads rom words list links f.from cs l.call.entry) (sym (ap reverse e ∙ reverse-append old (f.call ∷ [])))
        (by f.from refl)
      where
        on : LeadsOn rom list f.call.entry (reverse old) l.call.entry
        on = subst (λ o. Leads rom words list links o (reverse old) l.call.entry) is (t.leads rom words list steps l l_is) f f_is

        by : (from : Option ℕ) → f.from ≡ from → Leads rom words list links from (f.call ∷ reverse old) l.call.entry
        by None e = (subst (λ o. IsStep rom words list links o f.call) e (steps at f f_is), on)
        by (Some j) e = λ g g_is.
            let step = subst (λ o. IsStep rom words list links o f.call) e (steps at f f_is) in
            let same : step.0 ≡ g = cc (step.1, g_is) in
            subst (λ (x : Link). LeadsOn rom list x.call.entry (f.call ∷ reverse old) l.call.entry) same (step.2, on)

-- up to the frame
pub traced_all : (links : List Link) (last : ℕ) (next : Option ℕ) (calls all : List Call) → ((at : ℕ) → next ≡ Some at → ⊥)
    → all ≡ reverse calls → Traced links last next calls → IsTrace links last all
traced_all links last None calls all none e h = subst (λ cs. IsTrace links last cs) (sym e) h.leads
traced_all links last (Some at) calls all none e h = absurd (none at refl)
