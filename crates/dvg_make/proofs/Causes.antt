-- The cause of a refusal, told of roots and frames.
use Rattle.dvg_make.proofs.Common.{◌≡◌, ℕ, List, [], ◌∷◌, Option, Some, refl, subst, Rom, Key, HasCause, HasCallCause, EntryFault, FrameCall, shapes, arith, Blocked, MakeAccount, IsAccount, IsTold, HasRootCause, entry_fault, refusal_at, FramesFault, make_fault_of, blocked_fault, IsRefused}

module _ (rom : Rom) (roots : List (ℕ × Key)) (frames : List (List ℕ)) where
  -- where the making stopped
  pub stuck_cause : (blocked : Blocked) → IsRefused rom roots frames blocked → HasCause rom roots frames (blocked_fault blocked)
  stuck_cause blocked refused = grind (arith, shapes)

  -- what an account tells
  pub account_cause : (a : MakeAccount) → a.fault.why ≡ entry_fault a.at a.cause → IsAccount rom roots frames a
      → HasCause rom roots frames a.fault
  account_cause a why told = record { chain = a.chain.items; at = a.at; before = a.before; cause = a.cause; why_is = why; told = told }

-- a cause of one refusal is a cause of another, if what is told holds of its call too
retold : (rom : Rom) (roots : List (ℕ × Key)) (frames : List (List ℕ)) (fault : FramesFault) (call : Option FrameCall) (why : EntryFault)
    → fault.why ≡ why → (h : HasCause rom roots frames fault)
    → (IsTold rom roots frames fault.call h.chain h.at h.before h.cause → IsTold rom roots frames call h.chain h.at h.before h.cause)
    → HasCause rom roots frames (record { call = call; why = why })
retold rom roots frames fault call why same h other = grind (arith)

-- where there is no frame, no call is named
pub root_cause : (rom : Rom) (roots : List (ℕ × Key)) (fault : FramesFault) → HasCause rom roots [] fault
    → HasRootCause rom roots (make_fault_of fault.why)
root_cause rom roots fault h = grind (arith, retold)

-- of one frame
of_call : (rom : Rom) (words : List ℕ) (call : FrameCall) (why : EntryFault)
    → HasCause rom [] (words ∷ []) (record { call = Some call; why = why })
    → HasCause rom [] (words ∷ []) (record { call = Some (record { frame = 0; at = call.at }); why = why })
of_call rom words call why h =
    retold rom [] (words ∷ []) (record { call = Some call; why = why }) (Some (record { frame = 0; at = call.at })) why refl h
    (λ t. subst (λ (n : ℕ). IsTold rom [] (words ∷ []) (Some (record { frame = n; at = call.at })) h.chain h.at h.before h.cause)
    (let first : call.frame ≡ 0 = grind (arith, t.named.1) in first) t)

pub call_cause : (rom : Rom) (words : List ℕ) (call : Option FrameCall) (why : EntryFault)
    → HasCause rom [] (words ∷ []) (record { call = call; why = why }) → HasCallCause rom words (refusal_at call why)
call_cause rom words call why h = grind (arith, of_call)
