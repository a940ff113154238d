-- What was read of dumps, what all of it is, and what is told of it.
use Rattle.dvg_cmd.proofs.Common.{arith, common_steps, sym, subst, inl, inr, ◌≡◌, ◌<◌, ◌++◌, ◌↔◌, ℕ, List, [], Option, None, Some, length, IfSome, IsPrefix}
use Rattle.dvg_dumps.specs.Differences.{counted}
use Rattle.dvg_dumps.specs.declared.differences.Differences.{Differences}
use Rattle.dvg_spelling.specs.Dumps.{dump_line}
use Rattle.dvg_cmd.specs.Making.{Held}
use Rattle.dvg_cmd.specs.ExplainingDiff.{DifferBy, IsDumpLength, IsNoDump, Told}
use Rattle.dvg_cmd.proofs.Whole.{held_bytes, held_told, read_short}

module _ (reader : Option (List ℕ)) (bytes : List ℕ) (read : IsPrefix 4097 reader bytes) where
  -- a dump that is not too long was read as a whole
  pub dump_held : IsDumpLength (length bytes) → Held reader bytes
  dump_held h =
      subst (λ all. Held reader all) (sym (read_short 4097 reader bytes read (inl (omega (arith, h.few))))) (held_told reader bytes)

  dump_back : IsDumpLength (length (held_bytes reader bytes)) → IsDumpLength (length bytes)
  dump_back h = subst (λ (all : List ℕ). IsDumpLength (length all)) (sym (read_short 4097 reader bytes read (inr (omega (arith, h.few))))) h

  -- and one that is refused is none
  pub no_dump : (IsDumpLength (length bytes) → ⊥) → IsNoDump reader
  no_dump wrong = (held_bytes reader bytes, held_told reader bytes, λ h. wrong (dump_back h))

-- what is told of two dumps that are not too long
abbrev pub told_of : (rom other : Option (List ℕ)) (good dump : List ℕ) → IsPrefix 4097 rom good → IsPrefix 4097 other dump
    → (one two : List ℕ) → IsDumpLength (length good) × (one ≡ good) → IsDumpLength (length dump) × (two ≡ dump)
    → (d : Option Differences) → (d ≡ None) ↔ (one ≡ two) → IfSome d (λ d. d ≡ counted one two) → (account : List ℕ)
    → (d ≡ None → account ≡ []) → Told rom other
told_of rom other good dump read_good read_dump one two is_good is_dump d equal counts account nothing =
    let differ : DifferBy good dump d =
    subst (λ x. DifferBy x dump d) is_good.1 (subst (λ y. DifferBy one y d) is_dump.1 (record { equal = equal; counts = counts })) in
    record {
      good = good;
      dump = dump;
      good_held = dump_held rom good read_good is_good.0;
      dump_held = dump_held other dump read_dump is_dump.0;
      good_length = is_good.0;
      dump_length = is_dump.0;
      differences = d;
      differ = differ;
      account = account;
      nothing = nothing;
    }

-- there is a line
pub some_line : (d : Option Differences) (account : List ℕ) → 0 < length (dump_line d ++ account)
some_line None account = grind (arith, common_steps)
some_line (Some d) account = grind (arith, common_steps)
