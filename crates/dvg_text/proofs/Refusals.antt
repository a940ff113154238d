-- What refuses a text, from what the reader holds.
use Rattle.dvg_text.proofs.Common.{◌≡◌, ◌≢◌, ℕ, zero, suc, ◌+◌, ◌-◌, ◌<◌, List, [], ◌∷◌, ◌++◌, length, get_or, take, drop, Ok, Err, refl, sym, ap, ◌∙◌, append_assoc, arith, append-nil, length-append, length-take-le, nat_tests, MemoryMap, asteroids, LONGEST_LINE, LINE_FEED, Entry, IsCertificate, entry_line, rom_line, begun_with, text_of, ended, IsRefusal, HasEntryAt, IsElsewhere, Begun, Whole, Taken, Without, text_taken, line_number, IsTaken, IsUnended, IsRest, Holds, Meets, IsLineRefused, EndsLine, StartsWith, taken_of, IsStaged, CertFault, CertWhy, Unended, After, TooLong, Memory, no_entry_yet}
use Rattle.dvg_text.specs.declared.taken.Stage.{Stage}
use Rattle.dvg_text.specs.declared.taken.Stage.TheVariants.{First, Rom}
use Rattle.dvg_text.proofs.Graphics.{Without-append}
use Rattle.dvg_text.proofs.FirstLines.{begun_push, first_taken, rom_taken}

pub not_whole : (taken : Taken) → ((IsUnended taken → ⊥) → ⊥) → IsUnended taken
not_whole taken h = grind (arith)

pub rest_of : (taken : Taken) (rest : List ℕ) → IsUnended taken → Without LINE_FEED rest → length rest < LONGEST_LINE → IsRest taken rest
rest_of taken rest u free short = grind (arith)

pub rest_free : (taken : Taken) (rest : List ℕ) → IsRest taken rest → Without LINE_FEED rest × (length rest < LONGEST_LINE)
rest_free taken rest h = grind (arith)

regroup : (a b c : List ℕ) → a ++ (b ++ LINE_FEED ∷ c) ≡ (a ++ (b ++ LINE_FEED ∷ [])) ++ c
regroup a b c = simp append_assoc

-- one more entry line
pub entry_taken : (map : MemoryMap) (es : List Entry) (line : List ℕ) (e : Entry) → line ≡ entry_line e
    → begun_with map (es ++ e ∷ []) ≡ begun_with map es ++ ended line
entry_taken map es line e l = begun_push map es e ∙ ap (λ (t : List ℕ). begun_with map es ++ ended t) (sym l)

-- a whole line that is refused
pub line_fault : (why : CertWhy) (taken : Taken) (line after : List ℕ) → IsTaken taken → IsUnended taken → Without LINE_FEED line
    → length line < LONGEST_LINE → IsLineRefused taken line why
    → IsRefusal (text_taken taken ++ (line ++ LINE_FEED ∷ after)) (line_number taken) why × (why ≢ Unended)
line_fault Memory (Begun map es) line after h u free short w =
    grind (
      arith,
      (length-append es (w.0 ∷ [])),
      (regroup (begun_with map es) line after),
      (begun_with map es),
      (entry_taken map es line w.0 w.1.1),
    )
line_fault Memory taken line after h u free short w = absurd w
line_fault why taken line after h u free short w =
    grind (arith, (text_taken taken), (append_assoc (text_taken taken) line (LINE_FEED ∷ after)), (rest_of taken line u free short))

-- a prefix of what is free, and the element after it
next_free : (n : ℕ) (xs : List ℕ) → n < length xs → Without LINE_FEED (take (suc n) xs)
    → (xs ≡ take n xs ++ get_or xs n 0 ∷ drop (suc n) xs) × Without LINE_FEED (take n xs) × (get_or xs n 0 ≢ LINE_FEED)
next_free n [] lt h = absurd (omega arith)
next_free zero (x ∷ xs) lt h = (refl, tt, λ e. absurd (grind (arith, nat_tests)))
next_free (suc n) (x ∷ xs) lt h = grind (arith, (next_free n xs (omega arith) h.1))

pub meets_long : (taken : Taken) (rest : List ℕ) (b : ℕ) → IsUnended taken → b ≢ LINE_FEED → length rest ≡ LONGEST_LINE - 1
    → Meets taken rest b TooLong
meets_long taken rest b u h n = grind (arith)

long_at : (k : ℕ) (taken : Taken) (begun rest : List ℕ) → IsTaken taken → IsUnended taken → Without LINE_FEED begun
    → length begun + k ≡ LONGEST_LINE - 1 → k < length rest → Without LINE_FEED (take (suc k) rest)
    → IsRefusal (text_taken taken ++ (begun ++ rest)) (line_number taken) TooLong
long_at k taken begun rest h u clear n lt free =
    let r = next_free k rest lt free in
    let b : ℕ = get_or rest k 0 in
    let line : List ℕ = begun ++ take k rest in
    let m : length line ≡ LONGEST_LINE - 1 = omega (arith, length-append begun (take k rest), length-take-le k rest (omega arith)) in
    let parts : text_taken taken ++ (begun ++ rest) ≡ (text_taken taken ++ line) ++ b ∷ drop (suc k) rest =
    ap (λ (t : List ℕ). text_taken taken ++ (begun ++ t)) r.0 ∙ simp append_assoc in (
      text_taken taken ++ line,
      b,
      drop (suc k) rest,
      taken,
      line,
      parts,
      record {
        parts = refl;
        lines = h;
        begun =
            rest_of taken line u (Without-append LINE_FEED begun (take k rest) clear r.1) (omega arith);
      },
      meets_long taken line b u r.2 m,
      refl,
    )

-- no line end where a line must have one
pub end_fault : (why : CertWhy) (room : ℕ) (taken : Taken) (begun rest : List ℕ) → IsTaken taken → IsUnended taken → IsRest taken begun
    → room ≡ LONGEST_LINE - length begun → EndsLine room rest (Err why)
    → IsRefusal (text_taken taken ++ (begun ++ rest)) (line_number taken) why × (why ≢ Unended)
end_fault why room taken begun rest h u r n e = grind (arith, rest_free, long_at, text_taken, line_number)

-- a line begun
pub begins : (taken : Taken) (begun rest new : List ℕ) → IsTaken taken → IsUnended taken → IsRest taken begun → Without LINE_FEED rest
    → length rest < LONGEST_LINE - length begun → new ≡ begun ++ rest → Holds (text_taken taken ++ (begun ++ rest)) taken new
begins taken begun rest new h u r free short e =
    grind (arith, (rest_free taken begun r), (rest_of taken new u), Without-append, length-append)

-- bytes after the last line
pub after_refused : (line : ℕ) (f : CertFault) (taken : Taken) (begun rest : List ℕ) → IsTaken taken → IsRest taken begun
    → (IsUnended taken → ⊥) → line ≡ line_number taken → 0 < length rest → f ≡ record { line = line; why = After }
    → IsRefusal (text_taken taken ++ (begun ++ rest)) f.line f.why × (f.why ≢ Unended)
after_refused line f (Whole map es) begun [] h r u n some e = absurd (omega arith)
after_refused line f (Whole map es) begun (b ∷ more) h r u n some e =
    rw (e, n, r) (
      (
        text_of map es,
        b,
        more,
        Whole map es,
        [],
        refl,
        record { parts = sym (append-nil (text_of map es)); lines = h; begun = refl },
        refl,
        refl,
      ),
      λ e. absurd cc,
    )
after_refused line f taken begun rest h r u n some e = absurd (u tt)

-- the first line of all
pub first_at : (stage after : Stage) (map : MemoryMap) (es : List Entry) (taken : Taken) (line : List ℕ) → stage ≡ First
    → taken_of map es stage ≡ taken → IsStaged map es stage → StartsWith line (Ok after) → IsTaken (taken_of map es after)
    × (text_taken (taken_of map es after) ≡ text_taken taken ++ ended line) × IsStaged map es after
first_at stage after map es taken line s v h l = grind (arith, ended, text_taken, asteroids, no_entry_yet, begun_with, first_taken)

-- the line of the ROM
pub rom_at_line : (stage : Stage) (old map : MemoryMap) (es : List Entry) (taken : Taken) (line : List ℕ) → stage ≡ Rom
    → taken_of old es stage ≡ taken → IsStaged old es stage → IsElsewhere map → line ≡ rom_line map → IsCertificate map es
    × (begun_with map es ≡ text_taken taken ++ ended line)
rom_at_line stage old map es taken line s v h is l = grind (arith, no_entry_yet, begun_with, rom_taken, text_taken, ended)

-- a line whose end has come, and that is refused
pub line_refused : (why : CertWhy) (taken : Taken) (begun rest prefix after : List ℕ) → IsTaken taken → IsUnended taken
    → IsRest taken begun → rest ≡ prefix ++ LINE_FEED ∷ after → Without LINE_FEED prefix → length prefix < LONGEST_LINE - length begun
    → IsLineRefused taken (begun ++ prefix) why
    → IsRefusal (text_taken taken ++ (begun ++ rest)) (line_number taken) why × (why ≢ Unended)
line_refused why taken begun rest prefix after h u r e free short w =
    grind (
      arith,
      (rest_free taken begun r),
      Without-append,
      length-append,
      append_assoc,
      (line_fault why taken (begun ++ prefix) after h u),
    )

-- ---- entries whose lines stand first

pub ended_taken : (map : MemoryMap) (old es new : List Entry) (e : Entry) (bytes rest after : List ℕ)
    → begun_with map old ++ bytes ≡ begun_with map es ++ rest → rest ≡ ended (entry_line e) ++ after → new ≡ es ++ e ∷ []
    → (begun_with map old ++ bytes ≡ begun_with map new ++ after) × (length after < length rest)
ended_taken map old es new e bytes rest after so_far is grown =
    grind (arith, begun_with, append_assoc, ended, entry_line, entry_taken, length-append)

pub ended_refused : (map : MemoryMap) (old es : List Entry) (e : Entry) (bytes rest after : List ℕ)
    → begun_with map old ++ bytes ≡ begun_with map es ++ rest → rest ≡ ended (entry_line e) ++ after → IsCertificate map (es ++ e ∷ [])
    → HasEntryAt (begun_with map old ++ bytes) (line_number (Begun map es))
ended_refused map old es e bytes rest after so_far is fits =
    grind (arith, (length-append es (e ∷ [])), (ended_taken map old es (es ++ e ∷ []) e bytes rest after so_far is refl))
