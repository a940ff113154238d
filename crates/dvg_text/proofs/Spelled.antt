-- A line put together token by token, and a text line by line.
use Rattle.dvg_text.proofs.Common.{End, LitBox, ◌≡◌, true, false, ℕ, ◌+◌, ◌<◌, List, [], ◌∷◌, ◌++◌, length, get_or, take, drop, Option, Result, refl, sym, ap, subst, ◌∙◌, append_assoc, arith, add-one, codes, decimal, OnErr, flat_map, append-nil, length-append, take-append-le, take-append-drop, Appends, MemoryMap, is_asteroids, LINE_FEED, SPACE, Entry, entry_line, end_tokens, box_tokens, address_token, key_token, ended, begun_with, text_of, done_line, first_version_line, second_version_line, rom_line, AppendsPrefix, spaced, Buffered, take-length, take-append-add, rules, common_steps, flat_map-append, Appends-nil, Appends-trans, cut_at}
use Rattle.dvg_text.proofs.WholeLines.{end_text, box_text, entry_joined}
use Rattle.dvg_text.proofs.FirstLines.{begun_push, asteroids_is, first_taken, rom_taken}

-- a piece of a text was written in part
sent_part : (old mid new : Option (List ℕ)) (text prefix piece tail : List ℕ) → text ≡ prefix ++ (piece ++ tail) → Appends old mid prefix
    → AppendsPrefix mid new piece → AppendsPrefix old new text
sent_part old mid new text prefix piece tail e h s =
    let n : ℕ = s.0 in
    let parts : take (length prefix + n) text ≡ prefix ++ take n piece =
    ap (take (length prefix + n)) e ∙ take-append-add prefix (piece ++ tail) n
    ∙ ap (λ (t : List ℕ). prefix ++ t) (take-append-le n piece tail s.1) in (
      length prefix + n,
      omega (arith, ap length e, length-append prefix (piece ++ tail), length-append piece tail, s.1),
      subst (λ (t : List ℕ). Appends old new t) (sym parts) (Appends-trans old mid new prefix (take n piece) h s.2),
    )

-- what was held is sent now, but for the rest
pub buffered_on : (old mid new : Option (List ℕ)) (held rest text : List ℕ) → Buffered old mid held text → Buffered mid new rest held
    → Buffered old new rest text
buffered_on old mid new held rest text h k = grind (arith, rules, common_steps, (append_assoc h.0 k.0 rest), append_assoc)

-- more is held
pub buffered_more : (old new : Option (List ℕ)) (held line text : List ℕ) → Buffered old new held text
    → Buffered old new (held ++ line) (text ++ line)
buffered_more old new held line text h = grind (arith, append_assoc)

-- all that was held is sent
pub held_sent : (old mid new : Option (List ℕ)) (held text : List ℕ) → Buffered old mid held text → Appends mid new held
    → Appends old new text
held_sent old mid new held text h s = grind (arith, (Appends-trans old mid new h.0 held h.1 s))

-- what was held is sent in part
pub held_sent_in_part : (old mid new : Option (List ℕ)) (held text : List ℕ) → Buffered old mid held text → AppendsPrefix mid new held
    → AppendsPrefix old new text
held_sent_in_part old mid new held text h s =
    sent_part old mid new text h.0 held [] (h.2 ∙ ap (λ (t : List ℕ). h.0 ++ t) (sym (append-nil held))) h.1 s

-- more was put behind what was held, and then sent in part; the text goes on behind it
pub put_in_part : (old mid new : Option (List ℕ)) (held part more tail text : List ℕ) → Buffered old mid held part
    → text ≡ part ++ (more ++ tail) → AppendsPrefix mid new (held ++ more) → AppendsPrefix old new text
put_in_part old mid new held part more tail text h e s =
    sent_part old mid new text h.0 (held ++ more) tail
    (e ∙ ap (λ (t : List ℕ). t ++ (more ++ tail)) h.2 ∙ append_assoc h.0 held (more ++ tail)
    ∙ ap (λ (t : List ℕ). h.0 ++ t) (sym (append_assoc held more tail))) h.1 s

-- more was put behind what was held, and some of both was sent
pub put_on : (old mid new : Option (List ℕ)) (held part more rest : List ℕ) → Buffered old mid held part
    → Buffered mid new rest (held ++ more) → Buffered old new rest (part ++ more)
put_on old mid new held part more rest h k =
    buffered_on old mid new (held ++ more) rest (part ++ more) (buffered_more old mid held more part h) k

-- the text of a certificate from an entry on
text_at : (map : MemoryMap) (es : List Entry) (i : ℕ)
    → text_of map es ≡ begun_with map (take i es) ++ (flat_map (λ e. ended (entry_line e)) (drop i es) ++ ended (done_line (length es)))
unfolding begun_with
text_at map es i =
    grind (arith, (take-append-drop i es), (flat_map-append (λ (e : Entry). ended (entry_line e)) (take i es) (drop i es)), append_assoc)

-- one more entry
begun_next : (map : MemoryMap) (es : List Entry) (i : ℕ) (d : Entry) → i < length es
    → begun_with map (take (i + 1) es) ≡ begun_with map (take i es) ++ ended (entry_line (get_or es i d))
begun_next map es i d lt = rw add-one (ap (begun_with map) (cut_at es i d lt).1) ∙ begun_push map (take i es) (get_or es i d)

spaced_end : (e : End) → spaced (end_tokens e) ≡ SPACE ∷ end_text e
spaced_end e = grind (arith, append-nil, append_assoc)

spaced_box : (b : LitBox) → spaced (box_tokens b) ≡ SPACE ∷ box_text b
spaced_box b = grind (arith, append-nil, append_assoc)

regroup : (z a b c d e f g h i j k l m n : List ℕ)
    → (((((((((((((z ++ a) ++ b) ++ c) ++ d) ++ e) ++ f) ++ g) ++ h) ++ i) ++ j) ++ k) ++ l) ++ m) ++ n
    ≡ z ++ ((a ++ (b ++ (c ++ (d ++ (e ++ (f ++ (g ++ (h ++ (i ++ (j ++ (k ++ (l ++ (m ++ []))))))))))))) ++ n)
regroup z a b c d e f g h i j k l m n = simp (append_assoc, append-nil)

pub spelled_entry : (before : List ℕ) (e : Entry)
    → (((((((((((((before ++ codes "shape") ++ SPACE ∷ address_token e.addr) ++ SPACE ∷ key_token e.key) ++ SPACE ∷ codes "end")
    ++ spaced (end_tokens e.stop)) ++ SPACE ∷ codes "box") ++ spaced (box_tokens e.lit)) ++ SPACE ∷ codes "depth") ++ SPACE ∷ decimal
    e.depth) ++ SPACE ∷ codes "words") ++ SPACE ∷ decimal e.words) ++ SPACE ∷ codes "scale") ++ SPACE ∷ key_token e.scale)
    ++ LINE_FEED ∷ []
    ≡ before ++ ended (entry_line e)
spelled_entry before e =
    rw (spaced_end e.stop, spaced_box e.lit)
    (regroup before (codes "shape") (SPACE ∷ address_token e.addr) (SPACE ∷ key_token e.key) (SPACE ∷ codes "end")
    (SPACE ∷ end_text e.stop) (SPACE ∷ codes "box") (SPACE ∷ box_text e.lit)
    (SPACE ∷ codes "depth") (SPACE ∷ decimal e.depth) (SPACE ∷ codes "words") (SPACE ∷ decimal e.words) (SPACE ∷ codes "scale")
    (SPACE ∷ key_token e.scale) (LINE_FEED ∷ [])
    ∙ ap (λ (l : List ℕ). before ++ ended l) (sym (entry_joined e)))

-- where an error is returned
pub sent_err : {X E P : Type 0} (r : Result X E) → P → OnErr r P
sent_err r p = grind (arith)

-- before the first entry
pub first_held : (old : Option (List ℕ)) (map : MemoryMap) (held : List ℕ) → held ≡ begun_with map []
    → Buffered old old held (begun_with map [])
first_held old map held h = ([], Appends-nil old, sym h)

-- the lines before the entries
pub here_held : (map : MemoryMap) (held : List ℕ) → is_asteroids map ≡ true → held ≡ ended first_version_line → held ≡ begun_with map []
here_held map held is h = h ∙ sym (ap (λ (m : MemoryMap). begun_with m []) (asteroids_is map is) ∙ first_taken first_version_line refl)

pub elsewhere_held : (map : MemoryMap) (held : List ℕ) → is_asteroids map ≡ false
    → held ≡ ended second_version_line ++ ended (rom_line map) → held ≡ begun_with map []
elsewhere_held map held is h = grind (arith, ended, second_version_line, codes, rom_taken)

-- one more entry is held
pub entry_held : (old mid new : Option (List ℕ)) (map : MemoryMap) (es : List Entry) (i : ℕ) (d : Entry) (held rest more : List ℕ)
    → i < length es → more ≡ rest ++ ended (entry_line (get_or es i d)) → Buffered old mid held (begun_with map (take i es))
    → Buffered mid new rest held → Buffered old new more (begun_with map (take (i + 1) es))
entry_held old mid new map es i d held rest more lt m h k =
    grind (arith, append_assoc, (begun_next map es i d lt), (buffered_on old mid new held rest (begun_with map (take i es)) h k))

-- the last line is held
pub done_held : (old mid new : Option (List ℕ)) (map : MemoryMap) (es cert : List Entry) (i n : ℕ) (held rest more : List ℕ) → es ≡ cert
    → i ≡ length es → n ≡ length es → more ≡ rest ++ ended (done_line n) → Buffered old mid held (begun_with map (take i es))
    → Buffered mid new rest held → Buffered old new more (text_of map cert)
done_held old mid new map es cert i n held rest more same all m p h k =
    let on = buffered_more old new rest (ended (done_line n)) (begun_with map (take i es))
    (buffered_on old mid new held rest (begun_with map (take i es)) h k) in
    rw (p, ← same, ← m) (rw (all, take-length es) at on)

-- a write failed before the last line was held
pub begun_in_part : (old mid new : Option (List ℕ)) (map : MemoryMap) (es cert : List Entry) (i : ℕ) (held : List ℕ) → es ≡ cert
    → Buffered old mid held (begun_with map (take i es)) → AppendsPrefix mid new held → AppendsPrefix old new (text_of map cert)
begun_in_part old mid new map es cert i held same h s =
    grind (
      arith,
      (text_at map es i),
      append_assoc,
      (sent_part old mid new (text_of map cert) h.0 held (flat_map (λ e. ended (entry_line e)) (drop i es) ++ ended (done_line (length es)))),
    )
