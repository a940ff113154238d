-- The lines of the frames that reach a touched shape, over plain values.
use Rattle.dvg_cmd.proofs.Common.{◌≡◌, ℕ, zero, suc, ◌+◌, ◌<◌, ◌≤◌, List, [], ◌∷◌, length, drop, get_or, true, string_bytes, refl, sym, ap, ◌∙◌, arith, of_each, rules, common_steps, Bool, false, String, Global, min, drop-cons, cases_lt, drop_all, reaching_lines}
use Rattle.dvg_spelling.specs.Touched.{frame_touched_line}

-- the lines of the frames from this one on
abbrev pub lines_from : List (String Global) → List Bool → ℕ → List (List ℕ)
lines_from names reaching n = reaching_lines (of_each (λ name. string_bytes name) (drop n names)) (drop n reaching)

passed : (names : List (String Global)) (reaching : List Bool) (n : ℕ) → n < length reaching → get_or reaching n false ≡ false
    → lines_from names reaching n ≡ lines_from names reaching (suc n)
passed names (b ∷ reaching) zero lt is = grind (arith, of_each)
passed (m ∷ names) (b ∷ reaching) (suc n) lt is = passed names reaching n (omega (arith, lt)) is
passed names reaching n lt is = grind (arith)

no_answers : (names : List (List ℕ)) → reaching_lines names [] ≡ []
no_answers [] = refl
no_answers (m ∷ names) = refl

module _ (names : List (String Global)) (reaching : List Bool) (n limit : ℕ) (limit_is : limit ≡ min (length names) (length reaching)) where
  more : n + 1 ≡ suc n
  more = omega arith

  pub pass_frame : n < limit → get_or reaching n false ≡ false → lines_from names reaching n ≡ lines_from names reaching (n + 1)
  pass_frame lt is = passed names reaching n (omega (arith, lt, limit_is)) is ∙ ap (lines_from names reaching) (sym more)

  pub next_frame : n < limit → get_or reaching n false ≡ true → (name : String Global) → name ≡ get_or names n name
      → lines_from names reaching n ≡ frame_touched_line (string_bytes name) ∷ lines_from names reaching (n + 1)
  next_frame lt is name name_is = grind (arith, of_each, string_bytes, drop-cons, more)

  pub no_frame : limit ≤ n → lines_from names reaching n ≡ []
  no_frame le = grind (arith, of_each, string_bytes, drop_all, no_answers, cases_lt)

pub some_text : (name : List ℕ) → 0 < length (frame_touched_line name)
some_text name = grind (arith, rules, common_steps)
