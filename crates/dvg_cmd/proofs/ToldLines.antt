-- The lines of several things, one after another, over plain values.
use Rattle.dvg_cmd.proofs.Common.{◌≡◌, refl, sym, ap, ◌∙◌, subst, ℕ, List, [], ◌∷◌, ◌++◌, Option, append-nil, append_assoc, AppendsPrefix, joined, Outcome}
use Rattle.dvg_cmd.proofs.LineByLine.{both_sent, both_cut, first_cut}
use Rattle.dvg_cmd.proofs.Writing.{none_sent}
use Rattle.dvg_cmd.specs.Sent.{Sent}
use Rattle.dvg_cmd.specs.Telling.{Line, Telling, told, gone, gone_with, gone_on, no_line, texts_of, line_texts, summary_of, all_texts, AreLinesOf, Reports, ReportsPrefix, TellsAlike, WritesLine, WritesLinePrefix}
use Rattle.dvg_cmd.specs.declared.progress.Progress.{Progress}

module _ {B T : Type 0} (telling : Telling B T) where
  gone_then : (p : Progress T) (lines : List (Line B)) (line : Line B)
      → gone_on telling p (lines ++ line ∷ []) ≡ gone_with telling (gone_on telling p lines) line
  gone_then p [] line = refl
  gone_then p (l ∷ lines) line = gone_then (gone_with telling p l) lines line

  texts_then : (p : Progress T) (lines : List (Line B)) (line : Line B)
      → line_texts telling p (lines ++ line ∷ []) ≡ line_texts telling p lines ++ texts_of telling (gone_on telling p lines) line
  texts_then p [] line = append-nil (texts_of telling p line)
  texts_then p (l ∷ lines) line =
      ap (λ ts. texts_of telling p l ++ ts) (texts_then (gone_with telling p l) lines line)
      ∙ sym (append_assoc (texts_of telling p l) (line_texts telling (gone_with telling p l) lines)
      (texts_of telling (gone_on telling (gone_with telling p l) lines) line))

module _ {A B : Type 0} (IsLineOf : A → Line B → Type 0) where
  lines_of_on : (things : List A) (lines : List (Line B)) (thing : A) (line : Line B) → AreLinesOf IsLineOf things lines
      → IsLineOf thing line → AreLinesOf IsLineOf (things ++ thing ∷ []) (lines ++ line ∷ [])
  lines_of_on [] [] thing line h one = (one, tt)
  lines_of_on (y ∷ things) (l ∷ lines) thing line h one = (h.0, lines_of_on things lines thing line h.1 one)
  lines_of_on things lines thing line h one = absurd h

  module _ {T : Type 0} (telling : Telling B T) where
    -- the lines of several things were written, from before the first on
    pub record WritesLines (things : List A) (old new : Option (List ℕ)) (p : Progress T) (writes writes_after : ℕ) : Type 0 where
      pub lines : List (Line B)
      pub lines_of : AreLinesOf IsLineOf things lines
      pub sent : Sent (line_texts telling (no_line telling) lines) old new writes writes_after
      pub progress_is : p ≡ gone_on telling (no_line telling) lines

    -- before the first
    pub no_lines : (old : Option (List ℕ)) (p : Progress T) (writes : ℕ) → p ≡ no_line telling → WritesLines [] old old p writes writes
    no_lines old p writes is = record { lines = []; lines_of = tt; sent = none_sent [] refl old writes; progress_is = is }

    module _ (things : List A) (thing : A) (old mid new : Option (List ℕ)) (p : Progress T) (writes writes_mid : ℕ)
        (h : WritesLines things old mid p writes writes_mid) where
      -- what is written of a further line, by what was written before
      further : (line : Line B) → line_texts telling (no_line telling) (h.lines ++ line ∷ [])
          ≡ line_texts telling (no_line telling) h.lines ++ texts_of telling p line
      further line =
          texts_then telling (no_line telling) h.lines line
          ∙ ap (λ q. line_texts telling (no_line telling) h.lines ++ texts_of telling q line) (sym h.progress_is)

      -- the next line was written
      pub more_lines : (p_after : Progress T) (writes_after : ℕ)
          → WritesLine IsLineOf telling thing mid new p p_after writes_mid writes_after
          → WritesLines (things ++ thing ∷ []) old new p_after writes writes_after
      more_lines p_after writes_after one =
          record {
            lines = h.lines ++ one.line ∷ [];
            lines_of = lines_of_on things h.lines thing one.line h.lines_of one.line_of;
            sent = subst (λ ts. Sent ts old new writes writes_after) (sym (further one.line))
                (both_sent (line_texts telling (no_line telling) h.lines) (texts_of telling p one.line) old mid new writes writes_mid
                writes_after h.sent one.sent);
            progress_is =
                one.progress_is ∙ ap (λ q. gone_with telling q one.line) h.progress_is
                ∙ sym (gone_then telling (no_line telling) h.lines one.line);
          }

      -- a prefix of the next line was written
      pub cut_lines : WritesLinePrefix IsLineOf telling thing mid new p → ReportsPrefix IsLineOf telling (things ++ thing ∷ []) old new
      cut_lines one =
          let lines : List (Line B) = h.lines ++ one.line ∷ [] in
          let cut : AppendsPrefix old new (joined (line_texts telling (no_line telling) lines)) =
          subst (λ ts. AppendsPrefix old new (joined ts)) (sym (further one.line))
          (both_cut (line_texts telling (no_line telling) h.lines) (texts_of telling p one.line) old mid new writes writes_mid writes_mid
          h.sent one.written) in
          record {
            lines = lines;
            lines_of = lines_of_on things h.lines thing one.line h.lines_of one.line_of;
            written = first_cut (line_texts telling (no_line telling) lines)
                (summary_of telling.last (gone_on telling (no_line telling) lines)) old new cut;
          }

    -- ---- the summary

    module _ (things : List A) (old mid new : Option (List ℕ)) (p : Progress T) (writes writes_mid : ℕ)
        (h : WritesLines things old mid p writes writes_mid) (texts : T → List (List ℕ)) (told : telling.last ≡ texts) where
      same : all_texts telling h.lines ≡ line_texts telling (no_line telling) h.lines ++ summary_of texts p
      same =
          ap (λ q. line_texts telling (no_line telling) h.lines ++ summary_of telling.last q) (sym h.progress_is)
          ∙ ap (λ last. line_texts telling (no_line telling) h.lines ++ summary_of last p) told

      pub with_summary : (writes_after : ℕ) → Sent (summary_of texts p) mid new writes_mid writes_after
          → Reports IsLineOf telling things old new writes writes_after p.worst
      with_summary writes_after last =
          let sent = subst (λ ts. Sent ts old new writes writes_after) (sym same)
          (both_sent (line_texts telling (no_line telling) h.lines) (summary_of texts p) old mid new writes writes_mid writes_after
          h.sent last) in
          record {
            lines = h.lines;
            lines_of = h.lines_of;
            written = sent.written;
            one_write = sent.one_write;
            outcome_is =
                ap (λ (q : Progress T). q.worst) h.progress_is;
          }

      pub cut_summary : AppendsPrefix mid new (joined (summary_of texts p)) → ReportsPrefix IsLineOf telling things old new
      cut_summary text =
          record {
            lines = h.lines;
            lines_of = h.lines_of;
            written = subst (λ ts. AppendsPrefix old new (joined ts)) (sym same)
                (both_cut (line_texts telling (no_line telling) h.lines) (summary_of texts p) old mid new writes writes_mid writes_mid
                h.sent text);
          }

-- ---- lines of one who tells the same

module _ {A B T : Type 0} (First Later : A → Line B → Type 0) (telling later : Telling B T) (same : later ≡ telling)
    (alike : TellsAlike First Later) where
  pub line_alike : (thing : A) (old new : Option (List ℕ)) (p p_after : Progress T) (writes writes_after : ℕ)
      → WritesLine Later later thing old new p p_after writes writes_after
      → WritesLine First telling thing old new p p_after writes writes_after
  line_alike thing old new p p_after writes writes_after w =
      subst (λ t. WritesLine First t thing old new p p_after writes writes_after) same
      (record { line = w.line; line_of = alike thing w.line w.line_of; sent = w.sent; progress_is = w.progress_is })

  pub cut_alike : (thing : A) (old new : Option (List ℕ)) (p : Progress T) → WritesLinePrefix Later later thing old new p
      → WritesLinePrefix First telling thing old new p
  cut_alike thing old new p w =
      subst (λ t. WritesLinePrefix First t thing old new p) same
      (record { line = w.line; line_of = alike thing w.line w.line_of; written = w.written })

-- ---- a line that is told

module _ {A B T : Type 0} (IsLineOf : A → Line B → Type 0) (telling : Telling B T) (thing : A) (line : Line B) (of : IsLineOf thing line)
    (p : Progress T) (end : Outcome) (text : List ℕ) (ends : end ≡ telling.outcome line.answer)
    (says : text ≡ line.name ++ telling.text line.answer) (old new : Option (List ℕ)) where
  texts : told p end text ≡ texts_of telling p line
  texts = ap (λ e. told p e text) ends ∙ ap (told p (telling.outcome line.answer)) says

  pub line_told : (writes writes_after : ℕ) → Sent (told p end text) old new writes writes_after → (p_after : Progress T)
      → p_after ≡ gone p end (telling.add p.tally line) → WritesLine IsLineOf telling thing old new p p_after writes writes_after
  line_told writes writes_after sent p_after is =
      record {
        line = line;
        line_of = of;
        sent = subst (λ ts. Sent ts old new writes writes_after) texts sent;
        progress_is = is ∙ ap (λ e. gone p e (telling.add p.tally line)) ends;
      }

  pub cut_told : AppendsPrefix old new (joined (told p end text)) → WritesLinePrefix IsLineOf telling thing old new p
  cut_told cut = record { line = line; line_of = of; written = subst (λ ts. AppendsPrefix old new (joined ts)) texts cut }
