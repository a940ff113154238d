use Rattle.dvg_spelling.proofs.Common.{◌≡◌, ◌++◌, string_bytes, take, rows_text}
use Rattle.dvg_spelling.proofs.rules.push_rows.Given as goal

abbrev pub invariant-loop-rule : goal.invariant-loop-rule
invariant-loop-rule l = string_bytes l.text ≡ string_bytes l.initial.text ++ rows_text (take l.rule-index l.rules)
