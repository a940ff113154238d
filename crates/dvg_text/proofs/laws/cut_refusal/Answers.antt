use Rattle.dvg_text.proofs.Common.{Err, ◌++◌, ◌≢◌, Unended}
use Rattle.dvg_text.proofs.TextLaws.{answers_once, open_end, refusal_stays}
use Rattle.dvg_text.proofs.laws.cut_refusal.Goals as goal

pub returns : goal.returns
returns c = λ text piece after new f answer h never k m.
    let not_end : f.why ≢ Unended = λ e. never (h.1 (open_end (text ++ piece) f h.0 e)) in
    answers_once ((text ++ piece) ++ after) answer (Err f) k m (refusal_stays f.why (text ++ piece) after f.line h.0 not_end) never
