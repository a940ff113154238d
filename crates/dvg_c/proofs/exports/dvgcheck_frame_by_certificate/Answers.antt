use Rattle.std.specs.Prelude.{Result, IfOk}
use Rattle.std.proofs.Common.{subst}
use Rattle.dvg_words.specs.Values.{IsFor}
use Rattle.dvg_check.specs.declared.verdict.Yes.{Yes}
use Rattle.dvg_check.specs.declared.verdict.Refusal.{Refusal}
use Rattle.dvg_verdict.specs.Verdict.{VerdictOn, MeansOn}
use Rattle.dvg_c.specs.Told.{window_of}
use Rattle.dvg_c.proofs.exports.dvgcheck_frame_by_certificate.Goals as goal

pub returns-clause-verdict : goal.returns-clause-verdict
returns-clause-verdict c =
    let machine_is = c.in-Some.ensures.0 in
    let mode_is = c.in-Some-mode_numbered.ensures.0 in
    let window_is = c.in-Some-window_for.ensures.0 in
    record {
      no_machine = λ none. absurd (none c.in-Some.ensures.1);
      no_mode = λ _ none. absurd (none c.in-Some-mode_numbered.ensures.1);
      no_window = λ _ _ none. absurd (none (coe 0 1 (i. IsFor (machine_is i) (window_of c.args.window)) c.in-Some-window_for.ensures.1));
      judged = λ _ _ _. (
        c.check_on.result,
        coe 0 1 (i. VerdictOn (machine_is i) (mode_is i) (window_is i) c.args.rom.now c.args.cert.now c.args.frame.now c.args.budget
            c.check_on.result) c.check_on.ensures.verdict,
        c.answer_of.ensures.value,
      );
    }

pub returns-clause-means : goal.returns-clause-means
returns-clause-means c = λ zero.
    let machine_is = c.in-Some.ensures.0 in
    let mode_is = c.in-Some-mode_numbered.ensures.0 in
    let window_is = c.in-Some-window_for.ensures.0 in
    let means = subst (λ (v : Result Yes Refusal). IfOk v
    (λ yes. MeansOn c.in-Some.machine c.in-Some-mode_numbered.mode c.in-Some-window_for.window c.args.rom.now c.args.cert.now
    c.args.frame.now yes.words yes.depth)) (c.answer_of.ensures.accepted zero) c.check_on.ensures.means in
    coe 0 1 (i. MeansOn (machine_is i) (mode_is i) (window_is i) c.args.rom.now c.args.cert.now c.args.frame.now c.answer_of.result.words
    c.answer_of.result.depth) means
