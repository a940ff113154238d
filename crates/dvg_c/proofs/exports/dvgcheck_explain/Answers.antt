use Rattle.dvg_c.proofs.Common.{◌∙◌, Ok, Err, refl, ap, subst, IsPut}
use Rattle.std.proofs.Common.{inl, inr}
use Rattle.dvg_c.proofs.exports.dvgcheck_explain.Goals as goal

pub returns-in-Some : goal.returns-in-Some
returns-in-Some c =
    record {
      verdict = Ok c.verdict-verdict.result.0;
      holds = c.in-Ok.ensures.ok c.args.frame.now c.verdict-verdict.result.0 c.verdict-verdict.ensures.verdict
          c.verdict-verdict.ensures.told;
      answer_is = c.put_text.ensures.answer ∙ c.own_answer-answer.ensures.value;
      frame_is = c.put_text.ensures.frame;
      told = inl (
        c.in-Some.account.items,
        c.in-Some.ensures,
        subst (λ text. IsPut text c.args.text.now c.put_text.new.buffer c.put_text.result) c.deref.ensures.value c.put_text.ensures.put,
      );
    }

pub returns-in-Ok : goal.returns-in-Ok
returns-in-Ok c =
    record {
      verdict = Ok c.verdict-verdict.result.0;
      holds = c.in-Ok.ensures.ok c.args.frame.now c.verdict-verdict.result.0 c.verdict-verdict.ensures.verdict
          c.verdict-verdict.ensures.told;
      answer_is = ap (λ t. t.answer) c.no_text.ensures ∙ c.own_answer-answer.ensures.value;
      frame_is = ap (λ t. t.frame) c.no_text.ensures;
      told = inr (ap (λ t. t.number) c.no_text.ensures, ap (λ t. t.length) c.no_text.ensures, refl);
    }

pub returns : goal.returns
returns c =
    record {
      verdict = Err c.in-Err.answer.number;
      holds = c.in-Err.ensures.err;
      answer_is = ap (λ t. t.answer) c.no_text-in-Err.ensures ∙ c.in-Err.ensures.alone;
      frame_is = ap (λ t. t.frame) c.no_text-in-Err.ensures;
      told = (ap (λ t. t.number) c.no_text-in-Err.ensures, ap (λ t. t.length) c.no_text-in-Err.ensures, refl);
    }
