use Rattle.dvg_c.proofs.Common.{◌∙◌, Ok, Err, refl, ap, subst, of_each, root_of, IsPut}
use Rattle.std.proofs.Common.{inl, inr}
use Rattle.dvg_c.proofs.Made.{verdict_of}
use Rattle.dvg_c.proofs.exports.dvgcheck_make.Goals as goal

pub returns-in_default : goal.returns-in_default
returns-in_default c =
    record {
      verdict = Err c.text_numbered.result;
      holds = inl (ap Err c.text_numbered.ensures, c.in_default.ensures);
      told = (refl, refl);
    }

pub returns-in_default-map_between : goal.returns-in_default-map_between
returns-in_default-map_between c =
    record {
      verdict = Err c.text_numbered-in_default-map_between.result;
      holds = inr (inl (ap Err c.text_numbered-in_default-map_between.ensures, c.in-Some.ensures.1, c.in_default-map_between.ensures));
      told = (refl, refl);
    }

pub returns-in-Ok : goal.returns-in-Ok
returns-in-Ok c =
    record {
      verdict = Ok c.in-Ok.made.items;
      holds = verdict_of c.args.rom.now (of_each root_of c.args.roots.now) c.args.frames.now c.args.lengths.now c.in-Some.ensures
          c.in-Some-map_between.ensures (Ok c.in-Ok.made.items) c.in-Ok.ensures.ok;
      told = (
        c.put_text.ensures.answer ∙ c.numbered.ensures,
        c.put_text.ensures.frame,
        subst (λ text. IsPut text c.args.text.now c.put_text.new.buffer c.put_text.result) c.deref.ensures.value c.put_text.ensures.put,
      );
    }

pub returns-in-Err : goal.returns-in-Err
returns-in-Err c =
    record {
      verdict = Err c.in-Err.told;
      holds = verdict_of c.args.rom.now (of_each root_of c.args.roots.now) c.args.frames.now c.args.lengths.now c.in-Some.ensures
          c.in-Some-map_between.ensures (Err c.in-Err.told) c.in-Err.ensures.err;
      told = (refl, refl);
    }
