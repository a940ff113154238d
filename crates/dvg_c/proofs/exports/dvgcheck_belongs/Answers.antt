use Rattle.dvg_c.specs.Recipes.{MemberVerdict}
use Rattle.dvg_c.proofs.exports.dvgcheck_belongs.Goals as goal

pub returns-in-Some : goal.returns-in-Some
returns-in-Some c =
    let map_is = c.in-Some.ensures.0 in
    record {
      verdict = record {
        no_map = λ none. absurd (none c.in-Some.ensures.1);
        judged = λ _. (
          c.membership_in.result,
          coe 0 1 (i. MemberVerdict c.args.rom.now (map_is i) c.args.frame.now c.membership_in.result) c.membership_in.ensures,
          c.member_answer_of.ensures,
        );
      };
    }

pub returns-in-None : goal.returns-in-None
returns-in-None c =
    record { verdict = record { no_map = λ _. c.recipe_numbered.ensures; judged = λ is_map. absurd (c.in-None.ensures is_map) } }
