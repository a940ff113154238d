use Rattle.dvg_check.proofs.CourseExample.{worked_course as law}
use Rattle.dvg_check.proofs.laws.worked_course.Goals as goal

pub returns : goal.returns
returns c = law
