use Rattle.ctt_text.proofs.SolutionLaws.{spelled_is_timetable}
use Rattle.ctt_text.proofs.text_laws.spelled_is_timetable.Goals as goal

pub returns : goal.returns
returns c = spelled_is_timetable
