use Rattle.ctt_text.proofs.SolutionLaws.{spells_one_timetable}
use Rattle.ctt_text.proofs.text_laws.spells_one_timetable.Goals as goal

pub returns : goal.returns
returns c = spells_one_timetable
