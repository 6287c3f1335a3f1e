use Rattle.ctt_views.proofs.table.push_title.Goals as goal

pub returns-in-Curriculum : goal.returns-in-Curriculum
returns-in-Curriculum c = rw c.in-Curriculum.is (rw c.curriculum_name-name.ensures at c.writeln.ensures.bytes)
