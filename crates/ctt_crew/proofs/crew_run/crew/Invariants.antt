use Rattle.ctt_crew.proofs.crew_run.crew.Given as goal

-- the desk is named by its opening
abbrev pub ghosts-crew_named : goal.ghosts-crew_named
ghosts-crew_named g a = record { problem = a.opened.problem; opening = a.opened.list; planners = a.count; book = a.opened.book }
