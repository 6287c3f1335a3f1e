use Rattle.ctt_tests.proofs.learnt_tests.played_on_grid.Given as goal

-- the desk that was just opened
abbrev pub ghosts-play : goal.ghosts-play
ghosts-play g a = record { problem = a.opened.problem; opening = a.opened.list; planners = a.count; book = a.opened.book }
