use Rattle.ctt_trials.proofs.shared.play.Given as goal

-- the desk that was just opened
abbrev pub ghosts-play_opened : goal.ghosts-play_opened
ghosts-play_opened g a = record { problem = a.opened.problem; opening = a.opened.list; planners = a.count; book = a.opened.book }
