use Rattle.ctt_trials.proofs.scripts.ran.Goals as goal

pub run_script-requires-clause-fit : goal.run_script-requires-clause-fit
run_script-requires-clause-fit c = c.args.script.now.timetable.fits
