use Rattle.std.proofs.Common.{rules, ⊎_elim, ap, inl, inr, subst, sym, Err}
use Rattle.std.proofs.Crossing.{crosses}
use denote.Param.Send.{sendable}
use Rattle.ctt_problem.proofs.ResultLemmas.{err_same}
use Rattle.ctt_problem.proofs.SharingLemmas.{instance_shared}
use Rattle.ctt_edits.specs.Openings.{opening}
use Rattle.ctt_script.specs.Entries.{IsWritable}
use Rattle.ctt_files.proofs.OutputLemmas.{on_err, whole_front}
use Rattle.ctt_commands.proofs.Openings.{answer_refused, answered_all, opened_or, run_fits, some_weaker}
use Rattle.ctt_commands.proofs.running.answer.Goals as goal

pub journal-requires : goal.journal-requires
journal-requires g c κs = (search (instance_shared, sendable, crosses) depth 60 fits 20000, (search (instance_shared, sendable, crosses) depth 60 fits 20000, search rules))

pub journal_if-journal-requires : goal.journal_if-journal-requires
journal_if-journal-requires g c = subst (IsWritable c.args.instance.now) (sym c.journal.ensures) c.in-Ok.ensures.entries

pub fault_of_run-requires : goal.fault_of_run-requires
fault_of_run-requires g c = run_fits c.args.instance.now c.args.lectures.now (g.R.Source.left c.args.script.now) c.in-Err.fault c.requires.fit c.in-Err.ensures.cause

pub returns-in_ok-journal-in-Ok-clause-answers : goal.returns-in_ok-journal-in-Ok-clause-answers
returns-in_ok-journal-in-Ok-clause-answers g c = (
  c.in-Ok.desk.opening,
  c.in-Ok.ensures.opening,
  answered_all (g.R.Source.left c.args.script.now) c.args.instance.now c.in-Ok.desk c.in-Ok.desk.opening _ _ c.args.wanted _ c.journal.result.now
      c.in-Ok.ensures.answers c.in-Ok.ensures.stands c.in-Ok.ensures.short c.journal.ensures c.in_ok-journal-in-Ok.ensures,
)

pub returns-in-Err-clause-cause : goal.returns-in-Err-clause-cause
returns-in-Err-clause-cause g c =
    answer_refused c.args.instance.now c.args.lectures.now c.args.name (g.R.Source.left c.args.script.now) c.in-Err.fault c.fault_of_run.result _ _ c.fault_of_run.ensures c.in-Err.ensures.cause
    (λ at found e. ⊎_elim (λ same. inl (err_same _ _ same)) (λ same. inr (err_same _ _ same)) (c.in-Err.ensures.refused at found e))
    (λ same. c.in-Err.ensures.failed (ap Err same)) (⊎_elim (λ same. inl (err_same _ _ same)) inr c.in-Err.ensures.unmarked)

pub returns-in-Err-clause-front : goal.returns-in-Err-clause-front
returns-in-Err-clause-front g c =
    opened_or (opening c.args.instance.now c.args.lectures.now) _ _ (λ at found e. (c.in-Err.ensures.unread at found e).1) c.in-Err.ensures.front

pub returns-in_err-journal-in-Ok-clause-front : goal.returns-in_err-journal-in-Ok-clause-front
returns-in_err-journal-in-Ok-clause-front g c =
    on_err c.from_residual.result (inr (c.in-Ok.desk.opening, c.in-Ok.ensures.opening, some_weaker (g.R.Source.left c.args.script.now) _ _ c.in-Ok.ensures.answers (λ text all. whole_front _ _ _ all)))
