use Rattle.std.proofs.Common.{inl, refl, subst, sym, IfErr, OnOk}
use Rattle.std.proofs.lemmas.Result.{IfErr-weaker, IfOk-weaker}
use Rattle.ctt_files.proofs.Plain.{on_ok_weaker}
use Rattle.ctt_program.specs.Desks.{DoesDesk, StopsDesk}
use Rattle.ctt_program.specs.Jobs.{Does, Stops}
use Rattle.ctt_program.specs.Streams.{stream}
use Rattle.ctt_program.specs.declared.desk.DeskJob.{DeskJob}
use Rattle.ctt_program.proofs.Ends.{desk_does, run_does, run_stops}
use Rattle.ctt_program.proofs.jobs.do_job.Goals as goal

pub returns-in-Answer-clause-does : goal.returns-in-Answer-clause-does
returns-in-Answer-clause-does g c = IfOk-weaker c.do_command.result _ _ (λ outcome does. subst (λ job. Does job outcome (g.F.Files.held c.args.files.now) (g.F.Files.held c.do_command.new.files) (stream g.W.Sink.taken g.W.Sink.has_failed c.args.out.now c.do_command.new.out) (stream g.V.Sink.taken g.V.Sink.has_failed c.args.err.now c.do_command.new.err))
    (sym c.in-Answer.is) does) c.do_command.ensures.does

pub returns-in-Answer-clause-stops : goal.returns-in-Answer-clause-stops
returns-in-Answer-clause-stops g c = IfErr-weaker c.do_command.result _ _ (λ fault stops. subst (λ job. Stops job fault (g.F.Files.held c.args.files.now) (g.F.Files.held c.do_command.new.files) (stream g.W.Sink.taken g.W.Sink.has_failed c.args.out.now c.do_command.new.out) (stream g.V.Sink.taken g.V.Sink.has_failed c.args.err.now c.do_command.new.err))
    (sym c.in-Answer.is) stops) c.do_command.ensures.stops

pub returns-in-Run-clause-does : goal.returns-in-Run-clause-does
returns-in-Run-clause-does g c = IfOk-weaker c.run.result _ _ (λ outcome does. subst (λ job. Does job outcome (g.F.Files.held c.args.files.now) (g.F.Files.held c.run.new.files) (stream g.W.Sink.taken g.W.Sink.has_failed c.args.out.now c.run.new.out) (stream g.V.Sink.taken g.V.Sink.has_failed c.args.err.now c.args.err.now))
    (sym c.in-Run.is) does) (run_does c.run.result _ c.args.err.now c.run.ensures.done c.run.ensures.runs)

pub returns-in-Run-clause-stops : goal.returns-in-Run-clause-stops
returns-in-Run-clause-stops g c =
    let before = g.F.Files.held c.args.files.now in
    let after = g.F.Files.held c.run.new.files in
    let out = stream g.W.Sink.taken g.W.Sink.has_failed c.args.out.now c.run.new.out in
    let err = stream g.V.Sink.taken g.V.Sink.has_failed c.args.err.now c.args.err.now in
    IfErr-weaker c.run.result _ _ (λ fault stops. subst (λ job. Stops job fault before after out err) (sym c.in-Run.is) stops)
    (run_stops c.run.result c.in-Run.instance c.in-Run.sides c.in-Run.script c.in-Run.start c.in-Run.journal before after out err c.run.ensures.cause c.run.ensures.unwritten c.run.ensures.front c.run.ensures.unstored c.run.ensures.others refl)

pub returns-in-Desk-clause-does : goal.returns-in-Desk-clause-does
returns-in-Desk-clause-does g c =
    let before = g.F.Files.held c.args.files.now in
    let after = g.F.Files.held c.desk.new.files in
    let out = stream g.W.Sink.taken g.W.Sink.has_failed c.args.out.now c.desk.new.out in
    let err = stream g.V.Sink.taken g.V.Sink.has_failed c.args.err.now c.desk.new.err in
    IfOk-weaker c.desk.result _ _ (λ outcome does. subst (λ job. Does job outcome before after out err) (sym c.in-Desk.is) does)
    (desk_does c.desk.result c.in-Desk.instance c.in-Desk.sides (record { seats = c.in-Desk.seats; start = c.in-Desk.start; minutes = c.in-Desk.minutes }) before after out err c.desk.ensures.done
    (subst (λ (j : DeskJob). OnOk c.desk.result (DoesDesk j.instance j.sides j.plan before after out err)) c.new-asked.ensures c.desk.ensures.does))

pub returns-in-Desk-clause-stops : goal.returns-in-Desk-clause-stops
returns-in-Desk-clause-stops g c =
    let before = g.F.Files.held c.args.files.now in
    let after = g.F.Files.held c.desk.new.files in
    let out = stream g.W.Sink.taken g.W.Sink.has_failed c.args.out.now c.desk.new.out in
    let err = stream g.V.Sink.taken g.V.Sink.has_failed c.args.err.now c.desk.new.err in
    IfErr-weaker c.desk.result _ _ (λ fault stops. subst (λ job. Stops job fault before after out err) (sym c.in-Desk.is) stops)
    (subst (λ (j : DeskJob). IfErr c.desk.result (λ fault. StopsDesk j.instance j.sides j.plan fault before after out err)) c.new-asked.ensures c.desk.ensures.stops)

pub returns-in-Answer-clause-flushed : goal.returns-in-Answer-clause-flushed
returns-in-Answer-clause-flushed g c = on_ok_weaker c.do_command.result _ _ inl c.do_command.ensures.flushed

pub returns-in-Run-clause-flushed : goal.returns-in-Run-clause-flushed
returns-in-Run-clause-flushed g c = on_ok_weaker c.run.result _ _ inl c.run.ensures.flushed
