use Rattle.std.proofs.Common.{inl, inr, refl}
use Rattle.std.proofs.lemmas.Result.{IfErr-at_err, IfOk-at_ok}
use Rattle.ctt_files.proofs.Plain.{passed_on}
use Rattle.ctt_program.specs.Jobs.{StopsCommand}
use Rattle.ctt_program.specs.Streams.{stream}
use Rattle.ctt_program.proofs.Ends.{command_cut, command_does}
use Rattle.ctt_program.proofs.jobs.do_command.Goals as goal

pub returns-in_err-task-clause-stops : goal.returns-in_err-task-clause-stops
returns-in_err-task-clause-stops g c =
    let before = g.F.Files.held c.args.files.now in
    let after = g.F.Files.held c.load.new.files in
    let out = stream g.W.Sink.taken g.W.Sink.has_failed c.args.out.now c.args.out.now in
    let err = stream g.V.Sink.taken g.V.Sink.has_failed c.args.err.now c.args.err.now in
    let fault = c.in_err-task.field-0.0 in
    passed_on c.from_residual.result fault (λ told. StopsCommand c.args.command told before after out err) c.from_residual.ensures.1
    (record { cause = inl (inl c.in_err-task.ensures.cause, refl); quiet = refl; kept = c.in_err-task.ensures.kept })

pub returns-in-Err-clause-stops : goal.returns-in-Err-clause-stops
returns-in-Err-clause-stops g c =
    record { cause = inl (inr (c.in_ok-task.task, c.in_ok-task.ensures.loaded, IfErr-at_err _ c.in-Err.is c.act-acted.ensures.cause), refl); quiet = refl; kept = c.in_ok-task.ensures.kept }

pub returns-in-Ok-clause-does : goal.returns-in-Ok-clause-does
returns-in-Ok-clause-does g c =
    command_does c.args.command (g.F.Files.held c.args.files.now) (g.F.Files.held c.load.new.files) c.in_ok-task.task c.in-Ok.output (stream g.W.Sink.taken g.W.Sink.has_failed c.args.out.now c.deliver.new.out) (stream g.V.Sink.taken g.V.Sink.has_failed c.args.err.now c.deliver.new.err)
    c.deliver.result c.in_ok-task.ensures.loaded (IfOk-at_ok _ c.in-Ok.is c.act-acted.ensures.answers) c.in_ok-task.ensures.kept c.deliver.ensures.outcome c.deliver.ensures.prints c.deliver.ensures.says c.deliver.ensures.quiet

pub returns-in-Ok-clause-stops : goal.returns-in-Ok-clause-stops
returns-in-Ok-clause-stops g c =
    command_cut c.args.command (g.F.Files.held c.args.files.now) (g.F.Files.held c.load.new.files) c.in_ok-task.task c.in-Ok.output (stream g.W.Sink.taken g.W.Sink.has_failed c.args.out.now c.deliver.new.out) (stream g.V.Sink.taken g.V.Sink.has_failed c.args.err.now c.deliver.new.err)
    c.deliver.result c.in_ok-task.ensures.loaded (IfOk-at_ok _ c.in-Ok.is c.act-acted.ensures.answers) c.in_ok-task.ensures.kept c.deliver.ensures.fault c.deliver.ensures.front c.deliver.ensures.marked c.deliver.ensures.unsaid
