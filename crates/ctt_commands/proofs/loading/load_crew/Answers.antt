use Rattle.std.proofs.Common.{rules, ◌≤◌, inl, inr, length}
use Rattle.ctt_files.proofs.Plain.{passed_on}
use Rattle.ctt_words.specs.declared.job.Command.TheVariants as command
use Rattle.ctt_commands.specs.Commands.{IsUnloaded}
use Rattle.ctt_commands.proofs.loading.load_crew.Goals as goal

pub returns-in_err-instance-clause-cause : goal.returns-in_err-instance-clause-cause
returns-in_err-instance-clause-cause g c =
    let few : length c.args.scripts.items ≤ 64 = search rules in
    passed_on c.from_residual.result c.in_err-instance.field-0.0 (IsUnloaded (command.Crew c.args.instance c.args.sides c.args.scripts) (g.F.Files.held c.args.files.now)) c.from_residual.ensures.1
    (inr (few, inl c.in_err-instance.ensures.cause))
