use Rattle.std.proofs.Common.{◌≡◌, ◌∙◌, inl, refl, sym}
use Rattle.std.specs.String.{string_bytes}
use Rattle.ctt_text.specs.SolutionLaws.{IsSolutionCauseOf}
use Rattle.ctt_files.specs.Faults.{IsSolutionFault}
use Rattle.ctt_files.specs.Refusals.{IsNoText, IsOfSolution}
use Rattle.ctt_files.specs.Texts.{IsNoSolution}
use Rattle.ctt_files.specs.declared.fault.Fault.TheVariants.{Machine}
use Rattle.ctt_files.specs.declared.fault.MachineFault.TheVariants.{NoMemory}
use Rattle.ctt_files.proofs.Causes.{no_solution}
use Rattle.ctt_files.proofs.Plain.{memory_of_file, of_text, passed_on}
use Rattle.ctt_files.proofs.texts.fetch_solution.Goals as goal

pub returns-clause-cause : goal.returns-clause-cause
returns-clause-cause g c =
    let held = g.F.Files.held c.args.files.now in
    let name = c.args.name in
    let problem = c.args.instance.now in
    let bytes = c.deref.result.now in
    let file : c.deref-in-Err.result.now ≡ string_bytes name = c.deref-in-Err.ensures ∙ c.in_ok-file.ensures.cases in
    let text : c.deref-in-Err-2.result.now ≡ bytes = c.deref-in-Err-2.ensures.value ∙ sym c.deref.ensures.value in
    let tells : IsSolutionFault (string_bytes name) bytes c.in-Err.met c.refuse_solution.result = rw (file, text) at c.refuse_solution.ensures in
    of_text (IsNoText (IsSolutionFault (string_bytes name)) (IsSolutionCauseOf problem) (IsNoSolution problem)) held name c.refuse_solution.result bytes c.in_ok-text.text.items
    (no_solution (string_bytes name) c.in-Err.met problem bytes c.refuse_solution.result c.in-Err.ensures.fault c.in-Err.ensures.accepted tells) c.deref.ensures.value c.in_ok-text.ensures.all

pub returns-in_err-file-clause-cause : goal.returns-in_err-file-clause-cause
returns-in_err-file-clause-cause g c =
    let held = g.F.Files.held c.args.files.now in
    passed_on c.from_residual.result (Machine NoMemory) (IsOfSolution c.args.name held c.args.instance.now) c.from_residual.ensures.1 (inl (memory_of_file held c.args.name (Machine NoMemory) refl))

pub returns-in_err-text-clause-cause : goal.returns-in_err-text-clause-cause
returns-in_err-text-clause-cause g c =
    passed_on c.from_residual-in_err-text.result c.in_err-text.field-0.0 (IsOfSolution c.args.name (g.F.Files.held c.args.files.now) c.args.instance.now) c.from_residual-in_err-text.ensures.1 (inl c.in_err-text.ensures.cause)
