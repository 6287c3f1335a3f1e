use Rattle.std.proofs.Common.{arith}
use Rattle.std.proofs.lemmas.Grind.{common_steps}
use Rattle.ctt_script.specs.WrittenWords.{edit_words, fault_words}
use Rattle.ctt_script.proofs.WrittenText.{edit_joined, fault_joined}
use Rattle.ctt_office.proofs.RedoLemmas.{parts_joined}
use Rattle.ctt_office.proofs.redoing.push_left_out.Goals as goal

pub returns : goal.returns
returns c =
    let i = c.args.instance.now in
    let both = parts_joined (edit_words i c.args.edit.now) (fault_words i c.args.fault.now) in
    let edit = edit_joined i c.args.edit.now in
    let fault = fault_joined i c.args.fault.now in
    grind (arith, common_steps, both, edit, fault)
