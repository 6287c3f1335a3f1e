use Rattle.std.proofs.Common.{arith, length}
use Rattle.std.specs.Fmt.{decimal}
use Rattle.std.specs.String.{string_bytes}
use Rattle.std.proofs.lemmas.Grind.{common_steps}
use Rattle.ctt_script.proofs.WrittenText.{items_begin}
use Rattle.ctt_script.proofs.answers.write_items.Goals as goal

pub loop-item-init : goal.loop-item-init
loop-item-init g c =
    let begin = items_begin (g.T.Item.words c.args.instance.now) c.args.items.now c.args.kind.now (decimal (length c.args.items.now)) (string_bytes c.args.text.now) in
    grind (arith, common_steps, begin)
