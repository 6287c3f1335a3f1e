use Rattle.std.proofs.Common.{◌≡◌, ◌∙◌, ap, map, refl, string_bytes, sym}
use Rattle.std.proofs.lemmas.List.{take_all}
use Rattle.ctt_commands.specs.Pairs.{firsts, name_pair, with_name}
use Rattle.ctt_commands.proofs.PairLemmas.{names_more}
use Rattle.ctt_commands.proofs.pairs.instances.Goals as goal

pub loop-pair-preserved : goal.loop-pair-preserved
loop-pair-preserved c =
    let added = rw c.deref.ensures at c.in_ok-add_name.ensures in
    added ∙ ap (with_name (string_bytes c.pair-item.result.instance)) c.loop-pair.invariant
    ∙ sym (names_more c.args.pairs.now c.loop-pair.pair-index c.pair-item.result c.loop-pair-test.true c.pair-item.is)
