use Rattle.std.proofs.Common.{◌≡◌, ◌∙◌, ◌+◌, ◌++◌, ◌∷◌, [], ap, length, rules, subst, sym}
use Rattle.std.proofs.lemmas.List.{length-append}
use Rattle.ctt_script.specs.Journals.{entry_form}
use Rattle.ctt_script.specs.JournalWords.{missing_word}
use Rattle.ctt_log.specs.Recovery.{AreEntries}
use Rattle.ctt_log.proofs.CutLemmas.{one_more_block}
use Rattle.ctt_log.proofs.blocks.read_whole.Goals as goal

pub loop-preserved : goal.loop-preserved
loop-preserved c =
    let i = c.args.instance.now in
    let before = c.loop.entries.items in
    let items : c.push.new.self.items ≡ before ++ c.in-Ok.entry ∷ [] = search rules in
    let more : AreEntries i c.args.reader.now (before ++ c.in-Ok.entry ∷ []) c.read_entry.new.reader =
    one_more_block missing_word (entry_form i) c.args.reader.now c.loop.reader c.read_entry.new.reader before c.in-Ok.entry c.loop.invariant.0 c.in-Ok.ensures in (
      subst (λ entries. AreEntries i c.args.reader.now entries c.read_entry.new.reader) (sym items) more,
      ap length items ∙ length-append before (c.in-Ok.entry ∷ []) ∙ ap (λ n. n + 1) c.loop.invariant.1,
    )
