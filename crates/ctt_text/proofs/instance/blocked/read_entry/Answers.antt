use Rattle.std.proofs.Common.{Ok, sym, ap, ◌∙◌}
use Rattle.ctt_text.specs.BlockedPlaces.{closing, blocked_entry, ends_early}
use Rattle.ctt_text.proofs.Steps.{read_then, read_done}
use Rattle.ctt_text.proofs.ClosingLemmas.{closed_by}
use Rattle.ctt_text.proofs.instance.blocked.read_entry.Goals as goal

pub returns-clause-exact : goal.returns-clause-exact
unfolding blocked_entry
returns-clause-exact c =
    let i = c.args.instance.now in
    read_then ends_early (closing i) _ c.args.reader.now c.read_closing.new.reader c.in_ok-closing.closing c.in_ok-closing.ensures.exact
    ∙ read_done ends_early _ c.read_closing.new.reader
    ∙ ap (λ t. Ok (t, c.read_closing.new.reader)) (sym (closed_by i c.args.tables.now c.close.new.self c.in_ok-closing.closing c.requires.size c.close.ensures.closed c.close.ensures.blocked))
