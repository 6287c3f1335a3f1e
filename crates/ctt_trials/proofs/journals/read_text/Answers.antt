use Rattle.std.proofs.Common.{rules}
use Rattle.std.specs.List.{AllByRecursion as Each}
use Rattle.ctt_core.specs.Entries.{EntryFits}
use Rattle.ctt_trials.proofs.journals.read_text.Goals as goal

pub tell_entries-requires : goal.tell_entries-requires
tell_entries-requires g c κs =
    let entries : Each (EntryFits c.args.script.now.small.now) c.in-Ok.entries.items = c.in-Ok.ensures in
    search rules
