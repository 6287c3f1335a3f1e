use Rattle.std.proofs.Common.{rules, sym, subst}
use Rattle.std.specs.List.{AllByRecursion as Each}
use Rattle.ctt_core.specs.Entries.{EntryFits}
use Rattle.ctt_core.proofs.auditing.found_on.Goals as goal

pub run_entries-requires : goal.run_entries-requires
run_entries-requires g c κs =
    let fit : Each (EntryFits (g.S.Rooms.problem c.in-Ok.sheet)) c.args.entries.now = subst (λ i. Each (EntryFits i) c.args.entries.now) (sym c.in-Ok.ensures.problem) c.requires.entries in
    search rules
