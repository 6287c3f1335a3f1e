use Rattle.std.proofs.Common.{rules, sym, subst}
use Rattle.ctt_edits.specs.Patterns.{PatternFits}
use Rattle.ctt_edits.proofs.showing.slots_reply.Goals as goal

pub pattern_fault-requires : goal.pattern_fault-requires
pattern_fault-requires g c κs =
    let fits : PatternFits (g.S.Rooms.problem c.args.sheet.now) c.pattern.result = subst (PatternFits (g.S.Rooms.problem c.args.sheet.now)) (sym c.pattern.ensures) c.requires in
    search rules
