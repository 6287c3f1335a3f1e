use Rattle.std.proofs.Common.{All, IsTrue, List, rules, subst}
use mathlib.Core.List.{IsPrefix}
use Rattle.ctt_core.specs.declared.journal.JournalEntry.{JournalEntry}
use Rattle.ctt_desk.specs.Planners.{PlannerValue}
use Rattle.ctt_desk.proofs.shared_desk.SharedDesk.close.Goals as goal

pub returns-then-begins_with_all-clause-ok : goal.returns-then-begins_with_all-clause-ok
returns-then-begins_with_all-clause-ok g c =
    let yes : IsTrue c.begins_with_all.result = search rules in
    subst (λ (l : List JournalEntry). All (λ (p : PlannerValue). IsPrefix p.front l) c.args.planners.now) c.front.ensures (c.begins_with_all.ensures.begins yes)
