use Rattle.std.proofs.Common.{rules, ◌≡◌, ◌∷◌, [], ◌++◌, length}
use Rattle.std.specs.Vec.{vec_capacity}
use Rattle.ctt_core.specs.Runs.{EventFits}
use Rattle.ctt_core.proofs.RanLemmas.{next_fits, ran_more}
use Rattle.ctt_core.proofs.desk.Desk.run.Goals as goal

pub step-answer-requires : goal.step-answer-requires
step-answer-requires g c κs =
    let fits : EventFits c.loop-event.self.problem (length c.loop-event.self.drafts) c.event-item.result = next_fits c.args.self.now _ c.args.events.now c.loop-event.event-index _ c.loop-event.invariant.same c.requires (search rules) (search rules) in
    search rules

pub loop-event-preserved : goal.loop-event-preserved
loop-event-preserved g c =
    let longer : c.push.new.self.items ≡ c.loop-event.answers.items ++ c.step-answer.result ∷ [] = search rules in
    ran_more c.args.self.now c.loop-event.self c.step-answer.new.self c.args.events.now c.loop-event.event-index c.loop-event.answers.items c.push.new.self.items (vec_capacity c.loop-event.answers) (vec_capacity c.push.new.self) c.event-item.result c.step-answer.result c.loop-event.invariant (search rules) (search rules) c.step-answer.ensures.same c.step-answer.ensures.stands longer (search rules)
