use Rattle.std.proofs.Common.{◌≡◌, ◌∙◌, ◌+◌, ap, arith, length}
use Rattle.std.specs.Vec.{vec_len}
use Rattle.ctt_seat.proofs.PlannerLemmas.{planners_many}
use Rattle.ctt_office.proofs.ClosingLemmas.{is_last_there, without_last}
use Rattle.ctt_office.proofs.closing.desk_named.Goals as goal

pub unwrap-planner-requires : goal.unwrap-planner-requires
unwrap-planner-requires g c =
    let count = c.args.count in
    let many : vec_len c.in_ok-desk.planners ≡ count = c.in_ok-desk.planners.ok.0 ∙ ap length c.in_ok-desk.ensures.planners ∙ planners_many count in
    is_last_there c.pop.result (vec_len c.in_ok-desk.planners) count c.pop.ensures.variant many c.requires.some

pub returns-clause-planners : goal.returns-clause-planners
returns-clause-planners g c =
    let count = c.args.count in
    let many : vec_len c.in_ok-desk.planners ≡ count = c.in_ok-desk.planners.ok.0 ∙ ap length c.in_ok-desk.ensures.planners ∙ planners_many count in
    let less : vec_len c.pop.new.self + 1 ≡ count = without_last c.pop.result (vec_len c.in_ok-desk.planners) (vec_len c.pop.new.self) count c.pop.ensures.variant c.pop.ensures.len many c.requires.some in
    let long : vec_len c.pop.new.self ≡ length c.pop.new.self.items = c.pop.new.self.ok.0 in
    omega (arith, less, long)
