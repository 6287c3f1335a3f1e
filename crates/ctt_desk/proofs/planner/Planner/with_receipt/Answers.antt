use Rattle.std.proofs.Common.{◌≡◌, ap, arith}
use Rattle.ctt_desk.specs.Planners.{PlannerValue}
use Rattle.ctt_desk.proofs.CountLemmas.{own-fewer}
use Rattle.ctt_desk.proofs.planner.Planner.with_receipt.Goals as goal

pub prove-unreachable-requires : goal.prove-unreachable-requires
prove-unreachable-requires g c =
    let same : c.self.inside.committed ≡ c.args.self.committed = ap (λ (p : PlannerValue). p.committed) c.self.view_is in
    omega (arith, c.requires, same, own-fewer c.args.self.number c.args.front, c.len-seen.ensures.length, c.if-prove.true)
