use Rattle.std.proofs.Common.{refl}
use Rattle.ctt_grid.proofs.CompactnessLemmas.{left_none}
use Rattle.ctt_grid.proofs.counts_after.CountsAfter.remove.Goals as goal

pub cost_delta-requires-clause-own : goal.cost_delta-requires-clause-own
cost_delta-requires-clause-own c =
    let v = c.args.self.now in
    left_none c.args.instance.now c.args.lecture.now v (record { base = v.base; removed = c.push.new.self; added = v.added }) refl refl c.push.ensures.items c.requires.own
