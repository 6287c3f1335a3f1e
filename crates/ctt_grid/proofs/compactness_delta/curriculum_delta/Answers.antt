use Rattle.std.proofs.Common.{◌∙◌, arith}
use Rattle.ctt_grid.specs.Seen.{seen_curriculum}
use Rattle.ctt_grid.proofs.CompactnessLemmas.{stands_is}
use Rattle.ctt_grid.proofs.compactness_delta.curriculum_delta.Goals as goal

pub returns-clause-alone : goal.returns-clause-alone
returns-clause-alone c = c.one_if_none.ensures.value ∙ stands_is c.args.instance.now (seen_curriculum c.args.instance.now c.args.counts.now c.args.curriculum) c.args.slot _ (omega (arith, c.before-before.ensures.value, c.after-after.ensures.value))
