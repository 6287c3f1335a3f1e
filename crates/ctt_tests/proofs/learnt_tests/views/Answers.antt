use Rattle.std.proofs.Common.{rules}
use Rattle.ctt_edits.specs.Looks.{LookFits}
use Rattle.ctt_tests.proofs.learnt_tests.views.Goals as goal

pub view-requires : goal.view-requires
view-requires g c κs =
    let fits : LookFits g.J.Naming.problem c.args.look.now = search rules in
    search rules
