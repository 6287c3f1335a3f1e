use Rattle.std.proofs.Common.{◌≡◌, arith}
use Rattle.ctt_views.specs.Weeks.{lectures_in}
use Rattle.ctt_views.proofs.BySlotLemmas.{row_fits, row_read}
use Rattle.ctt_views.proofs.week.Week.row.Goals as goal

module _ (c : goal.After-deref) where
  -- the result is the lectures of the slot
  is : c.deref.result.now ≡ lectures_in c.args.self.now c.args.slot
  is = row_read (λ v. v.items) c.self.inside.slots.items c.args.self.now c.get.result c.args.slot c.index.result.now c.deref.result.now c.self.view_is c.get.ensures (omega (arith, c.requires.week.size, c.requires.slot)) c.index.ensures c.deref.ensures.value

pub returns-clause-row : goal.returns-clause-row
returns-clause-row c = is c

pub returns-clause-fits : goal.returns-clause-fits
returns-clause-fits c = row_fits c.args.instance.now c.args.self.now c.args.slot c.deref.result.now c.requires.week c.requires.slot (is c)
