use Rattle.std.proofs.Common.{◌≡◌}
use Rattle.ctt_problem.specs.Timetable.{without}
use Rattle.ctt_grid.specs.Grids.{timetable_in, AreTables}
use Rattle.ctt_grid.proofs.CountsLemmas.{counts_less}
use Rattle.ctt_board.proofs.LawfulLemmas.{without_lawful}
use Rattle.ctt_board.proofs.MoreLemmas.{more_without}
use Rattle.ctt_grid.proofs.SheetLemmas.{has_lecture, places, made_of}
use Rattle.ctt_grid.proofs.tables.Tables.remove.Goals.{After-lift}
use Rattle.ctt_grid.proofs.tables.Tables.remove.Goals as goal

pub take-requires-clause-there : goal.take-requires-clause-there
take-requires-clause-there c = has_lecture c.args.instance.now c.args.self.now c.args.lecture.now c.limits_hold.ensures c.requires.tables c.requires.fits c.requires.there

module _ (c : After-lift) where
  whole : AreTables c.args.instance.now c.lift.new.self × (timetable_in c.args.instance.now c.lift.new.self.rooms ≡ without c.args.lecture.now.course c.args.lecture.now.slot (timetable_in c.args.instance.now c.args.self.now.rooms))
  whole =
      let i = c.args.instance.now in
      let l = c.args.lecture.now in
      let g = c.args.self.now in
      let t = timetable_in i g.rooms in
      let left = without l.course l.slot t in
      let more = more_without l.course l.slot l.room t c.requires.tables.lawful.timetable.ascending c.requires.there in
      let lifted = c.lift.ensures.places t (places i g c.take.new.self c.requires.tables) c.requires.there c.requires.tables.lawful in
      made_of i left c.lift.new.self c.take.new.self (without_lawful i t l.course l.slot c.requires.tables.lawful) lifted c.lift.ensures.counts (counts_less i l left t more c.requires.fits c.take.new.self g.counts c.take.ensures.counts c.requires.tables.lawful c.take.ensures.curricula c.requires.tables.counts_are)

pub returns-clause-tables : goal.returns-clause-tables
returns-clause-tables c = (whole c).0

pub returns-clause-list : goal.returns-clause-list
returns-clause-list c = (whole c).1
