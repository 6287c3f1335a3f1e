use Rattle.std.proofs.Common.{◌≡◌}
use Rattle.ctt_problem.specs.Timetable.{with}
use Rattle.ctt_grid.specs.Grids.{timetable_in, AreTables}
use Rattle.ctt_grid.proofs.CountsLemmas.{counts_more}
use Rattle.ctt_grid.proofs.FewLemmas.{have_room}
use Rattle.ctt_board.proofs.MoreLemmas.{more_with}
use Rattle.ctt_grid.proofs.SheetLemmas.{places, made_of}
use Rattle.ctt_grid.proofs.tables.Tables.add.Goals.{After-lay}
use Rattle.ctt_grid.proofs.tables.Tables.add.Goals as goal

pub add-requires-clause-room : goal.add-requires-clause-room
add-requires-clause-room c = have_room c.args.instance.now (timetable_in c.args.instance.now c.args.self.now.rooms) c.args.self.now.counts c.requires.tables.counts_are c.requires.tables.lawful.timetable c.limits_hold.ensures

module _ (c : After-lay) where
  whole : AreTables c.args.instance.now c.lay.new.self × (timetable_in c.args.instance.now c.lay.new.self.rooms ≡ with c.args.lecture.now (timetable_in c.args.instance.now c.args.self.now.rooms))
  whole =
      let i = c.args.instance.now in
      let l = c.args.lecture.now in
      let g = c.args.self.now in
      let t = timetable_in i g.rooms in
      let laid = c.lay.ensures.places t (places i g c.add.new.self c.requires.tables) c.requires.empty c.requires.lawful in
      made_of i (with l t) c.lay.new.self c.add.new.self c.requires.lawful laid c.lay.ensures.counts (counts_more i l t (with l t) (more_with l t) c.requires.fits g.counts c.add.new.self c.add.ensures.counts c.add.ensures.curricula c.requires.tables.counts_are)

pub returns-clause-tables : goal.returns-clause-tables
returns-clause-tables c = (whole c).0

pub returns-clause-list : goal.returns-clause-list
returns-clause-list c = (whole c).1
