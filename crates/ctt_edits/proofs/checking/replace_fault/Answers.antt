use Rattle.ctt_board.proofs.LawfulLemmas.{without_lawful}
use Rattle.ctt_edits.proofs.checking.replace_fault.Goals as goal

pub new-after-requires-clause-lawful : goal.new-after-requires-clause-lawful
new-after-requires-clause-lawful g c = rw (c.instance-instance.ensures, c.removal.ensures) (without_lawful (g.S.Rooms.problem c.args.sheet.now) (g.S.Rooms.list c.args.sheet.now) c.args.course c.args.slot c.lawful.ensures)
