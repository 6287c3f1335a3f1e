use Rattle.std.proofs.Common.{sym, rules}
use Rattle.ctt_script.proofs.ScriptLaws.{first_line_cut}
use Rattle.ctt_script.proofs.lines.LinesIterator.next.Goals as goal

pub returns-in-Some-clause-steps : goal.returns-in-Some-clause-steps
returns-in-Some-clause-steps c = rw (← c.self.view_is, c.if-self.false) (first_line_cut c.self.inside.rest.now c.in-Some.end (sym c.in-Some.ensures))

pub returns-in-Some-clause-goes : goal.returns-in-Some-clause-goes
returns-in-Some-clause-goes c =
    let parts = first_line_cut c.self.inside.rest.now c.in-Some.end (sym c.in-Some.ensures) in
    rw (← c.self.view_is, c.if-self.false, parts) (search rules)
