use Rattle.std.proofs.Common.{◌∙◌, codes}
use Rattle.std.proofs.lemmas.Result.{err_from_is_err_and}
use Rattle.ctt_text.specs.Places.{any, after}
use Rattle.ctt_text.specs.InstancePlaces.{two_counts, calendar, header, missing, wants_memory}
use Rattle.ctt_text.specs.declared.fault.ReadFault.TheVariants.{Expected}
use Rattle.ctt_text.proofs.Steps.{read_then, read_done, fails_there}
use Rattle.ctt_text.proofs.instance.header.read_header.Goals as goal

pub returns-clause-exact : goal.returns-clause-exact
unfolding header
returns-clause-exact c =
    read_then missing (after Expected (codes "Name:") any) _ c.args.reader.now c.read_name.new.reader c.in_ok-name.name.now c.in_ok-name.ensures
    ∙ read_then missing (two_counts (codes "Courses:") 2000 (codes "Rooms:") 1000) _ c.read_name.new.reader c.read_two_counts.new.reader (c.in_ok-courses.courses, c.in_ok-courses.rooms) c.in_ok-courses.ensures.exact
    ∙ read_then missing calendar _ c.read_two_counts.new.reader c.read_calendar.new.reader (c.in_ok-days.days, c.in_ok-days.periods) c.in_ok-days.ensures.exact
    ∙ read_then missing (two_counts (codes "Curricula:") 20000 (codes "Constraints:") 2000000) _ c.read_calendar.new.reader c.read_two_counts-2.new.reader (c.in_ok-curricula.curricula, c.in_ok-curricula.constraints) c.in_ok-curricula.ensures.exact
    ∙ read_done missing _ c.read_two_counts-2.new.reader

pub returns-in_err-curricula-clause-exact : goal.returns-in_err-curricula-clause-exact
unfolding header
returns-in_err-curricula-clause-exact c =
    let p = err_from_is_err_and c.from_residual-in_err-curricula.result c.from_residual-in_err-curricula.ensures.1 in
    rw (p.1, p.2)
    (fails_there missing wants_memory c.in_err-curricula.field-0.0 (two_counts (codes "Curricula:") 20000 (codes "Constraints:") 2000000) _ c.read_calendar.new.reader _
    (read_then missing (after Expected (codes "Name:") any) _ c.args.reader.now c.read_name.new.reader c.in_ok-name.name.now c.in_ok-name.ensures
    ∙ read_then missing (two_counts (codes "Courses:") 2000 (codes "Rooms:") 1000) _ c.read_name.new.reader c.read_two_counts.new.reader (c.in_ok-courses.courses, c.in_ok-courses.rooms) c.in_ok-courses.ensures.exact
    ∙ read_then missing calendar _ c.read_two_counts.new.reader c.read_calendar.new.reader (c.in_ok-days.days, c.in_ok-days.periods) c.in_ok-days.ensures.exact)
    c.in_err-curricula.ensures.exact)
