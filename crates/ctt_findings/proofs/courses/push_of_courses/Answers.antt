use Rattle.std.proofs.Common.{◌≡◌, ◌∙◌, ap}
use Rattle.std.specs.Option.{option_to_list}
use Rattle.ctt_problem.specs.Timetable.{course_row}
use Rattle.ctt_findings.proofs.GrowLemmas.{number_more}
use Rattle.ctt_findings.proofs.courses.push_of_courses.Goals as goal

pub loop-number-preserved : goal.loop-number-preserved
loop-number-preserved g c =
    let i = c.args.instance.now in
    let t = c.args.timetable.now in
    let is : option_to_list c.find.result ≡ option_to_list (g.K.OfCourse.finding i c.loop-number.number (course_row c.loop-number.number t)) =
    ap option_to_list (c.find.ensures ∙ ap (λ n. g.K.OfCourse.finding i n (course_row n t)) c.new.ensures) in
    number_more c.args.found.now.items c.loop-number.found.items c.push_some.new.list.items (λ n. option_to_list (g.K.OfCourse.finding i n (course_row n t))) c.loop-number.number (option_to_list c.find.result) is
    c.loop-number.invariant c.in_ok-push_some.ensures
