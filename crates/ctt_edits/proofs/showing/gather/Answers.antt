use Rattle.std.proofs.Common.{rules, ◌≡◌, ◌<◌, ◌∙◌, ℕ, List, sym, ap, subst, arith}
use Rattle.std.specs.List.{AllByRecursion as Each}
use Rattle.ctt_problem.specs.Marks.{is_marked}
use Rattle.ctt_problem.specs.Problem.{Problem, course_count}
use Rattle.ctt_problem.specs.Timetable.{course_row}
use Rattle.ctt_problem.specs.declared.placed.Placed.{Placed}
use Rattle.ctt_rules.proofs.TimetableLemmas.{courses_fit}
use Rattle.ctt_edits.proofs.GatherLemmas.{part_more, part_done, part_none, part_within}
use Rattle.ctt_edits.proofs.showing.gather.Goals as goal

pub loop-number-init : goal.loop-number-init
loop-number-init g c =
    let t : List Placed = g.S.Rooms.list c.args.sheet.now in
    (c.new-list.ensures.items ∙ sym (part_none (is_marked c.args.courses.now) t), omega arith)

pub loop-number-preserved : goal.loop-number-preserved
loop-number-preserved g c =
    let t : List Placed = g.S.Rooms.list c.args.sheet.now in
    let p = is_marked c.args.courses.now in
    let last : ℕ = c.in-Some.number in
    let end : ℕ = c.courses-end.result in
    let same : c.new.result ≡ last = search rules in
    let within : last < end = part_within p c.loop-number.from end last c.in-Some.ensures in (
      part_more p c.loop-number.from end last t c.loop-number.list.items (course_row c.new.result t) c.append_course_row.new.list.items
          c.lawful.ensures.timetable.ascending c.in-Some.ensures c.loop-number.invariant.0 (ap (λ n. course_row n t) same) c.in_ok-append_course_row.ensures.row,
      omega (arith, within, c.courses-end.ensures.exact, ap course_count c.instance.ensures),
    )

pub returns : goal.returns
returns g c =
    let i : Problem = g.S.Rooms.problem c.args.sheet.now in
    let t : List Placed = g.S.Rooms.list c.args.sheet.now in
    let end : course_count i ≡ c.courses-end.result = sym (c.courses-end.ensures.exact ∙ ap course_count c.instance.ensures) in
    part_done (is_marked c.args.courses.now) c.loop-number.from c.courses-end.result t c.loop-number.list.items
    (subst (λ n. Each (λ (l : Placed). l.course < n) t) end (courses_fit i t c.lawful.ensures.timetable)) (omega (arith, end, c.loop-number.invariant.1)) c.in_default.ensures c.loop-number.invariant.0
