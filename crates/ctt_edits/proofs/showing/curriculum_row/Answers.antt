use Rattle.std.proofs.Common.{◌≡◌, ◌<◌, ◌||◌, ◌∙◌, ℕ, IfOk, List, ap, ap₂, subst}
use Rattle.ctt_problem.specs.Lists.{has}
use Rattle.ctt_problem.specs.Marks.{is_marked}
use Rattle.ctt_problem.specs.Problem.{Problem, course_count, members}
use Rattle.ctt_problem.specs.declared.placed.Placed.{Placed}
use Rattle.ctt_rules.proofs.TimetableLemmas.{courses_fit}
use Rattle.ctt_edits.proofs.GatherLemmas.{part_marked}
use Rattle.ctt_edits.proofs.showing.curriculum_row.Goals as goal

pub returns : goal.returns
returns g c =
    let i : Problem = g.S.Rooms.problem c.args.sheet.now in
    let t : List Placed = g.S.Rooms.list c.args.sheet.now in
    let marks = c.mark_courses.new.marks in
    let q : List ℕ = members i c.args.curriculum in
    let same : c.members.result.now ≡ q = c.members.ensures.exact ∙ ap (λ (j : Problem). members j c.args.curriculum) c.instance-instance.ensures in
    let is : (n : ℕ) → n < course_count i → is_marked marks n ≡ has n q = λ n lt. c.mark_courses.ensures n ∙ ap₂ (λ b l. b || has n l) (c.new-courses.ensures n) same in
    subst (λ (ls : List Placed). IfOk c.gather.result (λ list. list.items ≡ ls)) (part_marked (course_count i) (is_marked marks) (λ n. has n q) t (courses_fit i t c.lawful.ensures.timetable) is) c.gather.ensures
