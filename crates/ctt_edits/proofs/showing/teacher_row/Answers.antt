use Rattle.std.proofs.Common.{◌≡◌, ◌<◌, ◌||◌, ◌==◌, ◌∙◌, ℕ, IfOk, List, ap, subst}
use Rattle.ctt_problem.specs.Marks.{is_marked}
use Rattle.ctt_problem.specs.Problem.{Problem, course_of, course_count}
use Rattle.ctt_problem.specs.declared.placed.Placed.{Placed}
use Rattle.ctt_rules.proofs.TimetableLemmas.{courses_fit}
use Rattle.ctt_edits.proofs.GatherLemmas.{part_marked}
use Rattle.ctt_edits.proofs.showing.teacher_row.Goals as goal

pub returns : goal.returns
returns g c =
    let i : Problem = g.S.Rooms.problem c.args.sheet.now in
    let t : List Placed = g.S.Rooms.list c.args.sheet.now in
    let marks = c.mark_taught.new.marks in
    let before = c.new-courses.result in
    let h : ℕ = c.args.teacher in
    let marked : (n : ℕ) → n < course_count i → is_marked marks n ≡ (is_marked before n || (course_of i n).teacher == h) = subst (λ j. (n : ℕ) → n < course_count j → is_marked marks n ≡ (is_marked before n || (course_of j n).teacher == h)) c.instance.ensures c.mark_taught.ensures.marked in
    let is : (n : ℕ) → n < course_count i → is_marked marks n ≡ ((course_of i n).teacher == h) = λ n lt. marked n lt ∙ ap (λ b. b || (course_of i n).teacher == h) (c.new-courses.ensures n) in
    subst (λ (ls : List Placed). IfOk c.gather.result (λ list. list.items ≡ ls)) (part_marked (course_count i) (is_marked marks) (λ n. (course_of i n).teacher == h) t (courses_fit i t c.lawful.ensures.timetable) is) c.gather.ensures
