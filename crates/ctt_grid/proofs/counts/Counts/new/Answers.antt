use Rattle.std.proofs.Common.{◌≡◌, ◌∙◌, arith}
use Rattle.ctt_problem.specs.Problem.{course_count, curriculum_count, slot_count}
use Rattle.ctt_grid.proofs.CountsLemmas.{none_counted}
use Rattle.ctt_grid.proofs.counts.Counts.new.Goals as goal

pub returns : goal.returns
returns c =
    let i = c.args.instance.now in
    let courses : c.courses-courses.result ≡ course_count i = c.courses-courses.ensures.exact in
    let slots : c.slots-slots.result ≡ slot_count i = c.slots-slots.ensures.exact in
    let curricula : c.curricula-curricula.result ≡ curriculum_count i = c.curricula-curricula.ensures.exact in
    let a = c.in_ok-new.ensures in
    let b = c.in_ok-new-2.ensures in
    let d = c.in_ok-new-3.ensures in
    let e = c.in_ok-new-4.ensures in
    none_counted i _
    (record {
      lectures = (a.rows.0, a.rows.1 ∙ courses);
      days = (b.rows.0 ∙ courses, b.rows.1 ∙ c.days.ensures.exact);
      rooms = (d.rows.0 ∙ courses, d.rows.1 ∙ c.rooms.ensures.exact);
      curricula = (e.size.0 ∙ curricula, e.size.1 ∙ slots);
    })
    (λ r k lr lk. a.cells r k lr (omega (arith, lk, courses)))
    (λ r k lr lk. b.cells r k (omega (arith, lr, courses)) (omega (arith, lk, c.days.ensures.exact)))
    (λ r k lr lk. d.cells r k (omega (arith, lr, courses)) (omega (arith, lk, c.rooms.ensures.exact)))
    e.marks
