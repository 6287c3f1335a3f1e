use Rattle.std.proofs.Common.{◌≡◌, ◌*◌, ◌≤◌, ◌∙◌, ◌||◌, ℕ, Bool, not, sym, ap, ap₂, arith, count_by, sum_by, get_or, List}
use Rattle.std.specs.List.{list_any}
use Rattle.std.proofs.lemmas.List.{take_all}
use Rattle.std.proofs.lemmas.List.Folds.{list_any_more}
use Rattle.std.proofs.lemmas.List.Sums.{sum_by_more, sum_by_more_le}
use Rattle.ctt_problem.specs.Lists.{has}
use Rattle.ctt_problem.specs.Marks.{is_marked}
use Rattle.ctt_problem.specs.Problem.{Problem, IsProblem}
use Rattle.ctt_problem.specs.Timetable.{Fits, course_row}
use Rattle.ctt_problem.specs.declared.placed.Placed.{Placed}
use Rattle.ctt_rules.specs.Penalty.{lectures_of}
use Rattle.ctt_rules.specs.Neighbours.{busy, is_beside}
use Rattle.ctt_rules.proofs.ListLemmas.{Each-filter}
use Rattle.ctt_rules.proofs.NeighbourLemmas.{alone_is}
use Rattle.ctt_rules.proofs.CurriculumLemmas.{busy_lectures, count_lectures, count_lectures_le}
use Rattle.ctt_rules.proofs.TimetableLemmas.{row_fits, few_lectures, slots_fit}
use Rattle.ctt_grid.proofs.delta.curriculum_cost.Goals as goal

pub mark_slots-requires : goal.mark_slots-requires
mark_slots-requires g c = rw (c.instance-instance.ensures, c.as_slice.ensures.value, c.row-row.ensures) (row_fits c.args.after.now.problem c.args.after.now.list c.member-item.result c.lawful.ensures.timetable)

pub count_alone-count-requires : goal.count_alone-count-requires
count_alone-count-requires g c = rw (c.instance-instance.ensures, c.as_slice-in-loop-member-2.ensures.value, c.row-row-in-loop-member-2.ensures) (row_fits c.args.after.now.problem c.args.after.now.list c.member-item-in-loop-member-2.result c.lawful.ensures.timetable)

pub loop-member-preserved : goal.loop-member-preserved
loop-member-preserved g c s =
    let marks : ℕ → Bool = λ m. busy (course_row m c.args.after.now.list) s in
    c.mark_slots.ensures s ∙ ap₂ (λ a b. a || b) (c.loop-member.invariant s) (ap (λ ls. busy ls s) (c.as_slice.ensures.value ∙ c.row-row.ensures) ∙ ap marks c.member-item.is)
    ∙ sym (list_any_more marks c.args.members.now c.loop-member.member-index c.member-item.result c.loop-member-test.true)

-- the lectures of a member that stand alone
module _ (g : _) (c : goal.After-count_alone-count g) where
  abbrev lone : Placed → Bool
  lone x = not (is_beside c.args.after.now.problem (is_marked c.loop-member.slots) x.slot)

  abbrev of_member : ℕ → ℕ
  of_member m = count_by lone (course_row m c.args.after.now.list)

  here : c.count_alone-count.result ≡ of_member (get_or c.args.members.now c.loop-member-2.member-index c.member-item-in-loop-member-2.result)
  here = c.count_alone-count.ensures.count
      ∙ ap₂ (λ j ls. count_by (λ x. not (is_beside j (is_marked c.loop-member.slots) x.slot)) ls) c.instance-instance.ensures (c.as_slice-in-loop-member-2.ensures.value ∙ c.row-row-in-loop-member-2.ensures) ∙ ap of_member c.member-item-in-loop-member-2.is

pub overflow_add-count : goal.overflow_add-count
overflow_add-count g c =
    let i : Problem = c.args.after.now.problem in
    let t : List Placed = c.args.after.now.list in
    let q = c.args.members.now in
    let within = sum_by_more_le (of_member g c) q c.loop-member-2.member-index c.member-item-in-loop-member-2.result c.loop-member-2-test.true in
    let is : IsProblem i = rw c.instance-instance.ensures at c.limits_hold.ensures in
    omega (arith, c.loop-member-2.invariant, here g c, within, count_lectures (lone g c) q t c.requires.1, count_lectures_le (lone g c) q t, few_lectures i t c.lawful.ensures.timetable is)

pub loop-member-2-preserved : goal.loop-member-2-preserved
loop-member-2-preserved g c = omega (arith, c.loop-member-2.invariant, here g c, sum_by_more (of_member g c) c.args.members.now c.loop-member-2.member-index c.member-item-in-loop-member-2.result c.loop-member-2-test.true)

-- the members' lectures that stand alone, at the end of the loop
module _ (g : _) (c : goal.After-loop-member-2 g) where
  abbrev alone_there : Placed → Bool
  alone_there x = not (is_beside c.args.after.now.problem (is_marked c.loop-member.slots) x.slot)

  counted : c.loop-member-2.count ≡ count_by alone_there (lectures_of c.args.members.now c.args.after.now.list)
  counted =
      c.loop-member-2.invariant ∙ ap (sum_by (λ m. count_by alone_there (course_row m c.args.after.now.list))) (take_all c.loop-member-2.member-index c.args.members.now c.loop-member-2-test.false)
      ∙ count_lectures alone_there c.args.members.now c.args.after.now.list c.requires.1

  marked : (s : ℕ) → is_marked c.loop-member.slots s ≡ busy (lectures_of c.args.members.now c.args.after.now.list) s
  marked s =
      c.loop-member.invariant s ∙ ap (list_any (λ m. busy (course_row m c.args.after.now.list) s)) (take_all c.loop-member.member-index c.args.members.now c.loop-member-test.false)
      ∙ busy_lectures c.args.members.now c.args.after.now.list s

  short : c.loop-member-2.count ≤ 4000000
  short =
      let is : IsProblem c.args.after.now.problem = rw c.instance-instance.ensures at c.limits_hold.ensures in
      omega (arith, counted, count_lectures_le alone_there c.args.members.now c.args.after.now.list, few_lectures c.args.after.now.problem c.args.after.now.list c.lawful.ensures.timetable is)

pub overflow_mul-result : goal.overflow_mul-result
overflow_mul-result g c = omega (arith, short g c)

pub returns-clause-value : goal.returns-clause-value
returns-clause-value g c =
    let i : Problem = c.args.after.now.problem in
    let part : List Placed = lectures_of c.args.members.now c.args.after.now.list in
    let fits = slots_fit i part (Each-filter (Fits i) (λ l. has l.course c.args.members.now) c.args.after.now.list c.lawful.ensures.timetable.fits) in
    ap (λ n. 2 * n) (counted g c ∙ sym (alone_is i part (is_marked c.loop-member.slots) fits (marked g c)))

pub returns-clause-bound : goal.returns-clause-bound
returns-clause-bound g c = omega (arith, short g c)
