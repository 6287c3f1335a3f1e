use Rattle.std.proofs.Common.{◌≡◌, ◌+◌, ◌*◌, ◌≤◌, ◌∙◌, ℕ, ap, arith, take, sum_by, count_by, List, []}
use Rattle.std.proofs.lemmas.List.Sums.{sum_by_more}
use Rattle.ctt_problem.specs.Problem.{AreMembers, course_count, members}
use Rattle.ctt_problem.specs.declared.placed.Placed.{Placed}
use Rattle.ctt_problem.proofs.TimetableLemmas.{Each-at}
use Rattle.ctt_rules.specs.Penalty.{lectures_of}
use Rattle.ctt_rules.specs.Windows.{is_alone_within}
use Rattle.ctt_rules.proofs.CurriculumLemmas.{count_lectures_le}
use Rattle.ctt_rules.proofs.TimetableLemmas.{few_lectures}
use Rattle.ctt_rules.proofs.WindowLemmas.{alone_counted, few_members}
use Rattle.ctt_rules.proofs.compactness.alone_within.Goals as goal

pub count-requires-clause-few : goal.count-requires-clause-few
count-requires-clause-few c =
    let i = c.args.instance.now in
    let known : AreMembers (course_count i) (members i c.new.result) = Each-at (AreMembers (course_count i)) i.curricula c.limits_hold.ensures.curricula c.new.result [] (omega arith) in
    omega (arith, few_members (course_count i) c.members-members.result.now (rw c.members-members.ensures.exact known), c.limits_hold.ensures.courses_few)

-- the members' lectures that are isolated in the window
module _ (c : goal.After-count) where
  abbrev part : List Placed
  part = lectures_of c.members-members.result.now c.args.timetable.now

  known : AreMembers (course_count c.args.instance.now) c.members-members.result.now
  known = rw c.members-members.ensures.exact (Each-at (AreMembers (course_count c.args.instance.now)) c.args.instance.now.curricula c.limits_hold.ensures.curricula c.new.result [] (omega arith))

  counted : c.count.result ≡ count_by (is_alone_within c.args.instance.now c.args.first part) part
  counted = c.count.ensures
      ∙ alone_counted c.args.instance.now c.args.timetable.now c.requires c.args.first c.window-words.result c.window-words.ensures c.members-members.result.now known.1 c.union.result c.alone.result c.union.ensures c.alone.ensures

  few : 2 * c.count.result ≤ 8000000
  few = omega (arith, counted, count_lectures_le (is_alone_within c.args.instance.now c.args.first part) c.members-members.result.now c.args.timetable.now, few_lectures c.args.instance.now c.args.timetable.now c.requires c.limits_hold.ensures)

pub overflow_mul-total : goal.overflow_mul-total
overflow_mul-total c = omega (arith, few c)

pub overflow_add-total : goal.overflow_add-total
overflow_add-total c = omega (arith, few c)

pub loop-number-preserved : goal.loop-number-preserved
loop-number-preserved c =
    let i = c.args.instance.now in
    let t = c.args.timetable.now in
    let n = c.loop-number.number in
    let f : List ℕ → ℕ = λ q. 2 * count_by (is_alone_within i c.args.first (lectures_of q t)) (lectures_of q t) in
    let more : sum_by f (take (n + 1) i.curricula) ≡ sum_by f (take n i.curricula) + f (members i n) = sum_by_more f i.curricula n [] (omega arith) in
    let here : 2 * c.count.result ≡ f (members i n) = ap (λ k. 2 * k) (counted c) ∙ ap f (c.members-members.ensures.exact ∙ ap (members i) c.new.ensures) in
    record {
      so_far = omega (arith, c.loop-number.invariant.so_far, more, here);
      small = omega (arith, c.loop-number.invariant.small, few c);
    }
