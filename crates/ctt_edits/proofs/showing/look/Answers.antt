use Rattle.std.proofs.Common.{rules, ◌≤◌, ◌<◌}
use Rattle.ctt_problem.specs.Problem.{course_count, teacher_count, curriculum_count}
use Rattle.ctt_edits.specs.Edits.{EditFits}
use Rattle.ctt_edits.specs.Offers.{pattern_of}
use Rattle.ctt_edits.specs.Patterns.{PatternFits}
use Rattle.ctt_edits.proofs.showing.look.Goals as goal

pub own_cost-requires : goal.own_cost-requires
own_cost-requires g c κs =
    let fits : c.in-CourseCost.course < course_count (g.S.Rooms.problem c.args.sheet.now) = rw c.in-CourseCost.is at c.requires in
    search rules

pub price_reply-requires : goal.price_reply-requires
price_reply-requires g c κs =
    let fits : EditFits (g.S.Rooms.problem c.args.sheet.now) c.in-Price.edit = rw c.in-Price.is at c.requires in
    search rules

pub teacher_row-requires : goal.teacher_row-requires
teacher_row-requires g c κs =
    let fits : c.in-Teacher.teacher < teacher_count (g.S.Rooms.problem c.args.sheet.now) = rw c.in-Teacher.is at c.requires in
    search rules

pub curriculum_row-requires : goal.curriculum_row-requires
curriculum_row-requires g c κs =
    let fits : c.in-Curriculum.curriculum < curriculum_count (g.S.Rooms.problem c.args.sheet.now) = rw c.in-Curriculum.is at c.requires in
    search rules

pub course_row-requires : goal.course_row-requires
course_row-requires g c = rw c.in-Course.is at c.requires

pub slot_row-requires : goal.slot_row-requires
slot_row-requires g c = rw c.in-Slot.is at c.requires

pub cheapest_reply-requires : goal.cheapest_reply-requires
cheapest_reply-requires g c κs =
    let fits : (c.in-Cheapest.count ≤ 1000) × PatternFits (g.S.Rooms.problem c.args.sheet.now) c.in-Cheapest.pattern = rw c.in-Cheapest.is at c.requires in
    search rules

pub slots_reply-requires : goal.slots_reply-requires
slots_reply-requires g c κs =
    let fits : PatternFits (g.S.Rooms.problem c.args.sheet.now) (pattern_of c.in-Slots.pattern) = rw c.in-Slots.is at c.requires in
    search rules
