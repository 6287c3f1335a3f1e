use Rattle.std.proofs.Common.{◌||◌, ◌∙◌, sym, ap}
use Rattle.std.specs.List.{list_any}
use Rattle.std.proofs.lemmas.List.{take_all}
use Rattle.ctt_problem.specs.Lists.{has}
use Rattle.ctt_problem.specs.Marks.{is_marked}
use Rattle.ctt_problem.specs.Problem.{Problem, curriculum_count, members}
use Rattle.ctt_edits.proofs.MateLemmas.{mates_of, one_fits}
use Rattle.ctt_edits.proofs.reading.mark_mates.Goals as goal

pub members-requires : goal.members-requires
members-requires c = one_fits (curriculum_count c.args.instance.now) c.loop-curriculum.curriculum-index c.curriculum-item.result c.curricula_of-curriculum-items.result.now c.curricula_of-curriculum-items.ensures.within c.loop-curriculum-test.true c.curriculum-item.is

pub mark_courses-requires : goal.mark_courses-requires
mark_courses-requires c = c.members.ensures.within.0

pub returns : goal.returns
returns c n =
    let i : Problem = c.args.instance.now in
    c.loop-curriculum.invariant n
    ∙ ap (λ qs. is_marked c.args.marks.now n || list_any (λ q. has n (members i q)) qs) (take_all c.loop-curriculum.curriculum-index c.curricula_of-curriculum-items.result.now c.loop-curriculum-test.false ∙ c.curricula_of-curriculum-items.ensures.exact)
    ∙ ap (λ b. is_marked c.args.marks.now n || b) (sym (mates_of i c.args.course n))
