use Rattle.std.proofs.Common.{map, subst, take, ◌+◌, ◌==◌}
use Rattle.ctt_problem.specs.Lists.{has}
use Rattle.ctt_problem.specs.NumberLists.{AddsNumber}
use Rattle.ctt_problem.proofs.BelongingLemmas.{more_added, has_more, not_before}
use Rattle.ctt_problem.proofs.instance.belonging.add_to_members.Goals as goal

pub loop-member-preserved : goal.loop-member-preserved
loop-member-preserved c =
    let ms = c.args.members.now in
    let k = c.loop-member.member-index in
    let m = c.member-item.result in
    let here : AddsNumber (map (λ v. v.items) c.loop-member.lists) (map (λ v. v.items) c.add_to.new.lists) c.args.curriculum (λ d. m == d) = subst (λ n. AddsNumber (map (λ v. v.items) c.loop-member.lists) (map (λ v. v.items) c.add_to.new.lists) c.args.curriculum (λ d. n == d)) c.get.ensures c.in_ok-add_to.ensures.added in
    more_added _ _ _ c.args.curriculum (λ d. has d (take k ms)) (λ d. m == d) (λ d. has d (take (k + 1) ms)) c.loop-member.invariant here
    (λ d. has_more d ms k m c.loop-member-test.true c.member-item.is) (λ d. not_before d ms k m c.loop-member-test.true c.member-item.is c.requires.1)
