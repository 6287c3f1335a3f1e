use Rattle.std.proofs.Common.{rules, ◌≡◌, refl, subst, length}
use Rattle.ctt_problem.specs.BitRows.{HasSize}
use Rattle.ctt_problem.specs.Parts.{problem_by}
use Rattle.ctt_problem.proofs.TogetherLemmas.{members_known, taught_known, are_clashes}
use Rattle.ctt_problem.proofs.instance.parts.Parts.clashes.Goals as goal

pub clash_rows-requires-clause-taught : goal.clash_rows-requires-clause-taught
clash_rows-requires-clause-taught c =
    let len : c.len-courses.result ≡ length c.args.self.now.courses.items = search rules in
    rw len (taught_known (λ q. q.items) (problem_by c.args.self.now) c.args.taught.now c.requires.taught)

pub clash_rows-requires-clause-curricula : goal.clash_rows-requires-clause-curricula
clash_rows-requires-clause-curricula c =
    let len : c.len-courses.result ≡ length c.args.self.now.courses.items = search rules in
    rw (c.deref.ensures.value, len) (members_known (λ q. q.items) (length c.args.self.now.courses.items) c.args.self.now.curricula.items c.requires.problem.curricula)

pub returns : goal.returns
returns c =
    let len : c.len-courses.result ≡ length c.args.self.now.courses.items = search rules in
    let marks = rw (c.deref.ensures.value, len) at c.in_ok-rows.ensures.marks in
    are_clashes (λ q. q.items) (problem_by c.args.self.now) c.in_ok-rows.rows c.args.taught.now c.args.self.now.curricula.items c.requires.problem c.requires.taught
    refl (subst (λ n. HasSize c.in_ok-rows.rows n n) len c.in_ok-rows.ensures.size) marks
