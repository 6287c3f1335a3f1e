use Rattle.std.proofs.Common.{rules, ◌≡◌, ◌∙◌, ap}
use Rattle.ctt_problem.specs.Problem.{course_count, slot_count}
use Rattle.ctt_problem.proofs.TableLemmas.{place_within}
use Rattle.ctt_text.specs.Lectures.{Collected}
use Rattle.ctt_text.proofs.solution.lectures.Lectures.place.Goals as goal

pub returns-clause-within : goal.returns-clause-within
returns-clause-within c =
    let i = c.args.self.now.problem in
    let row : c.from.result ≡ c.args.course = search rules in
    let column : c.from-3.result ≡ c.args.slot = search rules in
    let width : c.from-2.result ≡ slot_count i = c.from-2.ensures ∙ c.slots.ensures.exact ∙ ap (λ (l : Collected). slot_count l.problem) c.self.view_is in
    rw (row, width, column) (place_within c.args.course c.args.slot (slot_count i) (course_count i) c.requires.course c.requires.slot)
