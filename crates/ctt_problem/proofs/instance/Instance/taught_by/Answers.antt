use Rattle.std.proofs.Common.{◌≡◌, ◌∙◌, refl, map, List, ℕ, ◌==◌}
use Rattle.ctt_problem.specs.Problem.{course_of, course_count}
use Rattle.ctt_problem.specs.Taught.{courses_taught_by, AreTaught}
use Rattle.ctt_problem.proofs.NumberListLemmas.{list_read, below_fit}
use Rattle.ctt_problem.proofs.instance.Instance.taught_by.Goals as goal

module _ (c : goal.After-deref) where
  -- the result is the list of the definition
  exact : c.deref.result.now ≡ courses_taught_by c.args.self.now c.args.teacher
  exact =
      let lists : List (List ℕ) = map (λ q. q.items) c.self.inside.taught.items in
      let are : AreTaught c.args.self.now lists = rw (← c.self.view_is) c.self.invariant.taught in
      list_read (λ q. q.items) c.self.inside.taught.items lists c.get.result c.args.teacher c.index.result.now c.deref.result.now refl c.get.ensures (rw are.size c.requires) c.index.ensures c.deref.ensures.value
      ∙ are.list c.args.teacher c.requires

pub returns-clause-within : goal.returns-clause-within
returns-clause-within c = rw (exact c) (below_fit (λ k. (course_of c.args.self.now k).teacher == c.args.teacher) (course_count c.args.self.now))
