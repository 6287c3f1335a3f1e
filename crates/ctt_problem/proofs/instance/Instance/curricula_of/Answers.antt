use Rattle.std.proofs.Common.{◌≡◌, ◌∙◌, refl, map, List, ℕ}
use Rattle.ctt_problem.specs.Belonging.{curricula_of, AreCurricula}
use Rattle.ctt_problem.proofs.BelongingLemmas.{curricula_fit, curricula_few}
use Rattle.ctt_problem.proofs.NumberListLemmas.{list_read}
use Rattle.ctt_problem.proofs.instance.Instance.curricula_of.Goals as goal

module _ (c : goal.After-deref) where
  -- the result is the list of the definition
  exact : c.deref.result.now ≡ curricula_of c.args.self.now c.args.course
  exact =
      let lists : List (List ℕ) = map (λ q. q.items) c.self.inside.belonging.items in
      let are : AreCurricula c.args.self.now lists = rw (← c.self.view_is) c.self.invariant.belonging in
      list_read (λ q. q.items) c.self.inside.belonging.items lists c.get.result c.args.course c.index.result.now c.deref.result.now refl c.get.ensures (rw are.size c.requires) c.index.ensures c.deref.ensures.value
      ∙ are.list c.args.course c.requires

pub returns-clause-within : goal.returns-clause-within
returns-clause-within c = curricula_fit c.args.self.now c.args.course c.deref.result.now (exact c)

pub returns-clause-few : goal.returns-clause-few
returns-clause-few c = curricula_few c.args.self.now c.args.course c.deref.result.now (exact c) (rw (← c.self.view_is) c.self.invariant.problem)
