use Rattle.std.proofs.lemmas.List.{length-map}
use Rattle.std.proofs.Common.{map, get_or, [], sym, ◌∙◌, ap}
use Rattle.ctt_problem.specs.Lists.{has, below}
use Rattle.ctt_problem.proofs.instance.parts.Parts.belonging.Goals as goal

pub returns : goal.returns
returns c =
    let curricula = c.args.self.now.curricula.items in
    let numbers = rw (c.deref.ensures.value, c.deref-2.ensures.value) at c.in_ok-lists.ensures.lists in
    let lists = rw c.deref.ensures.value at c.in_ok-lists.ensures.size in
    record {
      size = length-map c.in_ok-lists.lists.items (λ q. q.items) ∙ lists;
      list = λ k lt. numbers k lt ∙ ap (below (λ q. has k (get_or (map (λ q. q.items) curricula) q []))) (sym (length-map curricula (λ q. q.items)));
    }
