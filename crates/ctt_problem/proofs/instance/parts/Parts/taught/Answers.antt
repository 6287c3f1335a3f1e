use Rattle.std.proofs.Common.{◌∙◌}
use Rattle.std.proofs.lemmas.List.{length-map}
use Rattle.ctt_problem.proofs.instance.parts.Parts.taught.Goals as goal

pub returns : goal.returns
returns c =
    let size = rw c.len-teachers.ensures at c.in_ok-lists.ensures.size in
    let numbers = rw (c.deref.ensures.value, c.len-teachers.ensures) at c.in_ok-lists.ensures.lists in
    record {
      size = length-map c.in_ok-lists.lists.items (λ q. q.items) ∙ size;
      list = numbers;
    }
