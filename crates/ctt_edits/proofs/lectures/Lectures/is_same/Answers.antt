use Rattle.std.proofs.Common.{rules, ◌≡◌, ◌∙◌}
use Rattle.ctt_edits.proofs.SameLemmas.{same_list, same_lists}
use Rattle.ctt_edits.proofs.lectures.Lectures.is_same.Goals as goal

pub returns : goal.returns
returns c =
    let equal : c.eq.result ≡ same_list c.as_slice.result.now c.as_slice-2.result.now = search rules in
    same_lists c.eq.result c.as_slice.result.now c.as_slice-2.result.now c.args.self.now c.args.other.now equal (c.as_slice.ensures.value ∙ c.self.view_is) (c.as_slice-2.ensures.value ∙ c.other.view_is)
