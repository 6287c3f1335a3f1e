use Rattle.std.proofs.Common.{◌≡◌, ◌∙◌, ◌+◌, ◌<◌, ◌≤◌, Some, None, List, length, drop, take, arith, rules, sym, ap, subst}
use Rattle.ctt_edits.specs.Edits.{EditFits}
use Rattle.ctt_draft.specs.Drafts.{calls_of, changes}
use Rattle.std.specs.Vec.{vec_len}
use Rattle.ctt_board.specs.Changes.{apply_all}
use Rattle.ctt_draft.specs.Undoing.{done_edit, inverse, stacked, top}
use Rattle.ctt_draft.specs.declared.asked.Asked.{Asked}
use Rattle.ctt_draft.proofs.UndoingLemmas.{IsUnstacking, few_made, left_at, none_left, one_done, passed, popped, popped_fits}
use Rattle.ctt_draft.proofs.draft.Draft.undoing.Goals as goal
use Rattle.ctt_draft.proofs.draft.Draft.undoing.Goals.{in-Some+in_ok-restack, in_default}

pub inverse-inverse-requires : goal.inverse-inverse-requires
inverse-inverse-requires g c κs =
    let d = c.args.self.now in
    let at = left_at c.asked-all.result.now c.loop-asked.asked-index c.asked-item.result c.loop-asked-test.true c.asked-item.is in
    let h = subst (IsUnstacking d.problem d.base (calls_of d.asked) (changes d.problem d.base (calls_of d.asked)) c.loop-asked.made c.loop-asked.stack.items) at c.loop-asked.invariant.0 in
    let some : done_edit c.asked-item.result ≡ Some c.in-Some.edit = sym c.done_edit.ensures ∙ c.in-Some.is in
    let both = few_made d.problem d.base (calls_of d.asked) (changes d.problem d.base (calls_of d.asked)) c.loop-asked.made c.loop-asked.stack.items (drop (c.loop-asked.asked-index + 1) c.asked-all.result.now) c.asked-item.result c.in-Some.edit some h in
    let made : c.loop-asked.made ≤ length (changes d.problem d.base (calls_of d.asked)) = both.0 in
    let fits : EditFits d.problem c.in-Some.edit = both.1 in
    search rules

pub loop-asked-preserved : goal.loop-asked-preserved
loop-asked-preserved g c =
    let d = c.args.self.now in
    let all = changes d.problem d.base (calls_of d.asked) in
    let left : List Asked = drop (c.loop-asked.asked-index + 1) c.asked-all.result.now in
    let at = left_at c.asked-all.result.now c.loop-asked.asked-index c.asked-item.result c.loop-asked-test.true c.asked-item.is in
    let h = subst (IsUnstacking d.problem d.base (calls_of d.asked) all c.loop-asked.made c.loop-asked.stack.items) at c.loop-asked.invariant.0 in
    let few = c.loop-asked.invariant.1 in
    elim c.match-done_edit.branch [
      | in-Some+in_ok-restack w ↦ (
          let some : done_edit c.asked-item.result ≡ Some w.in-Some.edit = sym c.done_edit.ensures ∙ w.in-Some.is in
          let grown : c.match-done_edit.stack.items ≡ stacked w.in-Some.edit (inverse (apply_all (take c.loop-asked.made all) d.base) w.in-Some.edit) c.loop-asked.stack.items =
          ap (λ v. v.items) w.stack-is ∙ w.in_ok-restack.ensures ∙ ap (λ o. stacked w.in-Some.edit o c.loop-asked.stack.items) w.inverse-inverse.ensures in
          let more = w.made-is in (
            one_done d.problem d.base (calls_of d.asked) all c.loop-asked.made c.loop-asked.stack.items left c.asked-item.result w.in-Some.edit c.match-done_edit.made c.match-done_edit.stack.items some h grown more,
            omega (arith, few, more),
          ))
      | in_default w ↦ (
          let none : done_edit c.asked-item.result ≡ None = sym c.done_edit.ensures ∙ w.in_default.is in
          let same = w.made-is in
          let next = passed d.problem d.base (calls_of d.asked) all c.loop-asked.made c.loop-asked.stack.items left c.asked-item.result none h in (
            subst (λ k. IsUnstacking d.problem d.base (calls_of d.asked) all k c.match-done_edit.stack.items left) (sym same)
                (subst (λ xs. IsUnstacking d.problem d.base (calls_of d.asked) all c.loop-asked.made xs left) (sym (ap (λ v. v.items) w.stack-is)) next),
            omega (arith, few, same),
          ))
    ]

pub returns-clause-edit : goal.returns-clause-edit
returns-clause-edit g c =
    let d = c.args.self.now in
    let end = none_left c.asked-all.result.now c.loop-asked.asked-index c.loop-asked-test.false in
    let h = subst (IsUnstacking d.problem d.base (calls_of d.asked) (changes d.problem d.base (calls_of d.asked)) c.loop-asked.made c.loop-asked.stack.items) end c.loop-asked.invariant.0 in
    let long : vec_len c.loop-asked.stack ≡ length c.loop-asked.stack.items = search rules in
    popped c.loop-asked.stack.items c.pop.new.self.items c.pop.result c.pop.ensures.items (λ lt. c.pop.ensures.variant.1 (subst (λ n. 0 < n) (sym long) lt)) ∙ ap top h.same

pub returns-clause-fits : goal.returns-clause-fits
returns-clause-fits g c = popped_fits c.args.self.now.problem c.loop-asked.stack.items c.pop.new.self.items c.pop.result c.pop.ensures.items c.loop-asked.invariant.0.fits
