use Rattle.std.proofs.Common.{◌≡◌, ◌∙◌, ◌∷◌, ◌+◌, List, None, Some, arith, ap, drop, rules, string_bytes, subst, sym}
use Rattle.std.specs.List.{AllByRecursion as Each}
use Rattle.ctt_edits.specs.Edits.{EditFits}
use Rattle.ctt_draft.specs.Drafts.{AskedFits}
use Rattle.ctt_draft.specs.Undoing.{done_edit, edits_done}
use Rattle.ctt_draft.specs.declared.asked.Asked.{Asked}
use Rattle.ctt_office.proofs.RedoLemmas.{IsRemaking, done_fits, left_at, none_done, one_done, one_more, remaking_is}
use Rattle.ctt_office.proofs.redoing.make_all_again.Goals as goal
use Rattle.ctt_office.proofs.redoing.make_all_again.Goals.{in-Some+in_ok-make_again+then-branch, in-Some+in_ok-make_again+else-branch, in_default}

pub make_again-requires : goal.make_again-requires
make_again-requires g c κs =
    let i = c.args.instance.now in
    let left : List Asked = drop (c.loop-one.one-index + 1) c.args.asked.now in
    let at = left_at c.args.asked.now c.loop-one.one-index c.one-item.result c.loop-one-test.true c.one-item.is in
    let all : Each (AskedFits i) (c.one-item.result ∷ left) = subst (Each (AskedFits i)) at c.loop-one.invariant.3 in
    let some : done_edit c.one-item.result ≡ Some c.in-Some.edit = sym c.done_edit.ensures ∙ c.in-Some.is in
    let fits : EditFits i c.in-Some.edit = done_fits i c.one-item.result c.in-Some.edit some all.0 in
    search rules

pub loop-one-preserved : goal.loop-one-preserved
loop-one-preserved g c =
    let i = c.args.instance.now in
    let d = c.args.drafting.now in
    let e = c.loop-one.drafting in
    let old = string_bytes c.args.omitted.now in
    let now = string_bytes c.loop-one.omitted in
    let all = edits_done c.args.asked.now in
    let left : List Asked = drop (c.loop-one.one-index + 1) c.args.asked.now in
    let at = left_at c.args.asked.now c.loop-one.one-index c.one-item.result c.loop-one-test.true c.one-item.is in
    let fit : Each (AskedFits i) (c.one-item.result ∷ left) = subst (Each (AskedFits i)) at c.loop-one.invariant.3 in
    let h = subst (λ xs. IsRemaking i d e old now c.loop-one.made c.loop-one.edits all (edits_done xs)) at c.loop-one.invariant.0 in
    let few = c.loop-one.invariant.1 in
    let fewer = c.loop-one.invariant.2 in
    elim c.match-done_edit.branch [
      | in-Some+in_ok-make_again+then-branch w ↦ (
          let some : done_edit c.one-item.result ≡ Some w.in-Some.edit = sym c.done_edit.ensures ∙ w.in-Some.is in
          let k = subst (IsRemaking i d e old now c.loop-one.made c.loop-one.edits all) (one_done c.one-item.result left w.in-Some.edit some) h in
          let both = one_more i d e old now c.loop-one.made c.loop-one.edits all (edits_done left) w.in-Some.edit k w.make_again.new.drafting (string_bytes w.make_again.new.omitted) w.in_ok-make_again.field-0 w.in_ok-make_again.ensures.again in
          let made = w.made-is in
          let edits = w.edits-is in (
            remaking_is i d w.make_again.new.drafting c.match-done_edit.drafting old (string_bytes w.make_again.new.omitted) (string_bytes c.match-done_edit.omitted) (c.loop-one.made + 1) c.match-done_edit.made (c.loop-one.edits + 1) c.match-done_edit.edits
                all (edits_done left) w.drafting-is (ap string_bytes w.omitted-is) made edits (both.0 w.if-branch.true),
            omega (arith, few, edits),
            omega (arith, fewer, edits, made),
            fit.1,
          ))
      | in-Some+in_ok-make_again+else-branch w ↦ (
          let some : done_edit c.one-item.result ≡ Some w.in-Some.edit = sym c.done_edit.ensures ∙ w.in-Some.is in
          let k = subst (IsRemaking i d e old now c.loop-one.made c.loop-one.edits all) (one_done c.one-item.result left w.in-Some.edit some) h in
          let both = one_more i d e old now c.loop-one.made c.loop-one.edits all (edits_done left) w.in-Some.edit k w.make_again.new.drafting (string_bytes w.make_again.new.omitted) w.in_ok-make_again.field-0 w.in_ok-make_again.ensures.again in
          let made = w.made-is in
          let edits = w.edits-is in (
            remaking_is i d w.make_again.new.drafting c.match-done_edit.drafting old (string_bytes w.make_again.new.omitted) (string_bytes c.match-done_edit.omitted) c.loop-one.made c.match-done_edit.made (c.loop-one.edits + 1) c.match-done_edit.edits
                all (edits_done left) w.drafting-is (ap string_bytes w.omitted-is) made edits (both.1 w.if-branch.false),
            omega (arith, few, edits),
            omega (arith, fewer, edits, made),
            fit.1,
          ))
      | in_default w ↦ (
          let none : done_edit c.one-item.result ≡ None = sym c.done_edit.ensures ∙ w.in_default.is in
          let k = subst (IsRemaking i d e old now c.loop-one.made c.loop-one.edits all) (none_done c.one-item.result left none) h in
          let made = w.made-is in
          let edits = w.edits-is in (
            remaking_is i d e c.match-done_edit.drafting old now (string_bytes c.match-done_edit.omitted) c.loop-one.made c.match-done_edit.made c.loop-one.edits c.match-done_edit.edits
                all (edits_done left) w.drafting-is (ap string_bytes w.omitted-is) made edits k,
            omega (arith, few, edits),
            omega (arith, fewer, edits, made),
            fit.1,
          ))
    ]
