use Rattle.std.proofs.Common.{◌≡◌, IfSome, length, sym, subst, arith}
use Rattle.ctt_rules.specs.Hard.{Lawful}
use Rattle.ctt_core.specs.Desks.{IsCounted}
use Rattle.ctt_core.proofs.desk.Desk.new.Goals as goal

pub invariant_of-result : goal.invariant_of-result
invariant_of-result g c = record {
  same = c.in_ok-sheet.ensures.problem;
  opening_lawful = subst (Lawful c.args.instance.now) (sym c.in_ok-opening.ensures) (subst (λ i. Lawful i (g.S.Rooms.list c.in_ok-sheet.sheet)) c.in_ok-sheet.ensures.problem c.lawful.ensures);
  few = omega (arith, c.in_ok-drafts.ensures.planners);
  drafts_of = λ p. subst (λ o. IfSome o (λ d. d.draft.problem ≡ c.args.instance.now)) (sym (c.in_ok-drafts.ensures.none p)) tt;
  counted = λ p. subst (λ o. IfSome o (IsCounted (g.S.Rooms.list c.in_ok-sheet.sheet) (length c.new.result.items))) (sym (c.in_ok-drafts.ensures.none p)) tt;
}
