use Rattle.std.proofs.Common.{◌∙◌, ap, sym, arith, refl, inl, inr}
use Rattle.std.proofs.lemmas.Bool.{cases_lt}
use Rattle.ctt_rules.proofs.CountLemmas.{all_placed, none_past}
use Rattle.ctt_rules.proofs.lawful.has_no_surplus.Goals as goal

pub returns-then-hard-eq0 : goal.returns-then-hard-eq0
returns-then-hard-eq0 c = (
  λ _ k. omega (arith, all_placed c.args.instance.now c.args.timetable.now c.requires.timetable (sym (ap (λ h. h.lectures) c.requires.counted) ∙ c.if-hard-eq0.true) k),
  λ _. refl,
)

pub returns : goal.returns
returns c = (
  λ _ k. elim (cases_lt k c.loop-number.number) [
    | inl lt ↦ c.loop-number.invariant k lt
    | inr le ↦ omega (arith, none_past c.args.instance.now c.args.timetable.now c.requires.timetable k (omega arith))
  ],
  λ _. refl,
)
