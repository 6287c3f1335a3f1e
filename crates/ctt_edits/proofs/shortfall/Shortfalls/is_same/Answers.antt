use Rattle.std.proofs.Common.{◌≡◌, ◌∙◌, true, ◌==◌, refl, sym}
use Rattle.std.proofs.lemmas.Bool.{eq-eqb, eqb-true, and_parts}
use Rattle.ctt_edits.specs.contracts.shortfall.ShortfallPartialEq.TheImpl.{eq-value}
use Rattle.ctt_edits.specs.declared.shortfall.Shortfall.{Shortfall}
use Rattle.ctt_edits.proofs.SameLemmas.{same_by}
use Rattle.ctt_edits.proofs.shortfall.Shortfalls.is_same.Goals as goal

holds : (a b : Shortfall) → eq-value.it a b ≡ true → a ≡ b
holds a b h =
    let parts = and_parts (a.course == b.course) (a.missing == b.missing) h in
    rw (sym (eqb-true a.course b.course parts.0), sym (eqb-true a.missing b.missing parts.1)) refl

always : (a : Shortfall) → eq-value.it a a ≡ true
always a = rw (eq-eqb a.course a.course refl, eq-eqb a.missing a.missing refl) refl

pub returns : goal.returns
returns c = same_by eq-value.it holds always c.eq.result c.as_slice.result.now c.as_slice-2.result.now c.args.self.now c.args.other.now c.eq.ensures (c.as_slice.ensures.value ∙ c.self.view_is) (c.as_slice-2.ensures.value ∙ c.other.view_is)
