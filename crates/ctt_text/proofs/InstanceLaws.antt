-- The laws of the texts of instances.
use Rattle.std.proofs.Common.{◌≡◌, ◌⊎◌, inl, inr, ℕ, List, Ok, Err, sym, ap, subst, ◌∙◌}
use Rattle.ctt_text.specs.declared.fault.ReadFault.{ReadFault}
use Rattle.ctt_problem.specs.Problem.{Problem}
use Rattle.ctt_text.specs.InstancePlaces.{instance, missing}
use Rattle.ctt_text.specs.InstanceText.{spelled, Spells, InstanceBreaksAt}
use Rattle.ctt_text.specs.InstanceLaws.{answer, ReadsWhatIsSpelled, SpellsOne, FailsWhereBroken, BreaksOnce, SpellsOrBreaks}
use Rattle.ctt_text.proofs.FormLaws.{answer_fills, fills_answer, answer_breaks, breaks_answer, breaks_once, answered}
use Rattle.ctt_problem.proofs.ResultLemmas.{ok_same, ok_is_err}
use Rattle.ctt_text.proofs.InstanceWhole.{instance_fills, instance_taken}

-- what is parsed is spelled
read_spelled : (words : List (List ℕ)) (i : Problem) → answer words ≡ Ok i → Spells words i
read_spelled words i h =
    let r = answer_fills missing instance words i h in
    subst (λ ws. Spells ws i) (sym r.2) (instance_taken r.0 r.1 i r.3)

-- what is spelled is parsed
spelled_read : (words : List (List ℕ)) (i : Problem) → Spells words i → answer words ≡ Ok i
spelled_read words i s = ap (λ ws. answer ws) s.all ∙ fills_answer missing instance (spelled s.given) s.rest i (instance_fills s.given s.obey i s.says)

pub reads_what_is_spelled : ReadsWhatIsSpelled
reads_what_is_spelled words i = (read_spelled words i, spelled_read words i)

pub spells_one : SpellsOne
spells_one words i j s t = ok_same {F = ReadFault} i j (sym (spelled_read words i s) ∙ spelled_read words j t)

pub fails_where_broken : FailsWhereBroken
fails_where_broken words e = (answer_breaks missing instance words e, λ k b. breaks_answer missing instance words k e b)

pub instance_breaks_once : BreaksOnce
instance_breaks_once = breaks_once missing instance

pub spells_or_breaks : SpellsOrBreaks
spells_or_breaks words = (by (answered missing instance words), λ i k e s b. ok_is_err ⊥ i e (sym (spelled_read words i s) ∙ breaks_answer missing instance words k e b))
  where
    by : ((i : Problem) × (answer words ≡ Ok i)) ⊎ ((e : ReadFault) × (answer words ≡ Err e)) → ((i : Problem) × Spells words i) ⊎ ((k : ℕ) × (fault : ReadFault) × InstanceBreaksAt words k fault)
    by (inl x) = inl (x.0, read_spelled words x.0 x.1)
    by (inr x) = let b = answer_breaks missing instance words x.0 x.1 in inr (b.0, x.0, b.1)
