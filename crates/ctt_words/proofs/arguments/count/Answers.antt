use Rattle.std.proofs.Common.{◌≡◌, ◌≤◌, ◌+◌, ◌∙◌, ◌⊎◌, inl, inr, ap, sym, arith, map, drop, is_some, true, false, ⊎_elim}
use Rattle.std.proofs.lemmas.List.{drop_more}
use Rattle.clap.specs.Words.{first_of, found_of, rows_of}
use Rattle.ctt_words.proofs.Given.{count_more}
use Rattle.ctt_words.proofs.arguments.count.Goals as goal
use Rattle.ctt_words.proofs.arguments.count.Goals.{then-is_some, else-is_some}

pub loop-id-preserved : goal.loop-id-preserved
loop-id-preserved c =
    let found = found_of c.args.given.now in
    let ids = c.args.ids.now in
    let counted : ((is_some c.given_text.result ≡ true) × (c.if-is_some.count ≡ c.loop-id.count + 1)) ⊎ ((is_some c.given_text.result ≡ false) × (c.if-is_some.count ≡ c.loop-id.count))
    = elim c.if-is_some.branch [ then-is_some w ↦ inl (sym c.is_some.ensures ∙ w.if-is_some.true, w.count-is) | else-is_some w ↦ inr (sym c.is_some.ensures ∙ w.if-is_some.false, w.count-is) ] in
    let fits : c.if-is_some.count ≤ c.loop-id.id-index + 1
    = ⊎_elim (λ more. omega (arith, more.1, c.loop-id.invariant.1)) (λ same. omega (arith, same.1, c.loop-id.invariant.1)) counted in (
      count_more c.given_text.result _ (map (λ id. first_of id.now (rows_of found)) (drop (c.loop-id.id-index + 1) ids)) _ c.loop-id.count c.if-is_some.count _
          c.given_text.ensures (ap (map (λ id. first_of id.now (rows_of found))) (drop_more ids c.loop-id.id-index _ c.loop-id-test.true))
          counted c.loop-id.invariant.0,
      fits,
    )
