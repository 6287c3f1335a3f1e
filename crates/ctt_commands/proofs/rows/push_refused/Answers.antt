use Rattle.std.proofs.Common.{◌≡◌, ◌++◌, ◌∷◌, [], append-nil, refl, rules, string_bytes, sym}
use Rattle.std.proofs.lemmas.List.{drop_all}
use Rattle.ctt_commands.specs.Rows.{IsFaulty, IsRowOf}
use Rattle.ctt_commands.specs.declared.row.Row.{Row}
use Rattle.ctt_commands.proofs.CompareLemmas.{all_ahead, grown_more, left_at, none_ahead, one_ahead}
use Rattle.ctt_commands.proofs.rows.push_refused.Goals as goal

pub loop-file-init : goal.loop-file-init
loop-file-init c = ([], sym (append-nil _), none_ahead (λ file row. IsRowOf c.args.number c.args.name.now (string_bytes file) row × IsFaulty c.args.fault.now row.judged) c.args.files.now _ [] refl refl)

pub loop-file-preserved : goal.loop-file-preserved
loop-file-preserved c =
    let row = c.in_ok-named.field-0 in
    let before = c.loop-file.invariant in
    let is : IsRowOf c.args.number c.args.name.now (string_bytes c.file-item.result) row × IsFaulty c.args.fault.now row.judged = search rules in (
      before.0 ++ row ∷ [],
      grown_more _ _ _ before.0 row before.1 (search rules),
      one_ahead (λ file row. IsRowOf c.args.number c.args.name.now (string_bytes file) row × IsFaulty c.args.fault.now row.judged) c.args.files.now _ _ c.file-item.result before.0 _ row
          (left_at c.args.files.now c.loop-file.file-index c.file-item.result c.loop-file-test.true c.file-item.is) refl is before.2,
    )

pub returns : goal.returns
returns c =
    let after = c.loop-file.invariant in
    (after.0, after.1, all_ahead (λ file row. IsRowOf c.args.number c.args.name.now (string_bytes file) row × IsFaulty c.args.fault.now row.judged) c.args.files.now _ after.0 (drop_all _ _ c.loop-file-test.false) after.2)
