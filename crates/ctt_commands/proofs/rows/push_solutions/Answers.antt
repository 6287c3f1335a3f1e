use Rattle.std.proofs.Common.{◌≡◌, ◌++◌, ◌∷◌, [], append-nil, refl, rules, subst, sym}
use Rattle.std.proofs.lemmas.List.{drop_all}
use Rattle.ctt_problem.proofs.TimetableLemmas.{Each-at}
use Rattle.ctt_commands.specs.Groups.{CandidateFits}
use Rattle.ctt_commands.specs.Rows.{IsRow}
use Rattle.ctt_commands.proofs.CompareLemmas.{all_ahead, grown_more, left_at, none_ahead, one_ahead}
use Rattle.ctt_commands.proofs.rows.push_solutions.Goals as goal

pub loop-candidate-init : goal.loop-candidate-init
loop-candidate-init c = ([], sym (append-nil _), none_ahead (IsRow c.args.number c.args.name.now c.args.instance.now) c.args.candidates.now _ [] refl refl)

pub row_of-requires : goal.row_of-requires
row_of-requires c =
    subst (CandidateFits c.args.instance.now) (sym c.candidate-item.is) (Each-at (CandidateFits c.args.instance.now) c.args.candidates.now c.requires c.loop-candidate.candidate-index c.candidate-item.result c.loop-candidate-test.true)

pub loop-candidate-preserved : goal.loop-candidate-preserved
loop-candidate-preserved c =
    let row = c.in_ok-row_of.field-0 in
    let before = c.loop-candidate.invariant in (
      before.0 ++ row ∷ [],
      grown_more _ _ _ before.0 row before.1 (search rules),
      one_ahead (IsRow c.args.number c.args.name.now c.args.instance.now) c.args.candidates.now _ _ c.candidate-item.result before.0 _ row
          (left_at c.args.candidates.now c.loop-candidate.candidate-index c.candidate-item.result c.loop-candidate-test.true c.candidate-item.is) refl c.in_ok-row_of.ensures before.2,
    )

pub returns : goal.returns
returns c =
    let after = c.loop-candidate.invariant in
    (after.0, after.1, all_ahead (IsRow c.args.number c.args.name.now c.args.instance.now) c.args.candidates.now _ after.0 (drop_all _ _ c.loop-candidate-test.false) after.2)
