use Rattle.std.proofs.Common.{◌≡◌, Ok, Err, OnErr, map, slice_set, rules}
use Rattle.ctt_problem.proofs.NumberListLemmas.{set_added, set_kept}
use Rattle.ctt_problem.proofs.number_lists.add_to.Goals as goal

pub returns-clause-added : goal.returns-clause-added
returns-clause-added g c = set_added (λ v. v.items) c.args.lists.now c.args.place c.args.number c.index-lists-place.result c.push.new.self (search rules) c.in_ok-push.ensures.items

pub returns-in_err-push-clause-kept : goal.returns-in_err-push-clause-kept
returns-in_err-push-clause-kept g c =
    let same = set_kept (λ v. v.items) c.args.lists.now c.args.place c.index-lists-place.result c.push.new.self (search rules) (search rules) in
    elim c.from_residual.result as (λ r. OnErr r (map (λ v. v.items) (slice_set c.args.lists.now c.args.place c.push.new.self) ≡ map (λ v. v.items) c.args.lists.now)) [
      | Ok done ↦ tt
      | Err wanting ↦ same
    ]
