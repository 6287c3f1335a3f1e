use Rattle.std.proofs.Common.{◌∙◌, sym, ap, subst}
use Rattle.std.proofs.lemmas.Result.{err_from_is_err_and}
use Rattle.ctt_text.specs.Words.{words}
use Rattle.ctt_problem.specs.Problem.{Problem}
use Rattle.ctt_text.specs.BlockedPlaces.{Closures, closures_in}
use Rattle.ctt_text.specs.BlockedText.{BlockSpells}
use Rattle.ctt_text.proofs.BlockedReading.{ok_spelled, ok_accepted, ok_unbroken, err_cause, err_accepted, err_broken, err_either}
use Rattle.ctt_text.proofs.instance.blocked.read_blocked.Goals as goal

pub returns-in_err-tables-in-Ok-clause-accepted : goal.returns-in_err-tables-in-Ok-clause-accepted
returns-in_err-tables-in-Ok-clause-accepted c =
    let p = err_from_is_err_and c.from_residual.result c.from_residual.ensures.1 in
    λ closed blocked utf8 s. rw (p.1, p.2) (err_accepted c.args.instance.now c.args.text.now c.in_err-tables-in-Ok.field-0.0 (rw c.in-Ok.ensures.cases.0 at c.in_err-tables-in-Ok.ensures.exact) closed blocked s)

pub returns-in_err-tables-in-Ok-clause-fault : goal.returns-in_err-tables-in-Ok-clause-fault
returns-in_err-tables-in-Ok-clause-fault c =
    let p = err_from_is_err_and c.from_residual.result c.from_residual.ensures.1 in
    rw (p.1, p.2) (err_cause c.args.instance.now c.args.text.now c.in_err-tables-in-Ok.field-0.0 (rw c.in-Ok.ensures.cases.0 at c.in_err-tables-in-Ok.ensures.exact) c.in-Ok.ensures.cases.1)

pub returns-in_err-tables-in-Ok-clause-broken : goal.returns-in_err-tables-in-Ok-clause-broken
returns-in_err-tables-in-Ok-clause-broken c =
    let p = err_from_is_err_and c.from_residual.result c.from_residual.ensures.1 in
    λ k fault utf8 b. rw (p.1, p.2) (err_either c.in_err-tables-in-Ok.field-0.0 fault (err_broken c.args.instance.now c.args.text.now c.in_err-tables-in-Ok.field-0.0 (rw c.in-Ok.ensures.cases.0 at c.in_err-tables-in-Ok.ensures.exact) k fault b))

pub returns-in_ok-tables-in-Ok-clause-spelled : goal.returns-in_ok-tables-in-Ok-clause-spelled
returns-in_ok-tables-in-Ok-clause-spelled c =
    let i = c.args.instance.now in
    subst (λ (v : Problem). BlockSpells i (words c.args.text.now) v.closed v.blocked) (sym c.set_blocked.ensures)
    (ok_spelled i c.args.text.now (closures_in c.in_ok-tables-in-Ok.tables) (rw c.in-Ok.ensures.cases.0 at c.in_ok-tables-in-Ok.ensures.exact))

pub returns-in_ok-tables-in-Ok-clause-accepted : goal.returns-in_ok-tables-in-Ok-clause-accepted
returns-in_ok-tables-in-Ok-clause-accepted c =
    let i = c.args.instance.now in
    λ closed blocked utf8 s. c.set_blocked.ensures ∙ ap (λ (m : Closures). record i { closed = m.closed; blocked = m.blocked }) (ok_accepted i c.args.text.now (closures_in c.in_ok-tables-in-Ok.tables) closed blocked (rw c.in-Ok.ensures.cases.0 at c.in_ok-tables-in-Ok.ensures.exact) s)

pub returns-in_ok-tables-in-Ok-clause-broken : goal.returns-in_ok-tables-in-Ok-clause-broken
returns-in_ok-tables-in-Ok-clause-broken c =
    let i = c.args.instance.now in
    λ k fault utf8 b. ok_unbroken i c.args.text.now _ (closures_in c.in_ok-tables-in-Ok.tables) (rw c.in-Ok.ensures.cases.0 at c.in_ok-tables-in-Ok.ensures.exact) k fault b
