use Rattle.std.proofs.Common.{◌∙◌, sym, ap, subst}
use Rattle.std.proofs.lemmas.Result.{err_from_is_err_and}
use Rattle.ctt_text.specs.Words.{words}
use Rattle.ctt_problem.specs.Problem.{Problem}
use Rattle.ctt_problem.specs.BitRows.{marks_of}
use Rattle.ctt_text.specs.BarredText.{BarSpells}
use Rattle.ctt_text.proofs.BarredReading.{ok_spelled, ok_accepted, ok_unbroken, err_cause, err_accepted, err_broken, err_either}
use Rattle.ctt_text.proofs.instance.barred.read_barred.Goals as goal

pub returns-in_err-table-in-Ok-clause-accepted : goal.returns-in_err-table-in-Ok-clause-accepted
returns-in_err-table-in-Ok-clause-accepted c =
    let p = err_from_is_err_and c.from_residual.result c.from_residual.ensures.1 in
    λ table utf8 s. rw (p.1, p.2) (err_accepted c.args.instance.now c.args.text.now c.in_err-table-in-Ok.field-0.0 (rw c.in-Ok.ensures.cases.0 at c.in_err-table-in-Ok.ensures.exact) c.limits_hold.ensures table s)

pub returns-in_err-table-in-Ok-clause-fault : goal.returns-in_err-table-in-Ok-clause-fault
returns-in_err-table-in-Ok-clause-fault c =
    let p = err_from_is_err_and c.from_residual.result c.from_residual.ensures.1 in
    rw (p.1, p.2) (err_cause c.args.instance.now c.args.text.now c.in_err-table-in-Ok.field-0.0 (rw c.in-Ok.ensures.cases.0 at c.in_err-table-in-Ok.ensures.exact) c.in-Ok.ensures.cases.1)

pub returns-in_err-table-in-Ok-clause-broken : goal.returns-in_err-table-in-Ok-clause-broken
returns-in_err-table-in-Ok-clause-broken c =
    let p = err_from_is_err_and c.from_residual.result c.from_residual.ensures.1 in
    λ k fault utf8 b. rw (p.1, p.2) (err_either c.in_err-table-in-Ok.field-0.0 fault (err_broken c.args.instance.now c.args.text.now c.in_err-table-in-Ok.field-0.0 (rw c.in-Ok.ensures.cases.0 at c.in_err-table-in-Ok.ensures.exact) k fault b))

pub returns-in_ok-table-in-Ok-clause-spelled : goal.returns-in_ok-table-in-Ok-clause-spelled
returns-in_ok-table-in-Ok-clause-spelled c =
    let i = c.args.instance.now in
    subst (λ (v : Problem). BarSpells i (words c.args.text.now) v.barred) (sym c.set_barred.ensures)
    (ok_spelled i c.args.text.now c.limits_hold.ensures (marks_of c.in_ok-table-in-Ok.table) (rw c.in-Ok.ensures.cases.0 at c.in_ok-table-in-Ok.ensures.exact))

pub returns-in_ok-table-in-Ok-clause-accepted : goal.returns-in_ok-table-in-Ok-clause-accepted
returns-in_ok-table-in-Ok-clause-accepted c =
    let i = c.args.instance.now in
    λ table utf8 s. c.set_barred.ensures ∙ ap (λ b. record i { barred = b }) (ok_accepted i c.args.text.now c.limits_hold.ensures (marks_of c.in_ok-table-in-Ok.table) table (rw c.in-Ok.ensures.cases.0 at c.in_ok-table-in-Ok.ensures.exact) s)

pub returns-in_ok-table-in-Ok-clause-broken : goal.returns-in_ok-table-in-Ok-clause-broken
returns-in_ok-table-in-Ok-clause-broken c =
    let i = c.args.instance.now in
    λ k fault utf8 b. ok_unbroken i c.args.text.now _ (marks_of c.in_ok-table-in-Ok.table) (rw c.in-Ok.ensures.cases.0 at c.in_ok-table-in-Ok.ensures.exact) k fault b
