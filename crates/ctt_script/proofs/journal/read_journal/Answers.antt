use Rattle.ctt_script.proofs.JournalReading.{gives_spelled, gives_fits, gives_few, gives_short, gives_accepted, gives_cause, gives_broken}
use Rattle.ctt_script.proofs.journal.read_journal.Goals as goal

pub returns-in-Ok-clause-spelled : goal.returns-in-Ok-clause-spelled
returns-in-Ok-clause-spelled c = gives_spelled c.args.instance.now c.args.text.now c.read_text.result (rw c.in-Ok.ensures.cases.0 at c.read_text.ensures)

pub returns-in-Ok-clause-fits : goal.returns-in-Ok-clause-fits
returns-in-Ok-clause-fits c = gives_fits c.args.instance.now c.args.text.now c.limits_hold.ensures c.read_text.result (rw c.in-Ok.ensures.cases.0 at c.read_text.ensures)

pub returns-in-Ok-clause-few : goal.returns-in-Ok-clause-few
returns-in-Ok-clause-few c = gives_few c.args.instance.now c.args.text.now c.limits_hold.ensures c.read_text.result (rw c.in-Ok.ensures.cases.0 at c.read_text.ensures)

pub returns-in-Ok-clause-short : goal.returns-in-Ok-clause-short
returns-in-Ok-clause-short c = gives_short c.args.instance.now c.args.text.now c.limits_hold.ensures c.read_text.result (rw c.in-Ok.ensures.cases.0 at c.read_text.ensures)

pub returns-in-Ok-clause-accepted : goal.returns-in-Ok-clause-accepted
returns-in-Ok-clause-accepted c = λ t utf8 s. gives_accepted c.args.instance.now c.args.text.now c.read_text.result (rw c.in-Ok.ensures.cases.0 at c.read_text.ensures) t s

pub returns-in-Ok-clause-fault : goal.returns-in-Ok-clause-fault
returns-in-Ok-clause-fault c = gives_cause c.args.instance.now c.args.text.now c.in-Ok.ensures.cases.1 c.read_text.result (rw c.in-Ok.ensures.cases.0 at c.read_text.ensures)

pub returns-in-Ok-clause-broken : goal.returns-in-Ok-clause-broken
returns-in-Ok-clause-broken c = λ k fault utf8 b. gives_broken c.args.instance.now c.args.text.now c.read_text.result (rw c.in-Ok.ensures.cases.0 at c.read_text.ensures) k fault b
