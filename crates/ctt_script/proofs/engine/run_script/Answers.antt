use Rattle.std.proofs.Common.{rules, ◌≡◌, ◌∙◌, [], ℕ, length, sym}
use Rattle.ctt_script.specs.Answering.{IsAtRun}
use Rattle.std.proofs.Crossing.{crosses}
use denote.Param.Send.{sendable}
use Rattle.ctt_problem.proofs.SharingLemmas.{instance_shared}
use Rattle.ctt_problem.proofs.ResultLemmas.{ok_same}
use Rattle.ctt_edits.specs.declared.fault.EditFault.{EditFault}
use Rattle.ctt_script.proofs.ScriptRuns.{all_said, front_said, journal_can, read_short, script_done}
use Rattle.ctt_script.proofs.engine.run_script.Goals as goal

pub new-requires : goal.new-requires
new-requires g c κs =
    let fit = c.requires.fit in
    (search (instance_shared, sendable, crosses) depth 60 fits 20000, (search (instance_shared, sendable, crosses) depth 60 fits 20000, search rules))

pub answer_lines-answered-requires : goal.answer_lines-answered-requires
answer_lines-answered-requires g c κs =
    let same : c.in_ok-desk.desk.problem ≡ c.args.instance.now = c.in_ok-desk.ensures.problem in
    let planners : length c.in_ok-desk.desk.drafts ≡ 64 = c.in_ok-desk.ensures.planners in
    let at : IsAtRun c.in_ok-desk.desk = ([], c.in_ok-desk.ensures.stands) in
    (search (instance_shared, sendable, crosses) depth 60 fits 20000, (search (instance_shared, sendable, crosses) depth 60 fits 20000, search rules))

pub returns-in-Err-answered-clause-front : goal.returns-in-Err-answered-clause-front
returns-in-Err-answered-clause-front g c = λ t0 e.
    front_said c.in_ok-desk.desk c.args.instance.now t0 (g.R.Source.left c.args.reader.now) c.in-Ok.text.items c.deref.result.now (g.W.Sink.taken c.args.writer.now) _
    c.in_ok-desk.ensures.problem (ok_same {F = ℕ × EditFault} c.in_ok-desk.desk.opening t0 (sym c.in_ok-desk.ensures.opening ∙ e)) c.in_ok-desk.ensures.stands c.deref.ensures.value c.in-Ok.ensures.all c.in-Err-answered.ensures.part

pub returns-in-Ok-answered-clause-entries : goal.returns-in-Ok-answered-clause-entries
returns-in-Ok-answered-clause-entries g c =
    journal_can c.in_ok-desk.desk c.answer_lines-answered.new.desk c.args.instance.now c.in-Ok.text.items c.deref.result.now (g.W.Sink.taken c.args.writer.now) (g.W.Sink.taken c.answer_lines-answered.new.writer)
    c.limits_hold.ensures c.in_ok-desk.ensures.problem c.lawful.ensures.opening c.in_ok-desk.ensures.planners c.in_ok-desk.ensures.stands c.deref.ensures.value c.in-Ok-answered.ensures.written (search rules)

pub returns-in-Ok-answered-clause-answers : goal.returns-in-Ok-answered-clause-answers
returns-in-Ok-answered-clause-answers g c =
    all_said c.in_ok-desk.desk c.answer_lines-answered.new.desk c.args.instance.now (g.R.Source.left c.args.reader.now) c.in-Ok.text.items c.deref.result.now (g.W.Sink.taken c.args.writer.now) _
    c.in_ok-desk.ensures.problem c.in_ok-desk.ensures.stands c.deref.ensures.value c.in-Ok.ensures.all c.in-Ok-answered.ensures.written

pub returns-in-Ok-answered-clause-stands : goal.returns-in-Ok-answered-clause-stands
returns-in-Ok-answered-clause-stands g c =
    script_done c.in_ok-desk.desk c.answer_lines-answered.new.desk c.args.instance.now (g.R.Source.left c.args.reader.now) c.in-Ok.text.items c.deref.result.now _ _
    c.in_ok-desk.ensures.problem c.in_ok-desk.ensures.stands c.deref.ensures.value c.in-Ok.ensures.all c.in-Ok-answered.ensures.written

pub returns-in-Ok-answered-clause-short : goal.returns-in-Ok-answered-clause-short
returns-in-Ok-answered-clause-short g c = read_short (g.R.Source.left c.args.reader.now) c.in-Ok.text.items 67108864 c.in-Ok.ensures.all (search rules)

pub lawful-requires : goal.lawful-requires
lawful-requires g c κs = (search (instance_shared, sendable, crosses) depth 60 fits 20000, (search (instance_shared, sendable, crosses) depth 60 fits 20000, search rules))
