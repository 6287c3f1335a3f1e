use Rattle.std.proofs.Common.{rules, ◌≡◌, ◌∷◌, [], ◌∙◌, List, ℕ, length, Option, sym, subst, refl, string_bytes}
use Rattle.std.specs.Io.KnownBytes.{Appends}
use Rattle.std.proofs.KnownBytes.{Appends-nil}
use Rattle.ctt_core.specs.Desks.{DeskValue}
use Rattle.ctt_script.specs.Answering.{PlaysItems, Answering, IsAtRun, Wrote, WroteFront}
use Rattle.ctt_files.specs.Output.{AppendsFront}
use Rattle.ctt_script.specs.ScriptText.{lines_of, items_of}
use Rattle.ctt_script.proofs.AnsweringLemmas.{begins, all_written, one_more_line, more_written, front_written, still_at_run}
use Rattle.ctt_files.proofs.OutputLemmas.{on_err}
use Rattle.ctt_script.proofs.engine.answer_lines.Goals as goal

pub loop-line-init : goal.loop-line-init
loop-line-init g c =
    let v : DeskValue = c.args.desk.now in
    let all : List (List ℕ) = lines_of c.args.text.now in
    let taken : Option (List ℕ) = g.W.Sink.taken c.args.writer.now in
    let first : c.into_iter-line-iterator.result ≡ all = search rules in
    record {
      answering = subst (λ ls. Answering v v all ls taken taken (string_bytes c.new-answers.result)) (sym first) (begins v all taken (string_bytes c.new-answers.result) c.new-answers.ensures.bytes);
      unmarked = refl;
    }

pub answer_line-requires : goal.answer_line-requires
answer_line-requires g c κs =
    let v : DeskValue = c.args.desk.now in
    let h = c.loop-line.invariant.answering in
    let same : c.loop-line.desk.problem ≡ c.args.instance.now = h.answered.same.problem ∙ c.requires.same in
    let planners : length c.loop-line.desk.drafts ≡ 64 = h.answered.same.planners ∙ c.requires.planners in
    let at : IsAtRun c.loop-line.desk = still_at_run v (lines_of c.args.text.now) (g.W.Sink.taken c.args.writer.now) c.loop-line.desk c.loop-line.line-iterator (g.W.Sink.taken c.loop-line.writer) (string_bytes c.loop-line.answers) c.requires.stands h in
    search rules

pub returns-in_err-answer_line-clause-part : goal.returns-in_err-answer_line-clause-part
returns-in_err-answer_line-clause-part g c =
    let v : DeskValue = c.args.desk.now in
    let before : Option (List ℕ) = g.W.Sink.taken c.args.writer.now in
    let taken : Option (List ℕ) = g.W.Sink.taken c.loop-line.writer in
    on_err c.from_residual.result (subst (λ i. WroteFront v (items_of i (lines_of c.args.text.now)) before taken) c.requires.same
    (front_written v (lines_of c.args.text.now) before c.loop-line.desk c.loop-line.line-iterator taken taken (string_bytes c.loop-line.answers) c.loop-line.invariant.answering (0, Appends-nil taken)))

pub loop-line-preserved : goal.loop-line-preserved
loop-line-preserved g c =
    let v : DeskValue = c.args.desk.now in
    let all : List (List ℕ) = lines_of c.args.text.now in
    let before : Option (List ℕ) = g.W.Sink.taken c.args.writer.now in
    let taken : Option (List ℕ) = g.W.Sink.taken c.loop-line.writer in
    let step : c.loop-line.line-iterator ≡ c.in-Some.line.now ∷ c.next.new.self = search rules in
    let more : PlaysItems c.loop-line.desk c.answer_line.new.desk (string_bytes c.loop-line.answers) (string_bytes c.answer_line.new.answers) (items_of v.problem (c.in-Some.line.now ∷ [])) = rw c.requires.same c.in_ok-answer_line.ensures in
    let next : Answering v c.answer_line.new.desk all c.next.new.self before taken (string_bytes c.answer_line.new.answers) = one_more_line v all before c.loop-line.desk c.answer_line.new.desk taken c.in-Some.line.now c.loop-line.line-iterator c.next.new.self (string_bytes c.loop-line.answers) (string_bytes c.answer_line.new.answers) step c.loop-line.invariant.answering more in
    record {
      answering = more_written v all before c.answer_line.new.desk c.next.new.self taken (g.W.Sink.taken c.put_long.new.writer) (string_bytes c.answer_line.new.answers) next (string_bytes c.put_long.new.text) c.in_ok-put_long.ensures.written;
      unmarked = c.in_ok-put_long.ensures.unmarked ∙ c.loop-line.invariant.unmarked;
    }

pub returns-in_err-put_long-clause-part : goal.returns-in_err-put_long-clause-part
returns-in_err-put_long-clause-part g c =
    let v : DeskValue = c.args.desk.now in
    let all : List (List ℕ) = lines_of c.args.text.now in
    let before : Option (List ℕ) = g.W.Sink.taken c.args.writer.now in
    let taken : Option (List ℕ) = g.W.Sink.taken c.loop-line.writer in
    let step : c.loop-line.line-iterator ≡ c.in-Some.line.now ∷ c.next.new.self = search rules in
    let more : PlaysItems c.loop-line.desk c.answer_line.new.desk (string_bytes c.loop-line.answers) (string_bytes c.answer_line.new.answers) (items_of v.problem (c.in-Some.line.now ∷ [])) = rw c.requires.same c.in_ok-answer_line.ensures in
    let next : Answering v c.answer_line.new.desk all c.next.new.self before taken (string_bytes c.answer_line.new.answers) = one_more_line v all before c.loop-line.desk c.answer_line.new.desk taken c.in-Some.line.now c.loop-line.line-iterator c.next.new.self (string_bytes c.loop-line.answers) (string_bytes c.answer_line.new.answers) step c.loop-line.invariant.answering more in
    on_err c.from_residual-in_err-put_long.result (subst (λ i. WroteFront v (items_of i all) before (g.W.Sink.taken c.put_long.new.writer)) c.requires.same
    (front_written v all before c.answer_line.new.desk c.next.new.self taken (g.W.Sink.taken c.put_long.new.writer) (string_bytes c.answer_line.new.answers) next c.in_err-put_long.ensures.front))

pub returns-in_err-put_whole-clause-part : goal.returns-in_err-put_whole-clause-part
returns-in_err-put_whole-clause-part g c =
    let v : DeskValue = c.args.desk.now in
    let all : List (List ℕ) = lines_of c.args.text.now in
    let before : Option (List ℕ) = g.W.Sink.taken c.args.writer.now in
    let taken : Option (List ℕ) = g.W.Sink.taken c.loop-line.writer in
    let later : Option (List ℕ) = g.W.Sink.taken c.put_whole.new.writer in
    let part : AppendsFront taken later (string_bytes c.loop-line.answers) = subst (AppendsFront taken later) c.as_bytes.ensures.value c.in_err-put_whole.ensures.front in
    on_err c.from_residual-in_err-put_whole.result (subst (λ i. WroteFront v (items_of i all) before later) c.requires.same
    (front_written v all before c.loop-line.desk c.loop-line.line-iterator taken later (string_bytes c.loop-line.answers) c.loop-line.invariant.answering part))

pub returns-clause-written : goal.returns-clause-written
returns-clause-written g c =
    let v : DeskValue = c.args.desk.now in
    let all : List (List ℕ) = lines_of c.args.text.now in
    let before : Option (List ℕ) = g.W.Sink.taken c.args.writer.now in
    let taken : Option (List ℕ) = g.W.Sink.taken c.loop-line.writer in
    let later : Option (List ℕ) = g.W.Sink.taken c.put_whole.new.writer in
    let none : c.loop-line.line-iterator ≡ [] = search rules in
    let written : Appends taken later (string_bytes c.loop-line.answers) = subst (λ bs. Appends taken later bs) c.as_bytes.ensures.value c.in_ok-put_whole.ensures.all in
    subst (λ i. Wrote v c.loop-line.desk (items_of i all) before later) c.requires.same (all_written v all before c.loop-line.desk c.loop-line.line-iterator taken later (string_bytes c.loop-line.answers) none c.loop-line.invariant.answering written)
