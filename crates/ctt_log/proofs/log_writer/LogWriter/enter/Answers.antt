use Rattle.std.proofs.Common.{◌≡◌, ◌⊎◌, ◌+◌, ◌≤◌, Some, length, false, true, arith, rules, subst, sym, inl}
use mathlib.Core.List.{IsPrefix}
use Rattle.ctt_log.specs.Minutes.{AreFrontOf, AreMinutesOf, last_history}
use Rattle.ctt_log.proofs.MinutesLemmas.{front_grows, front_of, has_some, is_out, minutes_grow}
use Rattle.ctt_log.proofs.log_writer.LogWriter.enter.Goals as goal

pub invariant_of-self-in-Ok : goal.invariant_of-self-in-Ok
invariant_of-self-in-Ok g c =
    let i = g.J.Naming.problem in
    let a = c.self.inside in
    let before = last_history a.last in
    let history = c.args.receipt.now in
    let start = g.J.Begun.start in
    let now = g.W.Sink.taken c.write-written.new.writer in
    let sound : a.failed ≡ false = search rules in
    let minutes : AreMinutesOf i before start (g.W.Sink.taken a.writer) = c.self.invariant.0 sound in
    let prefix : IsPrefix before history = search rules in
    let long : length history ≡ length before + 1 = (let n = c.number-number.ensures.number in let m = c.count-written.ensures.number in omega (arith, n, m, c.if-number-written.false, c.if-number-written-gt1.false)) in
    let grown : AreMinutesOf i (last_history (Some c.again.result)) start now = subst (λ h. AreMinutesOf i h start now) (sym c.again.ensures)
    (minutes_grow i start (g.W.Sink.taken a.writer) now before history c.args.entry.now minutes c.in-Ok.ensures.taken prefix long c.requires) in
    (λ _. grown, λ (out : a.failed ≡ true). cc, front_of i _ start now grown)

pub invariant_of-self-in-Err : goal.invariant_of-self-in-Err
invariant_of-self-in-Err g c =
    let i = g.J.Naming.problem in
    let a = c.self.inside in
    let before = last_history a.last in
    let history = c.args.receipt.now in
    let start = g.J.Begun.start in
    let now = g.W.Sink.taken c.write-written.new.writer in
    let sound : a.failed ≡ false = search rules in
    let minutes : AreMinutesOf i before start (g.W.Sink.taken a.writer) = c.self.invariant.0 sound in
    let prefix : IsPrefix before history = search rules in
    let long : length history ≡ length before + 1 = (let n = c.number-number.ensures.number in let m = c.count-written.ensures.number in omega (arith, n, m, c.if-number-written.false, c.if-number-written-gt1.false)) in
    let grown : AreFrontOf i (last_history (Some c.again.result)) start now = subst (λ h. AreFrontOf i h start now) (sym c.again.ensures)
    (front_grows i start (g.W.Sink.taken a.writer) now before history c.args.entry.now minutes c.in-Err.ensures.front prefix long c.requires) in
    (λ (out : true ≡ false). cc, λ _. inl c.in-Err.ensures.marked, grown)

pub returns-in-Ok-clause-kept : goal.returns-in-Ok-clause-kept
returns-in-Ok-clause-kept g c = λ entered.
    let i = g.J.Naming.problem in
    let a = c.self.inside in
    let before = last_history a.last in
    let history = c.args.receipt.now in
    let sound : a.failed ≡ false = search rules in
    let minutes : AreMinutesOf i before g.J.Begun.start (g.W.Sink.taken a.writer) = c.self.invariant.0 sound in
    let start = g.J.Begun.start in
    let prefix : IsPrefix before history = search rules in
    let long : length history ≡ length before + 1 = (let n = c.number-number.ensures.number in let m = c.count-written.ensures.number in omega (arith, n, m, c.if-number-written.false, c.if-number-written-gt1.false)) in (
      c.write-written.new.writer,
      minutes_grow i start (g.W.Sink.taken a.writer) (g.W.Sink.taken c.write-written.new.writer) before history c.args.entry.now minutes c.in-Ok.ensures.taken prefix long c.requires,
      c.in-Ok.ensures.kept,
    )

pub returns-then-self-clause-out : goal.returns-then-self-clause-out
returns-then-self-clause-out g c = λ _.
    let i = g.J.Naming.problem in
    let a = c.self.inside in
    let history = c.args.receipt.now in
    let why : (a.failed ≡ true) ⊎ (length history ≤ length (last_history a.last)) = search rules in
    (a.writer, last_history a.last, is_out g.W.Sink.taken g.W.Sink.has_failed i g.J.Begun.start (last_history a.last) history a.writer a.failed c.self.invariant.0 c.self.invariant.1 (has_some i history c.args.entry.now c.requires) why)
