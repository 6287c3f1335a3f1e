use Rattle.std.proofs.Common.{◌≡◌, Ok, ap, rules, subst, sym, true}
use Rattle.std.proofs.KnownBytes.{Keeps-trans}
use Rattle.std.specs.Io.KnownBytes.{Keeps}
use Rattle.ctt_log.specs.Recovery.{HasNoNewline}
use Rattle.ctt_office.specs.Lines.{IsReadOnce, ReaderValue, coming}
use Rattle.ctt_office.proofs.NextLemmas.{HasRead, found_next, next_kept, once_from, reads_more}
use Rattle.ctt_office.proofs.line_reader.LineReader.fetch.Goals as goal

pub returns-in-Some-find-clause-next : goal.returns-in-Some-find-clause-next
returns-in-Some-find-clause-next g c =
    let keeps = Keeps-trans (coming c.args.self.now) (coming c.loop.self) (coming c.pull.new.self) c.loop.invariant.3 c.in_ok-pull.ensures.coming in
    next_kept c.in-Some-find.next c.args.self.now c.pull.new.self c.find.new.self keeps
    (found_next c.in-Some-find.next c.pull.new.self c.find.new.self c.find.result c.in-Some-find.is c.find.ensures.line c.find.ensures.long c.find.ensures.never c.find.ensures.rest)

pub returns-then-len-self-gt-LINE_LIMIT-clause-once : goal.returns-then-len-self-gt-LINE_LIMIT-clause-once
returns-then-len-self-gt-LINE_LIMIT-clause-once g c =
    once_from g.R.Source.left g.R.Source.has_failed g.R.Source.pulls c.args.self.now c.loop.self c.pass_long.new.self.pulls c.loop.invariant.4 c.pass_long.ensures.once

pub returns-in_err-pull-clause-once : goal.returns-in_err-pull-clause-once
returns-in_err-pull-clause-once g c =
    once_from g.R.Source.left g.R.Source.has_failed g.R.Source.pulls c.args.self.now c.loop.self c.pull.new.self.pulls c.loop.invariant.4 c.pull.ensures.once

pub returns-then-not-branch-clause-once : goal.returns-then-not-branch-clause-once
returns-then-not-branch-clause-once g c =
    subst (IsReadOnce g.R.Source.left g.R.Source.has_failed g.R.Source.pulls c.args.self.now) (ap (λ (r : ReaderValue). r.pulls) (sym c.last.ensures.rest))
    (once_from g.R.Source.left g.R.Source.has_failed g.R.Source.pulls c.args.self.now c.loop.self c.pull.new.self.pulls c.loop.invariant.4 c.pull.ensures.once)

pub returns-in-Some-find-clause-once : goal.returns-in-Some-find-clause-once
returns-in-Some-find-clause-once g c =
    subst (IsReadOnce g.R.Source.left g.R.Source.has_failed g.R.Source.pulls c.args.self.now) (ap (λ (r : ReaderValue). r.pulls) (sym c.find.ensures.rest))
    (once_from g.R.Source.left g.R.Source.has_failed g.R.Source.pulls c.args.self.now c.loop.self c.pull.new.self.pulls c.loop.invariant.4 c.pull.ensures.once)

pub loop-preserved : goal.loop-preserved
loop-preserved g c =
    let old = c.args.self.now in
    let some : c.pull.result ≡ Ok true = search rules in
    let none = c.in_default.ensures.none in
    let keeps = Keeps-trans (coming old) (coming c.loop.self) (coming c.pull.new.self) c.loop.invariant.3 c.in_ok-pull.ensures.coming in
    let read = reads_more old c.loop.self c.pull.new.self c.loop.invariant.4 (c.pull.ensures.grown some) none.1 c.in_ok-pull.ensures.unmarked in
    let all = subst (λ (r : ReaderValue). HasNoNewline r.held × Keeps (coming old) (coming r) × HasRead old r) (sym none.0) (none.1, keeps, read) in
    (tt, tt, all.0, all.1, all.2)
