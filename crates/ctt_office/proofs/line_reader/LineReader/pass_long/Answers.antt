use Rattle.std.proofs.Common.{◌≡◌, ◌∙◌, Ok, drop, rules, sym, subst, true}
use Rattle.ctt_log.specs.Recovery.{HasNoNewline}
use Rattle.ctt_office.specs.Lines.{IsReadOnce}
use Rattle.ctt_office.proofs.NextLemmas.{HasRead, IsPast, all_behind, ends_behind, forgets, goes_on, none_taken, once_from, reads_more, reads_on, reads_still}
use Rattle.ctt_office.proofs.line_reader.LineReader.pass_long.Goals as goal

pub returns-in-Some-first_end-clause-next : goal.returns-in-Some-first_end-clause-next
returns-in-Some-first_end-clause-next g c =
    let old = c.args.self.now in
    let empty : IsPast old c.forget.new.self = subst (IsPast old) (sym c.forget.ensures) (forgets old c.loop.self c.loop.invariant.2) in
    let past : IsPast old c.pull.new.self = reads_on old c.forget.new.self c.pull.new.self empty c.in_ok-pull.ensures.coming in (
      none_taken _ _,
      ends_behind old c.pull.new.self (g.R.Source.left c.self.inside.source) c.self.inside.held.items _ c.self.inside.given c.in-Some-first_end.len past
          (search rules) (search rules) (all_behind c.deref.result.now c.self.inside.held.items c.self.inside.given c.deref.ensures.value) c.in-Some-first_end.ensures.cut,
    )

pub returns-in_err-pull-clause-once : goal.returns-in_err-pull-clause-once
returns-in_err-pull-clause-once g c =
    let old = c.args.self.now in
    let read : HasRead old c.forget.new.self = subst (HasRead old) (sym c.forget.ensures) (reads_still old c.loop.self c.loop.invariant.3) in
    once_from g.R.Source.left g.R.Source.has_failed g.R.Source.pulls old c.forget.new.self c.pull.new.self.pulls read c.pull.ensures.once

pub returns-then-not-branch-clause-once : goal.returns-then-not-branch-clause-once
returns-then-not-branch-clause-once g c =
    let old = c.args.self.now in
    let read : HasRead old c.forget.new.self = subst (HasRead old) (sym c.forget.ensures) (reads_still old c.loop.self c.loop.invariant.3) in
    once_from g.R.Source.left g.R.Source.has_failed g.R.Source.pulls old c.forget.new.self c.pull.new.self.pulls read c.pull.ensures.once

pub returns-in-Some-first_end-clause-once : goal.returns-in-Some-first_end-clause-once
returns-in-Some-first_end-clause-once g c =
    let old = c.args.self.now in
    let read : HasRead old c.forget.new.self = subst (HasRead old) (sym c.forget.ensures) (reads_still old c.loop.self c.loop.invariant.3) in
    let same : c.pull.new.self.pulls ≡ g.R.Source.pulls c.self.inside.source = search rules in
    subst (IsReadOnce g.R.Source.left g.R.Source.has_failed g.R.Source.pulls old) same
    (once_from g.R.Source.left g.R.Source.has_failed g.R.Source.pulls old c.forget.new.self c.pull.new.self.pulls read c.pull.ensures.once)

pub loop-preserved : goal.loop-preserved
loop-preserved g c =
    let old = c.args.self.now in
    let some : c.pull.result ≡ Ok true = search rules in
    let empty : IsPast old c.forget.new.self = subst (IsPast old) (sym c.forget.ensures) (forgets old c.loop.self c.loop.invariant.2) in
    let past : IsPast old c.pull.new.self = reads_on old c.forget.new.self c.pull.new.self empty c.in_ok-pull.ensures.coming in
    let read : HasRead old c.forget.new.self = subst (HasRead old) (sym c.forget.ensures) (reads_still old c.loop.self c.loop.invariant.3) in
    let here : c.pull.new.self.held ≡ drop c.self.inside.given c.self.inside.held.items = search rules in
    let unended : HasNoNewline c.pull.new.self.held =
    subst HasNoNewline (all_behind c.deref.result.now c.self.inside.held.items c.self.inside.given c.deref.ensures.value ∙ sym here) c.in_default.ensures.none in
    (tt, tt, goes_on old c.pull.new.self past unended, reads_more old c.forget.new.self c.pull.new.self read (c.pull.ensures.grown some) unended c.in_ok-pull.ensures.unmarked)
