use Rattle.std.proofs.Common.{◌≡◌, ◌⊎◌, ◌∙◌, ⊎_elim, inl, inr, is_some, refl, rules, subst}
use Rattle.std.proofs.lemmas.Result.{IfErr-at_err, IfOk-at_ok}
use Rattle.ctt_files.specs.Faults.{IfUnwritten}
use Rattle.ctt_files.specs.declared.fault.Fault.TheVariants.{Machine}
use Rattle.ctt_files.specs.declared.fault.MachineFault.TheVariants.{CannotWrite}
use Rattle.ctt_files.proofs.Plain.{on_ok_weaker, passed_on}
use Rattle.ctt_program.specs.Desks.{AreLastLines, IsOfSeats, StopsDesk, TellsLines, Warns}
use Rattle.ctt_program.specs.Seats.{has_standard}
use Rattle.ctt_program.specs.Streams.{IsUntouched, WritesFront, stream}
use Rattle.ctt_program.specs.declared.desk.DeskPlan.{DeskPlan}
use Rattle.ctt_program.proofs.Offices.{both_err, err_weaker, on_err_at, on_ok_at, stops_opened, stops_unplanned, stops_unprinted, stops_unread}
use Rattle.ctt_program.proofs.desk.desk.Goals as goal

pub returns-in_err-plan-clause-stops : goal.returns-in_err-plan-clause-stops
returns-in_err-plan-clause-stops g c =
    let held = g.F.Files.held c.args.files.now in
    let out = stream g.W.Sink.taken g.W.Sink.has_failed c.args.out.now c.args.out.now in
    let err = stream g.V.Sink.taken g.V.Sink.has_failed c.args.err.now c.args.err.now in
    let fault = c.in_err-plan.field-0.0 in
    passed_on c.from_residual.result fault (λ told. StopsDesk c.args.job.instance c.args.job.sides c.args.job.plan told held held out err) c.from_residual.ensures.1
    (stops_unplanned c.args.job.instance c.args.job.sides c.args.job.plan held held out err fault c.in_err-plan.ensures.cause refl refl refl)

pub returns-in_err-instance-clause-stops : goal.returns-in_err-instance-clause-stops
returns-in_err-instance-clause-stops g c =
    let held = g.F.Files.held c.args.files.now in
    let later = g.F.Files.held c.fetch_instance.new.files in
    let out = stream g.W.Sink.taken g.W.Sink.has_failed c.args.out.now c.args.out.now in
    let err = stream g.V.Sink.taken g.V.Sink.has_failed c.args.err.now c.args.err.now in
    let fault = c.in_err-instance.field-0.0 in
    passed_on c.from_residual-in_err-instance.result fault (λ told. StopsDesk c.args.job.instance c.args.job.sides c.args.job.plan told held later out err) c.from_residual-in_err-instance.ensures.1
    (stops_unread c.args.job.instance c.args.job.sides c.args.job.plan held later out err fault c.in_err-instance.ensures.cause refl refl c.in_err-instance.ensures.kept)

pub returns-in-Err-clause-stops : goal.returns-in-Err-clause-stops
returns-in-Err-clause-stops g c =
    let held = g.F.Files.held c.args.files.now in
    let later = g.F.Files.held c.keep-kept.new.files in
    let out = stream g.W.Sink.taken g.W.Sink.has_failed c.args.out.now c.args.out.now in
    let err = stream g.V.Sink.taken g.V.Sink.has_failed c.args.err.now c.keep-kept.new.err in
    let fault = c.in-Err.fault in
    let plan = c.args.job.plan in
    let same : c.in_ok-plan.plan ≡ plan = c.in_ok-plan.ensures.same in
    stops_opened c.args.job.instance c.args.job.sides plan held later out err c.in_ok-instance.instance (g.F.Files.held c.fetch_instance.new.files) fault c.in_ok-instance.ensures.spelled c.in_ok-instance.ensures.kept
    (subst (λ (p : DeskPlan). IfUnwritten fault (Unit {0}) (IsOfSeats p (g.F.Files.held c.fetch_instance.new.files) c.in_ok-instance.instance fault)) same (IfErr-at_err _ c.in-Err.is c.keep-kept.ensures.cause))
    refl (subst (λ (p : DeskPlan). IsUntouched err ⊎ Warns (is_some p.minutes) err) same (on_err_at _ c.in-Err.is c.keep-kept.ensures.stopped)) (c.keep-kept.ensures.kept ∙ c.in_ok-instance.ensures.kept)

pub returns-in-Ok-clause-does : goal.returns-in-Ok-clause-does
returns-in-Ok-clause-does g c =
    let held = g.F.Files.held c.args.files.now in
    let plan = c.args.job.plan in
    let same : c.in_ok-plan.plan ≡ plan = c.in_ok-plan.ensures.same in
    let told = g.V.Sink.taken in
    let broken = g.V.Sink.has_failed in
    let out = stream g.W.Sink.taken g.W.Sink.has_failed c.args.out.now c.print_lines.new.out in
    let is_seat : c.has_seat-is_seat.result ≡ has_standard plan.seats.items = search rules in
    let lines : c.deref-in-Ok.result.now ≡ c.in-Ok.lines.items = c.deref-in-Ok.ensures.value in
    on_ok_weaker c.print_lines.result _ _ (λ tells. record {
      problem = c.in_ok-instance.instance;
      is_instance = c.in_ok-instance.ensures.spelled;
      lines = c.in-Ok.lines.items;
      are_last = subst (λ (p : DeskPlan). AreLastLines c.in_ok-instance.instance p.start held c.in-Ok.lines.items) same
          (subst (λ h. AreLastLines c.in_ok-instance.instance c.in_ok-plan.plan.start h c.in-Ok.lines.items) c.in_ok-instance.ensures.kept (IfOk-at_ok _ c.in-Ok.is c.keep-kept.ensures.lines));
      warned = c.keep-kept.new.err;
      warns = subst (λ (p : DeskPlan). Warns (is_some p.minutes) (stream told broken c.args.err.now c.keep-kept.new.err)) same (on_ok_at _ c.in-Ok.is c.keep-kept.ensures.warned);
      tells = subst (λ b. TellsLines b c.in-Ok.lines.items out (stream told broken c.keep-kept.new.err c.print_lines.new.err)) is_seat
          (subst (λ bs. TellsLines c.has_seat-is_seat.result bs out (stream told broken c.keep-kept.new.err c.print_lines.new.err)) lines tells);
      kept = c.keep-kept.ensures.kept ∙ c.in_ok-instance.ensures.kept;
    }) c.print_lines.ensures.tells

pub returns-in-Ok-clause-stops : goal.returns-in-Ok-clause-stops
returns-in-Ok-clause-stops g c =
    let held = g.F.Files.held c.args.files.now in
    let later = g.F.Files.held c.keep-kept.new.files in
    let plan = c.args.job.plan in
    let same : c.in_ok-plan.plan ≡ plan = c.in_ok-plan.ensures.same in
    let told = g.V.Sink.taken in
    let broken = g.V.Sink.has_failed in
    let out = stream g.W.Sink.taken g.W.Sink.has_failed c.args.out.now c.print_lines.new.out in
    let warns = subst (λ (p : DeskPlan). Warns (is_some p.minutes) (stream told broken c.args.err.now c.keep-kept.new.err)) same (on_ok_at _ c.in-Ok.is c.keep-kept.ensures.warned) in
    let lines : c.deref-in-Ok.result.now ≡ c.in-Ok.lines.items = c.deref-in-Ok.ensures.value in
    err_weaker c.print_lines.result (λ fault. fault ≡ Machine CannotWrite) _ _ c.print_lines.ensures.cause (both_err c.print_lines.result _ _ c.print_lines.ensures.said c.print_lines.ensures.printed)
    (λ fault is left. stops_unprinted c.args.job.instance c.args.job.sides plan held later out told broken c.args.err.now c.keep-kept.new.err c.print_lines.new.err fault is warns left.0
    (⊎_elim inl (λ cut. inr (record {
      problem = c.in_ok-instance.instance;
      is_instance = c.in_ok-instance.ensures.spelled;
      lines = c.in-Ok.lines.items;
      are_last = subst (λ (p : DeskPlan). AreLastLines c.in_ok-instance.instance p.start held c.in-Ok.lines.items) same
          (subst (λ h. AreLastLines c.in_ok-instance.instance c.in_ok-plan.plan.start h c.in-Ok.lines.items) c.in_ok-instance.ensures.kept (IfOk-at_ok _ c.in-Ok.is c.keep-kept.ensures.lines));
      front = subst (λ bs. WritesFront out bs) lines cut.0;
      failed = cut.1;
    })) left.1) (c.keep-kept.ensures.kept ∙ c.in_ok-instance.ensures.kept))
