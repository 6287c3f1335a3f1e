use Rattle.std.proofs.Common.{rules, ⊎_elim, inl, inr}
use Rattle.std.proofs.Crossing.{crosses}
use denote.Param.Send.{sendable}
use Rattle.ctt_problem.proofs.SharingLemmas.{instance_shared}
use Rattle.ctt_program.specs.Desks.{IsOfSeats}
use Rattle.ctt_program.proofs.Offices.{passed_desk, seats_plain}
use Rattle.ctt_program.proofs.desk.keep.Goals as goal

pub open_on-requires : goal.open_on-requires
open_on-requires g c κs = (search (instance_shared, sendable, crosses) depth 60 fits 20000, (search (instance_shared, sendable, crosses) depth 60 fits 20000, search rules))

pub returns-in_err-opened-clause-cause : goal.returns-in_err-opened-clause-cause
returns-in_err-opened-clause-cause g c =
    let held = g.F.Files.held c.args.files.now in
    let fault = c.in_err-opened.field-0.0 in
    let why : IsOfSeats c.args.plan held c.args.instance.now fault = ⊎_elim inl (λ memory. inr (inl (inr (inr memory)))) c.in_err-opened.ensures.cause in
    passed_desk c.from_residual.result fault (IsOfSeats c.args.plan held c.args.instance.now) c.from_residual.ensures.1 (seats_plain c.args.plan held c.args.instance.now fault why) why
