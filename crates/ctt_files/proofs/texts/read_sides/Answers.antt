use Rattle.std.proofs.Common.{inl, inr, subst}
use Rattle.std.proofs.lemmas.Result.{IfErr-weaker}
use Rattle.ctt_files.specs.Refusals.{IsOfBlocked, IsOfSides}
use Rattle.ctt_files.specs.Texts.{IsBlockedBy}
use Rattle.ctt_files.proofs.Plain.{on_ok_weaker, passed_on}
use Rattle.ctt_files.proofs.texts.read_sides.Goals as goal

pub returns-clause-sides : goal.returns-clause-sides
returns-clause-sides g c =
    on_ok_weaker c.block_slots.result _ _ (λ is. record {
      barred = c.bar_rooms.new.instance;
      is_barred = c.in_ok-bar_rooms.ensures.barred;
      is_blocked = subst (λ held. IsBlockedBy held c.args.sides.blocked c.bar_rooms.new.instance c.block_slots.new.instance) c.in_ok-bar_rooms.ensures.kept is;
    }) c.block_slots.ensures.blocked

pub returns-clause-cause : goal.returns-clause-cause
returns-clause-cause g c =
    IfErr-weaker c.block_slots.result _ _ (λ fault is. inr (
      c.bar_rooms.new.instance,
      c.in_ok-bar_rooms.ensures.barred,
      subst (λ held. IsOfBlocked held c.bar_rooms.new.instance c.args.sides.blocked fault) c.in_ok-bar_rooms.ensures.kept is,
    )) c.block_slots.ensures.cause

pub returns-in_err-bar_rooms-clause-cause : goal.returns-in_err-bar_rooms-clause-cause
returns-in_err-bar_rooms-clause-cause g c =
    passed_on c.from_residual.result c.in_err-bar_rooms.field-0.0 (IsOfSides (g.F.Files.held c.args.files.now) c.args.instance.now c.args.sides) c.from_residual.ensures.1 (inl c.in_err-bar_rooms.ensures.cause)
