-- Why a desk with seats stops.
use Rattle.std.proofs.Common.{◌≡◌, ◌<◌, ◌⊎◌, ⊎_elim, inl, inr, ap, arith, get_or, zero, suc, sym, subst, Bool, true, ℕ, List, [], ◌∷◌, is_some, length, Option, Result, Ok, Err, IfErr, IsErrAnd, OnErr, OnOk}
use Rattle.std.specs.Global.{Global}
use Rattle.std.specs.String.{string_bytes}
use Rattle.std.specs.declared.string.String.{String}
use Rattle.ctt_problem.specs.Problem.{Problem}
use Rattle.ctt_files.specs.Faults.{IfUnwritten}
use Rattle.ctt_files.specs.Refusals.{IsOfInstanceIn}
use Rattle.ctt_files.specs.Texts.{Held, IsInstanceIn}
use Rattle.ctt_files.specs.declared.fault.Fault.{Fault}
use Rattle.ctt_files.specs.declared.fault.Fault.TheVariants.{Machine}
use Rattle.ctt_files.specs.declared.fault.MachineFault.TheVariants.{CannotWrite, NoMemory}
use Rattle.ctt_files.specs.declared.sides.Sides.{Sides}
use Rattle.ctt_files.proofs.Plain.{IsPlain, instance_in_plain, plain_written, unwritten_more}
use Rattle.ctt_commands.specs.Refusals.{IsOfWork}
use Rattle.ctt_commands.proofs.Plain.{opening_plain, work_plain}
use Rattle.ctt_program.specs.Desks.{AreCutShort, IsOfDesk, IsOfPlan, IsOfSeats, IsUnread, IsUnreadAt, IsUnreadOf, StopsDesk, Warns}
use Rattle.ctt_program.specs.Streams.{IsUnmarked, IsUntouched, Stream, stream}
use Rattle.ctt_program.specs.declared.desk.DeskPlan.{DeskPlan}

-- a seat that has an index is one of the seats
pub unread_in : (seats : List (String Global)) (at : ℕ) (seat : String Global) (fault : Fault) → at < length seats → seat ≡ get_or seats at seat → IsUnreadAt (string_bytes seat) fault → IsUnread seats fault
unread_in [] at seat fault lt there is = absurd (omega (arith, lt))
unread_in (first ∷ seats) zero seat fault lt there is = inl (subst (λ (s : String Global). IsUnreadAt (string_bytes s) fault) there is)
unread_in (first ∷ seats) (suc at) seat fault lt there is = inr (unread_in seats at seat fault (omega (arith, lt)) there is)

-- it is the seat at that index
pub unread_of : (seats : List (String Global)) (at : ℕ) (seat : String Global) (fault : Fault) → at < length seats → seat ≡ get_or seats at seat → IsUnreadAt (string_bytes seat) fault → IsUnreadOf seats at fault
unread_of [] at seat fault lt there is = absurd (omega (arith, lt))
unread_of (first ∷ seats) zero seat fault lt there is = subst (λ (s : String Global). IsUnreadAt (string_bytes s) fault) there is
unread_of (first ∷ seats) (suc at) seat fault lt there is = unread_of seats at seat fault (omega (arith, lt)) there is

-- that its lines cannot be read is a fault of the desk
pub of_unread : (seats : List (String Global)) (fault : Fault) (seat : List ℕ) → (IsUnreadAt seat fault → IsUnread seats fault) → IsUnreadAt seat fault ⊎ (fault ≡ Machine NoMemory)
    → IfUnwritten fault (Unit {0}) (IsOfWork fault ⊎ IsUnread seats fault)
of_unread seats fault seat within (inl named) = plain_written fault (Unit {0}) (IsOfWork fault ⊎ IsUnread seats fault) (subst IsPlain (sym named.1) tt) (inr (within named))
of_unread seats fault seat within (inr memory) = plain_written fault (Unit {0}) (IsOfWork fault ⊎ IsUnread seats fault) (subst IsPlain (sym memory) tt) (inl (inr (inr memory)))

unread_plain : (seats : List (String Global)) (fault : Fault) → IsUnread seats fault → IsPlain fault
unread_plain [] fault is = absurd is
unread_plain (seat ∷ seats) fault (inl named) = subst IsPlain (sym named.1) tt
unread_plain (seat ∷ seats) fault (inr others) = unread_plain seats fault others

pub seats_plain : (plan : DeskPlan) (held : Held) (problem : Problem) (fault : Fault) → IsOfSeats plan held problem fault → IsPlain fault
seats_plain plan held problem fault is =
    ⊎_elim (λ opens. opening_plain plan.start held problem fault opens) (λ other. ⊎_elim (λ work. work_plain fault work) (λ unread. unread_plain plan.seats.items fault unread) other) is

-- what may be reported of a desk, whatever is known of the outputs
pub passed_desk : {T : Type 0} (r : Result T Fault) (fault : Fault) (Q : Fault → Type 0) → IsErrAnd r (λ told. told ≡ fault) → IsPlain fault → Q fault → IfErr r (λ told. IfUnwritten told (Unit {0}) (Q told))
passed_desk (Ok x) fault Q same plain q = tt
passed_desk (Err told) fault Q same plain q = subst (λ other. IfUnwritten other (Unit {0}) (Q other)) (sym same) (plain_written fault (Unit {0}) (Q fault) plain q)

-- ---- what a desk leaves that stops

plan_written : (plan : DeskPlan) (fault : Fault) (P Q : Type 0) → IsOfPlan plan fault → Q → IfUnwritten fault P Q
plan_written plan fault P Q (inl seats) q = subst (λ f. IfUnwritten f P Q) (sym seats.0) q
plan_written plan fault P Q (inr minutes) q = subst (λ f. IfUnwritten f P Q) (sym minutes.2) q

module _ {W V : Type 0} (instance : String Global) (sides : Sides) (plan : DeskPlan) (before after : Held) (out : Stream W) (err : Stream V) where
  -- the plan is refused
  pub stops_unplanned : (fault : Fault) → IsOfPlan plan fault → IsUntouched out → IsUntouched err → after ≡ before → StopsDesk instance sides plan fault before after out err
  stops_unplanned fault why unprinted unsaid kept = record {
    cause = plan_written plan fault _ _ why (inl why, ap out.failed unprinted);
    printed = inl unprinted;
    warned = inl unsaid;
    kept = kept;
  }

  -- the instance, or a side file, is refused
  pub stops_unread : (fault : Fault) → IsOfInstanceIn before instance sides fault → IsUntouched out → IsUntouched err → after ≡ before → StopsDesk instance sides plan fault before after out err
  stops_unread fault why unprinted unsaid kept = record {
    cause = plain_written fault _ _ (instance_in_plain before instance sides fault why) (inr (inl why), ap out.failed unprinted);
    printed = inl unprinted;
    warned = inl unsaid;
    kept = kept;
  }

  -- the desk stops after that
  pub stops_opened : (problem : Problem) (later : Held) (fault : Fault) → IsInstanceIn before instance sides problem → later ≡ before → IfUnwritten fault (Unit {0}) (IsOfSeats plan later problem fault)
      → IsUntouched out → IsUntouched err ⊎ Warns (is_some plan.minutes) err → after ≡ before → StopsDesk instance sides plan fault before after out err
  stops_opened problem later fault is same why unprinted warned kept = record {
    cause = unwritten_more fault _ _ _ _ (λ any. any) (λ seats. (inr (inr (problem, is, subst (λ held. IsOfSeats plan held problem fault) same seats)), ap out.failed unprinted)) why;
    printed = inl unprinted;
    warned = ⊎_elim inl (λ warns. inr (inr warns)) warned;
    kept = kept;
  }

-- the last lines cannot be written
pub stops_unprinted : {W V : Type 0} (instance : String Global) (sides : Sides) (plan : DeskPlan) (before after : Held) (out : Stream W) (told : V → Option (List ℕ)) (broken : V → Bool) (old mid new : V) (fault : Fault)
    → fault ≡ Machine CannotWrite → Warns (is_some plan.minutes) (stream told broken old mid) → (new ≡ mid) ⊎ (broken new ≡ true) → IsUntouched out ⊎ AreCutShort instance sides plan before out → after ≡ before
    → StopsDesk instance sides plan fault before after out (stream told broken old new)
stops_unprinted instance sides plan before after out told broken old mid new fault is warns said printed kept = record {
  cause = subst (λ f. IfUnwritten f (Unit {0}) (IsOfDesk before instance sides plan f × IsUnmarked out)) (sym is) tt;
  printed = ⊎_elim inl (λ cut. inr (is, cut)) printed;
  warned = inr (⊎_elim (λ same. inr (subst (λ e. Warns (is_some plan.minutes) (stream told broken old e)) (sym same) warns)) inl said);
  kept = kept;
}

-- what holds of each fault with this cause holds of a failure
pub err_weaker : {T : Type 0} (r : Result T Fault) (P Q : Fault → Type 0) (R : Type 0) → IfErr r P → OnErr r R → ((fault : Fault) → P fault → R → Q fault) → IfErr r Q
err_weaker (Ok x) P Q R is holds gives = tt
err_weaker (Err fault) P Q R is holds gives = gives fault is holds

-- two facts of a failure
pub both_err : {T : Type 0} (r : Result T Fault) (P Q : Type 0) → OnErr r P → OnErr r Q → OnErr r (P × Q)
both_err (Ok x) P Q p q = tt
both_err (Err fault) P Q p q = (p, q)

-- what holds of a success or a failure, of a result that is known to be one
pub on_ok_at : {T : Type 0} (P : Type 0) {r : Result T Fault} {x : T} → r ≡ Ok x → OnOk r P → P
on_ok_at P e h = subst (λ s. OnOk s P) e h

pub on_err_at : {T : Type 0} (P : Type 0) {r : Result T Fault} {fault : Fault} → r ≡ Err fault → OnErr r P → P
on_err_at P e h = subst (λ s. OnErr s P) e h
