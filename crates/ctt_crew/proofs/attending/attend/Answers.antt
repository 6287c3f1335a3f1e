use Rattle.std.proofs.Common.{rules, string_bytes, ◌≡◌, true, false, [], ◌∷◌, ◌∙◌, ℕ, List, Option, OnSome, Some, None, is_some, refl, sym, subst}
use Rattle.ctt_problem.specs.Problem.{Problem}
use Rattle.ctt_problem.specs.declared.placed.Placed.{Placed}
use Rattle.ctt_core.specs.declared.event.Event.{Event}
use Rattle.ctt_script.specs.ScriptText.{has_words, lines_of, own_item}
use Rattle.ctt_seat.specs.Attended.{AnswersItems, own_items}
use Rattle.ctt_seat.specs.Seats.{AnswersLine, seat_value}
use Rattle.ctt_crew.specs.Attending.{IsAttending}
use Rattle.ctt_crew.proofs.AttendLemmas.{begins, one_more, passed_over}
use Rattle.ctt_crew.proofs.attending.attend.Goals as goal
use Rattle.ctt_crew.proofs.attending.attend.Goals.{then-is_some-via-then-is_some, then-is_some-via-else-is_some+then-has_words}

some_part : {T : Type 0} {P : Type 0} (o : Option T) → is_some o ≡ true → OnSome o P → P
some_part None e h = cc
some_part (Some x) e h = h

pub loop-line-init : goal.loop-line-init
loop-line-init g c =
    let all : List (List ℕ) = lines_of c.args.attendance.script.now in
    let first : c.into_iter-line-iterator.result ≡ all = search rules in
    subst (λ ls. IsAttending g.J.Naming.problem g.J.Naming.opening c.args.number all ls (seat_value c.args.seat) (seat_value c.args.seat) (string_bytes c.in-Ok.text)) (sym first) (begins _ _ _ all (seat_value c.args.seat) (string_bytes c.in-Ok.text) (search rules))

pub loop-line-preserved : goal.loop-line-preserved
loop-line-preserved g c =
    let step : c.loop-line.line-iterator ≡ c.in-Some.line.now ∷ c.next.new.self = search rules in
    let none : has_words c.in-Some.line.now ≡ false = sym c.has_words.ensures ∙ c.if-has_words.false in
    let so_far = subst (λ ls. IsAttending g.J.Naming.problem g.J.Naming.opening c.args.number (lines_of c.args.attendance.script.now) ls (seat_value c.args.seat) (seat_value c.loop-line.seat) (string_bytes c.loop-line.text)) step c.loop-line.invariant in
    passed_over _ _ _ _ (seat_value c.args.seat) c.in-Some.line.now c.next.new.self (seat_value c.loop-line.seat) (string_bytes c.loop-line.text) so_far none

pub loop-line-preserved-in-loop-line : goal.loop-line-preserved-in-loop-line
loop-line-preserved-in-loop-line g c =
    let i : Problem = c.args.attendance.instance.now in
    let t0 : List Placed = g.J.Naming.opening in
    let words : List ℕ = c.in-Some.line.now in
    let read : Option Event = c.read_own_line-read.result in
    let old : List ℕ = string_bytes c.loop-line.text in
    let new : List ℕ = string_bytes c.answer_own_line.new.text in
    let step : c.loop-line.line-iterator ≡ words ∷ c.next.new.self = search rules in
    let so_far = subst (λ ls. IsAttending g.J.Naming.problem t0 c.args.number (lines_of c.args.attendance.script.now) ls (seat_value c.args.seat) (seat_value c.loop-line.seat) old) step c.loop-line.invariant in
    let some : has_words words ≡ true = elim c.then-is_some.branch [
      | then-is_some-via-then-is_some w ↦ some_part read (sym c.is_some.ensures ∙ w.if-is_some.true) c.read_own_line-read.ensures.words
      | then-is_some-via-else-is_some+then-has_words w ↦ sym w.has_words.ensures ∙ w.if-has_words.true
    ]
    in
    let is_read : AnswersLine i t0 read (seat_value c.loop-line.seat) (seat_value c.in-Ok-answer_own_line.seat) old new = c.in-Ok-answer_own_line.ensures in
    let is_item : AnswersLine i t0 (own_item i c.args.number words) (seat_value c.loop-line.seat) (seat_value c.in-Ok-answer_own_line.seat) old new = subst (λ it. AnswersLine i t0 it (seat_value c.loop-line.seat) (seat_value c.in-Ok-answer_own_line.seat) old new) c.read_own_line-read.ensures.item is_read in
    one_more _ _ _ _ (seat_value c.args.seat) words c.next.new.self (seat_value c.loop-line.seat) (seat_value c.in-Ok-answer_own_line.seat) old new so_far some
    (subst (λ j. AnswersLine j t0 (own_item j c.args.number words) (seat_value c.loop-line.seat) (seat_value c.in-Ok-answer_own_line.seat) old new) (sym c.args.attendance.same) is_item)

pub returns : goal.returns
returns g c =
    let i : Problem = g.J.Naming.problem in
    let t0 : List Placed = g.J.Naming.opening in
    let all : List (List ℕ) = lines_of c.args.attendance.script.now in
    let new : List ℕ = string_bytes c.loop-line.text in
    let none : c.loop-line.line-iterator ≡ [] = search rules in
    let done = subst (λ ls. IsAttending i t0 c.args.number all ls (seat_value c.args.seat) (seat_value c.loop-line.seat) new) none c.loop-line.invariant in
    (seat_value c.loop-line.seat, subst (λ p. AnswersItems i t0 (own_items i p all) (seat_value c.args.seat) (seat_value c.loop-line.seat) [] new) c.requires (done (seat_value c.loop-line.seat) new (refl, refl)), c.leave.ensures)
