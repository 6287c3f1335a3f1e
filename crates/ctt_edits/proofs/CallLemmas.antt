-- What a call answers, and what it changes, depends on the rows that it reads.
use Rattle.std.proofs.Common.{◌≡◌, ℕ, true, ◌==◌, List, refl, ◌∙◌, sym, ap, ap₂}
use Rattle.std.specs.List.{filter, list_any}
use Rattle.std.proofs.lemmas.Bool.{eq-eqb, or_left, or_right}
use Rattle.ctt_problem.specs.Lists.{has}
use Rattle.ctt_problem.specs.Problem.{Problem, course_of, members, mates}
use Rattle.ctt_problem.specs.Timetable.{IsTimetable, Fits, course_row}
use Rattle.ctt_problem.specs.declared.placed.Placed.{Placed}
use Rattle.ctt_problem.proofs.TimetableLemmas.{Each-map}
use Rattle.ctt_rules.specs.Penalty.{penalty, row_cost}
use Rattle.ctt_rules.proofs.ListLemmas.{filter_every}
use Rattle.ctt_board.proofs.OrderLemmas.{in_order}
use Rattle.ctt_edits.specs.Calls.{CallFits, reply, cells_if, cells_of_call, edit_courses, look_reads_course, look_reads_slot, reads_course, reads_slot}
use Rattle.ctt_edits.specs.EditLaws.{CallFrame}
use Rattle.ctt_edits.specs.Missing.{missing}
use Rattle.ctt_edits.specs.Offers.{pattern_of}
use Rattle.ctt_edits.specs.Looks.{LookFits, shown, told_or}
use Rattle.ctt_edits.specs.declared.reply.Reply.TheVariants.{Done, Lectures, Costs, Price as Priced, Missing as AreMissing, Edits as AreCheapest, Slots as AreOffers}
use Rattle.ctt_edits.specs.declared.call.Call.{Call}
use Rattle.ctt_edits.specs.declared.call.Call.TheVariants.{Look as Looks, Edit as Edits}
use Rattle.ctt_edits.specs.declared.looks.Look.{Look}
use Rattle.ctt_edits.specs.declared.looks.Look.TheVariants.{Course, Slot, Teacher, Curriculum, CourseCost, Price, Missing, Cheapest, Slots, Cost as WholeCost}
use Rattle.ctt_edits.proofs.FrameLemmas.{AgreeAt, change_same, fault_same}
use Rattle.ctt_edits.proofs.PriceFrame.{price_same}
use Rattle.ctt_edits.proofs.PatternFrame.{pattern_fault_same, cheapest_same, offers_same}
use Rattle.ctt_edits.proofs.ReadLemmas.{AgreeOn, agree_on, same_part}

-- with all rows the same, so is the timetable
pub same_whole : (i : Problem) (t u : List Placed) → IsTimetable i t → IsTimetable i u → ((c : ℕ) → course_row c t ≡ course_row c u) → t ≡ u
same_whole i t u h k rows = sym (all t h) ∙ same_part (λ c. true) t u h.ascending k.ascending (λ c y. rows c) ∙ all u k
  where
    all : (v : List Placed) → IsTimetable i v → filter (λ l. true) v ≡ v
    all v f = filter_every (λ l. true) v (Each-map (Fits i) (λ l. true ≡ true) (λ l fits. refl) v f.fits)

shown_same : (i : Problem) (look : Look) (t u : List Placed) → IsTimetable i t → IsTimetable i u → LookFits i look → AgreeOn (look_reads_course i look) (look_reads_slot look) t u → shown i t look ≡ shown i u look
shown_same i (Course c) t u h k f a = ap Lectures (a.courses c (eq-eqb c c refl))
shown_same i (Slot s) t u h k f a = ap Lectures (a.slots s (eq-eqb s s refl))
shown_same i (Teacher n) t u h k f a = ap Lectures (same_part (λ c. (course_of i c).teacher == n) t u h.ascending k.ascending a.courses)
shown_same i (Curriculum q) t u h k f a = ap Lectures (same_part (λ c. has c (members i q)) t u h.ascending k.ascending a.courses)
shown_same i (CourseCost c) t u h k f a = ap (λ ls. Costs (row_cost i c ls)) (a.courses c (eq-eqb c c refl))
shown_same i (Price e) t u h k f a =
    let own : AgreeAt e t u = record { courses = λ c y. a.courses c (or_left (has c (edit_courses e)) (list_any (λ d. mates i d c) (edit_courses e)) y); slots = a.slots } in
    ap₂ (λ x y. told_or x (Priced y)) (fault_same i e t u (in_order t h.ascending) (in_order u k.ascending) own)
    (price_same i e t u h k f own (λ d y. a.courses d (or_right (has d (edit_courses e)) (list_any (λ c. mates i c d) (edit_courses e)) y)))
shown_same i Missing t u h k f a = ap (λ v. AreMissing (missing i v)) (same_whole i t u h k (λ c. a.courses c refl))
shown_same i (Cheapest n p) t u h k f a = ap₂ (λ x y. told_or x (AreCheapest y)) (pattern_fault_same i p t u a) (cheapest_same i p n t u h k f.1 a)
shown_same i (Slots p) t u h k f a = ap₂ (λ x y. told_or x (AreOffers y)) (pattern_fault_same i (pattern_of p) t u a) (offers_same i p t u h k f a)
shown_same i WholeCost t u h k f a = ap (λ v. Costs (penalty i v)) (same_whole i t u h k (λ c. a.courses c refl))

-- the same of any two timetables that agree at the numbers that a call reads, and perhaps at more
pub reply_same : (i : Problem) (call : Call) (t u : List Placed) → IsTimetable i t → IsTimetable i u → CallFits i call → AgreeOn (reads_course i call) (reads_slot call) t u → reply i t call ≡ reply i u call
reply_same i (Looks look) t u h k f a = shown_same i look t u h k f (record { courses = a.courses; slots = a.slots })
reply_same i (Edits e) t u h k f a = ap (λ x. told_or x Done) (fault_same i e t u (in_order t h.ascending) (in_order u k.ascending) (record { courses = a.courses; slots = a.slots }))

pub cells_same : (i : Problem) (call : Call) (t u : List Placed) → IsTimetable i t → IsTimetable i u → AgreeOn (reads_course i call) (reads_slot call) t u → cells_of_call i t call ≡ cells_of_call i u call
cells_same i (Looks look) t u h k a = refl
cells_same i (Edits e) t u h k a =
    let own : AgreeAt e t u = record { courses = a.courses; slots = a.slots } in
    ap₂ cells_if (fault_same i e t u (in_order t h.ascending) (in_order u k.ascending) own) (change_same e t u own)

pub call_frame : CallFrame
call_frame i t u call h k f a =
    let on : AgreeOn (reads_course i call) (reads_slot call) t u = agree_on i (reads_course i call) (reads_slot call) t u h.timetable k.timetable a in
    (reply_same i call t u h.timetable k.timetable f on, cells_same i call t u h.timetable k.timetable on)
