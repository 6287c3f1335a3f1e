-- A planner of a crew, item by item.
use Rattle.std.proofs.Common.{◌≡◌, ◌++◌, append-nil, append_assoc, true, false, cond, ℕ, List, [], ◌∷◌, filter, map, sym, subst}
use Rattle.ctt_problem.specs.Problem.{Problem}
use Rattle.ctt_problem.specs.declared.placed.Placed.{Placed}
use Rattle.ctt_desk.specs.Planners.{PlannerValue}
use Rattle.ctt_script.specs.ScriptText.{has_words, own_item}
use Rattle.ctt_crew.specs.Attending.{AreAttending, IsAttending}
use Rattle.ctt_seat.specs.Attended.{AnswersItems, AreAttended, IsAttended, own_items}
use Rattle.ctt_seat.specs.Seats.{AnswersLine, SeatValue}

module _ (i : Problem) (t0 : List Placed) (p : ℕ) (all : List (List ℕ)) (before : SeatValue) where
  -- at first no line has been answered
  pub begins : (text : List ℕ) → text ≡ [] → IsAttending i t0 p all all before before text
  begins text none = λ after new is. subst (λ old. AnswersItems i t0 (own_items i p all) before after old new) none is

  -- a line without words is passed over
  pub passed_over : (words : List ℕ) (left : List (List ℕ)) (seat : SeatValue) (text : List ℕ) → IsAttending i t0 p all (words ∷ left) before seat text → has_words words ≡ false → IsAttending i t0 p all left before seat text
  passed_over words left seat text h none = λ after new rest.
      h after new (subst (λ b. AnswersItems i t0 (map (own_item i p) (cond b (words ∷ filter has_words left) (filter has_words left))) seat after text new) (sym none) rest)

  -- a line is answered
  pub one_more : (words : List ℕ) (left : List (List ℕ)) (seat next : SeatValue) (text more : List ℕ) → IsAttending i t0 p all (words ∷ left) before seat text → has_words words ≡ true → AnswersLine i t0 (own_item i p words) seat next text more
      → IsAttending i t0 p all left before next more
  one_more words left seat next text more h some is = λ after new rest.
      h after new (subst (λ b. AnswersItems i t0 (map (own_item i p) (cond b (words ∷ filter has_words left) (filter has_words left))) seat after text new) (sym some) (next, more, is, rest))

module _ (i : Problem) (t0 : List Placed) (all : List (PlannerValue × List ℕ)) where
  -- one more planner has left, with his answers
  pub one_attended : (who : PlannerValue × List ℕ) (left : List (PlannerValue × List ℕ)) (planners : List PlannerValue) (texts : List (List ℕ)) (q : PlannerValue) (text : List ℕ) → AreAttending i t0 all (who ∷ left) planners texts → IsAttended i t0 who q text
      → AreAttending i t0 all left (planners ++ q ∷ []) (texts ++ text ∷ [])
  one_attended who left planners texts q text h is = λ others more are.
      subst (λ ps. AreAttended i t0 all ps ((texts ++ text ∷ []) ++ more)) (sym (append_assoc planners (q ∷ []) others))
      (subst (AreAttended i t0 all (planners ++ q ∷ others)) (sym (append_assoc texts (text ∷ []) more)) (h (q ∷ others) (text ∷ more) (is, are)))

  -- no planner is left
  pub all_attended : (planners : List PlannerValue) (texts : List (List ℕ)) → AreAttending i t0 all [] planners texts → AreAttended i t0 all planners texts
  all_attended planners texts h =
      subst (λ ps. AreAttended i t0 all ps texts) (append-nil planners) (subst (AreAttended i t0 all (planners ++ [])) (append-nil texts) (h [] [] tt))
