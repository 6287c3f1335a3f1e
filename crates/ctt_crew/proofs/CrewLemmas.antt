-- The planners of a crew.
use Rattle.std.proofs.Common.{◌≡◌, ◌∙◌, ◌<◌, ◌++◌, ◌∷◌, List, [], ℕ, length, map, zip, refl, ap, sym, subst, Result, Ok, Err}
use Rattle.std.specs.Prelude.{IfErr, IfOk, IsOkAnd}
use Rattle.std.proofs.lemmas.List.{map-append}
use Rattle.ctt_problem.specs.Problem.{Problem}
use Rattle.ctt_problem.specs.declared.placed.Placed.{Placed}
use Rattle.ctt_desk.specs.Planners.{PlannerValue, new_planners}
use Rattle.ctt_seat.specs.Attended.{AreAttended, IsClosingReport, IsCrewText}
use Rattle.ctt_crew.specs.CrewFaults.{IsCrewFault, IsReportFault, added_fault}
use Rattle.ctt_crew.specs.declared.crew_fault.CrewFault.{CrewFault}

-- one more thread, and its promise
pub promised_also : {T E W : Type 0} (f : T → W) (started : Result T E) (old new : List T) (w : W) → IsOkAnd started (λ t. new ≡ old ++ t ∷ []) → IfOk started (λ t. f t ≡ w) → map f new ≡ map f old ++ w ∷ []
promised_also f (Ok t) old new w is same = ap (map f) is ∙ map-append f old (t ∷ []) ∙ ap (λ x. map f old ++ x ∷ []) same
promised_also f (Err e) old new w is same = absurd is

-- planners and scripts, one for each
pub zipped : {W P S : Type 0} (f : W → P) (h : W → S) (works : List W) → map (λ w. (f w, h w)) works ≡ zip (map f works) (map h works)
zipped f h [] = refl
zipped f h (w ∷ works) = ap (λ ws. (f w, h w) ∷ ws) (zipped f h works)

-- a fault in adding a planner's thread is a fault of the crew
pub added_fits : {T E : Type 0} (started : Result T E) (planner n : ℕ) (fault : CrewFault) → planner < n → fault ≡ added_fault planner started → IsCrewFault n fault
added_fits (Ok thread) planner n fault within is = subst (IsCrewFault n) (sym is) tt
added_fits (Err refused) planner n fault within is = subst (IsCrewFault n) (sym is) within

-- a fault of the run, or of the desk's end, is a fault of the crew
pub report_fits : {A : Type 0} (done : Result A CrewFault) (n : ℕ) (fault : CrewFault) → IfErr done (IsCrewFault n) → IsReportFault done fault → IsCrewFault n fault
report_fits (Ok a) n fault fits is = subst (IsCrewFault n) (sym is) tt
report_fits (Err why) n fault fits is = subst (IsCrewFault n) (sym is) fits

-- the report of the answers to some scripts
pub is_crew_text : {A E : Type 0} (done : Result A E) (planners : A → List PlannerValue) (texts : A → List (List ℕ)) (problem : Problem) (opening : List Placed) (scripts : List (List ℕ)) (text : List ℕ)
    → IfOk done (λ a. AreAttended problem opening (zip (new_planners (length scripts)) scripts) (planners a) (texts a))
    → IsOkAnd done (λ a. IsClosingReport problem opening (planners a) (texts a) text) → IsCrewText problem opening scripts text
is_crew_text (Ok a) planners texts problem opening scripts text attended closes = record { planners = planners a; answers = texts a; attended = attended; closes = closes }
is_crew_text (Err e) planners texts problem opening scripts text attended closes = absurd closes
