-- The last sections of an instance, parsed as one.
use Rattle.std.proofs.Common.{◌≡◌, List, Bool, Result, Ok, Err, refl, sym, ap, ◌∙◌, codes}
use Rattle.ctt_text.specs.Left.{Left}
use Rattle.ctt_text.specs.Forms.{Form, done, ◌>>=◌, times}
use Rattle.ctt_text.specs.Places.{after, fixed}
use Rattle.ctt_text.specs.Reading.{reading}
use Rattle.ctt_text.specs.declared.fault.ReadFault.{ReadFault}
use Rattle.ctt_text.specs.declared.fault.ReadFault.TheVariants.{Expected}
use Rattle.ctt_text.specs.InstancePlaces.{Header, Courses, Rooms, Curricula, curriculum, no_curricula, unavailability, all_available, problem_of, missing}
use Rattle.ctt_problem.specs.Problem.{Problem}
use Rattle.ctt_text.specs.LastSections.{last_sections}
use Rattle.ctt_text.proofs.Steps.{and_then, read_bind, read_done}

-- one form parses the same words as another, and makes another value of them
Makes : {A B : Type 0} → (A → B) → Form ReadFault B → Form ReadFault A → Type 0
Makes g other form = (left : Left) → reading missing other left ≡ and_then (reading missing form left) (λ a rest. Ok (g a, rest))

made : {A B : Type 0} (g : A → B) (a : A) → Makes g (done (g a)) (done a)
unfolding Makes
made g a left = read_done missing (g a) left ∙ sym (ap (λ r. and_then r (λ a rest. Ok (g a, rest))) (read_done missing a left))

behind : {A B C : Type 0} (g : A → B) (form : Form ReadFault C) (other : C → Form ReadFault B) (next : C → Form ReadFault A) → ((c : C) → Makes g (other c) (next c)) → Makes g (form >>= other) (form >>= next)
unfolding Makes
behind {A} {B} {C} g form other next each left = read_bind missing form other left ∙ by (reading missing form left) ∙ sym (ap (λ r. and_then r (λ a rest. Ok (g a, rest))) (read_bind missing form next left))
  where
    by : (r : Result (C × Left) ReadFault) → and_then r (λ c rest. reading missing (other c) rest) ≡ and_then (and_then r (λ c rest. reading missing (next c) rest)) (λ a rest. Ok (g a, rest))
    by (Ok x) = each x.0 x.1
    by (Err e) = refl

-- the sections after the rooms complete the whole
pub last_read : (head : Header) (courses : Courses) (rooms : Rooms) (left : Left)
    → reading missing (after Expected (codes "CURRICULA:") (times (curriculum courses.names) head.curricula no_curricula) >>= λ curricula. after Expected (codes "UNAVAILABILITY_CONSTRAINTS:") (times (unavailability courses.names head.days head.periods) head.constraints (all_available head)) >>= λ unavailable. fixed Expected (codes "END.") >>= λ end. done (problem_of head courses rooms curricula unavailable)) left
    ≡ and_then (reading missing (last_sections head courses.names) left) (λ last rest. Ok (problem_of head courses rooms last.0 last.1, rest))
unfolding last_sections Makes
last_read head courses rooms left =
    let g : Curricula × List Bool → Problem = λ last. problem_of head courses rooms last.0 last.1 in
    behind g _ _ _ (λ curricula. behind g _ _ _ (λ unavailable. behind g _ _ _ (λ end. made g (curricula, unavailable)))) left
