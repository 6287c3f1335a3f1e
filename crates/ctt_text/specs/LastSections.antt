-- The sections after the rooms in the text of an instance.
use Rattle.std.specs.Prelude.{List, ℕ, Bool, codes}
use Rattle.ctt_text.specs.declared.fault.ReadFault.{ReadFault}
use Rattle.ctt_text.specs.declared.fault.ReadFault.TheVariants.{Expected}
use Rattle.ctt_text.specs.Forms.{Form, done, ◌>>=◌, times}
use Rattle.ctt_text.specs.Places.{fixed, after}
use Rattle.ctt_text.specs.InstancePlaces.{Header, Curricula, curriculum, no_curricula, unavailability, all_available}

-- the curricula, and the slots in which the courses with these names are unavailable
unfoldable pub last_sections : Header → List (List ℕ) → Form ReadFault (Curricula × List Bool)
last_sections head courses = do
  curricula ← after Expected (codes "CURRICULA:") (times (curriculum courses) head.curricula no_curricula)
  unavailable ← after Expected (codes "UNAVAILABILITY_CONSTRAINTS:") (times (unavailability courses head.days head.periods) head.constraints (all_available head))
  end ← fixed Expected (codes "END.")
  done (curricula, unavailable)
