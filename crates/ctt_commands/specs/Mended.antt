-- Which lectures of a list remain if they are placed as a desk opens with them, and each that
-- cannot be placed is set aside.
use Rattle.std.specs.Prelude.{ℕ, List, [], ◌∷◌, ◌++◌, Option, Some, None, codes, flat_map}
use Rattle.ctt_problem.specs.Problem.{Problem}
use Rattle.ctt_problem.specs.declared.placed.Placed.{Placed}
use Rattle.ctt_edits.specs.Edits.{edit_fault, edited}
use Rattle.ctt_edits.specs.declared.edit.Edit.TheVariants.{Place}
use Rattle.ctt_edits.specs.declared.fault.EditFault.{EditFault}
use Rattle.ctt_line.specs.Lines.{line}
use Rattle.ctt_script.specs.WrittenWords.{course_word, day_word, fault_words, period_word, room_word}

-- a lecture that is set aside, with the reason
abbrev pub Aside : Type 0
Aside = Placed × EditFault

-- why the lecture cannot be placed on the timetable t; none if it can be
abbrev pub fault_on : Problem → List Placed → Placed → Option EditFault
fault_on i t l = edit_fault i t (Place l.course l.slot l.room)

-- the timetable t with the lecture, or without it if there was a fault
abbrev pub after_try : Option EditFault → List Placed → Placed → List Placed
after_try None t l = edited t (Place l.course l.slot l.room)
after_try (Some f) t l = t

-- the lecture and the others, or the others alone if there was a fault
abbrev pub or_without : Option EditFault → Placed → List Placed → List Placed
or_without None l others = l ∷ others
or_without (Some f) l others = others

-- the others, with the lecture in front if there was a fault
abbrev pub or_with : Option EditFault → Placed → List Aside → List Aside
or_with None l others = others
or_with (Some f) l others = (l, f) ∷ others

-- the lectures that can be placed on the timetable t, one after another
abbrev pub mended_on : Problem → List Placed → List Placed → List Placed
mended_on i t [] = []
mended_on i t (l ∷ ls) = or_without (fault_on i t l) l (mended_on i (after_try (fault_on i t l) t l) ls)

-- the lectures that cannot be placed, each with the reason
abbrev pub set_aside_on : Problem → List Placed → List Placed → List Aside
set_aside_on i t [] = []
set_aside_on i t (l ∷ ls) = or_with (fault_on i t l) l (set_aside_on i (after_try (fault_on i t l) t l) ls)

-- the lectures that remain, from an empty timetable on
abbrev pub mended : Problem → List Placed → List Placed
mended i ls = mended_on i [] ls

-- the lectures that are set aside, from an empty timetable on
abbrev pub set_aside : Problem → List Placed → List Aside
set_aside i ls = set_aside_on i [] ls

-- the line of a lecture that is set aside: its words in a solution, and those of the fault
abbrev pub aside_line : Problem → Aside → List ℕ
aside_line i (l, f) = codes "timedesk: set aside " ++ (course_word i l.course ++ (codes " " ++ (room_word i l.room
    ++ (codes " " ++ (day_word i l.slot ++ (codes " " ++ (period_word i l.slot ++ (codes " " ++ line (fault_words i f)))))))))

-- one line for each lecture that is set aside, in their order
abbrev pub aside_text : Problem → List Aside → List ℕ
aside_text i asides = flat_map (aside_line i) asides
