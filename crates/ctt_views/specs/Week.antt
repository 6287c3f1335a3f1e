-- The week of a timetable as text: tables with a column for each day and a line for each period.
use Rattle.std.specs.Prelude.{ℕ, zero, suc, ◌+◌, ◌-◌, ◌<◌, max, Bool, false, List, [], ◌∷◌, ◌++◌, length, get_or, replicate, fold, filter, flat_map, ◌==◌, Option, Some, None, codes, chars, slice_index_or, if◌then◌else◌}
use Rattle.std.specs.Fmt.{decimal}
use Rattle.unicode_width.specs.Width.{str_width}
use Rattle.ctt_problem.specs.Lists.{has}
use Rattle.ctt_problem.specs.Problem.{Problem, course_of, members, course_count, room_count, teacher_count, curriculum_count, slot_of, is_blocked, is_unavailable}
use Rattle.ctt_problem.specs.Timetable.{slot_row}
use Rattle.ctt_problem.specs.declared.placed.Placed.{Placed}
use Rattle.ctt_views.specs.Closures.{teacher_closed}
use Rattle.ctt_views.specs.declared.selection.Selection.{Selection}
use Rattle.ctt_views.specs.declared.selection.Selection.TheVariants.{Curriculum, Teacher, Course, Room}

-- the lists that f gives for the numbers below n, one after another
abbrev pub for_each : {X : Type 0} → (ℕ → List X) → ℕ → List X
for_each f zero = []
for_each f (suc n) = for_each f n ++ f n

-- the number of a selection is one of the instance
abbrev pub SelectionFits : Problem → Selection → Type 0
SelectionFits i (Curriculum q) = q < curriculum_count i
SelectionFits i (Teacher n) = n < teacher_count i
SelectionFits i (Course c) = c < course_count i
SelectionFits i (Room r) = r < room_count i

-- a lecture is in a selection
abbrev pub is_selected : Problem → Selection → Placed → Bool
is_selected i (Curriculum q) l = has l.course (members i q)
is_selected i (Teacher n) l = (course_of i l.course).teacher == n
is_selected i (Course c) l = l.course == c
is_selected i (Room r) l = l.room == r

-- the selection is a course that is unavailable in the slot, or a room that is blocked in it, or a
-- teacher all of whose courses closures block in it
abbrev pub is_closed : Problem → Selection → ℕ → Bool
is_closed i (Curriculum q) s = false
is_closed i (Teacher n) s = teacher_closed i n s
is_closed i (Course c) s = is_unavailable i c s
is_closed i (Room r) s = is_blocked i r s

-- a lecture in a cell: its course and its room
abbrev pub entry : Problem → Placed → List ℕ
entry i l = slice_index_or i.course_names l.course [] ++ (codes " " ++ slice_index_or i.room_names l.room [])

-- the separator between the text of a cell and one more lecture
abbrev pub comma : List ℕ → List ℕ
comma cell = if length cell == 0 then [] else codes ", "

-- the lectures of a cell, with a comma and a blank between two
abbrev pub entries : Problem → List Placed → List ℕ
entries i ls = fold (λ cell l. cell ++ (comma cell ++ entry i l)) [] ls

-- the mark of a cell in whose slot the selection is closed: alone, or after the lectures
abbrev pub mark : Bool → List ℕ → List ℕ
mark closed cell = if closed then (if length cell == 0 then codes "-" else codes " !") else []

-- the text of the cell of a slot; ls are the lectures in the selection
abbrev pub cell : Problem → Selection → List Placed → ℕ → List ℕ
cell i selection ls s = entries i (slot_row s ls) ++ mark (is_closed i selection s) (entries i (slot_row s ls))

-- the column of the periods: its head, and the number of each period
abbrev pub period_column : Problem → List (List ℕ)
period_column i = codes "period" ∷ for_each (λ p. decimal p ∷ []) i.periods

-- the column of a day: its head, and the cell of each period
abbrev pub day_column : Problem → Selection → List Placed → ℕ → List (List ℕ)
day_column i selection ls d = (codes "day " ++ decimal d) ∷ for_each (λ p. cell i selection ls (slot_of i d p) ∷ []) i.periods

-- all columns of a table
abbrev pub columns : Problem → Selection → List Placed → List (List (List ℕ))
columns i selection ls = period_column i ∷ for_each (λ d. day_column i selection ls d ∷ []) i.days

-- the width of a text in terminal columns
abbrev pub width : List ℕ → ℕ
width text = str_width false (chars text)

-- the width of the widest text
abbrev pub widest : List (List ℕ) → ℕ
widest texts = fold (λ n text. max n (width text)) 0 texts

abbrev pub blanks : ℕ → List ℕ
blanks n = replicate n 32

-- the text at a place of a column, padded with blanks to the width of the column
abbrev pub filled : ℕ → List (List ℕ) → List ℕ
filled k column = codes "| " ++ (get_or column k [] ++ (blanks (widest column - width (get_or column k [])) ++ codes " "))

-- a line of a table, counted from the top
abbrev pub line : List (List (List ℕ)) → ℕ → List ℕ
line columns k = flat_map (filled k) columns ++ codes "|\n"

-- the line above a table, which names the selection
abbrev pub title : Problem → Selection → List ℕ
title i (Curriculum q) = codes "curriculum " ++ (slice_index_or i.curriculum_names q [] ++ codes "\n")
title i (Teacher n) = codes "teacher " ++ (slice_index_or i.teacher_names n [] ++ codes "\n")
title i (Course c) = codes "course " ++ (slice_index_or i.course_names c [] ++ codes "\n")
title i (Room r) = codes "room " ++ (slice_index_or i.room_names r [] ++ codes "\n")

-- the table of a selection: its title, a line of heads, and a line for each period
abbrev pub table : Problem → Selection → List Placed → List ℕ
table i selection t = title i selection ++ for_each (line (columns i selection (filter (is_selected i selection) t))) (i.periods + 1)

-- a blank line, except before the first table
abbrev pub gap : ℕ → List ℕ
gap n = if n == 0 then [] else codes "\n"

-- the tables of all rooms, with blank lines between them
abbrev pub tables : Problem → List Placed → List ℕ
tables i t = for_each (λ r. gap r ++ table i (Room r) t) (room_count i)

-- the week of a selection, or the weeks of all rooms if there is no selection
abbrev pub week : Problem → Option Selection → List Placed → List ℕ
week i (Some selection) t = table i selection t
week i None t = tables i t
