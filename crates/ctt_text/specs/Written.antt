-- The written form of a timetable.
use Rattle.std.specs.Prelude.{ℕ, List, [], flat_map, slice_index_or}
use Rattle.std.specs.Fmt.{decimal}
use Rattle.ctt_problem.specs.declared.placed.Placed.{Placed}
use Rattle.ctt_problem.specs.Problem.{Problem, day_of, period_of}
use Rattle.ctt_line.specs.Lines.{line}
use Rattle.ctt_text.specs.SolutionText.{EntryWords, spelled_entry}

-- the words of a lecture
abbrev pub words_of : Problem → Placed → EntryWords
words_of i l = record {
  course = slice_index_or i.course_names l.course [];
  room = slice_index_or i.room_names l.room [];
  day = decimal (day_of i l.slot);
  period = decimal (period_of i l.slot);
}

-- the words separated by single blanks, and a line feed
abbrev pub line_of : EntryWords → List ℕ
line_of w = line (spelled_entry w)

-- one line per lecture, in order
abbrev pub soltext : Problem → List Placed → List ℕ
soltext i t = flat_map (λ l. line_of (words_of i l)) t
