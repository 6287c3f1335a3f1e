-- What is named in an instance: a curriculum, a teacher, a course or a room.
use Rattle.std.specs.Prelude.{◌≡◌, ℕ, List, [], Option, Some, None, option_map, string_bytes}
use Rattle.std.specs.Global.{Global}
use Rattle.std.specs.declared.string.String.{String}
use Rattle.ctt_problem.specs.Problem.{Problem, number_in}
use Rattle.ctt_views.specs.declared.options.GridKind.{GridKind}
use Rattle.ctt_views.specs.declared.options.GridKind.TheVariants as shown
use Rattle.ctt_views.specs.declared.options.PageOptions.{PageOptions}
use Rattle.ctt_views.specs.declared.selection.Selection.{Selection}
use Rattle.ctt_views.specs.declared.selection.Selection.TheVariants as number
use Rattle.ctt_files.specs.declared.fault.ContentsFault.TheVariants.{NoCourse, NoCurriculum, NoRoom, NoTeacher}
use Rattle.ctt_files.specs.declared.fault.Fault.{Fault}
use Rattle.ctt_files.specs.declared.fault.Fault.TheVariants.{Contents}
use Rattle.ctt_words.specs.declared.job.Grids.{Grids}
use Rattle.ctt_words.specs.declared.job.Grids.TheVariants as asked
use Rattle.ctt_words.specs.declared.job.PageWords.{PageWords}
use Rattle.ctt_words.specs.declared.job.Whose.{Whose}
use Rattle.ctt_words.specs.declared.job.Whose.TheVariants as name

-- the number of what is named; none if the instance does not have it
abbrev pub numbered : Problem → Whose → Option Selection
numbered i (name.Curriculum text) = option_map number.Curriculum (number_in i.curriculum_names (string_bytes text))
numbered i (name.Teacher text) = option_map number.Teacher (number_in i.teacher_names (string_bytes text))
numbered i (name.Course text) = option_map number.Course (number_in i.course_names (string_bytes text))
numbered i (name.Room text) = option_map number.Room (number_in i.room_names (string_bytes text))

-- the selection is what is named, or none if nothing is named
abbrev pub IsSelection : Problem → Option Whose → Option Selection → Type 0
IsSelection i None selection = selection ≡ None
IsSelection i (Some whose) selection = (found : Selection) × (numbered i whose ≡ Some found) × (selection ≡ Some found)

-- the fault for a name that the instance does not have
abbrev pub no_name : Whose → Fault
no_name (name.Curriculum text) = Contents (NoCurriculum text)
no_name (name.Teacher text) = Contents (NoTeacher text)
no_name (name.Course text) = Contents (NoCourse text)
no_name (name.Room text) = Contents (NoRoom text)

-- the fault is that the instance does not have what is named
abbrev pub IsNoName : Problem → Option Whose → Fault → Type 0
IsNoName i None fault = ⊥
IsNoName i (Some whose) fault = (numbered i whose ≡ None) × (fault ≡ no_name whose)

-- the names of days in one text, or an empty text if there are none
abbrev pub names_of : Option (String Global) → List ℕ
names_of None = []
names_of (Some names) = string_bytes names

-- the kind of the grids that a page is asked for
abbrev pub kind_of : Grids → GridKind
kind_of asked.Curricula = shown.Curricula
kind_of asked.Teachers = shown.Teachers
kind_of asked.Courses = shown.Courses
kind_of asked.Rooms = shown.Rooms

-- what a page shows, by what is selected and what else is asked of it
abbrev pub options_of : Option Selection → PageWords → PageOptions
options_of selection words = record { selection = selection; plain = words.plain; grids = option_map kind_of words.grids }
