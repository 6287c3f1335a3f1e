-- The keywords of calls, replies and faults.
use Rattle.std.specs.Prelude.{ℕ, List, Option, Some, None, if◌then◌else◌, codes}
use Rattle.std.specs.Str.{bytes_eq}
use Rattle.std.specs.Option.{option_map}
use Rattle.ctt_script.specs.declared.kinds.EditKind.{EditKind}
use Rattle.ctt_script.specs.declared.kinds.EditKind.TheVariants.{Place, Move, Swap, Reroom, Drop}
use Rattle.ctt_script.specs.declared.kinds.LookKind.{LookKind}
use Rattle.ctt_script.specs.declared.kinds.LookKind.TheVariants.{Course, Slot, Teacher, Curriculum, CourseCost, Cost, Price, Missing, Cheapest, Slots}
use Rattle.ctt_script.specs.declared.kinds.PatternKind.{PatternKind}
use Rattle.ctt_script.specs.declared.kinds.PatternKind.TheVariants as pattern
use Rattle.ctt_script.specs.declared.kinds.SlotPatternKind.{SlotPatternKind}
use Rattle.ctt_script.specs.declared.kinds.SlotPatternKind.TheVariants as to_any
use Rattle.ctt_script.specs.declared.kinds.CallKind.{CallKind}
use Rattle.ctt_script.specs.declared.kinds.CallKind.TheVariants.{Edit, Look}
use Rattle.ctt_script.specs.declared.kinds.StepKind.{StepKind}
use Rattle.ctt_script.specs.declared.kinds.StepKind.TheVariants.{Open, Commit, Refresh, Abandon, Peek, Status, Ask}
use Rattle.ctt_script.specs.declared.kinds.ReplyKind.{ReplyKind}
use Rattle.ctt_script.specs.declared.kinds.ReplyKind.TheVariants.{Done, Refused, Lectures, Costs, Price as Priced, Missing as AreMissing, Edits as AreCheapest, Slots as AreOffers}
use Rattle.ctt_script.specs.declared.kinds.FaultKind.{FaultKind}
use Rattle.ctt_script.specs.declared.kinds.FaultKind.TheVariants.{NotPlaced, SameSlot, SameCourse, AlreadyThere, CourseFull, Unavailable, Barred, Blocked, Clash, RoomTaken}

-- the kind that a keyword stands for; none for any other word
unfoldable pub edit_kind : List ℕ → Option EditKind
edit_kind word =
    if bytes_eq word (codes "place") then Some Place
    else if bytes_eq word (codes "move") then Some Move
    else if bytes_eq word (codes "swap") then Some Swap
    else if bytes_eq word (codes "reroom") then Some Reroom
    else if bytes_eq word (codes "drop") then Some Drop
    else None

unfoldable pub look_kind : List ℕ → Option LookKind
look_kind word =
    if bytes_eq word (codes "course") then Some Course
    else if bytes_eq word (codes "slot") then Some Slot
    else if bytes_eq word (codes "teacher") then Some Teacher
    else if bytes_eq word (codes "curriculum") then Some Curriculum
    else if bytes_eq word (codes "coursecost") then Some CourseCost
    else if bytes_eq word (codes "cost") then Some Cost
    else if bytes_eq word (codes "price") then Some Price
    else if bytes_eq word (codes "missing") then Some Missing
    else if bytes_eq word (codes "cheapest") then Some Cheapest
    else if bytes_eq word (codes "slots") then Some Slots
    else None

unfoldable pub pattern_kind : List ℕ → Option PatternKind
pattern_kind word =
    if bytes_eq word (codes "place") then Some pattern.Place
    else if bytes_eq word (codes "move") then Some pattern.Move
    else if bytes_eq word (codes "swap") then Some pattern.Swap
    else if bytes_eq word (codes "reroom") then Some pattern.Reroom
    else None

unfoldable pub slot_pattern_kind : List ℕ → Option SlotPatternKind
slot_pattern_kind word =
    if bytes_eq word (codes "place") then Some to_any.Place
    else if bytes_eq word (codes "move") then Some to_any.Move
    else if bytes_eq word (codes "swap") then Some to_any.Swap
    else None

-- an edit, or else a look
abbrev pub or_look : Option EditKind → Option LookKind → Option CallKind
or_look (Some edit) look = Some (Edit edit)
or_look None look = option_map Look look

unfoldable pub call_kind : List ℕ → Option CallKind
call_kind word = or_look (edit_kind word) (look_kind word)

unfoldable pub step_kind : List ℕ → Option StepKind
step_kind word =
    if bytes_eq word (codes "open") then Some Open
    else if bytes_eq word (codes "commit") then Some Commit
    else if bytes_eq word (codes "refresh") then Some Refresh
    else if bytes_eq word (codes "abandon") then Some Abandon
    else if bytes_eq word (codes "peek") then Some Peek
    else if bytes_eq word (codes "status") then Some Status
    else option_map Ask (call_kind word)

unfoldable pub reply_kind : List ℕ → Option ReplyKind
reply_kind word =
    if bytes_eq word (codes "done") then Some Done
    else if bytes_eq word (codes "refused") then Some Refused
    else if bytes_eq word (codes "lectures") then Some Lectures
    else if bytes_eq word (codes "costs") then Some Costs
    else if bytes_eq word (codes "price") then Some Priced
    else if bytes_eq word (codes "missing") then Some AreMissing
    else if bytes_eq word (codes "prices") then Some AreCheapest
    else if bytes_eq word (codes "slots") then Some AreOffers
    else None

unfoldable pub fault_kind : List ℕ → Option FaultKind
fault_kind word =
    if bytes_eq word (codes "notplaced") then Some NotPlaced
    else if bytes_eq word (codes "sameslot") then Some SameSlot
    else if bytes_eq word (codes "samecourse") then Some SameCourse
    else if bytes_eq word (codes "already") then Some AlreadyThere
    else if bytes_eq word (codes "full") then Some CourseFull
    else if bytes_eq word (codes "unavailable") then Some Unavailable
    else if bytes_eq word (codes "barred") then Some Barred
    else if bytes_eq word (codes "blocked") then Some Blocked
    else if bytes_eq word (codes "clash") then Some Clash
    else if bytes_eq word (codes "roomtaken") then Some RoomTaken
    else None
