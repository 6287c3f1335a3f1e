-- A planner at a seat: which lines are answered, and how the seat ends.
use Rattle.std.specs.Prelude.{ℕ, ◌≡◌, ◌≢◌, ◌⊎◌, Bool, true, List, [], ◌∷◌, ◌++◌, take, Option, Some, IfSome}
use Rattle.std.specs.List.{AllByRecursion as Each}
use Rattle.std.specs.Io.KnownBytes.{Appends, IsAtEnd, Keeps}
use Rattle.ctt_files.specs.Output.{AppendsFront}
use Rattle.ctt_office.specs.Lines.{IsFirstLine}
use Rattle.ctt_office.specs.declared.seat_line.SeatLine.{SeatLine}
use Rattle.ctt_office.specs.declared.seat_line.SeatLine.TheVariants.{Leave}
use Rattle.ctt_office.specs.declared.sitting.Ending.{Ending}
use Rattle.ctt_office.specs.declared.sitting.Ending.TheVariants.{Broken, Ended, Left, NoMemory}

-- the bytes begin with these lines, which are answered one after another as `Is` says, each in the
-- state that the one before it left, and `rest` follows them
abbrev pub AreAnswered : {T : Type 0} → (List ℕ → SeatLine) → (SeatLine → T → T → List ℕ → Type 0) → List ℕ → T → List (List ℕ) → List ℕ → List ℕ → T → Type 0
AreAnswered asked Is bytes before [] answers rest after = (answers ≡ []) × (rest ≡ bytes) × (after ≡ before)
AreAnswered {T} asked Is bytes before (line ∷ lines) answers rest after = (mid : List ℕ) × (next : T) × (answer : List ℕ) × (later : List ℕ) × IsFirstLine line mid bytes
    × Is (asked line) before next answer × (answers ≡ answer ++ later) × AreAnswered asked Is mid next lines later rest after

-- none of the lines is the one by which the planner leaves
abbrev pub GoOn : (List ℕ → SeatLine) → List (List ℕ) → Type 0
GoOn asked lines = Each (λ line. asked line ≢ Leave) lines

-- how the seat ends after these lines are answered: the planner leaves by the last of them, or by
-- none; if the lines end, nothing is left
abbrev pub EndsBy : (List ℕ → SeatLine) → Ending → List (List ℕ) → List ℕ → Type 0
EndsBy asked Left lines rest = (front : List (List ℕ)) × (last : List ℕ) × (lines ≡ front ++ last ∷ []) × GoOn asked front × (asked last ≡ Leave)
EndsBy asked Ended lines rest = GoOn asked lines × (rest ≡ [])
EndsBy asked Broken lines rest = GoOn asked lines
EndsBy asked NoMemory lines rest = GoOn asked lines

-- the lines are answered up to the one by which the planner leaves, or all, or those before the one
-- for which memory runs out, and nothing is written after their answers
pub record IsAnswered {T : Type 0} (asked : List ℕ → SeatLine) (Is : SeatLine → T → T → List ℕ → Type 0) (Gone : T → Type 0) (before : T) (left old new : Option (List ℕ)) (ending : Ending) : Type 0 where
  pub answers : List ℕ
  pub told : Appends old new answers
  pub served : IfSome left (λ bytes. (lines : List (List ℕ)) × (rest : List ℕ) × (after : T) × AreAnswered asked Is bytes before lines answers rest after × EndsBy asked ending lines rest × Gone after)

-- the part is empty, and `Gone` holds of the seat as it is, or it is a prefix of the answer to the
-- next line, and `Gone` holds of the seat after that line
abbrev pub IsPartOfNext : {T : Type 0} → (List ℕ → SeatLine) → (SeatLine → T → T → List ℕ → Type 0) → (T → Type 0) → List ℕ → T → List ℕ → Type 0
IsPartOfNext {T} asked Is Gone bytes before part = ((part ≡ []) × Gone before)
    ⊎ ((line : List ℕ) × (rest : List ℕ) × (after : T) × (answer : List ℕ) × (k : ℕ) × IsFirstLine line rest bytes × Is (asked line) before after answer × (part ≡ take k answer) × Gone after)

-- lines are answered, by none of which the planner leaves, and the answer to the next one is cut
-- short
pub record IsBrokenOff {T : Type 0} (asked : List ℕ → SeatLine) (Is : SeatLine → T → T → List ℕ → Type 0) (Gone : T → Type 0) (before : T) (left old new : Option (List ℕ)) : Type 0 where
  pub answers : List ℕ
  pub part : List ℕ
  pub told : Appends old new (answers ++ part)
  pub served : IfSome left (λ bytes. (lines : List (List ℕ)) × (rest : List ℕ) × (after : T) × AreAnswered asked Is bytes before lines answers rest after × GoOn asked lines × IsPartOfNext asked Is Gone rest after part)

-- what was answered, and how the seat ended: `Gone` holds of the seat as the answered lines left
-- it, or `Unheard` if memory runs out for the next answer
abbrev pub IsSat : {T : Type 0} → (List ℕ → SeatLine) → (SeatLine → T → T → List ℕ → Type 0) → (T → Type 0) → (T → Type 0) → T → Option (List ℕ) → Option (List ℕ) → Option (List ℕ) → Ending → Type 0
IsSat asked Is Gone Unheard before left old new Left = IsAnswered asked Is Gone before left old new Left
IsSat asked Is Gone Unheard before left old new Ended = IsAnswered asked Is Gone before left old new Ended
IsSat asked Is Gone Unheard before left old new Broken = IsBrokenOff asked Is Gone before left old new
IsSat asked Is Gone Unheard before left old new NoMemory = IsAnswered asked Is Unheard before left old new NoMemory

-- no line follows: none is left, or the reader has failed
abbrev pub EndsAt : Option (List ℕ) → Bool → Ending → Type 0
EndsAt known failed Left = ⊥
EndsAt known failed Ended = IsAtEnd known
EndsAt known failed Broken = failed ≡ true
EndsAt known failed NoMemory = ⊥

-- the writer has failed, or memory has run out
abbrev pub IsBroken : Bool → Ending → Type 0
IsBroken failed Left = ⊥
IsBroken failed Ended = ⊥
IsBroken failed Broken = failed ≡ true
IsBroken failed NoMemory = Unit {0}

-- how much of such an answer is written: a prefix if the writer has failed, and nothing if memory
-- has run out
abbrev pub IsCutOff : (List ℕ → Type 0) → Option (List ℕ) → Option (List ℕ) → Ending → Type 0
IsCutOff P old new Left = ⊥
IsCutOff P old new Ended = ⊥
IsCutOff P old new Broken = (answer : List ℕ) × P answer × AppendsFront old new answer
IsCutOff P old new NoMemory = Keeps old new

-- the state so far: the lines read are answered, by none of them the planner leaves, and the bytes
-- of `still` are to be read
pub record IsSitting {T : Type 0} (asked : List ℕ → SeatLine) (Is : SeatLine → T → T → List ℕ → Type 0) (before : T) (left old now still : Option (List ℕ)) (after : T) : Type 0 where
  pub answers : List ℕ
  pub told : Appends old now answers
  pub served : IfSome left (λ bytes. (lines : List (List ℕ)) × (rest : List ℕ) × (still ≡ Some rest) × AreAnswered asked Is bytes before lines answers rest after × GoOn asked lines)
