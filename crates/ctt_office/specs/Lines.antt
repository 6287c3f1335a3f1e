-- The lines of bytes that arrive bit by bit.
use Rattle.std.specs.Prelude.{ℕ, ◌≡◌, ◌⊎◌, ◌<◌, ◌≤◌, Bool, List, [], ◌∷◌, ◌++◌, ◌+◌, true, length, Option, Some, None, ⊤}
use Rattle.std.specs.Io.KnownBytes.{Consumes, IsAtEnd, prepend_known}
use Rattle.ctt_log.specs.Recovery.{HasNoNewline}
use Rattle.ctt_office.specs.declared.line_reader.Next.{Next}
use Rattle.ctt_office.specs.declared.line_reader.Next.TheVariants.{End, Line, TooLong}

-- the bytes begin with this line, and `rest` follows it: the line ends with a newline, or it is not
-- empty and is all that is left
abbrev pub IsFirstLine : List ℕ → List ℕ → List ℕ → Type 0
IsFirstLine line rest bytes = HasNoNewline line × ((bytes ≡ line ++ 10 ∷ rest) ⊎ ((bytes ≡ line) × (rest ≡ []) × (0 < length line)))

-- the bytes are this line, a newline and this rest
abbrev pub IsLineThenRest : List ℕ → List ℕ → List ℕ → Type 0
IsLineThenRest line rest bytes = HasNoNewline line × (bytes ≡ line ++ 10 ∷ rest)

-- the value of a reader of lines: the current line, the bytes read after it, the bytes still to be
-- read, the number of reads, whether a read has failed, and whether no further read is tried
pub record ReaderValue : Type 0 where
  pub line : List ℕ
  pub held : List ℕ
  pub left : Option (List ℕ)
  pub pulls : ℕ
  pub has_failed : Bool
  pub is_shut : Bool

-- the bytes that are still to be split into lines, if they are known
abbrev pub coming : ReaderValue → Option (List ℕ)
coming r = prepend_known r.held r.left

-- if the bytes are known, they begin with a line of which P holds, and lose it
abbrev pub GivesLine : (List ℕ → Type 0) → Option (List ℕ) → Option (List ℕ) → Type 0
GivesLine P None new = ⊤
GivesLine P (Some bytes) None = ⊥
GivesLine P (Some bytes) (Some rest) = (line : List ℕ) × P line × IsFirstLine line rest bytes

-- the line is no longer than the longest one that is stored
abbrev pub FitsBuffer : List ℕ → Type 0
FitsBuffer line = length line ≤ 65536

-- the line is longer than that
abbrev pub IsLong : List ℕ → Type 0
IsLong line = 65536 < length line

-- what comes next: a short line, which is then the current one; a long line, of which nothing is
-- stored; or the end, if no byte is left
abbrev pub GivesNext : Next → ReaderValue → ReaderValue → Type 0
GivesNext Line old new = GivesLine (λ line. (new.line ≡ line) × FitsBuffer line) (coming old) (coming new)
GivesNext TooLong old new = (new.line ≡ []) × GivesLine IsLong (coming old) (coming new)
GivesNext End old new = IsAtEnd (coming old)

-- a line comes: the current one, or one that is too long
abbrev pub Comes : Next → ReaderValue → ReaderValue → Type 0
Comes Line old new = GivesNext Line old new
Comes TooLong old new = GivesNext TooLong old new
Comes End old new = ⊥

-- the bytes held contain a newline
abbrev pub HasLine : List ℕ → Type 0
HasLine held = ¬ HasNoNewline held

-- bytes were read and appended to those held, by at most as many reads as there are bytes
abbrev pub IsGrown : ReaderValue → ReaderValue → Type 0
IsGrown old new = (piece : List ℕ) × (new.held ≡ old.held ++ piece) × Consumes old.left new.left piece × (new.pulls ≤ old.pulls + length piece)

-- at most one read more than at some state of the source, up to which no newline was held or read,
-- no read failed, and each read gave at least one byte
abbrev pub IsReadOnce : {R : Type 0} → (R → Option (List ℕ)) → (R → Bool) → (R → ℕ) → ReaderValue → ℕ → Type 0
IsReadOnce {R} left has_failed pulls old reads = (source : R) × (read : List ℕ) × HasNoNewline (old.held ++ read) × Consumes old.left (left source) read × (has_failed source ≡ old.has_failed) × (pulls source ≤ old.pulls + length read) × (reads ≤ pulls source + 1)

-- a read has failed, no further read is tried, and no whole line is held
abbrev pub IsShut : ReaderValue → Type 0
IsShut r = (r.has_failed ≡ true) × (r.is_shut ≡ true) × HasNoNewline r.held
