-- Standard output or standard error, before and after what is written there.
use Rattle.std.specs.Prelude.{◌≡◌, Bool, true, ℕ, List, Option}
use Rattle.std.specs.Io.KnownBytes.{Appends}
use Rattle.ctt_files.specs.Output.{AppendsFront}

-- a writer before and after; `taken` gives the bytes that one has taken, if they are known, and
-- `failed` whether a call of it has failed
pub record Stream (W : Type 0) : Type 0 where
  pub taken : W → Option (List ℕ)
  pub failed : W → Bool
  pub old : W
  pub new : W

-- the stream of these values
abbrev pub stream : {W : Type 0} → (W → Option (List ℕ)) → (W → Bool) → W → W → Stream W
stream taken failed old new = record { taken = taken; failed = failed; old = old; new = new }

-- the part of a stream up to a value between, and the part from there
abbrev pub until : {W : Type 0} → Stream W → W → Stream W
until s mid = record s { new = mid }

abbrev pub since : {W : Type 0} → Stream W → W → Stream W
since s mid = record s { old = mid }

-- these bytes are written, if what is taken is known
abbrev pub Writes : {W : Type 0} → Stream W → List ℕ → Type 0
Writes s bytes = Appends (s.taken s.old) (s.taken s.new) bytes

-- a prefix of these bytes is written
abbrev pub WritesFront : {W : Type 0} → Stream W → List ℕ → Type 0
WritesFront s bytes = AppendsFront (s.taken s.old) (s.taken s.new) bytes

-- no call is made
abbrev pub IsUntouched : {W : Type 0} → Stream W → Type 0
IsUntouched s = s.new ≡ s.old

-- a call has failed
abbrev pub HasFailed : {W : Type 0} → Stream W → Type 0
HasFailed s = s.failed s.new ≡ true

-- no call fails that is made now
abbrev pub IsUnmarked : {W : Type 0} → Stream W → Type 0
IsUnmarked s = s.failed s.new ≡ s.failed s.old
