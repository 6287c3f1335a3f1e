-- Minutes: the entries of accepted drafts on a durable writer.
use Rattle.std.specs.Prelude.{ℕ, ◌≡◌, ◌⊎◌, ◌<◌, ◌≤◌, Bool, true, false, length, List, [], ◌∷◌, ◌++◌, flat_map, Option, None, Some, IfSome}
use Rattle.std.specs.Io.KnownBytes.{Appends}
use Rattle.ctt_problem.specs.Problem.{Problem}
use Rattle.ctt_problem.specs.declared.placed.Placed.{Placed}
use Rattle.ctt_core.specs.Runs.{Legal}
use Rattle.ctt_core.specs.declared.journal.JournalEntry.{JournalEntry}
use Rattle.ctt_files.specs.Output.{AppendsFront}
use Rattle.ctt_script.specs.WrittenText.{entry_text}

-- if the durable bytes are known, they are all that were taken
abbrev pub Stays : Option (List ℕ) → Option (List ℕ) → Type 0
Stays kept taken = IfSome kept (λ bytes. taken ≡ Some bytes)

-- the value of a writer of minutes: the bytes taken and those of them that are durable, if known;
-- the history whose entries are written, the last of them perhaps in part if it could not be
-- written; whether an entry could not be written; whether a call of the writer has failed
pub record LogValue : Type 0 where
  pub taken : Option (List ℕ)
  pub kept : Option (List ℕ)
  pub history : List JournalEntry
  pub failed : Bool
  pub marked : Bool

-- the history of the last receipt, which is empty if there is none
abbrev pub last_history : Option (List JournalEntry) → List JournalEntry
last_history None = []
last_history (Some history) = history

-- if the bytes are known, those taken since the start are the entries of the history, in order, as
-- a journal has them
abbrev pub AreMinutesOf : Problem → List JournalEntry → Option (List ℕ) → Option (List ℕ) → Type 0
AreMinutesOf i history start taken = Appends start taken (flat_map (entry_text i) history)

-- if the bytes are known, those taken since the start are a prefix of these entries, which ends
-- with a whole entry or inside one
abbrev pub AreFrontOf : Problem → List JournalEntry → Option (List ℕ) → Option (List ℕ) → Type 0
AreFrontOf i history start taken = AppendsFront start taken (flat_map (entry_text i) history)

-- at some moment the writer had taken the entries of the history since the start, and all that it
-- had taken was durable
abbrev pub IsInMinutes : {W : Type 0} → (W → Option (List ℕ)) → (W → Option (List ℕ)) → Problem → Option (List ℕ) → List JournalEntry → Type 0
IsInMinutes {W} taken kept i start history = (now : W) × AreMinutesOf i history start (taken now) × Stays (kept now) (taken now)

-- a writer could not take an entry: a call of it has failed, or it already has the entries of a
-- history that is at least as long as the one that ends with the entry
abbrev pub IsOut : {W : Type 0} → (W → Option (List ℕ)) → (W → Bool) → Problem → Option (List ℕ) → List JournalEntry → W → Type 0
IsOut {W} taken marked i start written now = (marked now ≡ true) ⊎ (AreMinutesOf i written start (taken now) × (history : List JournalEntry) × (0 < length history) × (length history ≤ length written))

-- at some moment the writer had taken the entries of a history since the start
abbrev pub IsSound : {W : Type 0} → (W → Option (List ℕ)) → Problem → Option (List ℕ) → Type 0
IsSound {W} taken i start = (now : W) × (written : List JournalEntry) × AreMinutesOf i written start (taken now)

-- at some moment the writer could not take an entry
abbrev pub CouldNotEnter : {W : Type 0} → (W → Option (List ℕ)) → (W → Bool) → Problem → Option (List ℕ) → Type 0
CouldNotEnter {W} taken marked i start = (now : W) × (written : List JournalEntry) × IsOut taken marked i start written now

-- the minutes are the bytes of the start and then a prefix of the entries of a legal history on the
-- opening
abbrev pub IsPartOf : {W : Type 0} → (W → Option (List ℕ)) → Problem → List Placed → Option (List ℕ) → W → Type 0
IsPartOf taken i opening start writer = (history : List JournalEntry) × Legal i opening history × AreFrontOf i history start (taken writer)

-- this is the last entry of the history, as a journal has it
abbrev pub EndsWith : Problem → List JournalEntry → List ℕ → Type 0
EndsWith i history entry = (before : List JournalEntry) × (last : JournalEntry) × (history ≡ before ++ last ∷ []) × (entry ≡ entry_text i last)

-- the last entry of the history was written after all others, and is durable
pub record IsEntered (history : List JournalEntry) (entry : List ℕ) (old new : LogValue) : Type 0 where
  pub sound : old.failed ≡ false
  pub still : new.failed ≡ false
  pub history_is : new.history ≡ history
  pub taken : Appends old.taken new.taken entry
  pub kept : Stays new.kept new.taken
