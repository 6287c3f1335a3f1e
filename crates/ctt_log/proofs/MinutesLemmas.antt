-- Minutes that grow by an entry.
use Rattle.std.proofs.Common.{◌≡◌, ◌∙◌, ◌+◌, ◌<◌, ◌≤◌, ◌⊎◌, inl, inr, ◌++◌, ◌∷◌, [], Bool, true, false, ℕ, List, OnErr, Option, Some, None, Result, length, drop, take, flat_map, refl, sym, ap, subst, arith, append-nil}
use Rattle.std.proofs.KnownBytes.{Appends-kept, Appends-nil, Appends-trans}
use Rattle.std.proofs.lemmas.List.{length-append}
use Rattle.std.proofs.lemmas.List.Concat.{flat_map-append}
use Rattle.std.proofs.Math.Seq.{take-append-add}
use Rattle.std.specs.Io.KnownBytes.{Appends, Keeps}
use mathlib.Core.List.{IsPrefix}
use Rattle.ctt_problem.specs.Problem.{Problem}
use Rattle.ctt_core.specs.declared.journal.JournalEntry.{JournalEntry}
use Rattle.ctt_script.specs.WrittenText.{entry_text}
use Rattle.ctt_files.specs.Output.{AppendsFront}
use Rattle.ctt_files.proofs.OutputLemmas.{on_err, whole_front}
use Rattle.ctt_log.specs.Minutes.{AreFrontOf, AreMinutesOf, EndsWith, IsOut, last_history}

behind : {X : Type 0} (xs ys : List X) → drop (length xs) (xs ++ ys) ≡ ys
behind [] ys = refl
behind (x ∷ xs) ys = behind xs ys

-- a history that is one entry longer than one with which it begins is that one with its last entry
one_more : (before more front : List JournalEntry) (last : JournalEntry) → before ++ more ≡ front ++ last ∷ [] → length before ≡ length front → before ++ last ∷ [] ≡ before ++ more
one_more before more front last same long =
    ap (λ xs. before ++ xs) (sym (behind front (last ∷ [])) ∙ ap (λ n. drop n (front ++ last ∷ [])) (sym long) ∙ ap (drop (length before)) (sym same) ∙ behind before more)

-- the entries of a history are those of one with which it begins, if it is one entry longer, and
-- then the text of its last entry
entries_of : (i : Problem) (before history : List JournalEntry) (entry : List ℕ)
    → IsPrefix before history → length history ≡ length before + 1 → EndsWith i history entry → flat_map (entry_text i) before ++ entry ≡ flat_map (entry_text i) history
entries_of i before history entry prefix long ends =
    let front = ends.0 in
    let last = ends.1 in
    let same : before ++ prefix.0 ≡ front ++ last ∷ [] = prefix.1 ∙ ends.2 in
    let many = length-append front (last ∷ []) in
    let size : length before ≡ length front = (let whole : length history ≡ length (front ++ last ∷ []) = ap length ends.2 in omega (arith, whole, many, long)) in
    let is : before ++ last ∷ [] ≡ history = one_more before prefix.0 front last same size ∙ prefix.1 in
    let text : flat_map (entry_text i) before ++ entry ≡ flat_map (entry_text i) (before ++ last ∷ []) =
    ap (λ e. flat_map (entry_text i) before ++ e) (ends.3 ∙ sym (append-nil (entry_text i last))) ∙ sym (flat_map-append (entry_text i) before (last ∷ [])) in
    text ∙ ap (flat_map (entry_text i)) is

pub minutes_grow : (i : Problem) (start old new : Option (List ℕ)) (before history : List JournalEntry) (entry : List ℕ)
    → AreMinutesOf i before start old → Appends old new entry → IsPrefix before history → length history ≡ length before + 1 → EndsWith i history entry → AreMinutesOf i history start new
minutes_grow i start old new before history entry minutes adds prefix long ends =
    subst (Appends start new) (entries_of i before history entry prefix long ends) (Appends-trans start old new (flat_map (entry_text i) before) entry minutes adds)

-- the same, if a prefix of the entry was written
pub front_grows : (i : Problem) (start old new : Option (List ℕ)) (before history : List JournalEntry) (entry : List ℕ)
    → AreMinutesOf i before start old → AppendsFront old new entry → IsPrefix before history → length history ≡ length before + 1 → EndsWith i history entry → AreFrontOf i history start new
front_grows i start old new before history entry minutes (k, adds) prefix long ends =
    let text = flat_map (entry_text i) before in
    subst (AppendsFront start new) (entries_of i before history entry prefix long ends)
    (length text + k, subst (Appends start new) (sym (take-append-add text entry k)) (Appends-trans start old new text (take k entry) minutes adds))

-- all of the entries are a prefix of them
pub front_of : (i : Problem) (history : List JournalEntry) (start now : Option (List ℕ)) → AreMinutesOf i history start now → AreFrontOf i history start now
front_of i history start now minutes = whole_front start now (flat_map (entry_text i) history) minutes

-- the empty list is a prefix of any text
pub nothing_of : (known : Option (List ℕ)) (bs : List ℕ) → AppendsFront known known bs
nothing_of known bs = (0, Appends-nil known)

-- if all was taken and is durable, a prefix was taken
pub all_kept : {T E : Type 0} (synced : Result T E) (old mid new : Option (List ℕ)) (bs : List ℕ) → Appends old mid bs → Keeps mid new → OnErr synced (AppendsFront old new bs)
all_kept synced old mid new bs all keeps = on_err synced (whole_front old new bs (Appends-kept old mid new bs all keeps))

-- an entry is the last one of a history that is not empty
pub has_some : (i : Problem) (history : List JournalEntry) (entry : List ℕ) → EndsWith i history entry → 0 < length history
has_some i history entry ends =
    let many = length-append ends.0 (ends.1 ∷ []) in
    let whole : length history ≡ length (ends.0 ++ ends.1 ∷ []) = ap length ends.2 in
    omega (arith, whole, many)

-- a writer that takes no further entry, or already has as many, could not take one
pub is_out : {W : Type 0} (taken : W → Option (List ℕ)) (marked : W → Bool) (i : Problem) (start : Option (List ℕ)) (written history : List JournalEntry) (now : W) (failed : Bool)
    → (failed ≡ false → AreMinutesOf i written start (taken now)) → (failed ≡ true → IsOut taken marked i start written now) → 0 < length history → (failed ≡ true) ⊎ (length history ≤ length written) → IsOut taken marked i start written now
is_out taken marked i start written history now true minutes out some why = out refl
is_out taken marked i start written history now false minutes out some (inl none) = cc
is_out taken marked i start written history now false minutes out some (inr few) = inr (minutes refl, history, some, few)

-- if there is no receipt, each history begins with what was seen
pub none_seen : (last : Option (List JournalEntry)) (history : List JournalEntry) → last ≡ None → IsPrefix (last_history last) history
none_seen None history none = (history, refl)
none_seen (Some last_history) history none = cc
