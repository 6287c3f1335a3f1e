-- The minutes of a desk, before its first entry and at its end.
use Rattle.std.proofs.Common.{◌≡◌, [], Bool, true, ℕ, List, IfOk, IfSome, OnOk, Option, Some, None, Result, Ok, Err, subst}
use Rattle.ctt_problem.specs.Problem.{Problem}
use Rattle.ctt_problem.specs.declared.placed.Placed.{Placed}
use Rattle.ctt_core.specs.Runs.{Legal}
use Rattle.ctt_core.specs.declared.journal.JournalEntry.{JournalEntry}
use Rattle.ctt_files.specs.Output.{AppendsFront}
use Rattle.ctt_seat.specs.CrewText.{closing_text}
use Rattle.ctt_log.specs.Minutes.{AreMinutesOf, IsPartOf}
use Rattle.ctt_log.proofs.MinutesLemmas.{nothing_of}
use Rattle.ctt_office.specs.Recorded.{IsRecorded, taken_by}

-- before the first entry
pub none_taken : {W : Type 0} (taken : W → Option (List ℕ)) (i : Problem) (opening : List Placed) (start : Option (List ℕ)) (minutes : Option W) → start ≡ taken_by taken minutes → IfSome minutes (IsPartOf taken i opening start)
none_taken taken i opening start None same = tt
none_taken taken i opening start (Some writer) same = ([], tt, subst (λ known. AppendsFront start known []) same (nothing_of start []))

-- what the last lines of a desk and its minutes say, if it ended well
pub is_recorded : {W T E F : Type 0} (taken : W → Option (List ℕ)) (i : Problem) (opening : List Placed) (start : Option (List ℕ)) (minutes : Option W) (journal : List JournalEntry) (whole : Bool) (bytes : T → List ℕ)
    (ended : Result (Unit {0}) F) (checked : Result (Unit {0}) E) (text : Result T E)
    → Legal i opening journal → IfOk text (λ t. bytes t ≡ closing_text i opening [] journal) → OnOk text (checked ≡ Ok tt) → OnOk checked ((ended ≡ Ok tt) × (whole ≡ true)) → (whole ≡ true → IfSome minutes (λ writer. AreMinutesOf i journal start (taken writer)))
    → IfOk text (λ t. IsRecorded taken i opening start minutes (bytes t))
is_recorded taken i opening start minutes journal whole bytes ended checked (Err fault) legal lines well good entries = tt
is_recorded taken i opening start minutes journal whole bytes ended (Err fault) (Ok t) legal lines well good entries = cc
is_recorded taken i opening start minutes journal whole bytes ended (Ok done) (Ok t) legal lines well good entries = record { history = journal; legal = legal; is = lines; entries = entries good.1 }
