-- What was written of a script's answers, and the journal of the desk that gave them.
use Rattle.std.proofs.Common.{◌≡◌, ℕ, ◌+◌, ◌≤◌, List, [], ◌∷◌, filter, ◌==◌, length, Option, Some, None, sym, subst, ap, ◌∙◌, arith}
use Rattle.std.specs.Prelude.{IfSome}
use Rattle.std.specs.Io.KnownBytes.{Appends}
use Rattle.std.specs.List.{AllByRecursion as Each}
use Rattle.std.proofs.lemmas.List.{length-map}
use Rattle.std.proofs.lemmas.List.Splits.{length-slice_split}
use Rattle.std.proofs.lemmas.List.Sums.{length-filter as filtered}
use Rattle.ctt_problem.specs.Problem.{Problem, IsProblem}
use Rattle.ctt_problem.specs.declared.placed.Placed.{Placed}
use Rattle.ctt_problem.proofs.TimetableLemmas.{Each-map}
use Rattle.ctt_rules.specs.Hard.{Lawful}
use Rattle.ctt_core.specs.declared.event.Event.{Event}
use Rattle.ctt_core.specs.Runs.{Turn, RunFits, Right, accepted_of}
use Rattle.ctt_core.specs.Desks.{DeskValue}
use Rattle.ctt_core.specs.Laws.{Stands}
use Rattle.ctt_script.specs.AnswerText.{next_turn, answers_after, run_after, answer_text, script_run}
use Rattle.ctt_script.specs.Answering.{Wrote, WroteFront}
use Rattle.ctt_edits.specs.Fitting.{AreFew}
use Rattle.ctt_core.specs.Entries.{EntryFits}
use Rattle.ctt_script.specs.Entries.{IsShort, CanBeWritten, IsWritable}
use Rattle.ctt_files.specs.Output.{AppendsFront}
use Rattle.ctt_script.specs.ScriptText.{script, lines_of, item, has_words}
use Rattle.ctt_script.proofs.AnswersFit.{journal_is}
use Rattle.ctt_board.proofs.LawfulLemmas.{length-filter_le}

-- a run is no longer than its items
run_length : (i : Problem) (t0 : List Placed) (past : List Turn) (items : List (Option Event)) → length (run_after i t0 past items) ≤ length past + length items
run_length i t0 past [] = omega arith
run_length i t0 past (None ∷ items) = omega (arith, run_length i t0 past items)
run_length i t0 past (Some e ∷ items) = omega (arith, run_length i t0 (next_turn i t0 past e ∷ past) items)

-- a text has at most one item more than it has bytes
few_items : (i : Problem) (text : List ℕ) → length (script i text) ≤ length text + 1
few_items i text =
    let items : length (script i text) ≡ length (filter has_words (lines_of text)) = length-map (filter has_words (lines_of text)) (item i) in
    omega (arith, items, length-filter_le has_words (lines_of text), length-slice_split (λ b. b == 10) text, filtered (λ b. b == 10) text, length-filter_le (λ b. b == 10) text)

-- a prefix of the answers was written
pub front_said : (v : DeskValue) (i : Problem) (t0 : List Placed) (left : Option (List ℕ)) (read text : List ℕ) (before after : Option (List ℕ)) → v.problem ≡ i → v.opening ≡ t0 → Stands v [] → text ≡ read → IfSome left (λ bytes. read ≡ bytes) → WroteFront v (script i text) before after
    → IfSome left (λ bytes. AppendsFront before after (answer_text i t0 bytes))
front_said v i t0 None read text before after same t0_is stands whole known h = tt
front_said v i t0 (Some bytes) read text before after same t0_is stands whole known h =
    let all : text ≡ bytes = whole ∙ known in
    let first : AppendsFront before after (answers_after i v.opening [] (script i text)) = subst (λ j. AppendsFront before after (answers_after j v.opening [] (script i text))) same (h [] stands) in
    subst (λ bs. AppendsFront before after (answer_text i t0 bs)) all (subst (λ t. AppendsFront before after (answers_after i t [] (script i text))) t0_is first)

-- all of the answers were written
pub all_said : (v w : DeskValue) (i : Problem) (left : Option (List ℕ)) (read text : List ℕ) (before after : Option (List ℕ)) → v.problem ≡ i → Stands v [] → text ≡ read → IfSome left (λ bytes. read ≡ bytes) → Wrote v w (script i text) before after
    → IfSome left (λ bytes. Appends before after (answer_text i w.opening bytes))
all_said v w i None read text before after same stands whole known h = tt
all_said v w i (Some bytes) read text before after same stands whole known h =
    let all : text ≡ bytes = whole ∙ known in
    let grown : h.text ≡ answers_after v.problem v.opening [] (script i text) = h.answered.grown [] stands in
    let said : Appends before after (answers_after v.problem v.opening [] (script i text)) = subst (λ bs. Appends before after bs) grown h.taken in
    let first : Appends before after (answers_after i v.opening [] (script i text)) = subst (λ j. Appends before after (answers_after j v.opening [] (script i text))) same said in
    subst (λ bs. Appends before after (answer_text i w.opening bs)) all (subst (λ t. Appends before after (answers_after i t [] (script i text))) (sym h.answered.same.opening) first)

-- what was read is within the limit
pub read_short : (left : Option (List ℕ)) (read : List ℕ) (limit : ℕ) → IfSome left (λ bytes. read ≡ bytes) → length read ≤ limit → IfSome left (λ bytes. length bytes ≤ limit)
read_short None read limit known short = tt
read_short (Some bytes) read limit known short = omega (arith, ap length known, short)

-- a reader that was not read has as much left as before
pub not_read : (left : Option (List ℕ)) (pulls : ℕ) → IfSome left (λ old. IfSome left (λ new. pulls + length new ≤ pulls + length old + 1))
not_read None pulls = tt
not_read (Some bytes) pulls = omega arith

-- the desk is at the run of the script's events
pub script_done : (v w : DeskValue) (i : Problem) (left : Option (List ℕ)) (read text : List ℕ) (before after : Option (List ℕ)) → v.problem ≡ i → Stands v [] → text ≡ read → IfSome left (λ bytes. read ≡ bytes) → Wrote v w (script i text) before after
    → IfSome left (λ bytes. Stands w (script_run i w.opening bytes))
script_done v w i None read text before after same stands whole known h = tt
script_done v w i (Some bytes) read text before after same stands whole known h =
    let all : text ≡ bytes = whole ∙ known in
    let first : Stands w (run_after i v.opening [] (script i text)) = subst (λ j. Stands w (run_after j v.opening [] (script i text))) same (h.answered.goes_on [] stands) in
    subst (λ bs. Stands w (script_run i w.opening bs)) all (subst (λ t. Stands w (run_after i t [] (script i text))) (sym h.answered.same.opening) first)

-- the journal of a desk that answered a script can be written
pub journal_can : (v w : DeskValue) (i : Problem) (read text : List ℕ) (before after : Option (List ℕ)) → IsProblem i → v.problem ≡ i → Lawful v.problem v.opening → length v.drafts ≡ 64 → Stands v [] → text ≡ read → Wrote v w (script i text) before after → length read ≤ 67108864 → IsWritable i w.journal
journal_can v w i read text before after is same lawful planners stands whole h short =
    let past : List Turn = run_after v.problem v.opening [] (script i text) in
    let at : Stands w past = h.answered.goes_on [] stands in
    let problem : w.problem ≡ i = h.answered.same.problem ∙ same in
    let count : length w.drafts ≡ 64 = h.answered.same.planners ∙ planners in
    let fit : RunFits i 64 past = subst (λ n. RunFits i n past) count (subst (λ j. RunFits j (length w.drafts) past) problem at.fit) in
    let right : Right i v.opening past = subst (λ t. Right i t past) h.answered.same.opening (subst (λ j. Right j w.opening past) problem at.right) in
    let few : length past ≤ 999999999 = omega (arith, run_length v.problem v.opening [] (script i text), few_items i text, ap length whole, short) in
    let entries : Each (CanBeWritten i) (accepted_of past) × AreFew (accepted_of past) = journal_is i v.opening 64 past is (subst (λ j. Lawful j v.opening) same lawful) fit right (omega arith) few in
    subst (IsWritable i) (sym at.at.journal) (record {
      fit = Each-map (CanBeWritten i) (EntryFits i) (λ e f. f.0) (accepted_of past) entries.0;
      few = entries.1;
      short = Each-map (CanBeWritten i) IsShort (λ e f. f.1) (accepted_of past) entries.0;
    })
