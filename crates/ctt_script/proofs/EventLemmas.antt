-- What is parsed as a line of a script fits the instance.
use Rattle.std.proofs.Common.{◌≡◌, ℕ, ◌<◌, List, Bool, true, false, cond, Option, Some, None, Result, Ok, Err, refl, sym, subst}
use Rattle.std.specs.Prelude.{codes, IfOk, IfSome}
use Rattle.std.specs.Str.{bytes_eq}
use Rattle.std.specs.Option.{option_map}
use Rattle.ctt_text.specs.Words.{words}
use Rattle.ctt_problem.specs.Problem.{Problem, IsProblem}
use Rattle.ctt_text.specs.Forms.{Form, done, read, ◌>>=◌}
use Rattle.ctt_core.specs.declared.event.Event.{Event}
use Rattle.ctt_core.specs.declared.event.Event.TheVariants.{Show}
use Rattle.ctt_core.specs.Runs.{EventFits}
use Rattle.ctt_script.specs.declared.journal_fault.JournalFault.{JournalFault}
use Rattle.ctt_script.specs.declared.kinds.StepKind.{StepKind}
use Rattle.ctt_script.specs.declared.kinds.StepKind.TheVariants as step
use Rattle.ctt_script.specs.declared.script.Start.{Start}
use Rattle.ctt_script.specs.declared.script.Start.TheVariants as begin
use Rattle.ctt_script.specs.declared.script.OwnStart.{OwnStart}
use Rattle.ctt_script.specs.declared.script.OwnStart.TheVariants as own
use Rattle.ctt_script.specs.Amounts.{number_below}
use Rattle.ctt_script.specs.Calls.{look_form}
use Rattle.ctt_script.specs.Events.{first_of, step_after, event_after, event_form, own_after, own_form}
use Rattle.ctt_script.specs.JournalWords.{missing_word}
use Rattle.ctt_script.specs.ScriptText.{item_by, item, own_event, own_item}
use Rattle.ctt_text.proofs.FormLaws.{Yields, yields_done, yields_bind}
use Rattle.ctt_script.proofs.CallLemmas.{is_below, yields_meaning, yields_any, yields_call_after, yields_look}
use Rattle.ctt_script.proofs.ScriptLaws.{asked_fills, item_fills, word_or_none}

-- a planner who begins a line is one of 64
abbrev IsStart : Start → Type 0
IsStart begin.Show = Unit {0}
IsStart (begin.Planner p) = p < 64

start_fits : (w : List ℕ) (s : Start) → first_of w ≡ Some s → IsStart s
unfolding first_of
start_fits w s h = by (bytes_eq w (codes "show")) (number_below 64 w) refl h
  where
    by : (b : Bool) (o : Option ℕ) → number_below 64 w ≡ o → cond b (Some begin.Show) (option_map begin.Planner (number_below 64 w)) ≡ Some s → IsStart s
    by true o e h = let same : begin.Show ≡ s = cc in subst IsStart same tt
    by false None e h = cc
    by false (Some p) e h = let same : begin.Planner p ≡ s = cc in subst IsStart same (is_below 64 w p e)

module _ (i : Problem) (is : IsProblem i) where
  yields_step : (n p : ℕ) → p < n → (k : StepKind) → Yields (EventFits i n) (step_after i p k)
  unfolding step_after
  yields_step n p lt step.Open = yields_done JournalFault (EventFits i n) _ lt
  yields_step n p lt step.Commit = yields_done JournalFault (EventFits i n) _ lt
  yields_step n p lt step.Refresh = yields_done JournalFault (EventFits i n) _ lt
  yields_step n p lt step.Abandon = yields_done JournalFault (EventFits i n) _ lt
  yields_step n p lt step.Status = yields_done JournalFault (EventFits i n) _ lt
  yields_step n p lt step.Peek = yields_bind _ (EventFits i n) _ _ (yields_look i is) (λ l f. yields_done JournalFault (EventFits i n) _ (lt, f))
  yields_step n p lt (step.Ask k) = yields_bind _ (EventFits i n) _ _ (yields_call_after i is k) (λ c f. yields_done JournalFault (EventFits i n) _ (lt, f))

  yields_show : (n : ℕ) → Yields (EventFits i n) (look_form i >>= λ l. done (Show l))
  yields_show n = yields_bind _ (EventFits i n) _ _ (yields_look i is) (λ l f. yields_done JournalFault (EventFits i n) _ f)

  yields_event_after : (s : Start) → IsStart s → Yields (EventFits i 64) (event_after i s)
  unfolding event_after
  yields_event_after begin.Show h = yields_show 64
  yields_event_after (begin.Planner p) h = yields_bind _ (EventFits i 64) _ _ (yields_any _ _) (λ k t. yields_step 64 p h k)

  yields_event : Yields (EventFits i 64) (event_form i)
  unfolding event_form
  yields_event = yields_bind IsStart (EventFits i 64) _ _ (yields_meaning IsStart first_of begin.Show start_fits) (λ s h. yields_event_after s h)

  yields_own_after : (n p : ℕ) → p < n → (s : OwnStart) → Yields (EventFits i n) (own_after i p s)
  unfolding own_after
  yields_own_after n p lt own.Show = yields_show n
  yields_own_after n p lt (own.Step k) = yields_step n p lt k

  yields_own : (n p : ℕ) → p < n → Yields (EventFits i n) (own_form i p)
  unfolding own_form
  yields_own n p lt = yields_bind _ (EventFits i n) _ _ (yields_any _ _) (λ s t. yields_own_after n p lt s)

  -- an item fits the instance and the number of planners
  item_by_fits : (n : ℕ) (form : Form JournalFault Event) → Yields (EventFits i n) form → (line : List ℕ) (o : Option Event) → o ≡ item_by form line → IfSome o (EventFits i n)
  item_by_fits n form yields line None h = tt
  item_by_fits n form yields line (Some e) h = yields (words line) e (item_fills form line e (sym h))

  pub item_fits : (line : List ℕ) (o : Option Event) → o ≡ item i line → IfSome o (EventFits i 64)
  item_fits line o h = item_by_fits 64 (event_form i) yields_event line o h

  pub own_item_fits : (n p : ℕ) → p < n → (line : List ℕ) (o : Option Event) → o ≡ own_item i p line → IfSome o (EventFits i n)
  own_item_fits n p lt line o h = item_by_fits n (own_form i p) (yields_own n p lt) line o h

  -- an event in one planner's own script fits the instance and the number of planners
  pub own_event_fits : (n p : ℕ) → p < n → (ws : List (List ℕ)) (r : Result Event ℕ) → r ≡ own_event i p ws → IfOk r (EventFits i n)
  own_event_fits n p lt ws (Ok e) h = yields_own n p lt ws e (asked_fills (own_form i p) ws e (word_or_none e (read missing_word (own_form i p) ws 1) (sym h)))
  own_event_fits n p lt ws (Err k) h = tt
