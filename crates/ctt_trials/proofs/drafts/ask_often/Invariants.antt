use Rattle.std.proofs.Common.{◌≡◌}
use Rattle.ctt_trials.proofs.drafts.ask_often.Given as goal

abbrev pub invariant-loop-turn : goal.invariant-loop-turn
invariant-loop-turn g l = l.draft.problem ≡ l.initial.draft.problem
