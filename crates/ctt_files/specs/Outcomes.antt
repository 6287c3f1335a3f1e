-- The exit statuses of jobs that ended without a fault.
use Rattle.std.specs.Prelude.{ℕ}
use Rattle.ctt_files.specs.declared.outcome.Outcome.{Outcome}
use Rattle.ctt_files.specs.declared.outcome.Outcome.TheVariants.{Differs, Done, Incomplete, Unlawful}

-- 1 if an audit finds a different reply or a comparison refuses a file; under strict judging, 4 if
-- a solution is not lawful and 5 if all are lawful but one is not complete
abbrev pub outcome_status : Outcome → ℕ
outcome_status Done = 0
outcome_status Differs = 1
outcome_status Unlawful = 4
outcome_status Incomplete = 5
