use Rattle.std.proofs.Common.{◌≡◌, Ok, Err, nat_lt, ◌∙◌, subst}
use Rattle.std.proofs.lemmas.Result.{err_from_is_err_and}
use Rattle.ctt_text.specs.Places.{known, known_name, choice_if}
use Rattle.ctt_text.specs.BlockedPlaces.{closing, kind_of, names_of, reads_blocked, ends_early, wants_memory}
use Rattle.ctt_text.specs.declared.instance.closing.Kind.TheVariants.{Room}
use Rattle.ctt_text.specs.declared.fault.BlockedFault.TheVariants.{Expected, BadNumber, UnknownName, DayOut, PeriodOut}
use Rattle.ctt_text.proofs.Steps.{read_then, read_done, fails_there, surely}
use Rattle.ctt_text.proofs.instance.blocked.read_closing.Goals as goal

pub returns-clause-exact : goal.returns-clause-exact
unfolding closing
returns-clause-exact c =
    let i = c.args.instance.now in
    let day : reads_blocked (choice_if BadNumber (λ n. nat_lt n i.days) DayOut) c.read_name.new.reader ≡ Ok (c.in_ok-day.day, c.next_days.new.reader)
    = subst (λ m. reads_blocked (choice_if BadNumber (λ n. nat_lt n m) DayOut) c.read_name.new.reader ≡ Ok (c.in_ok-day.day, c.next_days.new.reader)) c.days.ensures.exact c.in_ok-day.ensures.exact in
    let period : reads_blocked (choice_if BadNumber (λ n. nat_lt n i.periods) PeriodOut) c.next_days.new.reader ≡ Ok (c.in_ok-period.period, c.next_periods.new.reader)
    = subst (λ m. reads_blocked (choice_if BadNumber (λ n. nat_lt n m) PeriodOut) c.next_days.new.reader ≡ Ok (c.in_ok-period.period, c.next_periods.new.reader)) c.periods.ensures.exact c.in_ok-period.ensures.exact in
    read_then ends_early (known Expected kind_of Room) _ c.args.reader.now c.read_kind.new.reader c.in_ok-kind.kind c.in_ok-kind.ensures
    ∙ read_then ends_early (known_name UnknownName (names_of i c.in_ok-kind.kind)) _ c.read_kind.new.reader c.read_name.new.reader c.in_ok-number.number c.in_ok-number.ensures.exact
    ∙ read_then ends_early (choice_if BadNumber (λ n. nat_lt n i.days) DayOut) _ c.read_name.new.reader c.next_days.new.reader c.in_ok-day.day day
    ∙ read_then ends_early (choice_if BadNumber (λ n. nat_lt n i.periods) PeriodOut) _ c.next_days.new.reader c.next_periods.new.reader c.in_ok-period.period period
    ∙ read_done ends_early _ c.next_periods.new.reader

pub returns-in_err-period-clause-exact : goal.returns-in_err-period-clause-exact
unfolding closing
returns-in_err-period-clause-exact c =
    let i = c.args.instance.now in
    let p = err_from_is_err_and c.from_residual-in_err-period.result c.from_residual-in_err-period.ensures.1 in
    let day : reads_blocked (choice_if BadNumber (λ n. nat_lt n i.days) DayOut) c.read_name.new.reader ≡ Ok (c.in_ok-day.day, c.next_days.new.reader)
    = subst (λ m. reads_blocked (choice_if BadNumber (λ n. nat_lt n m) DayOut) c.read_name.new.reader ≡ Ok (c.in_ok-day.day, c.next_days.new.reader)) c.days.ensures.exact c.in_ok-day.ensures.exact in
    let fails : reads_blocked (choice_if BadNumber (λ n. nat_lt n i.periods) PeriodOut) c.next_days.new.reader ≡ Err c.in_err-period.field-0.0
    = subst (λ m. reads_blocked (choice_if BadNumber (λ n. nat_lt n m) PeriodOut) c.next_days.new.reader ≡ Err c.in_err-period.field-0.0) c.periods.ensures.exact c.in_err-period.ensures.exact in
    rw (p.1, p.2)
    (fails_there ends_early wants_memory c.in_err-period.field-0.0 (choice_if BadNumber (λ n. nat_lt n i.periods) PeriodOut) _ c.next_days.new.reader _
    (read_then ends_early (known Expected kind_of Room) _ c.args.reader.now c.read_kind.new.reader c.in_ok-kind.kind c.in_ok-kind.ensures
    ∙ read_then ends_early (known_name UnknownName (names_of i c.in_ok-kind.kind)) _ c.read_kind.new.reader c.read_name.new.reader c.in_ok-number.number c.in_ok-number.ensures.exact
    ∙ read_then ends_early (choice_if BadNumber (λ n. nat_lt n i.days) DayOut) _ c.read_name.new.reader c.next_days.new.reader c.in_ok-day.day day)
    (surely ends_early wants_memory c.in_err-period.field-0.0 _ fails))
