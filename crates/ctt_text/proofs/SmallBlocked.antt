-- Closures of the small instance: parsing them, and each fault.
use Rattle.std.proofs.Common.{◌≡◌, [], ◌∷◌, true, false, Ok, Err, refl}
use Rattle.std.specs.Prelude.{codes}
use Rattle.ctt_text.specs.declared.fault.BlockedFault.TheVariants.{Missing, Expected, BadNumber, TooLarge, UnknownName, DayOut, PeriodOut}
use Rattle.ctt_text.specs.Words.{words}
use Rattle.ctt_problem.specs.Named.{is_blank}
use Rattle.ctt_text.specs.Forms.{read, ◌>>=◌, times}
use Rattle.ctt_text.specs.Places.{one, known, fixed, known_name, number_if, number_at_most, choice_if}
use Rattle.ctt_text.specs.SideFile.{side_file}
use Rattle.ctt_text.specs.BlockedPlaces.{closing, with_marks, blocked_entry, closures}
use Rattle.ctt_text.specs.BlockedLaws.{blocked_answer}
use Rattle.ctt_text.proofs.SmallInstance.{small_instance}

-- a teacher closes all courses of that teacher, a course itself alone; an entry that occurs twice counts once, and words after END. are ignored
is_read : blocked_answer small_instance (words (codes "Blocked: 4 teacher t1 1 * course geo * 2 room A 0 1 room A 0 1 END. more"))
    ≡ Ok (record { closed = false ∷ false ∷ false ∷ true ∷ true ∷ true ∷ false ∷ false ∷ true ∷ false ∷ false ∷ true ∷ false ∷ false ∷ false ∷ true ∷ true ∷ true ∷ []; blocked = false ∷ true ∷ false ∷ false ∷ false ∷ false ∷ false ∷ false ∷ false ∷ false ∷ false ∷ false ∷ [] })
unfolding read ◌>>=◌ times words is_blank one known fixed known_name number_if number_at_most choice_if side_file closing with_marks blocked_entry closures small_instance
is_read = refl

-- all days and all periods of a room
whole : blocked_answer small_instance (words (codes "Blocked: 1 room B * * END."))
    ≡ Ok (record { closed = false ∷ false ∷ false ∷ false ∷ false ∷ false ∷ false ∷ false ∷ false ∷ false ∷ false ∷ false ∷ false ∷ false ∷ false ∷ false ∷ false ∷ false ∷ []; blocked = false ∷ false ∷ false ∷ false ∷ false ∷ false ∷ true ∷ true ∷ true ∷ true ∷ true ∷ true ∷ [] })
unfolding read ◌>>=◌ times words is_blank one known fixed known_name number_if number_at_most choice_if side_file closing with_marks blocked_entry closures small_instance
whole = refl

-- no entry
none : blocked_answer small_instance (words (codes "Blocked: 0 END."))
    ≡ Ok (record { closed = false ∷ false ∷ false ∷ false ∷ false ∷ false ∷ false ∷ false ∷ false ∷ false ∷ false ∷ false ∷ false ∷ false ∷ false ∷ false ∷ false ∷ false ∷ []; blocked = false ∷ false ∷ false ∷ false ∷ false ∷ false ∷ false ∷ false ∷ false ∷ false ∷ false ∷ false ∷ [] })
unfolding read ◌>>=◌ times words is_blank one known fixed known_name number_if number_at_most choice_if side_file closing with_marks blocked_entry closures small_instance
none = refl

-- each fault at its word
empty : blocked_answer small_instance [] ≡ Err (Missing 1)
unfolding read ◌>>=◌ times words is_blank one known fixed known_name number_if number_at_most choice_if side_file closing with_marks blocked_entry closures small_instance
empty = refl

cut : blocked_answer small_instance (words (codes "Blocked: 1 room A 0 1")) ≡ Err (Missing 7)
unfolding read ◌>>=◌ times words is_blank one known fixed known_name number_if number_at_most choice_if side_file closing with_marks blocked_entry closures small_instance
cut = refl

other_label : blocked_answer small_instance (words (codes "blocked: 0 END.")) ≡ Err (Expected 1)
unfolding read ◌>>=◌ times words is_blank one known fixed known_name number_if number_at_most choice_if side_file closing with_marks blocked_entry closures small_instance
other_label = refl

other_kind : blocked_answer small_instance (words (codes "Blocked: 1 Room A 0 1 END.")) ≡ Err (Expected 3)
unfolding read ◌>>=◌ times words is_blank one known fixed known_name number_if number_at_most choice_if side_file closing with_marks blocked_entry closures small_instance
other_kind = refl

more_entries : blocked_answer small_instance (words (codes "Blocked: 1 room A 0 1 room B 0 1 END.")) ≡ Err (Expected 7)
unfolding read ◌>>=◌ times words is_blank one known fixed known_name number_if number_at_most choice_if side_file closing with_marks blocked_entry closures small_instance
more_entries = refl

bad_count : blocked_answer small_instance (words (codes "Blocked: *")) ≡ Err (BadNumber 2)
unfolding read ◌>>=◌ times words is_blank one known fixed known_name number_if number_at_most choice_if side_file closing with_marks blocked_entry closures small_instance
bad_count = refl

too_large : blocked_answer small_instance (words (codes "Blocked: 2000001")) ≡ Err (TooLarge 2)
unfolding read ◌>>=◌ times words is_blank one known fixed known_name number_if number_at_most choice_if side_file closing with_marks blocked_entry closures small_instance
too_large = refl

unknown_room : blocked_answer small_instance (words (codes "Blocked: 1 room C x 9 END.")) ≡ Err (UnknownName 4)
unfolding read ◌>>=◌ times words is_blank one known fixed known_name number_if number_at_most choice_if side_file closing with_marks blocked_entry closures small_instance
unknown_room = refl

name_of_another_kind : blocked_answer small_instance (words (codes "Blocked: 1 teacher alg 0 1 END.")) ≡ Err (UnknownName 4)
unfolding read ◌>>=◌ times words is_blank one known fixed known_name number_if number_at_most choice_if side_file closing with_marks blocked_entry closures small_instance
name_of_another_kind = refl

bad_day : blocked_answer small_instance (words (codes "Blocked: 1 room A -1 1 END.")) ≡ Err (BadNumber 5)
unfolding read ◌>>=◌ times words is_blank one known fixed known_name number_if number_at_most choice_if side_file closing with_marks blocked_entry closures small_instance
bad_day = refl

day_out : blocked_answer small_instance (words (codes "Blocked: 1 room A 2 x END.")) ≡ Err (DayOut 5)
unfolding read ◌>>=◌ times words is_blank one known fixed known_name number_if number_at_most choice_if side_file closing with_marks blocked_entry closures small_instance
day_out = refl

bad_period : blocked_answer small_instance (words (codes "Blocked: 1 room A * 1.0 END.")) ≡ Err (BadNumber 6)
unfolding read ◌>>=◌ times words is_blank one known fixed known_name number_if number_at_most choice_if side_file closing with_marks blocked_entry closures small_instance
bad_period = refl

period_out : blocked_answer small_instance (words (codes "Blocked: 1 course top 0 3")) ≡ Err (PeriodOut 6)
unfolding read ◌>>=◌ times words is_blank one known fixed known_name number_if number_at_most choice_if side_file closing with_marks blocked_entry closures small_instance
period_out = refl
