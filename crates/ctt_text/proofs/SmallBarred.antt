-- Barred rooms of the small instance: parsing them, and each fault.
use Rattle.std.proofs.Common.{◌≡◌, [], ◌∷◌, true, false, Ok, Err, refl}
use Rattle.std.specs.Prelude.{codes}
use Rattle.ctt_text.specs.declared.fault.BarredFault.TheVariants.{Missing, Expected, BadNumber, TooLarge, UnknownCourse, UnknownRoom}
use Rattle.ctt_text.specs.Words.{words}
use Rattle.ctt_problem.specs.Named.{is_blank}
use Rattle.ctt_text.specs.Forms.{read, ◌>>=◌, times}
use Rattle.ctt_text.specs.Places.{one, known, fixed, known_name, number_if, number_at_most}
use Rattle.ctt_text.specs.SideFile.{side_file}
use Rattle.ctt_text.specs.BarredPlaces.{barred_pair, barred_rooms}
use Rattle.ctt_text.specs.BarredLaws.{barred_answer}
use Rattle.ctt_text.proofs.SmallInstance.{small_instance}

-- a pair that occurs twice counts once, and words after END. are ignored
is_read : barred_answer small_instance (words (codes "Barred: 2 top A top A END. more")) ≡ Ok (false ∷ false ∷ false ∷ false ∷ true ∷ false ∷ [])
unfolding read ◌>>=◌ times words is_blank one known fixed known_name number_if number_at_most side_file barred_pair barred_rooms small_instance
is_read = refl

-- no pair
none : barred_answer small_instance (words (codes "Barred: 0 END.")) ≡ Ok (false ∷ false ∷ false ∷ false ∷ false ∷ false ∷ [])
unfolding read ◌>>=◌ times words is_blank one known fixed known_name number_if number_at_most side_file barred_pair barred_rooms small_instance
none = refl

-- each fault at its word
empty : barred_answer small_instance [] ≡ Err (Missing 1)
unfolding read ◌>>=◌ times words is_blank one known fixed known_name number_if number_at_most side_file barred_pair barred_rooms small_instance
empty = refl

cut : barred_answer small_instance (words (codes "Barred: 1 top")) ≡ Err (Missing 4)
unfolding read ◌>>=◌ times words is_blank one known fixed known_name number_if number_at_most side_file barred_pair barred_rooms small_instance
cut = refl

unknown_course : barred_answer small_instance (words (codes "Barred: 2 top A END.")) ≡ Err (UnknownCourse 5)
unfolding read ◌>>=◌ times words is_blank one known fixed known_name number_if number_at_most side_file barred_pair barred_rooms small_instance
unknown_course = refl

unknown_room : barred_answer small_instance (words (codes "Barred: 1 top C END.")) ≡ Err (UnknownRoom 4)
unfolding read ◌>>=◌ times words is_blank one known fixed known_name number_if number_at_most side_file barred_pair barred_rooms small_instance
unknown_room = refl

too_large : barred_answer small_instance (words (codes "Barred: 2000001")) ≡ Err (TooLarge 2)
unfolding read ◌>>=◌ times words is_blank one known fixed known_name number_if number_at_most side_file barred_pair barred_rooms small_instance
too_large = refl

bad_number : barred_answer small_instance (words (codes "Barred: x")) ≡ Err (BadNumber 2)
unfolding read ◌>>=◌ times words is_blank one known fixed known_name number_if number_at_most side_file barred_pair barred_rooms small_instance
bad_number = refl

other_word : barred_answer small_instance (words (codes "barred: 0 END.")) ≡ Err (Expected 1)
unfolding read ◌>>=◌ times words is_blank one known fixed known_name number_if number_at_most side_file barred_pair barred_rooms small_instance
other_word = refl
