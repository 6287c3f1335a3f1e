-- Solutions of the small instance: parsed whole, truncated and with each fault.
use Rattle.std.proofs.Common.{◌≡◌, ℕ, ◌+◌, ◌%◌, ◌==◌, not, List, [], ◌∷◌, map, take, Ok, Err, refl}
use Rattle.std.specs.Prelude.{codes, filter}
use Rattle.std.specs.List.{range_with_len}
use Rattle.std.specs.Fmt.{digits}
use Rattle.ctt_problem.specs.declared.placed.Placed.{Placed}
use Rattle.ctt_text.specs.declared.fault.SolutionFault.TheVariants.{Cut, UnknownCourse, UnknownRoom, BadNumber, DayOut, PeriodOut, Repeated}
use Rattle.ctt_text.specs.Words.{words}
use Rattle.ctt_problem.specs.Named.{is_blank}
use Rattle.ctt_text.specs.Forms.{read, ◌>>=◌, times}
use Rattle.ctt_text.specs.Places.{one, known, known_name, number_if}
use Rattle.ctt_text.specs.SolutionPlaces.{free_slot, entry, begun}
use Rattle.ctt_text.specs.SolutionText.{SolSpells}
use Rattle.ctt_text.specs.SolutionLaws.{solution_answer}
use Rattle.ctt_text.specs.Written.{soltext}
use Rattle.ctt_text.proofs.SolutionLaws.{reads_solutions}
use Rattle.ctt_text.proofs.SmallInstance.{small_instance}

-- five entries, the fourth of them out of order
unfoldable given : List (List ℕ)
given = words (codes "alg A 0 0 geo A 0 1 geo A 1 2 alg B 1 0 top B 0 2")

unfoldable at : ℕ → ℕ → ℕ → Placed
at course slot room = record { course = course; slot = slot; room = room }

-- their lectures in order
unfoldable lectures : List Placed
lectures = at 0 0 0 ∷ at 0 3 1 ∷ at 1 1 0 ∷ at 1 5 0 ∷ at 2 2 1 ∷ []

is_read : solution_answer small_instance given ≡ Ok lectures
unfolding read ◌>>=◌ times words is_blank one known known_name number_if free_slot entry begun small_instance given at lectures
is_read = refl

-- these words spell them
is_spelled : SolSpells small_instance given lectures
is_spelled = (reads_solutions small_instance given lectures).0 is_read

-- no word at all
empty : solution_answer small_instance [] ≡ Ok []
unfolding read ◌>>=◌ times words is_blank one known known_name number_if free_slot entry begun small_instance
empty = refl

-- the indices inside the entries
unfoldable inside : List ℕ
inside = filter (λ k. not (k % 4 == 0)) (range_with_len 0 20)

-- cut after k words, inside an entry, word k + 1 is missing
cuts : map (λ k. solution_answer small_instance (take k given)) inside ≡ map (λ k. Err (Cut (k + 1))) inside
unfolding read ◌>>=◌ times words is_blank one known known_name number_if free_slot entry begun small_instance given inside
cuts = refl

-- truncated between entries, the earlier entries are parsed
entries_before : solution_answer small_instance (take 12 given) ≡ Ok (at 0 0 0 ∷ at 1 1 0 ∷ at 1 5 0 ∷ [])
unfolding read ◌>>=◌ times words is_blank one known known_name number_if free_slot entry begun small_instance given at
entries_before = refl

-- a course twice in one slot
repeated : solution_answer small_instance (words (codes "alg A 0 0 alg B 0 0")) ≡ Err (Repeated 8)
unfolding read ◌>>=◌ times words is_blank one known known_name number_if free_slot entry begun small_instance
repeated = refl

-- one word after the last entry
no_course : solution_answer small_instance (words (codes "alg A 0 0 nul")) ≡ Err (UnknownCourse 5)
unfolding read ◌>>=◌ times words is_blank one known known_name number_if free_slot entry begun small_instance
no_course = refl

no_room : solution_answer small_instance (words (codes "alg C 0 0")) ≡ Err (UnknownRoom 2)
unfolding read ◌>>=◌ times words is_blank one known known_name number_if free_slot entry begun small_instance
no_room = refl

no_number : solution_answer small_instance (words (codes "alg A x 0")) ≡ Err (BadNumber 3)
unfolding read ◌>>=◌ times words is_blank one known known_name number_if free_slot entry begun small_instance
no_number = refl

late_day : solution_answer small_instance (words (codes "alg A 2 0")) ≡ Err (DayOut 3)
unfolding read ◌>>=◌ times words is_blank one known known_name number_if free_slot entry begun small_instance
late_day = refl

late_period : solution_answer small_instance (words (codes "alg A 0 3")) ≡ Err (PeriodOut 4)
unfolding read ◌>>=◌ times words is_blank one known known_name number_if free_slot entry begun small_instance
late_period = refl

-- the written form of the five lectures
written : soltext small_instance lectures ≡ codes "alg A 0 0\nalg B 1 0\ngeo A 0 1\ngeo A 1 2\ntop B 0 2\n"
unfolding small_instance at lectures digits
written = refl
