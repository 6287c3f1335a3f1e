-- What is parsed as a call fits the instance.
use Rattle.std.proofs.Common.{◌≡◌, ℕ, ◌<◌, List, [], length, Bool, true, false, cond, Option, Some, None, refl, ◌∙◌, ap, subst, mul_comm, arith}
use Rattle.std.specs.Prelude.{nat_lt, slice_index_or, codes}
use Rattle.std.specs.Option.{option_map}
use Rattle.std.specs.Str.{bytes_eq}
use Rattle.std.proofs.lemmas.Bool.{ltb-true, and_parts}
use Rattle.std.proofs.lemmas.Nat.{mul-add-lt}
use Rattle.ctt_text.specs.Numbers.{is_number, value}
use Rattle.ctt_text.specs.Places.{known_name, exactly, fixed}
use Rattle.ctt_problem.specs.Problem.{Problem, IsProblem, is_among, place_of, number_in, slot_of, course_count, room_count, slot_count, teacher_count, curriculum_count}
use Rattle.std.proofs.lemmas.List.Sums.{passes_at_first}
use Rattle.ctt_problem.proofs.ListLaws.{place_below, bytes_sound}
use Rattle.ctt_edits.specs.Edits.{EditFits}
use Rattle.ctt_edits.specs.Looks.{LookFits}
use Rattle.ctt_edits.specs.Calls.{CallFits}
use Rattle.ctt_edits.specs.Offers.{pattern_of}
use Rattle.ctt_edits.specs.Patterns.{FitsIfGiven, IsRoomIfGiven, PatternFits}
use Rattle.ctt_edits.specs.declared.slot_pattern.SlotPattern.{SlotPattern}
use Rattle.ctt_script.specs.declared.journal_fault.JournalFault.{JournalFault}
use Rattle.ctt_script.specs.declared.journal_fault.JournalFault.TheVariants.{BadWord}
use Rattle.ctt_script.specs.declared.kinds.EditKind.{EditKind}
use Rattle.ctt_script.specs.declared.kinds.EditKind.TheVariants as edit
use Rattle.ctt_script.specs.declared.kinds.LookKind.{LookKind}
use Rattle.ctt_script.specs.declared.kinds.LookKind.TheVariants as look
use Rattle.ctt_script.specs.declared.kinds.PatternKind.{PatternKind}
use Rattle.ctt_script.specs.declared.kinds.PatternKind.TheVariants as pattern
use Rattle.ctt_script.specs.declared.kinds.SlotPatternKind.{SlotPatternKind}
use Rattle.ctt_script.specs.declared.kinds.SlotPatternKind.TheVariants as to_any
use Rattle.ctt_script.specs.declared.kinds.CallKind.{CallKind}
use Rattle.ctt_script.specs.declared.kinds.CallKind.TheVariants as kind
use Rattle.ctt_script.specs.Amounts.{number_below}
use Rattle.ctt_script.specs.JournalWords.{word, label}
use Rattle.ctt_script.specs.Calls.{course_form, room_form, teacher, curriculum_form, slot, edit_after, edit_form, any_or, room_choice, slot_after, slot_choice, pattern_after, pattern_form, any_slot, anywhere_after, anywhere_form, look_after, look_form, call_after, call_form}
use Rattle.ctt_text.proofs.FormLaws.{Yields, yields_done, yields_bind}
use Rattle.ctt_text.proofs.PlaceLaws.{yields_word}

-- a value that passes a test
pub when : {A : Type 0} (b : Bool) (x a : A) → cond b (Some x) None ≡ Some a → (b ≡ true) × (x ≡ a)
when true x a h = (refl, cc)
when false x a h = cc

-- a name is one of the names
pub name_below : (names : List (List ℕ)) (w : List ℕ) (n : ℕ) → number_in names w ≡ Some n → n < length names
name_below names w n h =
    let known = when (is_among names w) (place_of names w) n h in
    subst (λ k. k < length names) known.1 (place_below (bytes_eq w) names known.0)

-- a number below a limit is below it
pub is_below : (limit : ℕ) (w : List ℕ) (n : ℕ) → number_below limit w ≡ Some n → n < limit
is_below limit w n h =
    let known = when _ (value w) n h in
    subst (λ k. k < limit) known.1 (ltb-true (value w) limit (and_parts (is_number w) (nat_lt (value w) limit) known.0).1)

-- a place of the grammar
module _ {A : Type 0} (P : A → Type 0) (meaning : List ℕ → Option A) (otherwise : A) where
  pub yields_meaning : ((w : List ℕ) (a : A) → meaning w ≡ Some a → P a) → Yields P (word meaning otherwise)
  yields_meaning h = yields_word BadWord meaning otherwise P h

-- a word about which nothing needs to be known
pub yields_any : {A : Type 0} (meaning : List ℕ → Option A) (otherwise : A) → Yields (λ _. Unit {0}) (word meaning otherwise)
yields_any meaning otherwise = yields_meaning (λ _. Unit {0}) meaning otherwise (λ w a h. tt)

-- a fixed word
yields_label : (text : List ℕ) → Yields (λ _. Unit {0}) (label text)
unfolding fixed
yields_label text = yields_any (exactly text) tt

-- if a word is not `*`, neither is the name that it matches
not_star : (names : List (List ℕ)) (w : List ℕ) (n : ℕ) → bytes_eq w (codes "*") ≡ false → number_in names w ≡ Some n → bytes_eq (slice_index_or names n []) (codes "*") ≡ false
not_star names w n other h =
    let known = when (is_among names w) (place_of names w) n h in
    let same : w ≡ slice_index_or names n [] = bytes_sound w _ (passes_at_first (bytes_eq w) names [] (place_below (bytes_eq w) names known.0)) ∙ ap (λ k. slice_index_or names k []) known.1 in
    subst (λ v. bytes_eq v (codes "*") ≡ false) same other

-- a number below a limit, or `*`
below_choice : (limit : ℕ) (w : List ℕ) (o : Option ℕ) → any_or (number_below limit) w ≡ Some o → FitsIfGiven limit o
below_choice limit w o h = by (bytes_eq w (codes "*")) (number_below limit w) refl h
  where
    by : (b : Bool) (m : Option ℕ) → number_below limit w ≡ m → cond b (Some None) (option_map Some m) ≡ Some o → FitsIfGiven limit o
    by true m k h = let same : None ≡ o = cc in subst (FitsIfGiven limit) same tt
    by false None k h = cc
    by false (Some n) k h = let same : Some n ≡ o = cc in subst (FitsIfGiven limit) same (is_below limit w n k)

module _ (i : Problem) (is : IsProblem i) where
  pub yields_course : Yields (λ c. c < course_count i) (course_form i)
  unfolding course_form known_name
  yields_course = yields_meaning _ _ 0 (λ w c h. subst (λ n. c < n) is.courses_named (name_below i.course_names w c h))

  pub yields_room : Yields (λ r. r < room_count i) (room_form i)
  unfolding room_form known_name
  yields_room = yields_meaning _ _ 0 (λ w r h. subst (λ n. r < n) is.rooms_named (name_below i.room_names w r h))

  pub yields_teacher : Yields (λ h. h < teacher_count i) (teacher i)
  unfolding teacher known_name
  yields_teacher = yields_meaning _ _ 0 (λ w n h. name_below i.teacher_names w n h)

  pub yields_curriculum : Yields (λ q. q < curriculum_count i) (curriculum_form i)
  unfolding curriculum_form known_name
  yields_curriculum = yields_meaning _ _ 0 (λ w q h. subst (λ n. q < n) is.curricula_named (name_below i.curriculum_names w q h))

  pub yields_below : (limit : ℕ) → Yields (λ n. n < limit) (word (number_below limit) 0)
  yields_below limit = yields_meaning _ _ 0 (λ w n h. is_below limit w n h)

  pub yields_slot : Yields (λ s. s < slot_count i) (slot i)
  unfolding slot
  yields_slot =
      yields_bind (λ d. d < i.days) (λ s. s < slot_count i) _ _ (yields_below i.days) (λ day d.
      yields_bind (λ p. p < i.periods) (λ s. s < slot_count i) _ _ (yields_below i.periods) (λ period p.
      yields_done JournalFault (λ s. s < slot_count i) (slot_of i day period) (subst (λ n. slot_of i day period < n) (mul_comm i.periods i.days) (mul-add-lt day i.periods period i.days d p))))

  pub yields_edit_after : (k : EditKind) → Yields (EditFits i) (edit_after i k)
  unfolding edit_after
  yields_edit_after edit.Place =
      yields_bind _ (EditFits i) _ _ yields_course (λ c fc. yields_bind _ (EditFits i) _ _ yields_room (λ r fr. yields_bind _ (EditFits i) _ _ yields_slot (λ s fs.
      yields_done JournalFault (EditFits i) _ (fc, fs, fr))))
  yields_edit_after edit.Move =
      yields_bind _ (EditFits i) _ _ yields_course (λ c fc. yields_bind _ (EditFits i) _ _ yields_slot (λ s fs. yields_bind _ (EditFits i) _ _ yields_room (λ r fr. yields_bind _ (EditFits i) _ _ yields_slot (λ t ft.
      yields_done JournalFault (EditFits i) _ (fc, fs, ft, fr)))))
  yields_edit_after edit.Swap =
      yields_bind _ (EditFits i) _ _ yields_course (λ c fc. yields_bind _ (EditFits i) _ _ yields_slot (λ s fs. yields_bind _ (EditFits i) _ _ yields_course (λ d fd. yields_bind _ (EditFits i) _ _ yields_slot (λ t ft.
      yields_done JournalFault (EditFits i) _ (fc, fs, fd, ft)))))
  yields_edit_after edit.Reroom =
      yields_bind _ (EditFits i) _ _ yields_course (λ c fc. yields_bind _ (EditFits i) _ _ yields_room (λ r fr. yields_bind _ (EditFits i) _ _ yields_slot (λ s fs.
      yields_done JournalFault (EditFits i) _ (fc, fs, fr))))
  yields_edit_after edit.Drop =
      yields_bind _ (EditFits i) _ _ yields_course (λ c fc. yields_bind _ (EditFits i) _ _ yields_slot (λ s fs.
      yields_done JournalFault (EditFits i) _ (fc, fs)))

  pub yields_edit : Yields (EditFits i) (edit_form i)
  unfolding edit_form
  yields_edit = yields_bind _ (EditFits i) _ _ (yields_any _ _) (λ k t. yields_edit_after k)

  -- a room, or `*`
  room_chosen : (w : List ℕ) (o : Option ℕ) → any_or (number_in i.room_names) w ≡ Some o → IsRoomIfGiven i o
  room_chosen w o h = by (bytes_eq w (codes "*")) (number_in i.room_names w) refl refl h
    where
      by : (b : Bool) (m : Option ℕ) → bytes_eq w (codes "*") ≡ b → number_in i.room_names w ≡ m → cond b (Some None) (option_map Some m) ≡ Some o → IsRoomIfGiven i o
      by true m e k h = let same : None ≡ o = cc in subst (IsRoomIfGiven i) same tt
      by false None e k h = cc
      by false (Some r) e k h = let same : Some r ≡ o = cc in subst (IsRoomIfGiven i) same (subst (λ n. r < n) is.rooms_named (name_below i.room_names w r k), not_star i.room_names w r e k)

  yields_room_choice : Yields (IsRoomIfGiven i) (room_choice i)
  unfolding room_choice
  yields_room_choice = yields_meaning _ _ None room_chosen

  -- a slot, or `* *`
  yields_slot_after : (day : Option ℕ) → FitsIfGiven i.days day → Yields (FitsIfGiven (slot_count i)) (slot_after i day)
  unfolding slot_after
  yields_slot_after None d = yields_bind (λ _. Unit {0}) (FitsIfGiven (slot_count i)) _ _ (yields_label (codes "*")) (λ star t. yields_done JournalFault (FitsIfGiven (slot_count i)) None tt)
  yields_slot_after (Some day) d =
      yields_bind (λ p. p < i.periods) (FitsIfGiven (slot_count i)) _ _ (yields_below i.periods) (λ period p.
      yields_done JournalFault (FitsIfGiven (slot_count i)) (Some (slot_of i day period)) (subst (λ n. slot_of i day period < n) (mul_comm i.periods i.days) (mul-add-lt day i.periods period i.days d p)))

  yields_slot_choice : Yields (FitsIfGiven (slot_count i)) (slot_choice i)
  unfolding slot_choice
  yields_slot_choice = yields_bind (FitsIfGiven i.days) (FitsIfGiven (slot_count i)) _ _ (yields_meaning _ _ None (below_choice i.days)) (λ day d. yields_slot_after day d)

  yields_pattern_after : (k : PatternKind) → Yields (PatternFits i) (pattern_after i k)
  unfolding pattern_after
  yields_pattern_after pattern.Place =
      yields_bind _ (PatternFits i) _ _ yields_course (λ c fc. yields_bind _ (PatternFits i) _ _ yields_room_choice (λ r fr. yields_bind _ (PatternFits i) _ _ yields_slot_choice (λ s fs.
      yields_done JournalFault (PatternFits i) _ (fc, fs, fr))))
  yields_pattern_after pattern.Move =
      yields_bind _ (PatternFits i) _ _ yields_course (λ c fc. yields_bind _ (PatternFits i) _ _ yields_slot (λ s fs. yields_bind _ (PatternFits i) _ _ yields_room_choice (λ r fr. yields_bind _ (PatternFits i) _ _ yields_slot_choice (λ t ft.
      yields_done JournalFault (PatternFits i) _ (fc, fs, ft, fr)))))
  yields_pattern_after pattern.Swap =
      yields_bind _ (PatternFits i) _ _ yields_course (λ c fc. yields_bind _ (PatternFits i) _ _ yields_slot (λ s fs.
      yields_bind (λ _. Unit {0}) (PatternFits i) _ _ (yields_label (codes "*")) (λ x t. yields_bind (λ _. Unit {0}) (PatternFits i) _ _ (yields_label (codes "*")) (λ y u. yields_bind (λ _. Unit {0}) (PatternFits i) _ _ (yields_label (codes "*")) (λ z v.
      yields_done JournalFault (PatternFits i) _ (fc, fs))))))
  yields_pattern_after pattern.Reroom =
      yields_bind _ (PatternFits i) _ _ yields_course (λ c fc. yields_bind _ (PatternFits i) _ _ yields_room_choice (λ r fr. yields_bind _ (PatternFits i) _ _ yields_slot (λ s fs.
      yields_done JournalFault (PatternFits i) _ (fc, fs, fr))))

  yields_pattern : Yields (PatternFits i) (pattern_form i)
  unfolding pattern_form
  yields_pattern = yields_bind _ (PatternFits i) _ _ (yields_any _ _) (λ k t. yields_pattern_after k)

  yields_any_slot : Yields (λ _. Unit {0}) any_slot
  unfolding any_slot
  yields_any_slot = yields_bind (λ _. Unit {0}) (λ _. Unit {0}) _ _ (yields_label (codes "*")) (λ star t. yields_label (codes "*"))

  -- a pattern to any slot
  abbrev pub SlotPatternFits : SlotPattern → Type 0
  SlotPatternFits p = PatternFits i (pattern_of p)

  yields_slot_pattern_after : (k : SlotPatternKind) → Yields SlotPatternFits (anywhere_after i k)
  unfolding anywhere_after
  yields_slot_pattern_after to_any.Place =
      yields_bind _ SlotPatternFits _ _ yields_course (λ c fc. yields_bind _ SlotPatternFits _ _ yields_room_choice (λ r fr. yields_bind (λ _. Unit {0}) SlotPatternFits _ _ yields_any_slot (λ star t.
      yields_done JournalFault SlotPatternFits _ (fc, tt, fr))))
  yields_slot_pattern_after to_any.Move =
      yields_bind _ SlotPatternFits _ _ yields_course (λ c fc. yields_bind _ SlotPatternFits _ _ yields_slot (λ s fs. yields_bind _ SlotPatternFits _ _ yields_room_choice (λ r fr. yields_bind (λ _. Unit {0}) SlotPatternFits _ _ yields_any_slot (λ star t.
      yields_done JournalFault SlotPatternFits _ (fc, fs, tt, fr)))))
  yields_slot_pattern_after to_any.Swap =
      yields_bind _ SlotPatternFits _ _ yields_course (λ c fc. yields_bind _ SlotPatternFits _ _ yields_slot (λ s fs.
      yields_bind (λ _. Unit {0}) SlotPatternFits _ _ (yields_label (codes "*")) (λ x t. yields_bind (λ _. Unit {0}) SlotPatternFits _ _ yields_any_slot (λ star u.
      yields_done JournalFault SlotPatternFits _ (fc, fs)))))

  yields_slot_pattern : Yields SlotPatternFits (anywhere_form i)
  unfolding anywhere_form
  yields_slot_pattern = yields_bind _ SlotPatternFits _ _ (yields_any _ _) (λ k t. yields_slot_pattern_after k)

  pub yields_look_after : (k : LookKind) → Yields (LookFits i) (look_after i k)
  unfolding look_after
  yields_look_after look.Course = yields_bind _ (LookFits i) _ _ yields_course (λ c f. yields_done JournalFault (LookFits i) _ f)
  yields_look_after look.Slot = yields_bind _ (LookFits i) _ _ yields_slot (λ s f. yields_done JournalFault (LookFits i) _ f)
  yields_look_after look.Teacher = yields_bind _ (LookFits i) _ _ yields_teacher (λ h f. yields_done JournalFault (LookFits i) _ f)
  yields_look_after look.Curriculum = yields_bind _ (LookFits i) _ _ yields_curriculum (λ q f. yields_done JournalFault (LookFits i) _ f)
  yields_look_after look.CourseCost = yields_bind _ (LookFits i) _ _ yields_course (λ c f. yields_done JournalFault (LookFits i) _ f)
  yields_look_after look.Cost = yields_done JournalFault (LookFits i) _ tt
  yields_look_after look.Price = yields_bind _ (LookFits i) _ _ yields_edit (λ e f. yields_done JournalFault (LookFits i) _ f)
  yields_look_after look.Missing = yields_done JournalFault (LookFits i) _ tt
  yields_look_after look.Cheapest =
      yields_bind (λ n. n < 1001) (LookFits i) _ _ (yields_below 1001) (λ n fn. yields_bind _ (LookFits i) _ _ yields_pattern (λ p fp.
      yields_done JournalFault (LookFits i) _ (omega (arith, fn), fp)))
  yields_look_after look.Slots = yields_bind _ (LookFits i) _ _ yields_slot_pattern (λ p f. yields_done JournalFault (LookFits i) _ f)

  pub yields_look : Yields (LookFits i) (look_form i)
  unfolding look_form
  yields_look = yields_bind _ (LookFits i) _ _ (yields_any _ _) (λ k t. yields_look_after k)

  pub yields_call_after : (k : CallKind) → Yields (CallFits i) (call_after i k)
  unfolding call_after
  yields_call_after (kind.Edit k) = yields_bind _ (CallFits i) _ _ (yields_edit_after k) (λ e f. yields_done JournalFault (CallFits i) _ f)
  yields_call_after (kind.Look k) = yields_bind _ (CallFits i) _ _ (yields_look_after k) (λ l f. yields_done JournalFault (CallFits i) _ f)

  pub yields_call : Yields (CallFits i) (call_form i)
  unfolding call_form
  yields_call = yields_bind _ (CallFits i) _ _ (yields_any _ _) (λ k t. yields_call_after k)
