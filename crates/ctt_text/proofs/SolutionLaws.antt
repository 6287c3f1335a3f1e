-- The laws of the texts of solutions.
use Rattle.std.proofs.Common.{◌≡◌, ◌⊎◌, inl, inr, ℕ, suc, ◌*◌, ◌≤◌, ◌<◌, List, [], ◌∷◌, ◌++◌, length, map, flat_map, Bool, true, false, cond, ◌&&◌, ◌||◌, ◌==◌, Some, None, Ok, Err, refl, sym, ap, subst, ◌∙◌, arith, mul_comm}
use Rattle.std.specs.Prelude.{fold, nat_lt}
use Rattle.std.specs.List.{list_any, AllByRecursion as Each}
use Rattle.std.proofs.lemmas.List.{append-nil, nil_from_length, length-append}
use Rattle.std.proofs.lemmas.Bool.{ltb-true, lt-ltb, or_from, or_parts}
use Rattle.std.proofs.lemmas.Nat.{mul-add-lt}
use Rattle.std.specs.Str.{bytes_eq}
use Rattle.ctt_text.specs.declared.fault.SolutionFault.{SolutionFault}
use Rattle.ctt_text.specs.declared.fault.SolutionFault.TheVariants.{UnknownCourse, UnknownRoom, BadNumber, DayOut, PeriodOut, Repeated}
use Rattle.ctt_problem.specs.declared.placed.Placed.{Placed}
use Rattle.ctt_text.specs.Numbers.{is_number, value}
use Rattle.ctt_text.specs.Forms.{◌>>=◌, times, Fills, read, without_rest}
use Rattle.ctt_problem.specs.Problem.{Problem, IsProblem}
use Rattle.ctt_problem.specs.Timetable.{before, Ascending, Fits, has_lecture, with, SameLectures}
use Rattle.ctt_text.specs.Places.{one, known, known_name, number_if}
use Rattle.ctt_text.specs.SolutionPlaces.{free_slot, entry, begun, solution, cut}
use Rattle.ctt_text.specs.SolutionText.{EntryWords, spelled_entry, IsEntry, lecture_of, AreApart, SolSpells, SolutionBreaksAt}
use Rattle.ctt_text.specs.SolutionLaws.{solution_answer, ReadsSolutions, SpellsOneTimetable, SolutionFailsWhereBroken, SolutionBreaksOnce, SolutionSpellsOrBreaks, SpelledIsTimetable}
use Rattle.ctt_text.proofs.FormLaws.{answer_fills, fills_answer, answer_breaks, breaks_answer, breaks_once, answered}
use Rattle.ctt_problem.proofs.ResultLemmas.{ok_same, ok_is_err}
use Rattle.ctt_text.proofs.SectionLaws.{Entry, AllFit, entries_fill, entries_taken}
use Rattle.ctt_text.proofs.PlaceLaws.{a_name, name_given, below_passes, passed_below}
use Rattle.ctt_problem.proofs.LectureLaws.{put_any, with_ascends, one_list, Each-found}
use Rattle.ctt_problem.proofs.ListLaws.{Each-mapped, place_below}
use Rattle.ctt_problem.proofs.TimetableLemmas.{Each-map}

-- what obeys the rule of a period
three_passed : (a b c : Bool) (bad out taken : ℕ → SolutionFault) → cond a (cond b (cond c (Some taken) None) (Some out)) (Some bad) ≡ None → (a ≡ true) × (b ≡ true) × (c ≡ false)
three_passed true true true bad out taken h = cc
three_passed true true false bad out taken h = (refl, refl, refl)
three_passed true false c bad out taken h = cc
three_passed false b c bad out taken h = cc

module _ (i : Problem) where
  abbrev pub add_entry : List Placed → EntryWords → List Placed
  add_entry s w = with (lecture_of i w) s

  -- an entry whose course has no lecture in its slot so far
  abbrev pub FitsEntry : List Placed → EntryWords → Type 0
  FitsEntry s w = IsEntry i w × (has_lecture (lecture_of i w).course (lecture_of i w).slot s ≡ false)

  -- such an entry fills its form
  entry_fills : (s : List Placed) (w : EntryWords) → FitsEntry s w → Fills (entry i s) (spelled_entry w) (add_entry s w)
  unfolding entry free_slot known_name number_if known one ◌>>=◌
  entry_fills s w fit = (
    rw fit.0.0 refl,
    rw fit.0.0 (rw fit.0.1 refl, rw fit.0.1 (below_passes BadNumber DayOut w.day i.days fit.0.2, (rw (fit.0.3.0, lt-ltb (value w.period) i.periods fit.0.3.1, fit.1) refl, refl))),
  )

  -- what fills it is such an entry
  pub entry_taken : (s : List Placed) (words : List (List ℕ)) (t : List Placed) → Fills (entry i s) words t → Entry spelled_entry add_entry FitsEntry s words t
  unfolding entry free_slot known_name number_if known one ◌>>=◌
  entry_taken s [] t h = absurd h
  entry_taken s (c ∷ []) t h = absurd h.1
  entry_taken s (c ∷ r ∷ []) t h = absurd h.1.1
  entry_taken s (c ∷ r ∷ d ∷ []) t h = absurd h.1.1.1
  entry_taken s (c ∷ r ∷ d ∷ p ∷ []) t h =
      let w : EntryWords = record { course = c; room = r; day = d; period = p } in
      let room = rw (name_given UnknownCourse c i.course_names h.0) at h.1 in
      let day = rw (name_given UnknownRoom r i.room_names room.0) at room.1 in
      let period = three_passed (is_number p) (nat_lt (value p) i.periods) (has_lecture (lecture_of i w).course (lecture_of i w).slot s) BadNumber PeriodOut Repeated day.1.0 in
      record {
        given = w;
        all = refl;
        fit = (
          (a_name UnknownCourse c i.course_names h.0, a_name UnknownRoom r i.room_names room.0, passed_below BadNumber DayOut d i.days day.0, (period.0, ltb-true (value p) i.periods period.1)),
          period.2,
        );
        gives = day.1.1;
      }
  entry_taken s (c ∷ r ∷ d ∷ p ∷ more ∷ words) t h = absurd h.1.1.1.1

  abbrev lectures : List EntryWords → List Placed
  lectures given = map (lecture_of i) given

  -- a lecture that is new to a list
  abbrev IsNew : List Placed → Placed → Type 0
  IsNew s l = has_lecture l.course l.slot s ≡ false

  -- what is new to a list with one more lecture is new to the list and apart from that lecture, and
  -- conversely
  new_parts : (s : List Placed) (l : Placed) (ls : List Placed) → Each (IsNew (with l s)) ls → Each (IsNew s) ls × Each (λ m. (l.course == m.course && l.slot == m.slot) ≡ false) ls
  new_parts s l [] each = (tt, tt)
  new_parts s l (m ∷ ls) each =
      let parts = or_parts (l.course == m.course && l.slot == m.slot) (has_lecture m.course m.slot s) (sym (put_any before (λ x. x.course == m.course && x.slot == m.slot) l s) ∙ each.0) in
      let rest = new_parts s l ls each.1 in
      ((parts.1, rest.0), (parts.0, rest.1))

  new_both : (s : List Placed) (l : Placed) (ls : List Placed) → Each (IsNew s) ls → Each (λ m. (l.course == m.course && l.slot == m.slot) ≡ false) ls → Each (IsNew (with l s)) ls
  new_both s l [] new apart = tt
  new_both s l (m ∷ ls) new apart =
      (put_any before (λ x. x.course == m.course && x.slot == m.slot) l s ∙ or_from (l.course == m.course && l.slot == m.slot) (has_lecture m.course m.slot s) apart.0 new.0, new_both s l ls new.1 apart.1)

  -- entries that are valid one after another have lectures that are apart, and new
  entries_apart : (given : List EntryWords) (s : List Placed) → AllFit add_entry FitsEntry s given → Each (IsEntry i) given × Each (IsNew s) (lectures given) × AreApart (lectures given)
  entries_apart [] s fit = (tt, tt, tt)
  entries_apart (w ∷ given) s fit =
      let rest = entries_apart given (add_entry s w) fit.1 in
      let new = new_parts s (lecture_of i w) (lectures given) rest.1 in
      ((fit.0.0, rest.0), (fit.0.1, new.0), (new.1, rest.2))

  entries_together : (given : List EntryWords) (s : List Placed) → Each (IsEntry i) given → Each (IsNew s) (lectures given) → AreApart (lectures given) → AllFit add_entry FitsEntry s given
  entries_together [] s each new apart = tt
  entries_together (w ∷ given) s each new apart = ((each.0, new.0), entries_together given (add_entry s w) each.1 (new_both s (lecture_of i w) (lectures given) new.1 apart.0) apart.1)

  -- nothing is in the empty list
  all_new : (ls : List Placed) → Each (IsNew []) ls
  all_new [] = tt
  all_new (l ∷ ls) = (refl, all_new ls)

  -- lectures that are inserted one by one ascend
  entries_ascend : (given : List EntryWords) (s : List Placed) → AllFit add_entry FitsEntry s given → Ascending s → Ascending (fold add_entry s given)
  entries_ascend [] s fit up = up
  entries_ascend (w ∷ given) s fit up = entries_ascend given (add_entry s w) fit.1 (with_ascends s (lecture_of i w) up fit.0.1)

  -- they are the given lectures and the earlier ones
  entries_any : (p : Placed → Bool) (given : List EntryWords) (s : List Placed) → list_any p (fold add_entry s given) ≡ (list_any p s || list_any p (lectures given))
  entries_any p [] s = end (list_any p s)
    where
      end : (b : Bool) → b ≡ (b || false)
      end true = refl
      end false = refl
  entries_any p (w ∷ given) s = entries_any p given (add_entry s w) ∙ ap (λ b. b || list_any p (lectures given)) (put_any before p (lecture_of i w) s) ∙ turn (p (lecture_of i w)) (list_any p s) (list_any p (lectures given))
    where
      turn : (a b c : Bool) → ((a || b) || c) ≡ (b || (a || c))
      turn true true c = refl
      turn true false c = refl
      turn false b c = refl

-- as many entries are begun as there are entries
begun_spelled : (given : List EntryWords) → begun (flat_map spelled_entry given) ≡ length given
unfolding begun
begun_spelled [] = refl
begun_spelled (w ∷ given) = ap suc (begun_spelled given)

-- the entries that are begun are complete
few_begun : (words : List (List ℕ)) → length words ≤ 4 * begun words
unfolding begun
few_begun [] = omega arith
few_begun (a ∷ []) = omega arith
few_begun (a ∷ b ∷ []) = omega arith
few_begun (a ∷ b ∷ c ∷ []) = omega arith
few_begun (a ∷ b ∷ c ∷ d ∷ words) = omega (arith, few_begun words)

four_each : (given : List EntryWords) → length (flat_map spelled_entry given) ≡ 4 * length given
four_each [] = omega arith
four_each (w ∷ given) = omega (arith, four_each given)

none_left : (words front rest : List (List ℕ)) (n : ℕ) → words ≡ front ++ rest → length front ≡ 4 * n → length words ≤ 4 * n → rest ≡ []
none_left words front rest n all size few = nil_from_length rest (omega (arith, ap (λ (x : List (List ℕ)). length x) all ∙ length-append front rest, size, few))

-- what is parsed is spelled
read_spelled : (i : Problem) (words : List (List ℕ)) (t : List Placed) → solution_answer i words ≡ Ok t → SolSpells i words t
read_spelled i words t h =
    let r = answer_fills cut (solution i words) words t h in
    let s = entries_taken (entry i) spelled_entry (add_entry i) (FitsEntry i) (entry_taken i) (begun words) [] r.0 t r.3 in
    let size : length r.0 ≡ 4 * begun words = ap (λ (x : List (List ℕ)). length x) s.all ∙ four_each s.given ∙ ap (λ n. 4 * n) s.count in
    let end : r.1 ≡ [] = none_left words r.0 r.1 (begun words) r.2 size (few_begun words) in
    let apart = entries_apart i s.given [] s.fit in
    record {
      given = s.given;
      all = r.2 ∙ ap (λ x. r.0 ++ x) end ∙ append-nil r.0 ∙ s.all;
      entries = apart.0;
      apart = apart.2;
      ascending = subst (λ x. Ascending x) s.gives (entries_ascend i s.given [] s.fit tt);
      same = subst (λ x. SameLectures x (lectures i s.given)) s.gives (λ p. entries_any i p s.given []);
    }

-- what is spelled is parsed
spelled_read : (i : Problem) (words : List (List ℕ)) (t : List Placed) → SolSpells i words t → solution_answer i words ≡ Ok t
spelled_read i words t s =
    let text : List (List ℕ) = flat_map spelled_entry s.given in
    let fit = entries_together i s.given [] s.entries (all_new i (lectures i s.given)) s.apart in
    let made : List Placed = fold (add_entry i) [] s.given in
    let is : made ≡ t = one_list made t (entries_ascend i s.given [] fit tt) s.ascending (λ p. entries_any i p s.given [] ∙ sym (s.same p)) in
    let filled : Fills (times (entry i) (length s.given) []) text made = entries_fill (entry i) spelled_entry (add_entry i) (FitsEntry i) (entry_fills i) s.given [] fit in
    let filled_t : Fills (solution i text) text t = subst (λ x. Fills (solution i text) text x) is (subst (λ n. Fills (times (entry i) n []) text made) (sym (begun_spelled s.given)) filled) in
    ap (λ ws. solution_answer i ws) s.all
    ∙ ap (λ ws. without_rest (read cut (solution i text) ws 1)) (sym (append-nil text))
    ∙ fills_answer cut (solution i text) text [] t filled_t

pub reads_solutions : ReadsSolutions
reads_solutions i words t = (read_spelled i words t, spelled_read i words t)

pub spells_one_timetable : SpellsOneTimetable
spells_one_timetable i words t u s s' = ok_same {F = SolutionFault} t u (sym (spelled_read i words t s) ∙ spelled_read i words u s')

pub solution_fails_where_broken : SolutionFailsWhereBroken
solution_fails_where_broken i words e = (answer_breaks cut (solution i words) words e, λ k b. breaks_answer cut (solution i words) words k e b)

pub solution_breaks_once : SolutionBreaksOnce
solution_breaks_once i words = breaks_once cut (solution i words) words

pub solution_spells_or_breaks : SolutionSpellsOrBreaks
solution_spells_or_breaks i words =
    (by (answered cut (solution i words) words), λ t k e s b. ok_is_err ⊥ t e (sym (spelled_read i words t s) ∙ breaks_answer cut (solution i words) words k e b))
  where
    by : ((t : List Placed) × (solution_answer i words ≡ Ok t)) ⊎ ((e : SolutionFault) × (solution_answer i words ≡ Err e)) → ((t : List Placed) × SolSpells i words t) ⊎ ((k : ℕ) × (fault : SolutionFault) × SolutionBreaksAt i words k fault)
    by (inl x) = inl (x.0, read_spelled i words x.0 x.1)
    by (inr x) = let b = answer_breaks cut (solution i words) words x.0 x.1 in inr (b.0, x.0, b.1)

-- a lecture of an entry fits
lecture_fits : (i : Problem) (w : EntryWords) → IsProblem i → IsEntry i w → Fits i (lecture_of i w)
lecture_fits i w is e = (
  subst (λ n. (lecture_of i w).course < n) is.courses_named (place_below (bytes_eq w.course) i.course_names e.0),
  subst (λ n. (lecture_of i w).slot < n) (mul_comm i.periods i.days) (mul-add-lt (value w.day) i.periods (value w.period) i.days e.2.1 e.3.1),
  subst (λ n. (lecture_of i w).room < n) is.rooms_named (place_below (bytes_eq w.room) i.room_names e.1),
)

pub spelled_is_timetable : SpelledIsTimetable
spelled_is_timetable i words t is s = record {
  ascending = s.ascending;
  fits = Each-found (Fits i) (lectures i s.given) (Each-mapped (Fits i) (lecture_of i) s.given (Each-map (IsEntry i) (λ w. Fits i (lecture_of i w)) (λ w e. lecture_fits i w is e) s.given s.entries)) t (λ p h. sym (s.same p) ∙ h);
}
