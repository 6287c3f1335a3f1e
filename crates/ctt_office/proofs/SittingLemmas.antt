-- A planner at a seat, line by line.
use Rattle.std.proofs.Common.{◌≡◌, ◌≢◌, ◌∙◌, ◌⊎◌, inl, inr, Bool, true, false, nat_le, if◌then◌else◌, arith, length, ℕ, List, [], ◌∷◌, ◌++◌, take, Option, Some, None, refl, sym, ap, subst, append_assoc, append-nil}
use Rattle.std.proofs.lemmas.Bool.{le-leb, leb-true}
use Rattle.std.proofs.KnownBytes.{Appends-kept, Appends-nil, Appends-trans}
use Rattle.std.specs.Io.KnownBytes.{Appends, IsAtEnd, prepend_known}
use Rattle.ctt_files.specs.Output.{AppendsFront}
use Rattle.ctt_problem.specs.Problem.{Problem}
use Rattle.ctt_office.specs.Lines.{Comes, GivesLine, GivesNext, IsFirstLine, IsLong, FitsBuffer, ReaderValue, coming}
use Rattle.ctt_office.specs.declared.line_reader.Next.{Next}
use Rattle.ctt_office.specs.declared.line_reader.Next.TheVariants.{End, Line, TooLong as LongLine}
use Rattle.ctt_office.specs.SeatAnswers.{Tells}
use Rattle.ctt_office.specs.SeatText.{asked_by_line, seat_line}
use Rattle.ctt_office.specs.Sittings.{AreAnswered, EndsAt, GoOn, IsBroken, IsCutOff, IsBrokenOff, IsSat, IsSitting}
use Rattle.ctt_office.specs.declared.seat_line.SeatLine.{SeatLine}
use Rattle.ctt_office.specs.declared.seat_line.SeatLine.TheVariants.{Leave, TooLong}
use Rattle.ctt_office.specs.declared.sitting.Ending.{Ending}
use Rattle.ctt_office.specs.declared.sitting.Ending.TheVariants.{Broken, Ended, Left, NoMemory}

module _ {T : Type 0} (asked : List ℕ → SeatLine) (Is : SeatLine → T → T → List ℕ → Type 0) where
  -- one line more is answered
  more_answered : (bytes : List ℕ) (first seat : T) (lines : List (List ℕ)) (answers rest line after answer : List ℕ) (next : T) → AreAnswered asked Is bytes first lines answers rest seat → IsFirstLine line after rest
      → Is (asked line) seat next answer → AreAnswered asked Is bytes first (lines ++ line ∷ []) (answers ++ answer) after next
  more_answered bytes first seat [] answers rest line after answer next are cut is = (
    after,
    next,
    answer,
    [],
    subst (λ b. IsFirstLine line after b) are.1 cut,
    subst (λ s. Is (asked line) s next answer) are.2 is,
    ap (λ a. a ++ answer) are.0 ∙ sym (append-nil answer),
    (refl, refl, refl),
  )
  more_answered bytes first seat (l ∷ lines) answers rest line after answer next are cut is = (
    are.0,
    are.1,
    are.2,
    are.3 ++ answer,
    are.4,
    are.5,
    ap (λ a. a ++ answer) are.6 ∙ append_assoc are.2 are.3 answer,
    more_answered are.0 are.1 seat lines are.3 rest line after answer next are.7 cut is,
  )

  one_more_goes_on : (lines : List (List ℕ)) (line : List ℕ) → GoOn asked lines → asked line ≢ Leave → GoOn asked (lines ++ line ∷ [])
  one_more_goes_on [] line are goes = (goes, tt)
  one_more_goes_on (l ∷ lines) line are goes = (are.0, one_more_goes_on lines line are.1 goes)

  -- at first no line is answered
  pub sits_down : (before : T) (left out still : Option (List ℕ)) → still ≡ left → IsSitting asked Is before left out out still before
  sits_down before None out still same = record { answers = []; told = Appends-nil out; served = tt }
  sits_down before (Some bytes) out still same = record { answers = []; told = Appends-nil out; served = ([], bytes, same, (refl, refl, refl), tt) }

  -- a line that was known to come
  given : (line : SeatLine) (rest : List ℕ) (old new : Option (List ℕ)) → old ≡ Some rest → GivesLine (λ bytes. line ≡ asked bytes) old new
      → (bytes : List ℕ) × (after : List ℕ) × (new ≡ Some after) × (line ≡ asked bytes) × IsFirstLine bytes after rest
  given line rest None new same gives = cc
  given line rest (Some all) None same gives = absurd gives
  given line rest (Some all) (Some after) same gives =
      let here : all ≡ rest = cc in
      (gives.0, after, refl, gives.1, subst (IsFirstLine gives.0 after) here gives.2)

  -- a line by which the planner does not leave is answered, and the seat goes on
  pub sits_on : (before seat next : T) (left old mid new still later : Option (List ℕ)) (line : SeatLine) → IsSitting asked Is before left old mid still seat → GivesLine (λ bytes. line ≡ asked bytes) still later
      → Tells (Is line seat next) mid new → line ≢ Leave → IsSitting asked Is before left old new later next
  sits_on before seat next None old mid new still later line sits gives tells goes =
      record { answers = sits.answers ++ tells.0; told = Appends-trans old mid new sits.answers tells.0 sits.told tells.2; served = tt }
  sits_on before seat next (Some bytes) old mid new still later line sits gives tells goes =
      let so_far = sits.served in
      let got = given line so_far.1 still later so_far.2 gives in
      record {
        answers = sits.answers ++ tells.0;
        told = Appends-trans old mid new sits.answers tells.0 sits.told tells.2;
        served = (
          so_far.0 ++ got.0 ∷ [],
          got.1,
          got.2,
          more_answered bytes before seat so_far.0 sits.answers so_far.1 got.0 got.1 tells.0 next so_far.3 got.4 (subst (λ l. Is l seat next tells.0) got.3 tells.1),
          one_more_goes_on so_far.0 got.0 so_far.4 (λ leaves. goes (got.3 ∙ leaves)),
        );
      }

module _ {T : Type 0} (asked : List ℕ → SeatLine) (Is : SeatLine → T → T → List ℕ → Type 0) (Gone Unheard : T → Type 0) where
  -- a line by which the planner leaves is answered, and the seat ends
  pub leaves_by : (before seat next : T) (left old mid new still later : Option (List ℕ)) (line : SeatLine) → IsSitting asked Is before left old mid still seat → GivesLine (λ bytes. line ≡ asked bytes) still later
      → Tells (Is line seat next) mid new → line ≡ Leave → Gone next → IsSat asked Is Gone Unheard before left old new Left
  leaves_by before seat next None old mid new still later line sits gives tells leaves gone =
      record { answers = sits.answers ++ tells.0; told = Appends-trans old mid new sits.answers tells.0 sits.told tells.2; served = tt }
  leaves_by before seat next (Some bytes) old mid new still later line sits gives tells leaves gone =
      let so_far = sits.served in
      let got = given asked Is line so_far.1 still later so_far.2 gives in
      record {
        answers = sits.answers ++ tells.0;
        told = Appends-trans old mid new sits.answers tells.0 sits.told tells.2;
        served = (
          so_far.0 ++ got.0 ∷ [],
          got.1,
          next,
          more_answered asked Is bytes before seat so_far.0 sits.answers so_far.1 got.0 got.1 tells.0 next so_far.3 got.4 (subst (λ l. Is l seat next tells.0) got.3 tells.1),
          (so_far.0, got.0, refl, so_far.4, sym got.3 ∙ leaves),
          gone,
        );
      }

  at_end : (rest : List ℕ) (still : Option (List ℕ)) → still ≡ Some rest → IsAtEnd still → rest ≡ []
  at_end rest None same end = cc
  at_end rest (Some all) same end = (let here : all ≡ rest = cc in sym here ∙ end)

  ended : (before seat : T) (left old now still : Option (List ℕ)) → IsSitting asked Is before left old now still seat → IsAtEnd still → Gone seat → IsSat asked Is Gone Unheard before left old now Ended
  ended before seat None old now still sits end gone = record { answers = sits.answers; told = sits.told; served = tt }
  ended before seat (Some bytes) old now still sits end gone =
      let so_far = sits.served in
      record { answers = sits.answers; told = sits.told; served = (so_far.0, so_far.1, seat, so_far.3, (so_far.4, at_end so_far.1 still so_far.2 end), gone) }

  -- the lines so far are answered, and nothing follows their answers
  stops : (before seat : T) (left old now still : Option (List ℕ)) → IsSitting asked Is before left old now still seat → Gone seat → IsBrokenOff asked Is Gone before left old now
  stops before seat None old now still sits gone = record { answers = sits.answers; part = []; told = subst (Appends old now) (sym (append-nil sits.answers)) sits.told; served = tt }
  stops before seat (Some bytes) old now still sits gone =
      let so_far = sits.served in
      record { answers = sits.answers; part = []; told = subst (Appends old now) (sym (append-nil sits.answers)) sits.told; served = (so_far.0, so_far.1, seat, so_far.3, so_far.4, inl (refl, gone)) }

  -- the same if memory runs out
  halts : (before seat : T) (left old now still : Option (List ℕ)) → IsSitting asked Is before left old now still seat → Unheard seat → IsSat asked Is Gone Unheard before left old now NoMemory
  halts before seat None old now still sits unheard = record { answers = sits.answers; told = sits.told; served = tt }
  halts before seat (Some bytes) old now still sits unheard =
      let so_far = sits.served in
      record { answers = sits.answers; told = sits.told; served = (so_far.0, so_far.1, seat, so_far.3, so_far.4, unheard) }

  -- no further line comes
  pub ends_by : (before seat : T) (left old now still : Option (List ℕ)) (failed : Bool) (why : Ending) → IsSitting asked Is before left old now still seat → EndsAt still failed why → Gone seat → IsSat asked Is Gone Unheard before left old now why
  ends_by before seat left old now still failed Left sits end gone = absurd end
  ends_by before seat left old now still failed Ended sits end gone = ended before seat left old now still sits end gone
  ends_by before seat left old now still failed Broken sits end gone = stops before seat left old now still sits gone
  ends_by before seat left old now still failed NoMemory sits end gone = absurd end

  -- a prefix of the answer to one more line is written
  cut_off : (before seat next : T) (left old mid new still later : Option (List ℕ)) (line : SeatLine) → IsSitting asked Is before left old mid still seat → GivesLine (λ bytes. line ≡ asked bytes) still later
      → (answer : List ℕ) → Is line seat next answer → AppendsFront mid new answer → Gone next → IsBrokenOff asked Is Gone before left old new
  cut_off before seat next None old mid new still later line sits gives answer is front gone =
      record { answers = sits.answers; part = take front.0 answer; told = Appends-trans old mid new sits.answers (take front.0 answer) sits.told front.1; served = tt }
  cut_off before seat next (Some bytes) old mid new still later line sits gives answer is front gone =
      let so_far = sits.served in
      let got = given asked Is line so_far.1 still later so_far.2 gives in
      record {
        answers = sits.answers;
        part = take front.0 answer;
        told = Appends-trans old mid new sits.answers (take front.0 answer) sits.told front.1;
        served = (so_far.0, so_far.1, seat, so_far.3, so_far.4, inr (got.0, got.1, next, answer, front.0, got.4, subst (λ l. Is l seat next answer) got.3 is, refl, gone));
      }

  -- an answer could not be written
  pub breaks_off : (before seat next : T) (left old mid new still later : Option (List ℕ)) (line : SeatLine) (why : Ending) → IsSitting asked Is before left old mid still seat → GivesLine (λ bytes. line ≡ asked bytes) still later
      → IsCutOff (Is line seat next) mid new why → Gone next → (why ≡ NoMemory → Unheard seat) → IsSat asked Is Gone Unheard before left old new why
  breaks_off before seat next left old mid new still later line Left sits gives cut gone unheard = absurd cut
  breaks_off before seat next left old mid new still later line Ended sits gives cut gone unheard = absurd cut
  breaks_off before seat next left old mid new still later line Broken sits gives cut gone unheard = cut_off before seat next left old mid new still later line sits gives cut.0 cut.1 cut.2 gone
  breaks_off before seat next left old mid new still later line NoMemory sits gives kept gone unheard =
      halts before seat left old new still (record { answers = sits.answers; told = Appends-kept old mid new sits.answers sits.told kept; served = sits.served }) (unheard refl)

-- if a device is the cause, it has failed
pub read_failed : (known : Option (List ℕ)) (failed : Bool) (why : Ending) (Q : Type 0) → EndsAt known failed why → why ≡ Broken → (failed ≡ true) ⊎ Q
read_failed known failed why Q end same = inl (subst (EndsAt known failed) same end)

pub write_failed : (failed : Bool) (why : Ending) (P : Type 0) → IsBroken failed why → why ≡ Broken → P ⊎ (failed ≡ true)
write_failed failed why P is same = inr (subst (IsBroken failed) same is)

-- if P implies Q, a line that is lost and of which P holds is one of which Q holds
pub gives_also : (P Q : List ℕ → Type 0) (old new : Option (List ℕ)) → ((line : List ℕ) → P line → Q line) → GivesLine P old new → GivesLine Q old new
gives_also P Q None new also gives = tt
gives_also P Q (Some all) None also gives = absurd gives
gives_also P Q (Some all) (Some rest) also gives = (gives.0, also gives.0 gives.1, gives.2)

-- what a line asks for that is not too long
pub asks_short : (i : Problem) (p : ℕ) (line given : List ℕ) (what : SeatLine) → what ≡ seat_line i p given → given ≡ line → FitsBuffer line → what ≡ asked_by_line i p line
asks_short i p line given what is same short = by (nat_le (length line) 65536) refl
  where
    by : (b : Bool) → nat_le (length line) 65536 ≡ b → what ≡ (if b then seat_line i p line else TooLong)
    by true e = is ∙ ap (seat_line i p) same
    by false e = (let within = le-leb (length line) 65536 short in cc)

-- a line that is too long asks for nothing known
pub asks_long : (i : Problem) (p : ℕ) (line : List ℕ) → IsLong line → TooLong ≡ asked_by_line i p line
asks_long i p line long = by (nat_le (length line) 65536) refl
  where
    by : (b : Bool) → nat_le (length line) 65536 ≡ b → TooLong ≡ (if b then seat_line i p line else TooLong)
    by true e = (let within = leb-true (length line) 65536 e in absurd (omega (arith, within, long)))
    by false e = refl

-- what the line that was read asks for
pub asks_short_line : (i : Problem) (p : ℕ) (given : List ℕ) (what : SeatLine) (old new : ReaderValue) → GivesNext Line old new → given ≡ new.line → what ≡ seat_line i p given → GivesLine (λ line. what ≡ asked_by_line i p line) (coming old) (coming new)
asks_short_line i p given what old new gives same is = gives_also (λ line. (new.line ≡ line) × FitsBuffer line) _ (coming old) (coming new) (λ line h. asks_short i p line given what is (same ∙ h.0) h.1) gives

pub asks_long_line : (i : Problem) (p : ℕ) (old new : ReaderValue) → GivesNext LongLine old new → GivesLine (λ line. TooLong ≡ asked_by_line i p line) (coming old) (coming new)
asks_long_line i p old new gives = gives_also IsLong _ (coming old) (coming new) (λ line long. asks_long i p line long) gives.1

pub asks_line : (i : Problem) (p : ℕ) (old new : ReaderValue) (next : Next) → (next ≡ Line → ⊥) → Comes next old new → GivesLine (λ line. TooLong ≡ asked_by_line i p line) (coming old) (coming new)
asks_line i p old new Line other comes = absurd (other refl)
asks_line i p old new LongLine other comes = asks_long_line i p old new comes
asks_line i p old new End other comes = absurd comes

nothing_held : (left : Option (List ℕ)) → prepend_known [] left ≡ left
nothing_held None = refl
nothing_held (Some bytes) = refl

-- of a reader that has read nothing, all is still to come
pub coming_all : (lines : ReaderValue) (left given : Option (List ℕ)) → lines.held ≡ [] → lines.left ≡ left → left ≡ given → coming lines ≡ given
coming_all lines left given none same gives = ap (λ held. prepend_known held lines.left) none ∙ nothing_held lines.left ∙ same ∙ gives

-- the same, of what is known of both devices
pub sat_over : {T : Type 0} (asked : List ℕ → SeatLine) (Is : SeatLine → T → T → List ℕ → Type 0) (Gone Unheard : T → Type 0) (before : T) (left given old had new : Option (List ℕ)) (ending : Ending)
    → left ≡ given → old ≡ had → IsSat asked Is Gone Unheard before left old new ending → IsSat asked Is Gone Unheard before given had new ending
sat_over asked Is Gone Unheard before left given old had new ending gives starts sat =
    subst (λ known. IsSat asked Is Gone Unheard before given known new ending) starts (subst (λ known. IsSat asked Is Gone Unheard before known old new ending) gives sat)
