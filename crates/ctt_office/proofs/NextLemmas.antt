-- What a reader of lines returns next.
use Rattle.std.proofs.Common.{◌≡◌, ℕ, ◌+◌, ◌-◌, ◌<◌, ◌≤◌, Bool, false, List, [], ◌∷◌, ◌++◌, length, take, drop, Option, Some, None, refl, sym, ap, subst, ◌∙◌, arith, append_assoc, append-nil, inl, inr}
use Rattle.std.specs.Io.KnownBytes.{Consumes, IsAtEnd, Keeps, prepend_known}
use Rattle.std.proofs.KnownBytes.{Consumes-kept, Consumes-nil, Consumes-trans}
use Rattle.std.proofs.lemmas.List.{drop-drop, length-append, length-drop, take_all}
use Rattle.ctt_log.specs.Recovery.{HasNoNewline}
use Rattle.ctt_office.specs.Lines.{GivesLine, GivesNext, IsLineThenRest, IsGrown, IsLong, IsReadOnce, FitsBuffer, ReaderValue, coming}
use Rattle.ctt_office.specs.declared.line_reader.Next.{Next}
use Rattle.ctt_office.specs.declared.line_reader.Next.TheVariants.{End, Line, TooLong}

open_both : (xs ys : List ℕ) → HasNoNewline xs → HasNoNewline ys → HasNoNewline (xs ++ ys)
open_both [] ys a b = b
open_both (x ∷ xs) ys a b = (a.0, open_both xs ys a.1 b)

-- what was held is discarded
drop_whole : (left : Option (List ℕ)) (held : List ℕ) → Consumes (prepend_known held left) (prepend_known [] left) held
drop_whole None held = tt
drop_whole (Some rest) held = refl

-- known bytes that lost a prefix, and then a line with its newline, lost the line with that prefix
cut_given : (P : List ℕ → Type 0) (all : Option (List ℕ)) (left : Option (List ℕ)) (front line held rest : List ℕ) → HasNoNewline front → P (front ++ line)
    → Consumes all (prepend_known held left) front → IsLineThenRest line rest held → GivesLine P all (prepend_known rest left)
cut_given P None left front line held rest unended long gone is = tt
cut_given P (Some all) None front line held rest unended long gone is = absurd gone
cut_given P (Some all) (Some left) front line held rest unended long gone is =
    let whole : held ++ left ≡ line ++ 10 ∷ (rest ++ left) = ap (λ h. h ++ left) is.1 ∙ append_assoc line (10 ∷ rest) left in
    (front ++ line, long, (open_both front line unended is.0, inl (gone ∙ ap (λ h. front ++ h) whole ∙ sym (append_assoc front line (10 ∷ (rest ++ left))))))

-- known bytes that end with a line have lost it
end_given : (P : List ℕ → Type 0) (all : Option (List ℕ)) (left : Option (List ℕ)) (line : List ℕ) → HasNoNewline line → P line → 0 < length line
    → Keeps all (prepend_known line left) → IsAtEnd left → GivesLine P all (prepend_known [] left)
end_given P None left line unended short some keeps end = tt
end_given P (Some all) None line unended short some keeps end = absurd keeps
end_given P (Some all) (Some left) line unended short some keeps end =
    let whole : all ≡ line = sym keeps ∙ ap (λ l. line ++ l) end ∙ append-nil line in
    (line, short, (unended, inr (whole, end, some)))

-- ---- a line that is held

pub cut_is_next : (old new : ReaderValue) → IsLineThenRest new.line new.held old.held → FitsBuffer new.line → new.left ≡ old.left → GivesNext Line old new
cut_is_next old new is short left =
    subst (λ l. GivesLine (λ line. (new.line ≡ line) × FitsBuffer line) (coming old) (prepend_known new.held l)) (sym left)
    (cut_given (λ line. (new.line ≡ line) × FitsBuffer line) (coming old) old.left [] new.line old.held new.held tt (refl, short) (Consumes-nil (coming old)) is)

pub long_is_next : (old new : ReaderValue) (line : List ℕ) → new.line ≡ [] → IsLong line → IsLineThenRest line new.held old.held → new.left ≡ old.left → GivesNext TooLong old new
long_is_next old new line none long is left = (
  none,
  subst (λ l. GivesLine IsLong (coming old) (prepend_known new.held l)) (sym left)
      (cut_given IsLong (coming old) old.left [] line old.held new.held tt long (Consumes-nil (coming old)) is),
)

pub found_next : (n : Next) (old new : ReaderValue) (result : Option Next) → result ≡ Some n
    → (result ≡ Some Line → IsLineThenRest new.line new.held old.held × FitsBuffer new.line)
    → (result ≡ Some TooLong → (new.line ≡ []) × ((line : List ℕ) × IsLong line × IsLineThenRest line new.held old.held))
    → (result ≡ Some End → ⊥) → new ≡ record old { line = new.line; held = new.held } → GivesNext n old new
found_next Line old new result is line long never rest = let l = line is in cut_is_next old new l.0 l.1 (ap (λ r. r.left) rest)
found_next TooLong old new result is line long never rest = let l = long is in long_is_next old new l.1.0 l.0 l.1.1 l.1.2 (ap (λ r. r.left) rest)
found_next End old new result is line long never rest = absurd (never is)

-- ---- after more was read

gives_kept : (P : List ℕ → Type 0) (a b c : Option (List ℕ)) → Keeps a b → GivesLine P b c → GivesLine P a c
gives_kept P None b c keeps gives = tt
gives_kept P (Some x) None c keeps gives = absurd keeps
gives_kept P (Some x) (Some y) None keeps gives = absurd gives
gives_kept P (Some x) (Some y) (Some z) keeps gives = subst (λ w. GivesLine P (Some w) (Some z)) keeps gives

at_end_kept : (a b : Option (List ℕ)) → Keeps a b → IsAtEnd b → IsAtEnd a
at_end_kept None b keeps end = tt
at_end_kept (Some x) None keeps end = absurd keeps
at_end_kept (Some x) (Some y) keeps end = sym keeps ∙ end

-- what is returned next after some reads is what is returned next before them
pub next_kept : (next : Next) (old now new : ReaderValue) → Keeps (coming old) (coming now) → GivesNext next now new → GivesNext next old new
next_kept Line old now new keeps gives = gives_kept (λ line. (new.line ≡ line) × FitsBuffer line) (coming old) (coming now) (coming new) keeps gives
next_kept TooLong old now new keeps gives = (gives.0, gives_kept IsLong (coming old) (coming now) (coming new) keeps gives.1)
next_kept End old now new keeps gives = at_end_kept (coming old) (coming now) keeps gives

-- ---- a line that is too long

-- this much of a line that is too long is gone
pub record IsPast (old now : ReaderValue) : Type 0 where
  pub gone : List ℕ
  pub unended : HasNoNewline gone
  pub long : IsLong gone
  pub lost : Consumes (coming old) (coming now) gone

-- with what is held the line is too long, and does not end yet
pub record IsPassing (old now : ReaderValue) : Type 0 where
  pub gone : List ℕ
  pub unended : HasNoNewline gone
  pub held_open : HasNoNewline now.held
  pub long : IsLong (gone ++ now.held)
  pub lost : Consumes (coming old) (coming now) gone

pub begins : (old : ReaderValue) → HasNoNewline old.held → IsLong old.held → IsPassing old old
begins old unended long = record { gone = []; unended = tt; held_open = unended; long = long; lost = Consumes-nil (coming old) }

pub forgets : (old now : ReaderValue) → IsPassing old now → IsPast old (record now { line = []; held = [] })
forgets old now is = record {
  gone = is.gone ++ now.held;
  unended = open_both is.gone now.held is.unended is.held_open;
  long = is.long;
  lost = Consumes-trans (coming old) (coming now) (prepend_known [] now.left) is.gone now.held is.lost (drop_whole now.left now.held);
}

pub reads_on : (old now new : ReaderValue) → IsPast old now → Keeps (coming now) (coming new) → IsPast old new
reads_on old now new is keeps = record { gone = is.gone; unended = is.unended; long = is.long; lost = Consumes-kept (coming old) (coming now) (coming new) is.gone is.lost keeps }

pub goes_on : (old now : ReaderValue) → IsPast old now → HasNoNewline now.held → IsPassing old now
goes_on old now is unended = record { gone = is.gone; unended = is.unended; held_open = unended; long = (let more = length-append is.gone now.held in let l = is.long in omega (arith, more, l)); lost = is.lost }

lost_all : (P : List ℕ → Type 0) (a b : Option (List ℕ)) (gone : List ℕ) → HasNoNewline gone → P gone → 0 < length gone → Consumes a b gone → IsAtEnd b → GivesLine P a b
lost_all P None b gone unended long some lost end = tt
lost_all P (Some x) None gone unended long some lost end = absurd lost
lost_all P (Some x) (Some y) gone unended long some lost end = (gone, long, (unended, inr (lost ∙ ap (λ l. gone ++ l) end ∙ append-nil gone, end, some)))

prepend_none : (held : List ℕ) (left : Option (List ℕ)) → held ≡ [] → IsAtEnd left → IsAtEnd (prepend_known held left)
prepend_none held None none end = tt
prepend_none held (Some left) none end = ap (λ h. h ++ left) none ∙ end

-- the line ends at the end of all bytes
pub ends_with_all : (old now : ReaderValue) → IsPast old now → now.line ≡ [] → now.held ≡ [] → IsAtEnd now.left → GivesNext TooLong old now
ends_with_all old now is none held end =
    (none, lost_all IsLong (coming old) (coming now) is.gone is.unended is.long (let l = is.long in omega (arith, l)) is.lost (prepend_none now.held now.left held end))

-- the line ends at a newline that is held
pub ends_there : (old now new : ReaderValue) (line : List ℕ) → IsPast old now → new.line ≡ [] → IsLineThenRest line new.held now.held → new.left ≡ now.left → GivesNext TooLong old new
ends_there old now new line is none cut left =
    let long : IsLong (is.gone ++ line) = (let more = length-append is.gone line in let l = is.long in omega (arith, more, l)) in (
      none,
      subst (λ l. GivesLine IsLong (coming old) (prepend_known new.held l)) (sym left)
          (cut_given IsLong (coming old) now.left is.gone line now.held new.held is.unended long is.lost cut),
    )

-- what is read after the first g bytes held, which begin with a line of n bytes
pub ends_behind : (old now : ReaderValue) (left : Option (List ℕ)) (items slice : List ℕ) (g n : ℕ) → IsPast old now → now.held ≡ drop g items → now.left ≡ left → slice ≡ drop g items
    → IsLineThenRest (take n slice) (drop (n + 1) slice) slice → GivesLine IsLong (coming old) (prepend_known (drop (g + n + 1) items) left)
ends_behind old now left items slice g n is held left_is slice_is cut =
    let here : IsLineThenRest (take n (drop g items)) (drop (n + 1) (drop g items)) (drop g items) = subst (λ s. IsLineThenRest (take n s) (drop (n + 1) s) s) slice_is cut in
    let rest : drop (n + 1) (drop g items) ≡ drop (g + n + 1) items = drop-drop (n + 1) g items ∙ ap (λ k. drop k items) (omega arith) in
    let there : IsLineThenRest (take n (drop g items)) (drop (g + n + 1) items) (drop g items) = subst (λ r. IsLineThenRest (take n (drop g items)) r (drop g items)) rest here in
    let new : ReaderValue = record { line = []; held = drop (g + n + 1) items; left = left; pulls = 0; has_failed = false; is_shut = false } in
    (ends_there old now new (take n (drop g items)) is refl (subst (IsLineThenRest (take n (drop g items)) (drop (g + n + 1) items)) (sym held) there) (sym left_is)).1

pub all_behind : (xs ys : List ℕ) (g : ℕ) → xs ≡ ys → take (length xs - g) (drop g xs) ≡ drop g ys
all_behind xs ys g same = let len = length-drop g xs in take_all (length xs - g) (drop g xs) (omega (arith, len)) ∙ ap (drop g) same

pub none_taken : (k : ℕ) (xs : List ℕ) → take (k - k) xs ≡ []
none_taken k xs = let none : k - k ≡ 0 = omega arith in ap (λ j. take j xs) none

-- ---- what was read

-- the bytes read so far, with those held at first, contain no newline; no read failed, and each
-- gave some
pub record HasRead (old now : ReaderValue) : Type 0 where
  pub read : List ℕ
  pub unended : HasNoNewline (old.held ++ read)
  pub given : Consumes old.left now.left read
  pub unfailed : now.has_failed ≡ old.has_failed
  pub few : now.pulls ≤ old.pulls + length read

pub reads_none : (old : ReaderValue) → HasNoNewline old.held → HasRead old old
reads_none old unended = record { read = []; unended = subst HasNoNewline (sym (append-nil old.held)) unended; given = Consumes-nil old.left; unfailed = refl; few = omega arith }

open_after : (xs ys : List ℕ) → HasNoNewline (xs ++ ys) → HasNoNewline ys
open_after [] ys both = both
open_after (x ∷ xs) ys both = open_after xs ys both.1

open_all : (xs ys more held : List ℕ) → HasNoNewline (xs ++ ys) → HasNoNewline (held ++ more) → HasNoNewline (xs ++ (ys ++ more))
open_all xs ys more held some both = subst HasNoNewline (append_assoc xs ys more) (open_both (xs ++ ys) more some (open_after held more both))

-- one more read gave no newline either
pub reads_more : (old now new : ReaderValue) → HasRead old now → IsGrown now new → HasNoNewline new.held → new.has_failed ≡ now.has_failed → HasRead old new
reads_more old now new is grown unended same = record {
  read = is.read ++ grown.0;
  unended = open_all old.held is.read grown.0 now.held is.unended (subst HasNoNewline grown.1 unended);
  given = Consumes-trans old.left now.left new.left is.read grown.0 is.given grown.2;
  unfailed = same ∙ is.unfailed;
  few = (let more = length-append is.read grown.0 in let first = is.few in let more_reads = grown.3 in omega (arith, more, first, more_reads));
}

-- what is held is discarded
pub reads_still : (old now : ReaderValue) → HasRead old now → HasRead old (record now { line = []; held = [] })
reads_still old now is = record { read = is.read; unended = is.unended; given = is.given; unfailed = is.unfailed; few = is.few }

-- what is read at most once from a later state is read at most once from the first
pub once_from : {R : Type 0} (left : R → Option (List ℕ)) (has_failed : R → Bool) (pulls : R → ℕ) (old now : ReaderValue) (reads : ℕ) → HasRead old now → IsReadOnce left has_failed pulls now reads
    → IsReadOnce left has_failed pulls old reads
once_from left has_failed pulls old now reads is once = (
  once.0,
  is.read ++ once.1,
  open_all old.held is.read once.1 now.held is.unended once.2,
  Consumes-trans old.left now.left (left once.0) is.read once.1 is.given once.3,
  once.4 ∙ is.unfailed,
  (let more = length-append is.read once.1 in let first = is.few in let more_reads = once.5 in omega (arith, more, first, more_reads)),
  once.6,
)
