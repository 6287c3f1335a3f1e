-- Mended solutions: what remains of them, and what is set aside.
use Rattle.std.proofs.Common.{◌≡◌, ◌∙◌, ℕ, ◌+◌, true, List, [], ◌∷◌, ◌++◌, drop, Option, Some, None, Result, Ok, Err, append-nil, append_assoc, refl, sym, ap, subst}
use Rattle.std.specs.List.{AllByRecursion as Each}
use Rattle.ctt_problem.specs.Problem.{Problem}
use Rattle.ctt_problem.specs.Timetable.{Ascending, Fits, IsTimetable, before, with}
use Rattle.ctt_problem.specs.declared.placed.Placed.{Placed}
use Rattle.ctt_problem.proofs.LectureLaws.{before_once}
use Rattle.ctt_problem.proofs.TimetableLemmas.{Each-append}
use Rattle.ctt_board.specs.declared.cell.Cell.{Cell}
use Rattle.ctt_edits.specs.Edits.{checked_by, edited}
use Rattle.ctt_edits.specs.Fitting.{FaultFits}
use Rattle.ctt_edits.specs.Openings.{or_rest, placed_on}
use Rattle.ctt_edits.specs.declared.edit.Edit.TheVariants.{Place}
use Rattle.ctt_edits.specs.declared.fault.EditFault.{EditFault}
use Rattle.ctt_edits.proofs.ReplyLemmas.{MayFit}
use Rattle.ctt_commands.specs.MendLaws.{MendedOpens, NoneIsSetAside}
use Rattle.ctt_commands.specs.Mended.{Aside, after_try, aside_line, aside_text, fault_on, mended, mended_on, or_with, or_without, set_aside, set_aside_on}

-- a lecture that comes after all goes last
with_last : (t : List Placed) (l : Placed) → Each (λ m. before m l ≡ true) t → with l t ≡ t ++ l ∷ []
with_last [] l each = refl
with_last (m ∷ t) l each = rw (before_once m l each.0) (ap (λ u. m ∷ u) (with_last t l each.1))

-- the fault of a lecture names a course of the instance, if it names one
pub refused_fits : (i : Problem) (o : Option EditFault) (cells : List Cell) (f : EditFault) → MayFit i o → Err f ≡ checked_by o cells → FaultFits i f
refused_fits i None cells f may e = cc
refused_fits i (Some found) cells f may e = let same : found ≡ f = cc in subst (FaultFits i) same may.fits

-- ---- a loop over the list

-- what remains and what is set aside so far, followed by the same of the lectures from this index
-- on, is that of the whole list
pub record Mending (i j : Problem) (ls t left : List Placed) (aside : List ℕ) (at : ℕ) : Type 0 where
  pub same : j ≡ i
  pub left_is : left ++ mended_on i t (drop at ls) ≡ mended i ls
  pub aside_is : aside ++ aside_text i (set_aside_on i t (drop at ls)) ≡ aside_text i (set_aside i ls)

left_more : (o : Option EditFault) (l : Placed) (left others : List Placed) → (left ++ or_without o l []) ++ others ≡ left ++ or_without o l others
left_more o l left others = append_assoc left (or_without o l []) others ∙ ap (λ (more : List Placed). left ++ more) (one o)
  where
    one : (o : Option EditFault) → or_without o l [] ++ others ≡ or_without o l others
    one None = refl
    one (Some f) = refl

aside_more : (i : Problem) (o : Option EditFault) (l : Placed) (said : List ℕ) (others : List Aside) → (said ++ aside_text i (or_with o l [])) ++ aside_text i others ≡ said ++ aside_text i (or_with o l others)
aside_more i o l said others = append_assoc said (aside_text i (or_with o l [])) (aside_text i others) ∙ ap (λ (more : List ℕ). said ++ more) (one o)
  where
    one : (o : Option EditFault) → aside_text i (or_with o l []) ++ aside_text i others ≡ aside_text i (or_with o l others)
    one None = refl
    one (Some f) = ap (λ (line : List ℕ). line ++ aside_text i others) (append-nil (aside_line i (l, f)))

-- one more lecture
pub mending_more : (i j k : Problem) (ls t u left more : List Placed) (said told : List ℕ) (at : ℕ) (l : Placed) (o : Option EditFault) → Mending i j ls t left said at
    → drop at ls ≡ l ∷ drop (at + 1) ls → o ≡ fault_on j t l → k ≡ j → u ≡ after_try o t l → more ≡ left ++ or_without o l [] → told ≡ said ++ aside_text i (or_with o l [])
    → Mending i k ls u more told (at + 1)
mending_more i j k ls t u left more said told at l o was rest fault same list left_is said_is =
    let found : fault_on i t l ≡ o = sym (subst (λ p. o ≡ fault_on p t l) was.same fault) in
    let others : List Placed = drop (at + 1) ls in
    let leaves : mended_on i t (drop at ls) ≡ or_without o l (mended_on i u others) =
    ap (mended_on i t) rest ∙ ap (λ p. or_without p l (mended_on i (after_try p t l) others)) found ∙ ap (λ v. or_without o l (mended_on i v others)) (sym list) in
    let puts : set_aside_on i t (drop at ls) ≡ or_with o l (set_aside_on i u others) =
    ap (set_aside_on i t) rest ∙ ap (λ p. or_with p l (set_aside_on i (after_try p t l) others)) found ∙ ap (λ v. or_with o l (set_aside_on i v others)) (sym list) in
    record {
      same = same ∙ was.same;
      left_is = ap (λ (ms : List Placed). ms ++ mended_on i u others) left_is ∙ left_more o l left (mended_on i u others)
          ∙ ap (λ (ms : List Placed). left ++ ms) (sym leaves) ∙ was.left_is;
      aside_is = ap (λ (bs : List ℕ). bs ++ aside_text i (set_aside_on i u others)) said_is ∙ aside_more i o l said (set_aside_on i u others)
          ∙ ap (λ (others : List Aside). said ++ aside_text i others) (sym puts) ∙ was.aside_is;
    }

-- ---- what remains is a part of the list

module _ (i : Problem) where
  each_left : (P : Placed → Type 0) (t ls : List Placed) → Each P ls → Each P (mended_on i t ls)
  each_left P t [] each = tt
  each_left P t (l ∷ ls) each = one (fault_on i t l) (each_left P (after_try (fault_on i t l) t l) ls each.1)
    where
      one : (o : Option EditFault) → Each P (mended_on i (after_try (fault_on i t l) t l) ls) → Each P (or_without o l (mended_on i (after_try (fault_on i t l) t l) ls))
      one None later = (each.0, later)
      one (Some f) later = later

  ascending_left : (t ls : List Placed) → Ascending ls → Ascending (mended_on i t ls)
  ascending_left t [] up = tt
  ascending_left t (l ∷ ls) up = one (fault_on i t l) (each_left (λ b. before l b ≡ true) u ls up.0) (ascending_left u ls up.1)
    where
      u : List Placed
      u = after_try (fault_on i t l) t l

      one : (o : Option EditFault) → Each (λ b. before l b ≡ true) (mended_on i u ls) → Ascending (mended_on i u ls) → Ascending (or_without o l (mended_on i u ls))
      one None first later = (first, later)
      one (Some f) first later = later

  pub mended_timetable : (ls : List Placed) → IsTimetable i ls → IsTimetable i (mended i ls)
  mended_timetable ls is = record { ascending = ascending_left [] ls is.ascending; fits = each_left (Fits i) [] ls is.fits }

  -- ---- a desk opens with what remains

  -- the lectures of t are before each of these
  abbrev AllBefore : List Placed → List Placed → Type 0
  AllBefore t ls = Each (λ l. Each (λ m. before m l ≡ true) t) ls

  none_yet : (ls : List Placed) → AllBefore [] ls
  none_yet [] = tt
  none_yet (l ∷ ls) = (tt, none_yet ls)

  one_further : (t : List Placed) (l : Placed) (ls : List Placed) → Each (λ k. before l k ≡ true) ls → AllBefore t ls → AllBefore (t ++ l ∷ []) ls
  one_further t l [] first all = tt
  one_further t l (k ∷ ls) first all = (Each-append (λ m. before m k ≡ true) t (l ∷ []) all.0 (first.0, tt), one_further t l ls first.1 all.1)

  one_opens : (t : List Placed) (n : ℕ) (l : Placed) (ls : List Placed) (o : Option EditFault) → fault_on i t l ≡ o → edited t (Place l.course l.slot l.room) ≡ t ++ l ∷ []
      → placed_on i t n (mended_on i t ls) ≡ Ok (t ++ mended_on i t ls)
      → placed_on i (t ++ l ∷ []) (n + 1) (mended_on i (t ++ l ∷ []) ls) ≡ Ok ((t ++ l ∷ []) ++ mended_on i (t ++ l ∷ []) ls)
      → placed_on i t n (or_without o l (mended_on i (after_try o t l) ls)) ≡ Ok (t ++ or_without o l (mended_on i (after_try o t l) ls))
  one_opens t n l ls (Some f) is last skipped next = skipped
  one_opens t n l ls None is last skipped next =
      let u : List Placed = edited t (Place l.course l.slot l.room) in
      let opens : placed_on i u (n + 1) (mended_on i u ls) ≡ Ok (u ++ mended_on i u ls) = subst (λ (v : List Placed). placed_on i v (n + 1) (mended_on i v ls) ≡ Ok (v ++ mended_on i v ls)) (sym last) next in
      ap (λ o. or_rest o n (placed_on i u (n + 1) (mended_on i u ls))) is ∙ opens
      ∙ ap (λ (v : List Placed). Ok (v ++ mended_on i u ls)) last ∙ ap Ok (append_assoc t (l ∷ []) (mended_on i u ls))

  opens : (t : List Placed) (n : ℕ) (ls : List Placed) → Ascending ls → AllBefore t ls → placed_on i t n (mended_on i t ls) ≡ Ok (t ++ mended_on i t ls)
  opens t n [] up all = ap Ok (sym (append-nil t))
  opens t n (l ∷ ls) up all = one_opens t n l ls (fault_on i t l) refl (with_last t l all.0) (opens t n ls up.1 all.1)
      (opens (t ++ l ∷ []) (n + 1) ls up.1 (one_further t l ls up.0 all.1))

  -- ---- all remains of what opens a desk

  one_kept : (u : List Placed) (n : ℕ) (l : Placed) (ls : List Placed) (o : Option EditFault) (others : Result (List Placed) (ℕ × EditFault)) (A : Option EditFault → List Aside) (M : Option EditFault → List Placed)
      → (others ≡ Ok u → (A None ≡ []) × (M None ≡ ls)) → or_rest o n others ≡ Ok u → (or_with o l (A o) ≡ []) × (or_without o l (M o) ≡ l ∷ ls)
  one_kept u n l ls None others A M next e = ((next e).0, ap (λ (ms : List Placed). l ∷ ms) (next e).1)
  one_kept u n l ls (Some f) others A M next e = cc

  all_kept : (t u : List Placed) (n : ℕ) (ls : List Placed) → placed_on i t n ls ≡ Ok u → (set_aside_on i t ls ≡ []) × (mended_on i t ls ≡ ls)
  all_kept t u n [] e = (refl, refl)
  all_kept t u n (l ∷ ls) e = one_kept u n l ls (fault_on i t l) (placed_on i (edited t (Place l.course l.slot l.room)) (n + 1) ls)
      (λ o. set_aside_on i (after_try o t l) ls) (λ o. mended_on i (after_try o t l) ls)
      (λ later. all_kept (edited t (Place l.course l.slot l.room)) u (n + 1) ls later) e

pub mended_opens : MendedOpens
mended_opens i ls is = opens i [] 1 ls is.ascending (none_yet i ls)

pub none_is_set_aside : NoneIsSetAside
none_is_set_aside i ls t e = all_kept i [] t 1 ls e
