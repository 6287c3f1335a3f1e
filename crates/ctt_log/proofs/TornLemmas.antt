-- Where what is torn begins, and minutes that are cut there.
use Rattle.std.proofs.Common.{◌≡◌, ◌∙◌, ◌≤◌, ◌-◌, ◌+◌, ◌⊎◌, inl, inr, ℕ, false, List, [], ◌∷◌, ◌++◌, Option, Some, None, Ok, append-nil, append_assoc, ap, arith, drop, is_some, length, refl, subst, sym, take, take-append-drop}
use Rattle.std.proofs.lemmas.List.{length-append, take-append-le, take_all}
use Rattle.ctt_text.specs.Forms.{Form, read}
use Rattle.ctt_text.specs.Left.{Left}
use Rattle.ctt_text.specs.Words.{words}
use Rattle.ctt_text.proofs.FormLaws.{fills_read, read_fills}
use Rattle.ctt_problem.specs.Problem.{Problem}
use Rattle.ctt_core.specs.declared.journal.JournalEntry.{JournalEntry}
use Rattle.ctt_script.specs.Journals.{entry_form}
use Rattle.ctt_script.specs.JournalWords.{missing_word}
use Rattle.ctt_log.specs.Blocks.{AreBlocks}
use Rattle.ctt_log.specs.Recovery.{AreEntries, CutLosesNothing, EndsLine, IsRecovered, IsStop, IsTail, IsTornAfter, SharesLine}
use Rattle.ctt_log.proofs.RecoveryLemmas.{lines_apart}

-- ---- what blocks take of the words

-- the words of blocks, which are the same blocks whatever follows them
pub record AreOf {F A : Type 0} (missing : ℕ → F) (form : Form F A) (left rest : Left) (xs : List A) : Type 0 where
  pub front : List (List ℕ)
  pub all : left.words ≡ front ++ rest.words
  pub next : rest.next ≡ left.next + length front
  pub alone : (more : List (List ℕ)) → AreBlocks missing form (record { words = front ++ more; next = left.next }) xs (record { words = more; next = rest.next })

pub blocks_front : {F A : Type 0} (missing : ℕ → F) (form : Form F A) (left rest : Left) (xs : List A) → AreBlocks missing form left xs rest → AreOf missing form left rest xs
blocks_front missing form left rest [] is = record {
  front = [];
  all = ap (λ (l : Left). l.words) is;
  next = (let same : left.next ≡ rest.next = ap (λ (l : Left). l.next) is in omega (arith, same));
  alone = λ more. ap (λ n. record { words = more; next = n }) (ap (λ (l : Left). l.next) is);
}
blocks_front missing form left rest (a ∷ xs) is =
    let r = read_fills missing form left.words left.next (a, is.0) is.1 in
    let o = blocks_front missing form is.0 rest xs is.2 in
    let long = length-append r.front o.front in
    record {
      front = r.front ++ o.front;
      all = r.all ∙ ap (λ ws. r.front ++ ws) o.all ∙ sym (append_assoc r.front o.front rest.words);
      next = omega (arith, r.next, o.next, long);
      alone = λ more. (
        record { words = o.front ++ more; next = is.0.next },
        ap (λ ws. read missing form ws left.next) (append_assoc r.front o.front more)
            ∙ fills_read missing form r.front (o.front ++ more) left.next a r.fills
            ∙ ap (λ n. Ok (a, record { words = o.front ++ more; next = n })) (sym r.next),
        o.alone more,
      );
    }

-- two fronts of one list are the same if they are as long
fronts : {X : Type 0} (xs ys us vs : List X) → length xs ≡ length us → xs ++ ys ≡ us ++ vs → xs ≡ us
fronts [] ys [] vs long is = refl
fronts [] ys (u ∷ us) vs long is = absurd (omega (arith, long))
fronts (x ∷ xs) ys [] vs long is = absurd (omega (arith, long))
fronts (x ∷ xs) ys (u ∷ us) vs long is =
    let same : x ≡ u = cc in
    let rest : xs ++ ys ≡ us ++ vs = cc in
    let shorter : length xs ≡ length us = omega (arith, long) in
    let more = fronts xs ys us vs shorter rest in
    cc

-- ---- lines that have the words of the entries alone

pub cut_lines : (i : Problem) (lines : List ℕ) (entries : List JournalEntry) (rest : Left) (at : ℕ) → AreEntries i (record { words = words lines; next = 1 }) entries rest
    → EndsLine (take at lines) → length (words (take at lines)) ≡ rest.next - 1 → IsRecovered i (take at lines) entries false
cut_lines i lines entries rest at are ends long =
    let o = blocks_front missing_word (entry_form i) (record { words = words lines; next = 1 }) rest entries are in
    let apart : words lines ≡ words (take at lines) ++ words (drop at lines) = sym (ap words (take-append-drop at lines)) ∙ lines_apart (take at lines) (drop at lines) ends in
    let next = o.next in
    let size : length o.front ≡ length (words (take at lines)) = omega (arith, next, long) in
    let same : o.front ≡ words (take at lines) = fronts o.front rest.words (words (take at lines)) (words (drop at lines)) size (sym o.all ∙ apart) in
    record {
      lines = take at lines;
      tail = [];
      all = sym (append-nil (take at lines));
      ends = ends;
      unended = tt;
      lacks = false;
      reads_them = record {
        rest = record { words = []; next = rest.next };
        reads_them = subst (λ ws. AreEntries i (record { words = ws; next = 1 }) entries (record { words = []; next = rest.next })) (append-nil o.front ∙ same) (o.alone []);
        stops = refl;
      };
      torn_is = refl;
    }

pub stop_tail : (i : Problem) (rest : Left) (lacks : Option ℕ) → IsStop i rest lacks → IsTail i rest (is_some lacks)
stop_tail i rest None is = is
stop_tail i rest (Some n) is = is.0

all_lines : (i : Problem) (lines : List ℕ) (entries : List JournalEntry) (rest : Left) → EndsLine lines → AreEntries i (record { words = words lines; next = 1 }) entries rest → rest.words ≡ [] → IsRecovered i lines entries false
all_lines i lines entries rest ends are none = record {
  lines = lines;
  tail = [];
  all = sym (append-nil lines);
  ends = ends;
  unended = tt;
  lacks = false;
  reads_them = record { rest = rest; reads_them = are; stops = none };
  torn_is = refl;
}

-- cutting in whole lines; the byte is in them
torn_within : (i : Problem) (lines : List ℕ) (entries : List JournalEntry) (rest : Left) (at : ℕ) (lacks : Option ℕ) → EndsLine lines → AreEntries i (record { words = words lines; next = 1 }) entries rest → IsStop i rest lacks → IsTornAfter lines lacks at
    → ((at ≤ length lines) × IsRecovered i (take at lines) entries false) ⊎ SharesLine lines at
torn_within i lines entries rest at None ends are stops torn =
    let whole : take at lines ≡ lines = take_all at lines (omega (arith, torn)) in
    inl (omega (arith, torn), subst (λ ls. IsRecovered i ls entries false) (sym whole) (all_lines i lines entries rest ends are stops))
torn_within i lines entries rest at (Some n) ends are stops (inl torn) =
    let next : rest.next ≡ n = stops.1 in
    let has : length (words (take at lines)) ≡ n - 1 = torn.1 in
    inl (torn.0.within, cut_lines i lines entries rest at are torn.0.ends (omega (arith, has, next)))
torn_within i lines entries rest at (Some n) ends are stops (inr torn) = inr (n, torn.1.0, torn.0, torn.1.1, torn.1.2)

pub cut_loses_nothing : CutLosesNothing
cut_loses_nothing i text entries at is =
    let t = is.torn in
    by (torn_within i is.lines entries t.rest at t.lacks is.ends t.reads_them t.stops t.torn)
  where
    by : ((at ≤ length is.lines) × IsRecovered i (take at is.lines) entries false) ⊎ SharesLine is.lines at → IsRecovered i (take at text) entries false ⊎ SharesLine is.lines at
    by (inl kept) = inl (subst (λ t. IsRecovered i t entries false) (sym (ap (take at) is.all ∙ take-append-le at is.lines is.tail kept.0)) kept.1)
    by (inr shares) = inr shares
