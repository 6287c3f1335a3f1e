-- Parsing a journal step by step.
use Rattle.std.proofs.Common.{◌≡◌, ℕ, ◌+◌, List, [], ◌∷◌, ◌++◌, Bool, true, false, cond, Option, Some, None, Result, Ok, Err, ℤ, pos, refl, ◌∙◌, ap}
use Rattle.std.specs.Prelude.{◌&&◌, codes, nat_lt}
use Rattle.ctt_text.specs.Left.{Left}
use Rattle.ctt_text.specs.Forms.{Form, done, ◌>>=◌, one_more, read}
use Rattle.ctt_text.specs.Numbers.{is_number, value}
use Rattle.ctt_text.specs.Places.{one, known, known_name, number, broken_unless, meant}
use Rattle.ctt_problem.specs.Problem.{Problem, number_in}
use Rattle.ctt_edits.specs.declared.offer.Offer.{Offer}
use Rattle.ctt_edits.specs.declared.offer.Offer.TheVariants.{Priced, Refused, Nothing}
use Rattle.ctt_edits.specs.declared.priced_edit.PricedEdit.{PricedEdit}
use Rattle.ctt_text.specs.Reading.{reading, word_at}
use Rattle.ctt_text.proofs.Steps.{and_then, judged, told_as}
use Rattle.ctt_text.proofs.Steps as steps
use Rattle.ctt_script.specs.declared.journal_fault.JournalFault.{JournalFault}
use Rattle.ctt_script.specs.declared.journal_fault.JournalFault.TheVariants.{BadWord}
use Rattle.ctt_script.specs.declared.kinds.FaultKind.{FaultKind}
use Rattle.ctt_script.specs.Amounts.{number_below, price_of}
use Rattle.ctt_script.specs.Kinds.{fault_kind}
use Rattle.ctt_script.specs.Calls.{edit_form}
use Rattle.ctt_script.specs.Replies.{fault_after, priced_form, refusal_after, refusal, offer_after, offer_form}
use Rattle.ctt_script.specs.JournalWords.{word, mark_or, name, missing_word}

pub read_word : {A : Type 0} (meaning : List ℕ → Option A) (otherwise : A) (left : Left)
    → reading missing_word (word meaning otherwise) left ≡ and_then (word_at missing_word left) (λ w after. told_as BadWord (meaning w) left.next after)
read_word meaning otherwise left = steps.read_known missing_word BadWord meaning otherwise left

-- a number below a limit, by what was parsed as a number
pub read_below : (limit : ℕ) (left : Left)
    → reading missing_word (word (number_below limit) 0) left ≡ and_then (reading missing_word (number BadWord) left) (λ n after. judged (cond (nat_lt n limit) None (Some BadWord)) left.next n after)
unfolding read number known one
read_below limit left = by left.words left.next
  where
    by : (words : List (List ℕ)) (n : ℕ) → read missing_word (word (number_below limit) 0) words n ≡ and_then (read missing_word (number BadWord) words n) (λ m after. judged (cond (nat_lt m limit) None (Some BadWord)) n m after)
    by [] n = refl
    by (w ∷ ws) n = at (is_number w)
      where
        below : (b : Bool) → elim (broken_unless BadWord (cond {A = Option ℕ} b (Some (value w)) None)) [ None ↦ Ok (meant 0 (cond {A = Option ℕ} b (Some (value w)) None), record { words = ws; next = n + 1 }) | Some broken ↦ Err (broken n) ]
            ≡ judged (cond b None (Some BadWord)) n (value w) (record { words = ws; next = n + 1 })
        below true = refl
        below false = refl

        at : (a : Bool) → elim (broken_unless BadWord (cond {A = Option ℕ} (a && nat_lt (value w) limit) (Some (value w)) None)) [ None ↦ Ok (meant 0 (cond {A = Option ℕ} (a && nat_lt (value w) limit) (Some (value w)) None), record { words = ws; next = n + 1 }) | Some broken ↦ Err (broken n) ]
            ≡ and_then (elim (broken_unless BadWord (cond {A = Option ℕ} a (Some (value w)) None)) [ None ↦ Ok (meant 0 (cond {A = Option ℕ} a (Some (value w)) None), record { words = ws; next = n + 1 }) | Some broken ↦ Err (broken n) ]) (λ m after. judged (cond (nat_lt m limit) None (Some BadWord)) n m after)
        at true = below (nat_lt (value w) limit)
        at false = refl

pub read_name : (names : List (List ℕ)) (left : Left) → reading missing_word (name names) left ≡ and_then (word_at missing_word left) (λ w after. told_as BadWord (number_in names w) left.next after)
unfolding known_name
read_name names left = read_word (number_in names) 0 left

pub read_bind : {A B : Type 0} (form : Form JournalFault A) (g : A → Form JournalFault B) (left : Left) → reading missing_word (form >>= g) left ≡ and_then (reading missing_word form left) (λ a after. reading missing_word (g a) after)
read_bind form g left = steps.read_bind missing_word form g left

pub read_done : {A : Type 0} (a : A) (left : Left) → reading missing_word (done a) left ≡ Ok (a, left)
read_done a left = steps.read_done missing_word a left

-- steps in a row
pub ruleset row = (read_bind, read_done)

-- one more item after the earlier ones
pub read_one_more : {A : Type 0} (form : Form JournalFault A) (so_far : List A) (left : Left) → reading missing_word (one_more form so_far) left ≡ and_then (reading missing_word form left) (λ a after. Ok (so_far ++ a ∷ [], after))
unfolding one_more read
read_one_more form so_far left = read_bind form (λ a. done (so_far ++ a ∷ [])) left

-- a step after two others, and steps that are the same
nested : {A B C : Type 0} (x : Result (A × Left) JournalFault) (f : A → Left → Result (B × Left) JournalFault) (g : B → Left → Result (C × Left) JournalFault) → and_then (and_then x f) g ≡ and_then x (λ a l. and_then (f a l) g)
nested (Ok a) f g = refl
nested (Err e) f g = refl

same_then : {A B : Type 0} (x : Result (A × Left) JournalFault) (f g : A → Left → Result (B × Left) JournalFault) → ((a : A) (l : Left) → f a l ≡ g a l) → and_then x f ≡ and_then x g
same_then (Ok a) f g h = h a.0 a.1
same_then (Err e) f g h = refl

-- a price and its edit, after the earlier ones
pub read_one_priced : (i : Problem) (so_far : List PricedEdit) (left : Left)
    → reading missing_word (one_more (priced_form i) so_far) left ≡ and_then (reading missing_word (word price_of (pos 0)) left) (λ p after. and_then (reading missing_word (edit_form i) after) (λ e last. Ok (so_far ++ record { edit = e; price = p } ∷ [], last)))
unfolding priced_form
read_one_priced i so_far left =
    read_one_more (priced_form i) so_far left
    ∙ ap (λ q. and_then q (λ a after. Ok (so_far ++ a ∷ [], after))) (read_bind (word price_of (pos 0)) (λ p. edit_form i >>= λ e. done (record { edit = e; price = p })) left)
    ∙ nested (reading missing_word (word price_of (pos 0)) left) _ _
    ∙ same_then (reading missing_word (word price_of (pos 0)) left) _ _ (λ p after.
    ap (λ q. and_then q (λ a rest. Ok (so_far ++ a ∷ [], rest))) (read_bind (edit_form i) (λ e. done (record { edit = e; price = p })) after)
    ∙ nested (reading missing_word (edit_form i) after) _ _
    ∙ same_then (reading missing_word (edit_form i) after) _ _ (λ e last. ap (λ q. and_then q (λ a rest. Ok (so_far ++ a ∷ [], rest))) (read_done (record { edit = e; price = p }) last)))

-- a fault or `none`, and what a slot offers, after the earlier offers
abbrev refusal_then : Problem → List Offer → Option FaultKind → Left → Result (List Offer × Left) JournalFault
refusal_then i so_far None after = Ok (so_far ++ Nothing ∷ [], after)
refusal_then i so_far (Some kind) after = and_then (reading missing_word (fault_after i kind) after) (λ f last. Ok (so_far ++ Refused f ∷ [], last))

abbrev offer_then : Problem → List Offer → Option ℤ → Left → Result (List Offer × Left) JournalFault
offer_then i so_far None after = and_then (reading missing_word (word (mark_or (codes "none") fault_kind) None) after) (refusal_then i so_far)
offer_then i so_far (Some p) after = and_then (reading missing_word (edit_form i) after) (λ e last. Ok (so_far ++ Priced (record { edit = e; price = p }) ∷ [], last))

-- a form whose value is turned into an offer
turned : {A : Type 0} (form : Form JournalFault A) (turn : A → Offer) (so_far : List Offer) (left : Left)
    → and_then (reading missing_word (form >>= λ a. done (turn a)) left) (λ x last. Ok (so_far ++ x ∷ [], last)) ≡ and_then (reading missing_word form left) (λ a last. Ok (so_far ++ turn a ∷ [], last))
turned form turn so_far left =
    ap (λ q. and_then q (λ x last. Ok (so_far ++ x ∷ [], last))) (read_bind form (λ a. done (turn a)) left)
    ∙ nested (reading missing_word form left) _ _
    ∙ same_then (reading missing_word form left) _ _ (λ a after. ap (λ q. and_then q (λ x last. Ok (so_far ++ x ∷ [], last))) (read_done (turn a) after))

refusal_is : (i : Problem) (so_far : List Offer) (k : Option FaultKind) (left : Left)
    → and_then (reading missing_word (refusal_after i k) left) (λ x last. Ok (so_far ++ x ∷ [], last)) ≡ refusal_then i so_far k left
unfolding refusal_after
refusal_is i so_far None left = ap (λ q. and_then q (λ x last. Ok (so_far ++ x ∷ [], last))) (read_done Nothing left)
refusal_is i so_far (Some kind) left = turned (fault_after i kind) Refused so_far left

offer_is : (i : Problem) (so_far : List Offer) (o : Option ℤ) (left : Left)
    → and_then (reading missing_word (offer_after i o) left) (λ x last. Ok (so_far ++ x ∷ [], last)) ≡ offer_then i so_far o left
unfolding offer_after refusal
offer_is i so_far None left =
    ap (λ q. and_then q (λ x last. Ok (so_far ++ x ∷ [], last))) (read_bind (word (mark_or (codes "none") fault_kind) None) (refusal_after i) left)
    ∙ nested (reading missing_word (word (mark_or (codes "none") fault_kind) None) left) _ _
    ∙ same_then (reading missing_word (word (mark_or (codes "none") fault_kind) None) left) _ _ (λ k after. refusal_is i so_far k after)
offer_is i so_far (Some p) left = turned (edit_form i) (λ e. Priced (record { edit = e; price = p })) so_far left

-- what a slot offers, after the earlier offers
pub read_one_offer : (i : Problem) (so_far : List Offer) (left : Left)
    → reading missing_word (one_more (offer_form i) so_far) left ≡ and_then (reading missing_word (word (mark_or (codes "-") price_of) None) left) (offer_then i so_far)
unfolding offer_form
read_one_offer i so_far left =
    read_one_more (offer_form i) so_far left
    ∙ ap (λ q. and_then q (λ a after. Ok (so_far ++ a ∷ [], after))) (read_bind (word (mark_or (codes "-") price_of) None) (offer_after i) left)
    ∙ nested (reading missing_word (word (mark_or (codes "-") price_of) None) left) _ _
    ∙ same_then (reading missing_word (word (mark_or (codes "-") price_of) None) left) _ _ (λ o after. offer_is i so_far o after)
