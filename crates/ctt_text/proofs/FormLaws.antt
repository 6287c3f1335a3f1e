-- Any form: what is parsed fills it, and a fault of parsing breaks it at one place.
use Rattle.std.proofs.Common.{◌≡◌, ◌⊎◌, inl, inr, ℕ, zero, suc, ◌+◌, List, [], ◌∷◌, ◌++◌, length, flat_map, Option, Some, None, Result, Ok, Err, refl, sym, ap, subst, ◌∙◌, append_assoc, arith}
use Rattle.std.specs.List.{AllByRecursion as Each}
use Rattle.std.proofs.lemmas.List.{append-nil, length-append}
use Rattle.ctt_text.specs.Left.{Left}
use Rattle.ctt_text.specs.Forms.{Rule, Form, done, place, ◌>>=◌, times, one_more, list_of, Fills, StandsAfter, Breaks, BreaksAt, read, without_rest}
use Rattle.ctt_problem.proofs.TimetableLemmas.{Each-append}
use Rattle.ctt_problem.proofs.ResultLemmas.{ok_is_err, err_is_ok, ok_same, err_same}

-- what fills one form and then the following form fills both
pub fills_both : {F A B : Type 0} (f : Form F A) (g : A → Form F B) (us vs : List (List ℕ)) (a : A) (b : B) → Fills f us a → Fills (g a) vs b → Fills (f >>= g) (us ++ vs) b
unfolding ◌>>=◌
fills_both (done x) g [] vs a b h k = subst (λ q. Fills (g q) vs b) (sym h) k
fills_both (done x) g (u ∷ us) vs a b h k = absurd h
fills_both (place rule next) g [] vs a b h k = absurd h
fills_both (place rule next) g (u ∷ us) vs a b h k = (h.0, fills_both (next u) g us vs a b h.1 k)

-- what fills two forms in sequence has two parts, each of which fills its form
pub bind_case : {F A B : Type 0} (C : Type 0) (f : Form F A) (g : A → Form F B) (words : List (List ℕ)) (b : B) → Fills (f >>= g) words b
    → ((us vs : List (List ℕ)) (a : A) → Fills f us a → Fills (g a) vs b → words ≡ us ++ vs → C) → C
unfolding ◌>>=◌
bind_case C (done x) g words b h then = then [] words x refl h refl
bind_case C (place rule next) g [] b h then = absurd h
bind_case C (place rule next) g (w ∷ ws) b h then = bind_case C (next w) g ws b h.1 (λ us vs a p q e. then (w ∷ us) vs a (h.0, p) q (ap (λ r. w ∷ r) e))

-- a form that is done is filled only by no words
pub done_taken : (F : Type 0) {A : Type 0} (x a : A) (words : List (List ℕ)) → Fills {F = F} (done x) words a → (words ≡ []) × (x ≡ a)
done_taken F x a [] h = (refl, h)
done_taken F x a (w ∷ ws) h = absurd h

-- the parsed words, which fill the form
pub record IsRead {F A : Type 0} (form : Form F A) (words : List (List ℕ)) (n : ℕ) (x : A × Left) : Type 0 where
  pub front : List (List ℕ)
  pub all : words ≡ front ++ x.1.words
  pub next : x.1.next ≡ n + length front
  pub fills : Fills form front x.0

-- a word obeys the rule of its place or breaks it
pub read_case : {F X : Type 0} (C : Type 0) (o : Option (ℕ → F)) (n : ℕ) (rest r : Result X F) → elim o [ None ↦ rest | Some broken ↦ Err (broken n) ] ≡ r
    → (o ≡ None → rest ≡ r → C) → ((broken : ℕ → F) → o ≡ Some broken → Err (broken n) ≡ r → C) → C
read_case C None n rest r h obeyed broke = obeyed refl h
read_case C (Some broken) n rest r h obeyed broke = broke broken refl h

-- the number of a word, counted from the previous one
pub one_later : (n k : ℕ) → n + 1 + k ≡ n + suc k
one_later n k = omega arith

-- the number of the first word
pub at_once : (n : ℕ) → n ≡ n + 0
at_once n = omega arith

-- what is parsed fills the form
pub read_fills : {F A : Type 0} (missing : ℕ → F) (form : Form F A) (words : List (List ℕ)) (n : ℕ) (x : A × Left) → read missing form words n ≡ Ok x → IsRead form words n x
unfolding read
read_fills {F} {A} missing (done a) words n x h =
    let same : (a, record { words = words; next = n }) ≡ x = ok_same _ x h in
    subst (λ q. IsRead {F = F} (done a) words n q) same (record { front = []; all = refl; next = at_once n; fills = refl })
read_fills missing (place rule next) [] n x h = err_is_ok _ x _ h
read_fills missing (place rule next) (w ∷ ws) n x h = read_case (IsRead (place rule next) (w ∷ ws) n x) (rule w) n (read missing (next w) ws (n + 1)) (Ok x) h
    (λ obeyed rest.
    let r = read_fills missing (next w) ws (n + 1) x rest in
    record { front = w ∷ r.front; all = ap (λ q. w ∷ q) r.all; next = r.next ∙ one_later n (length r.front); fills = (obeyed, r.fills) })
    (λ broken is e. err_is_ok _ x _ e)

-- what fills the form is parsed, whatever follows it
pub fills_read : {F A : Type 0} (missing : ℕ → F) (form : Form F A) (front rest : List (List ℕ)) (n : ℕ) (a : A) → Fills form front a
    → read missing form (front ++ rest) n ≡ Ok (a, record { words = rest; next = n + length front })
unfolding read
fills_read missing (done x) [] rest n a h = rw h (ap (λ m. Ok (a, record { words = rest; next = m })) (at_once n))
fills_read missing (done x) (w ∷ ws) rest n a h = absurd h
fills_read missing (place rule next) [] rest n a h = absurd h
fills_read missing (place rule next) (w ∷ ws) rest n a h = rw h.0 (fills_read missing (next w) ws rest (n + 1) a h.1 ∙ ap (λ m. Ok (a, record { words = rest; next = m })) (one_later n (length ws)))

-- the place of a fault of parsing, from word n on
pub record IsBroken {F A : Type 0} (missing : ℕ → F) (form : Form F A) (words : List (List ℕ)) (n : ℕ) (fault : F) : Type 0 where
  pub before : List (List ℕ)
  pub from : List (List ℕ)
  pub all : words ≡ before ++ from
  pub rule : Rule F
  pub obey : StandsAfter form before rule
  pub breaks : Breaks missing rule from (n + length before) fault

-- a fault of parsing is that of a place that the words break
pub read_breaks : {F A : Type 0} (missing : ℕ → F) (form : Form F A) (words : List (List ℕ)) (n : ℕ) (e : F) → read missing form words n ≡ Err e → IsBroken missing form words n e
unfolding read
read_breaks missing (done a) words n e h = ok_is_err _ _ e h
read_breaks missing (place rule next) [] n e h = record { before = []; from = []; all = refl; rule = rule; obey = refl; breaks = ap missing (sym (at_once n)) ∙ err_same _ e h }
read_breaks missing (place rule next) (w ∷ ws) n e h = read_case (IsBroken missing (place rule next) (w ∷ ws) n e) (rule w) n (read missing (next w) ws (n + 1)) (Err e) h
    (λ obeyed rest.
    let r = read_breaks missing (next w) ws (n + 1) e rest in
    record { before = w ∷ r.before; from = r.from; all = ap (λ q. w ∷ q) r.all; rule = r.rule; obey = (obeyed, r.obey); breaks = subst (λ k. Breaks missing r.rule r.from k e) (one_later n (length r.before)) r.breaks })
    (λ broken is same. record { before = []; from = w ∷ ws; all = refl; rule = rule; obey = refl; breaks = (broken, is, ap broken (sym (at_once n)) ∙ err_same _ e same) })

-- parsing gives the fault of a place that the words break
pub breaks_read : {F A : Type 0} (missing : ℕ → F) (form : Form F A) (before from : List (List ℕ)) (n : ℕ) (e : F) (rule : Rule F) → StandsAfter form before rule → Breaks missing rule from (n + length before) e
    → read missing form (before ++ from) n ≡ Err e
unfolding read
breaks_read missing (done a) before from n e r h k = absurd h
breaks_read missing (place rule next) [] [] n e r h k = ap (λ q. Err q) (ap missing (at_once n) ∙ k)
breaks_read missing (place rule next) [] (w ∷ ws) n e r h k =
    let is : rule w ≡ Some k.0 = ap (λ q. q w) h ∙ k.1 in
    rw is (ap (λ q. Err q) (ap k.0 (at_once n) ∙ k.2))
breaks_read missing (place rule next) (w ∷ before) from n e r h k =
    rw h.0 (breaks_read missing (next w) before from (n + 1) e r h.1 (subst (λ m. Breaks missing r from m e) (sym (one_later n (length before))) k))

-- a rule that was obeyed was not broken
none_is_some : {X : Type 0} (C : Type 0) (o : Option X) (x : X) → o ≡ None → o ≡ Some x → C
none_is_some C None x h k = cc
none_is_some C (Some y) x h k = cc

-- equal lists have equal heads and tails, and a list with a head is not empty
cons_head : {X : Type 0} (x y : X) (xs ys : List X) → x ∷ xs ≡ y ∷ ys → x ≡ y
cons_head x y xs ys h = cc

cons_tail : {X : Type 0} (x y : X) (xs ys : List X) → x ∷ xs ≡ y ∷ ys → xs ≡ ys
cons_tail x y xs ys h = cc

cons_nil : {X : Type 0} (C : Type 0) (x : X) (xs : List X) → x ∷ xs ≡ [] → C
cons_nil C x xs h = cc

-- two places that the words break come after equally many words
places_meet : {F A : Type 0} (missing : ℕ → F) (form : Form F A) (before from before' from' : List (List ℕ)) (k k' : ℕ) (e e' : F) (r r' : Rule F)
    → before ++ from ≡ before' ++ from' → StandsAfter form before r → Breaks missing r from k e → StandsAfter form before' r' → Breaks missing r' from' k' e' → length before ≡ length before'
places_meet missing (done x) b f b' f' k k' e e' r r' same h p h' p' = absurd h
places_meet missing (place rule next) [] f [] f' k k' e e' r r' same h p h' p' = refl
places_meet missing (place rule next) [] [] (w ∷ b') f' k k' e e' r r' same h p h' p' = cons_nil _ _ _ (sym same)
places_meet missing (place rule next) [] (v ∷ f) (w ∷ b') f' k k' e e' r r' same h p h' p' =
    none_is_some _ (rule w) p.0 h'.0 (ap (λ q. q w) h ∙ ap r (sym (cons_head v w f (b' ++ f') same)) ∙ p.1)
places_meet missing (place rule next) (w ∷ b) f [] [] k k' e e' r r' same h p h' p' = cons_nil _ _ _ same
places_meet missing (place rule next) (w ∷ b) f [] (v ∷ f') k k' e e' r r' same h p h' p' =
    none_is_some _ (rule w) p'.0 h.0 (ap (λ q. q w) h' ∙ ap r' (cons_head w v (b ++ f) f' same) ∙ p'.1)
places_meet missing (place rule next) (w ∷ b) f (v ∷ b') f' k k' e e' r r' same h p h' p' =
    let head = cons_head w v (b ++ f) (b' ++ f') same in
    ap suc (places_meet missing (next w) b f b' f' k k' e e' r r' (cons_tail w v (b ++ f) (b' ++ f') same) h.1 p (subst (λ q. StandsAfter (next q) b' r') (sym head) h'.1) p')

-- the result of parsing a whole text
module _ {F A : Type 0} (missing : ℕ → F) (form : Form F A) where
  -- a result comes with some remaining words, and a fault is unchanged
  with_rest : (C : Type 0) (r : Result (A × Left) F) (a : A) → without_rest r ≡ Ok a → ((left : Left) → r ≡ Ok (a, left) → C) → C
  with_rest C (Ok x) a h then = then x.1 (ap (λ q. Ok (q, x.1)) (ok_same x.0 a h))
  with_rest C (Err e) a h then = err_is_ok C a e h

  same_fault : (r : Result (A × Left) F) (e : F) → without_rest r ≡ Err e → r ≡ Err e
  same_fault (Ok x) e h = ok_is_err _ x.0 e h
  same_fault (Err d) e h = ap (λ q. Err q) (err_same d e h)

  -- if there is a result, a prefix of the words fills the form with it
  pub answer_fills : (words : List (List ℕ)) (a : A) → without_rest (read missing form words 1) ≡ Ok a → (front : List (List ℕ)) × (rest : List (List ℕ)) × (words ≡ front ++ rest) × Fills form front a
  answer_fills words a h = with_rest _ (read missing form words 1) a h (λ left e.
      let r = read_fills missing form words 1 (a, left) e in
      (r.front, left.words, r.all, r.fills))

  -- if a prefix of the words fills the form with a value, it is the result
  pub fills_answer : (front rest : List (List ℕ)) (a : A) → Fills form front a → without_rest (read missing form (front ++ rest) 1) ≡ Ok a
  fills_answer front rest a h = ap (λ r. without_rest r) (fills_read missing form front rest 1 a h)

  -- a fault is that of a place that the words break
  pub answer_breaks : (words : List (List ℕ)) (e : F) → without_rest (read missing form words 1) ≡ Err e → (k : ℕ) × BreaksAt missing form words k e
  answer_breaks words e h =
      let b = read_breaks missing form words 1 e (same_fault (read missing form words 1) e h) in
      (1 + length b.before, record { before = b.before; from = b.from; all = b.all; number = omega arith; rule = b.rule; obey = b.obey; breaks = b.breaks })

  -- the fault of a place that the words break is the result
  pub breaks_answer : (words : List (List ℕ)) (k : ℕ) (e : F) → BreaksAt missing form words k e → without_rest (read missing form words 1) ≡ Err e
  breaks_answer words k e b =
      let count : k ≡ 1 + length b.before = b.number ∙ omega arith in
      let fails = breaks_read missing form b.before b.from 1 e b.rule b.obey (subst (λ m. Breaks missing b.rule b.from m e) count b.breaks) in
      ap (λ ws. without_rest (read missing form ws 1)) b.all ∙ ap (λ r. without_rest r) fails

  -- words break a form at most at one place, with one fault
  pub breaks_once : (words : List (List ℕ)) (k k' : ℕ) (e e' : F) → BreaksAt missing form words k e → BreaksAt missing form words k' e' → (k ≡ k') × (e ≡ e')
  breaks_once words k k' e e' b b' =
      let size = places_meet missing form b.before b.from b'.before b'.from k k' e e' b.rule b'.rule (sym b.all ∙ b'.all) b.obey b.breaks b'.obey b'.breaks in
      (b.number ∙ ap (λ n. n + 1) size ∙ sym b'.number, err_same e e' (sym (breaks_answer words k e b) ∙ breaks_answer words k' e' b'))

  -- there is a value or a fault
  pub answered : (words : List (List ℕ)) → ((a : A) × (without_rest (read missing form words 1) ≡ Ok a)) ⊎ ((e : F) × (without_rest (read missing form words 1) ≡ Err e))
  answered words = by (without_rest (read missing form words 1))
    where
      by : (r : Result A F) → ((a : A) × (r ≡ Ok a)) ⊎ ((e : F) × (r ≡ Err e))
      by (Ok a) = inl (a, refl)
      by (Err e) = inr (e, refl)

-- whatever fills the form gives a value of this kind
abbrev pub Yields : {F A : Type 0} → (A → Type 0) → Form F A → Type 0
Yields {F} {A} P form = (words : List (List ℕ)) (a : A) → Fills form words a → P a

pub yields_done : (F : Type 0) {A : Type 0} (P : A → Type 0) (x : A) → P x → Yields {F = F} P (done x)
yields_done F P x p [] a h = subst P h p
yields_done F P x p (w ∷ ws) a h = absurd h

pub yields_bind : {F A B : Type 0} (P : A → Type 0) (Q : B → Type 0) (f : Form F A) (g : A → Form F B) → Yields P f → ((a : A) → P a → Yields Q (g a)) → Yields Q (f >>= g)
yields_bind P Q f g h k words b fills = bind_case (Q b) f g words b fills (λ us vs a p q e. k a (h us a p) vs b q)

module _ {F A : Type 0} (form : Form F A) (P : A → Type 0) where
  -- n values, each of this kind
  abbrev pub AreSo : ℕ → List A → Type 0
  AreSo n xs = Each P xs × (length xs ≡ n)

  yields_more : Yields P form → (n k : ℕ) (so_far : List A) → AreSo k so_far → Yields (AreSo (k + n)) (times (one_more form) n so_far)
  unfolding times one_more
  yields_more h zero k so_far are = yields_done F (AreSo (k + 0)) so_far (are.0, are.1 ∙ omega arith)
  yields_more h (suc n) k so_far are = yields_bind (AreSo (k + 1)) (AreSo (k + suc n)) (one_more form so_far) (times (one_more form) n)
      (yields_bind P (AreSo (k + 1)) form (λ a. done (so_far ++ a ∷ [])) h (λ a p. yields_done F (AreSo (k + 1)) (so_far ++ a ∷ []) (Each-append P so_far (a ∷ []) are.0 (p, tt), omega (arith, length-append so_far (a ∷ []), are.1))))
      (λ list all words xs fills.
      let r = yields_more h n (k + 1) list all words xs fills in
      (r.0, r.1 ∙ omega arith))

  -- the list of the values of a form
  pub yields_list : Yields P form → (n : ℕ) → Yields (AreSo n) (list_of form n)
  unfolding list_of
  yields_list h n words xs fills =
      let r = yields_more h n 0 [] (tt, refl) words xs fills in
      (r.0, r.1 ∙ omega arith)

  -- the words of each value fill the list
  more_fills : (spelled : A → List (List ℕ)) → ((a : A) → P a → Fills form (spelled a) a) → (xs so_far : List A) → Each P xs → Fills (times (one_more form) (length xs) so_far) (flat_map spelled xs) (so_far ++ xs)
  unfolding times one_more
  more_fills spelled h [] so_far each = sym (append-nil so_far)
  more_fills spelled h (x ∷ xs) so_far each =
      let first : Fills (one_more form so_far) (spelled x ++ []) (so_far ++ x ∷ []) = fills_both form (λ a. done (so_far ++ a ∷ [])) (spelled x) [] x (so_far ++ x ∷ []) (h x each.0) refl in
      subst (λ t. Fills (one_more form so_far >>= times (one_more form) (length xs)) (spelled x ++ flat_map spelled xs) t) (append_assoc so_far (x ∷ []) xs)
      (fills_both (one_more form so_far) (times (one_more form) (length xs)) (spelled x) (flat_map spelled xs) (so_far ++ x ∷ []) ((so_far ++ x ∷ []) ++ xs)
      (subst (λ ws. Fills (one_more form so_far) ws (so_far ++ x ∷ [])) (append-nil (spelled x)) first)
      (more_fills spelled h xs (so_far ++ x ∷ []) each.1))

  pub list_fills : (spelled : A → List (List ℕ)) → ((a : A) → P a → Fills form (spelled a) a) → (xs : List A) → Each P xs → Fills (list_of form (length xs)) (flat_map spelled xs) xs
  unfolding list_of
  list_fills spelled h xs each = more_fills spelled h xs [] each
