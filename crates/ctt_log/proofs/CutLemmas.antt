-- Blocks that are cut.
use Rattle.std.proofs.Common.{◌≡◌, ◌⊎◌, inl, inr, ◌∙◌, ℕ, ◌+◌, List, [], ◌∷◌, ◌++◌, length, flat_map, Ok, Err, refl, sym, ap, subst}
use Rattle.std.specs.List.{AllByRecursion as Each}
use Rattle.ctt_text.specs.Left.{Left}
use Rattle.ctt_text.specs.Forms.{Form, done, place, Fills, read}
use Rattle.ctt_text.specs.Reading.{reading}
use Rattle.ctt_text.proofs.FormLaws.{Yields, at_once, fills_read, one_later, read_fills}
use Rattle.ctt_problem.proofs.ResultLemmas.{err_same, ok_is_err, ok_same}
use Rattle.ctt_log.specs.Blocks.{AreBlocks}

-- if words that fill a form are cut, one is missing
pub cut_misses : {F A : Type 0} (missing : ℕ → F) (form : Form F A) (front : List (List ℕ)) (w : List ℕ) (rest : List (List ℕ)) (a : A) (n : ℕ) → Fills form (front ++ w ∷ rest) a
    → read missing form front n ≡ Err (missing (n + length front))
unfolding read
cut_misses missing (done x) [] w rest a n is = absurd is
cut_misses missing (done x) (v ∷ vs) w rest a n is = absurd is
cut_misses missing (place rule next) [] w rest a n is = ap (λ k. Err (missing k)) (at_once n)
cut_misses missing (place rule next) (v ∷ vs) w rest a n is = rw is.0 (cut_misses missing (next v) vs w rest a (n + 1) is.1 ∙ ap (λ k. Err (missing k)) (one_later n (length vs)))

-- if xs and ys joined are us and vs joined, xs is a proper prefix of us, or begins with us
abbrev AreParts : {X : Type 0} → List X → List X → List X → List X → Type 0
AreParts {X} xs ys us vs = ((x : X) × (more : List X) × (us ≡ xs ++ x ∷ more)) ⊎ ((more : List X) × (xs ≡ us ++ more) × (more ++ ys ≡ vs))

one_before : {X : Type 0} (x u : X) (xs ys us vs : List X) → x ≡ u → AreParts xs ys us vs → AreParts (x ∷ xs) ys (u ∷ us) vs
one_before x u xs ys us vs same (inl c) = inl (c.0, c.1, (let e = c.2 in cc))
one_before x u xs ys us vs same (inr c) = inr (c.0, (let e = c.1 in cc), c.2)

parts : {X : Type 0} (xs ys us vs : List X) → xs ++ ys ≡ us ++ vs → AreParts xs ys us vs
parts xs ys [] vs is = inr (xs, refl, is)
parts [] ys (u ∷ us) vs is = inl (u, us, refl)
parts (x ∷ xs) ys (u ∷ us) vs is =
    let same : x ≡ u = cc in
    let rest : xs ++ ys ≡ us ++ vs = cc in
    one_before x u xs ys us vs same (parts xs ys us vs rest)

no_word : {X : Type 0} (xs ys : List X) → xs ++ ys ≡ [] → xs ≡ []
no_word [] ys is = refl
no_word (x ∷ xs) ys is = cc

module _ {F A : Type 0} (missing : ℕ → F) (form : Form F A) (spell : A → List (List ℕ)) (P : A → Type 0)
    (fills : (a : A) → P a → Fills form (spell a) a) (some : (n : ℕ) → read missing form [] n ≡ Err (missing n)) where
  -- the same for the words that are left, and the blocks that these words spell, as far as they go
  abbrev pub AreCut : List A → List (List ℕ) → List (List ℕ) → Type 0
  AreCut es words cut = Each P es × (words ++ cut ≡ flat_map spell es)

  one_read : (n : ℕ) (b e : A) (mid : Left) (words cut more : List (List ℕ)) → P e → words ≡ spell e ++ more → reading missing form (record { words = words; next = n }) ≡ Ok (b, mid)
      → (b ≡ e) × (mid ≡ record { words = more; next = n + length (spell e) })
  one_read n b e mid words cut more fit is reads =
      let all = fills_read missing form (spell e) more n e (fills e fit) in
      let both : (b, mid) ≡ (e, record { words = more; next = n + length (spell e) }) = ok_same _ _ (sym reads ∙ ap (λ w. read missing form w n) is ∙ all) in
      (ap (λ x. x.0) both, ap (λ x. x.1) both)

  -- the blocks that are parsed from cut words are the first of those that were written
  pub read_of_cut : (es bs : List A) (left rest : Left) (cut : List (List ℕ)) → AreCut es left.words cut → AreBlocks missing form left bs rest
      → (more : List A) × (es ≡ bs ++ more) × AreCut more rest.words cut
  read_of_cut es [] left rest cut are is = (es, refl, subst (λ l. AreCut es l.words cut) is are)
  read_of_cut [] (b ∷ bs) left rest cut are is =
      let none = no_word left.words cut are.1 in
      ok_is_err _ _ _ (sym is.1 ∙ ap (λ w. read missing form w left.next) none ∙ some left.next)
  read_of_cut (e ∷ es) (b ∷ bs) left rest cut are is = by (parts left.words cut (spell e) (flat_map spell es) are.1) (read_of_cut es bs is.0 rest cut)
    where
      by : AreParts left.words cut (spell e) (flat_map spell es) → (AreCut es is.0.words cut → AreBlocks missing form is.0 bs rest → (more : List A) × (es ≡ bs ++ more) × AreCut more rest.words cut)
          → (more : List A) × (e ∷ es ≡ b ∷ bs ++ more) × AreCut more rest.words cut
      by (inl c) others = ok_is_err _ _ _ (sym is.1 ∙ cut_misses missing form left.words c.0 c.1 e left.next (subst (λ w. Fills form w e) c.2 (fills e are.0.0)))
      by (inr c) others =
          let first = one_read left.next b e is.0 left.words cut c.0 are.0.0 c.1 is.1 in
          let next = others (are.0.1, ap (λ (l : Left). l.words ++ cut) first.1 ∙ c.2) is.2 in
          (next.0, (let same = first.0 in let e' = next.1 in cc), next.2)

  -- if cut words are parsed further, one is missing, or a block is whole
  pub fault_of_cut : (es : List A) (left : Left) (cut : List (List ℕ)) (fault : F) → AreCut es left.words cut → reading missing form left ≡ Err fault → (k : ℕ) × (fault ≡ missing k)
  fault_of_cut [] left cut fault are is = (left.next, err_same _ _ (sym is ∙ ap (λ w. read missing form w left.next) (no_word left.words cut are.1) ∙ some left.next))
  fault_of_cut (e ∷ es) left cut fault are is = by (parts left.words cut (spell e) (flat_map spell es) are.1)
    where
      by : AreParts left.words cut (spell e) (flat_map spell es) → (k : ℕ) × (fault ≡ missing k)
      by (inl c) = (left.next + length left.words, err_same _ _ (sym is ∙ cut_misses missing form left.words c.0 c.1 e left.next (subst (λ w. Fills form w e) c.2 (fills e are.0.0))))
      by (inr c) = ok_is_err _ _ _ (sym (ap (λ w. read missing form w left.next) c.1 ∙ fills_read missing form (spell e) c.0 left.next e (fills e are.0.0)) ∙ is)

-- ---- blocks that are parsed one after another

-- with one more after them
pub one_more_block : {F A : Type 0} (missing : ℕ → F) (form : Form F A) (left mid rest : Left) (xs : List A) (a : A) → AreBlocks missing form left xs mid → reading missing form mid ≡ Ok (a, rest)
    → AreBlocks missing form left (xs ++ a ∷ []) rest
one_more_block missing form left mid rest [] a is reads = (rest, subst (λ l. reading missing form l ≡ Ok (a, rest)) (sym is) reads, refl)
one_more_block missing form left mid rest (b ∷ bs) a is reads = (is.0, is.1, one_more_block missing form is.0 mid rest bs a is.2 reads)

-- what holds of each value of the form holds of each block
pub blocks_hold : {F A : Type 0} (missing : ℕ → F) (form : Form F A) (Q : A → Type 0) → Yields Q form → (left rest : Left) (xs : List A) → AreBlocks missing form left xs rest → Each Q xs
blocks_hold missing form Q yields left rest [] is = tt
blocks_hold missing form Q yields left rest (a ∷ xs) is =
    let r = read_fills missing form left.words left.next (a, is.0) is.1 in
    (yields r.front a r.fills, blocks_hold missing form Q yields is.0 rest xs is.2)
