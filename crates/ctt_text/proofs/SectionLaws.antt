-- A section of a text: n entries, one after another.
use Rattle.std.proofs.Common.{◌≡◌, ℕ, zero, suc, List, [], ◌∷◌, ◌++◌, length, map, flat_map, false, refl, sym, ap, subst, ◌∙◌, append_assoc}
use Rattle.std.specs.Prelude.{fold}
use Rattle.std.specs.List.{AllByRecursion as Each}
use Rattle.std.proofs.lemmas.List.{append-nil}
use Rattle.ctt_problem.specs.Problem.{is_among}
use Rattle.ctt_text.specs.Forms.{Form, times, Fills}
use Rattle.ctt_problem.specs.Named.{AreNew}
use Rattle.ctt_text.proofs.FormLaws.{fills_both, bind_case}

-- the words of one entry, and what they add to the value so far
pub record Entry {S W : Type 0} (spelled : W → List (List ℕ)) (add : S → W → S) (Fit : S → W → Type 0) (s : S) (words : List (List ℕ)) (t : S) : Type 0 where
  pub given : W
  pub all : words ≡ spelled given
  pub fit : Fit s given
  pub gives : add s given ≡ t

-- each entry is valid after the earlier ones
abbrev pub AllFit : {S W : Type 0} → (S → W → S) → (S → W → Type 0) → S → List W → Type 0
AllFit add Fit s [] = Unit {0}
AllFit add Fit s (w ∷ ws) = Fit s w × AllFit add Fit (add s w) ws

-- the words of n entries, and the value that they make from the value so far
pub record Entries {S W : Type 0} (spelled : W → List (List ℕ)) (add : S → W → S) (Fit : S → W → Type 0) (n : ℕ) (s : S) (words : List (List ℕ)) (t : S) : Type 0 where
  pub given : List W
  pub count : length given ≡ n
  pub all : words ≡ flat_map spelled given
  pub fit : AllFit add Fit s given
  pub gives : fold add s given ≡ t

-- valid entries fill the section, if each fills its form
pub entries_fill : {F S W : Type 0} (step : S → Form F S) (spelled : W → List (List ℕ)) (add : S → W → S) (Fit : S → W → Type 0)
    → ((s : S) (w : W) → Fit s w → Fills (step s) (spelled w) (add s w))
    → (given : List W) (s : S) → AllFit add Fit s given → Fills (times step (length given) s) (flat_map spelled given) (fold add s given)
unfolding times
entries_fill step spelled add Fit one [] s fit = refl
entries_fill step spelled add Fit one (w ∷ given) s fit =
    fills_both (step s) (times step (length given)) (spelled w) (flat_map spelled given) (add s w) (fold add (add s w) given) (one s w fit.0) (entries_fill step spelled add Fit one given (add s w) fit.1)

-- what fills a section is valid entries, if what fills the form of one is an entry
pub entries_taken : {F S W : Type 0} (step : S → Form F S) (spelled : W → List (List ℕ)) (add : S → W → S) (Fit : S → W → Type 0)
    → ((s : S) (words : List (List ℕ)) (t : S) → Fills (step s) words t → Entry spelled add Fit s words t)
    → (n : ℕ) (s : S) (words : List (List ℕ)) (t : S) → Fills (times step n s) words t → Entries spelled add Fit n s words t
unfolding times
entries_taken step spelled add Fit one zero s [] t h = record { given = []; count = refl; all = refl; fit = tt; gives = h }
entries_taken step spelled add Fit one zero s (w ∷ ws) t h = absurd h
entries_taken step spelled add Fit one (suc n) s words t h = bind_case (Entries spelled add Fit (suc n) s words t) (step s) (times step n) words t h (λ us vs a p q e.
    let r = one s us a p in
    let rest = entries_taken step spelled add Fit one n a vs t q in
    record {
      given = r.given ∷ rest.given;
      count = ap suc rest.count;
      all = e ∙ ap (λ x. x ++ vs) r.all ∙ ap (λ x. spelled r.given ++ x) rest.all;
      fit = (r.fit, subst (λ x. AllFit add Fit x rest.given) (sym r.gives) rest.fit);
      gives = ap (λ x. fold add x rest.given) r.gives ∙ rest.gives;
    })

-- a list to which each entry adds one element at the end
pub list_grown : {S W X : Type 0} (add : S → W → S) (list : S → List X) (element : W → X) → ((s : S) (w : W) → list (add s w) ≡ list s ++ element w ∷ [])
    → (given : List W) (s : S) → list (fold add s given) ≡ list s ++ map element given
list_grown add list element more [] s = sym (append-nil (list s))
list_grown add list element more (w ∷ given) s =
    list_grown add list element more given (add s w) ∙ ap (λ x. x ++ map element given) (more s w) ∙ append_assoc (list s) (element w ∷ []) (map element given)

-- an entry with a new name
abbrev pub Named : {S W : Type 0} → (S → List (List ℕ)) → (W → List ℕ) → (W → Type 0) → S → W → Type 0
Named names name P s w = (is_among (names s) (name w) ≡ false) × P w

-- entries with new names: the names are new, and the rest is valid
pub names_apart : {S W : Type 0} (add : S → W → S) (names : S → List (List ℕ)) (name : W → List ℕ) (P : W → Type 0)
    → ((s : S) (w : W) → names (add s w) ≡ names s ++ name w ∷ [])
    → (given : List W) (s : S) → AllFit add (Named names name P) s given → AreNew (names s) (map name given) × Each P given
names_apart add names name P more [] s fit = (tt, tt)
names_apart add names name P more (w ∷ given) s fit =
    let rest = names_apart add names name P more given (add s w) fit.1 in
    ((fit.0.0, subst (λ x. AreNew x (map name given)) (more s w) rest.0), (fit.0.1, rest.1))

-- the converse
pub names_together : {S W : Type 0} (add : S → W → S) (names : S → List (List ℕ)) (name : W → List ℕ) (P : W → Type 0)
    → ((s : S) (w : W) → names (add s w) ≡ names s ++ name w ∷ [])
    → (given : List W) (s : S) → AreNew (names s) (map name given) → Each P given → AllFit add (Named names name P) s given
names_together add names name P more [] s new each = tt
names_together add names name P more (w ∷ given) s new each =
    ((new.0, each.0), names_together add names name P more given (add s w) (subst (λ x. AreNew x (map name given)) (sym (more s w)) new.1) each.1)

-- entries that are valid whatever the earlier ones are
pub each_apart : {S W : Type 0} (add : S → W → S) (P : W → Type 0) (given : List W) (s : S) → AllFit add (λ _. P) s given → Each P given
each_apart add P [] s fit = tt
each_apart add P (w ∷ given) s fit = (fit.0, each_apart add P given (add s w) fit.1)

-- the converse
pub each_together : {S W : Type 0} (add : S → W → S) (P : W → Type 0) (given : List W) (s : S) → Each P given → AllFit add (λ _. P) s given
each_together add P [] s each = tt
each_together add P (w ∷ given) s each = (each.0, each_together add P given (add s w) each.1)

-- the words of a section whose entries have names
pub record Section {S W : Type 0} (spelled : W → List (List ℕ)) (names : List (List ℕ)) (name : W → List ℕ) (P : W → Type 0) (made : List W → S) (n : ℕ) (words : List (List ℕ)) (t : S) : Type 0 where
  pub given : List W
  pub count : length given ≡ n
  pub all : words ≡ flat_map spelled given
  pub new : AreNew names (map name given)
  pub each : Each P given
  pub gives : made given ≡ t

-- such a section, in both directions
module _ {F S W : Type 0} (step : S → Form F S) (spelled : W → List (List ℕ)) (add : S → W → S) (names : S → List (List ℕ)) (name : W → List ℕ) (P : W → Type 0)
    (more : (s : S) (w : W) → names (add s w) ≡ names s ++ name w ∷ []) (start : S) (made : List W → S) (is_made : (given : List W) → fold add start given ≡ made given) where
  -- words with new names fill the section with this value
  pub section_fills : ((s : S) (w : W) → Named names name P s w → Fills (step s) (spelled w) (add s w))
      → (given : List W) → AreNew (names start) (map name given) → Each P given → Fills (times step (length given) start) (flat_map spelled given) (made given)
  section_fills one given new each = subst (λ t. Fills (times step (length given) start) (flat_map spelled given) t) (is_made given)
      (entries_fill step spelled add (Named names name P) one given start (names_together add names name P more given start new each))

  -- what fills the section is words with new names
  pub section_taken : ((s : S) (words : List (List ℕ)) (t : S) → Fills (step s) words t → Entry spelled add (Named names name P) s words t)
      → (n : ℕ) (words : List (List ℕ)) (t : S) → Fills (times step n start) words t → Section spelled (names start) name P made n words t
  section_taken one n words t h =
      let r = entries_taken step spelled add (Named names name P) one n start words t h in
      let apart = names_apart add names name P more r.given start r.fit in
      record { given = r.given; count = r.count; all = r.all; new = apart.0; each = apart.1; gives = sym (is_made r.given) ∙ r.gives }
