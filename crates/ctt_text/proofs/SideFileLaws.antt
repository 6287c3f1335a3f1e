-- The laws of a text that states how many entries it has, and then gives them.
use Rattle.std.proofs.Common.{◌≡◌, ℕ, List, [], ◌∷◌, ◌++◌, length, flat_map, refl, sym, ap, subst, ◌∙◌}
use Rattle.std.specs.Prelude.{codes, fold}
use Rattle.std.specs.List.{AllByRecursion as Each}
use Rattle.ctt_text.specs.Numbers.{value}
use Rattle.ctt_text.specs.Forms.{Form, done, ◌>>=◌, times, Fills}
use Rattle.ctt_text.specs.Places.{one, known, number_if, number_at_most, fixed}
use Rattle.ctt_text.specs.SideFile.{side_file, spelled_entries}
use Rattle.ctt_text.specs.InstanceText.{IsUpTo}
use Rattle.ctt_text.proofs.FormLaws.{fills_both, bind_case}
use Rattle.ctt_text.proofs.SectionLaws.{Entry, entries_fill, entries_taken, each_apart, each_together}
use Rattle.ctt_problem.proofs.ListLaws.{same_bytes}
use Rattle.ctt_text.proofs.PlaceLaws.{up_to_passes, passed_up_to, is_fixed, after_case}

-- what obeys the place of a number up to a limit is one such number
count_taken : {F : Type 0} (bad large : ℕ → F) (greatest : ℕ) (words : List (List ℕ)) (n : ℕ) → Fills (number_at_most bad greatest large) words n → (word : List ℕ) × (words ≡ word ∷ []) × IsUpTo greatest word × (value word ≡ n)
unfolding number_at_most number_if one
count_taken bad large greatest [] n h = absurd h
count_taken bad large greatest (word ∷ []) n h = (word, refl, passed_up_to bad large word greatest h.0, h.1)
count_taken bad large greatest (word ∷ more ∷ words) n h = absurd h.1

-- what fills the end is its word
end_taken : {F S : Type 0} (other : ℕ → F) (x t : S) (words : List (List ℕ)) → Fills (fixed other (codes "END.") >>= λ _. done x) words t → (words ≡ codes "END." ∷ []) × (x ≡ t)
unfolding fixed known one ◌>>=◌
end_taken other x t [] h = absurd h
end_taken other x t (w ∷ []) h = (ap (λ q. q ∷ []) (is_fixed other w (codes "END.") h.0), h.1)
end_taken other x t (w ∷ more ∷ ws) h = absurd h.1

-- the parts of a text, one after another
all_parts : (label : List ℕ) (words us vs us2 vs2 ws : List (List ℕ)) (count : List ℕ) → words ≡ label ∷ us ++ vs → us ≡ count ∷ [] → vs ≡ us2 ++ vs2 → us2 ≡ ws → vs2 ≡ codes "END." ∷ [] → words ≡ label ∷ count ∷ ws ++ codes "END." ∷ []
all_parts label words us vs us2 vs2 ws count e0 e1 e2 e3 e4 = rw (e0, e1, e2, e3, e4) refl

-- the words of such a text, and the value that its entries make
pub record Given {S W : Type 0} (label : List ℕ) (spelled : W → List (List ℕ)) (add : S → W → S) (IsEntry : W → Type 0) (start : S) (words : List (List ℕ)) (t : S) : Type 0 where
  pub count : List ℕ
  pub given : List W
  pub all : words ≡ spelled_entries label spelled count given
  pub few : IsUpTo 2000000 count
  pub counted : value count ≡ length given
  pub each : Each IsEntry given
  pub gives : fold add start given ≡ t

module _ {F S W : Type 0} (other bad large : ℕ → F) (label : List ℕ) (entry : S → Form F S) (start : S) (spelled : W → List (List ℕ)) (add : S → W → S) (IsEntry : W → Type 0) where
  -- what fills the form is spelled, if what fills the form of an entry is an entry
  pub side_file_taken : ((s : S) (words : List (List ℕ)) (t : S) → Fills (entry s) words t → Entry spelled add (λ _. IsEntry) s words t)
      → (words : List (List ℕ)) (t : S) → Fills (side_file other bad large label entry start) words t → Given label spelled add IsEntry start words t
  unfolding side_file ◌>>=◌
  side_file_taken taken words t h =
      after_case (Given label spelled add IsEntry start words t) other label (number_at_most bad 2000000 large) (λ count. times entry count start >>= λ all. fixed other (codes "END.") >>= λ _. done all) words t h (λ us vs n p q e.
      let c = count_taken bad large 2000000 us n p in
      bind_case (Given label spelled add IsEntry start words t) (times entry n start) (λ all. fixed other (codes "END.") >>= λ _. done all) vs t q (λ us2 vs2 all p2 q2 e2.
      let g = entries_taken entry spelled add (λ _. IsEntry) taken n start us2 all p2 in
      let end = end_taken other all t vs2 q2 in
      record {
        count = c.0;
        given = g.given;
        all = all_parts label words us vs us2 vs2 (flat_map spelled g.given) c.0 e c.1 e2 g.all end.0;
        few = c.2;
        counted = c.3 ∙ sym g.count;
        each = each_apart add IsEntry g.given start g.fit;
        gives = g.gives ∙ end.1;
      }))

  -- what is spelled fills the form, if each entry fills its form
  pub side_file_fills : ((s : S) (w : W) → IsEntry w → Fills (entry s) (spelled w) (add s w))
      → (count : List ℕ) (given : List W) → IsUpTo 2000000 count → value count ≡ length given → Each IsEntry given → Fills (side_file other bad large label entry start) (spelled_entries label spelled count given) (fold add start given)
  unfolding side_file number_at_most number_if fixed known one ◌>>=◌
  side_file_fills fill count given few counted each = (
    rw (same_bytes label) refl,
    (
      up_to_passes bad large count 2000000 few,
      fills_both (times entry (value count) start) _ (flat_map spelled given) (codes "END." ∷ []) (fold add start given) (fold add start given)
          (subst (λ n. Fills (times entry n start) (flat_map spelled given) (fold add start given)) (sym counted)
          (entries_fill entry spelled add (λ _. IsEntry) fill given start (each_together add IsEntry given start each)))
          (refl, refl),
    ),
  )
