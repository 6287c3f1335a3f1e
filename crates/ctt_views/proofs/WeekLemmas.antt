-- Cells and columns with one more lecture or text.
use Rattle.std.proofs.Common.{◌≡◌, ℕ, ◌+◌, ◌<◌, ◌==◌, max, Bool, true, false, cond, List, [], ◌∷◌, ◌++◌, take, length, get_or, refl, ◌∙◌, sym, ap, append-nil, append_assoc, add-one}
use Rattle.std.specs.List.{filter}
use Rattle.std.proofs.lemmas.Grind.{fold-append}
use Rattle.std.proofs.lemmas.List.Elements.{filter_more}
use Rattle.ctt_problem.specs.Problem.{Problem}
use Rattle.ctt_problem.specs.Timetable.{slot_row}
use Rattle.ctt_problem.specs.declared.placed.Placed.{Placed}
use Rattle.ctt_views.specs.Week.{comma, entries, entry, for_each, widest, width}

-- the lists with one more number
pub each_more : {X : Type 0} (f : ℕ → List X) (n : ℕ) → for_each f (n + 1) ≡ for_each f n ++ f n
each_more f n = rw add-one refl

-- the texts with one more number, if its text is added in two parts
pub two_more : (f g : ℕ → List ℕ) (n m : ℕ) (start a b c : List ℕ) → m ≡ n → a ≡ start ++ for_each (λ k. f k ++ g k) n → b ≡ a ++ f n → c ≡ b ++ g m
    → c ≡ start ++ for_each (λ k. f k ++ g k) (n + 1)
two_more f g n m start a b c same before first second =
    second ∙ ap (λ k. b ++ g k) same ∙ ap (λ s. s ++ g n) (first ∙ ap (λ s. s ++ f n) before)
    ∙ append_assoc (start ++ for_each (λ k. f k ++ g k) n) (f n) (g n)
    ∙ append_assoc start (for_each (λ k. f k ++ g k) n) (f n ++ g n)
    ∙ ap (λ s. start ++ s) (sym (each_more (λ k. f k ++ g k) n))

-- the lectures that pass, with one more lecture
pub more_pass : (p : Placed → Bool) (t : List Placed) (k : ℕ) (x : Placed) → k < length t → x ≡ get_or t k x → filter p (take (k + 1) t) ≡ filter p (take k t) ++ cond (p x) (x ∷ []) []
more_pass p t k x within at = filter_more p t k x within ∙ ap (λ y. filter p (take k t) ++ cond (p y) (y ∷ []) []) (sym at)

-- the text of a cell with one more lecture, if it is in the slot, and if it is not
pub entry_more : (i : Problem) (s : ℕ) (t : List Placed) (k : ℕ) (x : Placed) → k < length t → x ≡ get_or t k x → (x.slot == s) ≡ true
    → entries i (slot_row s (take (k + 1) t)) ≡ entries i (slot_row s (take k t)) ++ (comma (entries i (slot_row s (take k t))) ++ entry i x)
entry_more i s t k x within at here =
    ap (entries i) (more_pass (λ l. l.slot == s) t k x within at ∙ ap (λ b. slot_row s (take k t) ++ cond b (x ∷ []) []) here)
    ∙ fold-append (λ cell l. cell ++ (comma cell ++ entry i l)) [] (slot_row s (take k t)) (x ∷ [])

pub entry_elsewhere : (i : Problem) (s : ℕ) (t : List Placed) (k : ℕ) (x : Placed) → k < length t → x ≡ get_or t k x → (x.slot == s) ≡ false
    → entries i (slot_row s (take (k + 1) t)) ≡ entries i (slot_row s (take k t))
entry_elsewhere i s t k x within at away =
    ap (entries i) (more_pass (λ l. l.slot == s) t k x within at ∙ ap (λ b. slot_row s (take k t) ++ cond b (x ∷ []) []) away ∙ append-nil (slot_row s (take k t)))

-- the width of the widest text, with one more text
pub widest_more : (texts : List (List ℕ)) (text : List ℕ) → widest (texts ++ text ∷ []) ≡ max (widest texts) (width text)
widest_more texts text = fold-append (λ n more. max n (width more)) 0 texts (text ∷ [])
