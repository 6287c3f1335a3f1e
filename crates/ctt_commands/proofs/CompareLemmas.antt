-- Files that are read and compared one after another.
use Rattle.std.proofs.Common.{◌≡◌, ◌∙◌, ◌++◌, ◌+◌, ◌<◌, ℕ, List, [], ◌∷◌, drop, get_or, length, refl, sym, ap, subst, append-nil, append_assoc, string_bytes}
use Rattle.std.proofs.lemmas.List.{drop_more}
use Rattle.std.specs.List.{AllByRecursion as Each}
use Rattle.std.specs.Global.{Global}
use Rattle.std.specs.declared.string.String.{String}
use Rattle.ctt_problem.specs.Problem.{Problem}
use Rattle.ctt_problem.proofs.TimetableLemmas.{Each-append}
use Rattle.ctt_files.specs.Texts.{Held}
use Rattle.ctt_commands.specs.Groups.{IsReadAs}
use Rattle.ctt_commands.specs.Lists.{InTurn}
use Rattle.ctt_commands.specs.Rows.{AreAllRows, AreGroupRows}
use Rattle.ctt_commands.specs.declared.group.Group.{Group}
use Rattle.ctt_commands.specs.declared.group.Group.TheVariants.{Read, Refused}
use Rattle.ctt_commands.specs.declared.row.Row.{Row}

-- a list split at one of its elements
pub left_at : {X : Type 0} (xs : List X) (k : ℕ) (x : X) → k < length xs → x ≡ get_or xs k x → drop k xs ≡ x ∷ drop (k + 1) xs
left_at xs k x lt is = drop_more xs k x lt ∙ ap (λ z. z ∷ drop (k + 1) xs) (sym is)

-- a list with one more element behind what was added to another
pub grown_more : {X : Type 0} (start old new added : List X) (x : X) → old ≡ start ++ added → new ≡ old ++ x ∷ [] → new ≡ start ++ (added ++ x ∷ [])
grown_more start old new added x was is = is ∙ ap (λ xs. xs ++ x ∷ []) was ∙ append_assoc start added (x ∷ [])

-- ---- two lists side by side

-- the second list goes with the first one before the part that is left
abbrev pub IsAhead : {A B : Type 0} → (A → B → Type 0) → List A → List A → List B → Type 0
IsAhead {A} {B} R all left bs = (more : List B) → InTurn R left more → InTurn R all (bs ++ more)

pub none_ahead : {A B : Type 0} (R : A → B → Type 0) (all left : List A) (bs : List B) → left ≡ all → bs ≡ [] → IsAhead R all left bs
none_ahead R all left bs same none more are = subst (λ c. InTurn R all (c ++ more)) (sym none) (subst (λ f. InTurn R f more) same are)

pub one_ahead : {A B : Type 0} (R : A → B → Type 0) (all left later : List A) (a : A) (old new : List B) (b : B) → left ≡ a ∷ later → new ≡ old ++ b ∷ []
    → R a b → IsAhead R all left old → IsAhead R all later new
one_ahead R all left later a old new b same pushed is ahead more are =
    subst (λ c. InTurn R all (c ++ more)) (sym pushed)
    (subst (λ c. InTurn R all c) (sym (append_assoc old (b ∷ []) more))
    (ahead (b ∷ more) (subst (λ f. InTurn R f (b ∷ more)) (sym same) (is, are))))

pub all_ahead : {A B : Type 0} (R : A → B → Type 0) (all left : List A) (bs : List B) → left ≡ [] → IsAhead R all left bs → InTurn R all bs
all_ahead R all left bs none ahead = subst (λ c. InTurn R all c) (append-nil bs) (ahead [] (subst (λ f. InTurn R f []) (sym none) tt))

-- one more fits
pub one_fits : {X : Type 0} (P : X → Type 0) (old new : List X) (x : X) → new ≡ old ++ x ∷ [] → Each P old → P x → Each P new
one_fits P old new x pushed fit one = subst (Each P) (sym pushed) (Each-append P old (x ∷ []) fit (one, tt))

-- ---- the rows of all groups

-- these rows are those of the groups before the ones that are left, which are counted from n on
abbrev pub AreRowsAhead : List Group → ℕ → List Group → List Row → Type 0
AreRowsAhead all n left rows = (others : List Row) → AreAllRows n left others → AreAllRows 0 all (rows ++ others)

pub no_rows_ahead : (all : List Group) (rows : List Row) → rows ≡ [] → AreRowsAhead all 0 all rows
no_rows_ahead all rows none others are = subst (λ r. AreAllRows 0 all (r ++ others)) (sym none) are

pub more_rows_ahead : (all : List Group) (n : ℕ) (group : Group) (left later : List Group) (old new added : List Row) → left ≡ group ∷ later → new ≡ old ++ added
    → AreGroupRows n group added → AreRowsAhead all n left old → AreRowsAhead all (n + 1) later new
more_rows_ahead all n group left later old new added same grown are ahead others are_others =
    subst (λ r. AreAllRows 0 all (r ++ others)) (sym grown)
    (subst (AreAllRows 0 all) (sym (append_assoc old added others))
    (ahead (added ++ others) (subst (λ g. AreAllRows n g (added ++ others)) (sym same) (added, others, are, are_others, refl))))

pub all_rows_ahead : (all : List Group) (n : ℕ) (left : List Group) (rows : List Row) → left ≡ [] → AreRowsAhead all n left rows → AreAllRows 0 all rows
all_rows_ahead all n left rows none ahead =
    subst (AreAllRows 0 all) (append-nil rows) (ahead [] (subst (λ g. AreAllRows n g []) (sym none) refl))

-- ---- the files

-- the same under another string of the same bytes
pub read_named : (held : Held) (name other : String Global) (i : Problem) (solutions : List (String Global)) (group : Group) → string_bytes name ≡ string_bytes other → IsReadAs held name i solutions group
    → IsReadAs held other i solutions group
read_named held name other i solutions (Read n problem candidates) same is = (is.0 ∙ same, is.1, is.2)
read_named held name other i solutions (Refused n fault files) same is = is
