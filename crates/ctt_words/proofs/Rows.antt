-- If `clap` finds no fault, each row of the matches is that of an argument of the command, and its
-- first value passes.
use Rattle.std.proofs.Common.{◌≡◌, ◌∙◌, ◌⊎◌, ◌&&◌, ◌||◌, ◌++◌, Bool, true, false, not, refl, sym, ap, inl, inr, ⊎_elim, List, [], ◌∷◌, Option, Some, None, length, nat_lt, cond, true≢false}
use Rattle.std.specs.List.{find, fold, list_all, list_any}
use Rattle.std.specs.Option.{option_map_or}
use Rattle.std.specs.Str.{bytes_eq}
use Rattle.clap.specs.Facts.{parser_of_value, unwrap_or_range}
use Rattle.clap.specs.Faults.{action_fault, default_fault, defaults_fault, settle_fault, use_fault, values_fault}
use Rattle.clap.specs.Kinds.{Kinds, or_else, range_kinds, request_kinds, value_kinds}
use Rattle.clap.specs.Takes.{value_passes}
use Rattle.clap.specs.ValueTests.{accepts}
use Rattle.clap.specs.Walk.{Held, Row, Rule, Text, action_of, arg_by_id, at_row, default_rows, has_row, is_empty, more_values, most_values, reading_by, settled, settled_rows, used, used_as, used_by_id, values_or_missing, with_default, with_values, without}
use Rattle.clap.proofs.SimpleLemmas.{is_nil}
use Rattle.clap.specs.declared.builder.action.ArgAction.{ArgAction}
use Rattle.clap.specs.declared.builder.action.ArgAction.TheVariants.{Append, Count, Set, SetFalse, SetTrue}
use Rattle.clap.specs.declared.error.kind.ErrorKind.{ErrorKind}
use Rattle.clap.specs.declared.parser.matches.ValueSource.{ValueSource}
use Rattle.clap.specs.declared.parser.matches.ValueSource.TheVariants.{CommandLine, DefaultValue}

-- ---- faults one after another

pub nil_first : (a b : Kinds) → or_else a b ≡ [] → a ≡ []
nil_first [] b e = refl
nil_first (k ∷ ks) b e = cc

pub nil_second : (a b : Kinds) → or_else a b ≡ [] → b ≡ []
nil_second [] b e = e
nil_second (k ∷ ks) b e = cc

-- ---- the items of a list

abbrev pub IsIn : {A : Type 0} → A → List A → Type 0
IsIn a [] = ⊥
IsIn a (b ∷ c) = (a ≡ b) ⊎ IsIn a c

-- what is found is the first item, or is found after it
found_here : {A : Type 0} (t : Bool) (a b : A) (c : List A) (later : Option A) → cond t (Some b) later ≡ Some a → (later ≡ Some a → IsIn a c) → IsIn a (b ∷ c)
found_here true a b c later e behind = inl (cc)
found_here false a b c later e behind = inr (behind e)

pub found_in : {A : Type 0} (p : A → Bool) (c : List A) (a : A) → find p c ≡ Some a → IsIn a c
found_in p [] a e = cc
found_in p (b ∷ c) a e = found_here (p b) a b c (find p c) e (λ later. found_in p c a later)

holds_here : {A : Type 0} (p : A → Bool) (t : Bool) (a b : A) (later : Option A) → p b ≡ t → cond t (Some b) later ≡ Some a → (later ≡ Some a → p a ≡ true) → p a ≡ true
holds_here p true a b later is e behind =
    let same : b ≡ a = cc in
    ap p (sym same) ∙ is
holds_here p false a b later is e behind = behind e

-- what is found passes the test
pub found_holds : {A : Type 0} (p : A → Bool) (c : List A) (a : A) → find p c ≡ Some a → p a ≡ true
found_holds p [] a e = cc
found_holds p (b ∷ c) a e = holds_here p (p b) a b (find p c) refl e (λ later. found_holds p c a later)

both : (a b : Bool) → (a && b) ≡ true → (a ≡ true) × (b ≡ true)
both true b e = (refl, e)
both false b e = absurd (true≢false (sym e))

pub all_in : {A : Type 0} (p : A → Bool) (c : List A) (a : A) → list_all p c ≡ true → IsIn a c → p a ≡ true
all_in p [] a e at = absurd at
all_in p (b ∷ c) a e at = ⊎_elim (λ same. ap p same ∙ (both (p b) (list_all p c) e).0) (λ later. all_in p c a (both (p b) (list_all p c) e).1 later) at

neither : (a b : Bool) → (a || b) ≡ false → (a ≡ false) × (b ≡ false)
neither true b e = absurd (true≢false e)
neither false b e = (refl, e)

pub none_in : {A : Type 0} (p : A → Bool) (c : List A) (a : A) → list_any p c ≡ false → IsIn a c → p a ≡ false
none_in p [] a e at = absurd at
none_in p (b ∷ c) a e at = ⊎_elim (λ same. ap p same ∙ (neither (p b) (list_any p c) e).0) (λ later. none_in p c a (neither (p b) (list_any p c) e).1 later) at

pub record HasOne {A : Type 0} (p : A → Bool) (c : List A) : Type 0 where
  pub one : A
  pub is_in : IsIn one c
  pub holds : p one ≡ true

one_here : {A : Type 0} (p : A → Bool) (t : Bool) (b : A) (c : List A) → p b ≡ t → (t || list_any p c) ≡ true → (list_any p c ≡ true → HasOne p c) → HasOne p (b ∷ c)
one_here p true b c is e behind = record { one = b; is_in = inl refl; holds = is }
one_here p false b c is e behind =
    let later = behind e in
    record { one = later.one; is_in = inr later.is_in; holds = later.holds }

pub one_in : {A : Type 0} (p : A → Bool) (c : List A) → list_any p c ≡ true → HasOne p c
one_in p [] e = absurd (true≢false (sym e))
one_in p (b ∷ c) e = one_here p (p b) b c refl e (λ later. one_in p c later)

-- ---- rows

abbrev pub FirstPasses : Rule → List Text → Type 0
FirstPasses a [] = ⊥
FirstPasses a (v ∷ vs) = value_passes a v ≡ true

pub record IsRow (c : List Rule) (r : Row) : Type 0 where
  pub rule : Rule
  pub given : IsIn rule c
  pub id : r.id ≡ rule.id
  pub reading : r.reading ≡ reading_by rule
  pub passes : FirstPasses rule r.values

abbrev pub AreRows : List Rule → List Row → Type 0
AreRows c [] = Unit {0}
AreRows c (r ∷ rs) = IsRow c r × AreRows c rs

both_rows : (c : List Rule) (xs ys : List Row) → AreRows c xs → AreRows c ys → AreRows c (xs ++ ys)
both_rows c [] ys x y = y
both_rows c (r ∷ rs) ys x y = (x.0, both_rows c rs ys x.1 y)

-- changing the first row of an id leaves valid rows, if the change makes valid rows of that row
at_row_here : (t : Bool) (c : List Rule) (r : Row) (changed rs later : List Row) → AreRows c changed → IsRow c r → AreRows c rs → AreRows c later
    → AreRows c (cond t (changed ++ rs) (r ∷ later))
at_row_here true c r changed rs later ch is rest next = both_rows c changed rs ch rest
at_row_here false c r changed rs later ch is rest next = (is, next)

at_row_rows : (c : List Rule) (id : Text) (change : Row → List Row) (missing rows : List Row) → ((r : Row) → IsRow c r → AreRows c (change r)) → AreRows c missing
    → AreRows c rows → AreRows c (at_row id change missing rows)
at_row_rows c id change missing [] keeps fresh all = fresh
at_row_rows c id change missing (r ∷ rs) keeps fresh all =
    at_row_here (bytes_eq r.id id) c r (change r) rs (at_row id change missing rs) (keeps r all.0) all.0 all.1 (at_row_rows c id change missing rs keeps fresh all.1)

first_more : (a : Rule) (xs ys : List Text) → FirstPasses a xs → FirstPasses a (xs ++ ys)
first_more a [] ys first = absurd first
first_more a (x ∷ xs) ys first = first

without_rows : (c : List Rule) (id : Text) (rows : List Row) → AreRows c rows → AreRows c (without id rows)
without_rows c id rows all = at_row_rows c id (λ _. []) [] rows (λ r is. tt) tt all

with_values_rows : (c : List Rule) (a : Rule) (from : ValueSource) (vs : List Text) (rows : List Row) → IsIn a c → FirstPasses a vs → AreRows c rows
    → AreRows c (with_values a.id (reading_by a) from vs rows)
with_values_rows c a from vs rows at first all = at_row_rows c a.id (more_values from vs) _ rows
    (λ r is. (record { rule = is.rule; given = is.given; id = is.id; reading = is.reading; passes = first_more is.rule r.values vs is.passes }, tt))
    (record { rule = a; given = at; id = refl; reading = refl; passes = first }, tt) all

-- ---- uses of an argument

-- a use of the argument has values, or stands for some if it has none
abbrev pub gives_value : Rule → Bool
gives_value a = nat_lt 0 (unwrap_or_range a.range).start_inclusive || not (is_empty a.missing)

-- an argument whose uses give values, and are not counted
abbrev pub gives_as : ArgAction → Rule → Bool
gives_as Set a = gives_value a
gives_as Append a = gives_value a
gives_as SetTrue a = gives_value a
gives_as SetFalse a = gives_value a
gives_as Count a = false
gives_as _ a = true

abbrev pub is_giving : Rule → Bool
is_giving a = gives_as (action_of a) a

passed : (b : Bool) (k : ErrorKind) → cond b [] (k ∷ []) ≡ [] → b ≡ true
passed true k e = refl
passed false k e = cc

first_passes : (a : Rule) (vs : List Text) → (vs ≡ [] → ⊥) → values_fault a vs ≡ [] → FirstPasses a vs
first_passes a [] some none = absurd (some refl)
first_passes a (v ∷ vs) some none =
    passed (accepts a.ignore_case (parser_of_value a.parser) v) _ (nil_first (value_kinds a.ignore_case (parser_of_value a.parser) v) _ none)

no_least : (b : Bool) (missing : Bool) (k : ErrorKind) (others : Kinds) → (b || not missing) ≡ true → cond (b && true) (k ∷ []) others ≡ [] → missing ≡ false
no_least true missing k others gives none = cc
no_least false true k others gives none = absurd (true≢false (sym gives))
no_least false false k others gives none = refl

given_values : (a : Rule) (values : List Text) → gives_value a ≡ true → range_kinds (unwrap_or_range a.range).start_inclusive (most_values a) (length values) ≡ []
    → values_fault a (values_or_missing a values) ≡ [] → FirstPasses a (values_or_missing a values)
given_values a [] gives fits none =
    first_passes a a.missing (λ e. true≢false (ap (λ (xs : List Text). is_empty xs) (sym e) ∙ no_least (nat_lt 0 (unwrap_or_range a.range).start_inclusive) (is_empty a.missing) _ _ gives fits)) none
given_values a (v ∷ vs) gives fits none = first_passes a (v ∷ vs) (λ e. (cc)) none

used_as_rows : (c : List Rule) (x : ArgAction) (again : Bool) (a : Rule) (vs : List Text) (rows now : List Row) → IsIn a c → gives_as x a ≡ true
    → (gives_value a ≡ true → values_fault a vs ≡ [] → FirstPasses a vs) → action_fault x again a vs now ≡ [] → AreRows c rows
    → AreRows c (used_as x a.id (reading_by a) vs rows)
used_as_rows c Set again a vs rows now at gives first none all =
    with_values_rows c a CommandLine vs (without a.id rows) at (first gives (nil_second _ _ none)) (without_rows c a.id rows all)
used_as_rows c SetTrue again a vs rows now at gives first none all =
    with_values_rows c a CommandLine vs (without a.id rows) at (first gives (nil_second _ _ none)) (without_rows c a.id rows all)
used_as_rows c SetFalse again a vs rows now at gives first none all =
    with_values_rows c a CommandLine vs (without a.id rows) at (first gives (nil_second _ _ none)) (without_rows c a.id rows all)
used_as_rows c Append again a vs rows now at gives first none all =
    with_values_rows c a CommandLine vs rows at (first gives none) all
used_as_rows c Count again a vs rows now at gives first none all = absurd (true≢false (sym gives))
used_as_rows c _ again a vs rows now at gives first none all = all

pub used_rows : (c : List Rule) (again : Bool) (a : Rule) (values : List Text) (rows : List Row) → IsIn a c → is_giving a ≡ true
    → use_fault again a values rows ≡ [] → AreRows c rows → AreRows c (used a values rows)
used_rows c again a values rows at gives none all =
    used_as_rows c (action_of a) again a (values_or_missing a values) rows rows at gives
    (λ gives passes. given_values a values gives (nil_first _ _ none) passes) (nil_second _ _ none) all

-- ---- the argument whose values are being read, and defaults

settled_one : (c : List Rule) (gives : list_all is_giving c ≡ true) (again : Bool) (id : Text) (values : List Text) (rows : List Row) (o : Option Rule) → arg_by_id c id ≡ o
    → option_map_or (λ a. use_fault again a values rows) o [] ≡ [] → AreRows c rows → AreRows c (used_by_id o values rows)
settled_one c gives again id values rows None is none all = all
settled_one c gives again id values rows (Some a) is none all =
    let at = found_in (λ x. bytes_eq x.id id) c a is in
    used_rows c again a values rows at (all_in is_giving c a gives at) none all

settled_any : (c : List Rule) (gives : list_all is_giving c ≡ true) (again : Bool) (p : Option (Text × List Text)) (rows : List Row)
    → option_map_or (λ q. option_map_or (λ a. use_fault again a q.1 rows) (arg_by_id c q.0) []) p [] ≡ [] → AreRows c rows → AreRows c (settled_rows c p rows)
settled_any c gives again None rows none all = all
settled_any c gives again (Some q) rows none all = settled_one c gives again q.0 q.1 rows (arg_by_id c q.0) refl none all

pub settled_are : (c : List Rule) → list_all is_giving c ≡ true → (again : Bool) (h : Held) → settle_fault c again h ≡ [] → AreRows c h.rows → AreRows c (settled c h).rows
settled_are c gives again h none all = settled_any c gives again h.pending h.rows none all

given_default : (c : List Rule) (a : Rule) (values : List Text) (rows : List Row) → IsIn a c → or_else (request_kinds (action_of a)) (values_fault a values) ≡ []
    → AreRows c rows → AreRows c (default_rows a.id (reading_by a) values rows)
given_default c a [] rows at none all = all
given_default c a (v ∷ vs) rows at none all =
    with_values_rows c a DefaultValue (v ∷ vs) rows at (first_passes a (v ∷ vs) (λ e. (cc)) (nil_second (request_kinds (action_of a)) _ none)) all

no_default : (c : List Rule) (a : Rule) (values : List Text) (rows : List Row) → is_empty values ≡ true → AreRows c rows → AreRows c (default_rows a.id (reading_by a) values rows)
no_default c a [] rows none all = all
no_default c a (v ∷ vs) rows none all = let e : (v ∷ vs) ≡ [] = is_nil (v ∷ vs) none in cc

with_default_here : (t e : Bool) (c : List Rule) (a : Rule) (rows : List Row) → has_row a.id rows ≡ t → is_empty a.defaults ≡ e → IsIn a c
    → cond (t || e) [] (or_else (request_kinds (action_of a)) (values_fault a a.defaults)) ≡ [] → AreRows c rows
    → AreRows c (cond t rows (default_rows a.id (reading_by a) a.defaults rows))
with_default_here true e c a rows has empty at none all = all
with_default_here false true c a rows has empty at none all = no_default c a a.defaults rows empty all
with_default_here false false c a rows has empty at none all = given_default c a a.defaults rows at none all

defaults_from : (c xs : List Rule) (rows : List Row) → ((a : Rule) → IsIn a xs → IsIn a c) → defaults_fault rows xs ≡ [] → AreRows c rows → AreRows c (fold with_default rows xs)
unfolding defaults_fault
defaults_from c [] rows within none all = all
defaults_from c (a ∷ xs) rows within none all =
    defaults_from c xs (with_default rows a) (λ b at. within b (inr at)) (nil_second (default_fault rows a) _ none)
    (with_default_here (has_row a.id rows) (is_empty a.defaults) c a rows refl refl (within a (inl refl)) (nil_first (default_fault rows a) _ none) all)

pub defaults_rows : (c : List Rule) (rows : List Row) → defaults_fault rows c ≡ [] → AreRows c rows → AreRows c (fold with_default rows c)
defaults_rows c rows none all = defaults_from c c rows (λ a at. at) none all
