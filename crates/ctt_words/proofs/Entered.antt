-- In any program with commands, words in which `clap` finds no fault enter one of the commands,
-- whose matches contain all that it requires.
use Rattle.std.proofs.Common.{◌≡◌, ◌∙◌, ◌&&◌, ◌||◌, ⊎_elim, Bool, true, false, not, refl, sym, ap, subst, inl, inr, List, [], ◌∷◌, Option, Some, None, cond, codes, is_some, option_map, IsSome, true≢false}
use Rattle.std.specs.Prelude.{option_and_then, slice_get}
use Rattle.std.specs.List.{find, list_all, list_any}
use Rattle.std.specs.Option.{option_map_or}
use Rattle.std.specs.Str.{bytes_eq}
use Rattle.std.proofs.lemmas.Slice.Eq.{bytes_eq-Decides}
use Rattle.clap.specs.Facts.{explicit_source, parser_of_value}
use Rattle.clap.specs.Faults.{check_fault, entered_fault, fault_of, level_fault, other_fault}
use Rattle.clap.specs.Kinds.{check_kinds}
use Rattle.clap.specs.Simple.{App, Shape, argument_words, built, entered, label_of, names_of, rows_at}
use Rattle.clap.specs.Takes.{is_given}
use Rattle.clap.specs.ValueTests.{accepts}
use Rattle.clap.specs.Values.{read_as, reading_of}
use Rattle.clap.specs.Walk.{Row, Rule, Text, answers_to, nothing_held, reading_by, row_text, rows_after, stop_after}
use Rattle.clap.specs.Words.{first_of, one_of}
use Rattle.clap.specs.declared.builder.value_parser.Reading.{Reading}
use Rattle.clap.specs.declared.error.kind.ErrorKind.{ErrorKind}
use Rattle.clap.specs.declared.builder.value_parser.ValueParser.{ValueParser}
use Rattle.clap.specs.declared.builder.value_parser.ValueParser.TheVariants.{Bool as Switch}
use Rattle.clap.proofs.OnLiterals.{clap_on_literals}
use Rattle.ctt_words.specs.Flags.{IsOnOrOff}
use Rattle.ctt_words.proofs.Rows.{AreRows, FirstPasses, IsIn, IsRow, all_in, found_holds, found_in, is_giving, none_in, one_in}
use Rattle.ctt_words.proofs.Walks.{MayStop, level_below, level_checked, level_rows, level_stops}

-- ---- the checks after the walk

none_wanted : (help command argument : Bool) → check_kinds help command argument ≡ [] → (command ≡ false) × (argument ≡ false)
none_wanted true command argument e = cc
none_wanted false true argument e = cc
none_wanted false false true e = cc
none_wanted false false false e = (refl, refl)

has_command : (has required : Bool) → required ≡ true → (not has && required) ≡ false → has ≡ true
has_command true required is e = refl
has_command false required is e = absurd (true≢false (sym is ∙ e))

unexcused : (negates lacks : Bool) → (not (negates && false) && lacks) ≡ false → lacks ≡ false
unexcused true lacks e = e
unexcused false lacks e = e

given_of : (required given : Bool) → (required && not given) ≡ false → required ≡ true → given ≡ true
given_of true true e is = refl
given_of true false e is = absurd (true≢false e)
given_of false given e is = absurd (true≢false (sym is))

required_given : (s : Shape) (rows : List Row) → check_fault s rows false ≡ [] → (a : Rule) → IsIn a s.rules → a.required ≡ true → is_given a.id rows ≡ true
required_given s rows none a at is =
    given_of a.required (is_given a.id rows)
    (none_in (λ b. b.required && not (is_given b.id rows)) s.rules a (unexcused s.subcommand_negates_reqs _ (none_wanted _ _ _ none).1) at) is

-- ---- the command that is entered

-- where a walk over words stopped: the word that names a command, the command, and the words after
-- it, in which no fault is found
pub record Enters (a : App) (stop : Option (Text × List Text)) : Type 0 where
  pub word : Text
  pub shape : Shape
  pub rest : List Text
  pub is_one : IsIn shape a.subs
  pub answers : answers_to word (label_of shape) ≡ true
  pub is_no_request : other_fault a.top (Some word) [] nothing_held ≡ []
  pub command : entered a stop ≡ Some (rows_at shape rest)
  pub level : level_fault shape [] nothing_held rest false [] ≡ []

enters_by : (a : App) (p : Text × List Text) (o : Option Shape) → find (λ (s : Shape). answers_to p.0 (label_of s)) a.subs ≡ o
    → other_fault a.top (Some p.0) [] nothing_held ≡ [] → entered_fault a (Some p) ≡ [] → is_some (entered a (Some p)) ≡ true → Enters a (Some p)
enters_by a p None is free none has =
    absurd (true≢false (sym has ∙ ap (λ (f : Option Shape). is_some (option_map (λ (s : Shape). rows_at s p.1) f)) is))
enters_by a p (Some s) is free none has = record {
  word = p.0;
  shape = s;
  rest = p.1;
  is_one = found_in _ a.subs s is;
  answers = found_holds _ a.subs s is;
  is_no_request = free;
  command = ap (λ (f : Option Shape). option_map (λ (t : Shape). rows_at t p.1) f) is;
  level = subst (λ (f : Option Shape). option_map_or (λ (t : Shape). level_fault t [] nothing_held p.1 false []) f [] ≡ []) is none;
}

enters_at : (a : App) (stop : Option (Text × List Text)) (rows : List Row) → a.top.subcommand_required ≡ true → MayStop a.top (names_of a) stop
    → entered_fault a stop ≡ [] → check_fault a.top rows (is_some (entered a stop)) ≡ [] → Enters a stop
enters_at a None rows required may none checked = absurd (true≢false (sym (has_command false _ required (none_wanted _ _ _ checked).0)))
enters_at a (Some p) rows required may none checked =
    enters_by a p _ refl may.2 none (has_command (is_some (entered a (Some p))) _ required (none_wanted _ _ _ checked).0)

pub enters : (a : App) (words : List Text) → (built a).top.subcommand_required ≡ true → fault_of a words ≡ []
    → Enters (built a) (stop_after (built a).top.rules (names_of (built a)) (argument_words a words))
enters a words required none =
    let app = built a in
    let given = argument_words a words in
    let stop = stop_after app.top.rules (names_of app) given in
    enters_at app stop (rows_after app.top.rules (names_of app) given) required (level_stops app.top (names_of app) given _ _ none)
    (level_below app.top (names_of app) given _ _ none) (level_checked app.top (names_of app) given _ _ none)

-- `help` is not a command
answers_alone : (name word : Text) → (bytes_eq name word || false) ≡ true → word ≡ name
answers_alone name word e = sym ((bytes_eq-Decides name word).0 (or_false (bytes_eq name word) e))
  where
    or_false : (b : Bool) → (b || false) ≡ true → b ≡ true
    or_false true e = refl
    or_false false e = absurd (true≢false (sym e))

asks_help : (disabled : Bool) (kinds : List ErrorKind) (kind : ErrorKind) → disabled ≡ false → cond (true && not disabled) (kind ∷ kinds) [] ≡ [] → ⊥
asks_help true kinds kind is e = absurd (true≢false is)
asks_help false kinds kind is e = cc

pub not_help : (top : Shape) (word : Text) → top.disable_help_subcommand ≡ false → answers_to word (codes "help", []) ≡ true
    → other_fault top (Some word) [] nothing_held ≡ [] → ⊥
unfolding clap_on_literals
not_help top word is answers none =
    asks_help top.disable_help_subcommand _ _ is
    (subst (λ (name : Text). other_fault top (Some name) [] nothing_held ≡ []) (answers_alone (codes "help") word answers) none)

-- ---- what the command requires is found

found_row : (c : List Rule) (rows : List Row) (s : Row) → AreRows c rows → IsIn s rows → IsRow c s
found_row c [] s all at = absurd at
found_row c (r ∷ rows) s all at = ⊎_elim (λ same. subst (IsRow c) (sym same) all.0) (λ later. found_row c rows s all.1 later) at

-- a row has a first value
first_some : (a : Rule) (values : List Text) → FirstPasses a values → IsSome (slice_get values 0)
first_some a [] first = absurd first
first_some a (v ∷ vs) first = refl

first_of_found : (c : List Rule) (id : Text) (rows : List Row) (o : Option Row) → find (λ r. bytes_eq r.id id) rows ≡ o → AreRows c rows
    → option_map_or (λ r. explicit_source r.source) o false ≡ true → IsSome (option_and_then (λ r. slice_get r.values 0) o)
first_of_found c id rows None is all given = absurd (true≢false (sym given))
first_of_found c id rows (Some r) is all given =
    let row = found_row c rows r all (found_in _ rows r is) in
    first_some row.rule r.values row.passes

-- an argument of this name is required
abbrev pub is_required : Text → Rule → Bool
is_required id a = a.required && bytes_eq a.id id

both : (a b : Bool) → (a && b) ≡ true → (a ≡ true) × (b ≡ true)
both true b e = (refl, e)
both false b e = absurd (true≢false (sym e))

pub has_required : (s : Shape) (rest : List Text) (id : Text) → list_all is_giving s.rules ≡ true → level_fault s [] nothing_held rest false [] ≡ []
    → list_any (is_required id) s.rules ≡ true → IsSome (first_of id (rows_after s.rules [] rest))
has_required s rest id gives none requires =
    let rows = rows_after s.rules [] rest in
    let found = one_in (is_required id) s.rules requires in
    let is = both found.one.required (bytes_eq found.one.id id) found.holds in
    first_of_found s.rules id rows (find (λ r. bytes_eq r.id id) rows) refl (level_rows s gives [] rest false [] none)
    (subst (λ (name : Text). is_given name rows ≡ true) ((bytes_eq-Decides found.one.id id).0 is.1)
    (required_given s rows (level_checked s [] rest false [] none) found.one found.is_in is.0))

-- ---- an option without a value is found as one

abbrev pub is_switch : ValueParser → Bool
is_switch Switch = true
is_switch _ = false

switch_is : (p : ValueParser) → is_switch p ≡ true → p ≡ Switch
switch_is Switch e = refl
switch_is _ e = absurd (true≢false (sym e))

-- each argument of this name is an option without a value
abbrev pub is_flag : Text → Rule → Bool
is_flag id a = not (bytes_eq a.id id) || is_switch (parser_of_value a.parser)

on_or_off : (v : Text) (on off : Bool) → bytes_eq v (codes "true") ≡ on → bytes_eq v (codes "false") ≡ off → (on || off) ≡ true
    → IsOnOrOff (Some v)
on_or_off v true off t f e = inl ((bytes_eq-Decides v (codes "true")).0 t)
on_or_off v false true t f e = inr ((bytes_eq-Decides v (codes "false")).0 f)
on_or_off v false false t f e = absurd (true≢false (sym e))

flag_first : (a : Rule) (values : List Text) (reading : Reading) → reading ≡ reading_by a → parser_of_value a.parser ≡ Switch → FirstPasses a values
    → IsOnOrOff (option_map (read_as reading) (slice_get values 0))
flag_first a [] reading is switch first = absurd first
flag_first a (v ∷ vs) reading is switch first =
    subst (λ (how : Reading). IsOnOrOff (Some (read_as how v))) (sym (is ∙ ap reading_of switch))
    (on_or_off v (bytes_eq v (codes "true")) (bytes_eq v (codes "false")) refl refl (subst (λ (p : ValueParser). accepts a.ignore_case p v ≡ true) switch first))

implied : (named switch : Bool) → named ≡ true → (not named || switch) ≡ true → switch ≡ true
implied true switch is e = e
implied false switch is e = absurd (true≢false (sym is))

flag_found : (c : List Rule) (id : Text) (rows : List Row) (o : Option Row) → find (λ r. bytes_eq r.id id) rows ≡ o → list_all (is_flag id) c ≡ true → AreRows c rows
    → IsOnOrOff (option_and_then row_text o)
flag_found c id rows None is flags all = tt
flag_found c id rows (Some r) is flags all =
    let row = found_row c rows r all (found_in _ rows r is) in
    let named : bytes_eq row.rule.id id ≡ true = subst (λ (name : Text). bytes_eq name id ≡ true) row.id (found_holds (λ (x : Row). bytes_eq x.id id) rows r is) in
    flag_first row.rule r.values r.reading row.reading (switch_is _ (implied (bytes_eq row.rule.id id) _ named (all_in (is_flag id) c row.rule flags row.given))) row.passes

pub has_flag : (s : Shape) (rest : List Text) (id : Text) → list_all is_giving s.rules ≡ true → level_fault s [] nothing_held rest false [] ≡ []
    → list_all (is_flag id) s.rules ≡ true → IsOnOrOff (one_of id (rows_after s.rules [] rest))
has_flag s rest id gives none flags =
    let rows = rows_after s.rules [] rest in
    flag_found s.rules id rows (find (λ r. bytes_eq r.id id) rows) refl flags (level_rows s gives [] rest false [] none)
