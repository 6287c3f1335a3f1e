-- The kinds of places in a text: the rule of one word, and the value that the word gives.
use Rattle.std.specs.Prelude.{ℕ, List, Bool, true, false, Option, Some, None, nat_le, if◌then◌else◌, codes}
use Rattle.std.specs.Str.{bytes_eq}
use Rattle.ctt_text.specs.Numbers.{is_number, value, number_of}
use Rattle.ctt_problem.specs.Problem.{is_among, number_in}
use Rattle.ctt_text.specs.Forms.{Rule, Form, done, place, ◌>>=◌}

-- the rule of a number that passes the test, with the faults of a word that is not a number and of
-- a number that fails the test
abbrev pub passing_number : {F : Type 0} → (ℕ → F) → (ℕ → Bool) → (ℕ → F) → Rule F
passing_number bad test fault word = if is_number word then (if test (value word) then None else Some fault) else Some bad

-- the fault, unless the word has a meaning
abbrev pub broken_unless : {F A : Type 0} → (ℕ → F) → Option A → Option (ℕ → F)
broken_unless fault None = Some fault
broken_unless fault (Some a) = None

-- the meaning, or a default if there is none
abbrev pub meant : {A : Type 0} → A → Option A → A
meant otherwise None = otherwise
meant otherwise (Some a) = a

-- one word with its rule
unfoldable pub one : {F A : Type 0} → Rule F → (List ℕ → A) → Form F A
one rule gives = place rule (λ word. done (gives word))

unfoldable pub any : {F : Type 0} → Form F (List ℕ)
any = one (λ _. None) (λ word. word)

-- one word that has a meaning, and gives it (the default is never given)
unfoldable pub known : {F A : Type 0} → (ℕ → F) → (List ℕ → Option A) → A → Form F A
known fault meaning otherwise = one (λ word. broken_unless fault (meaning word)) (λ word. meant otherwise (meaning word))

-- whether the word is this text
abbrev pub exactly : List ℕ → List ℕ → Option Unit
exactly text word = if bytes_eq word text then Some tt else None

unfoldable pub fixed : {F : Type 0} → (ℕ → F) → List ℕ → Form F Unit
fixed fault text = known fault (exactly text) tt

unfoldable pub number : {F : Type 0} → (ℕ → F) → Form F ℕ
number bad = known bad number_of 0

unfoldable pub number_if : {F : Type 0} → (ℕ → F) → (ℕ → Bool) → (ℕ → F) → Form F ℕ
number_if bad test fault = one (passing_number bad test fault) value

-- a number of at most `greatest`
unfoldable pub number_at_most : {F : Type 0} → (ℕ → F) → ℕ → (ℕ → F) → Form F ℕ
number_at_most bad greatest fault = number_if bad (λ n. nat_le n greatest) fault

-- whether the word is `*`, which stands for all
abbrev pub is_all : List ℕ → Bool
is_all word = bytes_eq word (codes "*")

-- the number if there is one, or None if the word stands for all
abbrev pub or_all : Option ℕ → Bool → Option (Option ℕ)
or_all (Some n) all = Some (Some n)
or_all None true = Some None
or_all None false = None

-- a number, or None for `*`
abbrev pub number_or_all : List ℕ → Option (Option ℕ)
number_or_all word = or_all (number_of word) (is_all word)

-- the rule of a number that passes the test, or `*`
abbrev pub passing_choice : {F : Type 0} → (ℕ → F) → (ℕ → Bool) → (ℕ → F) → Rule F
passing_choice bad test fault word = if is_number word then (if test (value word) then None else Some fault) else (if is_all word then None else Some bad)

-- `*`, or a number
unfoldable pub choice : {F : Type 0} → (ℕ → F) → Form F (Option ℕ)
choice bad = known bad number_or_all None

-- `*`, or a number that passes the test
unfoldable pub choice_if : {F : Type 0} → (ℕ → F) → (ℕ → Bool) → (ℕ → F) → Form F (Option ℕ)
choice_if bad test fault = one (passing_choice bad test fault) number_of

unfoldable pub new_name : {F : Type 0} → (ℕ → F) → List (List ℕ) → Form F (List ℕ)
new_name fault names = one (λ word. if is_among names word then Some fault else None) (λ word. word)

unfoldable pub known_name : {F : Type 0} → (ℕ → F) → List (List ℕ) → Form F ℕ
known_name fault names = known fault (number_in names) 0

-- a fixed word, followed by the form
abbrev pub after : {F A : Type 0} → (ℕ → F) → List ℕ → Form F A → Form F A
after fault text form = fixed fault text >>= λ _. form
