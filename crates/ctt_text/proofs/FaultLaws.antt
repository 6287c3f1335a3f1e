-- Which faults the places of a form can have.
use Rattle.std.proofs.Common.{◌≡◌, ℕ, zero, suc, ◌+◌, List, [], ◌∷◌, Bool, true, false, cond, Option, Some, None, Result, Ok, Err, subst, ap}
use Rattle.ctt_text.specs.Left.{Left}
use Rattle.ctt_text.specs.Numbers.{is_number, value, number_of}
use Rattle.ctt_problem.specs.Problem.{is_among, number_in}
use Rattle.ctt_text.specs.Forms.{Rule, Form, done, place, ◌>>=◌, times, read, without_rest}
use Rattle.ctt_text.specs.Places.{one, any, known, broken_unless, exactly, fixed, number, number_if, number_at_most, is_all, choice_if, new_name, known_name}
use Rattle.ctt_text.specs.SideFile.{side_file}
use Rattle.ctt_text.proofs.FormLaws.{read_case}
use Rattle.ctt_problem.proofs.ResultLemmas.{ok_is_err, err_same}

module _ {F : Type 0} (P : F → Type 0) where
  -- each fault of a rule is of this kind
  abbrev pub RuleFaults : Rule F → Type 0
  RuleFaults rule = (word : List ℕ) (broken : ℕ → F) → rule word ≡ Some broken → (k : ℕ) → P (broken k)

  -- each fault of a form is of this kind
  abbrev pub FormFaults : {A : Type 0} → Form F A → Type 0
  FormFaults (done a) = Unit {0}
  FormFaults (place rule next) = RuleFaults rule × ((word : List ℕ) → FormFaults (next word))

  pub bind_faults : {A B : Type 0} (form : Form F A) (g : A → Form F B) → FormFaults form → ((a : A) → FormFaults (g a)) → FormFaults (form >>= g)
  unfolding ◌>>=◌
  bind_faults (done a) g h k = k a
  bind_faults (place rule next) g h k = (h.0, λ word. bind_faults (next word) g (h.1 word) k)

  pub times_faults : {S : Type 0} (step : S → Form F S) → ((s : S) → FormFaults (step s)) → (n : ℕ) (s : S) → FormFaults (times step n s)
  unfolding times
  times_faults step h zero s = tt
  times_faults step h (suc n) s = bind_faults (step s) (times step n) (h s) (times_faults step h n)

  some_same : (a b : ℕ → F) → ◌≡◌ {A = Option (ℕ → F)} (Some a) (Some b) → a ≡ b
  some_same a b h = cc

  none_some : (C : Type 0) (b : ℕ → F) → ◌≡◌ {A = Option (ℕ → F)} None (Some b) → C
  none_some C b h = cc

  -- the fault of a test
  pub test_faults : (b : Bool) (fault broken : ℕ → F) → ((k : ℕ) → P (fault k)) → cond {A = Option (ℕ → F)} b None (Some fault) ≡ Some broken → (k : ℕ) → P (broken k)
  test_faults true fault broken h e k = none_some _ broken e
  test_faults false fault broken h e k = subst (λ f. P (f k)) (some_same fault broken e) (h k)

  two_faults : (b c : Bool) (bad out broken : ℕ → F) → ((k : ℕ) → P (bad k)) → ((k : ℕ) → P (out k)) → cond {A = Option (ℕ → F)} b (cond c None (Some out)) (Some bad) ≡ Some broken → (k : ℕ) → P (broken k)
  two_faults true c bad out broken h l e k = test_faults c out broken l e k
  two_faults false c bad out broken h l e k = subst (λ f. P (f k)) (some_same bad broken e) (h k)

  pub taken_faults : (b : Bool) (fault broken : ℕ → F) → ((k : ℕ) → P (fault k)) → cond {A = Option (ℕ → F)} b (Some fault) None ≡ Some broken → (k : ℕ) → P (broken k)
  taken_faults true fault broken h e k = subst (λ f. P (f k)) (some_same fault broken e) (h k)
  taken_faults false fault broken h e k = none_some _ broken e

  pub any_faults : FormFaults any
  unfolding any one
  any_faults = (λ word broken e k. none_some _ broken e, λ word. tt)

  unless_faults : {A : Type 0} (o : Option A) (fault broken : ℕ → F) → ((k : ℕ) → P (fault k)) → broken_unless fault o ≡ Some broken → (k : ℕ) → P (broken k)
  unless_faults None fault broken h e k = subst (λ f. P (f k)) (some_same fault broken e) (h k)
  unless_faults (Some a) fault broken h e k = none_some _ broken e

  -- a word with or without a meaning
  pub known_faults : {A : Type 0} (fault : ℕ → F) (meaning : List ℕ → Option A) (otherwise : A) → ((k : ℕ) → P (fault k)) → FormFaults (known fault meaning otherwise)
  unfolding known one
  known_faults fault meaning otherwise h = (λ word broken e k. unless_faults (meaning word) fault broken h e k, λ word. tt)

  pub fixed_faults : (fault : ℕ → F) (text : List ℕ) → ((k : ℕ) → P (fault k)) → FormFaults (fixed fault text)
  unfolding fixed
  fixed_faults fault text h = known_faults fault (exactly text) tt h

  pub number_faults : (bad : ℕ → F) → ((k : ℕ) → P (bad k)) → FormFaults (number bad)
  unfolding number
  number_faults bad h = known_faults bad number_of 0 h

  pub number_if_faults : (bad out : ℕ → F) (test : ℕ → Bool) → ((k : ℕ) → P (bad k)) → ((k : ℕ) → P (out k)) → FormFaults (number_if bad test out)
  unfolding number_if one
  number_if_faults bad out test h l = (λ word broken e k. two_faults (is_number word) (test (value word)) bad out broken h l e k, λ word. tt)

  pub at_most_faults : (bad large : ℕ → F) (greatest : ℕ) → ((k : ℕ) → P (bad k)) → ((k : ℕ) → P (large k)) → FormFaults (number_at_most bad greatest large)
  unfolding number_at_most
  at_most_faults bad large greatest h l = number_if_faults bad large _ h l

  pub choice_if_faults : (bad out : ℕ → F) (test : ℕ → Bool) → ((k : ℕ) → P (bad k)) → ((k : ℕ) → P (out k)) → FormFaults (choice_if bad test out)
  unfolding choice_if one
  choice_if_faults bad out test h l = (λ word broken e k. by (is_number word) (test (value word)) (is_all word) broken e k, λ word. tt)
    where
      by : (a b c : Bool) (broken : ℕ → F) → cond {A = Option (ℕ → F)} a (cond b None (Some out)) (cond c None (Some bad)) ≡ Some broken → (k : ℕ) → P (broken k)
      by true b c broken e k = test_faults b out broken l e k
      by false b c broken e k = test_faults c bad broken h e k

  pub new_name_faults : (fault : ℕ → F) (names : List (List ℕ)) → ((k : ℕ) → P (fault k)) → FormFaults (new_name fault names)
  unfolding new_name one
  new_name_faults fault names h = (λ word broken e k. taken_faults (is_among names word) fault broken h e k, λ word. tt)

  pub known_name_faults : (fault : ℕ → F) (names : List (List ℕ)) → ((k : ℕ) → P (fault k)) → FormFaults (known_name fault names)
  unfolding known_name
  known_name_faults fault names h = known_faults fault (number_in names) 0 h

  pub side_file_faults : {S : Type 0} (other bad large : ℕ → F) (label : List ℕ) (entry : S → Form F S) (start : S) → ((k : ℕ) → P (other k)) → ((k : ℕ) → P (bad k)) → ((k : ℕ) → P (large k))
      → ((s : S) → FormFaults (entry s)) → FormFaults (side_file other bad large label entry start)
  unfolding side_file
  side_file_faults other bad large label entry start o b l each =
      bind_faults _ _ (bind_faults _ _ (fixed_faults other _ o) (λ _. at_most_faults bad large 2000000 b l)) (λ count.
      bind_faults _ _ (times_faults entry each count start) (λ all.
      bind_faults _ _ (fixed_faults other _ o) (λ end. tt)))

  -- each fault that parsing gives is of this kind
  pub read_faults : {A : Type 0} (missing : ℕ → F) (form : Form F A) (words : List (List ℕ)) (n : ℕ) (e : F) → ((k : ℕ) → P (missing k)) → FormFaults form → read missing form words n ≡ Err e → P e
  unfolding read
  read_faults missing (done a) words n e m h r = ok_is_err _ _ e r
  read_faults missing (place rule next) [] n e m h r = subst P (err_same _ e r) (m n)
  read_faults missing (place rule next) (w ∷ ws) n e m h r = read_case (P e) (rule w) n (read missing (next w) ws (n + 1)) (Err e) r
      (λ obeyed rest. read_faults missing (next w) ws (n + 1) e m (h.1 w) rest)
      (λ broken is same. subst P (err_same _ e same) (h.0 w broken is n))

  pub answer_faults : {A : Type 0} (missing : ℕ → F) (form : Form F A) (words : List (List ℕ)) (e : F) → ((k : ℕ) → P (missing k)) → FormFaults form → without_rest (read missing form words 1) ≡ Err e → P e
  answer_faults missing form words e m h r = read_faults missing form words 1 e m h (same_err (read missing form words 1) r)
    where
      same_err : {A : Type 0} (x : Result (A × Left) F) → without_rest x ≡ Err e → x ≡ Err e
      same_err (Ok x) h = ok_is_err _ _ e h
      same_err (Err f) h = ap (λ g. Err g) (err_same f e h)
