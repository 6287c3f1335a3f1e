use Rattle.std.proofs.Common.{◌≡◌, ◌∙◌, ◌⊎◌, [], ap, subst, sym, List, ℕ, map}
use Rattle.std.proofs.lemmas.Result.{IfErr-weaker, IfOk-weaker}
use Rattle.clap.specs.Words.{IsAmong, fault_of, is_simple, is_simple_and_free, kind_of, subcommand_of, subcommand_rows_of}
use Rattle.clap.specs.declared.error.kind.ErrorKind.TheVariants.{OutOfMemory}
use Rattle.ctt_words.specs.CommandLine.{timedesk}
use Rattle.ctt_words.specs.Jobs.{IsAskedIn, IsMatched, IsNoJobIn, faults_of}
use Rattle.ctt_words.proofs.Matches.{of_kinds, of_matches, on_ok, refused_says, refused_taken, timedesk_free, timedesk_simple}
use Rattle.ctt_words.proofs.Taken.{taken_is_whole}
use Rattle.ctt_words.proofs.words.read_words.Goals as goal

pub asked_in-requires : goal.asked_in-requires
asked_in-requires c =
    let same = c.in_ok-command.ensures.reads_by in
    let words : List (List ℕ) = map (λ w. w.now) c.args.words.now in
    let none : faults_of words ≡ [] = sym (ap (λ app. fault_of app words) same) ∙ c.in-Ok.ensures.kinds (ap is_simple_and_free same ∙ timedesk_free) in
    let found : subcommand_rows_of c.in-Ok.matches ≡ subcommand_of timedesk words =
    (c.in-Ok.ensures.matches (ap is_simple same ∙ timedesk_simple)).1 ∙ ap (λ app. subcommand_of app words) same in
    subst IsMatched (sym found) (taken_is_whole words none)

pub returns-in-Ok-clause-asked : goal.returns-in-Ok-clause-asked
returns-in-Ok-clause-asked c =
    let same = c.in_ok-command.ensures.reads_by in
    let words : List (List ℕ) = map (λ w. w.now) c.args.words.now in
    let found : subcommand_rows_of c.in-Ok.matches ≡ subcommand_of timedesk words =
    (c.in-Ok.ensures.matches (ap is_simple same ∙ timedesk_simple)).1 ∙ ap (λ app. subcommand_of app words) same in
    IfOk-weaker c.asked_in.result _ _ (λ asked is. subst (λ matched. IsAskedIn matched asked) found is) c.asked_in.ensures.asked

pub returns-in-Ok-clause-taken : goal.returns-in-Ok-clause-taken
returns-in-Ok-clause-taken c =
    let same = c.in_ok-command.ensures.reads_by in
    let words : List (List ℕ) = map (λ w. w.now) c.args.words.now in
    let none : faults_of words ≡ [] = sym (ap (λ app. fault_of app words) same) ∙ c.in-Ok.ensures.kinds (ap is_simple_and_free same ∙ timedesk_free) in
    on_ok c.asked_in.result _ none

pub returns-in-Ok-clause-fault : goal.returns-in-Ok-clause-fault
returns-in-Ok-clause-fault c =
    let same = c.in_ok-command.ensures.reads_by in
    let words : List (List ℕ) = map (λ w. w.now) c.args.words.now in
    let none : faults_of words ≡ [] = sym (ap (λ app. fault_of app words) same) ∙ c.in-Ok.ensures.kinds (ap is_simple_and_free same ∙ timedesk_free) in
    let found : subcommand_rows_of c.in-Ok.matches ≡ subcommand_of timedesk words =
    (c.in-Ok.ensures.matches (ap is_simple same ∙ timedesk_simple)).1 ∙ ap (λ app. subcommand_of app words) same in
    IfErr-weaker c.asked_in.result _ _ (λ fault is. of_matches words fault none (subst (λ matched. IsNoJobIn matched fault) found is)) c.asked_in.ensures.fault

pub returns-in-Ok-clause-refused : goal.returns-in-Ok-clause-refused
returns-in-Ok-clause-refused c said refused =
    let same = c.in_ok-command.ensures.reads_by in
    let words : List (List ℕ) = map (λ w. w.now) c.args.words.now in
    let found : subcommand_rows_of c.in-Ok.matches ≡ subcommand_of timedesk words =
    (c.in-Ok.ensures.matches (ap is_simple same ∙ timedesk_simple)).1 ∙ ap (λ app. subcommand_of app words) same in
    refused_says words said c.asked_in.result (IfOk-weaker c.asked_in.result _ _ (λ asked is. subst (λ matched. IsAskedIn matched asked) found is) c.asked_in.ensures.asked)
    (IfErr-weaker c.asked_in.result _ _ (λ fault is. subst (λ matched. IsNoJobIn matched fault) found is) c.asked_in.ensures.fault) refused

pub returns-in-Err-clause-fault : goal.returns-in-Err-clause-fault
returns-in-Err-clause-fault c =
    let same = c.in_ok-command.ensures.reads_by in
    let words : List (List ℕ) = map (λ w. w.now) c.args.words.now in
    let kind = kind_of c.in-Err.error in
    of_kinds words kind c.fault_of_words.result c.fault_of_words.ensures
    (subst (λ app. (kind ≡ OutOfMemory) ⊎ IsAmong kind (fault_of app words)) same (c.in-Err.ensures.kinds (ap is_simple_and_free same ∙ timedesk_free)))

pub returns-in-Err-clause-refused : goal.returns-in-Err-clause-refused
returns-in-Err-clause-refused c said refused =
    let same = c.in_ok-command.ensures.reads_by in
    let words : List (List ℕ) = map (λ w. w.now) c.args.words.now in
    let kind = kind_of c.in-Err.error in
    refused_taken words said kind c.fault_of_words.result
    (subst (λ app. (kind ≡ OutOfMemory) ⊎ IsAmong kind (fault_of app words)) same (c.in-Err.ensures.kinds (ap is_simple_and_free same ∙ timedesk_free)))
    c.fault_of_words.ensures refused
