use Rattle.std.proofs.Common.{◌≡◌, ◌∙◌, ⊎_elim, ap, inl, inr, refl, subst, sym, Bool, IfSome, List, Option, Some, ◌⊎◌, true, ℕ}
use Rattle.std.specs.Io.KnownBytes.{Appends}
use Rattle.std.specs.Prelude.{is_some}
use Rattle.std.specs.String.{string_bytes}
use Rattle.ctt_problem.specs.Problem.{Problem}
use Rattle.ctt_problem.specs.declared.placed.Placed.{Placed}
use Rattle.ctt_edits.specs.Openings.{opening}
use Rattle.ctt_files.specs.Faults.{IfUnwritten}
use Rattle.ctt_files.specs.Storing.{IsGiven}
use Rattle.ctt_files.specs.Texts.{Held, Holds, IsStart}
use Rattle.ctt_files.proofs.Plain.{behind_instance, instance_in_plain, on_ok_weaker, passed_on, passed_plain, plain_written, start_plain, unwritten_more}
use Rattle.ctt_commands.specs.Refusals.{IsOfRun, IsOfScript}
use Rattle.ctt_files.proofs.OutputLemmas.{on_err, whole_front}
use Rattle.ctt_commands.specs.Runs.{Answered, AnswersScript}
use Rattle.ctt_commands.proofs.Openings.{answer_in, journal_stored, some_weaker, told_through, unstored_after}
use Rattle.ctt_commands.proofs.running.run.Goals as goal

pub returns-in_err-instance-clause-cause : goal.returns-in_err-instance-clause-cause
returns-in_err-instance-clause-cause g c =
    let held : Held = g.F.Files.held c.args.files.now in
    passed_plain c.from_residual.result c.in_err-instance.field-0.0 _ _ (IsOfRun held c.args.instance c.args.sides c.args.script c.args.start) c.from_residual.ensures.1
    (instance_in_plain held c.args.instance c.args.sides c.in_err-instance.field-0.0 c.in_err-instance.ensures.cause) (inl c.in_err-instance.ensures.cause) refl

pub returns-in_err-instance-clause-unstored : goal.returns-in_err-instance-clause-unstored
returns-in_err-instance-clause-unstored g c =
    passed_on c.from_residual.result c.in_err-instance.field-0.0 _ c.from_residual.ensures.1
    (plain_written c.in_err-instance.field-0.0 _ _ (instance_in_plain (g.F.Files.held c.args.files.now) c.args.instance c.args.sides c.in_err-instance.field-0.0 c.in_err-instance.ensures.cause) c.in_err-instance.ensures.kept)

pub returns-in-Err-clause-cause : goal.returns-in-Err-clause-cause
returns-in-Err-clause-cause g c =
    let held : Held = g.F.Files.held c.args.files.now in
    let problem : Problem = c.in_ok-instance.instance in
    plain_written c.in-Err.fault _ _ (start_plain c.args.start _ problem c.in-Err.fault c.in-Err.ensures.cause) (
      behind_instance (IsOfScript c.args.script c.args.start) held _ c.args.instance c.args.sides problem c.in-Err.fault c.in_ok-instance.ensures.spelled (c.in-Ok.ensures.kept ∙ c.in_ok-instance.ensures.kept) (inr (inl (inl c.in-Err.ensures.cause))),
      refl,
    )

pub returns-in_err-answered-clause-cause : goal.returns-in_err-answered-clause-cause
returns-in_err-answered-clause-cause g c =
    let held : Held = g.F.Files.held c.args.files.now in
    let later : Held = g.F.Files.held c.fetch_instance.new.files in
    let problem : Problem = c.in_ok-instance.instance in
    let fault = c.in_err-answered.field-0.0 in
    let left : Option (List ℕ) = g.F.Input.Source.left c.in-Ok.input in
    let whole : Holds later c.args.script (λ text. left ≡ Some text) = subst (λ name. IfSome (later name) (λ text. left ≡ Some text)) c.deref.ensures c.in-Ok.ensures.whole in
    let start : IsStart problem later c.args.start c.deref-2.result.now =
    subst (IsStart problem later c.args.start) (sym c.deref-2.ensures.value) (subst (λ (known : Held). IsStart problem known c.args.start c.in-Ok-fetch_start.lectures.items) c.in-Ok.ensures.kept c.in-Ok-fetch_start.ensures.spelled) in
    passed_on c.from_residual-in_err-answered.result fault
    (λ told. IfUnwritten told ((g.W.Sink.has_failed c.answer-answered.new.out ≡ true) ⊎ (IsGiven c.args.journal × AnswersScript (Appends (g.W.Sink.taken c.args.out.now) (g.W.Sink.taken c.answer-answered.new.out)) c.args.instance c.args.sides c.args.script c.args.start held)) (IsOfRun held c.args.instance c.args.sides c.args.script c.args.start told × (g.W.Sink.has_failed c.answer-answered.new.out ≡ g.W.Sink.has_failed c.args.out.now)))
    c.from_residual-in_err-answered.ensures.1
    (unwritten_more fault _ _ _ _ inl
    (λ why. (
      behind_instance (IsOfScript c.args.script c.args.start) held later c.args.instance c.args.sides problem fault c.in_ok-instance.ensures.spelled c.in_ok-instance.ensures.kept
          (answer_in problem c.deref-2.result.now c.args.script c.args.start later left fault whole start why.0),
      why.1,
    )) c.in_err-answered.ensures.cause)

pub returns-clause-runs : goal.returns-clause-runs
returns-clause-runs g c =
    let held : Held = g.F.Files.held c.args.files.now in
    let later : Held = g.F.Files.held c.fetch_instance.new.files in
    let problem : Problem = c.in_ok-instance.instance in
    let left : Option (List ℕ) = g.F.Input.Source.left c.in-Ok.input in
    let answers = c.in_ok-answered.ensures.answers in
    let opened : List Placed = answers.0 in
    let old = g.W.Sink.taken c.args.out.now in
    let new = g.W.Sink.taken c.answer-answered.new.out in
    let text : List ℕ = c.deref-3.result.now in
    let kept : g.F.Files.held c.fetch_start.new.files ≡ held = c.in-Ok-fetch_start.ensures.kept ∙ c.in-Ok.ensures.kept ∙ c.in_ok-instance.ensures.kept in
    let same : later ≡ held = c.in_ok-instance.ensures.kept in
    let read : Holds later c.args.script (λ text. left ≡ Some text) = subst (λ name. IfSome (later name) (λ text. left ≡ Some text)) c.deref.ensures c.in-Ok.ensures.whole in
    let whole : Holds held c.args.script (λ text. left ≡ Some text) = subst (λ (known : Held). Holds known c.args.script (λ text. left ≡ Some text)) same read in
    let found : Holds held c.args.script (λ script. Answered problem opened script old new c.is_some-wanted.result c.in_ok-answered.field-0.items) = told_through (held (string_bytes c.args.script)) left _ whole answers.2 in
    let answered : Holds held c.args.script (λ script. Answered problem opened script old new (is_some c.args.journal) text) =
    subst (λ (wanted : Bool). Holds held c.args.script (λ script. Answered problem opened script old new wanted text)) c.is_some-wanted.ensures
    (subst (λ (bytes : List ℕ). Holds held c.args.script (λ script. Answered problem opened script old new c.is_some-wanted.result bytes)) (sym c.deref-3.ensures.value) found) in
    on_ok_weaker c.store_journal.result _ _ (λ stores. record {
      problem = problem;
      is_instance = c.in_ok-instance.ensures.spelled;
      lectures = c.in-Ok-fetch_start.lectures.items;
      is_start = subst (λ (known : Held). IsStart problem known c.args.start c.in-Ok-fetch_start.lectures.items) (c.in-Ok.ensures.kept ∙ same) c.in-Ok-fetch_start.ensures.spelled;
      opened = opened;
      opens = ap (opening problem) (sym c.deref-2.ensures.value) ∙ answers.1;
      short = some_weaker (held (string_bytes c.args.script)) _ _ answered (λ script all. all.short);
      prints = some_weaker (held (string_bytes c.args.script)) _ _ answered (λ script all. all.prints);
      stores = journal_stored c.args.journal held _ _ (held (string_bytes c.args.script)) problem opened old new text kept answered stores;
    }) c.store_journal.ensures.stores

pub returns-in_err-answered-clause-front : goal.returns-in_err-answered-clause-front
returns-in_err-answered-clause-front g c =
    let held : Held = g.F.Files.held c.args.files.now in
    let later : Held = g.F.Files.held c.fetch_instance.new.files in
    let problem : Problem = c.in_ok-instance.instance in
    let left : Option (List ℕ) = g.F.Input.Source.left c.in-Ok.input in
    let same : later ≡ held = c.in_ok-instance.ensures.kept in
    let read : Holds later c.args.script (λ text. left ≡ Some text) = subst (λ name. IfSome (later name) (λ text. left ≡ Some text)) c.deref.ensures c.in-Ok.ensures.whole in
    let whole : Holds held c.args.script (λ text. left ≡ Some text) = subst (λ (known : Held). Holds known c.args.script (λ text. left ≡ Some text)) same read in
    on_err c.from_residual-in_err-answered.result (⊎_elim inl (λ front. inr (record {
      problem = problem;
      is_instance = c.in_ok-instance.ensures.spelled;
      lectures = c.in-Ok-fetch_start.lectures.items;
      is_start = subst (λ (known : Held). IsStart problem known c.args.start c.in-Ok-fetch_start.lectures.items) (c.in-Ok.ensures.kept ∙ same) c.in-Ok-fetch_start.ensures.spelled;
      opened = front.0;
      opens = ap (opening problem) (sym c.deref-2.ensures.value) ∙ front.1;
      prints = told_through (held (string_bytes c.args.script)) left _ whole front.2;
    })) c.in_err-answered.ensures.front)

pub returns-clause-front : goal.returns-clause-front
returns-clause-front g c =
    let held : Held = g.F.Files.held c.args.files.now in
    let later : Held = g.F.Files.held c.fetch_instance.new.files in
    let problem : Problem = c.in_ok-instance.instance in
    let left : Option (List ℕ) = g.F.Input.Source.left c.in-Ok.input in
    let answers = c.in_ok-answered.ensures.answers in
    let same : later ≡ held = c.in_ok-instance.ensures.kept in
    let read : Holds later c.args.script (λ text. left ≡ Some text) = subst (λ name. IfSome (later name) (λ text. left ≡ Some text)) c.deref.ensures c.in-Ok.ensures.whole in
    let whole : Holds held c.args.script (λ text. left ≡ Some text) = subst (λ (known : Held). Holds known c.args.script (λ text. left ≡ Some text)) same read in
    on_err c.store_journal.result (inr (record {
      problem = problem;
      is_instance = c.in_ok-instance.ensures.spelled;
      lectures = c.in-Ok-fetch_start.lectures.items;
      is_start = subst (λ (known : Held). IsStart problem known c.args.start c.in-Ok-fetch_start.lectures.items) (c.in-Ok.ensures.kept ∙ same) c.in-Ok-fetch_start.ensures.spelled;
      opened = answers.0;
      opens = ap (opening problem) (sym c.deref-2.ensures.value) ∙ answers.1;
      prints = some_weaker (held (string_bytes c.args.script)) _ _ (told_through (held (string_bytes c.args.script)) left _ whole answers.2) (λ script all. whole_front _ _ _ all.prints);
    }))

pub returns-clause-cause : goal.returns-clause-cause
returns-clause-cause g c =
    let held : Held = g.F.Files.held c.args.files.now in
    let later : Held = g.F.Files.held c.fetch_instance.new.files in
    let problem : Problem = c.in_ok-instance.instance in
    let left : Option (List ℕ) = g.F.Input.Source.left c.in-Ok.input in
    let answers = c.in_ok-answered.ensures.answers in
    let same : later ≡ held = c.in_ok-instance.ensures.kept in
    let read : Holds later c.args.script (λ text. left ≡ Some text) = subst (λ name. IfSome (later name) (λ text. left ≡ Some text)) c.deref.ensures c.in-Ok.ensures.whole in
    let whole : Holds held c.args.script (λ text. left ≡ Some text) = subst (λ (known : Held). Holds known c.args.script (λ text. left ≡ Some text)) same read in
    unstored_after c.store_journal.result _ _ _ _ c.store_journal.ensures.fault (record {
      problem = problem;
      is_instance = c.in_ok-instance.ensures.spelled;
      lectures = c.in-Ok-fetch_start.lectures.items;
      is_start = subst (λ (known : Held). IsStart problem known c.args.start c.in-Ok-fetch_start.lectures.items) (c.in-Ok.ensures.kept ∙ same) c.in-Ok-fetch_start.ensures.spelled;
      opened = answers.0;
      opens = ap (opening problem) (sym c.deref-2.ensures.value) ∙ answers.1;
      prints = some_weaker (held (string_bytes c.args.script)) _ _ (told_through (held (string_bytes c.args.script)) left _ whole answers.2) (λ script all. all.prints);
    })
