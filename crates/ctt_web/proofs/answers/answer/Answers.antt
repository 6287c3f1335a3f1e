use Rattle.std.proofs.Common.{◌≡◌, ◌∙◌, ⊎_elim, inl, inr, subst, sym}
use Rattle.ctt_files.specs.Refusals.{IsOfInstanceOr, IsOfSolution}
use Rattle.ctt_web.specs.Answers.{AnswersIn, IsRefused}
use Rattle.ctt_web.specs.Asked.{held_of, part_of}
use Rattle.ctt_web.proofs.PageLemmas.{held_here}
use Rattle.ctt_web.proofs.answers.answer.Goals as goal

pub returns-in-Ok-clause-answers : goal.returns-in-Ok-clause-answers
returns-in-Ok-clause-answers c =
    let names = c.in_ok-names.names in
    let bytes = c.args.bytes.now in
    let asked = c.args.asked.now in
    let days : c.deref.result.now ≡ part_of bytes asked.days = c.deref.ensures ∙ c.in_ok-days.ensures.name in
    record {
      names = names;
      are_names = c.in_ok-names.ensures.names;
      answers = subst (λ told. AnswersIn c.args.wanted (held_of bytes asked) names told c.in-Ok.text.items) days
          (held_here (λ held. AnswersIn c.args.wanted held names c.deref.result.now c.in-Ok.text.items) c.new-files.result bytes asked c.new-files.ensures.bytes c.new-files.ensures.asked c.in-Ok.ensures.answers);
    }

pub returns-clause-cause : goal.returns-clause-cause
returns-clause-cause c =
    let names = c.in_ok-names.names in
    let bytes = c.args.bytes.now in
    let asked = c.args.asked.now in
    ⊎_elim (λ same. subst (λ fault. IsRefused bytes asked fault) (sym same) (inr (inr (inl (record {
      names = names;
      are_names = c.in_ok-names.ensures.names;
      cause = held_here (λ held. IsOfInstanceOr (IsOfSolution names.solution) held names.instance names.sides c.in-Err.fault) c.new-files.result bytes asked c.new-files.ensures.bytes c.new-files.ensures.asked c.in-Err.ensures.cause;
    }))))) (λ none. inr (inr (inr none))) c.in_memory.ensures.kept
