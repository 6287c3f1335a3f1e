use Rattle.std.proofs.Common.{◌≡◌, ◌∙◌, [], ap, sym, subst, Ok, true≢false}
use Rattle.std.proofs.lemmas.Result.{err_from_is_err_and}
use Rattle.ctt_text.specs.Reading.{Fails}
use Rattle.ctt_text.specs.SolutionPlaces.{lacks_memory}
use Rattle.ctt_text.proofs.SolutionSteps.{words_fewer, entries_go_on, entries_fail, entries_end}
use Rattle.ctt_text.proofs.solution.read.read_lectures.Goals as goal

pub loop-reader-smaller : goal.loop-reader-smaller
loop-reader-smaller c = words_fewer c.args.instance.now c.loop-reader.lectures.list c.loop-reader.reader c.read_entry.new.lectures.list c.read_entry.new.reader c.in_ok-read_entry.ensures.exact

pub loop-reader-preserved : goal.loop-reader-preserved
loop-reader-preserved c = record {
  problem = c.in_ok-read_entry.ensures.problem ∙ c.loop-reader.invariant.problem;
  parsed = sym (entries_go_on c.args.instance.now c.loop-reader.lectures.list c.loop-reader.reader c.read_entry.new.lectures.list c.read_entry.new.reader c.in_ok-read_entry.ensures.exact) ∙ c.loop-reader.invariant.parsed;
}

pub returns-in_err-read_entry : goal.returns-in_err-read_entry
returns-in_err-read_entry c =
    let p = err_from_is_err_and c.from_residual-in_err-read_entry.result c.from_residual-in_err-read_entry.ensures.1 in
    let some : c.loop-reader.reader.words ≡ [] → ⊥ = λ none. true≢false (sym (c.is_at_end.ensures.1 none) ∙ c.loop-reader-test.true) in
    rw (p.1, p.2)
    (subst (λ r. Fails lacks_memory c.in_err-read_entry.field-0.0 r) c.loop-reader.invariant.parsed
    (entries_fail c.args.instance.now c.loop-reader.lectures.list c.loop-reader.reader c.in_err-read_entry.field-0.0 some c.in_err-read_entry.ensures.exact))

pub returns : goal.returns
returns c =
    let none : c.loop-reader.reader.words ≡ [] = c.is_at_end.ensures.0 c.loop-reader-test.false in
    sym c.loop-reader.invariant.parsed
    ∙ entries_end c.args.instance.now c.loop-reader.lectures.list c.loop-reader.reader none
    ∙ ap (λ t. Ok (t, c.loop-reader.reader)) (sym c.in_ok-into_list.ensures)
