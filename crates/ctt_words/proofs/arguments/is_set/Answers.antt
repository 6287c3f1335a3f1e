use Rattle.std.proofs.Common.{◌∙◌}
use Rattle.clap.specs.Words.{found_of, one_of, rows_of}
use Rattle.clap.proofs.WalkLemmas.{one_text-rows}
use Rattle.ctt_words.proofs.Given.{flag_is_on}
use Rattle.ctt_words.proofs.arguments.is_set.Goals as goal

pub returns : goal.returns
returns c =
    let found = found_of c.args.given.now in
    let same = one_text-rows found c.args.id.now in
    flag_is_on (one_of c.args.id.now (rows_of found)) c.get_flag.result c.requires
    (λ none. c.get_flag.ensures.none (same ∙ none)) (λ on. c.get_flag.ensures.value (same ∙ on)) (λ off. c.get_flag.ensures.other (same ∙ off))
