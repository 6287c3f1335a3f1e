use Rattle.std.proofs.Common.{◌∙◌, ap, sym, List, Some, option_map, Bor, ℕ, Option}
use Rattle.std.proofs.lemmas.Result.{IfOk-weaker}
use Rattle.clap.specs.Words.{first_of, found_of, rows_of}
use Rattle.clap.proofs.CallerLemmas.{some_of_text}
use Rattle.ctt_words.proofs.arguments.text.Goals as goal

pub unwrap-requires : goal.unwrap-requires
unwrap-requires c =
    some_of_text (λ (s : Bor (List ℕ)). s.now) c.given_text.result (first_of c.args.id.now (rows_of (found_of c.args.given.now))) c.given_text.ensures c.requires

pub returns : goal.returns
returns c =
    let given : Option (Bor (List ℕ)) → Option (List ℕ) = option_map (λ s. s.now) in
    IfOk-weaker c.from_str.result _ _ (λ text is. sym c.given_text.ensures ∙ ap given c.unwrap.ensures ∙ ap Some (sym is)) c.from_str.ensures.ok
