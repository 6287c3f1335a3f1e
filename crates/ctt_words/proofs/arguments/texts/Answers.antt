use Rattle.std.proofs.Common.{◌≡◌, ◌∙◌, ◌++◌, ap, sym, List, map, option_map, Bor, ℕ, Option, Some, string_bytes}
use Rattle.std.proofs.lemmas.List.{append-nil, drop_all}
use Rattle.clap.specs.Words.{all_of, found_of, rows_of}
use Rattle.clap.proofs.CallerLemmas.{some_of_text}
use Rattle.ctt_words.proofs.Given.{all_are_given, has_all}
use Rattle.ctt_words.proofs.arguments.texts.Goals as goal

pub unwrap-found-requires : goal.unwrap-found-requires
unwrap-found-requires c =
    let rows = rows_of (found_of c.args.given.now) in
    some_of_text (λ (s : Bor (List (Bor (List ℕ)))). map (λ v. v.now) s.now) c.given_texts.result (all_of c.args.id.now rows) c.given_texts.ensures (all_are_given c.args.id.now rows c.requires)

pub returns : goal.returns
returns c =
    let given : Option (Bor (List (Bor (List ℕ)))) → Option (List (List ℕ)) = option_map (λ s. map (λ v. v.now) s.now) in
    let texts = c.unwrap-found.result.now in
    let owned = map string_bytes c.loop-text.owned.items in
    let copied : owned ≡ map (λ text. text.now) texts = sym (append-nil owned)
    ∙ ap (λ left. owned ++ map (λ text. text.now) left) (sym (drop_all c.loop-text.text-index texts c.loop-text-test.false)) ∙ c.loop-text.invariant in
    has_all c.args.id.now (rows_of (found_of c.args.given.now)) c.loop-text.owned.items c.requires (sym c.given_texts.ensures ∙ ap given c.unwrap-found.ensures ∙ ap Some (sym copied))
