use Rattle.std.proofs.Common.{◌≡◌, Option, Some, subst, sym}
use Rattle.std.proofs.lemmas.Result.{IfErr-weaker, IfOk-weaker}
use Rattle.std.specs.Prelude.{IsSomeAnd}
use Rattle.clap.specs.Words.{found_of, rows_of, subcommand_rows_of}
use Rattle.ctt_words.specs.Jobs.{IsAskedBy, IsAskedIn, IsMatched, IsNoJobIn, IsRefusedBy}
use Rattle.ctt_words.specs.Matched.{IsWhole}
use Rattle.ctt_words.specs.declared.outline.Name.{Name}
use Rattle.ctt_words.proofs.Matches.{matched_so}
use Rattle.ctt_words.proofs.words.asked_in.Goals as goal

pub unreachable-requires-in_default-command_named : goal.unreachable-requires-in_default-command_named
unreachable-requires-in_default-command_named c =
    let rows = rows_of (found_of c.in-Some.given.now) in
    let found : subcommand_rows_of c.args.matches.now ≡ Some (c.in-Some.name.now, rows) = matched_so _ _ _ c.in-Some.name.now rows c.in-Some.ensures.name c.in-Some.ensures.rows in
    subst (λ (o : Option Name). IsSomeAnd o (λ command. IsWhole command rows)) (sym c.in_default-command_named.ensures) (subst IsMatched found c.requires)

pub asked_by-requires : goal.asked_by-requires
asked_by-requires c =
    let rows = rows_of (found_of c.in-Some.given.now) in
    let found : subcommand_rows_of c.args.matches.now ≡ Some (c.in-Some.name.now, rows) = matched_so _ _ _ c.in-Some.name.now rows c.in-Some.ensures.name c.in-Some.ensures.rows in
    subst (λ (o : Option Name). IsSomeAnd o (λ command. IsWhole command rows)) (sym c.in-Some-command_named.ensures) (subst IsMatched found c.requires)

pub returns-clause-asked : goal.returns-clause-asked
returns-clause-asked c =
    let rows = rows_of (found_of c.in-Some.given.now) in
    let found : subcommand_rows_of c.args.matches.now ≡ Some (c.in-Some.name.now, rows) = matched_so _ _ _ c.in-Some.name.now rows c.in-Some.ensures.name c.in-Some.ensures.rows in
    IfOk-weaker c.asked_by.result _ _ (λ asked is. subst (λ matched. IsAskedIn matched asked) (sym found)
    (subst (λ (o : Option Name). IsSomeAnd o (λ command. IsAskedBy command rows asked)) c.in-Some-command_named.ensures is)) c.asked_by.ensures.asked

pub returns-clause-fault : goal.returns-clause-fault
returns-clause-fault c =
    let rows = rows_of (found_of c.in-Some.given.now) in
    let found : subcommand_rows_of c.args.matches.now ≡ Some (c.in-Some.name.now, rows) = matched_so _ _ _ c.in-Some.name.now rows c.in-Some.ensures.name c.in-Some.ensures.rows in
    IfErr-weaker c.asked_by.result _ _ (λ fault is. subst (λ matched. IsNoJobIn matched fault) (sym found)
    (subst (λ (o : Option Name). IsSomeAnd o (λ command. IsRefusedBy command rows fault)) c.in-Some-command_named.ensures is)) c.asked_by.ensures.fault
