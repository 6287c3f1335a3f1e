use Rattle.std.proofs.Common.{◌≡◌, ◌∙◌, ◌||◌, ◌++◌, ap, drop, flat_map, rules, subst, sym, take, take-append-drop}
use Rattle.std.specs.Str.{IsUtf8}
use Rattle.std.proofs.lemmas.Option.{IfSome_then}
use Rattle.std.proofs.lemmas.Result.{IfErr-weaker, IfOk-weaker, MatchResult-from_both}
use Rattle.ctt_script.specs.WrittenText.{entry_text}
use Rattle.ctt_log.specs.Recovery.{IsLinesFault, IsReadOf, IsTornIn}
use Rattle.ctt_log.proofs.RecoveryLemmas.{cut_all, lines_are_text, more_than, only_memory, read_first}
use Rattle.ctt_log.proofs.blocks.read_blocks.Goals as goal

pub returns-in-Ok-clause-recovered : goal.returns-in-Ok-clause-recovered
returns-in-Ok-clause-recovered c =
    let i = c.args.instance.now in
    let text = c.args.text.now in
    let len = c.lines_len-len.result in
    let same : c.in-Ok.lines.now ≡ take len text = search rules in
    IfOk-weaker c.read_lines.result _ _ (λ b r. record {
      lines = take len text;
      tail = drop len text;
      all = sym (take-append-drop len text);
      ends = c.lines_len-len.ensures.ends;
      unended = c.lines_len-len.ensures.unended;
      lacks = r.0;
      reads_them = subst (λ lines. IsReadOf i lines b.entries.items r.0) same r.1;
      torn_is = r.2 ∙ ap (λ cut. r.0 || cut) (more_than len text);
    }) c.read_lines.ensures.read

pub returns-in-Ok-clause-torn : goal.returns-in-Ok-clause-torn
returns-in-Ok-clause-torn c =
    let i = c.args.instance.now in
    let text = c.args.text.now in
    let len = c.lines_len-len.result in
    let same : c.in-Ok.lines.now ≡ take len text = search rules in
    IfOk-weaker c.read_lines.result _ _ (λ b torn. IfSome_then b.torn torn (λ at is. record {
      lines = take len text;
      tail = drop len text;
      all = sym (take-append-drop len text);
      ends = c.lines_len-len.ensures.ends;
      unended = c.lines_len-len.ensures.unended;
      torn = subst (λ lines. IsTornIn i lines b.entries.items at) same is;
    })) c.read_lines.ensures.torn

pub returns-in-Ok-clause-cut : goal.returns-in-Ok-clause-cut
returns-in-Ok-clause-cut c = λ entries n fit utf8 cut.
    let i = c.args.instance.now in
    let text = c.args.text.now in
    let len = c.lines_len-len.result in
    let all = flat_map (entry_text i) entries in
    let same : c.in-Ok.lines.now ≡ take len text = search rules in
    let behind = drop len text ++ drop n all in
    let parts : all ≡ take len text ++ behind = cut_all all text (take len text) (drop len text) n cut (sym (take-append-drop len text)) in
    let ends = c.lines_len-len.ensures.ends in
    MatchResult-from_both c.read_lines.result _ _
    (IfOk-weaker c.read_lines.result _ _ (λ b r. read_first i c.limits_hold.ensures c.names_are_words.ensures entries b.entries.items (take len text) behind r.0 fit parts ends (subst (λ lines. IsReadOf i lines b.entries.items r.0) same r.1)) c.read_lines.ensures.read)
    (IfErr-weaker c.read_lines.result _ _ (λ fault cause. only_memory i c.limits_hold.ensures c.names_are_words.ensures entries (take len text) behind fault fit parts ends (subst (λ lines. IsLinesFault i lines fault) same cause)) c.read_lines.ensures.fault)

pub returns-in-Err-clause-cut : goal.returns-in-Err-clause-cut
returns-in-Err-clause-cut c = λ entries n fit utf8 cut.
    let i = c.args.instance.now in
    let text = c.args.text.now in
    let len = c.lines_len-len.result in
    let all = flat_map (entry_text i) entries in
    let parts : all ≡ take len text ++ (drop len text ++ drop n all) = cut_all all text (take len text) (drop len text) n cut (sym (take-append-drop len text)) in
    let none : ¬ IsUtf8 (take len text) = search rules in
    absurd (none (lines_are_text (take len text) (drop len text ++ drop n all) all c.lines_len-len.ensures.ends utf8 parts))
