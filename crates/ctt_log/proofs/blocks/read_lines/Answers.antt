use Rattle.std.proofs.Common.{is_some, subst}
use Rattle.std.proofs.lemmas.Option.{IfSome_then}
use Rattle.ctt_log.specs.Recovery.{AreEntries}
use Rattle.ctt_log.proofs.RecoveryLemmas.{entries_fit, entries_hold, entries_short}
use Rattle.ctt_log.proofs.TornLemmas.{stop_tail}
use Rattle.ctt_log.proofs.blocks.read_lines.Goals as goal

pub returns-clause-read : goal.returns-clause-read
returns-clause-read c =
    let i = c.args.instance.now in
    let entries = c.read_whole.new.entries.items in
    let r = c.in-Ok.ensures.read in (
      is_some c.in-Ok.lacks,
      record {
        rest = r.0;
        reads_them = subst (λ left. AreEntries i left entries r.0) c.new-reader.ensures r.1;
        stops = stop_tail i r.0 c.in-Ok.lacks r.2;
      },
      c.torn_at.ensures.torn,
    )

pub returns-clause-torn : goal.returns-clause-torn
returns-clause-torn c =
    let i = c.args.instance.now in
    let entries = c.read_whole.new.entries.items in
    let r = c.in-Ok.ensures.read in
    IfSome_then c.torn_at.result c.torn_at.ensures.place (λ at torn. record {
      lacks = c.in-Ok.lacks;
      rest = r.0;
      reads_them = subst (λ left. AreEntries i left entries r.0) c.new-reader.ensures r.1;
      stops = r.2;
      torn = torn;
    })

pub returns-clause-fits : goal.returns-clause-fits
returns-clause-fits c =
    let i = c.args.instance.now in
    let entries = c.read_whole.new.entries.items in
    entries_fit i entries (entries_hold i c.limits_hold.ensures c.new-reader.result c.in-Ok.ensures.read.0 entries c.in-Ok.ensures.read.1)

pub returns-clause-short : goal.returns-clause-short
returns-clause-short c =
    let i = c.args.instance.now in
    let entries = c.read_whole.new.entries.items in
    entries_short i entries (entries_hold i c.limits_hold.ensures c.new-reader.result c.in-Ok.ensures.read.0 entries c.in-Ok.ensures.read.1)
