use Rattle.std.proofs.Common.{append-nil, string_bytes, sym}
use Rattle.ctt_views.specs.Sections.{blocked_section}
use Rattle.ctt_views.proofs.sections.push_blocked.Goals as goal

pub returns-then-blocked : goal.returns-then-blocked
unfolding blocked_section
returns-then-blocked c = rw c.if-blocked.true (rw (c.head_of-head.ensures.kind, c.head_of-head.ensures.title, c.head_of-head.ensures.count, c.head_of-head.ensures.noun) at c.push_section.ensures)

pub returns-else-blocked : goal.returns-else-blocked
unfolding blocked_section
returns-else-blocked c = rw c.if-blocked.false (sym (append-nil (string_bytes c.args.page.now)))
