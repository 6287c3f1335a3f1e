use Rattle.std.proofs.Common.{codes, string_bytes}
use Rattle.ctt_problem.specs.Problem.{has_blocked}
use Rattle.ctt_views.specs.Sections.{blocked_section, broken_rules, section}
use Rattle.ctt_views.proofs.TextLemmas.{seven_in}
use Rattle.ctt_views.proofs.sections.push_broken_rules.Goals as goal

pub returns : goal.returns
unfolding broken_rules
returns c =
    let i = c.args.instance.now in
    let v = c.args.view.now in
    let days = c.args.days.now in
    let found = c.args.found.now in
    let hard = c.args.hard.now in
    seven_in c.push_blocked.result (string_bytes c.args.page.now) (string_bytes c.push_str.new.self) (string_bytes c.push_section.new.page) (string_bytes c.push_section-2.new.page) (string_bytes c.push_section-3.new.page) (string_bytes c.push_section-4.new.page) (string_bytes c.push_section-5.new.page) (string_bytes c.push_blocked.new.page)
    (codes "<div><h3 id='hard'>Hard rules</h3>\n") (section i v days found (codes "lectures") (codes "&#9661;&#160;lectures missing or surplus") hard.lectures (codes "lecture")) (section i v days found (codes "conflict") (codes "&#9650;&#160;conflict") hard.conflicts (codes "time")) (section i v days found (codes "availability") (codes "&#9660;&#160;unavailable") hard.availability (codes "time")) (section i v days found (codes "occupancy") (codes "&#9670;&#160;room taken") hard.occupancy (codes "time")) (section i v days found (codes "barred") (codes "&#9632;&#160;barred") hard.barred (codes "time")) (blocked_section (has_blocked i) i v days found hard.blocked)
    c.in_ok-push_str.ensures.bytes (rw (c.head_of-lectures.ensures.kind, c.head_of-lectures.ensures.title, c.head_of-lectures.ensures.count, c.head_of-lectures.ensures.noun) at c.in_ok-push_section.ensures) (rw (c.head_of-conflict.ensures.kind, c.head_of-conflict.ensures.title, c.head_of-conflict.ensures.count, c.head_of-conflict.ensures.noun) at c.in_ok-push_section-2.ensures) (rw (c.head_of-availability.ensures.kind, c.head_of-availability.ensures.title, c.head_of-availability.ensures.count, c.head_of-availability.ensures.noun) at c.in_ok-push_section-3.ensures) (rw (c.head_of-occupancy.ensures.kind, c.head_of-occupancy.ensures.title, c.head_of-occupancy.ensures.count, c.head_of-occupancy.ensures.noun) at c.in_ok-push_section-4.ensures) (rw (c.head_of-barred.ensures.kind, c.head_of-barred.ensures.title, c.head_of-barred.ensures.count, c.head_of-barred.ensures.noun) at c.in_ok-push_section-5.ensures) (rw c.has_blocked-blocked.ensures at c.push_blocked.ensures)
