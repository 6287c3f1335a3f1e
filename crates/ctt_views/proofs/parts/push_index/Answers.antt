use Rattle.std.proofs.Common.{codes, string_bytes}
use Rattle.ctt_views.specs.Parts.{index, shown_entries}
use Rattle.ctt_views.specs.declared.options.GridKind.TheVariants.{Courses, Curricula, Rooms, Teachers}
use Rattle.ctt_views.proofs.TextLemmas.{on_ok, six_in}
use Rattle.ctt_views.proofs.parts.push_index.Goals as goal

pub returns : goal.returns
unfolding index
returns c =
    let i = c.args.instance.now in
    let v = c.args.view.now in
    six_in c.push_str-2.result (string_bytes c.args.page.now) (string_bytes c.push_str.new.self) (string_bytes c.push_shown_entries.new.page) (string_bytes c.push_shown_entries-2.new.page) (string_bytes c.push_shown_entries-3.new.page) (string_bytes c.push_shown_entries-4.new.page) (string_bytes c.push_str-2.new.self)
    (codes "<details><summary><h2 id='index'>Index</h2></summary><ul id='entries'>\n") (shown_entries i v Curricula) (shown_entries i v Teachers) (shown_entries i v Rooms) (shown_entries i v Courses) (codes "</ul></details>\n")
    c.in_ok-push_str.ensures.bytes c.in_ok-push_shown_entries.ensures c.in_ok-push_shown_entries-2.ensures c.in_ok-push_shown_entries-3.ensures c.in_ok-push_shown_entries-4.ensures
    (on_ok c.push_str-2.result (string_bytes c.push_shown_entries-4.new.page) (string_bytes c.push_str-2.new.self) (codes "</ul></details>\n") c.push_str-2.ensures.bytes)
