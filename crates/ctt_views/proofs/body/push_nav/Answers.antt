use Rattle.std.proofs.Common.{codes, string_bytes}
use Rattle.ctt_views.specs.Bodies.{nav}
use Rattle.ctt_views.specs.Parts.{shown_link}
use Rattle.ctt_views.specs.declared.options.GridKind.TheVariants.{Courses, Curricula, Rooms, Teachers}
use Rattle.ctt_views.proofs.TextLemmas.{on_ok, six_in}
use Rattle.ctt_views.proofs.body.push_nav.Goals as goal

pub returns : goal.returns
unfolding nav
returns c =
    let v = c.args.view.now in
    six_in c.push_str-2.result (string_bytes c.args.page.now) (string_bytes c.push_str.new.self) (string_bytes c.push_shown_link.new.page) (string_bytes c.push_shown_link-2.new.page) (string_bytes c.push_shown_link-3.new.page) (string_bytes c.push_shown_link-4.new.page) (string_bytes c.push_str-2.new.self)
    (codes "<nav aria-label='Parts of the page'><div id='entry' role='search' hidden><label for='find'>Show</label> <input id='find' type='search' placeholder='a teacher, a course ..' autocomplete='off'> <span id='shown' role='status'></span></div>\n") (shown_link v Curricula) (shown_link v Teachers) (shown_link v Rooms) (shown_link v Courses) (codes "<a href='#index'>Index</a> <a href='#findings'>Findings</a></nav>\n")
    c.in_ok-push_str.ensures.bytes c.in_ok-push_shown_link.ensures c.in_ok-push_shown_link-2.ensures c.in_ok-push_shown_link-3.ensures c.in_ok-push_shown_link-4.ensures
    (on_ok c.push_str-2.result (string_bytes c.push_shown_link-4.new.page) (string_bytes c.push_str-2.new.self) (codes "<a href='#index'>Index</a> <a href='#findings'>Findings</a></nav>\n") c.push_str-2.ensures.bytes)
