use Rattle.std.proofs.Common.{string_bytes}
use Rattle.ctt_views.specs.Parts.{index, parts, shown_part}
use Rattle.ctt_views.specs.declared.options.GridKind.TheVariants.{Courses, Curricula, Rooms, Teachers}
use Rattle.ctt_views.proofs.TextLemmas.{five_in}
use Rattle.ctt_views.proofs.parts.push_parts.Goals as goal

pub returns : goal.returns
unfolding parts
returns c =
    let i = c.args.instance.now in
    let w = c.args.week.now in
    let v = c.args.view.now in
    let names = c.args.names.now in
    five_in c.push_shown_part-4.result (string_bytes c.args.page.now) (string_bytes c.push_index.new.page) (string_bytes c.push_shown_part.new.page) (string_bytes c.push_shown_part-2.new.page) (string_bytes c.push_shown_part-3.new.page) (string_bytes c.push_shown_part-4.new.page)
    (index i v) (shown_part i w v names Curricula) (shown_part i w v names Teachers) (shown_part i w v names Rooms) (shown_part i w v names Courses)
    c.in_ok-push_index.ensures c.in_ok-push_shown_part.ensures c.in_ok-push_shown_part-2.ensures c.in_ok-push_shown_part-3.ensures c.push_shown_part-4.ensures
