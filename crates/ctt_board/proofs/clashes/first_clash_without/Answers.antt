use Rattle.std.proofs.Common.{rules, ◌≡◌, ◌∙◌, ℕ, Bool, true, false, not, cond, ◌&&◌, ◌==◌, Option, None, is_some, List, sym, ap, refl, subst, arith}
use Rattle.std.proofs.lemmas.Bool.Decides.{nat_tests}
use Rattle.ctt_problem.specs.Marks.{is_marked}
use Rattle.ctt_problem.specs.Problem.{Problem}
use Rattle.ctt_problem.specs.Timetable.{without}
use Rattle.ctt_problem.specs.declared.placed.Placed.{Placed}
use Rattle.ctt_rules.specs.Hard.{Lawful}
use Rattle.ctt_board.specs.Changes.{room_at}
use Rattle.ctt_board.proofs.LawfulLemmas.{without_lawful}
use Rattle.ctt_board.proofs.RoomLemmas.{room_after}
use Rattle.ctt_board.proofs.clashes.first_clash_without.Goals as goal

-- a mark that is taken, and a room that is left
both_left : (a b m : Bool) (o : Option ℕ) → b ≡ a → m ≡ is_some o → (not a && m) ≡ is_some (cond b None o)
both_left true true m o e h = refl
both_left false false m o e h = h
both_left true false m o e h = cc
both_left false true m o e h = cc

pub returns : goal.returns
returns g c =
    let i : Problem = c.args.instance.now in
    let t : List Placed = g.R.Rooms.list c.args.rooms.now in
    let lawful : Lawful i t = subst (λ p. Lawful p t) c.requires.same c.lawful.ensures in
    let number : c.get.result ≡ c.args.leaving = search rules in
    let same : (n : ℕ) → (c.args.leaving == n && c.args.slot == c.args.slot) ≡ (n == c.get.result) = λ n. grind (arith, nat_tests, number) in
    c.first_clash_among.ensures c.args.slot (without c.args.leaving c.args.slot t) (without_lawful i t c.args.leaving c.args.slot lawful)
    (λ n. c.unmark.ensures.marked n ∙ both_left (n == c.get.result) (c.args.leaving == n && c.args.slot == c.args.slot) (is_marked c.standing-standing.result n) (room_at n c.args.slot t) (same n) (c.standing-standing.ensures n)
    ∙ ap is_some (sym (room_after c.args.leaving c.args.slot None n c.args.slot t c.requires.there)))
