use Rattle.std.proofs.Common.{rules, ◌∙◌, List, sym, ap, subst}
use Rattle.ctt_problem.specs.Problem.{Problem}
use Rattle.ctt_problem.specs.Timetable.{Fits}
use Rattle.ctt_problem.specs.declared.placed.Placed.{Placed}
use Rattle.ctt_problem.proofs.TimetableLemmas.{Each-at}
use Rattle.ctt_search.specs.Between.{place_of}
use Rattle.ctt_search.proofs.BetweenLemmas.{listed, passed}
use Rattle.ctt_search.proofs.edits_between.add_places.Goals.{then-not-stands+in_ok-add, else-not-stands}
use Rattle.ctt_search.proofs.edits_between.add_places.Goals as goal

pub stands-requires : goal.stands-requires
stands-requires g c κs =
    let i : Problem = g.S.Rooms.problem c.args.sheet.now in
    let fits : Fits i c.lecture-item.result = subst (Fits i) (sym c.lecture-item.is) (Each-at (Fits i) c.args.lectures.now c.requires c.loop-lecture.lecture-index c.lecture-item.result c.loop-lecture-test.true) in
    search rules

pub loop-lecture-preserved : goal.loop-lecture-preserved
loop-lecture-preserved g c =
    let u : List Placed = g.S.Rooms.list c.args.sheet.now in
    elim c.if-not-stands.branch [
      | then-not-stands+in_ok-add w ↦ listed place_of c.args.lectures.now u c.loop-lecture.lecture-index c.lecture-item.result c.args.edits.now.items c.loop-lecture.edits.items c.if-not-stands.edits.items c.loop-lecture-test.true c.lecture-item.is c.loop-lecture.invariant
          (sym c.stands.ensures ∙ w.if-not-stands.true) (ap (λ v. v.items) w.edits-is ∙ w.in_ok-add.ensures)
      | else-not-stands w ↦ passed place_of c.args.lectures.now u c.loop-lecture.lecture-index c.lecture-item.result c.args.edits.now.items c.loop-lecture.edits.items c.if-not-stands.edits.items c.loop-lecture-test.true c.lecture-item.is c.loop-lecture.invariant
          (sym c.stands.ensures ∙ w.if-not-stands.false) (ap (λ v. v.items) w.edits-is)
    ]
