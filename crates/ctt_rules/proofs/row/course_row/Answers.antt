use Rattle.std.proofs.Common.{rules, tests, ◌≤◌, ◌+◌, length, drop, ltb, leb, List, arith}
use Rattle.std.proofs.lemmas.List.{take_rest}
use Rattle.std.proofs.lemmas.List.Sorted.{IsPartitionPoint-from_clause, IsPartitionedBy-leb, IsPartitionedBy-ltb}
use Rattle.std.proofs.lemmas.Bool.{ltb-true, ltb-false, leb-true, leb-false}
use Rattle.ctt_problem.specs.declared.placed.Placed.{Placed}
use Rattle.ctt_rules.proofs.RowLemmas.{courses_rise, rise_from, start_by_places, row_by_places}
use Rattle.ctt_rules.proofs.row.course_row.Goals as goal

pub returns-clause-row : goal.returns-clause-row
returns-clause-row c =
    let t = c.args.timetable.now in
    let rise = courses_rise t c.requires.ascending in
    let s = c.partition_point-start.result in
    let e = c.partition_point-end.result in
    let rest : List Placed = drop s t in
    let later = rise_from t s rise in
    let bound : e ≤ length rest = rw take_rest at c.partition_point-end.ensures.bound in
    let start = IsPartitionPoint-from_clause (λ l. ltb l.course c.args.course) t s c.partition_point-start.ensures.partitioned (IsPartitionedBy-ltb (λ l. l.course) t c.args.course rise) (λ a r f k. search (rules, tests)) in
    let end = IsPartitionPoint-from_clause (λ l. leb l.course c.args.course) rest e (rw take_rest at c.partition_point-end.ensures.partitioned) (IsPartitionedBy-leb (λ l. l.course) rest c.args.course later) (λ a r f k. search (rules, tests)) in
    rw take_rest (row_by_places t c.requires.ascending c.args.course s e
    (start_by_places c.args.course t s c.partition_point-start.ensures.bound (λ k d l h. ltb-true _ _ (start.0 k d l h)) (λ k d l h. ltb-false _ _ (start.1 k d l h)))
    (start_by_places (c.args.course + 1) rest e bound (λ k d l h. omega (arith, leb-true _ _ (end.0 k d l h))) (λ k d l h. omega (arith, leb-false _ _ (end.1 k d l h)))))
