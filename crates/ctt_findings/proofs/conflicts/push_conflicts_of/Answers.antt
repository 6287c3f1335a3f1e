use Rattle.std.proofs.Common.{◌≡◌, ℕ, ◌+◌, ◌++◌, ◌&&◌, ◌∙◌, Bool, nat_lt, nat_le, Some, None, append-nil, sym, ap, arith, rules}
use Rattle.std.specs.List.{filter_map}
use Rattle.ctt_problem.specs.Marks.{is_marked, IsLeast}
use Rattle.ctt_problem.specs.Problem.{course_count}
use Rattle.ctt_problem.specs.Timetable.{course_row}
use Rattle.ctt_rules.specs.Neighbours.{busy}
use Rattle.ctt_findings.specs.Findings.{conflict_finding, conflicts_between}
use Rattle.ctt_findings.proofs.GrowLemmas.{all_passed, next_more, next_passes}
use Rattle.ctt_findings.proofs.ConflictLemmas.{behind, between_is, none_before, passes_same}
use Rattle.ctt_findings.proofs.conflicts.push_conflicts_of.Goals as goal

pub loop-number-init : goal.loop-number-init
loop-number-init c =
    let i = c.args.instance.now in
    let none = none_before i c.args.course c.args.timetable.now (c.get.result + 1) (omega (arith, c.get.ensures)) in
    record {
      past = omega (arith, c.get.ensures);
      within = omega (arith, c.get.ensures, c.requires.course);
      found = sym (append-nil c.args.found.now.items) ∙ ap (λ fs. c.args.found.now.items ++ fs) (sym none);
    }

pub loop-number-preserved : goal.loop-number-preserved
loop-number-preserved c =
    let i = c.args.instance.now in
    let t = c.args.timetable.now in
    let own = c.args.course in
    let marks : ℕ → Bool = λ n. is_marked c.clashing-clashing.result n in
    let known = passes_same i own marks c.clashing-clashing.ensures c.loop-number.from c.loop-number.invariant.past in
    let least : IsLeast (λ n. nat_lt n (course_count i) && (nat_le c.loop-number.from n && marks n)) (Some c.in-Some.number) = search rules in
    let at = next_passes marks (behind i own) (conflicts_between i t own) c.loop-number.from (course_count i) known c.in-Some.number least in
    let same : c.new.result ≡ c.in-Some.number = search rules in
    let shared : ℕ → Bool = λ s. is_marked c.mark_slots.new.slots s in
    let slots : (s : ℕ) → shared s ≡ busy (course_row own t) s = search rules in
    let this : filter_map (conflict_finding i own shared) c.course_row-row.result.now ≡ conflicts_between i t own c.in-Some.number =
    ap (filter_map (conflict_finding i own shared)) (c.course_row-row.ensures.row ∙ ap (λ d. course_row d t) same) ∙ between_is i own t c.in-Some.number shared slots in
    record {
      past = omega (arith, at.0, c.loop-number.invariant.past);
      within = omega (arith, at.1);
      found = next_more marks (behind i own) (conflicts_between i t own) c.loop-number.from (course_count i) known c.args.found.now.items c.loop-number.found.items c.push_between.new.found.items c.in-Some.number _ this least
          c.loop-number.invariant.found c.in_ok-push_between.ensures;
    }

pub returns : goal.returns
returns c =
    let i = c.args.instance.now in
    let own = c.args.course in
    let marks : ℕ → Bool = λ n. is_marked c.clashing-clashing.result n in
    let least : IsLeast (λ n. nat_lt n (course_count i) && (nat_le c.loop-number.from n && marks n)) None = search rules in
    c.loop-number.invariant.found ∙ ap (λ fs. c.args.found.now.items ++ fs) (sym (all_passed marks (behind i own) (conflicts_between i c.args.timetable.now own) c.loop-number.from (course_count i)
    (passes_same i own marks c.clashing-clashing.ensures c.loop-number.from c.loop-number.invariant.past) c.loop-number.invariant.within least))
