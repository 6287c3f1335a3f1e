use Rattle.std.proofs.Common.{◌≡◌, ℕ, ◌<◌, ◌≤◌, ◌++◌, ◌&&◌, ◌∙◌, Bool, nat_lt, nat_le, not, Some, None, ap, sym, arith, rules}
use Rattle.std.specs.List.{filter_map}
use Rattle.ctt_problem.specs.Lists.{has}
use Rattle.ctt_problem.specs.Marks.{is_marked, IsLeast}
use Rattle.ctt_problem.specs.Problem.{course_count, members}
use Rattle.ctt_problem.specs.Timetable.{course_row}
use Rattle.ctt_rules.specs.Neighbours.{is_beside}
use Rattle.ctt_findings.specs.Findings.{alone_of, compactness_finding}
use Rattle.ctt_findings.proofs.GrowLemmas.{all_passed, next_more, next_passes}
use Rattle.ctt_findings.proofs.AloneLemmas.{alone_is}
use Rattle.ctt_findings.proofs.compactness.push_compactness_of.Goals as goal

pub loop-number-preserved : goal.loop-number-preserved
loop-number-preserved c =
    let i = c.args.instance.now in
    let t = c.args.rows.now in
    let q = c.args.curriculum in
    let marks : ℕ → Bool = λ n. is_marked c.members_of-courses.result n in
    let least : IsLeast (λ n. nat_lt n (course_count i) && (nat_le c.loop-number.from n && marks n)) (Some c.in-Some.number) = search rules in
    let known : (n : ℕ) → c.loop-number.from ≤ n → n < course_count i → marks n ≡ has n (members i q) = λ n _ _. c.members_of-courses.ensures n in
    let at = next_passes marks (λ n. has n (members i q)) (alone_of i t q) c.loop-number.from (course_count i) known c.in-Some.number least in
    let same : c.new.result ≡ c.in-Some.number = search rules in
    let taken : ℕ → Bool = λ s. is_marked c.slots_of-slots.result s in
    let this : filter_map (λ l. compactness_finding q (not (is_beside i taken l.slot)) l) c.row-row.result.now ≡ alone_of i t q c.in-Some.number =
    ap (filter_map (λ l. compactness_finding q (not (is_beside i taken l.slot)) l)) (c.row-row.ensures.row ∙ ap (λ d. course_row d t) same) ∙ alone_is i t c.requires.timetable q c.in-Some.number taken c.slots_of-slots.ensures in
    record {
      within = omega (arith, at.1);
      found = next_more marks (λ n. has n (members i q)) (alone_of i t q) c.loop-number.from (course_count i) known c.args.found.now.items c.loop-number.found.items c.push_alone.new.found.items c.in-Some.number _ this least
          c.loop-number.invariant.found c.in_ok-push_alone.ensures;
    }

pub returns : goal.returns
returns c =
    let i = c.args.instance.now in
    let q = c.args.curriculum in
    let marks : ℕ → Bool = λ n. is_marked c.members_of-courses.result n in
    let least : IsLeast (λ n. nat_lt n (course_count i) && (nat_le c.loop-number.from n && marks n)) None = search rules in
    c.loop-number.invariant.found ∙ ap (λ fs. c.args.found.now.items ++ fs) (sym (all_passed marks (λ n. has n (members i q)) (alone_of i c.args.rows.now q) c.loop-number.from (course_count i) (λ n _ _. c.members_of-courses.ensures n) c.loop-number.invariant.within least))
