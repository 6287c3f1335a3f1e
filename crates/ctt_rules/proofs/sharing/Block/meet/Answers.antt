use Rattle.std.proofs.Common.{◌≡◌, ◌+◌, ◌-◌, ◌≤◌, ◌<◌, ◌&&◌, ◌∙◌, ℕ, true, cond, leb, ltb, ap, ap₂, sym, arith}
use Rattle.std.proofs.lemmas.Bool.{le-leb, lt-ltb, and_from}
use Rattle.ctt_problem.specs.Marks.{is_marked, count_marked}
use Rattle.ctt_rules.specs.Earlier.{clashes_with, in_row}
use Rattle.ctt_rules.proofs.ConflictLemmas.{marked_same}
use Rattle.ctt_rules.proofs.sharing.Block.meet.Goals as goal

pub returns-then-slot-self-lt64-clause-conflicts : goal.returns-then-slot-self-lt64-clause-conflicts
returns-then-slot-self-lt64-clause-conflicts c =
    let i = c.args.instance.now in
    let x = c.args.lecture.now in
    let block = c.args.self.now in
    let first = block.first in
    let low : first ≤ x.slot = omega arith in
    let high : x.slot < first + 64 = omega arith in
    let there : (leb first x.slot && ltb x.slot (first + 64)) ≡ true = and_from (leb first x.slot) (ltb x.slot (first + 64)) (le-leb first x.slot low) (lt-ltb x.slot (first + 64) high) in
    let clashing : ℕ = count_marked (λ n. in_row block.courses (x.slot - first) n && clashes_with i x.course n) in
    let here : c.from.result ≡ clashing =
    c.from.ensures ∙ c.common_count.ensures.count
    ∙ marked_same (λ n. in_row block.courses (c.get-slot.result - first) n && is_marked c.clashing-clashing.result n) (λ n. in_row block.courses (x.slot - first) n && clashes_with i x.course n)
    (λ n. ap₂ (λ a b. a && b) (ap (λ s. in_row block.courses (s - first) n) c.get-slot.ensures) (c.clashing-clashing.ensures n)) in
    ap (λ n. block.sharing.conflicts + n) (here ∙ sym (ap (λ b. cond b clashing 0) there))
