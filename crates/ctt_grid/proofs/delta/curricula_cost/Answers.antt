use Rattle.std.proofs.Common.{◌≡◌, ◌+◌, ◌<◌, ◌∙◌, ℕ, List, [], Bool, cond, take, sum_by, sym, ap, ap₂, arith}
use Rattle.std.proofs.lemmas.List.Sums.{sum_by_more}
use Rattle.ctt_problem.specs.Problem.{Problem, members, curriculum_count}
use Rattle.ctt_problem.specs.declared.placed.Placed.{Placed}
use Rattle.ctt_rules.specs.Penalty.{alone_cost, lectures_of}
use Rattle.ctt_board.specs.Costs.{touches_curriculum}
use Rattle.ctt_grid.proofs.delta.curricula_cost.Goals as goal
use Rattle.ctt_grid.proofs.delta.curricula_cost.Goals.{then-touches_curriculum, else-touches_curriculum}

pub loop-number-preserved : goal.loop-number-preserved
loop-number-preserved g c =
    let i : Problem = c.args.after.now.problem in
    let t : List Placed = c.args.after.now.list in
    let n : ℕ = c.loop-number.number in
    let inv = c.loop-number.invariant in
    let cost : List ℕ → ℕ = λ q. alone_cost i (lectures_of q t) in
    let test : List ℕ → Bool = touches_curriculum c.args.cells.now in
    let f : List ℕ → ℕ = λ q. cond (test q) (cost q) 0 in
    let q : List ℕ = members i n in
    let q_is : c.members-members.result.now ≡ q = c.members-members.ensures.exact ∙ ap₂ members c.instance-instance.ensures c.new.ensures in
    let end : c.curricula-number-end.result ≡ curriculum_count i = c.curricula-number-end.ensures.exact ∙ ap curriculum_count c.instance-instance.ensures in
    let within : n < curriculum_count i = omega (arith, end, c.loop-number-test.true) in
    let more : sum_by f (take (n + 1) i.curricula) ≡ sum_by f (take n i.curricula) + f q = sum_by_more f i.curricula n [] within in
    let tested : test q ≡ c.touches_curriculum.result = sym (c.touches_curriculum.ensures ∙ ap test q_is) in
    elim c.if-touches_curriculum.branch [
      | then-touches_curriculum w ↦ (
          let here : w.curriculum_cost-total.result ≡ f q = w.curriculum_cost-total.ensures.value ∙ ap cost q_is ∙ sym (ap (λ b. cond b (cost q) 0) (tested ∙ w.if-touches_curriculum.true)) in
          record { so_far = rw w.total-is (omega (arith, inv.so_far, more, here)); small = rw w.total-is (omega (arith, inv.small, w.curriculum_cost-total.ensures.bound)) })
      | else-touches_curriculum w ↦ (
          let here : f q ≡ 0 = ap (λ b. cond b (cost q) 0) (tested ∙ w.if-touches_curriculum.false) in
          record { so_far = rw w.total-is (omega (arith, inv.so_far, more, here)); small = rw w.total-is (omega (arith, inv.small)) })
    ]
