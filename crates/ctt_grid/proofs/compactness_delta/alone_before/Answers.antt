use Rattle.std.proofs.Common.{◌≡◌, ◌<◌, ◌-◌, ℕ, cond, ltb, ◌∙◌, sym, ap, arith}
use Rattle.std.proofs.lemmas.Bool.{lt-ltb}
use Rattle.ctt_problem.specs.Problem.{period_of}
use Rattle.ctt_grid.specs.CostDelta.{count_before}
use Rattle.ctt_grid.specs.Seen.{seen_curriculum}
use Rattle.ctt_grid.proofs.CompactnessLemmas.{some_before, alone_before_is}
use Rattle.ctt_grid.proofs.SlotFacts.{period_before}
use Rattle.ctt_grid.proofs.compactness_delta.alone_before.Goals as goal

pub before-requires-clause-period : goal.before-requires-clause-period
before-requires-clause-period c =
    let i = c.args.instance.now in
    let s = c.args.slot in
    let f : ℕ → ℕ = seen_curriculum i c.args.counts.now c.args.curriculum in
    let some : 0 < c.args.count = omega (arith, c.if-count-eq0.false) in
    let there = some_before i f s c.requires.own c.args.count c.requires.count some in
    let beside : c.new-earlier.result ≡ c.args.slot - 1 = omega (arith, c.new-earlier.ensures, c.get.ensures) in
    omega (arith, c.requires.period, period_before i s c.requires.slot there, ap (period_of i) beside)

pub returns-then-before-gt0-clause-value : goal.returns-then-before-gt0-clause-value
returns-then-before-gt0-clause-value c =
    let i = c.args.instance.now in
    let s = c.args.slot in
    let f : ℕ → ℕ = seen_curriculum i c.args.counts.now c.args.curriculum in
    let n = c.args.count in
    let m = c.before-2.result in
    let some : 0 < n = omega (arith, c.if-count-eq0.false) in
    let beside : c.new-earlier.result ≡ c.args.slot - 1 = omega (arith, c.new-earlier.ensures, c.get.ensures) in
    ap (λ b. cond {A = ℕ} b 0 n) (sym (lt-ltb 0 m c.if-before-gt0.true)) ∙ alone_before_is i f s c.requires.own n m c.requires.count some (c.before-2.ensures.value ∙ ap (count_before i f) beside)

pub returns-else-before-gt0-clause-value : goal.returns-else-before-gt0-clause-value
returns-else-before-gt0-clause-value c =
    let i = c.args.instance.now in
    let s = c.args.slot in
    let f : ℕ → ℕ = seen_curriculum i c.args.counts.now c.args.curriculum in
    let n = c.args.count in
    let m = c.before-2.result in
    let some : 0 < n = omega (arith, c.if-count-eq0.false) in
    let beside : c.new-earlier.result ≡ c.args.slot - 1 = omega (arith, c.new-earlier.ensures, c.get.ensures) in
    ap (λ k. cond {A = ℕ} (ltb 0 k) 0 n) (let none : 0 ≡ m = omega (arith, c.if-before-gt0.false) in none) ∙ alone_before_is i f s c.requires.own n m c.requires.count some (c.before-2.ensures.value ∙ ap (count_before i f) beside)
