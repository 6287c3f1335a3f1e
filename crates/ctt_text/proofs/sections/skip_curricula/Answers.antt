use Rattle.std.proofs.Common.{◌≡◌, ◌+◌, ◌-◌, ◌<◌, ap, arith, drop}
use Rattle.ctt_text.specs.Sections.{curricula_len, stated}
use Rattle.ctt_text.proofs.LengthLemmas.{no_curriculum, one_curriculum}
use Rattle.ctt_text.proofs.sections.skip_curricula.Goals as goal

pub loop-preserved : goal.loop-preserved
loop-preserved c =
    let n = c.loop.counter in
    let count = c.args.count in
    let ws = c.loop.words in
    let made = c.skip_curriculum-len.ensures in
    let held = c.loop.invariant in
    let less : n < count = omega (arith, c.loop-test.true) in
    let step = one_curriculum ws n count less in
    let rest : curricula_len (count - (n + 1)) c.skip_curriculum-len.new.words ≡ curricula_len (count - (n + 1)) (drop (2 + stated 2 ws) ws) = ap (curricula_len (count - (n + 1))) made.rest in
    (omega (arith, held.0, step, rest, made.len), omega (arith, held.1, made.bounded), omega (arith, less))

pub returns-clause-exact : goal.returns-clause-exact
returns-clause-exact c =
    let held = c.loop.invariant in
    let same : c.loop.counter ≡ c.args.count = omega (arith, held.2, c.loop-test.false) in
    omega (arith, held.0, no_curriculum c.loop.words c.loop.counter c.args.count same)
