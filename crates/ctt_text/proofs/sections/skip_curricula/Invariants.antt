use Rattle.std.proofs.Common.{◌≡◌, ◌≤◌, ◌+◌, ◌-◌, ◌*◌}
use Rattle.ctt_text.specs.Sections.{curricula_len}
use Rattle.ctt_text.proofs.sections.skip_curricula.Given as goal

abbrev pub invariant-loop : goal.invariant-loop
invariant-loop l = (l.len + curricula_len (l.count - l.counter) l.words ≡ curricula_len l.count l.initial.words) × (l.len ≤ 1000000001 * l.counter) × (l.counter ≤ l.count)
