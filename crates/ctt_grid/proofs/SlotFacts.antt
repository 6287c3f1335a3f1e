-- The slots beside a slot, as numbers.
use Rattle.std.proofs.Common.{◌≡◌, ℕ, zero, suc, ◌+◌, ◌-◌, ◌*◌, ◌/◌, ◌∙◌, ap, ◌%◌, ◌<◌, ◌≤◌, arith}
use Rattle.std.proofs.Math.Nat.{zero-mod, div-add-mod, mul-add-mod_self_left, mod-eq_of_lt, mod-lt}
use Rattle.std.proofs.lemmas.Bool.{lt-ltb}
use Rattle.ctt_problem.specs.Problem.{Problem, slot_count, period_of}
use Rattle.ctt_rules.proofs.SlotLemmas.{periods_above}
use Rattle.ctt_grid.proofs.AloneLemmas.{next_fits}

pub later_slot : (i : Problem) (s : ℕ) → 0 < period_of i s → 1 ≤ s
later_slot i zero h = omega (arith, h, zero-mod i.periods)
later_slot i (suc s) h = omega arith

pub earlier_fits : (i : Problem) (s : ℕ) → s < slot_count i → s - 1 < slot_count i
earlier_fits i s h = omega (arith, h)

pub next_slot : (i : Problem) (s : ℕ) → s < slot_count i → period_of i s + 1 < i.periods → s + 1 < slot_count i
next_slot i s lt h = next_fits i s lt (lt-ltb (period_of i s + 1) i.periods h)

after : (s p : ℕ) → s % p + 1 < p → (s + 1) % p ≡ s % p + 1
after s p lt =
    let same : s + 1 ≡ p * (s / p) + (s % p + 1) = omega (arith, div-add-mod s p) in
    ap (λ n. n % p) same ∙ mul-add-mod_self_left p (s / p) (s % p + 1) ∙ mod-eq_of_lt lt

before : (s p : ℕ) → 0 < p → 0 < s % p → (s - 1) % p ≡ s % p - 1
before s p some lt =
    let same : s - 1 ≡ p * (s / p) + (s % p - 1) = omega (arith, div-add-mod s p, lt) in
    let less : s % p - 1 < p = omega (arith, mod-lt s some) in
    ap (λ n. n % p) same ∙ mul-add-mod_self_left p (s / p) (s % p - 1) ∙ mod-eq_of_lt less

-- the periods of the slots beside a slot
pub period_after : (i : Problem) (s : ℕ) → period_of i s + 1 < i.periods → period_of i (s + 1) ≡ period_of i s + 1
period_after i s h = after s i.periods h

pub period_before : (i : Problem) (s : ℕ) → s < slot_count i → 0 < period_of i s → period_of i (s - 1) ≡ period_of i s - 1
period_before i s lt h = before s i.periods (periods_above i s lt) h
