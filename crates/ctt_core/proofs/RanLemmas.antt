-- A desk that answers events one after another.
use Rattle.std.proofs.Common.{◌≡◌, ℕ, ◌+◌, ◌<◌, ◌≤◌, List, [], ◌∷◌, ◌++◌, take, get_or, length, refl, add-one, ◌∙◌, sym, ap, ap₂, subst, arith, length-append}
use Rattle.std.proofs.Math.Seq.{take-suc}
use Rattle.std.specs.List.{AllByRecursion as Each}
use Rattle.ctt_problem.proofs.TimetableLemmas.{Each-at}
use Rattle.ctt_core.specs.Runs.{Turn, EventFits, onto}
use Rattle.ctt_core.specs.Desks.{DeskValue, SameDesk}
use Rattle.ctt_core.specs.Laws.{Stands}
use Rattle.ctt_core.specs.declared.event.Event.{Event}
use Rattle.ctt_core.specs.declared.answer.Answer.{Answer}

-- the loop invariant: the desk v becomes w by these answers to the events done; there is capacity
-- for the answers to all
pub record Ran (v w : DeskValue) (all done : List Event) (answers : List Answer) (capacity : ℕ) : Type 0 where
  pub same : SameDesk v w
  pub counted : length answers ≡ length done
  pub room : length all ≤ capacity
  pub stands : (past : List Turn) → Stands v past → Stands w (onto past done answers)

onto-push : (past : List Turn) (es : List Event) (ns : List Answer) (e : Event) (a : Answer) → length ns ≡ length es → onto past (es ++ e ∷ []) (ns ++ a ∷ []) ≡ record { event = e; answer = a } ∷ onto past es ns
onto-push past [] [] e a n = refl
onto-push past [] (b ∷ ns) e a n = absurd (omega (arith, n))
onto-push past (x ∷ es) [] e a n = absurd (omega (arith, n))
onto-push past (x ∷ es) (b ∷ ns) e a n = onto-push (record { event = x; answer = b } ∷ past) es ns e a (omega (arith, n))

-- the next event fits the desk in its present state
pub next_fits : (v w : DeskValue) (events : List Event) (k : ℕ) (x : Event) → SameDesk v w → Each (EventFits v.problem (length v.drafts)) events → k < length events → x ≡ get_or events k x → EventFits w.problem (length w.drafts) x
next_fits v w events k x same fit lt is =
    let f : EventFits v.problem (length v.drafts) x = subst (EventFits v.problem (length v.drafts)) (sym is) (Each-at (EventFits v.problem (length v.drafts)) events fit k x lt) in
    subst (λ i. EventFits i (length w.drafts) x) (sym same.problem) (subst (λ n. EventFits v.problem n x) (sym same.planners) f)

-- one more event is answered
pub ran_more : (v w u : DeskValue) (events : List Event) (k : ℕ) (answers more : List Answer) (capacity room : ℕ) (x : Event) (a : Answer) → Ran v w events (take k events) answers capacity → k < length events → x ≡ get_or events k x → SameDesk w u →
    ((past : List Turn) → Stands w past → Stands u (record { event = x; answer = a } ∷ past)) → more ≡ answers ++ a ∷ [] → capacity ≤ room → Ran v u events (take (k + 1) events) more room
ran_more v w u events k answers more capacity room x a r lt is same step longer grown =
    let done : take (k + 1) events ≡ take k events ++ x ∷ [] = ap (λ n. take n events) (add-one k) ∙ take-suc events k x lt ∙ ap (λ e. take k events ++ e ∷ []) (sym is) in
    record {
      same = record { problem = same.problem ∙ r.same.problem; opening = same.opening ∙ r.same.opening; planners = same.planners ∙ r.same.planners };
      counted = ap length longer ∙ length-append answers (a ∷ []) ∙ ap (λ n. n + 1) r.counted ∙ sym (length-append (take k events) (x ∷ [])) ∙ ap length (sym done);
      room = omega (arith, r.room, grown);
      stands = λ past st. subst (Stands u) (sym (ap₂ (λ es ns. onto past es ns) done longer ∙ onto-push past (take k events) answers x a r.counted)) (step (onto past (take k events) answers) (r.stands past st));
    }
