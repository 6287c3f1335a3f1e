use Rattle.std.proofs.Common.{◌≡◌, ◌≤◌, ◌∙◌, ℕ, List, [], ap, length, map, subst, sym, take}
use Rattle.std.proofs.lemmas.List.{length-map, take_all}
use Rattle.ctt_seat.specs.Attended.{IsCrewText}
use Rattle.ctt_commands.proofs.crews.crew.Goals as goal

-- at the end each text is given
all_given : {A B C : Type 0} (f : A → C) (h : B → C) (given made : List A) (n : ℕ) (texts : List B) → given ≡ made → map f made ≡ map h (take n texts) → length texts ≤ n → map f given ≡ map h texts
all_given f h given made n texts same so_far end = ap (map f) same ∙ so_far ∙ ap (map h) (take_all n texts end)

as_many : {A B C : Type 0} (f : A → C) (h : B → C) (given : List A) (texts : List B) → map f given ≡ map h texts → length texts ≡ length given
as_many f h given texts same = sym (length-map texts h) ∙ ap length (sym same) ∙ length-map given f

pub crew-requires-clause-some : goal.crew-requires-clause-some
crew-requires-clause-some g c κs within =
    let all = all_given (λ s. s.now) (λ t. t.items) c.deref.result.now c.loop-text.scripts.items c.loop-text.text-index c.args.texts.now c.deref.ensures.value c.loop-text.invariant c.loop-text-test.false in
    subst (λ n. 1 ≤ n) (as_many (λ s. s.now) (λ t. t.items) c.deref.result.now c.args.texts.now all) c.requires.some

pub crew-requires-clause-few : goal.crew-requires-clause-few
crew-requires-clause-few g c κs within =
    let all = all_given (λ s. s.now) (λ t. t.items) c.deref.result.now c.loop-text.scripts.items c.loop-text.text-index c.args.texts.now c.deref.ensures.value c.loop-text.invariant c.loop-text-test.false in
    subst (λ n. n ≤ 64) (as_many (λ s. s.now) (λ t. t.items) c.deref.result.now c.args.texts.now all) c.requires.few

pub returns-in-Ok-clause-crew : goal.returns-in-Ok-clause-crew
returns-in-Ok-clause-crew g c =
    let crew : IsCrewText c.args.instance.now [] (map (λ t. t.items) c.args.texts.now) c.in-Ok.answers.items =
    subst (λ ts. IsCrewText c.args.instance.now [] ts c.in-Ok.answers.items)
    (all_given (λ s. s.now) (λ t. t.items) c.deref.result.now c.loop-text.scripts.items c.loop-text.text-index c.args.texts.now c.deref.ensures.value c.loop-text.invariant c.loop-text-test.false) c.in-Ok.ensures.text in
    subst (λ bytes. IsCrewText c.args.instance.now [] (map (λ t. t.items) c.args.texts.now) bytes.items) (sym c.new.ensures.text) crew
