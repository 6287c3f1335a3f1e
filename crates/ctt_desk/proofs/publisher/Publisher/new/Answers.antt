use Rattle.std.proofs.Common.{◌≡◌, [], List, refl, rules, sym, subst}
use mathlib.Core.List.{IsPrefix}
use Rattle.ctt_core.specs.declared.journal.JournalEntry.{JournalEntry}
use Rattle.ctt_desk.proofs.PublishedLemmas.{sees}
use Rattle.ctt_desk.proofs.publisher.Publisher.new.Goals as goal

pub show_as-requires : goal.show_as-requires
show_as-requires g c =
    let next = c.in_ok-third.third in
    let was : c.open-open.result.0.shown.value.history ≡ [] = search rules in
    sees _ _ _ _ _ _ _ _ _ _ (subst (λ (h : List JournalEntry). IsPrefix h next.history) (sym was) (next.history, refl)) c.in_ok-third.ensures.right
