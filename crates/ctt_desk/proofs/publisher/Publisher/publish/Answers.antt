use Rattle.std.proofs.Common.{◌≡◌, List, rules, subst}
use mathlib.Core.List.{IsPrefix}
use Rattle.ctt_core.specs.declared.journal.JournalEntry.{JournalEntry}
use Rattle.ctt_desk.proofs.PublishedLemmas.{sees}
use Rattle.ctt_desk.proofs.publisher.Publisher.publish.Goals as goal

pub show_as-requires : goal.show_as-requires
show_as-requires g c =
    let next = c.take_in-2.new.self in
    let was : c.take_in.new.self.history ≡ c.open-open.result.0.shown.value.history = search rules in
    let grows : IsPrefix c.take_in.new.self.history next.history = search rules in
    sees _ _ _ _ _ _ _ _ _ _ (subst (λ (h : List JournalEntry). IsPrefix h next.history) was grows) c.take_in-2.ensures.right
