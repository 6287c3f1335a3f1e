-- Laws for the layers above.
use Rattle.std.specs.Prelude.{◌≡◌, List, [], ◌∷◌}
use Rattle.ctt_problem.specs.Problem.{Problem}
use Rattle.ctt_edits.specs.declared.call.Call.TheVariants.{Edit as Edits}
use Rattle.ctt_edits.specs.declared.edit.Edit.{Edit}
use Rattle.ctt_edits.specs.declared.reply.Reply.TheVariants.{Done}
use Rattle.ctt_draft.specs.Undoing.{edits_done}
use Rattle.ctt_core.specs.declared.answer.Answer.TheVariants.{Replied}
use Rattle.ctt_desk.specs.Planners.{DraftingValue}
use Rattle.ctt_seat.specs.Seats.{Asks, SeatValue}
use Rattle.ctt_seat.specs.declared.seat.Seat.TheVariants.{Drafting}
use Rattle.ctt_seat.specs.declared.seat.SeatAnswer.TheVariants.{Answer as Answered}
use Rattle.ctt_office.specs.Redone.{remade}

-- each of these edits is asked for at a seat, one after another, and answered as done
abbrev pub AreAsked : Problem → List Edit → SeatValue → SeatValue → Type 0
AreAsked i [] before after = after ≡ before
AreAsked i (e ∷ es) before after = (next : SeatValue) × Asks i (Edits e) before next (Answered (Replied Done)) × AreAsked i es next after

-- redoing edits in a draft without calls gives the same draft as asking for those that can be made
abbrev pub RedoIsAsking : Type 0
RedoIsAsking = (i : Problem) (d : DraftingValue) (edits : List Edit) → d.asked ≡ [] → AreAsked i (edits_done (remade i d.base edits)) (Drafting d) (Drafting (record d { asked = remade i d.base edits }))
