use Rattle.std.proofs.Common.{◌≡◌, ◌∙◌, [], ap, inl, map, string_bytes, List, ℕ}
use Rattle.std.proofs.lemmas.List.Elements.{All-nil}
use mathlib.Core.List.{IsPrefix}
use Rattle.ctt_problem.specs.Problem.{Problem}
use Rattle.ctt_problem.specs.declared.placed.Placed.{Placed}
use Rattle.ctt_core.specs.Runs.{Legal}
use Rattle.ctt_core.specs.declared.journal.JournalEntry.{JournalEntry}
use Rattle.ctt_desk.specs.Planners.{PlannerValue}
use Rattle.ctt_seat.specs.Attended.{IsCrewText}
use Rattle.ctt_seat.specs.CrewText.{closing_text}
use Rattle.ctt_office.proofs.closing.last_lines.Goals as goal

-- the report of a crew without planners
is_closing_text : (problem : Problem) (opening : List Placed) (history : List JournalEntry) (text : List ℕ) → Legal problem opening history → text ≡ closing_text problem opening [] history → IsCrewText problem opening [] text
is_closing_text problem opening history text legal is = record {
  planners = [];
  answers = [];
  attended = tt;
  closes = record { history = history; legal = legal; holds = inl (All-nil (λ (p : PlannerValue). IsPrefix p.front history)); is = is };
}

pub returns-clause-text : goal.returns-clause-text
returns-clause-text g c =
    is_closing_text g.J.Naming.problem g.J.Naming.opening c.args.closed.now c.in_ok-closing_report.field-0.items c.closing_report.ensures.legal
    (c.in_ok-closing_report.ensures.text ∙ ap (λ answers. closing_text g.J.Naming.problem g.J.Naming.opening (map string_bytes answers) c.args.closed.now) c.new.ensures.items)
