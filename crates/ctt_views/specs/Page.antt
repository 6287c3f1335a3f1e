-- The page as a whole.
use Rattle.std.specs.Prelude.{◌≡◌, ◌↔◌, ◌++◌, ℕ, Bool, IsTrue, List, Option, Some, None, codes}
use Rattle.ctt_problem.specs.Problem.{Problem}
use Rattle.ctt_problem.specs.declared.placed.Placed.{Placed}
use Rattle.ctt_rules.specs.Hard.{Complete, Lawful, hard_counts}
use Rattle.ctt_rules.specs.Penalty.{penalty, total}
use Rattle.ctt_rules.specs.declared.cost.Cost.{Cost}
use Rattle.ctt_rules.specs.declared.hard.Hard.{Hard}
use Rattle.ctt_findings.specs.Findings.{findings}
use Rattle.ctt_findings.specs.declared.finding.Finding.{Finding}
use Rattle.ctt_views.specs.Bodies.{all_grids, findings_part, lone_grid, selected_grid}
use Rattle.ctt_views.specs.Heads.{own_name, page_head, verdict}
use Rattle.ctt_views.specs.Ranking.{AreRanked}
use Rattle.ctt_views.specs.Views.{only_kind}
use Rattle.ctt_views.specs.declared.options.GridKind.{GridKind}
use Rattle.ctt_views.specs.declared.options.PageOptions.{PageOptions}
use Rattle.ctt_views.specs.declared.selection.Selection.{Selection}
use Rattle.ctt_views.specs.declared.style.TheConstants.{STYLE}
use Rattle.ctt_views.specs.declared.view.View.{View}

-- a text with the findings of a timetable is the old text and one with the findings ranked
pub record HasFindings (i : Problem) (t : List Placed) (v : View) (days : List ℕ)
    (hard : Hard) (cost : Cost) (lawful complete : Bool) (old new : List ℕ) : Type 0 where
  pub found : List Finding
  pub ranked : AreRanked (findings i t) found
  pub shown : new ≡ old ++ findings_part i v days found hard cost lawful complete

-- a text with the grids of all kinds or of one is the old text, these and the findings ranked
pub record HasAllGrids (options : PageOptions) (days : List ℕ) (i : Problem) (t : List Placed)
    (hard : Hard) (cost : Cost) (lawful complete : Bool) (old new : List ℕ) : Type 0 where
  pub found : List Finding
  pub ranked : AreRanked (findings i t) found
  pub shown : new ≡ old ++ all_grids (only_kind i options.grids) options.plain days i t found
      hard cost lawful complete

-- the text is what a page shows below the verdict: the grid of the selection alone, or the grids of
-- all kinds or of one, and all findings, ranked
abbrev pub IsBody : Option Selection → Option GridKind → Bool → List ℕ → Problem → List Placed
    → Hard → Cost → Bool → Bool → List ℕ → Type 0
IsBody (Some selection) kind plain days i t hard cost lawful complete text =
    text ≡ lone_grid plain days i t (selected_grid selection)
IsBody None kind plain days i t hard cost lawful complete text = (found : List Finding)
    × AreRanked (findings i t) found
    × (text ≡ all_grids (only_kind i kind) plain days i t found hard cost lawful complete)

-- a text with the body of a page is the old text and that body
pub record HasBody (options : PageOptions) (days : List ℕ) (i : Problem) (t : List Placed)
    (hard : Hard) (cost : Cost) (lawful complete : Bool) (old new : List ℕ) : Type 0 where
  pub text : List ℕ
  pub is_body : IsBody options.selection options.grids options.plain days i t hard cost lawful
      complete text
  pub shown : new ≡ old ++ text

-- a page with this body; the Booleans say whether it is plain, and whether the timetable is lawful
-- and complete
unfoldable pub page : List ℕ → Bool → Bool → Bool → Problem → List Placed → List ℕ → List ℕ
page solution plain lawful complete i t body = page_head STYLE.now i.name (own_name solution)
    ++ (verdict plain (total (penalty i t)) lawful complete
    ++ (body
    ++ codes "</body></html>\n"))

-- the bytes are the page of the timetable, for the name of its file, the names of days and what is
-- to be shown
pub record IsPage (solution days : List ℕ) (options : PageOptions) (i : Problem)
    (t : List Placed) (bytes : List ℕ) : Type 0 where
  pub lawful : Bool
  pub complete : Bool
  pub is_lawful : IsTrue lawful ↔ Lawful i t
  pub is_complete : IsTrue complete ↔ Complete i t
  pub body : List ℕ
  pub is_body : IsBody options.selection options.grids options.plain days i t (hard_counts i t)
      (penalty i t) lawful complete body
  pub shown : bytes ≡ page solution options.plain lawful complete i t body
