use Rattle.std.proofs.Common.{rules, ◌≡◌, inr, refl, string_bytes, subst, sym}
use Rattle.ctt_files.specs.Refusals.{IsOfInstanceIn}
use Rattle.ctt_files.specs.declared.fault.Fault.{Fault}
use Rattle.ctt_commands.specs.Groups.{no_sides}
use Rattle.ctt_commands.proofs.candidates.fetch_group.Goals as goal

pub returns-in_ok-refused-in-Err-clause-group : goal.returns-in_ok-refused-in-Err-clause-group
returns-in_ok-refused-in-Err-clause-group g c =
    let told = c.in_ok-refused-in-Err.ensures.refused in
    let same : string_bytes c.in_ok-name.name ≡ string_bytes c.args.wanted.instance = search rules in
    let cause = rw c.no_sides.ensures at c.in-Err.ensures.cause in
    inr (same, subst (λ (fault : Fault). IsOfInstanceIn (g.F.Files.held c.args.files.now) c.args.wanted.instance no_sides fault) (sym told.0) cause, told.1, refl)
