use Rattle.std.proofs.Common.{rules, ◌≡◌, List, string_bytes, subst, sym}
use Rattle.ctt_files.specs.Texts.{Held}
use Rattle.ctt_commands.specs.Groups.{IsCompared, IsReadAs}
use Rattle.ctt_commands.specs.declared.group.Group.{Group}
use Rattle.ctt_commands.proofs.CompareLemmas.{read_named}
use Rattle.ctt_commands.proofs.candidates.fetch_compared.Goals as goal

pub returns-clause-groups : goal.returns-clause-groups
returns-clause-groups g c =
    let held : Held = g.F.Files.held c.args.files.now in
    let same : string_bytes c.in_ok-name.name ≡ string_bytes c.args.instance = search rules in
    let read : IsReadAs held c.in_ok-name.name c.in_ok-instance.instance c.args.solutions.items c.in_ok-group.group =
    subst (λ (known : Held). IsReadAs known c.in_ok-name.name c.in_ok-instance.instance c.args.solutions.items c.in_ok-group.group) c.in_ok-instance.ensures.kept c.in_ok-group.ensures.group in
    subst (λ (groups : List Group). IsCompared held c.args.instance c.args.sides c.args.solutions.items groups) (sym c.in_ok-alone.ensures)
    (c.in_ok-instance.instance, c.in_ok-instance.ensures.spelled, read_named held c.in_ok-name.name c.args.instance c.in_ok-instance.instance c.args.solutions.items c.in_ok-group.group same read)
