use Rattle.std.proofs.Common.{rules, ◌≡◌, inl, refl, None, string_bytes}
use Rattle.ctt_commands.specs.Places.{place_number}
use Rattle.ctt_commands.proofs.loading.load_where.Goals as goal

pub returns-in_default-clause-cause : goal.returns-in_default-clause-cause
returns-in_default-clause-cause g c =
    let none : place_number c.args.byte (string_bytes c.args.number) ≡ None = search rules in
    let same : string_bytes c.in_ok-name.name ≡ string_bytes c.args.file = search rules in
    inl ((c.args.number, c.in_ok-name.name, refl, same, c.no_number.ensures), none)
