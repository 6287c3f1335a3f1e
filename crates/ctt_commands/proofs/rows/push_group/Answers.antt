use Rattle.ctt_commands.proofs.rows.push_group.Goals as goal

pub returns-in-Refused : goal.returns-in-Refused
returns-in-Refused c =
    let told = rw (c.deref-in-Refused.ensures, c.deref-in-Refused-2.ensures.value) at c.push_refused.ensures in
    rw c.in-Refused.is told
