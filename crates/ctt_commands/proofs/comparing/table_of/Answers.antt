use Rattle.ctt_commands.proofs.comparing.table_of.Goals as goal

pub returns : goal.returns
returns c = rw (c.deref.ensures.value, c.deref-2.ensures.value, c.in_ok-columns.ensures, c.in_ok-shown.ensures) at c.text_in.ensures
