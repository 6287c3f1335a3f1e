use Rattle.ctt_commands.proofs.comparing.compare.Goals as goal

pub returns-clause-compares : goal.returns-clause-compares
returns-clause-compares c = record {
  found = c.in_ok-rows.rows.items;
  rows = c.in_ok-order.field-0.items;
  are_rows = c.in_ok-rows.ensures;
  ordered = c.in_ok-order.ensures;
  text = rw (c.shape_of-shape.ensures, c.table_form-form.ensures) at c.in_ok-text.ensures;
  refused = c.in_ok-refused.ensures;
  outcome = rw (c.deref.ensures, c.deref-2.ensures.value, c.in_ok-refused.ensures) at c.judge_rows-outcome.ensures;
}
