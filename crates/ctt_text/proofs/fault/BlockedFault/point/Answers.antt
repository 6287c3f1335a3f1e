use Rattle.ctt_text.proofs.PointLemmas.{blocked_not_bytes}
use Rattle.ctt_text.proofs.fault.BlockedFault.point.Goals as goal

pub returns : goal.returns
returns c = rw (blocked_not_bytes c.args.file.now c.args.text.now c.args.self.now c.in_default.not-NotText)
    (rw (c.code.ensures, c.at-2.ensures, c.deref.ensures, c.deref-2.ensures, c.in_ok-entry.ensures, c.in_ok-sentence.ensures, c.at.ensures) at c.entry_point.ensures)
