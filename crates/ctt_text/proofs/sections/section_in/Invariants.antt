use Rattle.std.proofs.Common.{◌≡◌, drop}
use Rattle.ctt_text.specs.Sections.{section_in}
use Rattle.ctt_text.proofs.sections.section_in.Given as goal

abbrev pub invariant-loop-section : goal.invariant-loop-section
invariant-loop-section l = section_in l.left (drop l.section-index l.sections) ≡ section_in l.place l.sections
