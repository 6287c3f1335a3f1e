use Rattle.std.proofs.Common.{◌∙◌, codes}
use Rattle.std.proofs.lemmas.Result.{err_from_is_err_and}
use Rattle.ctt_problem.specs.BitRows.{marks_of}
use Rattle.ctt_text.specs.Forms.{times}
use Rattle.ctt_text.specs.Places.{after, fixed}
use Rattle.ctt_text.specs.InstancePlaces.{curriculum, no_curricula, unavailability, all_available, missing, wants_memory}
use Rattle.ctt_text.specs.LastSections.{last_sections}
use Rattle.ctt_text.specs.declared.fault.ReadFault.TheVariants.{Expected}
use Rattle.ctt_text.proofs.Steps.{read_then, fails_there}
use Rattle.ctt_text.proofs.instance.read.read_last_sections.Goals as goal

pub returns-in_err-read_fixed : goal.returns-in_err-read_fixed
unfolding last_sections
returns-in_err-read_fixed c =
    let p = err_from_is_err_and c.from_residual-in_err-read_fixed.result c.from_residual-in_err-read_fixed.ensures.1 in
    rw (p.1, p.2) (record {
      size = tt;
      exact = (fails_there missing wants_memory c.in_err-read_fixed.field-0.0 (fixed Expected (codes "END.")) _ c.read_unavailability_section.new.reader _
          (read_then missing (after Expected (codes "CURRICULA:") (times (curriculum c.args.courses.now.names) c.args.header.now.curricula no_curricula)) _ c.args.reader.now c.read_curriculum_section.new.reader c.in_ok-curricula.curricula c.in_ok-curricula.ensures
          ∙ read_then missing (after Expected (codes "UNAVAILABILITY_CONSTRAINTS:") (times (unavailability c.args.courses.now.names c.args.header.now.days c.args.header.now.periods) c.args.header.now.constraints (all_available c.args.header.now))) _ c.read_curriculum_section.new.reader c.read_unavailability_section.new.reader (marks_of c.in_ok-unavailable.unavailable) c.in_ok-unavailable.ensures.exact)
          c.in_err-read_fixed.ensures);
    })
