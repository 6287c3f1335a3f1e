use Rattle.std.proofs.Common.{◌∙◌, Ok, ap, subst, sym, codes}
use Rattle.ctt_text.specs.Forms.{times}
use Rattle.ctt_text.specs.Places.{after}
use Rattle.ctt_text.specs.Reading.{Fails, reading}
use Rattle.ctt_text.specs.InstancePlaces.{header, course, no_courses, room, no_rooms, instance, problem_of, missing, wants_memory}
use Rattle.ctt_text.specs.LastSections.{last_sections}
use Rattle.ctt_text.specs.declared.fault.ReadFault.TheVariants.{Expected}
use Rattle.ctt_text.proofs.Steps.{and_then, read_then, fails_on}
use Rattle.ctt_text.proofs.LastSections.{last_read}
use Rattle.ctt_text.proofs.instance.read.read_sections.Goals as goal

pub returns-in-Err-read_last_sections : goal.returns-in-Err-read_last_sections
unfolding instance
returns-in-Err-read_last_sections c =
    subst (Fails wants_memory c.in-Err-read_last_sections.fault)
    (sym (read_then missing header _ c.args.reader.now c.read_header.new.reader c.in_ok-header.header c.in_ok-header.ensures.exact
    ∙ read_then missing (after Expected (codes "COURSES:") (times course c.in_ok-header.header.courses no_courses)) _ c.read_header.new.reader c.read_course_section.new.reader c.in_ok-courses.courses c.in_ok-courses.ensures.exact
    ∙ read_then missing (after Expected (codes "ROOMS:") (times room c.in_ok-header.header.rooms no_rooms)) _ c.read_course_section.new.reader c.read_room_section.new.reader c.in-Ok.rooms c.in-Ok.ensures
    ∙ last_read c.in_ok-header.header c.in_ok-courses.courses c.in-Ok.rooms c.read_room_section.new.reader))
    (fails_on missing wants_memory c.in-Err-read_last_sections.fault (reading missing (last_sections c.in_ok-header.header c.in_ok-courses.courses.names) c.read_room_section.new.reader) _ c.in-Err-read_last_sections.ensures.exact)

pub returns : goal.returns
unfolding instance
returns c =
    read_then missing header _ c.args.reader.now c.read_header.new.reader c.in_ok-header.header c.in_ok-header.ensures.exact
    ∙ read_then missing (after Expected (codes "COURSES:") (times course c.in_ok-header.header.courses no_courses)) _ c.read_header.new.reader c.read_course_section.new.reader c.in_ok-courses.courses c.in_ok-courses.ensures.exact
    ∙ read_then missing (after Expected (codes "ROOMS:") (times room c.in_ok-header.header.rooms no_rooms)) _ c.read_course_section.new.reader c.read_room_section.new.reader c.in-Ok.rooms c.in-Ok.ensures
    ∙ last_read c.in_ok-header.header c.in_ok-courses.courses c.in-Ok.rooms c.read_room_section.new.reader
    ∙ ap (λ r. and_then r (λ last rest. Ok (problem_of c.in_ok-header.header c.in_ok-courses.courses c.in-Ok.rooms last.0 last.1, rest))) c.in-Ok-read_last_sections.ensures.exact
