use Rattle.std.proofs.Common.{◌∙◌, ⊎_elim, arith, inl, rules, sym, true≢false}
use Rattle.ctt_words.specs.Jobs.{HasScripts}
use Rattle.ctt_words.proofs.Given.{job_has_scripts}
use Rattle.ctt_program.specs.Streams.{stream}
use Rattle.ctt_program.proofs.Ends.{ended_done, ended_known, ended_marked, ended_so, ended_unprinted}
use Rattle.ctt_program.proofs.jobs.program.Goals as goal

pub do_job-ended-requires : goal.do_job-ended-requires
do_job-ended-requires g c =
    let has : HasScripts c.in-Ok.asked.job = job_has_scripts _ c.in-Ok.asked c.in-Ok.ensures.asked in
    search rules

pub returns-in-Ok-clause-served : goal.returns-in-Ok-clause-served
returns-in-Ok-clause-served g c =
    inl (
      c.in-Ok.ensures.taken,
      (
        c.in-Ok.asked,
        c.in-Ok.ensures.asked,
        ended_so g.V.Sink.taken g.V.Sink.has_failed c.in-Ok.asked.job c.in-Ok.asked.point c.end.result (g.F.Files.held c.args.files.now) (g.F.Files.held c.do_job-ended.new.files) (stream g.W.Sink.taken g.W.Sink.has_failed c.args.out.now c.do_job-ended.new.out)
            c.args.err.now c.do_job-ended.new.err c.end.new.err c.do_job-ended.result c.do_job-ended.ensures.does c.do_job-ended.ensures.stops c.end.ensures.done c.end.ensures.quiet c.end.ensures.reports,
      ),
    )

pub returns-in-Ok-clause-known : goal.returns-in-Ok-clause-known
returns-in-Ok-clause-known g c = ended_known c.end.result c.do_job-ended.result c.end.ensures.done c.end.ensures.status

pub returns-in-Ok-clause-unmarked : goal.returns-in-Ok-clause-unmarked
returns-in-Ok-clause-unmarked g c = λ zero. ⊎_elim (λ three. absurd (omega (arith, three, zero))) (λ same. same ∙ c.requires.out)
    (ended_marked (g.F.Files.held c.args.files.now) (g.F.Files.held c.do_job-ended.new.files) (stream g.W.Sink.taken g.W.Sink.has_failed c.args.out.now c.do_job-ended.new.out) (stream g.V.Sink.taken g.V.Sink.has_failed c.args.err.now c.do_job-ended.new.err) c.in-Ok.asked.job c.end.result c.do_job-ended.result c.do_job-ended.ensures.unmarked c.do_job-ended.ensures.stops c.end.ensures.status)

pub returns-in-Ok-clause-unwritten : goal.returns-in-Ok-clause-unwritten
returns-in-Ok-clause-unwritten g c = λ failed. ⊎_elim (λ three. three) (λ same. absurd (true≢false (sym failed ∙ same ∙ c.requires.out)))
    (ended_marked (g.F.Files.held c.args.files.now) (g.F.Files.held c.do_job-ended.new.files) (stream g.W.Sink.taken g.W.Sink.has_failed c.args.out.now c.do_job-ended.new.out) (stream g.V.Sink.taken g.V.Sink.has_failed c.args.err.now c.do_job-ended.new.err) c.in-Ok.asked.job c.end.result c.do_job-ended.result c.do_job-ended.ensures.unmarked c.do_job-ended.ensures.stops c.end.ensures.status)

pub returns-in-Ok-clause-unprinted : goal.returns-in-Ok-clause-unprinted
returns-in-Ok-clause-unprinted g c = ended_unprinted (g.F.Files.held c.args.files.now) (g.F.Files.held c.do_job-ended.new.files) (stream g.W.Sink.taken g.W.Sink.has_failed c.args.out.now c.do_job-ended.new.out) (stream g.V.Sink.taken g.V.Sink.has_failed c.args.err.now c.do_job-ended.new.err) c.in-Ok.asked.job c.end.result c.do_job-ended.result c.end.ensures.done c.do_job-ended.ensures.stops c.end.ensures.status

pub returns-in-Ok-clause-flushed : goal.returns-in-Ok-clause-flushed
returns-in-Ok-clause-flushed g c = ended_done c.end.result c.do_job-ended.result _ c.do_job-ended.ensures.flushed c.end.ensures.status
