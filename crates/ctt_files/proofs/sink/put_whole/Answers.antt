use Rattle.std.proofs.KnownBytes.{Appends-kept}
use Rattle.ctt_files.proofs.OutputLemmas.{on_err, whole_front}
use Rattle.ctt_files.proofs.sink.put_whole.Goals as goal

pub returns-clause-front : goal.returns-clause-front
returns-clause-front g c =
    on_err c.flush.result (whole_front _ _ c.args.bytes.now (Appends-kept _ _ _ c.args.bytes.now c.in_ok-put_all.ensures.all c.flush.ensures.kept))
