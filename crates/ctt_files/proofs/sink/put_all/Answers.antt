use Rattle.std.proofs.Common.{◌∙◌, arith, length-drop, take-add}
use Rattle.std.proofs.KnownBytes.{Appends-trans}
use Rattle.std.proofs.lemmas.List.{take_rest}
use Rattle.ctt_files.proofs.sink.put_all.Goals as goal

pub loop-written-preserved : goal.loop-written-preserved
loop-written-preserved g c =
    let before = c.loop-written.invariant in
    let put = rw take_rest at c.in_ok-n.ensures in
    record {
      within = omega (arith, put.within, length-drop c.loop-written.written c.args.bytes.now);
      unmarked = put.unmarked (omega (arith, c.if-n-eq0.false)) ∙ before.unmarked;
      took = rw take-add (Appends-trans _ _ _ _ _ before.took put.took);
    }
