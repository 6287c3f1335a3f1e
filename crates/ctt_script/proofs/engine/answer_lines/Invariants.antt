use Rattle.std.proofs.Common.{◌≡◌, string_bytes}
use Rattle.ctt_script.specs.Answering.{Answering}
use Rattle.ctt_script.specs.ScriptText.{lines_of}
use Rattle.ctt_script.proofs.engine.answer_lines.Given as goal

-- the lines before those that are left are answered; the answers are written, except for the
-- buffered ones
abbrev pub invariant-loop-line : goal.invariant-loop-line
invariant-loop-line g l = record {
  answering : Answering l.initial.desk l.desk (lines_of l.text) l.line-iterator (g.W.Sink.taken l.fn.writer) (g.W.Sink.taken l.writer) (string_bytes l.answers);
  unmarked : g.W.Sink.has_failed l.writer ≡ g.W.Sink.has_failed l.fn.writer;
}
