use Rattle.std.proofs.Common.{arith}
use Rattle.std.proofs.lemmas.Grind.{common_steps}
use Rattle.ctt_script.proofs.WrittenText.{fault_joined, rest_joined}
use Rattle.ctt_script.proofs.answers.write_reply.Goals as goal

pub returns-in_ok-push_fault-in-Refused : goal.returns-in_ok-push_fault-in-Refused
returns-in_ok-push_fault-in-Refused c = rw c.in-Refused.is (grind (arith, common_steps, rest_joined, fault_joined))
