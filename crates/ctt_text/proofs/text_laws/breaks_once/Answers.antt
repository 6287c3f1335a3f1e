use Rattle.ctt_text.proofs.InstanceLaws.{instance_breaks_once}
use Rattle.ctt_text.proofs.text_laws.breaks_once.Goals as goal

pub returns : goal.returns
returns c = instance_breaks_once
