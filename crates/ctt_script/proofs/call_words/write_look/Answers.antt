use Rattle.std.proofs.Common.{arith, rules}
use Rattle.std.proofs.lemmas.Grind.{common_steps}
use Rattle.ctt_script.proofs.WrittenText.{edit_joined, pattern_joined, rest_joined}
use Rattle.ctt_script.proofs.call_words.write_look.Goals as goal

pub returns-in-Curriculum : goal.returns-in-Curriculum
returns-in-Curriculum c = rw c.in-Curriculum.is (search rules)

pub returns-in-CourseCost : goal.returns-in-CourseCost
returns-in-CourseCost c = rw c.in-CourseCost.is (search rules)

pub returns-in_ok-push_edit-in-Price : goal.returns-in_ok-push_edit-in-Price
returns-in_ok-push_edit-in-Price c = rw c.in-Price.is (grind (arith, common_steps, rest_joined, edit_joined))

pub returns-in_ok-push_pattern-in-Cheapest : goal.returns-in_ok-push_pattern-in-Cheapest
returns-in_ok-push_pattern-in-Cheapest c = rw c.in-Cheapest.is (grind (arith, common_steps, rest_joined, pattern_joined))
