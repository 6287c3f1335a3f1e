use Rattle.std.proofs.Common.{◌≡◌, ◌≤◌, take, true}
use Rattle.std.specs.List.{list_all}
use Rattle.ctt_text.specs.Numbers.{is_digit, value}
use Rattle.ctt_script.proofs.amounts.amount.Given as goal

abbrev pub invariant-loop-byte : goal.invariant-loop-byte
invariant-loop-byte l = record {
  digits : list_all is_digit (take l.byte-index l.word) ≡ true;
  so_far : l.value ≡ value (take l.byte-index l.word);
  small : l.value ≤ 9223372036854775807;
}
