use Rattle.std.proofs.Common.{◌≡◌, ◌≤◌, ◌-◌, take, length, true}
use Rattle.std.specs.List.{list_all}
use Rattle.ctt_text.specs.Numbers.{is_digit, value}
use Rattle.ctt_text.proofs.numbers.leading_number.Given as goal

abbrev pub invariant-loop-len : goal.invariant-loop-len
invariant-loop-len l = record {
  within : l.len ≤ length l.bytes;
  digits : list_all is_digit (take l.len l.bytes) ≡ true;
  so_far : l.value ≡ value (take l.len l.bytes);
  small : l.value ≤ 999999999;
}

abbrev pub decreases-loop-len : goal.decreases-loop-len
decreases-loop-len l = length l.bytes - l.len
