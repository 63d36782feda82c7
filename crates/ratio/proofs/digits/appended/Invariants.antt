use Rattle.std.proofs.Common.{◌≡◌, ◌<◌, ◌^◌, ◌↔◌, drop}
use Rattle.std.specs.Str.Parse.{AllDigits, digits_value_after}
use Rattle.ratio.proofs.digits.appended.Given as goal

abbrev pub invariant-loop-byte : goal.invariant-loop-byte
invariant-loop-byte l = record {
  small : l.number < 2 ^ 127;
  value : digits_value_after 10 l.start l.digits ≡ digits_value_after 10 l.number (drop l.byte-index l.digits);
  digits : AllDigits 10 l.digits ↔ AllDigits 10 (drop l.byte-index l.digits);
}
