use Rattle.std.proofs.Common.{◌≡◌, take, true}
use Rattle.std.specs.List.{list_all}
use Rattle.rtb_num.specs.Amounts.{is_digit, number_of}
use Rattle.json_fields.proofs.short_numbers.few_digits.Given as goal

abbrev pub invariant-loop-c : goal.invariant-loop-c
invariant-loop-c l = record {
  value : l.number ≡ number_of (take l.c-index l.text);
  digits : list_all is_digit (take l.c-index l.text) ≡ true;
}
