use Rattle.std.proofs.Common.{◌≡◌, ◌≤◌, take, true}
use Rattle.std.specs.List.{list_all}
use Rattle.script_words.specs.Forms.{is_decimal, digits_value}
use Rattle.script_words.proofs.forms.number.Given as goal

abbrev pub invariant-loop-digit : goal.invariant-loop-digit
invariant-loop-digit l = record {
  passed : list_all is_decimal (take l.digit-index l.digits) ≡ true;
  value : l.number ≡ digits_value (take l.digit-index l.digits);
  low : l.number ≤ l.limit;
}
