-- The number that the digits so far write, which a body may have.
use Rattle.std.proofs.Common.{◌≡◌, ◌≤◌, take}
use Rattle.std.specs.Str.Parse.{digits_value}
use Rattle.wb_streams.specs.Fields.{body_limit}
use Rattle.wb_streams.proofs.fields.limited.Given as goal

abbrev pub invariant-loop-digit : goal.invariant-loop-digit
invariant-loop-digit l = record {
  value : l.length ≡ digits_value 10 (take l.digit-index l.digits);
  within : l.length ≤ body_limit;
}
