use Rattle.std.proofs.Common.{◌≡◌, ◌<◌, drop}
use Rattle.std.specs.Str.{all_ascii_digits}
use Rattle.script.specs.Reading.{value_after}
use Rattle.script.proofs.request.digits.Given as goal

abbrev pub invariant-loop-byte : goal.invariant-loop-byte
invariant-loop-byte l =
    (l.value < 100000)
    × (value_after l.value (drop l.byte-index l.field) ≡ value_after 0 l.field)
    × (all_ascii_digits (drop l.byte-index l.field) ≡ all_ascii_digits l.field)
