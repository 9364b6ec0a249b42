use Rattle.std.proofs.Common.{◌≡◌, ◌<◌, ◌^◌, drop}
use Rattle.commands.specs.Commands.{number_from}
use Rattle.commands.proofs.number.read_number.Given as goal

abbrev pub invariant-loop-digit : goal.invariant-loop-digit
invariant-loop-digit l =
    record { sofar : number_from l.value (drop l.digit-index l.word) ≡ number_from 0 l.word; below : l.value < 10 ^ l.digit-index }
