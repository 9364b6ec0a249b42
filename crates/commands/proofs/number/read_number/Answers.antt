use Rattle.std.proofs.Common.{◌≡◌, true, arith}
use Rattle.commands.specs.Commands.{is_number}
use Rattle.commands.proofs.Words.{number_len, room_for_digit}
use Rattle.commands.proofs.number.read_number.Goals as goal

pub overflow_mul-value : goal.overflow_mul-value
overflow_mul-value c =
    let is : is_number c.args.word.now ≡ true = cc in
    let len = number_len c.args.word.now is in
    let room = room_for_digit c.loop-digit.value c.loop-digit.digit-index c.loop-digit.invariant.below (omega arith) in
    omega arith

pub overflow_add-value : goal.overflow_add-value
overflow_add-value c =
    let is : is_number c.args.word.now ≡ true = cc in
    let len = number_len c.args.word.now is in
    let room = room_for_digit c.loop-digit.value c.loop-digit.digit-index c.loop-digit.invariant.below (omega arith) in
    let byte = c.type_inv.word c.loop-digit.digit-index in
    omega arith
