use Rattle.std.proofs.Common.{◌||◌, ap}
use Rattle.std.specs.Option.{option_map}
use Rattle.kernel_session.specs.ReplyView.{answer_of}
use Rattle.kernel_session.proofs.Serving.{stops_told}
use Rattle.kernel_session.proofs.session.serve.Goals as goal

pub returns-in-Ok : goal.returns-in-Ok
returns-in-Ok g c =
    let answered = rw c.deref.ensures.value at c.reply_if-reply.ensures in
    let written = rw c.in-Ok.is at c.write_if.ensures in
    record {
      answer = option_map answer_of c.reply_if-reply.result.0;
      is = answered.answer;
      later = written.later;
      ok = record {
        written = written.ok;
        refusal = ap (λ x. c.args.refused || x) c.is_refused-is_refused.ensures;
        stops = λ l kept. stops_told c.args.options l (option_map answer_of c.reply_if-reply.result.0) c.reply_if-reply.result.1 c.is_refused-is_refused.result (answered.exit l kept) c.is_refused-is_refused.ensures;
      };
      err = tt;
    }

pub returns : goal.returns
returns g c =
    let answered = rw c.deref.ensures.value at c.reply_if-reply.ensures in
    let written = rw c.in-Err.is at c.write_if.ensures in
    record { answer = option_map answer_of c.reply_if-reply.result.0; is = answered.answer; later = written.later; ok = tt; err = written.err }
