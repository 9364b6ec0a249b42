-- A reply of the code, without where it lies in memory.
use Rattle.kernel_session.specs.Replies.{Answer, accepted, refused, refusal_text}
use Rattle.kernel_session.specs.declared.reply.Reply.{Reply}
use Rattle.kernel_session.specs.declared.reply.Reply.TheVariants as reply

abbrev pub answer_of : Reply → Answer
answer_of (reply.Ok payload) = accepted payload.items
answer_of (reply.Err why) = refused (refusal_text why)
