use Rattle.std.proofs.Common.{refl}
use Rattle.query_paths.proofs.Refused.{no_query, too_deep}
use Rattle.query_paths.proofs.asked.read.Goals as goal

pub returns-in-Err-NoReading : goal.returns-in-Err-NoReading
returns-in-Err-NoReading c = no_query c.args.words.now _ 0 c.in-Err-NoReading.ensures c.in-Err-NoReading.field-0-is refl refl

pub returns-in-Err-TooDeep : goal.returns-in-Err-TooDeep
returns-in-Err-TooDeep c = too_deep c.args.words.now _ 60 c.in-Err-TooDeep.ensures c.in-Err-TooDeep.field-0-is refl refl
