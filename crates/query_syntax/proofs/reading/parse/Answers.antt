use Rattle.std.proofs.Common.{◌≡◌, ◌∙◌, ap, sym, true, false, length, nat_eq, Ok, rules}
use Rattle.query_syntax.proofs.Readings.{parse_is, whole_answer, front_answer, refused_answer, deep_answer}
use Rattle.query_syntax.proofs.reading.parse.Goals as goal

pub of-requires : goal.of-requires
of-requires c =
    let whole : nat_eq (length c.good_front-good.result.now) (length c.args.text.now) ≡ true = search rules in
    whole_answer (parse_is c.args.text.now c.good_front-good.result.now c.utf8.text c.good_front-good.ensures) whole c.in-Ok.ensures.1

pub returns-then-good-text : goal.returns-then-good-text
returns-then-good-text c =
    let whole : nat_eq (length c.good_front-good.result.now) (length c.args.text.now) ≡ true = search rules in
    whole_answer (parse_is c.args.text.now c.good_front-good.result.now c.utf8.text c.good_front-good.ensures) whole c.in-Ok.ensures.1
    ∙ ap (λ q. Ok q) (sym c.of.ensures)

pub returns-else-good-text : goal.returns-else-good-text
returns-else-good-text c _ =
    let part : nat_eq (length c.good_front-good.result.now) (length c.args.text.now) ≡ false = search rules in
    front_answer (parse_is c.args.text.now c.good_front-good.result.now c.utf8.text c.good_front-good.ensures) part c.in-Ok.ensures.1

pub returns-in-Err-Refused : goal.returns-in-Err-Refused
returns-in-Err-Refused c _ = refused_answer _ (parse_is c.args.text.now c.good_front-good.result.now c.utf8.text c.good_front-good.ensures) c.in-Err-Refused.ensures c.in-Err-Refused.field-0-is

pub returns-in-Err-TooDeep : goal.returns-in-Err-TooDeep
returns-in-Err-TooDeep c _ = deep_answer _ (parse_is c.args.text.now c.good_front-good.result.now c.utf8.text c.good_front-good.ensures) c.in-Err-TooDeep.ensures c.in-Err-TooDeep.field-0-is
