use Rattle.std.proofs.Common.{◌≡◌, ℕ, true, false, take, ap, sym, ◌∙◌, arith, rules}
use Rattle.tree_model.specs.XmlChars.{is_xml_char}
use Rattle.query_syntax.proofs.Fronts.{front_end, front_turn, stopped, went_on, bad_front}
use Rattle.query_syntax.proofs.reading.good_front.Goals as goal

pub returns-then-not-is_xml_char : goal.returns-then-not-is_xml_char
returns-then-not-is_xml_char c =
    let bad : is_xml_char c.in-Some.found ≡ false = search rules in
    let turn = front_turn c.loop-found.rest.now c.in-Some.found c.in-Some.after.now c.loop-found.invariant.0 (sym c.in-Some.ensures) in
    c.front.ensures ∙ ap (λ (n : ℕ). take n c.args.text.now) (stopped c.args.text.now c.loop-found.rest.now c.loop-found.invariant.3 (bad_front c.loop-found.rest.now c.in-Some.found c.in-Some.after.now turn bad))

pub loop-found-smaller : goal.loop-found-smaller
loop-found-smaller c =
    let turn = front_turn c.loop-found.rest.now c.in-Some.found c.in-Some.after.now c.loop-found.invariant.0 (sym c.in-Some.ensures) in
    omega (arith, turn.size, turn.some)

pub loop-found-preserved : goal.loop-found-preserved
loop-found-preserved c =
    let good : is_xml_char c.in-Some.found ≡ true = search rules in
    let turn = front_turn c.loop-found.rest.now c.in-Some.found c.in-Some.after.now c.loop-found.invariant.0 (sym c.in-Some.ensures) in
    let on = went_on c.args.text.now c.loop-found.rest.now c.in-Some.found c.in-Some.after.now turn good c.loop-found.invariant.1 c.loop-found.invariant.2 c.loop-found.invariant.3 in
    (search rules, on.0, on.1, on.2)

pub returns : goal.returns
returns c =
    c.front-2.ensures ∙ ap (λ (n : ℕ). take n c.args.text.now) (stopped c.args.text.now c.loop-found.rest.now c.loop-found.invariant.3 (front_end c.loop-found.rest.now (search rules)))
