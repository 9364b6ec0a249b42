use Rattle.std.proofs.Common.{◌<◌, length, ℕ, ◌∙◌, ap, subst, sym}
use Rattle.std.specs.Prelude.{filter}
use Rattle.std.specs.List.{All, range_with_len}
use Rattle.tree_model.specs.Nodes.{is_place_among}
use Rattle.axis_steps.specs.Steps.{rows_of}
use Rattle.axis_steps.proofs.Leading.{step_is, reached_within, ordered_within}
use Rattle.axis_steps.proofs.steps.step.Goals as goal

pub in_document_order-requires : goal.in_document_order-requires
in_document_order-requires c =
    subst (λ (n : ℕ). All (λ p. p < n) c.in_ok-found.found.items) (sym (c.len.ensures.len c.args.trees.now.pool.now c.requires.held))
    (reached_within c.args.trees.now.names.now (rows_of c.args.trees.now) _ c.args.places.now c.in_ok-found.found.items c.in_ok-found.ensures.reached)

pub returns-clause-step : goal.returns-clause-step
returns-clause-step c = λ values trees.
    let ordered = c.in_document_order.ensures ∙ ap (λ (n : ℕ). filter (is_place_among c.in_ok-found.found.items) (range_with_len 0 n)) (c.len.ensures.len c.args.trees.now.pool.now c.requires.held) in
    step_is c.args.trees.now.names.now values (rows_of c.args.trees.now) trees (record { axis = c.args.axis; test = c.args.test }) c.args.places.now c.in_ok-found.found.items c.in_document_order.new.places.items
    c.requires.within c.in_ok-found.ensures.reached ordered

pub returns-clause-within : goal.returns-clause-within
returns-clause-within c =
    ordered_within (length (rows_of c.args.trees.now)) (is_place_among c.in_ok-found.found.items) c.in_document_order.new.places.items
    (c.in_document_order.ensures ∙ ap (λ (n : ℕ). filter (is_place_among c.in_ok-found.found.items) (range_with_len 0 n)) (c.len.ensures.len c.args.trees.now.pool.now c.requires.held))
