use Rattle.axis_cursor.proofs.WalkSteps.{stepped_tree, stepped_node, stepped_attribute, stepped_after, stepped_above, stepped_before, stepped_tree_before}
use Rattle.axis_cursor.proofs.origin.Origin.step.Goals as goal

pub returns-in-Trees-clause-stepped : goal.returns-in-Trees-clause-stepped
returns-in-Trees-clause-stepped c = stepped_tree _ _ _ _ _ _ _ _ c.in-Trees.is c.next_tree.ensures.first c.next_tree.ensures.at

pub returns-in-Nodes-clause-stepped : goal.returns-in-Nodes-clause-stepped
returns-in-Nodes-clause-stepped c = stepped_node _ _ _ _ _ _ _ _ c.in-Nodes.is c.next_node.ensures.first c.next_node.ensures.at

pub returns-in-Attributes-clause-stepped : goal.returns-in-Attributes-clause-stepped
returns-in-Attributes-clause-stepped c = stepped_attribute _ _ _ _ _ _ _ _ c.in-Attributes.is c.next_attribute.ensures.first c.next_attribute.ensures.at

pub returns-in-After-clause-stepped : goal.returns-in-After-clause-stepped
returns-in-After-clause-stepped c = stepped_after _ _ _ _ _ _ _ c.in-After.is c.next_after.ensures.first c.next_after.ensures.at

pub returns-in-Above-clause-stepped : goal.returns-in-Above-clause-stepped
returns-in-Above-clause-stepped c = stepped_above _ _ _ _ _ _ _ _ _ c.in-Above.is c.next_above.ensures.last c.next_above.ensures.at

pub returns-in-Before-clause-stepped : goal.returns-in-Before-clause-stepped
returns-in-Before-clause-stepped c = stepped_before _ _ _ _ _ _ _ _ _ c.in-Before.is c.next_before.ensures.last c.next_before.ensures.at

pub returns-in-TreesBefore-clause-stepped : goal.returns-in-TreesBefore-clause-stepped
returns-in-TreesBefore-clause-stepped c = stepped_tree_before _ _ _ _ _ _ _ _ c.in-TreesBefore.is c.next_tree_before.ensures.last c.next_tree_before.ensures.at
