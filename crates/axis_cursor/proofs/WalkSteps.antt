-- What each walk gives is the first of what is left of the axis.
use Rattle.std.proofs.Common.{◌≡◌, ℕ, List, length, Option, Some, None, refl, sym, ap, ◌∙◌}
use Rattle.axis_cursor.specs.Cursors.{remaining, HasBegun, Stepped}
use Rattle.node_table.specs.Laid.{is_attr_at}
use Rattle.axis_cursor.specs.RowAxes.{is_in}
use Rattle.axis_cursor.specs.Walks.{places, FirstFrom, LastBefore, is_child_of, is_node, is_node_beside, is_node_aside, parent_in, IsAtTree, IsAmong, IsAmongAttributes, IsBeside, IsAbove, IsAside, IsAtChild}
use Rattle.axis_cursor.specs.declared.walk.Walk.{Walk}
use Rattle.axis_cursor.specs.declared.walk.Walk.TheVariants.{Trees, Nodes, Attributes, After, Above, Before, TreesBefore}
use Rattle.axis_cursor.proofs.Ranges.{step_forwards, none_forwards, step_backwards, none_backwards}
use Rattle.std.specs.Prelude.{Bool, filter, reverse, ◌∷◌, []}
use Rattle.std.specs.Option.{IfSome}
use Rattle.axis_cursor.specs.Walks.{IsRow}
use Rattle.tree_model.specs.declared.axis.Axis.{Axis}
use Rattle.tree_model.specs.declared.row.Row.{Row}

-- a list, where a step goes from it to another
abbrev Ahead : List Row → Option (ℕ × Row) → List ℕ → List ℕ → Type 0
Ahead rows None old new = old ≡ []
Ahead rows (Some item) old new = (old ≡ item.0 ∷ new) × IsRow rows item

forwards : (rows : List Row) (on : ℕ → Bool) (at end to : ℕ) (found : Option (ℕ × Row)) → FirstFrom rows on at end found to → Ahead rows found (filter on (places at end)) (filter on (places to end))
forwards rows on at end to None none = none_forwards on at end none
forwards rows on at end to (Some item) first = (step_forwards on at item.0 to end first.0.from first.0.behind first.1 first.0.here first.0.others, first.0.own)

backwards : (rows : List Row) (on : ℕ → Bool) (at to : ℕ) (found : Option (ℕ × Row)) → LastBefore rows on at found to → Ahead rows found (reverse (filter on (places 0 at))) (reverse (filter on (places 0 to)))
backwards rows on at to None none = none_backwards on at none
backwards rows on at to (Some item) last = (step_backwards on item.0 at last.0.before last.0.here last.0.others ∙ ap (λ p. item.0 ∷ reverse (filter on (places 0 p))) (sym last.1), last.0.own)

module _ (rows : List Row) (axis : Axis) (c : ℕ) (walk : Walk) where
  stepped : (new : Walk) (old rest : List ℕ) (found : Option (ℕ × Row)) → remaining rows axis c walk ≡ old → rest ≡ remaining rows axis c new → Ahead rows found old rest → IfSome found (λ item. HasBegun rows axis c new)
      → Stepped rows axis c found walk new
  stepped new old rest None e f ahead begun = e ∙ ahead
  stepped new old rest (Some item) e f ahead begun = (e ∙ ahead.0 ∙ ap (λ xs. item.0 ∷ xs) f, ahead.1, begun)

  always : (P : Type 0) (found : Option (ℕ × Row)) → P → IfSome found (λ item. P)
  always P None p = tt
  always P (Some item) p = p

  pub stepped_tree : (at end to : ℕ) (found : Option (ℕ × Row)) → walk ≡ Trees at end → FirstFrom rows (is_child_of rows (parent_in rows axis c)) at end found to → IsAtTree rows (parent_in rows axis c) to end
      → Stepped rows axis c found walk (Trees to end)
  unfolding remaining
  stepped_tree at end to found e first begun =
      stepped (Trees to end) (filter (is_child_of rows (parent_in rows axis c)) (places at end)) (filter (is_child_of rows (parent_in rows axis c)) (places to end)) found
      (ap (remaining rows axis c) e) refl (forwards rows (is_child_of rows (parent_in rows axis c)) at end to found first) (always _ found begun)

  pub stepped_node : (at end to : ℕ) (found : Option (ℕ × Row)) → walk ≡ Nodes at end → FirstFrom rows (is_node rows) at end found to → IsAmong rows to end → Stepped rows axis c found walk (Nodes to end)
  unfolding remaining
  stepped_node at end to found e first begun =
      stepped (Nodes to end) (filter (is_node rows) (places at end)) (filter (is_node rows) (places to end)) found
      (ap (remaining rows axis c) e) refl (forwards rows (is_node rows) at end to found first) (always _ found begun)

  pub stepped_attribute : (at end to : ℕ) (found : Option (ℕ × Row)) → walk ≡ Attributes at end → FirstFrom rows (is_attr_at rows) at end found to → IsAmongAttributes rows to end
      → Stepped rows axis c found walk (Attributes to end)
  unfolding remaining
  stepped_attribute at end to found e first begun =
      stepped (Attributes to end) (filter (is_attr_at rows) (places at end)) (filter (is_attr_at rows) (places to end)) found
      (ap (remaining rows axis c) e) refl (forwards rows (is_attr_at rows) at end to found first) (always _ found begun)

  pub stepped_after : (at to : ℕ) (found : Option (ℕ × Row)) → walk ≡ After at → FirstFrom rows (is_node_beside rows c) at (length rows) found to → IsBeside rows c to → Stepped rows axis c found walk (After to)
  unfolding remaining
  stepped_after at to found e first begun =
      stepped (After to) (filter (is_node_beside rows c) (places at (length rows))) (filter (is_node_beside rows c) (places to (length rows))) found
      (ap (remaining rows axis c) e) refl (forwards rows (is_node_beside rows c) at (length rows) to found first) (always _ found begun)

  pub stepped_above : (at dist to far : ℕ) (found : Option (ℕ × Row)) → walk ≡ Above at dist → LastBefore rows (λ k. is_in rows k c) at found to → IsAbove rows c to far → Stepped rows axis c found walk (Above to far)
  unfolding remaining
  stepped_above at dist to far found e last begun =
      stepped (Above to far) (reverse (filter (λ k. is_in rows k c) (places 0 at))) (reverse (filter (λ k. is_in rows k c) (places 0 to))) found
      (ap (remaining rows axis c) e) refl (backwards rows (λ k. is_in rows k c) at to found last) (always _ found begun)

  pub stepped_before : (at above to next : ℕ) (found : Option (ℕ × Row)) → walk ≡ Before at above → LastBefore rows (is_node_aside rows c) at found to → IfSome found (λ item. IsAside rows c to next)
      → Stepped rows axis c found walk (Before to next)
  unfolding remaining
  stepped_before at above to next found e last begun =
      stepped (Before to next) (reverse (filter (is_node_aside rows c) (places 0 at))) (reverse (filter (is_node_aside rows c) (places 0 to))) found
      (ap (remaining rows axis c) e) refl (backwards rows (is_node_aside rows c) at to found last) begun

  pub stepped_tree_before : (at parent to : ℕ) (found : Option (ℕ × Row)) → walk ≡ TreesBefore at parent → LastBefore rows (is_child_of rows parent) at found to → IfSome found (λ item. IsAtChild rows parent to)
      → Stepped rows axis c found walk (TreesBefore to parent)
  unfolding remaining
  stepped_tree_before at parent to found e last begun =
      stepped (TreesBefore to parent) (reverse (filter (is_child_of rows parent) (places 0 at))) (reverse (filter (is_child_of rows parent) (places 0 to))) found
      (ap (remaining rows axis c) e) refl (backwards rows (is_child_of rows parent) at to found last) begun
