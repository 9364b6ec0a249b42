-- The documents of a database, one after the other, and where they stand.
use Rattle.std.proofs.Common.{◌≡◌, inl, inr, ℕ, zero, suc, ◌+◌, ◌<◌, ◌≤◌, ◌^◌, List, [], ◌∷◌, ◌++◌, length, get_or, refl, sym, ap, ◌∙◌, subst, arith, append-nil, append_assoc}
use Rattle.std.specs.Prelude.{filter, nat_eq}
use Rattle.std.specs.List.{All, slice_index_or}
use Rattle.std.proofs.lemmas.List.{get_or-map}
use Rattle.node_table.specs.Laid.{dist_at}
use Rattle.node_table.specs.Views.{places_of}
use Rattle.node_table.specs.Tables.{few_rows}
use Rattle.node_table.proofs.NodeRows.{one_there, nodes_counted, root_row}
use Rattle.tree_model.specs.Forest.{Forest, none, tree, count, top_count, Line, flatten}
use Rattle.tree_model.specs.Labels.{Label}
use Rattle.tree_model.specs.Nodes.{Node, nodes, root_nodes_from, root_nodes}
use Rattle.tree_model.specs.Rows.{line_of}
use Rattle.tree_model.specs.declared.row.Row.{Row}
use Rattle.tree_model.proofs.Standing.{IsIn, roots_in, place_below, node_places}
use Rattle.tree_model.proofs.Tables.{placed_at}
use Rattle.doc_store.specs.Places.{AreTreesBetween, trees_between, roots_between, Turn}
use Rattle.doc_store.specs.Stored.{Stored, stored_rows, stored_lines, base_of, IsKept}
use Rattle.doc_store.proofs.Siblings.{between_is, turn, none_between}

-- as many rows as nodes
pub rows_counted : (d : Stored) → IsKept d → length (stored_rows d) ≡ count (base_of d).documents
rows_counted d h = sym (nodes_counted d.names d.values (stored_rows d) h.trees)

-- ---- from document to document

-- a reader of the rows of a database is about to read a document, or is behind the last one
pub record Walks (d : Stored) (rows : List Row) (at end : ℕ) : Type 0 where
  pub kept : IsKept d
  pub rows_are : rows ≡ stored_rows d
  pub last : end ≡ length (stored_rows d)
  pub trees : AreTreesBetween (stored_lines d) at end

-- it has read one
pub record Passed (d : Stored) (rows : List Row) (at end : ℕ) (row : Row) : Type 0 where
  pub forth : 0 < row.size
  pub within : at + row.size ≤ end
  pub few : end ≤ 2 ^ 24
  pub placed : row.val.at + row.val.len ≤ length d.values
  pub turn : Turn (stored_lines d) at end (line_of d.names d.values row)
  pub walks : Walks d rows (at + row.size) end

all_trees : (d : Stored) → IsKept d → AreTreesBetween (stored_lines d) 0 (length (stored_rows d))
all_trees d h = record {
  trees = (base_of d).documents;
  before = [];
  dist = 0;
  behind = [];
  are = sym h.trees.flat ∙ sym (append-nil (flatten (base_of d).documents));
  starts = refl;
  ends = omega (arith, rows_counted d h);
}

pub begun : (d : Stored) (rows : List Row) (end : ℕ) → IsKept d → rows ≡ stored_rows d → end ≡ length rows → Walks d rows 0 end
begun d rows end h is e =
    let last : end ≡ length (stored_rows d) = e ∙ ap length is in
    record { kept = h; rows_are = is; last = last; trees = subst (AreTreesBetween (stored_lines d) 0) (sym last) (all_trees d h) }

-- at first all documents are left
pub all_left : (d : Stored) (rows : List Row) (end : ℕ) → Walks d rows 0 end → trees_between (stored_lines d) 0 end ≡ (base_of d).documents
unfolding all_trees
all_left d rows end w = ap (trees_between (stored_lines d) 0) w.last ∙ between_is (stored_lines d) 0 (length (stored_rows d)) (all_trees d w.kept)

-- a document is passed by the size in its row
pub passed : (d : Stored) (rows now : List Row) (at end : ℕ) (row : Row) → Walks d rows at end → now ≡ rows → at < end → row ≡ slice_index_or rows at row → Passed d now at end row
passed d rows now at end row w same lt is = record {
  forth = omega (arith, t.size);
  within = omega (arith, t.others.ends);
  few = omega (arith, w.last, few_rows d.pool d.table w.kept.held);
  placed = subst (λ (r : Row). r.val.at + r.val.len ≤ length d.values) (sym found) (placed_at d.names d.values (stored_rows d) at row w.kept.trees.placed inside).1;
  turn = t;
  walks = record { kept = w.kept; rows_are = same ∙ w.rows_are; last = w.last; trees = t.others };
}
  where
    line : Row → Line Label
    line = line_of d.names d.values

    inside : at < length (stored_rows d)
    inside = omega (arith, w.last)

    found : row ≡ get_or (stored_rows d) at row
    found = is ∙ ap (λ l. get_or l at row) w.rows_are

    there : get_or (stored_lines d) at (line row) ≡ line row
    there = get_or-map line (stored_rows d) at row (line row) inside ∙ ap line (sym found)

    t : Turn (stored_lines d) at end (line row)
    t = turn (stored_lines d) at end w.trees lt (line row) (sym there)

-- ---- what is listed and counted so far

pub all_to_list : (d : Stored) (rows : List Row) (end : ℕ) → Walks d rows 0 end → roots_between (stored_lines d) 0 end ≡ places_of (root_nodes (base_of d).documents)
all_to_list d rows end w = ap (λ f. places_of (root_nodes f)) (all_left d rows end w)

pub more_listed : (ls : List (Line Label)) (at end : ℕ) (line : Line Label) (places all : List ℕ) → Turn ls at end line → places ++ roots_between ls at end ≡ all → (places ++ at ∷ []) ++ roots_between ls (at + line.size) end ≡ all
more_listed ls at end line places all t sofar =
    append_assoc places (at ∷ []) (roots_between ls (at + line.size) end)
    ∙ ap (λ n. places ++ at ∷ places_of (root_nodes_from (at + n) (trees_between ls (at + line.size) end))) t.size
    ∙ ap (λ f. places ++ places_of (root_nodes_from at f)) (sym t.trees)
    ∙ sofar

pub all_listed : (ls : List (Line Label)) (at end : ℕ) (places all : List ℕ) → AreTreesBetween ls at end → end ≤ at → places ++ roots_between ls at end ≡ all → places ≡ all
all_listed ls at end places all w le sofar =
    sym (append-nil places) ∙ ap (λ f. places ++ places_of (root_nodes_from at f)) (sym (none_between ls at end w le)) ∙ sofar

pub more_counted : (ls : List (Line Label)) (at end : ℕ) (line : Line Label) (n all : ℕ) → Turn ls at end line → n + top_count (trees_between ls at end) ≡ all → n + 1 + top_count (trees_between ls (at + line.size) end) ≡ all
more_counted ls at end line n all t sofar = omega (arith, ap top_count t.trees)

pub all_counted : (ls : List (Line Label)) (at end : ℕ) (n all : ℕ) → AreTreesBetween ls at end → end ≤ at → n + top_count (trees_between ls at end) ≡ all → n ≡ all
all_counted ls at end n all w le sofar = omega (arith, ap top_count (none_between ls at end w le))

-- no more documents than nodes
pub top_count-le : (f : Forest Label) → top_count f ≤ count f
top_count-le none = omega arith
top_count-le (tree a attrs kids rest) = omega (arith, top_count-le rest)

-- ---- where documents stand

pub length-roots : (n : ℕ) (f : Forest Label) → length (places_of (root_nodes_from n f)) ≡ top_count f
length-roots n none = refl
length-roots n (tree a attrs kids rest) = ap suc (length-roots (n + (1 + length attrs + count kids)) rest)

-- as many places as documents
pub places_counted : (f : Forest Label) → length (places_of (root_nodes f)) ≡ top_count f
places_counted f = length-roots 0 f

-- the node at the place of a document is the document's
pub document_there : (f : Forest Label) (node : Node Label) → IsIn (root_nodes f) node → filter (λ (other : Node Label). nat_eq other.place node.place) (nodes f) ≡ node ∷ []
document_there f node h = one_there 0 (count f) (nodes f) node (node_places 0 f) (roots_in 0 f node h)

-- it stands within the rows
pub document_within : (d : Stored) (node : Node Label) → IsKept d → IsIn (root_nodes (base_of d).documents) node → node.place < length (stored_rows d)
document_within d node h t = omega (arith, place_below (base_of d).documents node (roots_in 0 (base_of d).documents node t), rows_counted d h)

-- as the row of a root
pub document_root : (d : Stored) (node : Node Label) → IsKept d → IsIn (root_nodes (base_of d).documents) node → dist_at (stored_rows d) node.place ≡ 0
document_root d node h t = (root_row d.names d.values (stored_rows d) h.trees node t).dist

-- what holds of the place of each node holds of each of their places
all_places : (found : List (Node Label)) (P : ℕ → Type 0) → ((node : Node Label) → IsIn found node → P node.place) → All P (places_of found)
all_places [] P each k d lt = absurd (omega arith)
all_places (node ∷ found) P each zero d lt = each node (inl refl)
all_places (node ∷ found) P each (suc k) d lt = all_places found P (λ other i. each other (inr i)) k d (omega arith)

pub documents_within : (d : Stored) (places : List ℕ) → IsKept d → places ≡ places_of (root_nodes (base_of d).documents) → All (λ place. place < length (stored_rows d)) places
documents_within d places h are =
    subst (λ l. All (λ place. place < length (stored_rows d)) l) (sym are) (all_places (root_nodes (base_of d).documents) (λ place. place < length (stored_rows d)) (λ node t. document_within d node h t))

pub documents_roots : (d : Stored) (places : List ℕ) → IsKept d → places ≡ places_of (root_nodes (base_of d).documents) → All (λ place. dist_at (stored_rows d) place ≡ 0) places
documents_roots d places h are =
    subst (λ l. All (λ place. dist_at (stored_rows d) place ≡ 0) l) (sym are) (all_places (root_nodes (base_of d).documents) (λ place. dist_at (stored_rows d) place ≡ 0) (λ node t. document_root d node h t))
