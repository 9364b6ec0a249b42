-- Databases and their branches, as names, values and rows come and go.
use Rattle.std.proofs.Common.{◌≡◌, ℕ, ◌+◌, ◌≤◌, ◌^◌, true, false, List, [], ◌∷◌, ◌++◌, map, length, take, drop, refl, sym, ap, ◌∙◌, subst, arith, take_at, drop_at, append-nil}
use Rattle.std.proofs.Math.ListN.{take-append-drop}
use Rattle.std.proofs.Math.Seq.{take-length}
use Rattle.std.proofs.lemmas.List.{map-append, take-map, drop-map}
use Rattle.frame_pool.specs.Frames.{Held}
use Rattle.id_map.specs.Ids.{with_ids, AreNew}
use Rattle.node_table.specs.Tables.{rows_in, IsIn, KeepsTables, with_rows}
use Rattle.node_table.specs.Views.{view_of, part_view, view_lines, view_forest, HasKinds, KeepsTrees}
use Rattle.node_table.proofs.KeptKinds.{kept_kinds}
use Rattle.tree_model.specs.Forest.{Forest, none, tree, count, join, Line, flatten, grove_of, IsFlat}
use Rattle.tree_model.specs.Ids.{ids_of}
use Rattle.tree_model.specs.Trees.{grove_is, is_flat, flat-length, length-lines, lines-join, count-join}
use Rattle.tree_model.specs.Labels.{Label, numbered, with_path}
use Rattle.tree_model.specs.Rows.{line_of, lines_of, ArePlaced}
use Rattle.tree_model.specs.Sound.{IsSound, IsLoose}
use Rattle.tree_model.specs.declared.row.Row.{Row}
use Rattle.tree_model.specs.declared.text.Name.{Name}
use Rattle.tree_model.proofs.Looseness.{sound_loose}
use Rattle.tree_model.proofs.Tables.{lines_kept, placed_kept, lines_length, placed_before, placed_behind}
use Rattle.node_table.specs.declared.part.Part.{Part}
use Rattle.doc_store.specs.Moving.{HasMore, moved_lines}
use Rattle.doc_store.specs.Stored.{Stored, Branched, stored, stored_rows, stored_view, base_of, IsKept, branch_rows, branch_view, branch_lines, branch_forest, IsOut, IsBranchOf, HasGrown, IsAbandoned}
use Rattle.doc_store.proofs.IdLists.{ids_put, length-ids, new_ids}
use Rattle.doc_store.proofs.Loosely.{loose_put}
use Rattle.doc_store.proofs.Moves.{moved_built, length-moved}
use Rattle.doc_store.proofs.Numbers.{more_length, more_take}

-- ---- names and values grow

lines_grown : {names names' : List Name} {values values' : List ℕ} → HasMore names names' → HasMore values values' → (rows : List Row) → ArePlaced names values rows
    → lines_of names' values' rows ≡ lines_of names values rows
lines_grown {names = names} {values = values} {values' = values'} f g rows placed =
    ap (λ l. lines_of l values' rows) f.is ∙ ap (λ l. lines_of (names ++ f.more) l rows) g.is ∙ lines_kept names f.more values g.more rows placed

placed_grown : {names names' : List Name} {values values' : List ℕ} → HasMore names names' → HasMore values values' → (rows : List Row) → ArePlaced names values rows → ArePlaced names' values' rows
placed_grown {names = names} {values = values} {values' = values'} f g rows placed =
    subst (λ l. ArePlaced l values' rows) (sym f.is) (subst (λ l. ArePlaced (names ++ f.more) l rows) (sym g.is) (placed_kept names f.more values g.more rows placed))

placed_append : (names : List Name) (values : List ℕ) (rows more : List Row) → ArePlaced names values rows → ArePlaced names values more → ArePlaced names values (rows ++ more)
placed_append names values [] more p q = q
placed_append names values (row ∷ rows) more p q = (p.0, p.1, placed_append names values rows more p.2 q)

-- rows say the same with more names and values
record Grown (rows : List Row) (names names' : List Name) (values values' : List ℕ) : Type 0 where
  lines : view_lines (view_of rows names' values') ≡ view_lines (view_of rows names values)
  trees : KeepsTrees (view_of rows names' values')

view_grown : {names names' : List Name} {values values' : List ℕ} → HasMore names names' → HasMore values values' → (rows : List Row) → KeepsTrees (view_of rows names values) → Grown rows names names' values values'
view_grown f g rows h =
    let e = lines_grown f g rows h.placed in
    record {
      lines = e;
      trees = record { flat = subst (λ ls. IsFlat ls) (sym e) h.flat; placed = placed_grown f g rows h.placed; kinds = subst (λ ls. HasKinds (grove_of ls)) (sym e) h.kinds };
    }

-- the same rows by another name
keeps_at : {rows rows' : List Row} (names : List Name) (values : List ℕ) → rows' ≡ rows → KeepsTrees (view_of rows names values) → KeepsTrees (view_of rows' names values)
keeps_at names values e h = subst (λ rows. KeepsTrees (view_of rows names values)) (sym e) h

-- ---- a database after calls on its branch

pub record Later (d d' : Stored) : Type 0 where
  pub grown : HasGrown d d'
  pub tables : KeepsTables d.pool d'.pool
  pub kept : IsKept d'
  pub branched : d'.branched ≡ d.branched

kept_grown : (d d' : Stored) → HasGrown d d' → IsIn d'.pool d'.table → IsKept d → IsKept d'
kept_grown d d' g held h =
    let w = view_grown g.names g.values (stored_rows d) h.trees in
    let e : view_lines (stored_view d') ≡ view_lines (stored_view d) = ap (λ rows. view_lines (view_of rows d'.names d'.values)) g.rows ∙ w.lines in
    record {
      held = held;
      trees = keeps_at d'.names d'.values g.rows w.trees;
      ids = g.ids ∙ h.ids ∙ ap (λ ls. ids_of (grove_of ls)) (sym e);
      sound = subst (λ ls. IsSound (grove_of ls) d'.next) (sym e) (subst (λ n. IsSound (base_of d).documents n) (sym g.next) h.sound);
    }

pub later : (d : Stored) (pool : List (Held Row)) (names : List Name) (values : List ℕ) → IsKept d → KeepsTables d.pool pool → HasMore d.names names → HasMore d.values values
    → Later d (stored d.name d.next d.table pool d.ids names values d.branched)
later d pool names values h tables f g =
    let grown : HasGrown d (stored d.name d.next d.table pool d.ids names values d.branched) =
    record { name = refl; next = refl; rows = (tables d.table h.held).1; ids = refl; names = f; values = g } in
    record { grown = grown; tables = tables; kept = kept_grown d (stored d.name d.next d.table pool d.ids names values d.branched) grown (tables d.table h.held).0 h; branched = refl }

pub more_none : {A : Type 0} (xs : List A) → HasMore xs xs
more_none xs = record { more = []; is = sym (append-nil xs) }

pub out_later : (d d' : Stored) (b b' : Branched) → Later d d' → b'.origin ≡ b.origin → b'.names_mark ≡ b.names_mark → b'.values_mark ≡ b.values_mark → IsOut d b → IsOut d' b'
out_later d d' b b' l origin names_are values_are h =
    let g = l.grown in
    let before : ArePlaced (take b.names_mark d'.names) (take b.values_mark d'.values) (stored_rows d') =
    subst (λ rows. ArePlaced (take b.names_mark d'.names) (take b.values_mark d'.values) rows) (sym g.rows)
    (subst (λ m. ArePlaced m (take b.values_mark d'.values) (stored_rows d)) (sym (more_take g.names b.names_mark h.names_within))
    (subst (λ m. ArePlaced (take b.names_mark d.names) m (stored_rows d)) (sym (more_take g.values b.values_mark h.values_within)) h.before)) in
    record {
      is_out = l.branched ∙ h.is_out;
      own = origin ∙ h.own ∙ sym g.name;
      names_within = omega (arith, h.names_within, more_length g.names, names_are);
      values_within = omega (arith, h.values_within, more_length g.values, values_are);
      before = subst (λ n. ArePlaced (take n d'.names) (take b'.values_mark d'.values) (stored_rows d')) (sym names_are) (subst (λ n. ArePlaced (take b.names_mark d'.names) (take n d'.values) (stored_rows d')) (sym values_are) before);
    }

pub branch_later : (d d' : Stored) (b : Branched) → Later d d' → IsBranchOf d b → IsBranchOf d' b
branch_later d d' b l h =
    let same = (l.tables b.table h.held).1 in
    let w = view_grown l.grown.names l.grown.values (branch_rows d b) h.trees in
    let e : branch_lines d' b ≡ branch_lines d b = ap (λ rows. view_lines (view_of rows d'.names d'.values)) same ∙ w.lines in
    record {
      out = out_later d d' b b l refl refl refl h.out;
      held = (l.tables b.table h.held).0;
      trees = keeps_at d'.names d'.values same w.trees;
      ids = h.ids ∙ ap (λ ls. ids_of (grove_of ls)) (sym e);
      loose = subst (λ ls. IsLoose (grove_of ls) b.next) (sym e) h.loose;
    }

-- ---- a document is put in

flatten-join : (f g : Forest Label) → flatten (join f g) ≡ flatten f ++ flatten g
flatten-join f g = lines-join 0 f g

-- lines with others put in at a place
lines_put : (names : List Name) (values : List ℕ) (rows more : List Row) (at : ℕ)
    → lines_of names values (with_rows at more rows) ≡ take at (lines_of names values rows) ++ (lines_of names values more ++ drop at (lines_of names values rows))
lines_put names values rows more at =
    let f : Row → Line Label = line_of names values in
    map-append f (take at rows) (more ++ drop at rows)
    ∙ ap (λ l. map f (take at rows) ++ l) (map-append f more (drop at rows) ∙ ap (λ l. map f more ++ l) (sym (drop-map f at rows)))
    ∙ ap (λ l. l ++ (map f more ++ drop at (map f rows))) (sym (take-map f at rows))

forest_put : (before doc after : Forest Label) (ls more : List (Line Label)) (at : ℕ) → ls ≡ flatten (join before after) → count before ≡ at → more ≡ flatten doc
    → take at ls ++ (more ++ drop at ls) ≡ flatten (join before (join doc after))
forest_put before doc after ls more at is place doc_is =
    let fb : List (Line Label) = flatten before in
    let fa : List (Line Label) = flatten after in
    let e : ls ≡ fb ++ fa = is ∙ flatten-join before after in
    let t : take at ls ≡ fb = ap (take at) e ∙ take_at fb fa at (omega (arith, length-lines 0 before)) in
    let d : drop at ls ≡ fa = ap (drop at) e ∙ drop_at fb fa at (omega (arith, length-lines 0 before)) in
    ap (λ l. l ++ (more ++ drop at ls)) t ∙ ap (λ l. fb ++ (more ++ l)) d ∙ ap (λ l. fb ++ (l ++ fa)) doc_is
    ∙ ap (λ l. fb ++ l) (sym (flatten-join doc after)) ∙ sym (flatten-join before (join doc after))

-- a branch with this forest
pub record HasForest (d : Stored) (b : Branched) (f : Forest Label) : Type 0 where
  pub own : IsBranchOf d b
  pub forest : branch_forest d b ≡ f

-- the rows of a document, put into a branch
pub record Puts (d d' : Stored) (b b' : Branched) (rows : List Row) (at : ℕ) : Type 0 where
  pub is_later : Later d d'
  pub placed : ArePlaced d'.names d'.values rows
  pub rows_are : branch_rows d' b' ≡ with_rows at rows (branch_rows d b)
  pub held : IsIn d'.pool b'.table
  pub ids : b'.ids ≡ with_ids at b.next (length rows) b.ids
  pub next : b'.next ≡ b.next + length rows
  pub few : length (branch_rows d b) + length rows ≤ 2 ^ 24
  pub origin : b'.origin ≡ b.origin
  pub names_mark : b'.names_mark ≡ b.names_mark
  pub values_mark : b'.values_mark ≡ b.values_mark

pub added : (d d' : Stored) (b b' : Branched) (before doc after : Forest Label) (rows : List Row) (at m : ℕ) → Puts d d' b b' rows at → IsBranchOf d b → branch_forest d b ≡ join before after → count before ≡ at
    → lines_of d'.names d'.values rows ≡ flatten (numbered b.next doc) → IsLoose doc m → length rows ≡ count doc
    → HasForest d' b' (join before (join (numbered b.next doc) after))
added d d' b b' before doc after rows at m p h forest place doc_is loose len =
    let g = p.is_later.grown in
    let old : lines_of d'.names d'.values (branch_rows d b) ≡ flatten (join before after) = lines_grown g.names g.values (branch_rows d b) h.trees.placed ∙ sym h.trees.flat ∙ ap flatten forest in
    let e : branch_lines d' b' ≡ flatten (join before (join (numbered b.next doc) after)) =
    ap (lines_of d'.names d'.values) p.rows_are ∙ lines_put d'.names d'.values (branch_rows d b) rows at
    ∙ forest_put before (numbered b.next doc) after (lines_of d'.names d'.values (branch_rows d b)) (lines_of d'.names d'.values rows) at old place doc_is in
    let is : branch_forest d' b' ≡ join before (join (numbered b.next doc) after) = grove_is (branch_lines d' b') (join before (join (numbered b.next doc) after)) e in
    let counted : length (branch_rows d b) ≡ count (join before after) = sym (lines_length d.names d.values (branch_rows d b)) ∙ flat-length (branch_lines d b) h.trees.flat ∙ ap count forest in
    let placed = placed_grown g.names g.values (branch_rows d b) h.trees.placed in
    let whole : IsLoose (join before (join (numbered b.next doc) after)) b'.next =
    loose_put before doc after b.next m b'.next (subst (λ f. IsLoose f b.next) forest h.loose) loose (p.next ∙ ap (λ n. b.next + n) len) (omega (arith, p.few, counted, len)) in
    record {
      own = record {
        out = out_later d d' b b' p.is_later p.origin p.names_mark p.values_mark h.out;
        held = p.held;
        trees = record {
          flat = is_flat (branch_lines d' b') (join before (join (numbered b.next doc) after)) e;
          placed =
              subst (λ l. ArePlaced d'.names d'.values l) (sym p.rows_are)
              (placed_append d'.names d'.values (take at (branch_rows d b)) (rows ++ drop at (branch_rows d b)) (placed_before d'.names d'.values (branch_rows d b) at placed)
              (placed_append d'.names d'.values rows (drop at (branch_rows d b)) p.placed (placed_behind d'.names d'.values (branch_rows d b) at placed)));
          kinds = subst HasKinds (sym is) (kept_kinds (join before (join (numbered b.next doc) after)) whole.places);
        };
        ids = p.ids ∙ ap (λ n. with_ids at b.next n b.ids) len ∙ ap (with_ids at b.next (count doc)) (h.ids ∙ ap ids_of forest) ∙ sym (ids_put before doc after b.next at place) ∙ ap ids_of (sym is);
        loose = subst (λ f. IsLoose f b'.next) (sym is) whole;
      };
      forest = is;
    }

-- the place stands among the rows, or right behind them
pub place_within : (d : Stored) (b : Branched) (before after : Forest Label) (at : ℕ) → IsBranchOf d b → branch_forest d b ≡ join before after → count before ≡ at → at ≤ length (branch_rows d b)
place_within d b before after at h forest place =
    omega (arith, lines_length d.names d.values (branch_rows d b), flat-length (branch_lines d b) h.trees.flat, ap count forest, count-join before after, place)

-- as many ids as rows
pub ids_counted : (d : Stored) (b : Branched) → IsBranchOf d b → length b.ids ≡ length (branch_rows d b)
ids_counted d b h = ap length h.ids ∙ length-ids (branch_forest d b) ∙ sym (sym (lines_length d.names d.values (branch_rows d b)) ∙ flat-length (branch_lines d b) h.trees.flat)

-- ---- a branch begins and ends

pub branch_begun : (d : Stored) (pool : List (Held Row)) (b : Branched) → IsKept d → KeepsTables d.pool pool → b.origin ≡ d.name → rows_in pool b.table ≡ stored_rows d → IsIn pool b.table → b.ids ≡ d.ids → b.next ≡ d.next
    → b.names_mark ≡ length d.names → b.values_mark ≡ length d.values → IsBranchOf (stored d.name d.next d.table pool d.ids d.names d.values true) b
branch_begun d pool b h tables origin same held ids next names_are values_are =
    let placed : ArePlaced d.names d.values (rows_in pool d.table) = subst (λ rows. ArePlaced d.names d.values rows) (sym (tables d.table h.held).1) h.trees.placed in
    record {
      out = record {
        is_out = refl;
        own = origin;
        names_within = omega (arith, names_are);
        values_within = omega (arith, values_are);
        before =
            subst (λ l. ArePlaced l (take b.values_mark d.values) (rows_in pool d.table)) (sym (ap (λ n. take n d.names) names_are ∙ take-length d.names))
            (subst (λ l. ArePlaced d.names l (rows_in pool d.table)) (sym (ap (λ n. take n d.values) values_are ∙ take-length d.values)) placed);
      };
      held = held;
      trees = keeps_at d.names d.values same h.trees;
      ids = ids ∙ h.ids ∙ ap (λ rows. ids_of (view_forest (view_of rows d.names d.values))) (sym same);
      loose = subst (λ rows. IsLoose (view_forest (view_of rows d.names d.values)) b.next) (sym same) (subst (λ n. IsLoose (base_of d).documents n) (sym next) (sound_loose (base_of d).documents d.next h.sound));
    }

pub committed_kept : (d : Stored) (b : Branched) → IsBranchOf d b → IsSound (branch_forest d b) b.next → IsKept (stored d.name b.next b.table d.pool b.ids d.names d.values false)
committed_kept d b h sound = record { held = h.held; trees = h.trees; ids = h.ids; sound = sound }

more_taken : {A : Type 0} (n : ℕ) (xs : List A) → HasMore (take n xs) xs
more_taken n xs = record { more = drop n xs; is = sym (take-append-drop n xs) }

-- a database without what a branch added
pub record Back (d : Stored) (pool : List (Held Row)) (b : Branched) : Type 0 where
  pub kept : IsKept (stored d.name d.next d.table pool d.ids (take b.names_mark d.names) (take b.values_mark d.values) false)
  pub base : base_of (stored d.name d.next d.table pool d.ids (take b.names_mark d.names) (take b.values_mark d.values) false) ≡ base_of d

pub kept_back : (d : Stored) (pool : List (Held Row)) (b : Branched) → IsOut d b → IsKept d → KeepsTables d.pool pool → Back d pool b
kept_back d pool b out h tables =
    let names : List Name = take b.names_mark d.names in
    let values : List ℕ = take b.values_mark d.values in
    let same = (tables d.table h.held).1 in
    let e : lines_of names values (stored_rows d) ≡ lines_of d.names d.values (stored_rows d) =
    sym (lines_grown (more_taken b.names_mark d.names) (more_taken b.values_mark d.values) (stored_rows d) out.before) in
    let lines_are : view_lines (view_of (rows_in pool d.table) names values) ≡ view_lines (stored_view d) = ap (lines_of names values) same ∙ e in
    record {
      kept = record {
        held = (tables d.table h.held).0;
        trees = record {
          flat = subst (λ ls. IsFlat ls) (sym lines_are) h.trees.flat;
          placed = subst (λ rows. ArePlaced names values rows) (sym same) out.before;
          kinds = subst (λ ls. HasKinds (grove_of ls)) (sym lines_are) h.trees.kinds;
        };
        ids = h.ids ∙ ap (λ ls. ids_of (grove_of ls)) (sym lines_are);
        sound = subst (λ ls. IsSound (grove_of ls) d.next) (sym lines_are) h.sound;
      };
      base = λ i. record { name = d.name; next = d.next; documents = grove_of (lines_are i); has_text_index = true; has_attribute_index = true };
    }

-- ---- as the code says it: the fields of the database and of the branch are those that the contract speaks of

pub carried : {d s : Stored} {b c : Branched} → s ≡ d → c ≡ b → IsBranchOf d b → IsBranchOf s c
carried {s = s} {b = b} e f h = subst (λ x. IsBranchOf s x) (sym f) (subst (λ x. IsBranchOf x b) (sym e) h)

pub out_carried : {d s : Stored} {b c : Branched} → s ≡ d → c ≡ b → IsOut d b → IsOut s c
out_carried {s = s} {b = b} e f h = subst (λ x. IsOut s x) (sym f) (subst (λ x. IsOut x b) (sym e) h)

pub same_tables : (pool : List (Held Row)) → KeepsTables pool pool
same_tables pool table h = (h, refl)

pub record GivenUp (d new : Stored) (b : Branched) : Type 0 where
  pub kept : IsKept new
  pub is : IsAbandoned d b new

pub given_up : (d s : Stored) (b c : Branched) (pool : List (Held Row)) (names : List Name) (values : List ℕ) → s ≡ d → c ≡ b → IsOut d b → IsKept s → KeepsTables s.pool pool
    → names ≡ take c.names_mark s.names → values ≡ take c.values_mark s.values → GivenUp d (stored s.name s.next s.table pool s.ids names values false) b
given_up d s b c pool names values e f out h tables names_are values_are =
    let w = kept_back s pool c (out_carried e f out) h tables in
    subst (λ l. GivenUp d (stored s.name s.next s.table pool s.ids l values false) b) (sym names_are)
    (subst (λ l. GivenUp d (stored s.name s.next s.table pool s.ids (take c.names_mark s.names) l false) b) (sym values_are)
    (record {
      kept = w.kept;
      is = record {
        base = w.base ∙ ap base_of e;
        names = λ i. take (f i).names_mark (e i).names;
        values = λ i. take (f i).values_mark (e i).values;
        whole = refl;
      };
    }))

count-with_path : (path : List ℕ) (f : Forest Label) → count (with_path path f) ≡ count f
count-with_path path none = refl
count-with_path path (tree label attrs kids rest) = refl

pub part_counted : (part : Part) (path : List ℕ) → KeepsTrees (part_view part) → length part.rows.items ≡ count (with_path path (view_forest (part_view part)))
part_counted part path h = sym (lines_length part.names part.heap part.rows.items) ∙ flat-length (view_lines (part_view part)) h.flat ∙ sym (count-with_path path (view_forest (part_view part)))

-- as many rows as the document has
pub rows_length : (names : List Name) (values path : List ℕ) (rows : List Row) (part : Part) (first : ℕ) → lines_of names values rows ≡ moved_lines path first (view_lines (part_view part)) → length rows ≡ length part.rows.items
rows_length names values path rows part first e =
    sym (lines_length names values rows) ∙ ap length e ∙ length-moved path first (view_lines (part_view part)) ∙ lines_length part.names part.heap part.rows.items

-- the rows of a document put into a branch
pub document_added : (d s : Stored) (b c b' : Branched) (pool : List (Held Row)) (names : List Name) (values path : List ℕ) (part : Part) (before after : Forest Label) (rows : List Row) (at n : ℕ)
    → n ≡ length part.rows.items → s ≡ d → c ≡ b → IsKept s → KeepsTables s.pool pool → HasMore s.names names → HasMore s.values values → IsBranchOf d b → KeepsTrees (part_view part)
    → IsLoose (with_path path (view_forest (part_view part))) (length part.rows.items) → branch_forest d b ≡ join before after → count before ≡ at
    → lines_of names values rows ≡ moved_lines path c.next (view_lines (part_view part)) → ArePlaced names values rows
    → rows_in pool b'.table ≡ with_rows at rows (rows_in s.pool c.table) → IsIn pool b'.table → b'.ids ≡ with_ids at c.next n c.ids → b'.next ≡ c.next + n
    → length (rows_in s.pool c.table) + length part.rows.items ≤ 2 ^ 24 → b'.origin ≡ c.origin → b'.names_mark ≡ c.names_mark → b'.values_mark ≡ c.values_mark
    → HasForest (stored s.name s.next s.table pool s.ids names values s.branched) b' (join before (join (numbered b.next (with_path path (view_forest (part_view part)))) after))
document_added d s b c b' pool names values path part before after rows at n n_is e f kept tables more_names more_values own trees loose forest place lines_are placed rows_are held ids next few origin names_are values_are =
    let len : length rows ≡ length part.rows.items = rows_length names values path rows part c.next lines_are in
    let forest_is : branch_forest s c ≡ join before after = (λ i. branch_forest (e i) (f i)) ∙ forest in
    let puts : Puts s (stored s.name s.next s.table pool s.ids names values s.branched) c b' rows at =
    record {
      is_later = later s pool names values kept tables more_names more_values;
      placed = placed;
      rows_are = rows_are;
      held = held;
      ids = ids ∙ ap (λ m. with_ids at c.next m c.ids) (n_is ∙ sym len);
      next = omega (arith, next, len, n_is);
      few = omega (arith, few, len);
      origin = origin;
      names_mark = names_are;
      values_mark = values_are;
    } in
    subst (λ (x : Branched). HasForest (stored s.name s.next s.table pool s.ids names values s.branched) b' (join before (join (numbered x.next (with_path path (view_forest (part_view part)))) after))) f
    (added s (stored s.name s.next s.table pool s.ids names values s.branched) c b' before (with_path path (view_forest (part_view part))) after rows at (length part.rows.items) puts (carried e f own) forest_is place
    (lines_are ∙ moved_built path c.next part trees) loose (len ∙ part_counted part path trees))

pub fresh_ids : (d : Stored) (b : Branched) (n : ℕ) → IsBranchOf d b → AreNew b.next n b.ids
fresh_ids d b n h = subst (λ ids. AreNew b.next n ids) (sym h.ids) (new_ids (branch_forest d b) b.next n h.loose.ids_below)

pub place_among : (d s : Stored) (b c : Branched) (before after : Forest Label) (at : ℕ) → s ≡ d → c ≡ b → IsBranchOf d b → branch_forest d b ≡ join before after → count before ≡ at → at ≤ length (rows_in s.pool c.table)
place_among d s b c before after at e f own forest place = place_within s c before after at (carried e f own) ((λ i. branch_forest (e i) (f i)) ∙ forest) place

pub ids_among : {d s : Stored} {b c : Branched} → s ≡ d → c ≡ b → IsBranchOf d b → length c.ids ≡ length (rows_in s.pool c.table)
ids_among {s = s} {c = c} e f own = ids_counted s c (carried e f own)

pub held_among : {d s : Stored} {b c : Branched} → s ≡ d → c ≡ b → IsBranchOf d b → IsIn s.pool c.table
held_among e f own = (carried e f own).held
