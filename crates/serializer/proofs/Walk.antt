-- A node is printed in one walk over its lines: what each turn leaves.
use Rattle.std.proofs.Common.{◌≡◌, ◌≢◌, inl, inr, ℕ, zero, suc, ◌+◌, ◌-◌, ◌<◌, ◌≤◌, Bool, true, false, List, [], ◌∷◌, ◌++◌, length, map, take, drop, get_or, refl, sym, ap, ◌∙◌, subst, arith, append_assoc, append-nil, length-append, take_at, drop_at, length-drop}
use Rattle.std.specs.Prelude.{nat_lt, slice_range, ◌&&◌}
use Rattle.std.specs.List.{Contains, range_with_len}
use Rattle.tree_model.specs.Forest.{Forest, none, tree, count, Line, raise, attr_lines, lines, grove_of, IsFlat}
use Rattle.tree_model.specs.Trees.{raise_pos, length-lines, length-attr_lines, labels-attr_lines, flat-length}
use Rattle.tree_model.specs.Labels.{Label}
use Rattle.tree_model.specs.Nodes.{Node, nodes}
use Rattle.tree_model.specs.Printing.{scope_in, behind, start_text, end_text, tree_text, trees_text, has_trees, node_text}
use Rattle.tree_model.specs.declared.row.Kind.{Kind}
use Rattle.tree_model.specs.declared.row.Kind.TheVariants.{Doc, Elem, Text, Attr, Comm, Pi}
use Rattle.tree_model.specs.Rows.{label_of, line_of, lines_of}
use Rattle.tree_model.specs.declared.row.Row.{Row}
use Rattle.tree_model.specs.declared.text.Name.{Name}
use Rattle.std.proofs.lemmas.List.{drop-drop, drop-map, take-map, length-map, get_or_read}
use Rattle.std.proofs.lemmas.Simd.{map-map}
use Rattle.std.proofs.lemmas.Bool.{lt-ltb, le-ltb, cases_lt}
use Rattle.tree_model.proofs.Standing.{IsIn, in_contains, place_of, node_places, stands, own_line}
use Rattle.tree_model.specs.XmlMeaning.{Pair, Scope, first_scope}
use Rattle.node_table.specs.Laid.{no_row, dist_at}
use Rattle.serializer.specs.Opened.{shows_children, opens, front_text, back_text, declared, Opened, lines_left, scope_inside, text_left, AreOpen, AreInForce, Ahead, Ended, Then}
use Rattle.serializer.specs.Scopes.{InForce, scope_of, outside, AreAt, AreAbout, Declares}
use Rattle.serializer.proofs.Declaring.{outside_own}

-- ---- the text of one node, cut at its children

pub text_of_open : (scope : Scope) (label : Label) (attrs : List Label) (kids : List ℕ) → shows_children label.kind ≡ true
    → tree_text scope label attrs true kids ≡ front_text scope label attrs true ++ (kids ++ back_text label)
text_of_open scope label attrs kids shown = by label.kind shown
  where
    tag : (start kids end : List ℕ) → start ++ (62 ∷ (kids ++ end)) ≡ (start ++ 62 ∷ []) ++ (kids ++ end)
    tag start kids end = simp append_assoc

    by : (kind : Kind) → shows_children kind ≡ true
        → tree_text scope (record label { kind = kind }) attrs true kids ≡ front_text scope (record label { kind = kind }) attrs true ++ (kids ++ back_text (record label { kind = kind }))
    by Doc e = sym (append-nil kids)
    by Elem e = tag (start_text scope label attrs) kids (end_text label)
    by Text e = cc
    by Attr e = cc
    by Comm e = cc
    by Pi e = cc

pub text_of_whole : (scope : Scope) (label : Label) (attrs : List Label) (kids : Forest Label) (b : Bool) → b ≡ has_trees kids → (shows_children label.kind && b) ≡ false
    → tree_text scope label attrs (has_trees kids) (trees_text (scope_in scope label attrs) kids) ≡ front_text scope label attrs b
text_of_whole scope label attrs kids b e shown = by label.kind kids b e shown
  where
    by : (kind : Kind) (kids : Forest Label) (b : Bool) → b ≡ has_trees kids → (shows_children kind && b) ≡ false
        → tree_text scope (record label { kind = kind }) attrs (has_trees kids) (trees_text (scope_in scope (record label { kind = kind }) attrs) kids)
        ≡ front_text scope (record label { kind = kind }) attrs b
    by Doc none b e s = refl
    by Doc (tree l a k r) true e s = cc
    by Doc (tree l a k r) false e s = cc
    by Elem none true e s = cc
    by Elem none false e s = refl
    by Elem (tree l a k r) true e s = cc
    by Elem (tree l a k r) false e s = cc
    by Text kids b e s = refl
    by Attr kids b e s = refl
    by Comm kids b e s = refl
    by Pi kids b e s = refl

-- what is in scope in a node is what it declares, the last first, and what is about it
scope_in_is : (scope : Scope) (label : Label) (attrs : List Label) → scope_in scope label attrs ≡ behind (declared scope label attrs) scope
scope_in_is scope label attrs = by label.kind
  where
    by : (kind : Kind) → scope_in scope (record label { kind = kind }) attrs ≡ behind (declared scope (record label { kind = kind }) attrs) scope
    by Doc = refl
    by Elem = refl
    by Text = refl
    by Attr = refl
    by Comm = refl
    by Pi = refl

and_left : (a b : Bool) → (a && b) ≡ true → a ≡ true
and_left true b e = refl
and_left false b e = e

and_right : (a b : Bool) → (a && b) ≡ true → b ≡ true
and_right true b e = e
and_right false b e = cc

-- a node has children where its size is above that of itself and its attributes
kids_by_size : (kids : Forest Label) (size asize : ℕ) → size ≡ asize + count kids → nat_lt asize size ≡ has_trees kids
kids_by_size none size asize e = le-ltb asize size (omega arith)
kids_by_size (tree l a k r) size asize e = lt-ltb asize size (omega arith)

-- ---- lines and rows

line_there : (ls : List (Line Label)) (top : ℕ) (o : Opened) (outer : List Opened) → AreOpen ls top o outer → drop o.place ls ≡ o.line ∷ o.behind
line_there ls top o [] open_is = open_is.0
line_there ls top o (p ∷ outer) open_is = open_is.0

top_below : (ls : List (Line Label)) (top : ℕ) (o : Opened) (outer : List Opened) → AreOpen ls top o outer → top ≤ o.place
top_below ls top o [] open_is = omega (arith, open_is.1)
top_below ls top o (p ∷ outer) open_is = omega (arith, open_is.2, top_below ls top p outer open_is.4)

-- what stands m lines further on
further_on : (ls front more : List (Line Label)) (line : Line Label) (at m : ℕ) → drop at ls ≡ line ∷ (front ++ more) → m ≡ suc (length front) → drop (at + m) ls ≡ more
further_on ls front more line at m e is =
    sym (drop-drop m at ls) ∙ ap (drop m) e ∙ ap (λ n. drop n (line ∷ (front ++ more))) is ∙ drop_at front more (length front) refl

-- and they are all among the lines
reaches : (ls front more : List (Line Label)) (line : Line Label) (at m : ℕ) → drop at ls ≡ line ∷ (front ++ more) → m ≡ suc (length front) → at + m ≤ length ls
reaches ls front more line at m e is = omega (arith, ap length e, length-drop at ls, length-append front more)

pub record IsRow (names : List Name) (values : List ℕ) (rows : List Row) (at : ℕ) (line : Line Label) : Type 0 where
  pub within : at < length rows
  pub is : line_of names values (get_or rows at no_row) ≡ line

row_there : (names : List Name) (values : List ℕ) (rows : List Row) (at : ℕ) (line : Line Label) (behind : List (Line Label)) → drop at (lines_of names values rows) ≡ line ∷ behind → IsRow names values rows at line
row_there names values [] zero line behind e = cc
row_there names values [] (suc at) line behind e = cc
row_there names values (row ∷ rows) zero line behind e = record { within = omega arith; is = cc }
row_there names values (row ∷ rows) (suc at) line behind e =
    let more = row_there names values rows at line behind e in record { within = omega (arith, more.within); is = more.is }

-- ---- the bindings in force

-- what is in scope is what the bindings say
pub scope_is : (outer : List Opened) (bindings : List InForce) → AreInForce outer bindings → scope_of bindings ≡ scope_inside outer
scope_is [] bindings h = ap scope_of h
scope_is (o ∷ outer) bindings h =
    h.2.scope ∙ ap (behind (declared (scope_inside outer) o.line.label o.attrs)) (scope_is outer h.0 h.1) ∙ sym (scope_in_is (scope_inside outer) o.line.label o.attrs)

about_further : (place further : ℕ) (bindings : List InForce) → place ≤ further → AreAbout place bindings → AreAbout further bindings
about_further place further [] le h = tt
about_further place further (b ∷ bindings) le h = (omega (arith, h.0), about_further place further bindings le h.1)

about_own : (place further : ℕ) (own : List InForce) → place < further → AreAt place own → AreAbout further own
about_own place further [] lt h = tt
about_own place further (b ∷ own) lt h = (omega (arith, h.0), about_own place further own lt h.1)

about-append : (place : ℕ) (xs ys : List InForce) → AreAbout place xs → AreAbout place ys → AreAbout place (xs ++ ys)
about-append place [] ys p q = q
about-append place (x ∷ xs) ys p q = (p.0, about-append place xs ys p.1 q)

-- all of them were made by nodes before a node that stands in all of these
pub about_is : (ls : List (Line Label)) (top : ℕ) (o : Opened) (outer : List Opened) (bindings : List InForce) → AreOpen ls top o outer → AreInForce outer bindings → AreAbout o.place bindings
about_is ls top o [] bindings open_is h = subst (AreAbout o.place) (sym h) tt
about_is ls top o (p ∷ outer) bindings open_is h =
    let before : AreAbout p.place h.0 = about_is ls top p outer h.0 open_is.4 h.1 in
    let lt : p.place < o.place = omega (arith, open_is.1, open_is.2) in
    subst (AreAbout o.place) (sym h.2.is)
    (about-append o.place h.2.own h.0 (about_own p.place o.place h.2.own lt h.2.at) (about_further p.place o.place h.0 (omega arith) before))

-- a node's own bindings are left, and those about it are in force again
pub left_is : (ls : List (Line Label)) (top at : ℕ) (o : Opened) (outer : List Opened) (pairs : List Pair) (about bindings new : List InForce) → o.place ≡ at
    → AreOpen ls top o outer → AreInForce outer about → Declares o.place pairs about bindings → new ≡ outside at bindings → AreInForce outer new
left_is ls top at o outer pairs about bindings new place open_is h d left =
    let back : outside at bindings ≡ about
    = ap (λ n. outside n bindings) (sym place) ∙ ap (outside o.place) d.is ∙ outside_own o.place d.own about d.at (about_is ls top o outer about open_is h) in
    subst (AreInForce outer) (sym (left ∙ back)) h

-- ---- a node is printed up to its children

text_down : (out front text right back left new whole all : List ℕ) → new ≡ out ++ front → all ≡ front ++ ((text ++ right) ++ back) → out ++ (all ++ left) ≡ whole
    → new ++ (text ++ (right ++ (back ++ left))) ≡ whole
text_down out front text right back left new whole all e is h =
    let regroup : (out ++ front) ++ (text ++ (right ++ (back ++ left))) ≡ out ++ ((front ++ ((text ++ right) ++ back)) ++ left) = simp append_assoc in
    ap (λ l. l ++ (text ++ (right ++ (back ++ left)))) e ∙ regroup ∙ ap (λ l. out ++ (l ++ left)) (sym is) ∙ h

-- its first child is next
down : (ls : List (Line Label)) (top : ℕ) (bindings inner : List InForce) (out new whole : List ℕ) (node : Opened) (outer : List Opened) (tail : List (Line Label)) (kids : Forest Label)
    → AreOpen ls top node outer → AreInForce (node ∷ outer) inner → node.line.size ≡ 1 + length node.attrs + count kids → node.line.asize ≡ 1 + length node.attrs
    → node.behind ≡ attr_lines 1 node.attrs ++ (lines (1 + length node.attrs) kids ++ lines_left tail (node ∷ outer))
    → out ++ (tree_text (scope_inside outer) node.line.label node.attrs (has_trees kids) (trees_text (scope_inside (node ∷ outer)) kids) ++ (trees_text (scope_inside outer) node.right ++ text_left outer)) ≡ whole
    → opens node.line.label.kind node.line.asize node.line.size ≡ true → new ≡ out ++ front_text (scope_inside outer) node.line.label node.attrs (nat_lt node.line.asize node.line.size)
    → Ahead ls top (node.place + node.line.asize) inner new whole
down ls top bindings inner out new whole node outer tail none open_is bound_is size_is asize_is behind_is text_is is_open e =
    let b : nat_lt node.line.asize node.line.size ≡ true = and_right (shows_children node.line.label.kind) (nat_lt node.line.asize node.line.size) is_open in
    let c : nat_lt node.line.asize node.line.size ≡ false = kids_by_size none node.line.size node.line.asize (omega arith) in
    cc
down ls top bindings inner out new whole node outer tail (tree l a k r) open_is bound_is size_is asize_is behind_is text_is is_open e =
    let d : ℕ = 1 + length node.attrs in
    let line : Line Label = record { label = l; dist = d; size = 1 + length a + count k; asize = 1 + length a } in
    let left : List (Line Label) = lines_left tail (node ∷ outer) in
    let behind : List (Line Label) = attr_lines 1 a ++ (lines (1 + length a) k ++ (lines (raise d (1 + length a + count k)) r ++ left)) in
    let own : drop node.place ls ≡ node.line ∷ node.behind = line_there ls top node outer open_is in
    let grouped : attr_lines 1 node.attrs ++ (lines d (tree l a k r) ++ left) ≡ attr_lines 1 node.attrs ++ (line ∷ behind) = simp append_assoc in
    let there : drop (node.place + node.line.asize) ls ≡ line ∷ behind =
    further_on ls (attr_lines 1 node.attrs) (line ∷ behind) node.line node.place node.line.asize (own ∙ ap (λ b. node.line ∷ b) (behind_is ∙ grouped)) (omega (arith, asize_is, length-attr_lines 1 node.attrs)) in
    let b : nat_lt node.line.asize node.line.size ≡ true = and_right (shows_children node.line.label.kind) (nat_lt node.line.asize node.line.size) is_open in
    let shown : shows_children node.line.label.kind ≡ true = and_left (shows_children node.line.label.kind) (nat_lt node.line.asize node.line.size) is_open in
    let scope : Scope = scope_inside outer in
    let inside : Scope = scope_inside (node ∷ outer) in
    record {
      node = record { place = node.place + node.line.asize; line = line; attrs = a; behind = behind; right = r };
      outer = node ∷ outer;
      tail = tail;
      kids = k;
      open_is = (there, omega arith, omega (arith, asize_is), omega (arith, asize_is, size_is), open_is);
      bound_is = bound_is;
      at_is = refl;
      size_is = refl;
      asize_is = refl;
      behind_is = refl;
      text_is = text_down out (front_text scope node.line.label node.attrs true) (tree_text inside l a (has_trees k) (trees_text (scope_in inside l a) k)) (trees_text inside r)
          (back_text node.line.label) (trees_text scope node.right ++ text_left outer) new whole (tree_text scope node.line.label node.attrs true (trees_text inside (tree l a k r)))
          (e ∙ ap (λ b. out ++ front_text scope node.line.label node.attrs b) b) (text_of_open scope node.line.label node.attrs (trees_text inside (tree l a k r)) shown) text_is;
    }

-- or it is printed whole
over : (ls : List (Line Label)) (top at : ℕ) (bindings left_over : List InForce) (out new whole : List ℕ) (w : Ahead ls top at bindings out whole) → AreInForce w.outer left_over
    → opens w.node.line.label.kind w.node.line.asize w.node.line.size ≡ false → new ≡ out ++ front_text (scope_inside w.outer) w.node.line.label w.node.attrs (nat_lt w.node.line.asize w.node.line.size)
    → Ended ls top at (at + w.node.line.size) left_over new whole
over ls top at bindings left_over out new whole w bound_is closed e =
    let left : List (Line Label) = lines_left w.tail (w.node ∷ w.outer) in
    let front : List (Line Label) = attr_lines 1 w.node.attrs ++ lines (1 + length w.node.attrs) w.kids in
    let place : drop at ls ≡ w.node.line ∷ w.node.behind = ap (λ n. drop n ls) (sym w.at_is) ∙ line_there ls top w.node w.outer w.open_is in
    let own : drop at ls ≡ w.node.line ∷ (front ++ left) = place ∙ ap (λ b. w.node.line ∷ b) (w.behind_is ∙ sym (append_assoc (attr_lines 1 w.node.attrs) (lines (1 + length w.node.attrs) w.kids) left)) in
    let size : w.node.line.size ≡ suc (length front) = omega (arith, w.size_is, length-append (attr_lines 1 w.node.attrs) (lines (1 + length w.node.attrs) w.kids), length-attr_lines 1 w.node.attrs, length-lines (1 + length w.node.attrs) w.kids) in
    let b : nat_lt w.node.line.asize w.node.line.size ≡ has_trees w.kids = kids_by_size w.kids w.node.line.size w.node.line.asize (omega (arith, w.size_is, w.asize_is)) in
    let whole_text : tree_text (scope_inside w.outer) w.node.line.label w.node.attrs (has_trees w.kids) (trees_text (scope_inside (w.node ∷ w.outer)) w.kids) ≡ front_text (scope_inside w.outer) w.node.line.label w.node.attrs (nat_lt w.node.line.asize w.node.line.size)
    = text_of_whole (scope_inside w.outer) w.node.line.label w.node.attrs w.kids (nat_lt w.node.line.asize w.node.line.size) b closed in
    record {
      node = w.node;
      outer = w.outer;
      tail = w.tail;
      open_is = w.open_is;
      bound_is = bound_is;
      at_is = w.at_is;
      end_is = refl;
      within_is = reaches ls front left w.node.line at w.node.line.size own size;
      lines_are = further_on ls front left w.node.line at w.node.line.size own size;
      text_is = ap (λ l. l ++ (trees_text (scope_inside w.outer) w.node.right ++ text_left w.outer)) e
          ∙ append_assoc out (front_text (scope_inside w.outer) w.node.line.label w.node.attrs (nat_lt w.node.line.asize w.node.line.size)) (trees_text (scope_inside w.outer) w.node.right ++ text_left w.outer)
          ∙ ap (λ l. out ++ (l ++ (trees_text (scope_inside w.outer) w.node.right ++ text_left w.outer))) (sym whole_text) ∙ w.text_is;
    }

-- ---- a node is printed, and what ends with it

no_trees : (f : Forest Label) → count f ≡ 0 → f ≡ none
no_trees none e = refl
no_trees (tree l a k r) e = absurd (omega arith)

-- the node at top is: nothing is left
pub all_over : (ls : List (Line Label)) (top at end : ℕ) (bindings : List InForce) (out whole : List ℕ) (w : Ended ls top at end bindings out whole) → at ≡ top → out ≡ whole
all_over ls top at end bindings out whole w e = by w.outer w.open_is w.text_is
  where
    by : (outer : List Opened) → AreOpen ls top w.node outer → out ++ (trees_text (scope_inside outer) w.node.right ++ text_left outer) ≡ whole → out ≡ whole
    by [] open_is text_is = sym (append-nil out) ∙ ap (λ f. out ++ (trees_text first_scope f ++ [])) (sym open_is.2) ∙ text_is
    by (p ∷ outer) open_is text_is = absurd (omega (arith, w.at_is, open_is.1, open_is.2, top_below ls top p outer open_is.4))

-- its row is there, as it says
pub ended_within : (names : List Name) (values : List ℕ) (rows : List Row) (top at end : ℕ) (bindings : List InForce) (out whole : List ℕ) → Ended (lines_of names values rows) top at end bindings out whole → at < length rows
ended_within names values rows top at end bindings out whole w =
    let ls : List (Line Label) = lines_of names values rows in
    (row_there names values rows at w.node.line w.node.behind (ap (λ n. drop n ls) (sym w.at_is) ∙ line_there ls top w.node w.outer w.open_is)).within

pub dist_there : (rows : List Row) (at : ℕ) (row : Row) → at < length rows → row ≡ get_or rows at row → row.dist ≡ dist_at rows at
dist_there rows at row lt is = ap (λ (r : Row). r.dist) (get_or_read rows at row lt is no_row)

-- another one is, and has a parent
pub record Inside (names : List Name) (values : List ℕ) (rows : List Row) (top at end : ℕ) (bindings : List InForce) (out whole : List ℕ) (dist : ℕ) (parent : Row) : Type 0 where
  pub forth : 0 < dist
  pub back : dist ≤ at
  pub parent_within : at - dist < length rows
  pub reaches : at - dist + parent.size ≤ length rows
  pub next : at - dist + parent.size ≢ end → Ahead (lines_of names values rows) top end bindings out whole
  pub ends : (new : List ℕ) (after : List InForce) → at - dist + parent.size ≡ end → new ≡ out ++ back_text (label_of names values parent) → after ≡ outside (at - dist) bindings
      → Ended (lines_of names values rows) top (at - dist) end after new whole

inside_at : (names : List Name) (values : List ℕ) (rows : List Row) (top at end : ℕ) (bindings : List InForce) (out whole : List ℕ) (dist : ℕ) → Ended (lines_of names values rows) top at end bindings out whole → at ≢ top
    → dist ≡ (get_or rows at no_row).dist → Inside names values rows top at end bindings out whole dist (get_or rows (at - dist) no_row)
inside_at names values rows top at end bindings out whole dist w apart dist_is = by w.outer w.open_is w.bound_is w.lines_are w.text_is
  where
    ls : List (Line Label)
    ls = lines_of names values rows

    next_at : (right : Forest Label) (p : Opened) (outer : List Opened) → w.node.right ≡ right → count right ≢ 0 → AreOpen ls top w.node (p ∷ outer) → AreInForce (p ∷ outer) bindings
        → drop end ls ≡ lines (raise w.node.line.dist w.node.line.size) right ++ lines_left w.tail (p ∷ outer)
        → out ++ (trees_text (scope_inside (p ∷ outer)) right ++ text_left (p ∷ outer)) ≡ whole → Ahead ls top end bindings out whole
    next_at none p outer same some open_is bound_is lines_are text_is = absurd (some refl)
    next_at (tree l a k r) p outer same some open_is bound_is lines_are text_is =
        let d : ℕ = raise w.node.line.dist w.node.line.size in
        let left : List (Line Label) = lines_left w.tail (p ∷ outer) in
        let line : Line Label = record { label = l; dist = d; size = 1 + length a + count k; asize = 1 + length a } in
        let behind : List (Line Label) = attr_lines 1 a ++ (lines (1 + length a) k ++ (lines (raise d (1 + length a + count k)) r ++ left)) in
        let grouped : lines d (tree l a k r) ++ left ≡ line ∷ behind = simp append_assoc in
        let further : d ≡ w.node.line.dist + w.node.line.size = raise_pos w.node.line.dist w.node.line.size open_is.1 in
        let scope : Scope = scope_inside (p ∷ outer) in
        let many : count w.node.right ≡ 1 + length a + count k + count r = ap (count {A = Label}) same in
        record {
          node = record { place = end; line = line; attrs = a; behind = behind; right = r };
          outer = p ∷ outer;
          tail = w.tail;
          kids = k;
          open_is = (lines_are ∙ grouped, omega (arith, open_is.1, further), omega (arith, open_is.2, further, w.end_is, w.at_is), omega (arith, open_is.3, many, w.end_is, w.at_is), open_is.4);
          bound_is = bound_is;
          at_is = refl;
          size_is = refl;
          asize_is = refl;
          behind_is = refl;
          text_is = ap (λ l. out ++ l) (sym (append_assoc (tree_text scope l a (has_trees k) (trees_text (scope_in scope l a) k)) (trees_text scope r) (text_left (p ∷ outer)))) ∙ text_is;
        }

    by : (outer : List Opened) → AreOpen ls top w.node outer → AreInForce outer bindings → drop end ls ≡ lines (raise w.node.line.dist w.node.line.size) w.node.right ++ lines_left w.tail outer
        → out ++ (trees_text (scope_inside outer) w.node.right ++ text_left outer) ≡ whole → Inside names values rows top at end bindings out whole dist (get_or rows (at - dist) no_row)
    by [] open_is bound_is lines_are text_is = absurd (apart (sym w.at_is ∙ open_is.1))
    by (p ∷ outer) open_is bound_is lines_are text_is =
        let own = row_there names values rows at w.node.line w.node.behind (ap (λ n. drop n ls) (sym w.at_is) ∙ open_is.0) in
        let far : dist ≡ w.node.line.dist = dist_is ∙ ap (λ (l : Line Label). l.dist) own.is in
        let up : at - dist ≡ p.place = omega (arith, open_is.2, w.at_is, far) in
        let its = row_there names values rows (at - dist) p.line p.behind (ap (λ n. drop n ls) up ∙ line_there ls top p outer open_is.4) in
        let size : (get_or rows (at - dist) no_row).size ≡ p.line.size = ap (λ (l : Line Label). l.size) its.is in
        let many : length ls - end ≡ count w.node.right + length (lines_left w.tail (p ∷ outer)) =
        sym (length-drop end ls) ∙ ap length lines_are ∙ length-append (lines (raise w.node.line.dist w.node.line.size) w.node.right) (lines_left w.tail (p ∷ outer))
        ∙ ap (λ n. n + length (lines_left w.tail (p ∷ outer))) (length-lines (raise w.node.line.dist w.node.line.size) w.node.right) in
        let all : length ls ≡ length rows = length-map rows (line_of names values) in
        record {
          forth = omega (arith, open_is.1, far);
          back = omega (arith, open_is.2, w.at_is, far);
          parent_within = its.within;
          reaches = omega (arith, up, size, many, all, open_is.3, w.end_is, w.at_is, w.within_is);
          next = λ ne. next_at w.node.right p outer refl (λ e. ne (omega (arith, up, size, open_is.3, w.end_is, w.at_is))) open_is bound_is lines_are text_is;
          ends = λ new after e is left.
              let nothing : w.node.right ≡ none = no_trees w.node.right (omega (arith, up, size, open_is.3, w.end_is, w.at_is)) in
              record {
                node = p;
                outer = outer;
                tail = w.tail;
                open_is = open_is.4;
                bound_is = left_is ls top (at - dist) p outer (declared (scope_inside outer) p.line.label p.attrs) bound_is.0 bindings after (sym up) open_is.4 bound_is.1 bound_is.2 left;
                at_is = sym up;
                end_is = omega (arith, up, size);
                within_is = w.within_is;
                lines_are = lines_are ∙ ap (λ f. lines (raise w.node.line.dist w.node.line.size) f ++ lines_left w.tail (p ∷ outer)) nothing;
                text_is = ap (λ l. l ++ (trees_text (scope_inside outer) p.right ++ text_left outer)) (is ∙ ap (λ (l : Line Label). out ++ back_text l.label) its.is)
                    ∙ append_assoc out (back_text p.line.label) (trees_text (scope_inside outer) p.right ++ text_left outer)
                    ∙ ap (λ f. out ++ (trees_text (scope_inside (p ∷ outer)) f ++ text_left (p ∷ outer))) (sym nothing) ∙ text_is;
              };
        }

pub inside : (names : List Name) (values : List ℕ) (rows : List Row) (top at end : ℕ) (bindings : List InForce) (out whole : List ℕ) (dist : ℕ) (parent : Row) → Ended (lines_of names values rows) top at end bindings out whole
    → at ≢ top → dist ≡ (get_or rows at no_row).dist → parent ≡ get_or rows (at - dist) parent → Inside names values rows top at end bindings out whole dist parent
inside names values rows top at end bindings out whole dist parent w apart dist_is parent_is =
    let up = inside_at names values rows top at end bindings out whole dist w apart dist_is in
    subst (Inside names values rows top at end bindings out whole dist) (sym (get_or_read rows (at - dist) parent up.parent_within parent_is no_row)) up

-- the row of the parent is there
pub parent_there : (names : List Name) (values : List ℕ) (rows : List Row) (top at end : ℕ) (bindings : List InForce) (out whole : List ℕ) (dist : ℕ) → Ended (lines_of names values rows) top at end bindings out whole → at ≢ top
    → dist ≡ (get_or rows at no_row).dist → (dist ≤ at) × (at - dist < length rows)
parent_there names values rows top at end bindings out whole dist w apart dist_is =
    let up = inside_at names values rows top at end bindings out whole dist w apart dist_is in (up.back, up.parent_within)

-- ---- a turn

pub record Turn (names : List Name) (values : List ℕ) (rows : List Row) (top at : ℕ) (bindings : List InForce) (out whole : List ℕ) (row : Row) : Type 0 where
  pub own_within : at < length rows
  pub own_asize : 0 < row.asize
  pub own_size : 0 < row.size
  pub attrs_within : at + row.asize ≤ length rows
  pub size_within : at + row.size ≤ length rows
  pub first_child : (new : List ℕ) (attrs : List Row) (inner : List InForce) → attrs ≡ slice_range rows (at + 1) (at + row.asize) → opens row.kind row.asize row.size ≡ true
      → new ≡ out ++ front_text (scope_of bindings) (label_of names values row) (map (label_of names values) attrs) (nat_lt row.asize row.size)
      → Declares at (declared (scope_of bindings) (label_of names values row) (map (label_of names values) attrs)) bindings inner
      → Ahead (lines_of names values rows) top (at + row.asize) inner new whole
  pub printed : (new : List ℕ) (attrs : List Row) (inner after : List InForce) → attrs ≡ slice_range rows (at + 1) (at + row.asize) → opens row.kind row.asize row.size ≡ false
      → new ≡ out ++ front_text (scope_of bindings) (label_of names values row) (map (label_of names values) attrs) (nat_lt row.asize row.size)
      → Declares at (declared (scope_of bindings) (label_of names values row) (map (label_of names values) attrs)) bindings inner
      → after ≡ outside at inner
      → Ended (lines_of names values rows) top at (at + row.size) after new whole

turn_at : (names : List Name) (values : List ℕ) (rows : List Row) (top at : ℕ) (bindings : List InForce) (out whole : List ℕ) → Ahead (lines_of names values rows) top at bindings out whole
    → Turn names values rows top at bindings out whole (get_or rows at no_row)
turn_at names values rows top at bindings out whole w =
    let ls : List (Line Label) = lines_of names values rows in
    let row : Row = get_or rows at no_row in
    let part : List Row = slice_range rows (at + 1) (at + row.asize) in
    let more : List (Line Label) = lines (1 + length w.node.attrs) w.kids ++ lines_left w.tail (w.node ∷ w.outer) in
    let place : drop at ls ≡ w.node.line ∷ (attr_lines 1 w.node.attrs ++ more) =
    ap (λ n. drop n ls) (sym w.at_is) ∙ line_there ls top w.node w.outer w.open_is ∙ ap (λ b. w.node.line ∷ b) w.behind_is in
    let own = row_there names values rows at w.node.line (attr_lines 1 w.node.attrs ++ more) place in
    let size : row.size ≡ w.node.line.size = ap (λ (l : Line Label). l.size) own.is in
    let asize : row.asize ≡ w.node.line.asize = ap (λ (l : Line Label). l.asize) own.is in
    let all : length ls ≡ length rows = length-map rows (line_of names values) in
    let some : at + row.size ≤ length rows = omega (
      arith,
      size,
      all,
      ap length place,
      length-drop at ls,
      length-append (attr_lines 1 w.node.attrs) more,
      length-attr_lines 1 w.node.attrs,
      w.size_is,
      length-append (lines (1 + length w.node.attrs) w.kids) (lines_left w.tail (w.node ∷ w.outer)),
      length-lines (1 + length w.node.attrs) w.kids,
    ) in
    let rest : drop (at + 1) ls ≡ attr_lines 1 w.node.attrs ++ more = sym (drop-drop 1 at ls) ∙ ap (drop 1) place in
    let attrs_are : map (label_of names values) part ≡ w.node.attrs =
    sym (map-map (λ (m : Line Label). m.label) (line_of names values) part)
    ∙ ap (map (λ (m : Line Label). m.label)) (sym (take-map (line_of names values) (at + row.asize - (at + 1)) (drop (at + 1) rows)) ∙ ap (take (at + row.asize - (at + 1))) (sym (drop-map (line_of names values) (at + 1) rows) ∙ rest)
    ∙ take_at (attr_lines 1 w.node.attrs) more (at + row.asize - (at + 1)) (omega (arith, asize, w.asize_is, length-attr_lines 1 w.node.attrs)))
    ∙ labels-attr_lines 1 w.node.attrs in
    let label : Label = label_of names values row in
    let b : Bool = nat_lt row.asize row.size in
    let scope : scope_of bindings ≡ scope_inside w.outer = scope_is w.outer bindings w.bound_is in
    let label_is : label ≡ w.node.line.label = ap (λ (l : Line Label). l.label) own.is in
    let shown : (attrs : List Row) → attrs ≡ part → out ++ front_text (scope_of bindings) label (map (label_of names values) attrs) b
    ≡ out ++ front_text (scope_inside w.outer) w.node.line.label w.node.attrs (nat_lt w.node.line.asize w.node.line.size)
    = λ attrs are. ap (λ (s : Scope). out ++ front_text s label (map (label_of names values) attrs) b) scope
    ∙ ap (λ (l : List Row). out ++ front_text (scope_inside w.outer) label (map (label_of names values) l) b) are
    ∙ ap (λ (l : List Label). out ++ front_text (scope_inside w.outer) label l b) attrs_are
    ∙ ap (λ (l : Line Label). out ++ front_text (scope_inside w.outer) l.label w.node.attrs (nat_lt l.asize l.size)) own.is in
    let same_pairs : (attrs : List Row) → attrs ≡ part → declared (scope_of bindings) label (map (label_of names values) attrs) ≡ declared (scope_inside w.outer) w.node.line.label w.node.attrs
    = λ attrs are. ap (λ (s : Scope). declared s label (map (label_of names values) attrs)) scope
    ∙ ap (λ (l : List Row). declared (scope_inside w.outer) label (map (label_of names values) l)) are
    ∙ ap (λ (l : List Label). declared (scope_inside w.outer) label l) attrs_are
    ∙ ap (λ (l : Label). declared (scope_inside w.outer) l w.node.attrs) label_is in
    let pairs : List Pair = declared (scope_inside w.outer) w.node.line.label w.node.attrs in
    let own_declares : (attrs : List Row) (inner : List InForce) → attrs ≡ part → Declares at (declared (scope_of bindings) label (map (label_of names values) attrs)) bindings inner
    → Declares w.node.place pairs bindings inner
    = λ attrs inner are d. subst (λ n. Declares n pairs bindings inner) (sym w.at_is) (subst (λ (ps : List Pair). Declares at ps bindings inner) (same_pairs attrs are) d) in
    record {
      own_within = own.within;
      own_asize = omega (arith, asize, w.asize_is);
      own_size = omega (arith, size, w.size_is);
      attrs_within = omega (arith, some, asize, size, w.asize_is, w.size_is);
      size_within = some;
      first_child = λ new attrs inner are is_open e d.
          let at_same : w.node.place + w.node.line.asize ≡ at + row.asize = omega (arith, w.at_is, asize) in
          let P : ℕ → Type 0 = λ n. Ahead ls top n inner new whole in
          let in_force : AreInForce (w.node ∷ w.outer) inner = (bindings, w.bound_is, own_declares attrs inner are d) in
          subst P at_same (down ls top bindings inner out new whole w.node w.outer w.tail w.kids w.open_is in_force w.size_is w.asize_is w.behind_is w.text_is
          (ap (λ (l : Line Label). opens l.label.kind l.asize l.size) (sym own.is) ∙ is_open) (e ∙ shown attrs are));
      printed = λ new attrs inner after are closed e d left.
          let P : ℕ → Type 0 = λ n. Ended ls top at (at + n) after new whole in
          let in_force : AreInForce w.outer after = left_is ls top at w.node w.outer pairs bindings inner after w.at_is w.open_is w.bound_is (own_declares attrs inner are d) left in
          subst P (sym size) (over ls top at bindings after out new whole w in_force (ap (λ (l : Line Label). opens l.label.kind l.asize l.size) (sym own.is) ∙ closed) (e ∙ shown attrs are));
    }

pub turn : (names : List Name) (values : List ℕ) (rows : List Row) (top at : ℕ) (bindings : List InForce) (out whole : List ℕ) (row : Row) → row ≡ get_or rows at row → Ahead (lines_of names values rows) top at bindings out whole
    → Turn names values rows top at bindings out whole row
turn names values rows top at bindings out whole row is w =
    let now = turn_at names values rows top at bindings out whole w in
    subst (Turn names values rows top at bindings out whole) (sym (get_or_read rows at row now.own_within is no_row)) now

-- ---- the first turn

-- a node with a place is printed next, and is all there is to print
pub begun : (ls : List (Line Label)) (node : Node Label) (top : ℕ) (bindings : List InForce) (out : List ℕ) → IsFlat ls → bindings ≡ [] → IsIn (nodes (grove_of ls)) node → node.place ≡ top
    → Ahead ls top top bindings out (out ++ node_text node)
begun ls node top bindings out flat empty h at =
    let s = stands 0 0 (grove_of ls) node h in
    let behind : List (Line Label) = attr_lines 1 node.attrs ++ (lines (1 + length node.attrs) node.kids ++ s.behind) in
    let there : drop node.place ls ≡ own_line s.dist node ∷ behind =
    ap (drop node.place) (sym flat ∙ s.are) ∙ drop_at s.before (own_line s.dist node ∷ behind) node.place (omega (arith, s.at)) in
    record {
      node = record { place = node.place; line = own_line s.dist node; attrs = node.attrs; behind = behind; right = none };
      outer = [];
      tail = s.behind;
      kids = node.kids;
      open_is = (there, at, refl);
      bound_is = empty;
      at_is = at;
      size_is = refl;
      asize_is = refl;
      behind_is = refl;
      text_is = ap (λ l. out ++ l) (append-nil (node_text node));
    }

-- each place has a node
in_map : {A B : Type 0} (f : A → B) (xs : List A) (y : B) → IsIn (map f xs) y → (x : A) × IsIn xs x × (f x ≡ y)
in_map f [] y h = absurd h
in_map f (x ∷ xs) y (inl e) = (x, inl refl, e)
in_map f (x ∷ xs) y (inr h) = let more = in_map f xs y h in (more.0, inr more.1, more.2)

in_range : (n len k : ℕ) → n ≤ k → k < n + len → IsIn (range_with_len n len) k
in_range n zero k low high = absurd (omega arith)
in_range n (suc len) k low high = elim (cases_lt n k) [
  | inl lt ↦ inr (in_range (n + 1) len k (omega arith) (omega arith))
  | inr le ↦ inl (omega arith)
]

pub some_node : (ls : List (Line Label)) (top : ℕ) → IsFlat ls → top < length ls → (node : Node Label) × IsIn (nodes (grove_of ls)) node × (node.place ≡ top)
some_node ls top flat lt =
    let P : List ℕ → Type 0 = λ l. IsIn l top in
    in_map place_of (nodes (grove_of ls)) top (subst P (sym (node_places 0 (grove_of ls))) (in_range 0 (count (grove_of ls)) top (omega arith) (omega (arith, flat-length ls flat))))

-- so where each node there leaves something to print, there is something to print
some_ahead : (names : List Name) (values : List ℕ) (rows : List Row) (top at : ℕ) (bindings : List InForce) (out before : List ℕ) → IsFlat (lines_of names values rows) → top < length rows
    → ((node : Node Label) → Contains (nodes (grove_of (lines_of names values rows))) node → node.place ≡ top → Ahead (lines_of names values rows) top at bindings out (before ++ node_text node))
    → (whole : List ℕ) × Ahead (lines_of names values rows) top at bindings out whole
some_ahead names values rows top at bindings out before flat lt ahead =
    let some = some_node (lines_of names values rows) top flat (omega (arith, length-map rows (line_of names values))) in
    (before ++ node_text some.0, ahead some.0 (in_contains (nodes (grove_of (lines_of names values rows))) some.0 some.1) some.2)

pub row_within : (names : List Name) (values : List ℕ) (rows : List Row) (top at : ℕ) (bindings : List InForce) (out before : List ℕ) → IsFlat (lines_of names values rows) → top < length rows
    → ((node : Node Label) → Contains (nodes (grove_of (lines_of names values rows))) node → node.place ≡ top → Ahead (lines_of names values rows) top at bindings out (before ++ node_text node))
    → at < length rows
row_within names values rows top at bindings out before flat lt ahead =
    let some = some_ahead names values rows top at bindings out before flat lt ahead in (turn_at names values rows top at bindings out some.0 some.1).own_within

pub some_turn : (names : List Name) (values : List ℕ) (rows : List Row) (top at : ℕ) (bindings : List InForce) (out before : List ℕ) (row : Row) → IsFlat (lines_of names values rows) → top < length rows → row ≡ get_or rows at row
    → ((node : Node Label) → Contains (nodes (grove_of (lines_of names values rows))) node → node.place ≡ top → Ahead (lines_of names values rows) top at bindings out (before ++ node_text node))
    → (whole : List ℕ) × Turn names values rows top at bindings out whole row
some_turn names values rows top at bindings out before row flat lt is ahead =
    let some = some_ahead names values rows top at bindings out before flat lt ahead in (some.0, turn names values rows top at bindings out some.0 row is some.1)

pub then_whole : (ls : List (Line Label)) (top end : ℕ) (all : Bool) (bindings : List InForce) (out whole : List ℕ) → Then ls top end all bindings out whole → all ≡ true → out ≡ whole
then_whole ls top end true bindings out whole h e = h
then_whole ls top end false bindings out whole h e = cc

pub then_ahead : (ls : List (Line Label)) (top end : ℕ) (all : Bool) (bindings : List InForce) (out whole : List ℕ) → Then ls top end all bindings out whole → all ≡ false
    → Ahead ls top end bindings out whole
then_ahead ls top end true bindings out whole h e = cc
then_ahead ls top end false bindings out whole h e = h
