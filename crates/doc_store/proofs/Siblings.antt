-- Trees in the middle of lines, one after the other.
use Rattle.std.proofs.Common.{◌≡◌, ℕ, ◌+◌, ◌-◌, ◌<◌, ◌≤◌, List, ◌∷◌, ◌++◌, length, take, drop, get_or, refl, sym, ap, ◌∙◌, subst, arith, append_assoc, length-append, take_at, drop_at}
use Rattle.std.proofs.lemmas.List.{get_or_at}
use Rattle.tree_model.specs.Forest.{Forest, none, tree, count, Line, raise, attr_lines, lines, read_trees}
use Rattle.tree_model.specs.Labels.{Label}
use Rattle.tree_model.specs.Trees.{length-lines, length-attr_lines, read-lines}
use Rattle.doc_store.specs.Places.{AreTreesBetween, trees_between, Turn}

-- what the lines of trees say is those trees
pub between_is : (ls : List (Line Label)) (at end : ℕ) (w : AreTreesBetween ls at end) → trees_between ls at end ≡ w.trees
between_is ls at end w =
    let own : List (Line Label) = lines w.dist w.trees in
    let number : length own ≡ end - at = omega (arith, w.ends, length-lines w.dist w.trees) in
    let from : drop at ls ≡ own ++ w.behind = ap (drop at) w.are ∙ drop_at w.before (own ++ w.behind) at w.starts in
    ap (read_trees (end - at)) (ap (take (end - at)) from ∙ take_at own w.behind (end - at) number) ∙ read-lines (end - at) w.dist w.trees (omega (arith, w.ends))

turn_of : (ls : List (Line Label)) (at end : ℕ) (trees : Forest Label) (before : List (Line Label)) (dist : ℕ) (behind : List (Line Label)) → ls ≡ before ++ (lines dist trees ++ behind) → length before ≡ at → at + count trees ≡ end
    → at < end → (line : Line Label) → line ≡ get_or ls at line → Turn ls at end line
turn_of ls at end none before dist behind are starts ends lt line is = absurd (omega arith)
turn_of ls at end (tree a attrs kids rest) before dist behind are starts ends lt line is =
    subst (λ (l : Line Label). Turn ls at end l) (sym (is ∙ there)) (record {
      attrs = attrs;
      kids = kids;
      size = refl;
      trees = between_is ls at end now ∙ ap (tree a attrs kids) (sym (between_is ls next end after));
      others = after;
    })
  where
    own : Line Label
    own = record { label = a; dist = dist; size = 1 + length attrs + count kids; asize = 1 + length attrs }

    next : ℕ
    next = at + (1 + length attrs + count kids)

    al : List (Line Label)
    al = attr_lines 1 attrs

    ks : List (Line Label)
    ks = lines (1 + length attrs) kids

    rs : List (Line Label)
    rs = lines (raise dist (1 + length attrs + count kids)) rest

    there : get_or ls at line ≡ own
    there = ap (λ l. get_or l at line) are ∙ get_or_at before own ((al ++ (ks ++ rs)) ++ behind) line at starts

    now : AreTreesBetween ls at end
    now = record { trees = tree a attrs kids rest; before = before; dist = dist; behind = behind; are = are; starts = starts; ends = ends }

    after : AreTreesBetween ls next end
    after = record {
      trees = rest;
      before = before ++ own ∷ (al ++ ks);
      dist = raise dist (1 + length attrs + count kids);
      behind = behind;
      are = are ∙ simp append_assoc;
      starts = omega (arith, starts, length-append before (own ∷ (al ++ ks)), length-append al ks, length-attr_lines 1 attrs, length-lines (1 + length attrs) kids);
      ends = omega (arith, ends);
    }

-- a tree is passed by its size
pub turn : (ls : List (Line Label)) (at end : ℕ) → AreTreesBetween ls at end → at < end → (line : Line Label) → line ≡ get_or ls at line → Turn ls at end line
turn ls at end w lt line is = turn_of ls at end w.trees w.before w.dist w.behind w.are w.starts w.ends lt line is

no_trees : (trees : Forest Label) → count trees ≡ 0 → trees ≡ none
no_trees none e = refl
no_trees (tree a attrs kids rest) e = absurd (omega arith)

-- behind the last of the trees
pub none_between : (ls : List (Line Label)) (at end : ℕ) → AreTreesBetween ls at end → end ≤ at → trees_between ls at end ≡ none
none_between ls at end w le = between_is ls at end w ∙ no_trees w.trees (omega (arith, w.ends, le))
