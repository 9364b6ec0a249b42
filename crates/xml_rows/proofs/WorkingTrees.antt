-- The rows of trees behind rows that stand already.
use Rattle.std.proofs.Common.{◌≡◌, ℕ, ◌+◌, ◌-◌, ◌<◌, Bool, true, false, cond, List, [], ◌∷◌, ◌++◌, length, refl, sym, ap, ◌∙◌, arith, append_assoc, append-nil, length-append}
use Rattle.tree_model.specs.Forest.{Forest, none, tree, join, count, Line, raise, attr_lines, lines}
use Rattle.tree_model.specs.Trees.{length-attr_lines, length-lines, raise_pos, lines-join}
use Rattle.tree_model.specs.Labels.{Label, text_label, with_id, numbered_attrs, numbered}
use Rattle.tree_model.specs.XmlMeaning.{is_kept_text, with_gathered}
use Rattle.tree_model.proofs.Numbering.{length-numbered_attrs, count-numbered}
use Rattle.xml_rows.specs.Work.{top, with_leaf, tag_lines, with_tag, sized}

-- the rows, and behind them those of trees below the row at a place
abbrev pub placed : ℕ → List (Line Label) → Forest Label → List (Line Label)
placed place ls f = ls ++ lines (length ls - place) (numbered (length ls) f)

pub length-placed : (place : ℕ) (ls : List (Line Label)) (f : Forest Label) → length (placed place ls f) ≡ length ls + count f
length-placed place ls f =
    omega (arith, length-append ls (lines (length ls - place) (numbered (length ls) f)), length-lines (length ls - place) (numbered (length ls) f), count-numbered (length ls) f)

numbered-join : (n : ℕ) (f g : Forest Label) → numbered n (join f g) ≡ join (numbered n f) (numbered (n + count f) g)
numbered-join n none g = ap (λ k. numbered k g) (omega arith)
numbered-join n (tree label attrs kids rest) g =
    let next : ℕ = n + (1 + length attrs + count kids) in
    let e : next + count rest ≡ n + (1 + length attrs + count kids + count rest) = omega arith in
    ap (tree (with_id n label) (numbered_attrs (n + 1) attrs) (numbered (n + (1 + length attrs)) kids))
    (numbered-join next rest g ∙ ap (λ k. join (numbered next rest) (numbered k g)) e)

-- some trees, and then others
pub placed-join : (place : ℕ) (ls : List (Line Label)) (f g : Forest Label) → place < length ls → placed place (placed place ls f) g ≡ placed place ls (join f g)
placed-join place ls f g h =
    let all : List (Line Label) = placed place ls f in
    let n : ℕ = length ls in
    let d : ℕ = n - place in
    let long : length all ≡ n + count f = length-placed place ls f in
    let far : length all - place ≡ raise d (count f) = (let e : length all - place ≡ d + count f = omega (arith, long) in e) ∙ sym (raise_pos d (count f) (omega arith)) in
    let joined : lines d (numbered n (join f g)) ≡ lines d (numbered n f) ++ lines (raise d (count f)) (numbered (n + count f) g) =
    ap (lines d) (numbered-join n f g) ∙ lines-join d (numbered n f) (numbered (n + count f) g)
    ∙ ap (λ c. lines d (numbered n f) ++ lines (raise d c) (numbered (n + count f) g)) (count-numbered n f) in
    ap (λ x. all ++ lines x (numbered (length all) g)) far
    ∙ ap (λ k. all ++ lines (raise d (count f)) (numbered k g)) long
    ∙ append_assoc ls (lines d (numbered n f)) (lines (raise d (count f)) (numbered (n + count f) g))
    ∙ ap (λ x. ls ++ x) (sym joined)

pub placed-none : (place : ℕ) (ls : List (Line Label)) → placed place ls none ≡ ls
placed-none place ls = append-nil ls

pub leaf_placed : (label : Label) (ls : List (Line Label)) (open_at : List ℕ) → with_leaf label ls open_at ≡ placed (top open_at) ls (tree label [] none none)
leaf_placed label ls open_at = refl

-- ---- text that was gathered

-- the rows with the text that was gathered, where it is kept
abbrev pub flushed : Bool → List (Line Label) → List ℕ → List ℕ → List (Line Label)
flushed strip ls open_at gathered = cond (is_kept_text strip gathered) (with_leaf (text_label gathered) ls open_at) ls

pub flushed_placed : (strip : Bool) (ls : List (Line Label)) (open_at gathered : List ℕ) → flushed strip ls open_at gathered ≡ placed (top open_at) ls (with_gathered strip gathered none)
flushed_placed strip ls open_at gathered = by (is_kept_text strip gathered)
  where
    by : (b : Bool) → cond b (with_leaf (text_label gathered) ls open_at) ls ≡ placed (top open_at) ls (cond b (tree (text_label gathered) [] none none) none)
    by true = refl
    by false = sym (append-nil ls)

-- the text, and then other trees
pub gathered_first : (strip : Bool) (gathered : List ℕ) (f : Forest Label) → with_gathered strip gathered f ≡ join (with_gathered strip gathered none) f
gathered_first strip gathered f = by (is_kept_text strip gathered)
  where
    by : (b : Bool) → cond b (tree (text_label gathered) [] none f) f ≡ join (cond b (tree (text_label gathered) [] none none) none) f
    by true = refl
    by false = refl

-- the text, a tree, and then other trees
pub behind_text : (strip : Bool) (place : ℕ) (ls : List (Line Label)) (gathered : List ℕ) (label : Label) (attrs : List Label) (kids f : Forest Label) → place < length ls
    → placed place (placed place (placed place ls (with_gathered strip gathered none)) (tree label attrs kids none)) f ≡ placed place ls (with_gathered strip gathered (tree label attrs kids f))
behind_text strip place ls gathered label attrs kids f h =
    let text : Forest Label = with_gathered strip gathered none in
    placed-join place (placed place ls text) (tree label attrs kids none) f (omega (arith, length-placed place ls text))
    ∙ placed-join place ls text (tree label attrs kids f) h
    ∙ ap (placed place ls) (sym (gathered_first strip gathered (tree label attrs kids f)))

-- ---- elements

pub length-with_tag : (label : Label) (attrs : List Label) (ls : List (Line Label)) (open_at : List ℕ) → length (with_tag label attrs ls open_at) ≡ length ls + (1 + length attrs)
length-with_tag label attrs ls open_at =
    omega (
      arith,
      length-append ls (tag_lines (length ls) (length ls - top open_at) label attrs),
      length-attr_lines 1 (numbered_attrs (length ls + 1) attrs),
      length-numbered_attrs (length ls + 1) attrs,
    )

-- an empty-element tag
pub tag_placed : (label : Label) (attrs : List Label) (ls : List (Line Label)) (open_at : List ℕ) → with_tag label attrs ls open_at ≡ placed (top open_at) ls (tree label attrs none none)
tag_placed label attrs ls open_at =
    let n : ℕ = length ls in
    let own : List Label = numbered_attrs (n + 1) attrs in
    let row : ℕ → ℕ → Line Label = λ size asize. record { label = with_id n label; dist = n - top open_at; size = size; asize = asize } in
    let e1 : 1 + length attrs ≡ 1 + length own + 0 = omega (arith, length-numbered_attrs (n + 1) attrs) in
    let e2 : 1 + length attrs ≡ 1 + length own = omega (arith, length-numbered_attrs (n + 1) attrs) in
    ap (λ x. ls ++ row x (1 + length attrs) ∷ attr_lines 1 own) e1
    ∙ ap (λ x. ls ++ row (1 + length own + 0) x ∷ attr_lines 1 own) e2
    ∙ ap (λ x. ls ++ row (1 + length own + 0) (1 + length own) ∷ x) (sym (append-nil (attr_lines 1 own)))

sized_seam : (size : ℕ) (ls more : List (Line Label)) (row : Line Label) → sized size (length ls) (ls ++ row ∷ more) ≡ ls ++ record row { size = size } ∷ more
sized_seam size [] more row = refl
sized_seam size (x ∷ ls) more row = ap (λ l. x ∷ l) (sized_seam size ls more row)

-- a start tag, what stands in its element, and the size that is set at its end tag
pub element_placed : (label : Label) (attrs : List Label) (kids : Forest Label) (ls : List (Line Label)) (open_at : List ℕ) (all : List (Line Label))
    → all ≡ placed (length ls) (with_tag label attrs ls open_at) kids
    → sized (length all - length ls) (length ls) all ≡ placed (top open_at) ls (tree label attrs kids none)
element_placed label attrs kids ls open_at all is =
    let n : ℕ = length ls in
    let a : ℕ = 1 + length attrs in
    let own : List Label = numbered_attrs (n + 1) attrs in
    let begun : List (Line Label) = with_tag label attrs ls open_at in
    let row : ℕ → ℕ → Line Label = λ size asize. record { label = with_id n label; dist = n - top open_at; size = size; asize = asize } in
    let long : length begun ≡ n + a = length-with_tag label attrs ls open_at in
    let far : length begun - n ≡ a = omega (arith, long) in
    let below : List (Line Label) = attr_lines 1 own ++ lines a (numbered (n + a) kids) in
    let same : all ≡ ls ++ row a a ∷ below =
    is ∙ ap (λ d. begun ++ lines d (numbered (length begun) kids)) far ∙ ap (λ k. begun ++ lines a (numbered k kids)) long
    ∙ append_assoc ls (tag_lines n (n - top open_at) label attrs) (lines a (numbered (n + a) kids)) in
    let size : length all - n ≡ 1 + length own + count (numbered (n + a) kids) =
    omega (arith, ap length is, length-placed n begun kids, long, count-numbered (n + a) kids, length-numbered_attrs (n + 1) attrs) in
    let more : a ≡ 1 + length own = omega (arith, length-numbered_attrs (n + 1) attrs) in
    let total : ℕ = 1 + length own + count (numbered (n + a) kids) in
    ap (λ x. sized (length all - n) n x) same
    ∙ sized_seam (length all - n) ls below (row a a)
    ∙ ap (λ x. ls ++ row x a ∷ below) size
    ∙ ap (λ x. ls ++ row total x ∷ (attr_lines 1 own ++ lines x (numbered (n + a) kids))) more
    ∙ ap (λ x. ls ++ row total (1 + length own) ∷ (attr_lines 1 own ++ x)) (sym (append-nil (lines (1 + length own) (numbered (n + a) kids))))
