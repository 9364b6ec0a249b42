-- Rows and attributes, as values come behind those of all others.
use Rattle.std.proofs.Common.{◌≡◌, ℕ, ◌+◌, ◌≤◌, Bool, true, List, [], ◌∷◌, ◌++◌, length, take, drop, refl, sym, ap, ◌∙◌, subst, arith, length-append}
use Rattle.std.specs.Prelude.{if◌then◌else◌}
use Rattle.std.proofs.lemmas.List.{take-append-drop, drop-append-le}
use Rattle.tree_model.specs.Forest.{Line}
use Rattle.tree_model.specs.Labels.{Label, local_name, text_label}
use Rattle.tree_model.specs.Rows.{name_at, value_at, lines_of, ArePlaced}
use Rattle.tree_model.specs.XmlMeaning.{is_kept_text}
use Rattle.tree_model.specs.declared.row.Kind.{Kind}
use Rattle.tree_model.specs.declared.row.Kind.TheVariants.{Text}
use Rattle.tree_model.specs.declared.row.Row.{Row}
use Rattle.tree_model.specs.declared.row.ValueRef.{ValueRef}
use Rattle.tree_model.specs.declared.text.Name.{Name}
use Rattle.tree_model.proofs.Tables.{lines_valued, placed_valued, value_kept, value_new}
use Rattle.xml_rows.specs.Table.{label_at}
use Rattle.xml_rows.specs.Tagging.{pair_of, pairs_of, ArePairs}
use Rattle.xml_rows.specs.Texts.{flushed, valued_label}
use Rattle.xml_rows.specs.Values.{Gathered}
use Rattle.xml_rows.specs.Work.{with_leaf}
use Rattle.xml_rows.specs.declared.tag.Pair as code

pub valued_lines : (names : List Name) (settled value grown : List ℕ) (rows new : List Row) (kind : Kind) (name : ℕ) (val : ValueRef) (open_at : List ℕ) → grown ≡ settled ++ value → val.at ≡ length settled → val.len ≡ length value → ArePlaced names settled rows
    → lines_of names grown new ≡ with_leaf (label_at names grown kind name val) (lines_of names grown rows) open_at → lines_of names grown new ≡ with_leaf (valued_label kind (name_at names name) value) (lines_of names settled rows) open_at
valued_lines names settled value grown rows new kind name val open_at is at len placed lines =
    let e1 : value_at grown val ≡ value = ap (λ l. value_at l val) is ∙ value_new settled value val at len in
    let e2 : lines_of names grown rows ≡ lines_of names settled rows = ap (λ l. lines_of names l rows) is ∙ lines_valued names settled value rows placed in
    lines ∙ ap (λ v. with_leaf (valued_label kind (name_at names name) v) (lines_of names grown rows) open_at) e1 ∙ ap (λ l. with_leaf (valued_label kind (name_at names name) value) l open_at) e2

pub valued_placed : (names : List Name) (settled value grown : List ℕ) (rows : List Row) → grown ≡ settled ++ value → ArePlaced names settled rows → ArePlaced names grown rows
valued_placed names settled value grown rows is placed = subst (λ l. ArePlaced names l rows) (sym is) (placed_valued names settled value rows placed)

pub value_within : (settled value grown : List ℕ) (val : ValueRef) → grown ≡ settled ++ value → val.at ≡ length settled → val.len ≡ length value → val.at + val.len ≤ length grown
value_within settled value grown val is at len = omega (arith, at, len, ap length is, length-append settled value)

pub text_flushed : (names : List Name) (unnamed : ℕ) (strip : Bool) (text : List ℕ) (before after : List (Line Label)) (open_at : List ℕ) → is_kept_text strip text ≡ true → name_at names unnamed ≡ local_name []
    → after ≡ with_leaf (valued_label Text (name_at names unnamed) text) before open_at → after ≡ flushed strip text before open_at
text_flushed names unnamed strip text before after open_at kept named lines =
    lines ∙ ap (λ name. with_leaf (valued_label Text name text) before open_at) named ∙ sym (ap (λ b. if b then with_leaf (text_label text) before open_at else before) kept)

pub pairs_valued : (values more : List ℕ) (pairs : List code.Pair) → ArePairs values pairs → pairs_of (values ++ more) pairs ≡ pairs_of values pairs
pairs_valued values more [] are = refl
pairs_valued values more (pair ∷ pairs) are =
    ap (λ (v : List ℕ). (pair.name.now, v) ∷ pairs_of (values ++ more) pairs) (value_kept values more pair.val are.0.within) ∙ ap (λ l. pair_of values pair ∷ l) (pairs_valued values more pairs are.1)

-- a value that is whole stands once more behind the bytes that are gathered
pub copied : (heap grown : List ℕ) (from : ℕ) (val : ValueRef) (old : Gathered) → from ≤ length heap → record { settled = take from heap; pending = drop from heap } ≡ old → val.at + val.len ≤ length old.settled
    → grown ≡ heap ++ value_at heap val → drop from grown ≡ old.pending ++ value_at old.settled val
copied heap grown from val old le is within grown_is =
    let whole : take from heap ≡ old.settled = ap (λ (g : Gathered). g.settled) is in
    let same : value_at heap val ≡ value_at old.settled val =
    ap (λ l. value_at l val) (sym (take-append-drop from heap)) ∙ value_kept (take from heap) (drop from heap) val (omega (arith, within, ap length whole)) ∙ ap (λ l. value_at l val) whole in
    ap (drop from) grown_is ∙ drop-append-le from heap (value_at heap val) le ∙ ap (λ l. drop from heap ++ l) same ∙ ap (λ (g : Gathered). g.pending ++ value_at old.settled val) is
