-- The work of the parts, and what the parts keep.
use Rattle.std.proofs.Common.{◌≡◌, ℕ, ◌+◌, ◌≤◌, Bool, true, false, List, [], ◌∷◌, length, Option, Some, None, refl, sym, ap, ◌∙◌, subst, arith}
use Rattle.tree_model.specs.Forest.{Line}
use Rattle.tree_model.specs.Labels.{Label, local_name}
use Rattle.tree_model.specs.Rows.{name_at, lines_of, ArePlaced}
use Rattle.tree_model.specs.declared.row.Kind.TheVariants.{Pi}
use Rattle.tree_model.specs.declared.row.Row.{Row}
use Rattle.tree_model.specs.declared.text.Name.{Name}
use Rattle.std.specs.Prelude.{if◌then◌else◌}
use Rattle.std.specs.Char.{encode_utf8}
use Rattle.std.specs.Option.{is_some, option_map_or}
use Rattle.tree_model.specs.XmlMeaning.{Pair, Scope, Fault, unknown_entity, bad_namespace, is_bad_tag, tag_faults, part_faults, entity_char, char_value, line_ends, line_ends_from}
use Rattle.tree_model.specs.XmlGood.{number_from}
use Rattle.tree_model.specs.XmlSource.{run, entity, decimal, hexadecimal}
use Rattle.xml_pieces.specs.Tokens.{part_token}
use Rattle.xml_rows.specs.BuilderView.{IsTag, IsReady}
use Rattle.xml_rows.specs.Leaving.{inner_of, outer_less}
use Rattle.prefix_scopes.specs.Scoping.{Numbering}
use Rattle.xml_rows.specs.Scoping.{scope_in, scopes_in, AreUris, EachAreUris}
use Rattle.xml_rows.specs.Numbers.{Begins}
use Rattle.xml_rows.specs.Texts.{pending_count, valued_label}
use Rattle.xml_rows.specs.Values.{Gathered}
use Rattle.xml_rows.specs.Work as work
use Rattle.xml_rows.specs.Work.{Work, tag_fault, or_first, first_of, gathered_more, less, outer_scope, with_leaf, works_at, in_content}
use Rattle.xml_rows.specs.declared.parts.Mode as code
use Rattle.xml_rows.specs.declared.parts.Mode.TheVariants.{Content, InTag}
use Rattle.xml_rows.specs.declared.parts.Tag.{Tag}
use Rattle.xml_rows.proofs.Resolving.{lines_begun}
use Rattle.xml_rows.proofs.Scoped.{scopes_grown, each_grown}

-- two works are one where their fields are
pub same_work : (w v : Work) → w.lines ≡ v.lines → w.open_at ≡ v.open_at → w.gathered ≡ v.gathered → w.scope ≡ v.scope → w.outer ≡ v.outer → w.at ≡ v.at → w.fault ≡ v.fault → w.mode ≡ v.mode → w ≡ v
same_work w v lines open_at gathered scope outer at fault mode =
    λ i. record { lines = lines i; open_at = open_at i; gathered = gathered i; scope = scope i; outer = outer i; at = at i; fault = fault i; mode = mode i }

pub or_none : (fault : Option Fault) → or_first fault None ≡ fault
or_none None = refl
or_none (Some fault) = refl

-- ---- counts

pub count_one : (text : List ℕ) → pending_count text ≤ 1
count_one [] = omega arith
count_one (c ∷ text) = omega arith

pub count_lines : (open_at pending bytes : List ℕ) → pending_count (gathered_more open_at pending (line_ends bytes)) ≤ pending_count pending + length bytes
unfolding line_ends
count_lines [] pending bytes = omega arith
count_lines (place ∷ up) [] [] = omega arith
count_lines (place ∷ up) (c ∷ pending) bytes = omega arith
count_lines (place ∷ up) [] (c ∷ bytes) = omega (arith, count_one (line_ends_from false (c ∷ bytes)))

pub ready_content : (count rows : ℕ) (values : Gathered) (tag : Tag) (mode : code.Mode) → mode ≡ Content → rows + pending_count values.pending ≤ count → IsReady count rows values tag mode
ready_content count rows values tag mode is le = subst (λ d. IsReady count rows values tag d) (sym is) le

pub content_ready : (count rows : ℕ) (values : Gathered) (tag : Tag) (mode : code.Mode) → mode ≡ Content → IsReady count rows values tag mode → rows + pending_count values.pending ≤ count
content_ready count rows values tag mode is ready = subst (λ d. IsReady count rows values tag d) is ready

-- ---- the fault of a reference

pub entity_first : (at : ℕ) (name : List ℕ) → first_of (part_faults at (entity name)) ≡ (if is_some (entity_char name) then None else Some (unknown_entity at))
unfolding part_faults
entity_first at name = by (entity_char name)
  where
    by : (found : Option ℕ) → first_of (option_map_or (λ c. []) found (unknown_entity at ∷ [])) ≡ (if is_some found then None else Some (unknown_entity at))
    by None = refl
    by (Some c) = refl

-- ---- an element ends

pub uris_left : (count : ℕ) (scope : List Numbering) (outer : List (List Numbering)) → AreUris count scope → EachAreUris count outer → AreUris count (inner_of scope outer)
uris_left count scope [] are each = are
uris_left count scope (outside ∷ outer) are each = each.0

pub each_left : (count : ℕ) (outer : List (List Numbering)) → EachAreUris count outer → EachAreUris count (outer_less outer)
each_left count [] each = tt
each_left count (outside ∷ outer) each = each.1

-- ---- an instruction: rows before it, its name, and its own row

pub instruction_lines : (names more : List Name) (settled : List ℕ) (rows : List Row) (before after : List (Line Label)) (open_at target value : List ℕ) (n : ℕ) → Begins names more → ArePlaced names settled rows → lines_of names settled rows ≡ before → name_at more n ≡ local_name target
    → after ≡ with_leaf (valued_label Pi (name_at more n) value) (lines_of more settled rows) open_at → after ≡ with_leaf (valued_label Pi (local_name target) value) before open_at
instruction_lines names more settled rows before after open_at target value n begins placed is named lines =
    lines ∙ ap (λ name. with_leaf (valued_label Pi name value) (lines_of more settled rows) open_at) named
    ∙ ap (λ l. with_leaf (valued_label Pi (local_name target) value) l open_at) (lines_begun names more settled rows begins placed ∙ is)

-- ---- pieces without faults

no_fault : (w : Work) (gathered : List ℕ) (faults : List Fault) → faults ≡ [] → record w { gathered = gathered } ≡ record w { gathered = gathered; fault = or_first w.fault (first_of faults) }
no_fault w gathered faults none = ap (λ f. record w { gathered = gathered; fault = f }) (sym (ap (λ l. or_first w.fault (first_of l)) none ∙ or_none w.fault))

pub run_work : (strip : Bool) (w : Work) (bytes : List ℕ) → record w { gathered = gathered_more w.open_at w.gathered (line_ends bytes) } ≡ works_at strip in_content w (part_token (run bytes))
unfolding part_faults
run_work strip w bytes = no_fault w (gathered_more w.open_at w.gathered (line_ends bytes)) (part_faults w.at (run bytes)) refl

pub decimal_work : (strip : Bool) (w : Work) (digits : List ℕ) (code : ℕ) → code ≡ number_from 10 0 digits → record w { gathered = gathered_more w.open_at w.gathered (encode_utf8 code) } ≡ works_at strip in_content w (part_token (decimal digits))
unfolding part_faults char_value
decimal_work strip w digits code is =
    ap (λ n. record w { gathered = gathered_more w.open_at w.gathered (encode_utf8 n) }) is ∙ no_fault w (gathered_more w.open_at w.gathered (char_value 10 digits)) (part_faults w.at (decimal digits)) refl

pub hexadecimal_work : (strip : Bool) (w : Work) (digits : List ℕ) (code : ℕ) → code ≡ number_from 16 0 digits → record w { gathered = gathered_more w.open_at w.gathered (encode_utf8 code) } ≡ works_at strip in_content w (part_token (hexadecimal digits))
unfolding part_faults char_value
hexadecimal_work strip w digits code is =
    ap (λ n. record w { gathered = gathered_more w.open_at w.gathered (encode_utf8 n) }) is ∙ no_fault w (gathered_more w.open_at w.gathered (char_value 16 digits)) (part_faults w.at (hexadecimal digits)) refl

-- ---- a tag

pub tag_ready : (count rows : ℕ) (values : Gathered) (tag : Tag) (mode : code.Mode) → mode ≡ InTag → IsReady count rows values tag mode → IsTag count rows values tag × (values.pending ≡ [])
tag_ready count rows values tag mode is ready = subst (λ d. IsReady count rows values tag d) is ready

pub tag_first : (bad : Bool) (inside : Scope) (at : ℕ) (name : List ℕ) (pairs : List Pair) → bad ≡ is_bad_tag inside name pairs → first_of (tag_faults inside at name pairs) ≡ (if bad then Some (bad_namespace at) else None)
unfolding tag_faults
tag_first bad inside at name pairs is = ap (λ b. first_of (if b then bad_namespace at ∷ [] else [])) (sym is) ∙ by bad
  where
    by : (b : Bool) → first_of (if b then bad_namespace at ∷ [] else []) ≡ (if b then Some (bad_namespace at) else None)
    by true = refl
    by false = refl

pub outer_entered : (uris more : List (List ℕ)) (scope : List Numbering) (outer inner : List (List Numbering)) → Begins uris more → AreUris (length uris) scope → EachAreUris (length uris) outer → inner ≡ scope ∷ outer
    → scopes_in more inner ≡ scope_in uris scope ∷ scopes_in uris outer
outer_entered uris more scope outer inner begins are each is = ap (scopes_in more) is ∙ scopes_grown uris more (scope ∷ outer) begins (are, each)

pub each_entered : (uris more : List (List ℕ)) (scope : List Numbering) (outer inner : List (List Numbering)) → Begins uris more → AreUris (length uris) scope → EachAreUris (length uris) outer → inner ≡ scope ∷ outer → EachAreUris (length more) inner
each_entered uris more scope outer inner begins are each is = subst (λ l. EachAreUris (length more) l) (sym is) (each_grown uris more (scope ∷ outer) begins (are, each))

pub tag_fault_by : (bad : Bool) (inside : Scope) (tag : work.Tag) (old own both all : Option Fault) → bad ≡ is_bad_tag inside tag.name tag.pairs → own ≡ (if bad then Some (bad_namespace tag.from) else None) → both ≡ or_first own tag.within → all ≡ or_first old both
    → all ≡ or_first old (tag_fault inside tag)
tag_fault_by bad inside tag old own both all is own_is both_is all_is =
    all_is ∙ ap (or_first old) (both_is ∙ ap (λ f. or_first f tag.within) (own_is ∙ sym (tag_first bad inside tag.from tag.name tag.pairs is)))
