-- The rows that the pieces of a text make, and the first fault in what they mean, whatever their order.
use Rattle.std.specs.Prelude.{ℕ, zero, suc, ◌+◌, ◌-◌, Bool, List, [], ◌∷◌, ◌++◌, length, Option, Some, None, if◌then◌else◌}
use Rattle.tree_model.specs.Forest.{Line, attr_lines}
use Rattle.tree_model.specs.Labels.{Label, doc_label, text_label, with_id, numbered_attrs}
use Rattle.tree_model.specs.XmlMeaning.{Pair, Scope, first_scope, with_attrs, value_in_text, value_in_attr, line_ends, is_kept_text, tag_label, attr_labels, comm_label, pi_label, Fault, part_faults, tag_faults}
use Rattle.xml_pieces.specs.Tokens.{Token, part_token, cdata_token, comm_token, pi_token, open_token, attr_token, quote_token, go_token, shut_token, close_token, token_text}

-- the first of two faults, and of a list
abbrev pub or_first : Option Fault → Option Fault → Option Fault
or_first None other = other
or_first (Some fault) other = Some fault

abbrev pub first_of : List Fault → Option Fault
first_of [] = None
first_of (fault ∷ more) = Some fault

-- a tag that is being read: its name, its place, its attributes so far and the first fault in them
pub record Tag : Type 0 where
  pub name : List ℕ
  pub from : ℕ
  pub pairs : List Pair
  pub within : Option Fault

pub data Mode : Type 0 where
  in_content : Mode
  in_tag : (tag : Tag) → Mode
  -- in the value of an attribute, with its name and its value so far
  in_value : (tag : Tag) → (key : List ℕ) → (value : List ℕ) → Mode

-- the rows so far; the places of the open elements, the innermost first; the text that was gathered behind the last row; the prefixes in
-- scope, and those outside of each open element; the place of the next byte; the first fault so far
pub record Work : Type 0 where
  pub lines : List (Line Label)
  pub open_at : List ℕ
  pub gathered : List ℕ
  pub scope : Scope
  pub outer : List Scope
  pub at : ℕ
  pub fault : Option Fault
  pub mode : Mode

-- where the parent of the next row stands
abbrev pub top : List ℕ → ℕ
top [] = 0
top (place ∷ up) = place

-- rows without others below them, with their places as their ids
abbrev pub leaf : ℕ → ℕ → Label → Line Label
leaf place dist label = record { label = with_id place label; dist = dist; size = 1; asize = 1 }

abbrev pub with_leaf : Label → List (Line Label) → List ℕ → List (Line Label)
with_leaf label lines open_at = lines ++ leaf (length lines) (length lines - top open_at) label ∷ []

-- the row of an element, and those of its attributes
abbrev pub tag_lines : ℕ → ℕ → Label → List Label → List (Line Label)
tag_lines place dist label attrs =
    record { label = with_id place label; dist = dist; size = 1 + length attrs; asize = 1 + length attrs } ∷ attr_lines 1 (numbered_attrs (place + 1) attrs)

abbrev pub with_tag : Label → List Label → List (Line Label) → List ℕ → List (Line Label)
with_tag label attrs lines open_at = lines ++ tag_lines (length lines) (length lines - top open_at) label attrs

-- the row at a place with this size
abbrev pub sized : ℕ → ℕ → List (Line Label) → List (Line Label)
sized size place [] = []
sized size zero (line ∷ lines) = record line { size = size } ∷ lines
sized size (suc place) (line ∷ lines) = line ∷ sized size place lines

-- the innermost open element ends at the last row
abbrev pub ended : List ℕ → List (Line Label) → List (Line Label)
ended [] lines = lines
ended (place ∷ up) lines = sized (length lines - place) place lines

-- the text that was gathered becomes a row, where it is kept
abbrev pub with_text : Bool → Work → List (Line Label)
with_text strip w = if is_kept_text strip w.gathered then with_leaf (text_label w.gathered) w.lines w.open_at else w.lines

-- outside the root no text is gathered
abbrev pub gathered_more : List ℕ → List ℕ → List ℕ → List ℕ
gathered_more [] gathered value = gathered
gathered_more (place ∷ up) gathered value = gathered ++ value

abbrev pub less : {A : Type 0} → List A → List A
less [] = []
less (x ∷ xs) = xs

abbrev pub outer_scope : Scope → List Scope → Scope
outer_scope scope [] = scope
outer_scope scope (outside ∷ more) = outside

-- the faults of a tag: its own, then the first in its attributes
abbrev pub tag_fault : Scope → Tag → Option Fault
tag_fault inside tag = or_first (first_of (tag_faults inside tag.from tag.name tag.pairs)) tag.within

-- a piece by itself, without the place behind it
abbrev pub works_at : Bool → Mode → Work → Token → Work
works_at strip in_content w (part_token p) =
    record w { gathered = gathered_more w.open_at w.gathered (value_in_text p); fault = or_first w.fault (first_of (part_faults w.at p)) }
works_at strip in_content w (cdata_token bytes) = record w { gathered = gathered_more w.open_at w.gathered (line_ends bytes) }
works_at strip in_content w (comm_token bytes) = record w { lines = with_leaf (comm_label bytes) (with_text strip w) w.open_at; gathered = [] }
works_at strip in_content w (pi_token target gap bytes) = record w { lines = with_leaf (pi_label target bytes) (with_text strip w) w.open_at; gathered = [] }
works_at strip in_content w (open_token name) =
    record w { lines = with_text strip w; gathered = []; mode = in_tag (record { name = name; from = w.at; pairs = []; within = None }) }
works_at strip in_content w (close_token name last) =
    record w { lines = ended w.open_at (with_text strip w); gathered = []; open_at = less w.open_at; scope = outer_scope w.scope w.outer; outer = less w.outer }
works_at strip (in_tag tag) w (attr_token gap key before behind delim) = record w { mode = in_value tag key [] }
works_at strip (in_tag tag) w (go_token gap) =
    let inside = with_attrs tag.pairs w.scope in
    record w {
      lines = with_tag (tag_label inside tag.name tag.pairs) (attr_labels inside tag.pairs) w.lines w.open_at;
      open_at = length w.lines ∷ w.open_at;
      scope = inside;
      outer = w.scope ∷ w.outer;
      fault = or_first w.fault (tag_fault inside tag);
      mode = in_content;
    }
works_at strip (in_tag tag) w (shut_token gap) =
    let inside = with_attrs tag.pairs w.scope in
    record w {
      lines = with_tag (tag_label inside tag.name tag.pairs) (attr_labels inside tag.pairs) w.lines w.open_at;
      fault = or_first w.fault (tag_fault inside tag);
      mode = in_content;
    }
works_at strip (in_value tag key value) w (part_token p) =
    record w { mode = in_value (record tag { within = or_first tag.within (first_of (part_faults w.at p)) }) key (value ++ value_in_attr p) }
works_at strip (in_value tag key value) w (quote_token delim) = record w { mode = in_tag (record tag { pairs = tag.pairs ++ (key, value) ∷ [] }) }
works_at strip mode w token = w

-- and the next one begins behind it
abbrev pub behind : Token → Work → Work
behind t w = record w { at = w.at + length (token_text t) }

unfoldable pub works : Bool → Work → Token → Work
works strip w t = behind t (works_at strip w.mode w t)

abbrev pub all_works : Bool → List Token → Work → Work
all_works strip [] w = w
all_works strip (t ∷ ts) w = all_works strip ts (works strip w t)

-- the row of the document alone, before the byte at a place
abbrev pub begin_work : ℕ → Work
begin_work at =
    record { lines = leaf 0 0 (doc_label []) ∷ []; open_at = []; gathered = []; scope = first_scope; outer = []; at = at; fault = None; mode = in_content }

-- all rows, once the document ends at the last of them
abbrev pub finished : Work → List (Line Label)
finished w = sized (length w.lines) 0 w.lines
