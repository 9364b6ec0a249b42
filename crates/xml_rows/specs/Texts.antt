-- Rows that have a value, by their parts.
use Rattle.std.specs.Prelude.{ℕ, Bool, List, [], ◌∷◌, if◌then◌else◌}
use Rattle.tree_model.specs.Forest.{Line}
use Rattle.tree_model.specs.Labels.{Label, text_label}
use Rattle.tree_model.specs.XmlMeaning.{is_kept_text}
use Rattle.tree_model.specs.declared.row.Kind.{Kind}
use Rattle.tree_model.specs.declared.text.Name.{Name}
use Rattle.xml_rows.specs.Work.{with_leaf}

-- a text that was gathered behind some rows becomes one more, where it is kept
abbrev pub flushed : Bool → List ℕ → List (Line Label) → List ℕ → List (Line Label)
flushed strip text lines open_at = if is_kept_text strip text then with_leaf (text_label text) lines open_at else lines

abbrev pub valued_label : Kind → Name → List ℕ → Label
valued_label kind name value = record { kind = kind; id = 0; name = name; value = value }

-- how many rows a text makes at most
abbrev pub pending_count : List ℕ → ℕ
pending_count [] = 0
pending_count (c ∷ text) = 1
