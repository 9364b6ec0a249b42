-- What was read of a line, as its form.
use Rattle.std.proofs.Common.{◌≡◌, ℕ, Bool, true, false, ◌&&◌, List, Option, Some, None, refl, sym, ap, ◌∙◌}
use Rattle.std.specs.Prelude.{if◌then◌else◌}
use Rattle.std.specs.Option.{option_map}
use Rattle.tree_model.specs.Sound.{is_path}
use Rattle.commands.specs.Commands.{file, Form, export, no_form, first_word, behind_word, begins_xml, is_file_name, is_document_file, document_input, export_form}

pub document_reads : (rest : List ℕ) (name : Option (List ℕ)) → begins_xml rest ≡ false → name ≡ (if is_document_file rest then Some rest else None) → option_map file name ≡ document_input rest
document_reads rest name other e = ap (option_map file) e ∙ rw other (by (is_document_file rest))
  where
    by : (is : Bool) → option_map file (if is then Some rest else None) ≡ (if is then Some (file rest) else None)
    by true = refl
    by false = refl

-- EXPORT, where there is a path and a name
abbrev export_if : Option (List ℕ) → Option (List ℕ) → Form
export_if None name = no_form
export_if (Some path) None = no_form
export_if (Some path) (Some name) = export path name

abbrev path_if : List ℕ → Option (List ℕ)
path_if words = if is_path (first_word words) then Some (first_word words) else None

abbrev file_if : List ℕ → Option (List ℕ)
file_if words = if is_file_name (behind_word words) then Some (behind_word words) else None

exports : (words : List ℕ) → export_if (path_if words) (file_if words) ≡ export_form words
exports words = by (is_path (first_word words)) (is_file_name (behind_word words))
  where
    by : (is good : Bool) → export_if (if is then Some (first_word words) else None) (if good then Some (behind_word words) else None) ≡ (if is && good then export (first_word words) (behind_word words) else no_form)
    by true true = refl
    by true false = refl
    by false good = refl

pub no_path : (words : List ℕ) (path : Option (List ℕ)) → path ≡ path_if words → path ≡ None → no_form ≡ export_form words
no_path words path e none = ap (λ p. export_if p (file_if words)) (sym none ∙ e) ∙ exports words

pub export_reads : (words : List ℕ) (path name : Option (List ℕ)) → path ≡ path_if words → name ≡ file_if words → export_if path name ≡ export_form words
export_reads words path name e f = rw (e, f) (exports words)
