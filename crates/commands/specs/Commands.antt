-- The commands that lines hold.
use Rattle.std.specs.Prelude.{ℕ, ◌+◌, ◌*◌, ◌-◌, Bool, ◌==◌, ◌||◌, ◌&&◌, not, nat_le, map, if◌then◌else◌, List, [], ◌∷◌, length, take, drop, codes, slice_index, Option, Some, None}
use Rattle.std.specs.List.{prefix_len, suffix_len, list_any, list_all}
use Rattle.std.specs.Str.{bytes_eq, is_utf8}
use Rattle.std.specs.Char.{to_ascii_lowercase, is_ascii_digit}
use Rattle.tree_model.specs.Sound.{is_empty, is_path}
use Rattle.tree_model.specs.States.{default_path}

-- ---- blanks and words

-- a space or a tab
abbrev pub is_blank : ℕ → Bool
is_blank c = c == 32 || c == 9

abbrev pub is_no_blank : ℕ → Bool
is_no_blank c = not (is_blank c)

abbrev pub before_blanks : List ℕ → List ℕ
before_blanks line = take (length line - suffix_len is_blank line) line

abbrev pub behind_blanks : List ℕ → List ℕ
behind_blanks line = drop (prefix_len is_blank line) line

-- without the blanks at both ends
abbrev pub trimmed : List ℕ → List ℕ
trimmed line = before_blanks (behind_blanks line)

-- without one carriage return at the end
abbrev pub without_return : List ℕ → List ℕ
without_return line = if slice_index line (length line - 1) == 13 then take (length line - 1) line else line

-- the front up to the first blank, and what follows the blanks behind it
abbrev pub first_word : List ℕ → List ℕ
first_word line = take (prefix_len is_no_blank line) line

abbrev pub behind_word : List ℕ → List ℕ
behind_word line = behind_blanks (drop (prefix_len is_no_blank line) line)

-- words are read without regard to ASCII letter case
abbrev pub is_word : List ℕ → List ℕ → Bool
is_word word bytes = bytes_eq (map to_ascii_lowercase bytes) word

abbrev pub is_among : List (List ℕ) → List ℕ → Bool
is_among words bytes = list_any (λ word. is_word word bytes) words

-- ---- forms that aren't built yet

-- the words with which they begin
abbrev pub later_words : List (List ℕ)
later_words =
    codes "check" ∷ codes "open" ∷ codes "close" ∷ codes "add" ∷ codes "delete" ∷ codes "replace" ∷ codes "rename" ∷
    codes "explain" ∷ codes "optimize" ∷ []

abbrev pub words_behind_drop : List (List ℕ)
words_behind_drop = codes "db" ∷ codes "index" ∷ []

abbrev pub words_behind_info : List (List ℕ)
words_behind_info = codes "db" ∷ codes "index" ∷ []

-- such a form is known by its fixed words, whatever follows them
abbrev pub is_later_form : List ℕ → List ℕ → Bool
is_later_form first second =
    is_among later_words first
    || (is_word (codes "create") first && is_word (codes "index") second)
    || (is_word (codes "drop") first && is_among words_behind_drop second)
    || (is_word (codes "info") first && is_among words_behind_info second)

-- ---- names, paths and numbers

-- a word of at most 4096 bytes, in UTF-8
abbrev pub is_file_name : List ℕ → Bool
is_file_name word = not (is_empty word) && nat_le (length word) 4096 && list_all is_no_blank word && is_utf8 word

-- the part of a file's name after the last /
abbrev pub last_part : List ℕ → List ℕ
last_part name = drop (length name - suffix_len (λ c. not (c == 47)) name) name

-- a file whose default path, the part of its name after the last /, is a PATH
abbrev pub is_document_file : List ℕ → Bool
is_document_file name = is_file_name name && is_path (last_part name)

-- 1 to 9 decimal digits
abbrev pub is_number : List ℕ → Bool
is_number word = nat_le 1 (length word) && nat_le (length word) 9 && list_all is_ascii_digit word

-- the number of decimal digits, of which the first ones are given as a number
abbrev pub number_from : ℕ → List ℕ → ℕ
number_from n [] = n
number_from n (c ∷ word) = number_from (n * 10 + (c - 48)) word

-- ---- inputs

-- what a command reads a document from: XML text, or the file of a name
pub data Input : Type 0 where
  text : (xml : List ℕ) → Input
  file : (name : List ℕ) → Input

-- XML text begins with <
abbrev pub begins_xml : List ℕ → Bool
begins_xml rest = slice_index rest 0 == 60

-- the rest of a line as an input: XML text, else the name of a file
abbrev pub input : List ℕ → Option Input
input rest =
    if begins_xml rest then Some (text rest)
    else if is_file_name rest then Some (file rest)
    else None

-- the same where the document gets its default path, which is a PATH
abbrev pub document_input : List ℕ → Option Input
document_input rest =
    if begins_xml rest then Some (text rest)
    else if is_document_file rest then Some (file rest)
    else None

-- the default path of the document, in a database of this name
abbrev pub path_of_input : List ℕ → Input → List ℕ
path_of_input name (text xml) = default_path name
path_of_input name (file f) = last_part f

-- ---- forms

-- a command as it is read
pub data Form : Type 0 where
  table : (input : Input) → Form
  create : (name : List ℕ) → (input : Option Input) → Form
  storage : (range : Option (ℕ × ℕ)) → Form
  list : Form
  query : (words : List ℕ) → Form
  export : (path : List ℕ) → (name : List ℕ) → Form
  exit : Form
  not_built : Form
  no_form : Form

-- the form that an input makes, where there is one
abbrev pub form_with : (Input → Form) → Option Input → Form
form_with form None = no_form
form_with form (Some given) = form given

-- TABLE and an input
abbrev pub table_form : List ℕ → Form
table_form rest = form_with table (input rest)

-- CREATE DB and this name, with nothing behind it, or an input whose document gets its default path
abbrev pub named_form : List ℕ → List ℕ → Form
named_form name [] = create name None
named_form name (c ∷ rest) = form_with (λ given. create name (Some given)) (document_input (c ∷ rest))

-- what stands behind CREATE DB: a name, and perhaps an input
abbrev pub create_form : List ℕ → Form
create_form [] = no_form
create_form (c ∷ words) = named_form (first_word (c ∷ words)) (behind_word (c ∷ words))

-- what stands behind INFO STORAGE: nothing, or two numbers
abbrev pub storage_form : List ℕ → Form
storage_form [] = storage None
storage_form (c ∷ words) = range_form (first_word (c ∷ words)) (behind_word (c ∷ words))
  where
    range_form : List ℕ → List ℕ → Form
    range_form from to = if is_number from && is_number to then storage (Some (number_from 0 from, number_from 0 to)) else no_form

-- LIST and a name isn't built yet
abbrev pub list_form : List ℕ → Form
list_form [] = list
list_form (c ∷ words) = not_built

-- XQUERY and what stands behind it
abbrev pub query_form : List ℕ → Form
query_form [] = no_form
query_form (c ∷ words) = query (c ∷ words)

-- EXPORT, the path of a document and the name of a file
abbrev pub export_form : List ℕ → Form
export_form words = written_form (first_word words) (behind_word words)
  where
    written_form : List ℕ → List ℕ → Form
    written_form path name = if is_path path && is_file_name name then export path name else no_form

abbrev pub exit_form : List ℕ → Form
exit_form [] = exit
exit_form (c ∷ words) = no_form

-- a form of two fixed words, with what stands behind them
abbrev pub two_word_form : List ℕ → List ℕ → List ℕ → Form
two_word_form first second words =
    if is_word (codes "create") first && is_word (codes "db") second then create_form words
    else if is_word (codes "info") first && is_word (codes "storage") second then storage_form words
    else if is_later_form first second then not_built
    else no_form

-- a form by its first word, with what stands behind it
abbrev pub form_by : List ℕ → List ℕ → Form
form_by first words =
    if is_word (codes "table") first then table_form words
    else if is_word (codes "list") first then list_form words
    else if is_word (codes "exit") first then exit_form words
    else if is_word (codes "xquery") first then query_form words
    else if is_word (codes "export") first then export_form words
    else two_word_form first (first_word words) (behind_word words)

-- the form of a line without blanks at its ends
abbrev pub form_of : List ℕ → Form
form_of line = form_by (first_word line) (behind_word line)
