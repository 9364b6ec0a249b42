-- The text of rows: a line `pre dist size asize id kind content` for each node.
use Rattle.std.specs.Prelude.{ℕ, suc, ◌-◌, ◌==◌, List, [], ◌∷◌, ◌++◌, map, take, drop, codes, Option, Some, None, if◌then◌else◌}
use Rattle.std.specs.Fmt.{decimal}
use Rattle.std.specs.List.{flat_map, join_with_byte}
use Rattle.tree_model.specs.Declarations.{Binding, declarations_of, declared_name}
use Rattle.tree_model.specs.Forest.{Forest, Line, flatten, count, top_count}
use Rattle.tree_model.specs.Labels.{Label}
use Rattle.tree_model.specs.States.{Base}
use Rattle.tree_model.specs.declared.row.Kind.{Kind}
use Rattle.tree_model.specs.declared.row.Kind.TheVariants.{Doc, Elem, Text, Attr, Comm, Pi}
use Rattle.tree_model.specs.declared.text.Name.{Name}

abbrev pub kind_word : Kind → List ℕ
kind_word Doc = codes "doc"
kind_word Elem = codes "elem"
kind_word Text = codes "text"
kind_word Attr = codes "attr"
kind_word Comm = codes "comm"
kind_word Pi = codes "pi"

-- backslash, LF, CR and TAB as \\, \n, \r and \t
abbrev pub escape : ℕ → List ℕ
escape c = if c == 92 then 92 ∷ 92 ∷ [] else if c == 10 then 92 ∷ 110 ∷ [] else if c == 13 then 92 ∷ 114 ∷ [] else if c == 9 then 92 ∷ 116 ∷ [] else c ∷ []

abbrev pub escaped : List ℕ → List ℕ
escaped bytes = flat_map escape bytes

-- the bytes between two others, or nothing where there are none
unfoldable pub between : List ℕ → List ℕ → List ℕ → List ℕ
between opening [] closing = []
between opening (c ∷ bytes) closing = opening ++ (escaped (c ∷ bytes) ++ closing)

-- {uri}prefix:local, each part only where it isn't empty
unfoldable pub name_text : Name → List ℕ
name_text name = between (codes "{") name.uri (codes "}") ++ (between [] name.prefix (codes ":") ++ escaped name.local)

-- a declaration behind a space
abbrev pub binding_text : Binding → List ℕ
binding_text d = 32 ∷ (declared_name d.0 ++ (codes "=\"" ++ (escaped d.1 ++ codes "\"")))

abbrev pub content_of : Kind → Name → List ℕ → List ℕ
content_of Doc name value = escaped value
content_of Elem name value = name_text name ++ flat_map binding_text (declarations_of value)
content_of Text name value = escaped value
content_of Attr name value = name_text name ++ (codes "=\"" ++ (escaped value ++ codes "\""))
content_of Comm name value = escaped value
content_of Pi name value = name_text name ++ between (codes " ") value []

unfoldable pub field_text : ℕ → List ℕ
field_text n = decimal n ++ 32 ∷ []

unfoldable pub head_text : ℕ → Line Label → List ℕ
head_text pre line = field_text pre ++ field_text line.dist ++ field_text line.size ++ field_text line.asize ++ field_text line.label.id ++ kind_word line.label.kind ++ codes " "

abbrev pub row_text : ℕ → Line Label → List ℕ
row_text pre line = head_text pre line ++ content_of line.label.kind line.label.name line.label.value

-- the texts of rows, the first of which stands at pre
abbrev pub row_texts : ℕ → List (Line Label) → List (List ℕ)
row_texts pre [] = []
row_texts pre (line ∷ lines) = row_text pre line ∷ row_texts (suc pre) lines

-- all rows of the documents, the texts joined by LF
abbrev pub rows_text : Forest Label → List ℕ
rows_text f = join_with_byte 10 (row_texts 0 (flatten f))

-- the rows from one pre up to and without another
abbrev pub range_text : ℕ → ℕ → Forest Label → List ℕ
range_text from to f = join_with_byte 10 (row_texts from (take (to - from) (drop from (flatten f))))

-- all rows, or those of a range
abbrev pub storage_text : Option (ℕ × ℕ) → Forest Label → List ℕ
storage_text None f = rows_text f
storage_text (Some range) f = range_text range.0 range.1 f

-- the line `name documents rows` of a database
abbrev pub base_text : Base → List ℕ
base_text base = base.name ++ (32 ∷ (decimal (top_count base.documents) ++ (32 ∷ decimal (count base.documents))))

-- a line for each database, joined by LF
abbrev pub list_text : List Base → List ℕ
list_text bases = join_with_byte 10 (map base_text bases)
