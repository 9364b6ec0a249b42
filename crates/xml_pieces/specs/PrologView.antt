-- What the code reads of the XML declaration and the DOCTYPE, without where it lies in memory.
use Rattle.std.specs.Prelude.{ℕ, Bool, List, codes}
use Rattle.std.specs.Borrow.{Bor}
use Rattle.std.specs.Option.{option_map}
use Rattle.tree_model.specs.XmlSource as source
use Rattle.tree_model.specs.XmlGood.{is_version, is_encoding, is_yes_or_no, is_pubid_char, is_any}
use Rattle.xml_pieces.specs.declared.prolog_readers.SettingKind.{SettingKind}
use Rattle.xml_pieces.specs.declared.prolog_readers.SettingKind.TheVariants.{Version, Encoding, Standalone}
use Rattle.xml_pieces.specs.declared.prolog_readers.LiteralKind.{LiteralKind}
use Rattle.xml_pieces.specs.declared.prolog_readers.LiteralKind.TheVariants.{Pubid, System}
use Rattle.xml_pieces.specs.declared.prolog_readers.Setting.{Setting}
use Rattle.xml_pieces.specs.declared.prolog_readers.Settings.{Settings}

-- the word of a setting
abbrev pub word_of_kind : SettingKind → List ℕ
word_of_kind Version = codes "version"
word_of_kind Encoding = codes "encoding"
word_of_kind Standalone = codes "standalone"

-- what its value must pass
abbrev pub test_of_kind : SettingKind → List ℕ → Bool
test_of_kind Version = is_version
test_of_kind Encoding = is_encoding
test_of_kind Standalone = is_yes_or_no

abbrev pub setting_view : Setting → source.Setting
setting_view s = record { gap = s.gap.now; before = s.before.now; behind = s.behind.now; delim = s.delim; value = s.value.now }

abbrev pub setting_read : Setting × Bor (List ℕ) → source.Setting × List ℕ
setting_read x = (setting_view x.0, x.1.now)

abbrev pub decl_view : Settings → source.Decl
decl_view d = record { version = setting_view d.version; encoding = option_map setting_view d.encoding; standalone = option_map setting_view d.standalone; gap = d.gap.now }

abbrev pub settings_read : Settings × Bor (List ℕ) → source.Decl × List ℕ
settings_read x = (decl_view x.0, x.1.now)

-- what each character of a literal must pass
abbrev pub literal_test : LiteralKind → ℕ → Bool
literal_test Pubid = is_pubid_char
literal_test System = is_any
