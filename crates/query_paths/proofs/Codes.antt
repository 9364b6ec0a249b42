-- The texts of the codes of queries: none is that of a code of files, and each stands at the code's number.
use Rattle.std.proofs.Common.{◌≡◌, ◌∙◌, ℕ, ◌<◌, true, false, List, [], length, refl}
use Rattle.std.specs.Prelude.{codes, map}
use Rattle.std.proofs.lemmas.Bool.{ltb-true}
use Rattle.std.proofs.Math.ListN.{get_or-append}
use Rattle.std.proofs.lemmas.List.{get_or-map}
use Rattle.std.specs.Str.{bytes_eq}
use Rattle.tree_model.specs.CodeTexts.{text_of_code, other_texts}
use Rattle.tree_model.specs.QueryCodes.{XPST0003, XPST0008, XPST0017, XPST0081, XPDY0002, XPDY0050, XPTY0004, XPTY0018, XPTY0019, XPTY0020, XQST0022, XQST0033, XQST0040, XQST0066, XQST0070, XQST0071, XQST0085, XQST0089, XQST0090, XQTY0024, XQDY0025, XQDY0026, XQDY0041, XQDY0044, XQDY0064, XQDY0072, XQDY0074, FORG0001, FORG0006, FOAR0001, FOAR0002, FODC0002, XUST0001, XUST0002, XUTY0004, XUTY0005, XUTY0006, XUTY0007, XUTY0008, XUTY0010, XUTY0011, XUTY0012, XUTY0013, XUTY0022, XUDY0009, XUDY0014, XUDY0015, XUDY0016, XUDY0017, XUDY0021, XUDY0023, XUDY0024, XUDY0025, XUDY0027, XUDY0029, XUDY0030, XKDB0002, XKDB0004, XKDB0005, XKLM0003, XKLM0004, XKLM0005, XKLM0006, XKLM0007, XKUP0001, XKCN0001, QueryCode, query_codes, query_code_text, query_code, is_query_code}

-- where a file isn't read or isn't written
pub record IsNoFileCode (text : List ℕ) : Type 0 where
  pub not_there : bytes_eq text (codes "XKFI0001") ≡ false
  pub failed : bytes_eq text (codes "XKFI0002") ≡ false
  pub too_long : bytes_eq text (codes "XKLM0002") ≡ false

pub no_file_code : (c : QueryCode) → IsNoFileCode (query_code_text c)
no_file_code XPST0003 = record { not_there = refl; failed = refl; too_long = refl }
no_file_code XPST0008 = record { not_there = refl; failed = refl; too_long = refl }
no_file_code XPST0017 = record { not_there = refl; failed = refl; too_long = refl }
no_file_code XPST0081 = record { not_there = refl; failed = refl; too_long = refl }
no_file_code XPDY0002 = record { not_there = refl; failed = refl; too_long = refl }
no_file_code XPDY0050 = record { not_there = refl; failed = refl; too_long = refl }
no_file_code XPTY0004 = record { not_there = refl; failed = refl; too_long = refl }
no_file_code XPTY0018 = record { not_there = refl; failed = refl; too_long = refl }
no_file_code XPTY0019 = record { not_there = refl; failed = refl; too_long = refl }
no_file_code XPTY0020 = record { not_there = refl; failed = refl; too_long = refl }
no_file_code XQST0022 = record { not_there = refl; failed = refl; too_long = refl }
no_file_code XQST0033 = record { not_there = refl; failed = refl; too_long = refl }
no_file_code XQST0040 = record { not_there = refl; failed = refl; too_long = refl }
no_file_code XQST0066 = record { not_there = refl; failed = refl; too_long = refl }
no_file_code XQST0070 = record { not_there = refl; failed = refl; too_long = refl }
no_file_code XQST0071 = record { not_there = refl; failed = refl; too_long = refl }
no_file_code XQST0085 = record { not_there = refl; failed = refl; too_long = refl }
no_file_code XQST0089 = record { not_there = refl; failed = refl; too_long = refl }
no_file_code XQST0090 = record { not_there = refl; failed = refl; too_long = refl }
no_file_code XQTY0024 = record { not_there = refl; failed = refl; too_long = refl }
no_file_code XQDY0025 = record { not_there = refl; failed = refl; too_long = refl }
no_file_code XQDY0026 = record { not_there = refl; failed = refl; too_long = refl }
no_file_code XQDY0041 = record { not_there = refl; failed = refl; too_long = refl }
no_file_code XQDY0044 = record { not_there = refl; failed = refl; too_long = refl }
no_file_code XQDY0064 = record { not_there = refl; failed = refl; too_long = refl }
no_file_code XQDY0072 = record { not_there = refl; failed = refl; too_long = refl }
no_file_code XQDY0074 = record { not_there = refl; failed = refl; too_long = refl }
no_file_code FORG0001 = record { not_there = refl; failed = refl; too_long = refl }
no_file_code FORG0006 = record { not_there = refl; failed = refl; too_long = refl }
no_file_code FOAR0001 = record { not_there = refl; failed = refl; too_long = refl }
no_file_code FOAR0002 = record { not_there = refl; failed = refl; too_long = refl }
no_file_code FODC0002 = record { not_there = refl; failed = refl; too_long = refl }
no_file_code XUST0001 = record { not_there = refl; failed = refl; too_long = refl }
no_file_code XUST0002 = record { not_there = refl; failed = refl; too_long = refl }
no_file_code XUTY0004 = record { not_there = refl; failed = refl; too_long = refl }
no_file_code XUTY0005 = record { not_there = refl; failed = refl; too_long = refl }
no_file_code XUTY0006 = record { not_there = refl; failed = refl; too_long = refl }
no_file_code XUTY0007 = record { not_there = refl; failed = refl; too_long = refl }
no_file_code XUTY0008 = record { not_there = refl; failed = refl; too_long = refl }
no_file_code XUTY0010 = record { not_there = refl; failed = refl; too_long = refl }
no_file_code XUTY0011 = record { not_there = refl; failed = refl; too_long = refl }
no_file_code XUTY0012 = record { not_there = refl; failed = refl; too_long = refl }
no_file_code XUTY0013 = record { not_there = refl; failed = refl; too_long = refl }
no_file_code XUTY0022 = record { not_there = refl; failed = refl; too_long = refl }
no_file_code XUDY0009 = record { not_there = refl; failed = refl; too_long = refl }
no_file_code XUDY0014 = record { not_there = refl; failed = refl; too_long = refl }
no_file_code XUDY0015 = record { not_there = refl; failed = refl; too_long = refl }
no_file_code XUDY0016 = record { not_there = refl; failed = refl; too_long = refl }
no_file_code XUDY0017 = record { not_there = refl; failed = refl; too_long = refl }
no_file_code XUDY0021 = record { not_there = refl; failed = refl; too_long = refl }
no_file_code XUDY0023 = record { not_there = refl; failed = refl; too_long = refl }
no_file_code XUDY0024 = record { not_there = refl; failed = refl; too_long = refl }
no_file_code XUDY0025 = record { not_there = refl; failed = refl; too_long = refl }
no_file_code XUDY0027 = record { not_there = refl; failed = refl; too_long = refl }
no_file_code XUDY0029 = record { not_there = refl; failed = refl; too_long = refl }
no_file_code XUDY0030 = record { not_there = refl; failed = refl; too_long = refl }
no_file_code XKDB0002 = record { not_there = refl; failed = refl; too_long = refl }
no_file_code XKDB0004 = record { not_there = refl; failed = refl; too_long = refl }
no_file_code XKDB0005 = record { not_there = refl; failed = refl; too_long = refl }
no_file_code XKLM0003 = record { not_there = refl; failed = refl; too_long = refl }
no_file_code XKLM0004 = record { not_there = refl; failed = refl; too_long = refl }
no_file_code XKLM0005 = record { not_there = refl; failed = refl; too_long = refl }
no_file_code XKLM0006 = record { not_there = refl; failed = refl; too_long = refl }
no_file_code XKLM0007 = record { not_there = refl; failed = refl; too_long = refl }
no_file_code XKUP0001 = record { not_there = refl; failed = refl; too_long = refl }
no_file_code XKCN0001 = record { not_there = refl; failed = refl; too_long = refl }

pub text_is_of_code : (number : ℕ) → is_query_code number ≡ true → text_of_code number ≡ query_code_text (query_code number)
text_is_of_code number is =
    let within : number < length query_codes = ltb-true number (length query_codes) is in
    get_or-append (map query_code_text query_codes) other_texts [] number (ltb-true number (length (map query_code_text query_codes)) is)
    ∙ get_or-map query_code_text query_codes number XPST0003 [] within
