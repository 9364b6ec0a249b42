-- The codes with which a query is refused: those of XQuery 1.0 and of its functions, those of the XQuery Update Facility 1.0, and this kernel's own.
use Rattle.std.specs.Prelude.{ℕ, Bool, nat_lt, List, [], ◌∷◌, length, codes}
use Rattle.std.specs.List.{slice_index_or}

pub data QueryCode : Type 0 where
  XPST0003 : QueryCode
  XPST0008 : QueryCode
  XPST0017 : QueryCode
  XPST0081 : QueryCode
  XPDY0002 : QueryCode
  XPDY0050 : QueryCode
  XPTY0004 : QueryCode
  XPTY0018 : QueryCode
  XPTY0019 : QueryCode
  XPTY0020 : QueryCode
  XQST0022 : QueryCode
  XQST0033 : QueryCode
  XQST0040 : QueryCode
  XQST0066 : QueryCode
  XQST0070 : QueryCode
  XQST0071 : QueryCode
  XQST0085 : QueryCode
  XQST0089 : QueryCode
  XQST0090 : QueryCode
  XQTY0024 : QueryCode
  XQDY0025 : QueryCode
  XQDY0026 : QueryCode
  XQDY0041 : QueryCode
  XQDY0044 : QueryCode
  XQDY0064 : QueryCode
  XQDY0072 : QueryCode
  XQDY0074 : QueryCode
  FORG0001 : QueryCode
  FORG0006 : QueryCode
  FOAR0001 : QueryCode
  FOAR0002 : QueryCode
  FODC0002 : QueryCode
  XUST0001 : QueryCode
  XUST0002 : QueryCode
  XUTY0004 : QueryCode
  XUTY0005 : QueryCode
  XUTY0006 : QueryCode
  XUTY0007 : QueryCode
  XUTY0008 : QueryCode
  XUTY0010 : QueryCode
  XUTY0011 : QueryCode
  XUTY0012 : QueryCode
  XUTY0013 : QueryCode
  XUTY0022 : QueryCode
  XUDY0009 : QueryCode
  XUDY0014 : QueryCode
  XUDY0015 : QueryCode
  XUDY0016 : QueryCode
  XUDY0017 : QueryCode
  XUDY0021 : QueryCode
  XUDY0023 : QueryCode
  XUDY0024 : QueryCode
  XUDY0025 : QueryCode
  XUDY0027 : QueryCode
  XUDY0029 : QueryCode
  XUDY0030 : QueryCode
  XKDB0002 : QueryCode
  XKDB0004 : QueryCode
  XKDB0005 : QueryCode
  XKLM0003 : QueryCode
  XKLM0004 : QueryCode
  XKLM0005 : QueryCode
  XKLM0006 : QueryCode
  XKLM0007 : QueryCode
  XKUP0001 : QueryCode
  XKCN0001 : QueryCode

abbrev pub query_code_text : QueryCode → List ℕ
query_code_text XPST0003 = codes "XPST0003"
query_code_text XPST0008 = codes "XPST0008"
query_code_text XPST0017 = codes "XPST0017"
query_code_text XPST0081 = codes "XPST0081"
query_code_text XPDY0002 = codes "XPDY0002"
query_code_text XPDY0050 = codes "XPDY0050"
query_code_text XPTY0004 = codes "XPTY0004"
query_code_text XPTY0018 = codes "XPTY0018"
query_code_text XPTY0019 = codes "XPTY0019"
query_code_text XPTY0020 = codes "XPTY0020"
query_code_text XQST0022 = codes "XQST0022"
query_code_text XQST0033 = codes "XQST0033"
query_code_text XQST0040 = codes "XQST0040"
query_code_text XQST0066 = codes "XQST0066"
query_code_text XQST0070 = codes "XQST0070"
query_code_text XQST0071 = codes "XQST0071"
query_code_text XQST0085 = codes "XQST0085"
query_code_text XQST0089 = codes "XQST0089"
query_code_text XQST0090 = codes "XQST0090"
query_code_text XQTY0024 = codes "XQTY0024"
query_code_text XQDY0025 = codes "XQDY0025"
query_code_text XQDY0026 = codes "XQDY0026"
query_code_text XQDY0041 = codes "XQDY0041"
query_code_text XQDY0044 = codes "XQDY0044"
query_code_text XQDY0064 = codes "XQDY0064"
query_code_text XQDY0072 = codes "XQDY0072"
query_code_text XQDY0074 = codes "XQDY0074"
query_code_text FORG0001 = codes "FORG0001"
query_code_text FORG0006 = codes "FORG0006"
query_code_text FOAR0001 = codes "FOAR0001"
query_code_text FOAR0002 = codes "FOAR0002"
query_code_text FODC0002 = codes "FODC0002"
query_code_text XUST0001 = codes "XUST0001"
query_code_text XUST0002 = codes "XUST0002"
query_code_text XUTY0004 = codes "XUTY0004"
query_code_text XUTY0005 = codes "XUTY0005"
query_code_text XUTY0006 = codes "XUTY0006"
query_code_text XUTY0007 = codes "XUTY0007"
query_code_text XUTY0008 = codes "XUTY0008"
query_code_text XUTY0010 = codes "XUTY0010"
query_code_text XUTY0011 = codes "XUTY0011"
query_code_text XUTY0012 = codes "XUTY0012"
query_code_text XUTY0013 = codes "XUTY0013"
query_code_text XUTY0022 = codes "XUTY0022"
query_code_text XUDY0009 = codes "XUDY0009"
query_code_text XUDY0014 = codes "XUDY0014"
query_code_text XUDY0015 = codes "XUDY0015"
query_code_text XUDY0016 = codes "XUDY0016"
query_code_text XUDY0017 = codes "XUDY0017"
query_code_text XUDY0021 = codes "XUDY0021"
query_code_text XUDY0023 = codes "XUDY0023"
query_code_text XUDY0024 = codes "XUDY0024"
query_code_text XUDY0025 = codes "XUDY0025"
query_code_text XUDY0027 = codes "XUDY0027"
query_code_text XUDY0029 = codes "XUDY0029"
query_code_text XUDY0030 = codes "XUDY0030"
query_code_text XKDB0002 = codes "XKDB0002"
query_code_text XKDB0004 = codes "XKDB0004"
query_code_text XKDB0005 = codes "XKDB0005"
query_code_text XKLM0003 = codes "XKLM0003"
query_code_text XKLM0004 = codes "XKLM0004"
query_code_text XKLM0005 = codes "XKLM0005"
query_code_text XKLM0006 = codes "XKLM0006"
query_code_text XKLM0007 = codes "XKLM0007"
query_code_text XKUP0001 = codes "XKUP0001"
query_code_text XKCN0001 = codes "XKCN0001"

-- in the order of their numbers, which are the first of all codes
abbrev pub query_codes : List QueryCode
query_codes =
    XPST0003 ∷ XPST0008 ∷ XPST0017 ∷ XPST0081 ∷ XPDY0002 ∷ XPDY0050 ∷ XPTY0004 ∷ XPTY0018 ∷ XPTY0019 ∷ XPTY0020 ∷ XQST0022 ∷
    XQST0033 ∷ XQST0040 ∷ XQST0066 ∷ XQST0070 ∷ XQST0071 ∷ XQST0085 ∷ XQST0089 ∷ XQST0090 ∷ XQTY0024 ∷ XQDY0025 ∷ XQDY0026 ∷
    XQDY0041 ∷ XQDY0044 ∷ XQDY0064 ∷ XQDY0072 ∷ XQDY0074 ∷ FORG0001 ∷ FORG0006 ∷ FOAR0001 ∷ FOAR0002 ∷ FODC0002 ∷ XUST0001 ∷
    XUST0002 ∷ XUTY0004 ∷ XUTY0005 ∷ XUTY0006 ∷ XUTY0007 ∷ XUTY0008 ∷ XUTY0010 ∷ XUTY0011 ∷ XUTY0012 ∷ XUTY0013 ∷ XUTY0022 ∷
    XUDY0009 ∷ XUDY0014 ∷ XUDY0015 ∷ XUDY0016 ∷ XUDY0017 ∷ XUDY0021 ∷ XUDY0023 ∷ XUDY0024 ∷ XUDY0025 ∷ XUDY0027 ∷ XUDY0029 ∷
    XUDY0030 ∷ XKDB0002 ∷ XKDB0004 ∷ XKDB0005 ∷ XKLM0003 ∷ XKLM0004 ∷ XKLM0005 ∷ XKLM0006 ∷ XKLM0007 ∷ XKUP0001 ∷ XKCN0001 ∷
    []

abbrev pub is_query_code : ℕ → Bool
is_query_code number = nat_lt number (length query_codes)

-- the code of such a number
abbrev pub query_code : ℕ → QueryCode
query_code number = slice_index_or query_codes number XPST0003
