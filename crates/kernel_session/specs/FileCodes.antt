-- The codes of files and of the documents in them.
use Rattle.std.specs.Prelude.{ℕ, List, codes}

-- no such file; a call that failed; too many bytes
pub data FileCode : Type 0 where
  XKFI0001 : FileCode
  XKFI0002 : FileCode
  XKLM0002 : FileCode

abbrev pub file_code_text : FileCode → List ℕ
file_code_text XKFI0001 = codes "XKFI0001"
file_code_text XKFI0002 = codes "XKFI0002"
file_code_text XKLM0002 = codes "XKLM0002"

-- a text that gives no document
pub data DocumentCode : Type 0 where
  XKXM0001 : DocumentCode
  XKXM0002 : DocumentCode
  XKXM0003 : DocumentCode
  XKXM0004 : DocumentCode
  XKXM0005 : DocumentCode
  XKXM0006 : DocumentCode
  TooManyBytes : DocumentCode
  XKLM0003 : DocumentCode

abbrev pub document_code_text : DocumentCode → List ℕ
document_code_text XKXM0001 = codes "XKXM0001"
document_code_text XKXM0002 = codes "XKXM0002"
document_code_text XKXM0003 = codes "XKXM0003"
document_code_text XKXM0004 = codes "XKXM0004"
document_code_text XKXM0005 = codes "XKXM0005"
document_code_text XKXM0006 = codes "XKXM0006"
document_code_text TooManyBytes = codes "XKLM0002"
document_code_text XKLM0003 = codes "XKLM0003"
