-- The codes with which a line and the state of the databases refuse a command.
use Rattle.std.specs.Prelude.{ℕ, List, codes}

pub data CommandCode : Type 0 where
  XKCM0001 : CommandCode
  XKCM0002 : CommandCode
  XKDB0001 : CommandCode
  XKDB0002 : CommandCode
  XKDB0003 : CommandCode
  XKDB0004 : CommandCode
  XKDB0005 : CommandCode
  XKDB0006 : CommandCode
  XKLM0001 : CommandCode

abbrev pub command_code_text : CommandCode → List ℕ
command_code_text XKCM0001 = codes "XKCM0001"
command_code_text XKCM0002 = codes "XKCM0002"
command_code_text XKDB0001 = codes "XKDB0001"
command_code_text XKDB0002 = codes "XKDB0002"
command_code_text XKDB0003 = codes "XKDB0003"
command_code_text XKDB0004 = codes "XKDB0004"
command_code_text XKDB0005 = codes "XKDB0005"
command_code_text XKDB0006 = codes "XKDB0006"
command_code_text XKLM0001 = codes "XKLM0001"
