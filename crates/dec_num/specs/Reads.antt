-- What is answered where a text is read as a number.
use Rattle.std.specs.Prelude.{◌≡◌, ℤ, Result, Ok, Err}
use Rattle.tree_model.specs.Numbers.{Numeral, number, no_number, too_great}
use Rattle.dec_num.specs.declared.fault.NumFault.{NumFault}
use Rattle.dec_num.specs.declared.fault.NumFault.TheVariants.{BadText, Range}

-- the number, or why there is none
abbrev pub IsRead : Numeral → Result ℤ NumFault → Type 0
IsRead (number z) result = result ≡ Ok z
IsRead no_number result = result ≡ Err BadText
IsRead too_great result = result ≡ Err Range
