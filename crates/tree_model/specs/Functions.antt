-- The functions that a query may call (XQuery 1.0 and XPath 2.0 Functions and Operators): their names, and how many arguments each takes.
use Rattle.std.specs.Prelude.{ℕ, Bool, true, false, ◌&&◌, nat_le, List, [], ◌∷◌, codes, Option, Some, None}
use Rattle.std.specs.List.{find}
use Rattle.std.specs.Str.{bytes_eq}
use Rattle.tree_model.specs.declared.function.Function.{Function}
use Rattle.tree_model.specs.declared.function.Function.TheVariants.{Doc, Collection, Root, Name, LocalName, NamespaceUri, String, Data, Number, Boolean, Not, True, False, Position, Last, Count, Empty, Exists, Sum, Avg, Min, Max, DistinctValues, Reverse, Subsequence, Concat, StringJoin, Contains, StartsWith, EndsWith, Substring, StringLength, NormalizeSpace, Round}

-- a local name, the least number of arguments, and the most, where there is one
pub record Signature : Type 0 where
  pub name : List ℕ
  pub least : ℕ
  pub most : Option ℕ

abbrev pub takes_from : List ℕ → ℕ → ℕ → Signature
takes_from name least most = record { name = name; least = least; most = Some most }

abbrev pub takes_at_least : List ℕ → ℕ → Signature
takes_at_least name least = record { name = name; least = least; most = None }

unfoldable pub signature : Function → Signature
signature Doc = takes_from (codes "doc") 1 1
signature Collection = takes_from (codes "collection") 0 1
signature Root = takes_from (codes "root") 0 1
signature Name = takes_from (codes "name") 0 1
signature LocalName = takes_from (codes "local-name") 0 1
signature NamespaceUri = takes_from (codes "namespace-uri") 0 1
signature String = takes_from (codes "string") 0 1
signature Data = takes_from (codes "data") 1 1
signature Number = takes_from (codes "number") 0 1
signature Boolean = takes_from (codes "boolean") 1 1
signature Not = takes_from (codes "not") 1 1
signature True = takes_from (codes "true") 0 0
signature False = takes_from (codes "false") 0 0
signature Position = takes_from (codes "position") 0 0
signature Last = takes_from (codes "last") 0 0
signature Count = takes_from (codes "count") 1 1
signature Empty = takes_from (codes "empty") 1 1
signature Exists = takes_from (codes "exists") 1 1
signature Sum = takes_from (codes "sum") 1 1
signature Avg = takes_from (codes "avg") 1 1
signature Min = takes_from (codes "min") 1 1
signature Max = takes_from (codes "max") 1 1
signature DistinctValues = takes_from (codes "distinct-values") 1 1
signature Reverse = takes_from (codes "reverse") 1 1
signature Subsequence = takes_from (codes "subsequence") 2 3
signature Concat = takes_at_least (codes "concat") 2
signature StringJoin = takes_from (codes "string-join") 2 2
signature Contains = takes_from (codes "contains") 2 2
signature StartsWith = takes_from (codes "starts-with") 2 2
signature EndsWith = takes_from (codes "ends-with") 2 2
signature Substring = takes_from (codes "substring") 2 3
signature StringLength = takes_from (codes "string-length") 0 1
signature NormalizeSpace = takes_from (codes "normalize-space") 0 1
signature Round = takes_from (codes "round") 1 1

abbrev pub functions : List Function
functions =
    Doc ∷ Collection ∷ Root ∷ Name ∷ LocalName ∷ NamespaceUri ∷ String ∷ Data ∷ Number ∷ Boolean ∷ Not ∷
    True ∷ False ∷ Position ∷ Last ∷ Count ∷ Empty ∷ Exists ∷ Sum ∷ Avg ∷ Min ∷ Max ∷ DistinctValues ∷
    Reverse ∷ Subsequence ∷ Concat ∷ StringJoin ∷ Contains ∷ StartsWith ∷ EndsWith ∷ Substring ∷ StringLength ∷
    NormalizeSpace ∷ Round ∷ []

unfoldable pub is_named : List ℕ → Function → Bool
is_named name f = bytes_eq (signature f).name name

-- the function of a local name
unfoldable pub function_named : List ℕ → Option Function
function_named name = find (is_named name) functions

abbrev pub is_at_most : ℕ → Option ℕ → Bool
is_at_most count None = true
is_at_most count (Some most) = nat_le count most

-- whether the function takes so many arguments
unfoldable pub takes : Function → ℕ → Bool
takes f count = nat_le (signature f).least count && is_at_most count (signature f).most
