-- A run of the reader over the bytes: whether the pieces stand in order, and what they make.
use Rattle.std.specs.Prelude.{◌≡◌, ℕ, Bool, List, [], ◌∷◌, Option, Some, None}
use Rattle.std.specs.Option.{option_map}
use Rattle.xml_pieces.specs.Tokens.{Token}
use Rattle.xml_pieces.specs.Item.{item}
use Rattle.xml_order.specs.Shape.{Shape, in_order, begin, where_at}
use Rattle.xml_rows.specs.Work.{Work, works, begin_work}

pub record Machine : Type 0 where
  pub control : Shape
  pub made : Work

abbrev pub machine : Work → Shape → Machine
machine w s = record { control = s; made = w }

abbrev pub step : Bool → Machine → Token → Option Machine
step strip m t = option_map (machine (works strip m.made t)) (in_order m.control t)

-- before the byte at a place
abbrev pub start : ℕ → Machine
start at = machine (begin_work at) begin

-- from m in these pieces to f, where the bytes that are left begin with no piece
abbrev pub Runs : Bool → List Token → Machine → List ℕ → Machine → List ℕ → Type 0
Runs strip [] m bytes f rest = (bytes ≡ rest) × (m ≡ f) × (item (where_at m.control.mode) bytes ≡ None)
Runs strip (t ∷ ts) m bytes f rest =
    (after : List ℕ) × (n : Machine) × (item (where_at m.control.mode) bytes ≡ Some (t, after)) × (step strip m t ≡ Some n) × Runs strip ts n after f rest

abbrev pub Leads : Bool → Machine → List ℕ → Machine → List ℕ → Type 0
Leads strip m bytes f rest = (ts : List Token) × Runs strip ts m bytes f rest

-- both come to the same ends
pub record IsAsGood (strip : Bool) (old : Machine) (all : List ℕ) (m : Machine) (bytes : List ℕ) : Type 0 where
  pub sound : (f : Machine) (rest : List ℕ) → Leads strip m bytes f rest → Leads strip old all f rest
  pub complete : (f : Machine) (rest : List ℕ) → Leads strip old all f rest → Leads strip m bytes f rest
