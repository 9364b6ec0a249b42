-- Nodes that are among others.
use Rattle.std.proofs.Common.{◌≡◌, inl, inr, ℕ, Bool, true, false, List, [], ◌∷◌, refl, sym, ap, ◌∙◌, subst}
use Rattle.std.specs.Prelude.{◌||◌, nat_eq}
use Rattle.std.specs.Bool.{Decides}
use Rattle.std.specs.List.{list_any}
use Rattle.std.proofs.lemmas.Bool.{or_left, or_right}
use Rattle.std.proofs.lemmas.Bool.Decides.{eqb_tells}
use Rattle.node_table.proofs.Geometry.{clash}
use Rattle.node_table.proofs.NodeRows.{same_node}
use Rattle.tree_model.specs.Forest.{Forest}
use Rattle.tree_model.specs.Labels.{Label}
use Rattle.tree_model.specs.Nodes.{Node, nodes, is_among}
use Rattle.tree_model.proofs.Standing.{IsIn}

pub decides_eq : (a b : ℕ) → Decides (nat_eq a b) (a ≡ b)
decides_eq a b = elim (eqb_tells a b) [ inl h ↦ (λ e. h.1, λ e. h.0) | inr h ↦ (λ e. clash (nat_eq a b) e h.0, λ e. absurd (h.1 e)) ]

pub any_found : (p : Node Label → Bool) (xs : List (Node Label)) → list_any p xs ≡ true → (x : Node Label) × IsIn xs x × (p x ≡ true)
any_found p [] e = absurd cc
any_found p (x ∷ xs) e = by (any_found p xs) (p x) refl
  where
    by : (list_any p xs ≡ true → (y : Node Label) × IsIn xs y × (p y ≡ true)) → (b : Bool) → p x ≡ b → (y : Node Label) × IsIn (x ∷ xs) y × (p y ≡ true)
    by more true is = (x, inl refl, is)
    by more false is = let r = more (sym (ap (λ b. b || list_any p xs) is) ∙ e) in (r.0, inr r.1, r.2)

pub any_there : (p : Node Label → Bool) (xs : List (Node Label)) (x : Node Label) → IsIn xs x → p x ≡ true → list_any p xs ≡ true
any_there p [] x h e = absurd h
any_there p (y ∷ xs) x (inl is) e = or_left (p y) (list_any p xs) (ap p is ∙ e)
any_there p (y ∷ xs) x (inr h) e = or_right (p y) (list_any p xs) (any_there p xs x h e)

-- a node is among some of the forest where it is one of them
pub among : (f : Forest Label) (xs : List (Node Label)) → ((x : Node Label) → IsIn xs x → IsIn (nodes f) x) → (b : Node Label) → IsIn (nodes f) b → Decides (is_among xs b) (IsIn xs b)
among f xs within b h = (
  λ e.
      let r = any_found (λ other. nat_eq other.place b.place) xs e in
      let same : r.0 ≡ b = same_node f r.0 b (within r.0 r.1) h ((decides_eq (r.0).place b.place).0 r.2) in
      subst (IsIn xs) same r.1,
  λ k. any_there (λ other. nat_eq other.place b.place) xs b k ((decides_eq b.place b.place).1 refl),
)
