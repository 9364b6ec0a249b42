-- Bytes that stand as others, read a byte at a time.
use Rattle.std.proofs.Common.{◌≡◌, ℕ, suc, ◌+◌, ◌<◌, List, [], ◌∷◌, ◌++◌, length, get_or, take, drop, drop-cons, add-one, append_assoc, ap, sym, ◌∙◌}
use Rattle.std.proofs.Math.Seq.{take-suc}
use Rattle.std.specs.List.{flat_map}

-- a front that stands as it is, and one byte more
pub escaped_more : (escape : ℕ → List ℕ) (bytes : List ℕ) (i : ℕ) → i < length bytes → escape (get_or bytes i 0) ≡ get_or bytes i 0 ∷ [] → flat_map escape bytes ≡ take i bytes ++ flat_map escape (drop i bytes)
    → flat_map escape bytes ≡ take (i + 1) bytes ++ flat_map escape (drop (i + 1) bytes)
escaped_more escape bytes i lt plain so_far =
    let b : ℕ = get_or bytes i 0 in
    let behind : flat_map escape (drop i bytes) ≡ b ∷ flat_map escape (drop (suc i) bytes) =
    ap (flat_map escape) (drop-cons bytes i 0 lt) ∙ ap (λ e. e ++ flat_map escape (drop (suc i) bytes)) plain in
    let front : take (suc i) bytes ++ flat_map escape (drop (suc i) bytes) ≡ take i bytes ++ (b ∷ flat_map escape (drop (suc i) bytes)) =
    ap (λ l. l ++ flat_map escape (drop (suc i) bytes)) (take-suc bytes i 0 lt) ∙ append_assoc (take i bytes) (b ∷ []) (flat_map escape (drop (suc i) bytes)) in
    rw add-one (so_far ∙ ap (λ l. take i bytes ++ l) behind ∙ sym front)
