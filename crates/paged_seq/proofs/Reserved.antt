-- A sequence after more frames were made and its directory was moved.
use Rattle.std.proofs.Common.{◌≡◌, ℕ, ◌-◌, List, take, sym, ap, ap₂, ◌∙◌, subst, arith}
use Rattle.frame_pool.specs.Frames.{Held, items_at, count_at, times, spare_of, with_spare, SparesAreEmpty}
use Rattle.frame_pool.proofs.Counts.{held_with_spare, empty_spare}
use Rattle.paged_seq.specs.Sizes.{amount}
use Rattle.paged_seq.specs.Sequences.{Paged, IsPaged, IsChanged, items_of, sizes_of, paged_items, gathered, spliced}
use Rattle.paged_seq.specs.Directories.{IsDirectory, IsPart, IsChange}
use Rattle.paged_seq.specs.declared.part.Part.{Part}
use Rattle.paged_seq.proofs.Splicing.{directory_as, spared}

same_sizes_late : {A : Type 0} (old late : List (Held A)) (n : ℕ) (s : Paged) (frames : List ℕ) → IsPaged A old s → late ≡ with_spare n old → frames ≡ s.frames → sizes_of late frames ≡ sizes_of old s.frames
same_sizes_late old late n s frames paged e f = ap₂ sizes_of e f ∙ (spared old n s paged).sizes

same_items_late : {A : Type 0} (old late : List (Held A)) (n : ℕ) (s : Paged) (frames : List ℕ) → IsPaged A old s → late ≡ with_spare n old → frames ≡ s.frames → items_of late frames ≡ items_of old s.frames
same_items_late old late n s frames paged e f = ap₂ items_of e f ∙ (spared old n s paged).items

pub late_paged : {A : Type 0} (old late : List (Held A)) (n : ℕ) (s : Paged) (frames firsts : List ℕ) → IsPaged A old s → late ≡ with_spare n old → frames ≡ s.frames → firsts ≡ s.firsts
    → IsPaged A late (record { frames = frames; firsts = firsts; total = s.total })
late_paged {A} old late n s frames firsts paged e f h =
    subst (λ pool. IsPaged A pool (record { frames = frames; firsts = firsts; total = s.total })) (sym e)
    (subst (λ l. IsPaged A (with_spare n old) (record { frames = l; firsts = firsts; total = s.total })) (sym f)
    (subst (λ l. IsPaged A (with_spare n old) (record { frames = s.frames; firsts = l; total = s.total })) (sym h) (spared old n s paged).paged))

pub found_change : {A : Type 0} (old : List (Held A)) (s : Paged) (firsts : List ℕ) (at end added : ℕ) (part : Part) → IsPaged A old s → firsts ≡ s.firsts → ((w : IsDirectory firsts s.total) → IsChange w.sizes at end added part)
    → IsChange (sizes_of old s.frames) at end added part
found_change old s firsts at end added part paged e f = f (directory_as old s firsts paged e)

pub early_part : {A : Type 0} (old : List (Held A)) (s : Paged) (frames : List ℕ) (at end added : ℕ) (part : Part) → frames ≡ s.frames → IsChange (sizes_of old s.frames) at end added part → IsPart (sizes_of old frames) at end added part
early_part old s frames at end added part e c = subst (λ l. IsPart (sizes_of old l) at end added part) (sym e) c.is

pub late_change : {A : Type 0} (old late : List (Held A)) (n : ℕ) (s : Paged) (frames : List ℕ) (at end added : ℕ) (part : Part) → IsPaged A old s → late ≡ with_spare n old → frames ≡ s.frames → IsChange (sizes_of old s.frames) at end added part
    → IsChange (sizes_of late frames) at end added part
late_change old late n s frames at end added part paged e f c = subst (λ l. IsChange l at end added part) (sym (same_sizes_late old late n s frames paged e f)) c

pub late_middle : {A : Type 0} (old late : List (Held A)) (n : ℕ) (s : Paged) (frames early : List ℕ) (at end : ℕ) (part : Part) (items middle slice : List A) → IsPaged A old s → late ≡ with_spare n old → frames ≡ s.frames → early ≡ s.frames
    → middle ≡ gathered (items_of old early) (amount (take part.from (sizes_of old early))) at items end (amount (take part.to (sizes_of old early))) → slice ≡ middle
    → slice ≡ gathered (items_of late frames) (amount (take part.from (sizes_of late frames))) at items end (amount (take part.to (sizes_of late frames)))
late_middle {A} old late n s frames early at end part items middle slice paged e f h m k =
    let sizes = same_sizes_late old late n s frames paged e f in
    let all = same_items_late old late n s frames paged e f in
    k ∙ m ∙ ap (λ l. gathered (items_of old l) (amount (take part.from (sizes_of old l))) at items end (amount (take part.to (sizes_of old l)))) h
    ∙ ap₂ (λ l z. gathered l (amount (take part.from z)) at items end (amount (take part.to z))) (sym all) (sym sizes)

pub late_changed : {A : Type 0} (old late new : List (Held A)) (n : ℕ) (s t : Paged) (frames firsts : List ℕ) (at removed : ℕ) (items : List A) → IsPaged A old s → late ≡ with_spare n old → frames ≡ s.frames
    → IsChanged A late new (record { frames = frames; firsts = firsts; total = s.total }) t (spliced at removed items (items_of late frames)) → IsChanged A old new s t (spliced at removed items (paged_items old s))
late_changed {A} old late new n s t frames firsts at removed items paged e f c =
    let counts : (g : ℕ) → count_at late g ≡ count_at old g = λ g. ap (λ pool. count_at pool g) e ∙ ap (λ (h : Held A). h.count) (held_with_spare old n g) in
    let kept : (g : ℕ) → items_at late g ≡ items_at old g = λ g. ap (λ pool. items_at pool g) e ∙ ap (λ (h : Held A). h.items) (held_with_spare old n g) in
    record {
      paged = c.paged;
      items_are = c.items_are ∙ ap (spliced at removed items) (same_items_late old late n s frames paged e f);
      moved = record {
        counts = λ g. omega (arith, c.moved.counts g, counts g, ap (times g) f);
        kept = λ g lt. c.moved.kept g (omega (arith, lt, counts g, ap (times g) f)) ∙ kept g;
        empty = λ were. c.moved.empty (subst (λ (pool : List (Held A)). SparesAreEmpty pool) (sym e) (empty_spare old (n - spare_of old) were));
      };
    }
