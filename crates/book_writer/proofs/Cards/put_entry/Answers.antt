-- The label, and the offset behind it. Assumes nothing.
-- the label that is lent has ten bytes
use Prim.Native.Nat.{ℕ, ◌+◌, ◌*◌, ◌<◌}
use mathlib.Core.Path.{◌≡◌, ap, ap₂, ◌∙◌}
use mathlib.Core.List.{List, ◌++◌}
use native.Mathlib.Omega.{arith}
use lib.ListN.{length}
use Rattle.slices.specs.Slices.{placed, word}
use Rattle.slices.proofs.Joined.{piece_long}
use Rattle.slices.proofs.Parts.{placed-append}
use Rattle.book_form.specs.declared.layout.Front.{Front}
use Rattle.book_form.specs.Book.{offset_of, label_of, entry}
use Rattle.book_form.specs.Labels.{label_at}
use Rattle.book_writer.proofs.Cards.put_entry.Goals as goal

ten : (labels l : List ℕ) (count i : ℕ) → length labels ≡ count * 10 → i < count → l ≡ label_at 10 labels i → length l ≡ 10
unfolding label_at
ten labels l count i long below is = ap length is ∙ piece_long 10 count labels i long below

-- what was put is the entry

entry-put : (out labels s t : List ℕ) (h : Front) (i place k : ℕ) → place ≡ 7 + i * 14 → s ≡ label_at 10 labels i → t ≡ word k → k ≡ offset_of h i →
    placed out place (s ++ t) ≡ placed out (7 + i * 14) (entry h labels i)
unfolding entry label_of label_at
entry-put out labels s t h i place k here label offset is = ap₂ (λ (p : ℕ) (e : List ℕ). placed out p e) here (ap₂ (λ (a b : List ℕ). a ++ b) label (offset ∙ ap word is))

pub put-requires : goal.put-requires
put-requires c =
    let long = ten _ _ _ _ c.args.self.now.labels_length c.requires.0 c.at.ensures in
    omega arith

pub returns : goal.returns
returns c =
    let long = ten _ _ _ _ c.args.self.now.labels_length c.requires.0 c.at.ensures in
    placed-append _ _ _ _ _ _ _ (omega (arith, c.of_cards-at.ensures.0)) (omega arith) c.put.ensures c.put-2.ensures ∙
    entry-put _ _ _ _ c.args.self.now.front c.args.i _ _ (omega (arith, c.of_cards-at.ensures.0)) c.at.ensures c.word-offset.ensures.0 c.offset_of.ensures.0
