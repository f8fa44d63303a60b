-- Each piece behind the last, to the end. Assumes nothing.
-- the first key stands behind the table
use Prim.Native.Nat.{ℕ, ◌+◌, ◌*◌, ◌≤◌}
use mathlib.Core.Path.{◌≡◌, refl, ap, ◌∙◌}
use mathlib.Core.List.{List, ◌++◌, ◌∷◌, []}
use native.Mathlib.Omega.{arith}
use native.Mathlib.Nat.{zero-mul}
use lib.ListN.{length, take}
use Rattle.slices.specs.Slices.{joined, word, placed}
use Rattle.slices.proofs.Words.{length-word}
use Rattle.slices.proofs.Parts.{placed_next, placed_all, length-placed}
use Rattle.book_form.specs.declared.layout.Front.{Front}
use Rattle.book_form.specs.Book.{front_bytes, offset_of, book_length, entry, written}
use Rattle.book_writer.specs.Writer.{fields_of}
use Rattle.book_writer.proofs.Cards.put.Goals as goal

first_offset : (h : Front) → offset_of h 0 ≡ 7 + h.count * 14
unfolding offset_of
first_offset h = let none = zero-mul h.m in omega (arith, none)

-- the pieces in order: the count, q, n and m, the table, the keys

assembled : (h : Front) (labels keys count out one two three four : List ℕ) (place : ℕ) → length out ≡ 7 + h.count * 14 + length keys → count ≡ word h.count → length count ≡ 4 →
    one ≡ placed out 0 count → two ≡ placed one 4 (h.q ∷ h.n ∷ h.m ∷ []) → take (7 + h.count * 14) three ≡ take 7 two ++ joined h.count (entry h labels) →
    length three ≡ length two → place ≡ 7 + h.count * 14 → four ≡ placed three place keys → four ≡ written (fields_of h labels keys)
unfolding written front_bytes
assembled h labels keys count out one two three four place long is-count four_bytes e1 e2 table kept is-place e4 =
    let sizes = h.q ∷ h.n ∷ h.m ∷ [] in
    let one-long = ap length e1 ∙ length-placed out count 0 (omega (arith, long, four_bytes)) in
    let two-long = ap length e2 ∙ length-placed one sizes 4 (omega (arith, long, one-long)) in
    let first = placed_next [] count out one 0 4 refl (omega (arith, long, four_bytes)) (omega (arith, four_bytes)) e1 in
    let second = placed_next count sizes one two 4 7 first (omega (arith, long, one-long)) (omega arith) e2 in
    let room : place + length keys ≤ length three = omega (arith, is-place, long, one-long, two-long, kept) in
    let four-long = ap length e4 ∙ length-placed three keys place room in
    let third = placed_next _ keys three four place (place + length keys) (ap (λ (k : ℕ). take k three) is-place ∙ table) room refl e4 in
    placed_all _ four (place + length keys) third (omega (arith, is-place, long, one-long, two-long, kept, four-long)) ∙
    ap (λ (s : List ℕ). s ++ joined h.count (entry h labels) ++ keys) (second ∙ ap (λ (s : List ℕ). s ++ sizes) is-count)

pub put-requires : goal.put-requires
unfolding book_length offset_of word
put-requires c = let long = ap length c.to_le_bytes-count.ensures ∙ length-word c.args.self.now.front.count in omega (arith, long)

pub put-requires-2 : goal.put-requires-2
unfolding book_length offset_of
put-requires-2 c = omega arith

pub put_table-requires : goal.put_table-requires
unfolding book_length offset_of
put_table-requires c = omega arith

pub put-requires-3 : goal.put-requires-3
unfolding book_length offset_of
put-requires-3 c = omega arith

pub returns : goal.returns
unfolding book_length offset_of word
returns c =
    let count = c.to_le_bytes-count in
    let one = c.put in
    let two = c.put-2 in
    let three = c.put_table in
    let four = c.put-3 in
    let place = c.offset_of.ensures.0 in
    let keys_long = c.args.self.now.keys_length in
    let out-long = c.requires in
    assembled c.args.self.now.front c.args.self.now.labels.now c.args.self.now.keys.now count.result c.args.out.now one.new.out two.new.out three.new.out four.new.out _
    (omega (arith, keys_long, out-long)) count.ensures (ap length count.ensures ∙ length-word c.args.self.now.front.count) one.ensures two.ensures three.ensures.0 three.ensures.1 (place ∙ first_offset c.args.self.now.front) four.ensures
