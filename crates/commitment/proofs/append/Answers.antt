-- At most 96 bytes are put behind the string. Assumes nothing.
use Prim.Native.Nat.{ℕ, min}
use mathlib.Core.Path.{◌≡◌, sym, ap, ◌∙◌}
use mathlib.Core.List.{List, ◌++◌}
use native.Mathlib.Omega.{arith}
use lib.ListN.{length, take, length-append}
use lib.Seq.{length-take-le}
use Rattle.commitment.specs.Texts.{zero_beyond}
use Rattle.commitment.proofs.Texts.{text_put, same_text, text_bytes_lem, text_len, take-vector}
use borrow.Author.Rules.{rules}
use Rattle.commitment.proofs.append.Goals as goal

-- the part that is put, of k of the 96 elements
module _ (k n : ℕ) (v : List ℕ) (long : length v ≡ 96) (e : k ≡ min n 96) where
  part_length : length (take k v) ≡ k
  part_length = length-take-le _ _ (omega arith)

  -- as many elements as are asked for, of the 96 that there are
  part_is : take k v ≡ take n v
  part_is = rw e (take-vector n v long)

  part_size : length (take n v) ≡ k
  part_size = sym (ap length part_is) ∙ part_length

pub put-requires : goal.put-requires
put-requires c =
    let long : length c.args.v ≡ 96 = search rules in
    let k = c.clamped-count.result in
    let few : k ≡ min c.args.n 96 = c.clamped-count.ensures ∙ ap (λ (m : ℕ). min m 96) c.from.ensures in
    rw (part_length k c.args.n c.args.v long few) (omega (arith, part_size k c.args.n c.args.v long few))

pub returns : goal.returns
returns c =
    let v = c.args.v in
    let n = c.args.n in
    let k = c.clamped-count.result in
    let long : length v ≡ 96 = search rules in
    let few : k ≡ min n 96 = c.clamped-count.ensures ∙ ap (λ (m : ℕ). min m 96) c.from.ensures in
    let part = part_length k n v long few in
    let is = part_is k n v long few in
    let size = part_size k n v long few in
    record {
      holds = λ l room h.
          let e = h.is in
          record {
            is =
                same_text _ (l ++ take n v) _
                (text_put l (take k v) c.args.t.bytes _ c.args.t.len (text_bytes_lem _ l e) (sym (text_len _ l e)) (rw part (omega (arith, size))) c.put.ensures ∙ ap (λ (s : List ℕ). zero_beyond (l ++ s)) is)
                (simp (length-append, ← is, part, ← text_len _ l e));
            fits = omega (arith, h.fits, size);
          };
    }
