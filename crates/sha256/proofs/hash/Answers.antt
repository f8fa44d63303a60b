-- `hash` meets its contract. The loop's invariant: the front of the array holds the bytes of the first i words of the hash value.
use mathlib.Core.Path.{◌≡◌, refl, sym, ap, ◌∙◌}
use Prim.Native.Nat.{◌+◌, ◌-◌, ◌*◌}
use native.Mathlib.Omega.{arith}
use lib.ListN.{length}
use lib.Seq.{take_all}
use borrow.Rule.Slice.PartMut.{same_len_mid}
use Rattle.sha256.specs.Sha256.{joined, hash_words, sha256}
use Rattle.sha256.proofs.NumberBytes.{be_bytes_4}
use Rattle.sha256.proofs.DigestBytes.{joined_more}
use Rattle.sha256.proofs.hash.Goals as goal

pub loop-i-init : goal.loop-i-init
unfolding joined
loop-i-init c =
    (refl, refl)

pub loop-i-preserved : goal.loop-i-preserved
unfolding hash_words
loop-i-preserved c =
    let l = c.loop-i in
    let i = l.i in
    let w = c.words-w.result in
    let part = c.copy_from_slice.new.self in (
      same_len_mid (4 * i) (4 * i + 4 - 4 * i) l.out part c.copy_from_slice.auto.self ∙ l.invariant.0,
      joined_more w l.out part i (4 * i + 4 - 4 * i) (omega (arith, ap length c.words-w.ensures)) (omega arith) l.invariant.1
          (c.copy_from_slice.ensures.after ∙ c.to_be_bytes.ensures ∙ be_bytes_4 _),
    )

pub returns : goal.returns
unfolding sha256 hash_words
returns c =
    let w = c.words-w.result in
    let out = c.loop-i.out in
    let at_end : c.loop-i.i ≡ 8 = omega arith in
    sym (take_all 32 out (omega arith)) ∙ (rw at_end at c.loop-i.invariant.1) ∙ ap joined (take_all 8 w (omega (arith, ap length c.words-w.ensures)))
    ∙ ap joined (c.words-w.ensures ∙ ap hash_words c.last_value.ensures)
