-- What is refused stays, else the record is written. Assumes nothing.
use Prim.Native.Nat.{ℕ, ◌+◌}
use mathlib.Core.Path.{◌≡◌, sym, ◌∙◌}
use native.Mathlib.Omega.{arith}
use lib.ListN.{length}
use Rattle.record_form.specs.Record.{Fields, record_length}
use Rattle.record_writer.specs.Writer.{write_refusal}
use Rattle.record_writer.proofs.RoundTrip.{taken}
use Rattle.record_writer.proofs.write.Goals as goal

-- an output that is not refused has room for all
room : (scheme : ℕ) (f : Fields) (out : ℕ) → write_refusal scheme f out ≡ 0 → out ≡ 30 + length f.key + length f.commitments + length f.exchanges
unfolding record_length
room scheme f out none =
    let t = taken scheme f out none in
    let v = t.valid in
    t.exact ∙ omega (arith, v.key_length, v.commitments_length_is, v.exchanges_length)

pub put-requires : goal.put-requires
put-requires c =
    let fits = room _ _ _ (sym c.in_ok-check.ensures) in
    omega arith
