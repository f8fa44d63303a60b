-- Each piece behind the last, to the end. Assumes nothing.
use Prim.Native.Nat.{ℕ, ◌+◌}
use mathlib.Core.Path.{◌≡◌, refl, ap₂, ◌∙◌}
use mathlib.Core.List.{List, ◌++◌, ◌∷◌, []}
use native.Mathlib.Omega.{arith}
use lib.ListN.{length}
use Rattle.slices.proofs.Parts.{placed_next, placed_all}
use Rattle.record_form.specs.declared.layout.Header.{Header}
use Rattle.record_form.specs.Record.{head, written}
use Rattle.record_writer.proofs.Contents.put.Goals as goal

-- the header's bytes, the scheme's told
abbrev head_by : ℕ → Header → List ℕ
head_by byte h = 1 ∷ byte ∷ h.q ∷ h.n ∷ h.m ∷ h.rounds ∷ []

pub returns : goal.returns
unfolding written head
returns c =
    let self = c.args.self.now in
    let h = self.header in
    let byte = c.from in
    let contents = c.table in
    let one = c.put in
    let two = c.put-2 in
    let three = c.put-3 in
    let four = c.put-4 in
    let five = c.put-5 in
    let whole = c.requires in
    let head-long : length (head_by byte.result h) ≡ 6 = refl in
    let contents-long = contents.ensures.1 in
    let one_kept = one.auto.out in
    let two-kept = two.auto.out in
    let three-kept = three.auto.out in
    let four-kept = four.auto.out in
    let five-kept = five.auto.out in
    let key = length self.key.now in
    let commitments = length self.commitments.now in
    let exchanges = length self.exchanges.now in
    let first = placed_next [] (head_by byte.result h) c.args.out.now one.new.out 0 6 refl (omega arith) (omega arith) one.ensures in
    let second = placed_next _ contents.result one.new.out two.new.out 6 30 first (omega arith) (omega arith) two.ensures in
    let third = placed_next _ self.key.now two.new.out three.new.out 30 (30 + key) second (omega arith) (omega arith) three.ensures in
    let fourth = placed_next _ self.commitments.now three.new.out four.new.out (30 + key) (30 + key + commitments) third (omega arith) (omega arith) four.ensures in
    let fifth = placed_next _ self.exchanges.now four.new.out five.new.out (30 + key + commitments) (30 + key + commitments + exchanges) fourth (omega arith) (omega arith) five.ensures in
    placed_all _ five.new.out (30 + key + commitments + exchanges) fifth (omega arith) ∙
    ap₂ (λ (x : ℕ) (t : List ℕ). head_by x h ++ t ++ self.key.now ++ self.commitments.now ++ self.exchanges.now) byte.ensures contents.ensures.0
