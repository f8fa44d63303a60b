-- The loop's invariant: what is held has the last bit of the sum of the products so far. Assumes nothing.
use Prim.Native.Nat.{ℕ, ◌%◌}
use mathlib.Core.Path.{◌≡◌, sym, ap, ◌∙◌}
use native.Mathlib.Omega.{arith}
use lib.ListN.{length, length-append}
use Rattle.std.proofs.Common.{rules}
use Rattle.std.proofs.lemmas.Slice.Zip.{zip_turn, zip_end}
use Rattle.field.specs.Row.{products}
use Rattle.field.proofs.Rows.{products_start}
use Rattle.rows.proofs.Parity.{parity_step}
use Rattle.rows.proofs.products.parity.Goals as goal

pub loop-x-init : goal.loop-x-init
loop-x-init c =
    ap (λ (k : ℕ). k % 2) (products_start _ _)

pub loop-x-preserved : goal.loop-x-preserved
loop-x-preserved c =
    let l = c.loop-x in
    let turn = zip_turn c.args.a.now c.args.b.now l.yielded c.into_iter-x-iterator.result l.x-iterator c.next.new.self c.next.result (search rules) (search rules) l.yielded_by (c.in-Some.x, c.in-Some.y) c.in-Some.is c.next.ensures.steps in
    parity_step _ _ (length l.yielded) _ _ _ l.invariant (turn.2 0) (turn.3 0) ∙ ap (λ (k : ℕ). products c.args.a.now c.args.b.now k % 2) (sym (length-append l.yielded _))

pub returns : goal.returns
returns c =
    let l = c.loop-x in
    let all = zip_end c.args.a.now c.args.b.now l.yielded c.into_iter-x-iterator.result l.x-iterator c.next.new.self c.next.result (search rules) (search rules) l.yielded_by c.in-None.is c.next.ensures.steps in
    let whole : length l.yielded ≡ length c.args.a.now = omega arith in
    l.invariant ∙ ap (λ (k : ℕ). products c.args.a.now c.args.b.now k % 2) whole
