-- The output has room, and the first m elements of G are copied out. Assumes nothing.
use mathlib.Core.Path.{◌≡◌, sym, ap₂, ◌∙◌}
use native.Mathlib.Omega.{arith}
use lib.ListN.{length}
use lib.Seq.{length-take-le}
use borrow.Author.Rules.{rules}
use Rattle.refusal.proofs.Refusals.{equal_holds}
use Rattle.system.specs.System.{G}
use Rattle.system.proofs.SystemLayout.{accepted}
use Rattle.evaluation.proofs.Entries.{G_taken, written}
use Rattle.evaluation.proofs.polar.Goals as goal

pub slice_bounds-z-end : goal.slice_bounds-z-end
slice_bounds-z-end c =
    let long : length c.g-z.result ≡ 96 = search rules in
    let k = accepted _ c.in_ok-system.system.well_formed in
    omega (arith, equal_holds _ _ 2 tt (sym c.in_ok-require-3.ensures))

pub slice_bounds-copy_from_slice-end : goal.slice_bounds-copy_from_slice-end
slice_bounds-copy_from_slice-end c =
    let long : length c.g-z.result ≡ 96 = search rules in
    let k = accepted _ c.in_ok-system.system.well_formed in
    sym (length-take-le _ _ (omega (arith, equal_holds _ _ 2 tt (sym c.in_ok-require-3.ensures))))

pub copy_from_slice-requires : goal.copy_from_slice-requires
copy_from_slice-requires c =
    let long : length c.g-z.result ≡ 96 = search rules in
    let k = accepted _ c.in_ok-system.system.well_formed in
    sym (length-take-le _ _ (omega (arith, equal_holds _ _ 2 tt (sym c.in_ok-require-3.ensures))))

pub returns-clause-output : goal.returns-clause-output
returns-clause-output c =
    let x = c.args.x.now in
    let y = c.args.y.now in
    let held = c.in_ok-system.system in
    written (λ b. G b x y) _ _ _ c.args.out.now _ c.in_ok-system.ensures.bytes
    (equal_holds _ _ 2 tt (sym c.in_ok-require-3.ensures) ∙ c.from.ensures ∙ c.m.ensures)
    (c.g-z.ensures ∙ ap₂ (G _) c.from_slice.ensures c.from_slice-2.ensures ∙
    G_taken held.bytes.now x held.well_formed (equal_holds _ _ 2 tt (sym c.in_ok-require.ensures) ∙ c.from-n.ensures ∙ c.n.ensures) y
    (equal_holds _ _ 2 tt (sym c.in_ok-require-2.ensures) ∙ c.from-n.ensures ∙ c.n.ensures))
    c.copy_from_slice.ensures.after
