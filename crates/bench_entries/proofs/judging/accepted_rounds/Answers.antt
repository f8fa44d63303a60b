-- The count of the rounds that are accepted, one more in each turn. Assumes nothing.
use Prim.Native.Nat.{ℕ, ◌+◌}
use mathlib.Core.Path.{refl, ap, ◌∙◌}
use native.Mathlib.Omega.{arith}
use Rattle.transcript.proofs.Counts.{count_start, count_step, as_count, one_more_at_most}
use Rattle.bench_entries.proofs.judging.accepted_rounds.Goals as goal

pub loop-r-init : goal.loop-r-init
loop-r-init c = (omega arith, count_start _ _ 0 refl)

pub loop-r-preserved : goal.loop-r-preserved
loop-r-preserved c =
    let loop = c.loop-r in
    let one_more = c.from-accepted.ensures ∙ as_count _ in (
      one_more_at_most _ _ _ _ one_more loop.invariant.0,
      count_step _ _ _ _ _ _ _ loop.invariant.1 refl c.accepts_round.ensures (ap (λ (k : ℕ). loop.accepted + k) one_more),
    )
