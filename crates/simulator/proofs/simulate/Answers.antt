-- What is not refused has room for both outputs. Assumes nothing.
use mathlib.Core.Path.{sym}
use Rattle.system.proofs.SystemLayout.{accepted}
use Rattle.simulator.proofs.NotRefused.{taken}
use Rattle.simulator.proofs.simulate.Goals as goal

pub write_three_commitments-requires : goal.write_three_commitments-requires
write_three_commitments-requires c =
    (taken _ _ _ _ _ _ _ (sym c.in_ok-check_call.ensures)).commitments_room

pub write_reply_three-requires : goal.write_reply_three-requires
write_reply_three-requires c =
    let k = taken _ _ _ _ _ _ _ (sym c.in_ok-check_call.ensures) in
    let good = accepted _ k.good in
    let n = c.n-n.ensures in
    let m = c.m-m.ensures in
    (rw n good.n_high, rw m good.m_high, simp (n, m) k.reply_room)
