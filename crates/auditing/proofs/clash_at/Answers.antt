-- The callees' answers, put together. Assumes nothing.
use Rattle.auditing.specs.Audit.{clash_at}
use Rattle.auditing.proofs.Answering.{answers_clash}
use Rattle.auditing.proofs.clash_at.Goals as goal

pub returns : goal.returns
unfolding clash_at
returns c =
    let k = c.opened_pair.ensures in answers_clash _ _ _ _ _ _ c.clashed.ensures k.left_text k.right_text
