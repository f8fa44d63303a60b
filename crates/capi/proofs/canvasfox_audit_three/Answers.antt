-- Another length is refused, else the audit's answer is laid out. Assumes nothing.
use mathlib.Core.Path.{sym}
use Rattle.refusal.proofs.Refusals.{kept_refused}
use Rattle.scheme.specs.declared.Scheme.TheVariants.{ThreePass}
use Rattle.auditing.specs.Audit.{audit_three}
use Rattle.capi.proofs.OutputLength.{other_length, refused_length, own_answer}
use Rattle.capi.proofs.canvasfox_audit_three.Goals as goal

pub returns-then-finding-ne752 : goal.returns-then-finding-ne752
unfolding audit_three
returns-then-finding-ne752 c =
    (other_length _ _ _ _ c.length_refusal.ensures c.if-finding-ne752.true, sym (kept_refused _ _ _ (refused_length _ _ c.length_refusal.ensures)))

pub returns : goal.returns
unfolding audit_three
returns c =
    let said = c.answer.ensures in
    own_answer ThreePass _ _ _ _ _ _ _ _ _ _ c.audit_three.ensures.is c.if-finding-ne752.false said.0 said.1
