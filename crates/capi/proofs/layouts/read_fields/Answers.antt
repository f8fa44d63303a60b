-- An output that is not refused has the layout's length. Assumes nothing.
use mathlib.Core.Path.{sym}
use Rattle.refusal.proofs.Refusals.{equal_holds}
use Rattle.capi.proofs.layouts.read_fields.Goals as goal

pub write_fields-requires : goal.write_fields-requires
write_fields-requires c =
    equal_holds _ 30 2 tt (sym c.in_ok-require.ensures)
