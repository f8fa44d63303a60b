-- Lists joined end to end. Assumes nothing.
use mathlib.Core.List.{List, append-nil, append_assoc}

pub ruleset joined = (append-nil, append_assoc)
