-- The checks of a record's form that reader and writer share.
use Rattle.std.specs.Prelude.{ℕ, Bool, ◌&&◌, List, ltb}
use Rattle.refusal.specs.Refusal.{unless, ◌or_else◌, first_of}
use Rattle.field.specs.Vector.{all_below}
use Rattle.system.specs.System.{are_sizes}
use Rattle.scheme.specs.Scheme.{is_rounds, challenges}
use Rattle.record_form.specs.declared.layout.Header.{Header}
use Rattle.record_form.specs.declared.form.Check.{Check}
use Rattle.record_form.specs.declared.form.Check.TheVariants.{FileOrder, Elements, Challenges}
use Rattle.record_form.specs.Record.{exchange_of, turn_of, challenge_of, reply_vectors}

-- 1: "q, n, m, N or scheme outside its values": q, n, m and N here; the scheme is tested on its byte (`is_scheme`), where it is read or given
unfoldable pub are_values : Header → Bool
are_values h = are_sizes h.q h.n h.m && is_rounds h.rounds

-- "then 3 or 4, the first bad byte in file order", or one of the two alone
unfoldable pub exchange_refusal : Check → Header → List ℕ → ℕ
exchange_refusal FileOrder h x =
    unless (all_below h.q (turn_of h x)) 3 or_else
    unless (ltb (challenge_of h x) (challenges h.scheme)) 4 or_else
    unless (all_below h.q (reply_vectors h x)) 3
exchange_refusal Elements h x = unless (all_below h.q (turn_of h x)) 3 or_else unless (all_below h.q (reply_vectors h x)) 3
exchange_refusal Challenges h x = unless (ltb (challenge_of h x) (challenges h.scheme)) 4

-- of all rounds
unfoldable pub exchanges_refusal : Check → Header → List ℕ → ℕ
exchanges_refusal check h exchanges = first_of h.rounds (λ r. exchange_refusal check h (exchange_of h exchanges r))
