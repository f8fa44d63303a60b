-- The small key may be opened for every N and in both schemes, and sessions of every length exist. Assumes nothing.
use Prim.Native.Nat.{ℕ, ◌≤◌}
use mathlib.Core.Path.{◌≡◌, refl}
use mathlib.Core.List.{List}
use mathlib.Core.Logic.{◌⊎◌}
use Rattle.slices.specs.Slices.{tabulate}
use Rattle.refusal.specs.Refusal.{unless, ◌or_else◌}
use Rattle.field.specs.Ops.{is_field, modulus, remainders, ops}
use Rattle.field.specs.Vector.{vector, as_vector, sum, all_below}
use Rattle.system.specs.Polynomial.{pairs, polynomial}
use Rattle.system.specs.System.{width, triangle, quadratic, linear, F, are_sizes, is_size, system_length, system_refusal}
use Rattle.field.proofs.Elements.{all_below_at}
use Rattle.system.proofs.SystemLayout.{well_formed}
use Rattle.session_state.specs.declared.Verdict.TheVariants.{Accepted}
use Rattle.card_state.specs.Card as CardCalls
use Rattle.carrier_state.specs.Carrier as CarrierCalls
use Rattle.session.specs.Session.{Terms, Call, opened, after}
use Rattle.session.specs.Honest.{Honest}
use Rattle.session.specs.Played.{Openable}
use Rattle.session.proofs.PlayedSession.{some_session, plays_honest, played_accepted}
use Rattle.small_key.specs.SmallKey.{key, s, v}

abbrev pub small_terms : ℕ → ℕ → Terms
small_terms scheme rounds = record { system = key; scheme = scheme; rounds = rounds; key = v; secret = s }

not_refused : system_refusal key ≡ 0
unfolding system_refusal are_sizes is_size system_length unless ◌or_else◌ is_field width triangle all_below
not_refused = refl

key_of_secret : F key (as_vector s) ≡ as_vector v
unfolding F quadratic linear width triangle polynomial pairs sum vector tabulate ops remainders modulus is_field
key_of_secret = refl

pub small_key_opens : (scheme rounds : ℕ) → (scheme ≡ 3) ⊎ (scheme ≡ 5) → 1 ≤ rounds → rounds ≤ 255 → Openable (small_terms scheme rounds)
unfolding all_below
small_key_opens scheme rounds which some most =
    record {
      for_carrier =
          record {
            system_well_formed = well_formed key not_refused;
            scheme_value = which;
            some_rounds = some;
            most_rounds = most;
            key_length = refl;
            key_elements = all_below_at 7 v refl;
          };
      secret_length = refl;
      secret_elements = all_below_at 7 s refl;
      key_of_secret = key_of_secret;
    }

-- an honest list of calls that ends both sessions as document 01 says
pub record WholeSession (o : Terms) : Type 0 where
  pub calls : List Call
  pub honest : Honest o (opened o) calls
  pub accepted : (after (opened o) calls).carrier ≡ CarrierCalls.closed_carrier Accepted o.rounds
  pub closed : (after (opened o) calls).card ≡ CardCalls.closed_card

-- there is one for every N and both schemes
pub small_key_session : (scheme rounds : ℕ) → (scheme ≡ 3) ⊎ (scheme ≡ 5) → 1 ≤ rounds → rounds ≤ 255 → WholeSession (small_terms scheme rounds)
small_key_session scheme rounds which some most =
    let o = small_terms scheme rounds in
    let openable = small_key_opens scheme rounds which some most in
    let played = (some_session o openable).0 in
    let ends = played_accepted o openable _ played in
    record { calls = _; honest = plays_honest o (opened o) _ played; accepted = ends.0; closed = ends.1 }
