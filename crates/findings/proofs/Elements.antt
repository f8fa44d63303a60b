-- What an audited record holds: its key is that of the first, and the key, the first vector of each reply and α are elements. Assumes nothing.
use Prim.Native.Nat.{ℕ, ◌+◌, ◌≤◌, ◌<◌}
use mathlib.Core.Path.{◌≡◌, sym, ap, subst, ◌∙◌}
use mathlib.Core.List.{List}
use native.Mathlib.Nat.{zero-add}
use native.Mathlib.Omega.{arith}
use lib.ListN.{length, drop}
use lib.Seq.{get_or-take}
use Rattle.slices.specs.Slices.{◌!◌}
use Rattle.field.specs.Vector.{vector, slot_v}
use Rattle.field.proofs.Elements.{everywhere}
use Rattle.field.proofs.Modulus.{size_of}
use Rattle.field.proofs.Fields.{ring}
use Rattle.system.specs.System.{q_of, n_of, m_of, ops_of, system_refusal}
use Rattle.system.proofs.SystemLayout.{accepted}
use Rattle.protocol.specs.Rounds.{IsX, IsY, IsScalar}
use Rattle.protocol.proofs.SystemMap.{is_vector}
use Rattle.scheme.specs.declared.Scheme.{Scheme}
use Rattle.scheme.specs.declared.Scheme.TheVariants.{ThreePass, FivePass}
use Rattle.commitment.specs.declared.Domain.{Domain}
use Rattle.scheme.specs.Scheme.{turn_length, vectors_length, rhos_length, reply_length}
use Rattle.record_form.specs.declared.layout.Header.{Header}
use Rattle.record_form.specs.Record.{ValidExchange, layout_of, reply_of, reply_vectors, header_in, fields_in}
use Rattle.record.specs.Reader.{record_refusal}
use Rattle.record.proofs.RecordLayout.{not_refused, valid_fields}
use Rattle.transcript.specs.Transcript.{domain_in, key_vector, round_exchange, round_turn, round_reply}
use Rattle.openings.specs.Openings.{reply_vector}
use Rattle.findings.specs.Findings.{Auditable}

-- ---- of any record

vectors_room : (scheme : Scheme) (n m : ℕ) → n ≤ vectors_length scheme n m
unfolding vectors_length
vectors_room ThreePass n m = omega arith
vectors_room FivePass n m = omega arith

-- an element of the reply's first vector is one of its elements
reply_at : (h : Header) (exchange : List ℕ) (i : ℕ) → i < h.n → reply_of h exchange ! i ≡ reply_vectors h exchange ! i
unfolding reply_of reply_vectors reply_length
reply_at h exchange i below =
    let room = vectors_room h.scheme h.n h.m in
    let behind = drop (turn_length h.scheme h.n h.m + 1) exchange in
    get_or-take (vectors_length h.scheme h.n h.m + rhos_length h.scheme) behind i 0 (omega (arith, room, below)) ∙
    sym (get_or-take (vectors_length h.scheme h.n h.m) behind i 0 (omega (arith, room, below)))

valid_exchange : (b : List ℕ) → record_refusal b ≡ 0 → (r : ℕ) → r < (header_in b).rounds → ValidExchange (header_in b) (round_exchange b r)
unfolding round_exchange fields_in layout_of
valid_exchange b good r h = (valid_fields b good).each_exchange r h

-- ---- of an audited record

-- the domain of a scheme
abbrev pub domain_for : Scheme → Domain
domain_for scheme = record { scheme = scheme }

module _ (scheme : Scheme) (system a b : List ℕ) where
  -- what stands before ρ is the same in their strings
  pub same_domain : Auditable scheme system a b → domain_in a ≡ domain_in b
  unfolding domain_in
  same_domain k = λ i. record { scheme = (k.same_header i).scheme }

  -- and it is that of the scheme which the audit is for
  pub own_domain : Auditable scheme system a b → domain_for scheme ≡ domain_in b
  unfolding domain_in
  own_domain k = λ i. record { scheme = sym k.for_scheme i }

  pub first_domain : Auditable scheme system a b → domain_for scheme ≡ domain_in a
  first_domain k = own_domain k ∙ sym (same_domain k)

  pub same_v : Auditable scheme system a b → key_vector b ≡ key_vector a
  unfolding key_vector
  same_v k = ap (λ (l : List ℕ). vector (length l) (λ i. l ! i)) (sym k.same_key)

  module _ (good : system_refusal system ≡ 0) (k : Auditable scheme system a b) where
    size_is : (ops_of system).size ≡ (header_in b).q
    size_is = size_of (q_of system) (accepted system good).q_is_field ∙ k.has_q

    positive : 0 < (header_in b).q
    positive = rw (sym size_is) (ring (q_of system)).zero_below

    pub v_is : IsY system (key_vector b)
    unfolding key_vector fields_in layout_of
    v_is =
        let valid = valid_fields b (not_refused b k.well_formed) in
        let long : length (fields_in b).key ≡ m_of system = valid.key_length ∙ sym k.has_m in
        rw long (is_vector (ops_of system) (ring (q_of system)) (m_of system) _ (λ i h. rw size_is (everywhere (header_in b).q (fields_in b).key positive valid.key_elements i)))

    pub x_is : (r : ℕ) → r < (header_in b).rounds → IsX system (reply_vector system b r)
    unfolding reply_vector slot_v
    x_is r h =
        let valid = valid_exchange b (not_refused b k.well_formed) r h in
        let vectors = reply_vectors (header_in b) (round_exchange b r) in
        let read : (i : ℕ) → i < n_of system → round_reply b r ! (0 + i) ≡ vectors ! i =
        λ i below. ap (λ (j : ℕ). round_reply b r ! j) (zero-add i) ∙ reply_at (header_in b) (round_exchange b r) i (rw k.has_n at below)
        in
        is_vector (ops_of system) (ring (q_of system)) (n_of system) _ (λ i below.
        subst (λ (x : ℕ). x < (ops_of system).size) (sym (read i below)) (rw size_is (everywhere (header_in b).q vectors positive valid.reply_elements i)))

    pub alpha_is : (r : ℕ) → r < (header_in b).rounds → IsScalar system (round_turn b r ! 0)
    alpha_is r h =
        let valid = valid_exchange b (not_refused b k.well_formed) r h in
        rw size_is (everywhere (header_in b).q (round_turn b r) positive valid.turn_elements 0)
